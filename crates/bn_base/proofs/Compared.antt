-- Equality of parts and programs.
use Rattle.std.proofs.Common.{rules, ◌≡◌, List, refl}
use Rattle.std.specs.Bool.{Decides}
use Rattle.std.specs.Cmp.Lexicographic.{pointwise}
use Rattle.std.proofs.lemmas.Slice.Eq.{slice_eq-Decides, bytes_eq-Decides}
use Rattle.bn_base.specs.Programs.{Part}
use Rattle.bn_base.specs.Compared.{same_part}

part_decides : (a b : Part) → Decides (same_part a b) (a ≡ b)
part_decides a b = search (rules, bytes_eq-Decides)

pub parts_decide : (xs ys : List Part) → Decides (pointwise same_part xs ys) (xs ≡ ys)
parts_decide xs ys = slice_eq-Decides part_decides xs ys (pointwise same_part xs ys) refl
