-- Programs that are compared.
use Rattle.std.specs.Prelude.{◌==◌, Bool}
use Rattle.std.specs.Bool.{beq}
use Rattle.std.specs.Cmp.Lexicographic.{pointwise}
use Rattle.std.specs.Ordering.{eq_of_both, on}
use Rattle.bn_base.specs.Programs.{Part, Program}

-- whether two parts are the same
abbrev pub same_part : Part → Part → Bool
same_part = eq_of_both (eq_of_both (eq_of_both (eq_of_both (on (λ p. p.first) ◌==◌) (on (λ p. p.words) (pointwise ◌==◌))) (on (λ p. p.count) ◌==◌)) (on (λ p. p.executable) beq)) (on (λ p. p.writable) beq)

-- whether two programs are the same, field by field: this is exactly equality
abbrev pub same_program : Program → Program → Bool
same_program = eq_of_both (eq_of_both (eq_of_both (on (λ i. i.parts) (pointwise same_part)) (on (λ i. i.entry) ◌==◌)) (on (λ i. i.memory) ◌==◌)) (on (λ i. i.harts) ◌==◌)
