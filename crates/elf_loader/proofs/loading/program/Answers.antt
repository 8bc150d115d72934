use Rattle.elf_loader.proofs.Common.{◌≡◌, ◌∙◌, map, length, sym, subst, ap, List, All, Part, AreApart, IsLoadable, by_address, part_of}
use Rattle.elf_loader.proofs.Order.{AreSegments}
use Rattle.elf_loader.proofs.Laid.{AreSegments-segments, all_loadable, parts_apart}
use Rattle.elf_loader.proofs.Refused.{are_taken}
use Rattle.elf_loader.proofs.loading.program.Goals as goal

pub by_address-requires-clause-segments : goal.by_address-requires-clause-segments
by_address-requires-clause-segments c = subst AreSegments (sym c.requires.are) (AreSegments-segments c.args.bytes.now)

pub by_address-requires-clause-apart : goal.by_address-requires-clause-apart
by_address-requires-clause-apart c = let taken = are_taken _ _ _ c.requires.taken in taken.apart

pub parts-requires : goal.parts-requires
parts-requires c =
    let sorted : c.deref.result.now ≡ by_address c.args.headers.now = c.deref.ensures.value ∙ c.in_ok-headers.ensures in
    subst (All (IsLoadable (length c.args.bytes.now))) (sym sorted) (all_loadable _ _ _ c.requires.high (are_taken _ _ _ c.requires.taken))

pub new-requires : goal.new-requires
new-requires c =
    let sorted : c.deref.result.now ≡ by_address c.args.headers.now = c.deref.ensures.value ∙ c.in_ok-headers.ensures in
    let parts : c.in_ok-parts.parts.items ≡ map (part_of c.args.bytes.now) (by_address c.args.headers.now) = c.in_ok-parts.ensures ∙ ap (map (part_of c.args.bytes.now)) sorted in
    let are = subst AreSegments (sym c.requires.are) (AreSegments-segments c.args.bytes.now) in
    subst (λ (ps : List Part). AreApart 4096 c.args.settings.now.memory ps) (sym parts)
    (parts_apart c.args.bytes.now (length c.args.bytes.now) c.args.settings.now.memory c.args.headers.now c.requires.pages c.requires.low are (are_taken _ _ _ c.requires.taken))
