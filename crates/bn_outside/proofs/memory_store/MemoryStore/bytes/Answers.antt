use Rattle.std.proofs.Common.{ap, sym, ◌∙◌, Some}
use Rattle.std.specs.Prelude.{option_map}
use Rattle.bn_outside.specs.InMemory.{files_in}
use Rattle.bn_outside.proofs.Entries.{entries_found}
use Rattle.bn_outside.proofs.memory_store.MemoryStore.bytes.Goals as goal

pub returns-in-Some : goal.returns-in-Some
returns-in-Some c =
    ap (λ s. files_in s.entries c.args.name.now) (sym c.self.view_is)
    ∙ (entries_found c.args.name.now c.self.inside.files.entries
    ∙ (ap (option_map (λ v. v.items)) (sym c.in-Some.ensures.value) ∙ ap Some (sym c.as_slice.ensures.value)))

pub returns-in-None : goal.returns-in-None
returns-in-None c =
    ap (λ s. files_in s.entries c.args.name.now) (sym c.self.view_is)
    ∙ (entries_found c.args.name.now c.self.inside.files.entries ∙ ap (option_map (λ v. v.items)) (sym c.in-None.ensures.value))
