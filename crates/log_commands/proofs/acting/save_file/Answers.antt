use Rattle.log_commands.proofs.Common.{◌≡◌, ◌∙◌, ℕ, List, Some, ap, subst, refl, inl, inr, Result, OnOk, IfErr, NoneFell, counted, Stored, WhereTold, SameElsewhere, SaveCall, StopsSaving, SavesFile, Note, FileNames, name_of, Role, Refusal}
use Rattle.log_commands.proofs.acting.save_file.Goals as goal

-- what the store says of a save, by the file's role
saves : (names : FileNames) (r : Role) (file : List ℕ) (note : Note) (old new : Stored) (name : List ℕ) (result : Result (Unit {0}) Refusal) → name ≡ name_of names r
    → OnOk result (WhereTold old.files new.files (λ before after. after name ≡ Some file)) → WhereTold old.files new.files (SameElsewhere name) → new.saves ≡ counted old.saves
    → new.noted ≡ note old.noted (SaveCall name file) → NoneFell old.counts new.counts → IfErr result (StopsSaving r old new) → SavesFile names r file note old new result
saves names r file note old new name result is saved others asked called later stops = record {
  saved = subst (λ (n : List ℕ). OnOk result (WhereTold old.files new.files (λ before after. after n ≡ Some file))) is saved;
  others = subst (λ (n : List ℕ). WhereTold old.files new.files (SameElsewhere n)) is others;
  asked = asked;
  called = called ∙ ap (λ (n : List ℕ). note old.noted (SaveCall n file)) is;
  later = later;
  stops = stops;
}

pub returns-in-Ok : goal.returns-in-Ok
returns-in-Ok g c =
    saves c.args.names.now c.args.role c.args.file.now g.S.Store.note (g.S.Store.stored c.args.files.now) (g.S.Store.stored c.save.new.self) c.of.result.now _ c.of.ensures
    c.in-Ok.ensures.saved c.save.ensures.others c.save.ensures.asked c.save.ensures.called c.save.ensures.later tt

pub returns-in-Err-Failed : goal.returns-in-Err-Failed
returns-in-Err-Failed g c =
    saves c.args.names.now c.args.role c.args.file.now g.S.Store.note (g.S.Store.stored c.args.files.now) (g.S.Store.stored c.save.new.self) c.of.result.now _ c.of.ensures
    tt c.save.ensures.others c.save.ensures.asked c.save.ensures.called c.save.ensures.later (inr (refl, rw c.in-Err-Failed.field-0-is at c.in-Err-Failed.ensures.cause))

pub returns-in-Err-OutOfMemory : goal.returns-in-Err-OutOfMemory
returns-in-Err-OutOfMemory g c =
    saves c.args.names.now c.args.role c.args.file.now g.S.Store.note (g.S.Store.stored c.args.files.now) (g.S.Store.stored c.save.new.self) c.of.result.now _ c.of.ensures
    tt c.save.ensures.others c.save.ensures.asked c.save.ensures.called c.save.ensures.later (inl refl)
