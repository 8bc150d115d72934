-- Words that have one answer tell it.
use Rattle.bugnet.proofs.Common.{◌⊎◌, ℕ, Bool, Option, Some, None, subst, inl, inr, Files, Schedule, Line, RecordLine, DebugLine, Told, Call, SomeTold, Tells, WithFiles, names_by, IsAnswer, StoppedEarly, AreAlike, AreOfOneList, OneAnswer, EachHasAnAnswer}
use Rattle.bugnet.specs.Determined.{AnswersAreDetermined, AreDetermined, HasTurns}

of-one : (seed : Option ℕ) (o : Option Schedule) (lean : Bool) (a b : Told) → HasTurns seed o → AreOfOneList seed o lean a b
of-one (Some seed) o lean a b has = tt
of-one None (Some schedule) lean a b has = tt
of-one None None lean a b has = absurd has

alike : (o : Option Schedule) (line : Option Line) (a b : Told) → AreDetermined o line → AreAlike o line a b
alike o (Some (RecordLine r)) a b is = of-one r.seed o r.lean a b is
alike o (Some (DebugLine log elf)) a b is = absurd is
alike o line a b is = tt

pub determined : OneAnswer → EachHasAnAnswer → AnswersAreDetermined
determined one some o line files bytes is =
    let answer = some o line files bytes in
    record {
      what = answer.0;
      is = answer.1;
      told = λ status k there h.
          by answer.0 answer.1 status k (subst (λ (known : Option Files). WithFiles known (λ files. SomeTold (IsAnswer o line files) (λ what. Tells (names_by line) what status k) ⊎ StoppedEarly o line files status k)) there h);
    }
  where
    by : (what : Told) → IsAnswer o line files what → (status : ℕ) (k : Call) → SomeTold (IsAnswer o line files) (λ what. Tells (names_by line) what status k) ⊎ StoppedEarly o line files status k
        → Tells (names_by line) what status k ⊎ StoppedEarly o line files status k
    by what own status k (inl a) = inl (subst (λ (t : Told). Tells (names_by line) t status k) (one o line files a.0 what a.1 own (alike o line a.0 what is)) a.2)
    by what own status k (inr early) = inr early
