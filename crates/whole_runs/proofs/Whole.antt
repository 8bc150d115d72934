-- From a bus that took the turns of a list to what is handed over, or to what is wrong with the list.
use Rattle.whole_runs.proofs.Common.{◌≡◌, ℕ, suc, ◌+◌, ◌-◌, ◌<◌, Bool, true, false, not, ◌&&◌, List, [], ◌∷◌, ◌++◌, length, get_or, take, drop, length-take, drop-cons, refl, sym, ◌∙◌, ap, subst, arith, Some, slice_get, AllByRecursion, take-append-drop, is_live, has_finished, seeded, seeded_from, most_turns, TurnRow, Run, are_orderly, Began, Seen, IsState, IsLogged, first_run, run_after, marks, IsOfRows, HasTaken, list_run, is_legal, live_harts_of, seeded_after, error_of, IllegalTurn, NotFinished}
use Rattle.log_record.specs.Spelling.{Fits}
use Rattle.log_ring.specs.Kept.{HoldsLog}
use Rattle.run_laws.specs.Ends.{AreLastMarks}
use Rattle.bus_core.specs.declared.closed.Closed.{Closed}
use Rattle.whole_runs.proofs.Errors.{error_at, error_first}

-- ---- before the first turn

pub taken_none : (tells : Bool) (s : Seen) (b : Began) → s.began ≡ b → IsState s (first_run b) → s.rows ≡ [] → s.halted ≡ false → s.disordered ≡ false → HasTaken tells s []
taken_none tells s b e is rows halted disordered = record {
  legal = refl;
  state = subst (λ (x : Began). IsState s (first_run x)) (sym e) is;
  rows = λ t. rows;
  orderly = disordered;
  running = halted;
}

pub seeded_is : (b : Began) (seed : ℕ) → seeded_after b [] seed ≡ seeded b.settings b.image b.input seed
seeded_is b seed =
    let same : most_turns b.settings - 0 ≡ most_turns b.settings = omega arith in
    ap (λ (m : ℕ). seeded_from b.settings b.image (first_run b) seed m) same

-- ---- a list, up to a turn

pub split_at : (xs : List ℕ) (at : ℕ) → at < length xs → xs ≡ take at xs ++ get_or xs at 0 ∷ drop (suc at) xs
split_at xs at h = sym (take-append-drop at xs) ∙ ap (λ (ys : List ℕ). take at xs ++ ys) (drop-cons xs at 0 h)

pub illegal_is : (tells : Bool) (b : Began) (s : Seen) (list : List ℕ) (at : ℕ) → s.began ≡ b → HasTaken tells s (take at list) → at < length list → is_live s.began.settings (list_run s.began (take at list)) (get_or list at 0) ≡ false → error_of b list ≡ Some (IllegalTurn at (get_or list at 0))
illegal_is tells b s list at e h within over =
    let k = get_or list at 0 in
    let long : 0 + length (take at list) ≡ at = omega (arith, length-take at list, within) in
    let legal = subst (λ (x : Began). is_legal x (take at list) ≡ true) e h.legal in
    let dead = subst (λ (x : Began). is_live x.settings (list_run x (take at list)) k ≡ false) e over in
    ap (λ (xs : List ℕ). error_of b xs) (split_at list at within) ∙ error_at b.settings b.image (first_run b) 0 (take at list) k (drop (suc at) list) legal dead ∙ ap (λ (n : ℕ). Some (IllegalTurn n k)) long

pub unfinished_is : (tells : Bool) (b : Began) (s : Seen) (list : List ℕ) (k : ℕ) → s.began ≡ b → HasTaken tells s list → Some k ≡ slice_get (live_harts_of s.began (list_run s.began list)) 0 → error_of b list ≡ Some (NotFinished k)
unfinished_is tells b s list k e h is =
    let legal = subst (λ (x : Began). is_legal x list ≡ true) e h.legal in
    error_first b.settings b.image (first_run b) 0 list k legal (subst (λ (x : Began). Some k ≡ slice_get (live_harts_of x (list_run x list)) 0) e is)

-- ---- what is handed over

pub finished_is : (finished halted disordered over : Bool) → finished ≡ (not halted && not disordered && over) → halted ≡ false → disordered ≡ false → over ≡ true → finished ≡ true
finished_is finished false false over e h d o = e ∙ o
finished_is finished false true over e h d o = cc
finished_is finished true disordered over e h d o = cc

ended_of : (halted disordered over : Bool) → (not halted && not disordered && over) ≡ true → (halted ≡ false) × (disordered ≡ false) × (over ≡ true)
ended_of false false over e = (refl, refl, e)
ended_of false true over e = cc
ended_of true disordered over e = cc

pub running_of : (finished halted disordered over : Bool) → finished ≡ (not halted && not disordered && over) → finished ≡ true → halted ≡ false
running_of finished halted disordered over e whole = (ended_of halted disordered over (sym e ∙ whole)).0

-- ---- rows that led to what is handed over, with any book

orderly_if : (disordered orderly : Bool) → disordered ≡ not orderly → disordered ≡ false → orderly ≡ true
orderly_if disordered true e d = refl
orderly_if disordered false e d = cc

pub of_rows : {B : Type 0} (s : Seen) (closed : Closed B) (rows : List TurnRow) → IsLogged s closed.ring rows → closed.finished ≡ (not s.halted && not s.disordered && has_finished s.began.settings (run_after s.began s.halted rows)) → closed.finished ≡ true
    → closed.out.items ≡ (run_after s.began s.halted rows).machine.out → closed.err.items ≡ (run_after s.began s.halted rows).machine.err → closed.ends.items ≡ marks 0 s.began.settings.harts (run_after s.began s.halted rows).harts → closed.turns ≡ s.turns
    → AllByRecursion (Fits 2) closed.ring.records → AreLastMarks closed.ring.records closed.ends.items → IsOfRows s.began closed rows
of_rows {B} s closed rows l finished whole out err ends turns fit last =
    let b = s.began in
    let end = ended_of s.halted s.disordered (has_finished b.settings (run_after b s.halted rows)) (sym finished ∙ whole) in
    let same = ap (λ (x : Bool). run_after b x rows) end.0 in record {
      lawful = l.told.lawful;
      orderly = orderly_if s.disordered (are_orderly b.settings b.image (first_run b) rows) l.told.orderly end.1;
      over = subst (λ (r : Run). has_finished b.settings r ≡ true) same end.2;
      out = out ∙ ap (λ (r : Run). r.machine.out) same;
      err = err ∙ ap (λ (r : Run). r.machine.err) same;
      ends = ends ∙ ap (λ (r : Run). marks 0 b.settings.harts r.harts) same;
      turns = turns ∙ l.state.turns ∙ ap (λ (r : Run). r.turns) same;
      log = subst (λ (r : Run). HoldsLog closed.ring r.stream) same l.log;
      fit = fit;
      last_marks = last;
    }
