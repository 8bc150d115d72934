use Rattle.whole_runs.proofs.Common.{[], ◌∙◌, refl, sym, ap, subst, arith, replicate, IsSetting, Run, Began, list_run, seeded_after, ◌≡◌, ℕ, zero, suc, ◌+◌, ◌-◌, ◌≤◌, ◌<◌, Bool, true, false, List, ◌∷◌, ◌++◌, Program, RawSettings, TurnRow, turn, run_from, legal_from, any_live, draw, seeded_from, most_turns, rows_from, RunsEnd, Seen, IsState, HasTurnedAlone, first_run, HasTaken, list_rows, is_legal}
use Rattle.whole_runs.proofs.Live.{over_of, none_alone, over_none, one_alone, live_of}
use Rattle.std.proofs.lemmas.List.{replicate-append-replicate, length-replicate}
use Rattle.run_laws.proofs.Converse.{lists_go_on}
use Rattle.run_laws.proofs.Turns.{legal_first}
use Rattle.whole_runs.proofs.Seeds.{seeded_first, seeded_none}
use Rattle.whole_runs.proofs.Taken.{turns_are}
use Rattle.whole_runs.proofs.turns.finish_lone.Goals as goal

-- The turns of a hart that is alone.
-- ---- a bus that took them

taken_list : (tells : Bool) (most : ℕ) (old new : Seen) (list : List ℕ) → HasTaken tells old list → (t : HasTurnedAlone tells most old new) → HasTaken tells new (list ++ replicate t.count 0)
taken_list tells most old new list h t =
    let b = old.began in
    let c = b.settings in let i = b.image in
    let run = list_run b list in
    let more : List ℕ = replicate t.count 0 in
    record {
      legal = subst (λ (x : Began). is_legal x (list ++ more) ≡ true) (sym t.began) (lists_go_on.legal c i (first_run b) list more h.legal (t.legal run h.state));
      state = subst (λ (r : Run). IsState new r) (sym (lists_go_on.run c i (first_run b) list more) ∙ ap (λ (x : Began). list_run x (list ++ more)) (sym t.began)) (t.state run h.state);
      rows = λ told.
          t.told told run h.state
          ∙ ap (λ (xs : List TurnRow). xs ++ rows_from c i run more) (h.rows told)
          ∙ sym (lists_go_on.rows c i (first_run b) list more)
          ∙ ap (λ (x : Began). list_rows x (list ++ more)) (sym t.began);
      orderly = t.disordered ∙ h.orderly;
      running = t.halted ∙ h.running;
    }

taken_none : (tells : Bool) (s : Seen) → HasTaken tells s [] → HasTaken tells s (replicate s.turns 0)
taken_none tells s h = subst (λ (xs : List ℕ). HasTaken tells s xs) (ap (λ (k : ℕ). replicate k 0) (sym (turns_are tells s [] h))) h

taken_alone : (tells : Bool) (most : ℕ) (old new : Seen) → HasTaken tells old (replicate old.turns 0) → HasTurnedAlone tells most old new → HasTaken tells new (replicate new.turns 0)
taken_alone tells most old new h t =
    subst (λ (xs : List ℕ). HasTaken tells new xs) (replicate-append-replicate old.turns t.count 0 ∙ ap (λ (k : ℕ). replicate k 0) (sym t.turns)) (taken_list tells most old new (replicate old.turns 0) h t)

-- fewer are left then
fewer_left : (tells : Bool) (most : ℕ) (old new : Seen) → HasTurnedAlone tells most old new → old.turns < most_turns old.began.settings → most_turns new.began.settings - new.turns < most_turns old.began.settings - old.turns
fewer_left tells most old new t few = less (most_turns old.began.settings) (most_turns new.began.settings) old.turns new.turns t.count (ap (λ (x : Began). most_turns x.settings) t.began) few t.some t.turns
  where
    less : (m n a b k : ℕ) → n ≡ m → a < m → 0 < k → b ≡ a + k → n - b < m - a
    less m n a b k e few some is = omega (arith, e, few, some, is)

-- ---- the turns that every number chooses

lone_seeded : (c : RawSettings) (i : Program) (run : Run) (s n m : ℕ) → c.harts ≡ 1 → n ≤ m → legal_from c i run (replicate n 0) ≡ true → any_live c.harts (run_from c i run (replicate n 0)).harts ≡ false → replicate n 0 ≡ seeded_from c i run s m
lone_seeded c i run s zero m alone few legal over = sym (seeded_none c i run s m over)
lone_seeded c i run s (suc n) zero alone few legal over = absurd (omega (arith, few))
lone_seeded c i run s (suc n) (suc m) alone few legal over =
    let first = legal_first c i run 0 (replicate n 0) legal in
    let one = one_alone c.harts (draw s) run.harts alone (live_of c run 0 first.0) in
    ap (λ (xs : List ℕ). 0 ∷ xs) (lone_seeded c i (turn c i run 0) (draw s) n m alone (omega (arith, few)) first.1 over)
    ∙ ap (λ (k : ℕ). k ∷ seeded_from c i (turn c i run k) (draw s) m) one.1
    ∙ sym (seeded_first c i run s m one.0)

-- once no hart is live, all turns were taken
lone_drawn : RunsEnd → (tells : Bool) (s : Seen) (seed : ℕ) → IsSetting s.began.settings → s.began.settings.harts ≡ 1 → HasTaken tells s (replicate s.turns 0) → any_live s.began.settings.harts (list_run s.began (replicate s.turns 0)).harts ≡ false
    → replicate s.turns 0 ≡ seeded_after s.began [] seed
lone_drawn ends tells s seed setting alone h over =
    let b = s.began in
    let few = ends b.settings b.image b.input (replicate s.turns 0) setting h.legal in
    let within : s.turns ≤ most_turns b.settings - 0 = omega (arith, few, length-replicate {A = ℕ} s.turns 0) in
    lone_seeded b.settings b.image (first_run b) seed s.turns (most_turns b.settings - 0) alone within h.legal over

pub taking-init : goal.taking-init
taking-init g c = record {
  began = refl;
  taken = taken_none g.B.Book.tells c.args.bus c.requires.start;
}

pub take_turns-requires-clause-alone : goal.take_turns-requires-clause-alone
take_turns-requires-clause-alone g c = ap (λ (x : Began). x.settings.harts) c.taking.invariant.began ∙ c.requires.alone

pub take_turns-requires-clause-code : goal.take_turns-requires-clause-code
take_turns-requires-clause-code g c = c.requires.code ∙ ap (λ (x : Began). x.image) (sym c.taking.invariant.began)

pub taking-smaller : goal.taking-smaller
taking-smaller g c = fewer_left g.B.Book.tells _ c.taking.now c.in_ok-now.now c.in_ok-now.ensures.turned (c.live.ensures.left (sym c.live.ensures.value ∙ c.taking-test.true))

pub taking-preserved : goal.taking-preserved
taking-preserved g c =
    let t = c.in_ok-now.ensures.turned in
    record {
      began = t.began ∙ c.taking.invariant.began;
      taken = taken_alone g.B.Book.tells _ c.taking.now c.in_ok-now.now c.taking.invariant.taken t;
    }

pub returns-clause-drawn : goal.returns-clause-drawn
returns-clause-drawn g c = λ seed.
    let now = c.taking.now in
    let h = c.taking.invariant.taken in
    let e = c.taking.invariant.began in
    let run : Run = list_run now.began (replicate now.turns 0) in
    let alone = ap (λ (x : Began). x.settings.harts) e ∙ c.requires.alone in
    let over = none_alone now.began.settings.harts run.harts alone (over_of now.began.settings run 0 (omega (arith, alone)) (sym (c.live.ensures.run run h.state) ∙ c.taking-test.false)) in
    let setting : IsSetting now.began.settings = subst (λ (x : Began). IsSetting x.settings) c.start.ensures c.raw-settings.ensures.in_range in
    lone_drawn c.runs_end.ensures g.B.Book.tells now seed setting alone h over ∙ ap (λ (x : Began). seeded_after x [] seed) e

pub returns-clause-finished : goal.returns-clause-finished
returns-clause-finished g c =
    let now = c.taking.now in
    let h = c.taking.invariant.taken in
    let run : Run = list_run now.began (replicate now.turns 0) in
    let alone = ap (λ (x : Began). x.settings.harts) c.taking.invariant.began ∙ c.requires.alone in
    over_none now.began.settings run (none_alone now.began.settings.harts run.harts alone (over_of now.began.settings run 0 (omega (arith, alone)) (sym (c.live.ensures.run run h.state) ∙ c.taking-test.false)))
