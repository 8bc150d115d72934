-- A guarded turn as two moves.
use Rattle.replay_laws.proofs.Common.{◌≡◌, ℕ, zero, suc, ◌+◌, ◌<◌, Bool, true, false, not, ◌==◌, refl, sym, ◌∙◌, ap, arith, Program, HartState, RawSettings, Step, Quiet, Asks, step, ask_of, is_cut, Ask, Want, Hart, call_of, Run, serve, served_if, serve_call, turn, ask_at, budget, is_guarded, is_orderly, begun_anew, guard_records, and_parts, not-true, eqb_same}
use Rattle.std.proofs.lemmas.Grind.{common_steps}
use Rattle.run_model.specs.Counts.{anew}
use Rattle.log_record.specs.Spelling.{total}
use Rattle.replay_laws.specs.Splits.{GuardedTurnsSplit}

-- a hart that asks, and not by a cut, asks the same again
asks_by : (x : Step) (i : Program) (n : ℕ) (s : HartState) → step i s ≡ x
    → ((t : HartState) → is_cut (ask_of i n t).want ≡ false → step i (ask_of i n t).state ≡ Asks (ask_of i n t).want)
    → let a : Ask = elim x as (λ y. Ask) [ Quiet t ↦ ask_of i n t | Asks w ↦ record { state = s; want = w } ] in is_cut a.want ≡ false → step i a.state ≡ Asks a.want
asks_by (Quiet t) i n s e more cut = more t cut
asks_by (Asks w) i n s e more cut = e

pub asks : (i : Program) (n : ℕ) (s : HartState) → is_cut (ask_of i n s).want ≡ false → step i (ask_of i n s).state ≡ Asks (ask_of i n s).want
asks i zero s cut = cc
asks i (suc n) s cut = asks_by (step i s) i n s refl (asks i n) cut

again : (i : Program) (n : ℕ) (s : HartState) (w : Want) → 0 < n → step i s ≡ Asks w → ask_of i n s ≡ record { state = s; want = w }
again i zero s w some e = absurd (omega (arith, some))
again i (suc n) s w some e = ap (λ (x : Step). elim x as (λ y. Ask) [ Quiet t ↦ ask_of i n t | Asks v ↦ record { state = s; want = v } ]) e

some_more : (c : RawSettings) (h : Hart) (s : HartState) (bytes : ℕ) → 0 < c.interval → s.ic < c.limit → 0 < budget c (anew s bytes h)
some_more c h s bytes some below = grind (arith, common_steps)

pub uncut : (c : RawSettings) (run : Run) (k : ℕ) (want : Want) → is_guarded c run k want ≡ true → is_cut want ≡ false
uncut c run k want e = not-true (is_cut want) (and_parts (not (is_cut want)) _ (and_parts (c.format == 2) _ e).1).0

pub begun_own : (run : Run) (k : ℕ) (s : HartState) → (begun_anew run k s).harts k ≡ anew s (run.bytes + total (guard_records run k s)) (run.harts k)
begun_own run k s = ap (λ (b : Bool). elim b as (λ x. Hart) [ true ↦ anew s (run.bytes + total (guard_records run k s)) (run.harts k) | false ↦ run.harts k ]) (eqb_same k)

asks_again : (c : RawSettings) (i : Program) (run : Run) (k : ℕ) → let ask = ask_at c i (run.harts k) in is_cut ask.want ≡ false → 0 < c.interval → ask.state.ic < c.limit
    → ask_at c i ((begun_anew run k ask.state).harts k) ≡ ask
asks_again c i run k cut some below =
    let h = run.harts k in
    let ask = ask_at c i h in
    let bytes = run.bytes + total (guard_records run k ask.state) in
    ap (ask_at c i) (begun_own run k ask.state)
    ∙ again i (budget c (anew ask.state bytes h)) ask.state ask.want (some_more c h ask.state bytes some below) (asks i (budget c h) h.state cut)

pub served : (g : Bool) (c : RawSettings) (i : Program) (run : Run) (k : ℕ) → is_orderly c i (run.harts k) (ask_at c i (run.harts k)) ≡ true → is_guarded c run k (ask_at c i (run.harts k)).want ≡ g
    → turn c i run k ≡ (serve_call c run k (ask_at c i (run.harts k)) g (call_of i run.machine (ask_at c i (run.harts k)).want)).run
unfolding serve
served g c i run k o e =
    let ask = ask_at c i (run.harts k) in
    ap (λ (b : Bool). (served_if b c i run k ask).run) o ∙ ap (λ (b : Bool). (serve_call c run k ask b (call_of i run.machine ask.want)).run) e

pub splits : GuardedTurnsSplit
splits = record {
  guarded = λ c i run k o g some below.
      let ask = ask_at c i (run.harts k) in
      let same = asks_again c i run k (uncut c run k ask.want g) some below in
      (served true c i run k o g ∙ ap (λ (a : Ask). (serve_call c (begun_anew run k ask.state) k a false (call_of i run.machine a.want)).run) (sym same), same);
  plain = λ c i run k o g. served false c i run k o g;
}
