-- Replies fit the asks.
use Rattle.run_laws.proofs.Common.{◌≡◌, ℕ, Bool, true, false, List, refl, nat_le, if◌then◌else◌, Some, Program, HartState, is_reply_to, Ask, Want, StoreConditional, System, Cut, Went, Over, Plan, RawSettings, Machine, answer, answer_sc, call_of, planned, is_reserved, Run, serve, served_if, is_orderly, RepliesFit}
use Rattle.system_calls.specs.declared.effect.Plan.TheVariants as plans

call_fits : (p : Plan) (c : RawSettings) (m : Machine) (k number : ℕ) (args : List ℕ) (s : HartState) → let ask : Ask = record { state = s; want = System number args } in is_reply_to ask.want (answer c (Some p) m k ask).reply ≡ true
call_fits (plans.Fill a n) c m k number args s = refl
call_fits p c m k number args s = refl

sc_fits : (b : Bool) (a rd v k : ℕ) (m : Machine) → is_reply_to (StoreConditional a rd v) (answer_sc b a v k m).reply ≡ true
sc_fits true a rd v k m = refl
sc_fits false a rd v k m = refl

cut_fits : (b : Bool) → is_reply_to Cut (if b then Over else Went) ≡ true
cut_fits true = refl
cut_fits false = refl

want_fits : (want : Want) (c : RawSettings) (i : Program) (m : Machine) (k : ℕ) (s : HartState) → let ask : Ask = record { state = s; want = want } in is_reply_to want (answer c (call_of i m want) m k ask).reply ≡ true
want_fits (StoreConditional a rd v) c i m k s = sc_fits (is_reserved (m.reserved k) a) a rd v k m
want_fits (System number args) c i m k s = call_fits (planned i m number args) c m k number args s
want_fits Cut c i m k s = cut_fits (nat_le c.limit s.ic)
want_fits want c i m k s = refl

served_fits : (b : Bool) (c : RawSettings) (i : Program) (run : Run) (k : ℕ) (ask : Ask) → is_reply_to ask.want (served_if b c i run k ask).reply ≡ true
served_fits true c i run k ask = want_fits ask.want c i run.machine k ask.state
served_fits false c i run k ask = over_fits ask.want
  where
    over_fits : (want : Want) → is_reply_to want Over ≡ true
    over_fits want = refl

pub replies_fit : RepliesFit
unfolding serve
replies_fit c i run k ask = served_fits (is_orderly c i (run.harts k) ask) c i run k ask
