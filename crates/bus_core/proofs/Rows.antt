-- Rows that are one more.
use Rattle.bus_core.proofs.Common.{◌≡◌, ℕ, zero, suc, ◌<◌, Bool, true, false, not, ◌&&◌, ◌||◌, List, [], ◌∷◌, ◌++◌, length, refl, sym, ◌∙◌, ap, arith, nat_lt, slice_get, Program, RawSettings, TurnRow, Hart, AreHarts, hart_in, is_live_hart, Run, serve, is_orderly, dead, after_rows, are_orderly, IsLawful}
use Rattle.run_model.specs.Runs.{is_live}

pub after_snoc : (c : RawSettings) (i : Program) (run : Run) (rows : List TurnRow) (r : TurnRow) → after_rows c i run (rows ++ r ∷ []) ≡ (serve c i (after_rows c i run rows) r.hart r.ask).run
after_snoc c i run [] r = refl
after_snoc c i run (x ∷ rows) r = after_snoc c i (serve c i run x.hart x.ask).run rows r

pub lawful_snoc : (c : RawSettings) (i : Program) (run : Run) (rows : List TurnRow) (r : TurnRow) → IsLawful c i run rows → is_live c (after_rows c i run rows) r.hart ≡ true
    → r.reply ≡ (serve c i (after_rows c i run rows) r.hart r.ask).reply → r.guarded ≡ (serve c i (after_rows c i run rows) r.hart r.ask).guarded → IsLawful c i run (rows ++ r ∷ [])
lawful_snoc c i run [] r lawful live same flag = (live, same, flag, tt)
lawful_snoc c i run (x ∷ rows) r lawful live same flag = (lawful.0, lawful.1, lawful.2, lawful_snoc c i (serve c i run x.hart x.ask).run rows r lawful.3 live same flag)

pub orderly_snoc : (c : RawSettings) (i : Program) (run : Run) (rows : List TurnRow) (r : TurnRow) → are_orderly c i run (rows ++ r ∷ []) ≡ (are_orderly c i run rows && is_orderly c i ((after_rows c i run rows).harts r.hart) r.ask)
orderly_snoc c i run [] r = last (is_orderly c i (run.harts r.hart) r.ask)
  where
    last : (b : Bool) → elim b as (λ x. Bool) [ true ↦ true | false ↦ false ] ≡ (true && b)
    last true = refl
    last false = refl
orderly_snoc c i run (x ∷ rows) r = by_first (is_orderly c i (run.harts x.hart) x.ask) _ _ _ (orderly_snoc c i (serve c i run x.hart x.ask).run rows r)
  where
    by_first : (b x y z : Bool) → x ≡ (y && z) → elim b as (λ t. Bool) [ true ↦ x | false ↦ false ] ≡ (elim b as (λ t. Bool) [ true ↦ y | false ↦ false ] && z)
    by_first true x y z e = e
    by_first false x y z e = refl

pub not_both : (a b d o e : Bool) → d ≡ not a → o ≡ b → e ≡ (d || not o) → e ≡ not (a && b)
not_both a b d o e ed eo ee = ee ∙ ap (λ (x : Bool). x || not o) ed ∙ ap (λ (x : Bool). not a || not x) eo ∙ by_both a b
  where
    by_both : (a b : Bool) → (not a || not b) ≡ not (a && b)
    by_both true true = refl
    by_both true false = refl
    by_both false true = refl
    by_both false false = refl

pub second_of : (a b : Bool) → (a && b) ≡ true → b ≡ true
second_of true b e = e
second_of false b e = cc

-- ---- live harts

-- what is live stands in the list
pub live_within : (hs : List Hart) (k : ℕ) → is_live_hart (slice_get hs k) ≡ true → k < length hs
live_within [] zero e = cc
live_within [] (suc k) e = cc
live_within (h ∷ hs) zero e = omega arith
live_within (h ∷ hs) (suc k) e = omega (arith, live_within hs k e)

-- and is the hart of its place
pub live_there : (hs : List Hart) (k : ℕ) → is_live_hart (slice_get hs k) ≡ true → (hart_in hs k).live ≡ true
live_there [] zero e = cc
live_there [] (suc k) e = cc
live_there (h ∷ hs) zero e = e
live_there (h ∷ hs) (suc k) e = live_there hs k e

below : (k n : ℕ) → k < n → nat_lt k n ≡ true
below k n h = grind (arith, h)

and_both : (a b : Bool) → a ≡ true → b ≡ true → (a && b) ≡ true
and_both a b ea eb = ap (λ (x : Bool). x && b) ea ∙ eb

pub live_in : (c : RawSettings) (run : Run) (hs : List Hart) (k : ℕ) → AreHarts hs run.harts → k < c.harts → is_live_hart (slice_get hs k) ≡ true → is_live c run k ≡ true
live_in c run hs k are within live = and_both (nat_lt k c.harts) (run.harts k).live (below k c.harts within) (sym (ap is_live_hart (are k (live_within hs k live))) ∙ live)

pub live_as : (c : RawSettings) (run : Run) (hs : List Hart) (k : ℕ) → AreHarts hs run.harts → length hs ≡ c.harts → is_live_hart (slice_get hs k) ≡ true → is_live c run k ≡ true
live_as c run hs k are len live = live_in c run hs k are (omega (arith, live_within hs k live, len)) live

-- where all harts were ended, none is live
pub none_is_live : (hs : List Hart) (f : ℕ → Hart) (k : ℕ) → AreHarts hs (λ j. dead (f j)) → is_live_hart (slice_get hs k) ≡ true → true ≡ false
none_is_live hs f k are live = sym live ∙ ap is_live_hart (are k (live_within hs k live))
