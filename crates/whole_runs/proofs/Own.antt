-- One hart's turns.
use Rattle.whole_runs.proofs.Common.{◌≡◌, ℕ, List, [], ◌∷◌, ◌++◌, Bool, true, false, refl, sym, ap, subst, ◌∙◌, Some, AllByRecursion, Program, RawSettings, Ask, Reply, TurnRow, IsOwn, Place, ask_from, place_after, OwnRowsGrow, IsDriven, IsLed, row_of, taken_after}

pub driven_first : (tells : Bool) (c : RawSettings) (i : Program) (h : ℕ) (first : Place) (rows : List TurnRow) → rows ≡ [] → IsDriven tells c i h first rows first
driven_first tells c i h first rows none = subst (λ (rs : List TurnRow). IsDriven tells c i h first rs first) (sym none) (record { own = tt; place_is = λ t. refl; lean = λ t. refl })

pub driven_more : OwnRowsGrow → (tells : Bool) (c : RawSettings) (i : Program) (h : ℕ) (first : Place) (rows : List TurnRow) (now : Place) (ask : Ask) (answered : Reply × Bool) (rows' : List TurnRow) (now' : Place) → IsDriven tells c i h first rows now
    → ask ≡ ask_from c i now → rows' ≡ taken_after tells rows h ask (Some answered) → now' ≡ place_after c now ask answered.1 answered.0 → IsDriven tells c i h first rows' now'
driven_more grow true c i h first rows now ask answered rows' now' d asks more is =
    let r = row_of h ask answered in
    let place = d.place_is refl in
    let g = grow c i h first rows r d.own refl (asks ∙ ap (ask_from c i) place) in
    subst (λ (rs : List TurnRow). IsDriven true c i h first rs now') (sym more) (record {
      own = g.0;
      place_is = λ t. is ∙ ap (λ (p : Place). place_after c p ask answered.1 answered.0) place ∙ sym g.1;
      lean = λ t. absurd (cc);
    })
driven_more grow false c i h first rows now ask answered rows' now' d asks more is = record {
  own = subst (λ (rs : List TurnRow). IsOwn c i h first rs) (sym more) d.own;
  place_is = λ t. absurd (cc);
  lean = λ t. more ∙ d.lean refl;
}

-- ---- where its turns led it

all_more : {X : Type 0} (P : X → Type 0) (xs : List X) (x : X) → AllByRecursion P xs → P x → AllByRecursion P (xs ++ x ∷ [])
all_more P [] x all one = (one, tt)
all_more P (y ∷ xs) x all one = (all.0, all_more P xs x all.1 one)

pub led_first : (answers : ℕ → Ask → Reply × Bool → Type 0) (c : RawSettings) (i : Program) (h : ℕ) (first : Place) → IsLed answers c i h first first
led_first answers c i h first = record { rows = []; own = tt; place_is = refl; answered = tt }

pub led_more : OwnRowsGrow → (answers : ℕ → Ask → Reply × Bool → Type 0) (c : RawSettings) (i : Program) (h : ℕ) (first now : Place) (ask : Ask) (reply : Reply) (guarded : Bool) (now' : Place) → IsLed answers c i h first now
    → ask ≡ ask_from c i now → answers h ask (reply, guarded) → now' ≡ place_after c now ask guarded reply → IsLed answers c i h first now'
led_more grow answers c i h first now ask reply guarded now' d asks may is =
    let r : TurnRow = row_of h ask (reply, guarded) in
    let g = grow c i h first d.rows r d.own refl (asks ∙ ap (ask_from c i) d.place_is) in
    record {
      rows = d.rows ++ r ∷ [];
      own = g.0;
      place_is = is ∙ ap (λ (p : Place). place_after c p ask guarded reply) d.place_is ∙ sym g.1;
      answered = all_more (λ (x : TurnRow). answers x.hart x.ask (x.reply, x.guarded)) d.rows r d.answered may;
    }

-- ---- turns that are told

-- a turn that was taken
pub taken_as : (tells : Bool) (old new : List TurnRow) (h : ℕ) (ask : Ask) (answered : Reply × Bool) → (tells ≡ true → new ≡ old ++ row_of h ask answered ∷ []) → (tells ≡ false → new ≡ old) → new ≡ taken_after tells old h ask (Some answered)
taken_as true old new h ask answered told lean = told refl
taken_as false old new h ask answered told lean = lean refl
