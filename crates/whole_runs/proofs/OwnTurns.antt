-- A bus that serves what its harts ask next takes the turns of a list.
use Rattle.whole_runs.proofs.Common.{◌≡◌, ℕ, ◌<◌, Bool, true, false, not, ◌||◌, List, [], ◌∷◌, ◌++◌, refl, sym, ◌∙◌, ap, subst, Result, Ok, Err, IfOk, OnOk, IsSetting, TurnRow, Ask, Reply, Run, ask_at, is_orderly, OwnAsksAreOrderly, Began, Seen, IsState, row, served_reply, served_guarded, served_run, HasTaken, list_run, seeded_after, kept_after, kept_with, StaysTaken}
use Rattle.bus_core.specs.Bus.{is_live}
use Rattle.bus_core.proofs.OwnTurn.{or_not_true, row_is}
use Rattle.whole_runs.proofs.Live.{live_in}
use Rattle.whole_runs.proofs.Taken.{taken_more}

-- what a bus says of an ask that it served
abbrev pub Replies : Seen → ℕ → Ask → Reply × Bool → Type 0
Replies old k ask r = (run : Run) → IsState old run → r.0 ≡ served_reply old.began run k ask

abbrev pub Flags : Seen → ℕ → Ask → Reply × Bool → Type 0
Flags old k ask r = (run : Run) → IsState old run → r.1 ≡ served_guarded old.began run k ask

abbrev pub Leads : Seen → ℕ → Ask → Seen → Type 0
Leads old k ask new = (run : Run) → IsState old run → IsState new (served_run old.began run k ask)

abbrev pub Disorders : Seen → ℕ → Ask → Seen → Type 0
Disorders old k ask new = (run : Run) → IsState old run → new.disordered ≡ (old.disordered || not (is_orderly old.began.settings old.began.image (run.harts k) ask))

abbrev pub Asks : Seen → ℕ → Ask → Type 0
Asks old k ask = (run : Run) → IsState old run → ask ≡ ask_at old.began.settings old.began.image (run.harts k)

-- if it was answered, it took one turn more
pub served_taken : {E : Type 0} → OwnAsksAreOrderly → (tells : Bool) (old new : Seen) (k : ℕ) (ask : Ask) (result : Result (Reply × Bool) E) → IsSetting old.began.settings → k < old.began.settings.harts → is_live old k ≡ true → Asks old k ask
    → IfOk result (Replies old k ask) → IfOk result (Flags old k ask) → OnOk result (Leads old k ask new) → IfOk result (λ r. tells ≡ true → new.rows ≡ old.rows ++ row k ask r.0 r.1 ∷ []) → OnOk result (Disorders old k ask new)
    → new.began ≡ old.began → new.halted ≡ old.halted → OnOk result ((list : List ℕ) → HasTaken tells old list → HasTaken tells new (list ++ k ∷ []))
served_taken law tells old new k ask (Ok r) setting within live own replies flags leads told disorders began halted = λ list h.
    let b = old.began in
    let run = list_run b list in
    let asks = own run h.state in
    let orderly : is_orderly b.settings b.image (run.harts k) (ask_at b.settings b.image (run.harts k)) ≡ true = law b.settings b.image b.input list k setting h.legal in
    taken_more tells old new list k h (live_in b.settings run old.harts k h.state.harts within live) (record {
      began = began;
      state = subst (λ (a : Ask). IsState new (served_run b run k a)) asks (leads run h.state);
      told = λ t. told t ∙ ap (λ (x : TurnRow). old.rows ++ x ∷ []) (row_is b run k ask r.0 r.1 asks (replies run h.state) (flags run h.state));
      disordered = disorders run h.state
          ∙ ap (λ (a : Ask). old.disordered || not (is_orderly b.settings b.image (run.harts k) a)) asks
          ∙ ap (λ (o : Bool). old.disordered || not o) orderly
          ∙ sym (or_not_true old.disordered);
      halted = halted;
    })
served_taken law tells old new k ask (Err e) setting within live own replies flags leads told disorders began halted = tt

-- ---- the list that is kept

kept_more : (keeps : Bool) (before after list : List ℕ) (k : ℕ) → after ≡ kept_after keeps before k → (keeps ≡ true → before ≡ list) → keeps ≡ true → after ≡ list ++ k ∷ []
kept_more true before after list k is kept t = is ∙ ap (λ (xs : List ℕ). xs ++ k ∷ []) (kept refl)
kept_more false before after list k is kept t = absurd (cc)

pub stays_taken : (tells : Bool) (old new : Seen) (before after : List ℕ) (keeps : Bool) (k : ℕ) → old.halted ≡ false → ((list : List ℕ) → HasTaken tells old list → HasTaken tells new (list ++ k ∷ [])) → after ≡ kept_after keeps before k → StaysTaken tells old before new after keeps
stays_taken tells old new before after keeps k running more is = record {
  running = running;
  more = λ list a. (list ++ k ∷ [], record { taken = more list a.taken; kept_is = kept_more keeps before after list k is a.kept_is });
}

-- the list that is kept, and more turns
pub kept_all : (keeps asked : Bool) (before after list more : List ℕ) → keeps ≡ asked → after ≡ kept_with keeps before more → (keeps ≡ true → before ≡ list) → asked ≡ true → after ≡ list ++ more
kept_all true asked before after list more same is kept t = is ∙ ap (λ (xs : List ℕ). xs ++ more) (kept refl)
kept_all false asked before after list more same is kept t = absurd (cc)

-- all of it as the number chooses after the list that was kept
pub as_chosen : (b : Began) (list kept more after : List ℕ) → kept ≡ list → after ≡ list ++ more → more ≡ seeded_after b list 0 → after ≡ kept ++ seeded_after b kept 0
as_chosen b list kept more after same is chosen = is ∙ ap (λ (xs : List ℕ). list ++ xs) chosen ∙ ap (λ (xs : List ℕ). xs ++ seeded_after b xs 0) (sym same)
