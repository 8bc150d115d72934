-- What an instruction of a replay does: its state, its row, and the word that it has.
use Rattle.slice_back.proofs.Common.{◌≡◌, ℕ, ◌+◌, ◌==◌, ◌&&◌, ◌||◌, Bool, true, false, cond, List, ◌∷◌, Option, Some, None, refl, sym, ◌∙◌, ap, subst, arith, slice_index, Program, EndMark, Row, HartState, stored_word, amo_result, Step, Quiet, Asks, step, after, absorbed, Ask, Want, Load, Store, LoadReserved, StoreConditional, Amo, System, Cut, Faulted, Reply, Word, Stored, Answer, Over, row_of, call_row, Refused, Interval, Position, Next, On, Stop, word_for, missing, after_ask, after_sc, slot, call_reason, found, ask_step, one_step, call_reg, call_answer, EndDiffers, ScMissing, and_parts, eqb-true}
use Rattle.rv_meaning.specs.declared.asks.Reply.TheVariants as replies

-- an ask is neither a cut nor a fault
abbrev pub IsAsk : Want → Type 0
IsAsk (Load a w g rd) = Unit {0}
IsAsk (LoadReserved a rd) = Unit {0}
IsAsk (Amo a o rd y) = Unit {0}
IsAsk (Store a w y) = Unit {0}
IsAsk (StoreConditional a rd y) = Unit {0}
IsAsk (System n args) = Unit {0}
IsAsk Cut = ⊥
IsAsk (Faulted f y) = ⊥

-- the reply to an ask; x is the word of a loading access, and b tells whether a store-conditional succeeded
abbrev pub reply_for : EndMark → Want → Bool → ℕ → Reply
reply_for m (Load a w g rd) b x = Word x
reply_for m (LoadReserved a rd) b x = Word x
reply_for m (Amo a o rd y) b x = Word x
reply_for m (Store a w y) b x = Stored
reply_for m (StoreConditional a rd y) b x = cond b replies.ScOk replies.ScFailed
reply_for m (System n args) b x = call_answer m.reason m.value
reply_for m Cut b x = Over
reply_for m (Faulted f y) b x = Over

-- its row, by the states before and after it
abbrev pub asked_row : ℕ → Program → HartState → HartState → EndMark → Want → Bool → ℕ → Row
asked_row h i s t m (Load a w g rd) b x = row_of h i s t (Some (a, x)) None
asked_row h i s t m (LoadReserved a rd) b x = row_of h i s t (Some (a, x)) None
asked_row h i s t m (Amo a o rd y) b x = row_of h i s t (Some (a, x)) (Some (a, amo_result o x y))
asked_row h i s t m (Store a w y) b x = row_of h i s t None (Some (a, stored_word a w y x))
asked_row h i s t m (StoreConditional a rd y) b x = row_of h i s t None (cond b (Some (a, y)) None)
asked_row h i s t m (System n args) b x = call_row h i s (call_reg m.reason m.value)
asked_row h i s t m Cut b x = row_of h i s t None None
asked_row h i s t m (Faulted f y) b x = row_of h i s t None None

-- the word of a loading access is that of the definition
abbrev pub WordOf : Interval → Position → Want → ℕ → Type 0
WordOf v p (Load a w g rd) x = word_for v p a ≡ Some x
WordOf v p (LoadReserved a rd) x = word_for v p a ≡ Some x
WordOf v p (Amo a o rd y) x = word_for v p a ≡ Some x
WordOf v p (Store a w y) x = (w == 4) ≡ false → word_for v p a ≡ Some x
WordOf v p (StoreConditional a rd y) x = Unit {0}
WordOf v p (System n args) x = Unit {0}
WordOf v p Cut x = Unit {0}
WordOf v p (Faulted f y) x = Unit {0}

-- how many loading accesses an ask makes
abbrev pub count_of : Want → ℕ
count_of (Load a w g rd) = 1
count_of (LoadReserved a rd) = 1
count_of (Amo a o rd y) = 1
count_of (Store a w y) = elim (w == 4) [ true ↦ 0 | false ↦ 1 ]
count_of (StoreConditional a rd y) = 0
count_of (System n args) = 0
count_of Cut = 0
count_of (Faulted f y) = 0

-- how an instruction leads from a position to the next
pub data Turn (i : Program) (h : ℕ) (v : Interval) (p q : Position) (row : Row) : Type 0 where
  quiet : step i p.state ≡ Quiet q.state → row ≡ row_of h i p.state q.state None None → q.loads ≡ p.loads → Turn i h v p q row
  asked : (k : Want) (b : Bool) (x : ℕ) → step i p.state ≡ Asks k → IsAsk k → q.state ≡ after k (reply_for v.mark k b x) p.state
      → row ≡ asked_row h i p.state q.state v.mark k b x → WordOf v p k x → q.loads ≡ p.loads + count_of k → Turn i h v p q row

abbrev pub TurnTo : Program → ℕ → Interval → Position → Next → Type 0
TurnTo i h v p (On q) = (row : Row) × (q.rows ≡ row ∷ p.rows) × Turn i h v p q row
TurnTo i h v p (Stop o) = Unit {0}

-- a store of a word leaves its value
pub whole : (a w y x : ℕ) → (w == 4) ≡ true → stored_word a w y x ≡ y
whole a w y x e = subst (λ (n : ℕ). stored_word a n y x ≡ y) (sym (eqb-true w 4 e)) refl

no_more : (n : ℕ) → n ≡ n + 0
no_more n = omega arith

by_word : (i : Program) (h : ℕ) (v : Interval) (p : Position) (a : ℕ) (next : ℕ → Next) (o : Option ℕ) → word_for v p a ≡ o
    → ((x : ℕ) → word_for v p a ≡ Some x → TurnTo i h v p (next x)) → TurnTo i h v p (elim o as (λ u. Next) [ None ↦ missing h p a | Some x ↦ next x ])
by_word i h v p a next None e f = tt
by_word i h v p a next (Some x) e f = f x e

by_slot : (i : Program) (h : ℕ) (v : Interval) (p : Position) (next : Bool → Next) (o : Option Bool) → ((b : Bool) → TurnTo i h v p (next b))
    → TurnTo i h v p (elim o as (λ u. Next) [ None ↦ Stop (Refused (ScMissing h p.state.ic)) | Some b ↦ next b ])
by_slot i h v p next None f = tt
by_slot i h v p next (Some b) f = f b

store_turn : (i : Program) (h : ℕ) (v : Interval) (p : Position) (a w y : ℕ) → step i p.state ≡ Asks (Store a w y) → TurnTo i h v p (ask_step i h v p (Store a w y))
store_turn i h v p a w y e = by (w == 4) refl
  where
    ask : Ask
    ask = record { state = p.state; want = Store a w y }

    by : (c : Bool) → (w == 4) ≡ c → TurnTo i h v p (elim c as (λ u. Next) [
      | true ↦ after_ask i h p ask Stored 0 None (Some (a, y))
      | false ↦ elim (word_for v p a) as (λ u. Next) [ None ↦ missing h p a | Some x ↦ after_ask i h p ask Stored 1 None (Some (a, stored_word a w y x)) ]
    ])
    by true f = (
      _,
      refl,
      asked (Store a w y) false 0 e tt refl
          (ap (λ n. row_of h i p.state (absorbed ask Stored) None (Some (a, n))) (sym (whole a w y 0 f)))
          (λ g. absurd (let t : true ≡ false = sym f ∙ g in cc))
          (ap (λ (c : Bool). p.loads + elim c as (λ u. ℕ) [ true ↦ 0 | false ↦ 1 ]) (sym f)),
    )
    by false f = by_word i h v p a (λ x. after_ask i h p ask Stored 1 None (Some (a, stored_word a w y x))) (word_for v p a) refl
        (λ x g. (_, refl, asked (Store a w y) false x e tt refl refl (λ t. g) (ap (λ (c : Bool). p.loads + elim c as (λ u. ℕ) [ true ↦ 0 | false ↦ 1 ]) (sym f))))

call_turn : (i : Program) (h : ℕ) (v : Interval) (p : Position) (n : ℕ) (args : List ℕ) → step i p.state ≡ Asks (System n args) → TurnTo i h v p (ask_step i h v p (System n args))
call_turn i h v p n args e = by (p.state.ic + 1 == v.mark.ic && (reason == v.mark.reason) && ((reason == 2) || (value == v.mark.value))) (reason == 2) refl refl
  where
    ask : Ask
    ask = record { state = p.state; want = System n args }

    reason : ℕ
    reason = call_reason n

    value : ℕ
    value = elim (call_reason n == 2) as (λ u. ℕ) [ true ↦ 0 | false ↦ slice_index args 0 ]

    going : Position
    going = record { state = absorbed ask (Answer v.mark.value); loads = p.loads; conditionals = p.conditionals; rows = call_row h i p.state (Some (10, v.mark.value)) ∷ p.rows; called = true }

    leaving : Position
    leaving = record { state = absorbed ask Over; loads = p.loads; conditionals = p.conditionals; rows = call_row h i p.state None ∷ p.rows; called = true }

    same_reason : (p.state.ic + 1 == v.mark.ic && (reason == v.mark.reason) && ((reason == 2) || (value == v.mark.value))) ≡ true → reason ≡ v.mark.reason
    same_reason t = eqb-true reason v.mark.reason (and_parts (p.state.ic + 1 == v.mark.ic) (reason == v.mark.reason) (and_parts (p.state.ic + 1 == v.mark.ic && (reason == v.mark.reason)) ((reason == 2) || (value == v.mark.value)) t).0).1

    by : (c r : Bool) → (p.state.ic + 1 == v.mark.ic && (reason == v.mark.reason) && ((reason == 2) || (value == v.mark.value))) ≡ c → (reason == 2) ≡ r
        → TurnTo i h v p (elim c as (λ u. Next) [ true ↦ elim r as (λ u. Next) [ true ↦ On going | false ↦ On leaving ] | false ↦ Stop (Refused (EndDiffers h v.mark (found (p.state.ic + 1) reason value))) ])
    by false r f g = tt
    by true true f g =
        let two : true ≡ (v.mark.reason == 2) = sym g ∙ ap (λ k. k == 2) (same_reason f) in (
          _,
          refl,
          asked (System n args) false 0 e tt
              (ap (λ (c : Bool). after (System n args) (elim c as (λ u. Reply) [ true ↦ Answer v.mark.value | false ↦ Over ]) p.state) two)
              (ap (λ (c : Bool). call_row h i p.state (elim c as (λ u. Option (ℕ × ℕ)) [ true ↦ Some (10, v.mark.value) | false ↦ None ])) two)
              tt (no_more p.loads),
        )
    by true false f g =
        let two : false ≡ (v.mark.reason == 2) = sym g ∙ ap (λ k. k == 2) (same_reason f) in (
          _,
          refl,
          asked (System n args) false 0 e tt
              (ap (λ (c : Bool). after (System n args) (elim c as (λ u. Reply) [ true ↦ Answer v.mark.value | false ↦ Over ]) p.state) two)
              (ap (λ (c : Bool). call_row h i p.state (elim c as (λ u. Option (ℕ × ℕ)) [ true ↦ Some (10, v.mark.value) | false ↦ None ])) two)
              tt (no_more p.loads),
        )

ask_turn : (i : Program) (h : ℕ) (v : Interval) (p : Position) (k : Want) → step i p.state ≡ Asks k → TurnTo i h v p (ask_step i h v p k)
ask_turn i h v p (Load a w g rd) e = by_word i h v p a (λ x. after_ask i h p (record { state = p.state; want = Load a w g rd }) (Word x) 1 (Some (a, x)) None) (word_for v p a) refl
    (λ x f. (_, refl, asked (Load a w g rd) false x e tt refl refl f refl))
ask_turn i h v p (LoadReserved a rd) e = by_word i h v p a (λ x. after_ask i h p (record { state = p.state; want = LoadReserved a rd }) (Word x) 1 (Some (a, x)) None) (word_for v p a) refl
    (λ x f. (_, refl, asked (LoadReserved a rd) false x e tt refl refl f refl))
ask_turn i h v p (Amo a o rd y) e = by_word i h v p a (λ x. after_ask i h p (record { state = p.state; want = Amo a o rd y }) (Word x) 1 (Some (a, x)) (Some (a, amo_result o x y))) (word_for v p a) refl
    (λ x f. (_, refl, asked (Amo a o rd y) false x e tt refl refl f refl))
ask_turn i h v p (Store a w y) e = store_turn i h v p a w y e
ask_turn i h v p (StoreConditional a rd y) e = by_slot i h v p (λ b. after_sc i h p (record { state = p.state; want = StoreConditional a rd y }) b a y) (slot v.conditionals p.conditionals)
    (λ b. (_, refl, asked (StoreConditional a rd y) b 0 e tt refl refl tt (no_more p.loads)))
ask_turn i h v p (System n args) e = call_turn i h v p n args e
ask_turn i h v p Cut e = tt
ask_turn i h v p (Faulted f y) e = tt

pub turned : (i : Program) (h : ℕ) (v : Interval) (p : Position) → TurnTo i h v p (one_step i h v p)
turned i h v p = by (step i p.state) refl
  where
    by : (x : Step) → step i p.state ≡ x → TurnTo i h v p (elim x as (λ u. Next) [
      | Quiet t ↦ On (record { state = t; loads = p.loads; conditionals = p.conditionals; rows = row_of h i p.state t None None ∷ p.rows; called = false })
      | Asks k ↦ ask_step i h v p k
    ])
    by (Quiet t) e = (_, refl, quiet e refl refl)
    by (Asks k) e = ask_turn i h v p k e
