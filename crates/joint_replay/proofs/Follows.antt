-- The rows of a replay have the hart's counts, one after another, and the states between them.
use Rattle.joint_replay.proofs.Common.{◌≡◌, ℕ, ◌+◌, Bool, true, false, ◌&&◌, ◌||◌, ◌==◌, refl, sym, ap, ◌∙◌, List, ◌∷◌, Option, Some, None, slice_index, fault_number, Program, Row, HartState, Want, Load, Store, LoadReserved, StoreConditional, Amo, System, Cut, Faulted, row_of, call_row, ReplayError, LoadMissing, ScMissing, EndDiffers, Outcome, Done, Refused, Interval, Position, On, Stop, one_step, ask_step, after_ask, after_sc, missing, word_for, slot, found, call_reason, after_row, reply_in, IsTrue}
use Rattle.rv_meaning.specs.Access.{stored_word, amo_result}
use Rattle.rv_meaning.specs.Execute.{Step, Quiet, Asks, step, absorbed, count_up, count_up_if}
use Rattle.rv_meaning.specs.Orderly.{is_cut, passes}
use Rattle.rv_meaning.specs.declared.asks.Reply.{Reply}
use Rattle.rv_meaning.specs.declared.asks.Reply.TheVariants.{Word, Stored, Answer, Over}
use Rattle.rv_meaning.specs.declared.asks.Reply.TheVariants as replies
use Rattle.hart_replay.specs.Replay.{Next}

-- an instruction that was done has one row more: with the count before it, and the state after it is the row's
abbrev pub Follows : Program → Position → Next → Type 0
Follows i p (On q) = (row : Row) × (q.rows ≡ row ∷ p.rows) × (row.ic ≡ p.state.ic) × (row.fault ≡ None) × (q.state ≡ after_row i p.state row) × (q.state.ic ≡ count_up p.state.ic)
Follows i p (Stop o) = o ≡ Done → ⊥

abbrev is_done : Outcome → Bool
is_done Done = true
is_done (Refused e) = false

refusal : (e : ReplayError) → Refused e ≡ Done → ⊥
refusal e h = let f : false ≡ true = ap is_done h in absurd cc

-- a call after which its hart doesn't continue is an exit, by its number's two tests, and so it is counted
exits_count : (x y : Bool) (k : ℕ) → (elim x as (λ z. ℕ) [ true ↦ 3 | false ↦ elim y as (λ z. ℕ) [ true ↦ 4 | false ↦ 2 ] ] == 2) ≡ false → count_up_if (x || y) k ≡ count_up k
exits_count true y k over = refl
exits_count false true k over = refl
exits_count false false k over = let f : true ≡ false = over in absurd cc

module _ (i : Program) (h : ℕ) (v : Interval) (p : Position) where
  -- the state after a row without a fault, if this is asked
  reply_told : (k : Want) (row : Row) → row.fault ≡ None → step i p.state ≡ Asks k → after_row i p.state row ≡ absorbed (record { state = p.state; want = k }) (reply_in row k)
  reply_told k row none e =
      ap (λ f. elim f as (λ x. HartState) [ None ↦ elim (step i p.state) as (λ x. HartState) [ Quiet t ↦ t | Asks j ↦ absorbed (record { state = p.state; want = j }) (reply_in row j) ] | Some f ↦ p.state ]) none
      ∙ ap (λ (x : Step). elim x as (λ y. HartState) [ Quiet t ↦ t | Asks j ↦ absorbed (record { state = p.state; want = j }) (reply_in row j) ]) e

  asked : (k : Want) (reply : Reply) (more : ℕ) (load store : Option (ℕ × ℕ)) → step i p.state ≡ Asks k
      → ((t : HartState) → reply_in (row_of h i p.state t load store) k ≡ reply) → (absorbed (record { state = p.state; want = k }) reply).ic ≡ count_up p.state.ic
      → Follows i p (after_ask i h p (record { state = p.state; want = k }) reply more load store)
  asked k reply more load store e same up =
      let t = absorbed (record { state = p.state; want = k }) reply in
      let row = row_of h i p.state t load store in
      (row, refl, refl, refl, ap (λ (y : Reply). absorbed (record { state = p.state; want = k }) y) (sym (same t)) ∙ sym (reply_told k row refl e), up)

  loaded : (k : Want) (w : ℕ) (reply : ℕ → Reply) (load store : ℕ → Option (ℕ × ℕ)) → step i p.state ≡ Asks k
      → ((x : ℕ) (t : HartState) → reply_in (row_of h i p.state t (load x) (store x)) k ≡ reply x) → ((x : ℕ) → (absorbed (record { state = p.state; want = k }) (reply x)).ic ≡ count_up p.state.ic)
      → (o : Option ℕ) → Follows i p (elim o as (λ x. Next) [ None ↦ missing h p w | Some x ↦ after_ask i h p (record { state = p.state; want = k }) (reply x) 1 (load x) (store x) ])
  loaded k w reply load store e same up None = refusal (LoadMissing h p.state.ic w)
  loaded k w reply load store e same up (Some x) = asked k (reply x) 1 (load x) (store x) e (same x) (up x)

  tried : (w rd y : ℕ) → step i p.state ≡ Asks (StoreConditional w rd y) → (o : Option Bool)
      → Follows i p (elim o as (λ x. Next) [ None ↦ Stop (Refused (ScMissing h p.state.ic)) | Some b ↦ after_sc i h p (record { state = p.state; want = StoreConditional w rd y }) b w y ])
  tried w rd y e None = refusal (ScMissing h p.state.ic)
  tried w rd y e (Some true) =
      let t = absorbed (record { state = p.state; want = StoreConditional w rd y }) replies.ScOk in
      (row_of h i p.state t None (Some (w, y)), refl, refl, refl, sym (reply_told (StoreConditional w rd y) (row_of h i p.state t None (Some (w, y))) refl e), refl)
  tried w rd y e (Some false) =
      let t = absorbed (record { state = p.state; want = StoreConditional w rd y }) replies.ScFailed in
      (row_of h i p.state t None None, refl, refl, refl, sym (reply_told (StoreConditional w rd y) (row_of h i p.state t None None) refl e), refl)

  stored : (w width y : ℕ) → step i p.state ≡ Asks (Store w width y) → (full : Bool) (o : Option ℕ)
      → Follows i p (elim full as (λ x. Next) [ true ↦ after_ask i h p (record { state = p.state; want = Store w width y }) Stored 0 None (Some (w, y)) | false ↦ elim o as (λ x. Next) [ None ↦ missing h p w | Some x ↦ after_ask i h p (record { state = p.state; want = Store w width y }) Stored 1 None (Some (w, stored_word w width y x)) ] ])
  stored w width y e true o = asked (Store w width y) Stored 0 None (Some (w, y)) e (λ t. refl) refl
  stored w width y e false o = loaded (Store w width y) w (λ x. Stored) (λ x. None) (λ x. Some (w, stored_word w width y x)) e (λ x t. refl) (λ x. refl) o

  rung : (n : ℕ) (args : List ℕ) → step i p.state ≡ Asks (System n args) → (done goes : Bool) (reason value : ℕ)
      → (goes ≡ false → count_up_if ((n == 93) || (n == 94)) p.state.ic ≡ count_up p.state.ic)
      → Follows i p (elim done as (λ x. Next) [
        | true ↦ elim goes as (λ x. Next) [
          | true ↦ On (record { state = absorbed (record { state = p.state; want = System n args }) (Answer v.mark.value); loads = p.loads; conditionals = p.conditionals; rows = call_row h i p.state (Some (10, v.mark.value)) ∷ p.rows; called = true })
          | false ↦ On (record { state = absorbed (record { state = p.state; want = System n args }) Over; loads = p.loads; conditionals = p.conditionals; rows = call_row h i p.state None ∷ p.rows; called = true })
        ]
        | false ↦ Stop (Refused (EndDiffers h v.mark (found (p.state.ic + 1) reason value)))
      ])
  rung n args e true true reason value over = (call_row h i p.state (Some (10, v.mark.value)), refl, refl, refl, sym (reply_told (System n args) (call_row h i p.state (Some (10, v.mark.value))) refl e), refl)
  rung n args e true false reason value over = (call_row h i p.state None, refl, refl, refl, sym (reply_told (System n args) (call_row h i p.state None) refl e), over refl)
  rung n args e false goes reason value over = refusal (EndDiffers h v.mark (found (p.state.ic + 1) reason value))

  by_want : ((s : HartState) → step i s ≡ Asks Cut → ⊥) → (k : Want) → step i p.state ≡ Asks k → Follows i p (ask_step i h v p k)
  by_want uncut (Load w width signed rd) e = loaded (Load w width signed rd) w Word (λ x. Some (w, x)) (λ x. None) e (λ x t. refl) (λ x. refl) (word_for v p w)
  by_want uncut (LoadReserved w rd) e = loaded (LoadReserved w rd) w Word (λ x. Some (w, x)) (λ x. None) e (λ x t. refl) (λ x. refl) (word_for v p w)
  by_want uncut (Amo w o rd y) e = loaded (Amo w o rd y) w Word (λ x. Some (w, x)) (λ x. Some (w, amo_result o x y)) e (λ x t. refl) (λ x. refl) (word_for v p w)
  by_want uncut (Store w width y) e = stored w width y e (width == 4) (word_for v p w)
  by_want uncut (StoreConditional w rd y) e = tried w rd y e (slot v.conditionals p.conditionals)
  by_want uncut (System n args) e =
      let reason = call_reason n in
      let value : ℕ = elim (reason == 2) [ true ↦ 0 | false ↦ slice_index args 0 ] in
      rung n args e (p.state.ic + 1 == v.mark.ic && (reason == v.mark.reason) && ((reason == 2) || (value == v.mark.value))) (reason == 2) reason value (exits_count (n == 93) (n == 94) p.state.ic)
  by_want uncut Cut e = absurd (uncut p.state e)
  by_want uncut (Faulted f y) e = refusal (EndDiffers h v.mark (found p.state.ic (16 + fault_number f) y))

  by_step : ((s t : HartState) → step i s ≡ Quiet t → t.ic ≡ count_up s.ic) → ((s : HartState) → step i s ≡ Asks Cut → ⊥) → (x : Step) → step i p.state ≡ x
      → Follows i p (elim x as (λ y. Next) [ Quiet t ↦ On (record { state = t; loads = p.loads; conditionals = p.conditionals; rows = row_of h i p.state t None None ∷ p.rows; called = false }) | Asks k ↦ ask_step i h v p k ])
  by_step counted uncut (Quiet t) e = (
    row_of h i p.state t None None,
    refl,
    refl,
    refl,
    sym (ap (λ (x : Step). elim x as (λ y. HartState) [ Quiet u ↦ u | Asks j ↦ absorbed (record { state = p.state; want = j }) (reply_in (row_of h i p.state t None None) j) ]) e),
    counted p.state t e,
  )
  by_step counted uncut (Asks k) e = by_want uncut k e

  pub follows : ((s t : HartState) → step i s ≡ Quiet t → t.ic ≡ count_up s.ic) → ((s : HartState) → step i s ≡ Asks Cut → ⊥) → Follows i p (one_step i h v p)
  follows counted uncut = by_step counted uncut (step i p.state) refl

-- ---- what the law on instructions says

abbrev pub CountsGoUp : Type 0
CountsGoUp = (i : Program) (s t : HartState) → step i s ≡ Quiet t → t.ic ≡ count_up s.ic

abbrev pub AsksPass : Type 0
AsksPass = (i : Program) (s : HartState) (w : Want) → step i s ≡ Asks w → (is_cut w ≡ false) × IsTrue (passes i w)

pub uncut : AsksPass → (i : Program) (s : HartState) → step i s ≡ Asks Cut → ⊥
uncut asks i s e = let f : true ≡ false = (asks i s Cut e).0 in cc
