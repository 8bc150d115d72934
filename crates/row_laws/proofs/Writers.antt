-- The rows of the points that write.
use Rattle.row_laws.proofs.Common.{◌≡◌, ℕ, zero, suc, ◌+◌, ◌*◌, ◌<◌, Bool, true, false, ◌&&◌, List, [], ◌∷◌, ◌++◌, length, Option, Some, None, refl, sym, ◌∙◌, ap, subst, inl, inr, arith, ◌==◌, ◌⊎◌, slice_get, slice_index, list_any, false≢true, eq-eqb, eqb-true, length-append, Program, may_load, may_store, Row, RawSettings, HartState, stored_word, amo_result, Asks, step, passes, aligned, Want, Load, Store, LoadReserved, StoreConditional, Amo, System, Cut, Plan, row_of, call_row, at_address, access_point, accesses_from, is_write, Point, Access, Writes, Read, Write, Span, Machine, answer_sc, answer_call, is_reserved, planned, word_count, sc_store, answered_reg, Run, point_of, points_after, sc_span, call_span, span, budget, HasCodeWords, Fills, WritersHaveRows, AsksOrderly, Adds, and_parts, want_at, asked_at, point_at, aligned_own, get_new, or_split, not_cut, same_Some, none-some}
use Rattle.system_calls.specs.declared.effect.Plan.TheVariants as plans
use Rattle.row_laws.proofs.Along.{asked_rows, quiet_states, came}
use Rattle.row_laws.proofs.Cases.{ask_row}
use Rattle.row_laws.proofs.Ecalls.{step_calls}
use Rattle.row_laws.proofs.Plans.{IsFillOf, planned_fills}
use Rattle.row_laws.proofs.Telling.{updated_here, passing}
use Rattle.replay_laws.proofs.Asked.{state_after as answered_state, reply_to, memory_after as answered_memory, span_to}
use Rattle.row_laws.proofs.Asked.{turn_served, DecidesWrites}

-- ---- the words of a point

pub writes_range : (first n a : ℕ) (b : Bool) → list_any (λ (x : Access). (x.word == a) && x.writes) (accesses_from first n b) ≡ true
    → (b ≡ true) × ((j : ℕ) × (j < n) × (a ≡ first + 4 * j))
writes_range first zero a b e = absurd (false≢true e)
writes_range first (suc n) a b e = elim (or_split ((first == a) && b) (list_any (λ (x : Access). (x.word == a) && x.writes) (accesses_from (first + 4) n b)) e) [
  | inl here ↦ (let p = and_parts (first == a) b here in let is : first ≡ a = eqb-true first a p.0 in (p.1, (0, omega arith, omega (arith, is))))
  | inr later ↦ (let r = writes_range (first + 4) n a b later in (r.0, (r.1.0 + 1, omega (arith, r.1.1), omega (arith, r.1.2))))
]

-- what a point of these words writes
span_writes : DecidesWrites → (h ic turns : ℕ) (s : Span) (p : Point) (a : ℕ) → point_of h ic turns (Some s) ≡ Some p → Writes a p
    → (is_write s.mode ≡ true) × ((j : ℕ) × (j < s.count) × (a ≡ s.first + 4 * j))
span_writes decides h ic turns s p a e w =
    let q : Point = access_point h ic turns s.first s.count s.mode in
    writes_range s.first s.count a (is_write s.mode) ((decides a q).1 (subst (Writes a) (sym (same_Some q p e)) w))

pub point_is : (h ic turns : ℕ) (o : Option Span) (p : Point) → point_of h ic turns o ≡ Some p → (p.hart ≡ h) × (p.count ≡ ic) × (p.turn ≡ turns)
point_is h ic turns None p e = absurd (none-some p e)
point_is h ic turns (Some s) p e =
    let is : p ≡ access_point h ic turns s.first s.count s.mode = sym (same_Some (access_point h ic turns s.first s.count s.mode) p e) in
    (ap (λ (x : Point). x.hart) is, ap (λ (x : Point). x.count) is, ap (λ (x : Point). x.turn) is)

-- ---- the row of an ask whose point writes

record Written (c : RawSettings) (i : Program) (m : Machine) (h : ℕ) (w : Want) (s : HartState) (a : ℕ) : Type 0 where
  row : Row
  is : asked_rows c i m h w s ≡ row ∷ []
  count : row.ic ≡ s.ic
  writes : (at_address a row.store None ≡ Some (answered_memory c i m h w s a)) ⊎ Fills s row a

stores : (b v a : ℕ) (m : ℕ → ℕ) (word : ℕ) → aligned b ≡ a → word ≡ v → at_address a (Some (b, v)) None ≡ Some word
stores b v a m word e f = ap (λ x. elim x as (λ y. Option ℕ) [ true ↦ Some v | false ↦ None ]) (eq-eqb (aligned b) a e) ∙ ap Some (sym f)

sc_writes : DecidesWrites → (x : Bool) (m : Machine) (h b v ic turns : ℕ) (p : Point) (a : ℕ) → aligned b ≡ b → point_of h ic turns (sc_span (answer_sc x b v h m).reply b) ≡ Some p → Writes a p
    → at_address a (sc_store (answer_sc x b v h m).reply b v) None ≡ Some ((answer_sc x b v h m).machine.memory a)
sc_writes decides true m h b v ic turns p a own e w =
    let r = span_writes decides h ic turns (span b 1 Write) p a e w in
    let same : b ≡ a = omega (arith, r.1.1, r.1.2) in
    stores b v a m.memory _ (own ∙ same) (updated_here b v m.memory a (sym same))
sc_writes decides false m h b v ic turns p a own e w = absurd (none-some p e)

call_writes : DecidesWrites → (pl : Plan) (i : Program) (m : Machine) (h n : ℕ) (args : List ℕ) (s : HartState) (turns : ℕ) (p : Point) (a : ℕ) → HasCodeWords i → step i s ≡ Asks (System n args)
    → IsFillOf n (slice_index args 0) (slice_index args 1) pl → point_of h s.ic turns (call_span pl) ≡ Some p → Writes a p
    → Fills s (call_row h i s (answered_reg (answer_call pl h m).reply)) a
call_writes decides (plans.Fill b z) i m h n args s turns p a codes asks f e w =
    let r = span_writes decides h s.ic turns (span (aligned b) (word_count b z) Write) p a e w in
    let c = step_calls i s n args codes asks in
    let first : slice_index s.x 11 ≡ b = sym (ap (λ xs. slice_index xs 1) c.2) ∙ sym f.2 in
    record {
      count = z;
      row = record { ecall = c.0; number = sym c.1 ∙ f.0; file = sym (ap (λ xs. slice_index xs 0) c.2) ∙ f.1; answered = refl; low = f.3; high = f.4 };
      byte = record { own = omega (arith, r.1.2); from = omega (arith, r.1.2, first); to = omega (arith, r.1.1, r.1.2, first) };
    }
call_writes decides (plans.Send f b z) i m h n args s turns p a codes asks g e w = absurd (false≢true (span_writes decides h s.ic turns (span (aligned b) (word_count b z) Read) p a e w).0)
call_writes decides pl i m h n args s turns p a codes asks g e w = absurd (none-some p e)

want_writes : DecidesWrites → (w : Want) (c : RawSettings) (i : Program) (m : Machine) (h : ℕ) (s : HartState) (turns : ℕ) (p : Point) (a : ℕ) → HasCodeWords i → passes i w ≡ true
    → (w ≡ Cut) ⊎ (step i s ≡ Asks w) → point_of h s.ic turns (span_to c i m h w s) ≡ Some p → Writes a p → Written c i m h w s a
want_writes decides (Load b wd g rd) c i m h s turns p a codes fine asks e w = absurd (false≢true (span_writes decides h s.ic turns (span (aligned b) 1 Read) p a e w).0)
want_writes decides (LoadReserved b rd) c i m h s turns p a codes fine asks e w = absurd (false≢true (span_writes decides h s.ic turns (span b 1 Read) p a e w).0)
want_writes decides (Store b wd v) c i m h s turns p a codes fine asks e w =
    let r = span_writes decides h s.ic turns (span (aligned b) 1 Write) p a e w in
    let same : aligned b ≡ a = omega (arith, r.1.1, r.1.2) in
    let new : ℕ = stored_word b wd v (m.memory (aligned b)) in
    record {
      row = row_of h i s (answered_state c i m h (Store b wd v) s) None (Some (b, new));
      is = refl;
      count = refl;
      writes = inl (stores b new a m.memory (answered_memory c i m h (Store b wd v) s a) same (updated_here (aligned b) new m.memory a (sym same)));
    }
want_writes decides (Amo b o rd v) c i m h s turns p a codes fine asks e w =
    let r = span_writes decides h s.ic turns (span b 1 Write) p a e w in
    let same : b ≡ a = omega (arith, r.1.1, r.1.2) in
    let new : ℕ = amo_result o (m.memory b) v in
    record {
      row = row_of h i s (answered_state c i m h (Amo b o rd v) s) (Some (b, m.memory b)) (Some (b, new));
      is = refl;
      count = refl;
      writes = inl (stores b new a m.memory (answered_memory c i m h (Amo b o rd v) s a) (aligned_own b (may_load i b && may_store i b) fine ∙ same) (updated_here b new m.memory a (sym same)));
    }
want_writes decides (StoreConditional b rd v) c i m h s turns p a codes fine asks e w =
    record {
      row = row_of h i s (answered_state c i m h (StoreConditional b rd v) s) None (sc_store (reply_to c i m h (StoreConditional b rd v) s) b v);
      is = refl;
      count = refl;
      writes = inl (sc_writes decides (is_reserved (m.reserved h) b) m h b v s.ic turns p a (aligned_own b (may_load i b && may_store i b) fine) e w);
    }
want_writes decides (System n args) c i m h s turns p a codes fine asks e w =
    record {
      row = call_row h i s (answered_reg (reply_to c i m h (System n args) s));
      is = refl;
      count = refl;
      writes = inr (call_writes decides (planned i m n args) i m h n args s turns p a codes (not_cut (System n args) i s refl asks) (planned_fills i m n args) e w);
    }
want_writes decides want c i m h s turns p a codes fine asks e w = absurd (none-some p e)

-- ---- a turn

pub added_is : (o : Option Point) (ps : List Point) (p : Point) → points_after o ps ≡ ps ++ p ∷ [] → o ≡ Some p
added_is None ps p e = let l : length ps ≡ length (ps ++ p ∷ []) = ap length e in absurd (omega (arith, l, length-append ps (p ∷ [])))
added_is (Some q) ps p e = sym (get_new ps q) ∙ (ap (λ xs. slice_get xs (length ps)) e ∙ get_new ps p)

pub point_added : (c : RawSettings) (i : Program) (run : Run) (h : ℕ) (p : Point) → AsksOrderly c i run h → Adds c i run h p → point_at c i run h ≡ Some p
point_added c i run h p o adds = added_is (point_at c i run h) run.points p (sym (ap (λ (x : Run). x.points) (turn_served c i run h o)) ∙ adds)

pub writers_have_rows : DecidesWrites → WritersHaveRows
writers_have_rows decides c i run h p a codes o adds wr =
    let point = point_added c i run h p o adds in
    let s : HartState = asked_at c i run h in
    let x = want_writes decides (want_at c i run h) c i run.machine h s run.turns p a codes (passing c i run h o) (came i (budget c (run.harts h)) (run.harts h).state) point wr in
    let is = point_is h s.ic run.turns (span_to c i run.machine h (want_at c i run h) s) p point in
    record {
      before = s;
      row = x.row;
      has = ask_row c i run h x.row (quiet_states h i (budget c (run.harts h)) (run.harts h).state).1 x.is;
      hart = is.0;
      count = is.1 ∙ sym x.count;
      turn_is = is.2;
      writes = elim x.writes [ inl y ↦ inl (y ∙ ap (λ (z : Run). Some (z.machine.memory a)) (sym (turn_served c i run h o))) | inr y ↦ inr y ];
    }
