-- The rows of read calls that give bytes.
use Rattle.row_laws.proofs.Common.{◌≡◌, ℕ, zero, suc, ◌+◌, ◌*◌, ◌/◌, ◌-◌, ◌<◌, ◌≤◌, Bool, true, false, ◌&&◌, [], ◌∷◌, Some, sym, ◌∙◌, ap, subst, inl, inr, arith, ◌==◌, ◌⊎◌, take, slice_index, list_any, false≢true, eq-eqb, Program, code_at, Row, RawSettings, HartState, Step, Quiet, Asks, step, reg, aligned, Want, System, Cut, Plan, call_row, access_point, accesses_from, Access, Writes, Write, Machine, answer_call, call_of, filled, planned, word_count, answered_reg, Run, point_of, call_span, budget, IsFillRow, IsFill, HasByte, result_of, FillRowsFill, AreRowsFrom, AsksOrderly, want_at, asked_at, or_first, or_second}
use Rattle.system_calls.specs.declared.effect.Plan.TheVariants as plans
use Rattle.row_laws.proofs.Along.{asked_rows, want_each, came}
use Rattle.row_laws.proofs.Cases.{heads, turn_row}
use Rattle.row_laws.proofs.Ecalls.{ecall_asks}
use Rattle.row_laws.proofs.Plans.{read_gives}
use Rattle.row_laws.proofs.Telling.{adds_point, no_row}
use Rattle.replay_laws.proofs.Asked.{memory_after as answered_memory, span_to}
use Rattle.row_laws.proofs.Asked.{turn_served, DecidesWrites}

-- ---- the words of the point

range_writes : (first n j a : ℕ) → j < n → a ≡ first + 4 * j → list_any (λ (x : Access). (x.word == a) && x.writes) (accesses_from first n true) ≡ true
range_writes first zero j a low is = absurd (omega (arith, low))
range_writes first (suc n) zero a low is =
    or_first ((first == a) && true) (list_any (λ (x : Access). (x.word == a) && x.writes) (accesses_from (first + 4) n true))
    (ap (λ x. x && true) (eq-eqb first a (omega (arith, is))))
range_writes first (suc n) (suc j) a low is =
    or_second ((first == a) && true) (list_any (λ (x : Access). (x.word == a) && x.writes) (accesses_from (first + 4) n true))
    (range_writes (first + 4) n j a (omega (arith, low)) (omega (arith, is)))

fill_writes : DecidesWrites → (h ic turns address n a : ℕ) → HasByte address n a → Writes a (access_point h ic turns (aligned address) (word_count address n) Write)
fill_writes decides h ic turns address n a b =
    (decides a (access_point h ic turns (aligned address) (word_count address n) Write)).0
    (range_writes (aligned address) (word_count address n) (a / 4 - address / 4) a (omega (arith, b.own, b.from, b.to)) (omega (arith, b.own, b.from, b.to)))

-- ---- the ask

asked_of : Want → Step → Want
asked_of d (Quiet t) = d
asked_of d (Asks w) = w

asks_is : (v w : Want) → Asks v ≡ Asks w → v ≡ w
unfolding asked_of
asks_is v w e = ap (asked_of v) e

is_quiet : Step → Bool
is_quiet (Quiet t) = true
is_quiet (Asks w) = false

pub not_both : (i : Program) (s t : HartState) (w : Want) → step i s ≡ Quiet t → step i s ≡ Asks w → ⊥
unfolding is_quiet
not_both i s t w e f = false≢true (ap is_quiet (sym f ∙ e))

-- the want of an ECALL with 63 in a7 and 0 in a0
abbrev reads : ℕ → ℕ → Want
reads a1 a2 = System 63 (0 ∷ a1 ∷ a2 ∷ [])

ecall_reads : (i : Program) (s : HartState) → code_at i s.pc ≡ Some 0x73 → slice_index s.x 17 ≡ 63 → slice_index s.x 10 ≡ 0 → step i s ≡ Asks (reads (slice_index s.x 11) (slice_index s.x 12))
ecall_reads i s e f g =
    ecall_asks i s e
    ∙ (ap (λ n. Asks (System n (reg s 10 ∷ reg s 11 ∷ reg s 12 ∷ []))) f
    ∙ ap (λ n. Asks (System 63 (n ∷ reg s 11 ∷ reg s 12 ∷ []))) g)

-- what such an ask does
record Fill (c : RawSettings) (i : Program) (m : Machine) (h : ℕ) (w : Want) (s : HartState) (a1 n turns : ℕ) : Type 0 where
  plan : call_of i m w ≡ Some (plans.Fill a1 n)
  memory : answered_memory c i m h w s ≡ filled a1 (take n m.input) m.memory
  point : point_of h s.ic turns (span_to c i m h w s) ≡ Some (access_point h s.ic turns (aligned a1) (word_count a1 n) Write)

fill_of : (c : RawSettings) (i : Program) (m : Machine) (h a1 a2 n turns : ℕ) (s : HartState) (r : Row) → asked_rows c i m h (reads a1 a2) s ≡ r ∷ [] → result_of r.reg ≡ Some n → 1 ≤ n → n ≤ 4096
    → Fill c i m h (reads a1 a2) s a1 n turns
fill_of c i m h a1 a2 n turns s r rows is low high =
    let pl : Plan = planned i m 63 (0 ∷ a1 ∷ a2 ∷ []) in
    let same : call_row h i s (answered_reg (answer_call pl h m).reply) ≡ r = heads (call_row h i s (answered_reg (answer_call pl h m).reply)) r [] [] rows in
    let plan : pl ≡ plans.Fill a1 n = read_gives i m h a1 a2 n low high (ap (λ (x : Row). result_of x.reg) same ∙ is) in
    record {
      plan = ap Some plan;
      memory = ap (λ (x : Plan). (answer_call x h m).machine.memory) plan;
      point = ap (λ (x : Plan). point_of h s.ic turns (call_span x)) plan;
    }

-- it came as such a read
pub want_reads : (w : Want) (c : RawSettings) (i : Program) (m : Machine) (h : ℕ) (s : HartState) (r : Row) (v : Want) → asked_rows c i m h w s ≡ r ∷ [] → step i s ≡ Asks v
    → (w ≡ Cut) ⊎ (step i s ≡ Asks w) → w ≡ v
want_reads w c i m h s r v rows e (inl cut) = absurd (no_row r (subst (λ (x : Want). asked_rows c i m h x s ≡ r ∷ []) cut rows))
want_reads w c i m h s r v rows e (inr asks) = asks_is w v (sym asks ∙ e)

-- ---- a turn

ask_fills : DecidesWrites → (c : RawSettings) (i : Program) (run : Run) (h : ℕ) (r : Row) (n : ℕ) → AsksOrderly c i run h
    → asked_rows c i run.machine h (want_at c i run h) (asked_at c i run h) ≡ r ∷ [] → IsFillRow (asked_at c i run h) r n → IsFill c i run h (slice_index (asked_at c i run h).x 11) n r.ic
ask_fills decides c i run h r n o rows f =
    let s : HartState = asked_at c i run h in
    let w : Want = want_at c i run h in
    let a1 : ℕ = slice_index s.x 11 in
    let each : AreRowsFrom h i s (r ∷ []) = subst (AreRowsFrom h i s) rows (want_each w c i run.machine h s) in
    let code : code_at i s.pc ≡ Some 0x73 = sym each.0.3 ∙ f.ecall in
    let v : Want = reads a1 (slice_index s.x 12) in
    let is : w ≡ v = want_reads w c i run.machine h s r v rows (ecall_reads i s code f.number f.file) (came i (budget c (run.harts h)) (run.harts h).state) in
    let x : Fill c i run.machine h w s a1 n run.turns =
    subst (λ (y : Want). Fill c i run.machine h y s a1 n run.turns) (sym is)
    (fill_of c i run.machine h a1 (slice_index s.x 12) n run.turns s r (subst (λ (y : Want). asked_rows c i run.machine h y s ≡ r ∷ []) is rows) f.answered f.low f.high) in
    record {
      planned = x.plan;
      memory = ap (λ (y : Run). y.machine.memory) (turn_served c i run h o) ∙ x.memory;
      adds = adds_point c i run h (access_point h r.ic run.turns (aligned a1) (word_count a1 n) Write) o
          (x.point ∙ ap (λ k. Some (access_point h k run.turns (aligned a1) (word_count a1 n) Write)) (sym each.0.1));
      writes = λ a b. fill_writes decides h r.ic run.turns a1 n a b;
    }

pub fill_rows_fill : DecidesWrites → FillRowsFill
fill_rows_fill decides c i run h before r n o has f = elim (turn_row c i run h before r has) [
  | inl q ↦ (let code : code_at i before.pc ≡ Some 0x73 = ap (λ (x : Row). x.word) q.row ∙ f.ecall in
      absurd (not_both i before q.next (reads (slice_index before.x 11) (slice_index before.x 12)) q.quiet (ecall_reads i before code f.number f.file)))
  | inr q ↦ subst (λ (s : HartState). IsFill c i run h (slice_index s.x 11) n r.ic) (sym q.state)
      (ask_fills decides c i run h r n o q.row (subst (λ (s : HartState). IsFillRow s r n) q.state f))
]
