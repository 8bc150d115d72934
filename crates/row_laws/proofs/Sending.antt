-- The rows of write calls that take bytes, and the words in which the bytes of calls lie.
use Rattle.row_laws.proofs.Common.{◌≡◌, ℕ, zero, suc, ◌+◌, ◌-◌, ◌<◌, ◌≤◌, ◌^◌, min, Bool, true, ◌&&◌, [], ◌∷◌, Some, sym, ◌∙◌, ap, subst, inl, inr, arith, ◌==◌, ◌||◌, nat_le, nat_lt, slice_index, list_all, range_with_len, Program, code_at, may_load, may_store, is_writable, part_at, heap_start, heap_limit, Row, RawSettings, HartState, Asks, step, reg, aligned, Want, System, read_plan, write_plan, plan_of, all_bytes, stream_size, stream_len, Plan, Kernel, call_row, access_point, Read, Machine, answer_call, call_of, planned, kernel_of, word_count, answered_reg, Run, point_of, call_span, budget, IsSendRow, AddsCall, result_of, SendRowsSend, AreRowsFrom, AsksOrderly, and_parts, ltb-true, want_at, asked_at, span_to, same_Some, none-some}
use Rattle.system_calls.specs.declared.effect.Plan.TheVariants as plans
use Rattle.row_laws.proofs.Along.{asked_rows, want_each, came}
use Rattle.row_laws.proofs.Cases.{heads, turn_row}
use Rattle.row_laws.proofs.Ecalls.{ecall_asks}
use Rattle.row_laws.proofs.Filling.{not_both, want_reads}
use Rattle.row_laws.proofs.Plans.{if_so}
use Rattle.row_laws.proofs.Telling.{adds_point}

-- ---- where the bytes lie

all_at : (test : ℕ → Bool) (a n k : ℕ) → k < n → all_bytes test a n ≡ true → test (a + k) ≡ true
all_at test a zero k low e = absurd (omega (arith, low))
all_at test a (suc n) zero low e =
    let same : a ≡ a + 0 = omega arith in
    subst (λ (x : ℕ). test x ≡ true) same (and_parts (test a) (list_all test (range_with_len (a + 1) n)) e).0
all_at test a (suc n) (suc k) low e =
    let same : a + 1 + k ≡ a + suc k = omega arith in
    subst (λ (x : ℕ). test x ≡ true) same (all_at test (a + 1) n k (omega (arith, low)) (and_parts (test a) (list_all test (range_with_len (a + 1) n)) e).1)

within : (test : ℕ → Bool) (memory : ℕ) → ((x : ℕ) → test x ≡ true → x < memory) → (a n : ℕ) → all_bytes test a n ≡ true → 1 ≤ n → a + n ≤ memory
within test memory below a zero e low = absurd (omega (arith, low))
within test memory below a (suc n) e low = let last = below (a + n) (all_at test a (suc n) n (omega arith) e) in omega (arith, last)

loads_below : (i : Program) (x : ℕ) → may_load i x ≡ true → x < i.memory
loads_below i x e = ltb-true x i.memory (and_parts (nat_le 4096 x) (nat_lt x i.memory) e).1

stores_below : (i : Program) (x : ℕ) → may_store i x ≡ true → x < i.memory
stores_below i x e = loads_below i x (and_parts (may_load i x) (is_writable (part_at i.parts x)) e).0

-- the bytes of a plan lie below the memory's size
abbrev IsInside : Program → Plan → Type 0
IsInside i (plans.Fill a n) = 1 ≤ n → a + n ≤ i.memory
IsInside i (plans.Send s a n) = 1 ≤ n → a + n ≤ i.memory
IsInside i p = Unit {0}

read_inside : (a0 a1 a2 : ℕ) (k : Kernel) (i : Program) → IsInside i (read_plan a0 a1 a2 k i)
read_inside a0 a1 a2 k i =
    let count : ℕ = min a2 (min 4096 k.input_left) in
    if_so (IsInside i) (a0 == 0) _ _
    (λ e. if_so (IsInside i) (count == 0) _ _ (λ f. tt)
    (λ f. if_so (IsInside i) (all_bytes (may_store i) a1 count) _ _ (λ g. within (may_store i) i.memory (stores_below i) a1 count g) (λ g. tt)))
    (λ e. tt)

write_inside : (a0 a1 a2 : ℕ) (k : Kernel) (i : Program) → IsInside i (write_plan a0 a1 a2 k i)
write_inside a0 a1 a2 k i =
    let count : ℕ = min a2 (min 4096 (stream_size - stream_len a0 k)) in
    if_so (IsInside i) (a0 == 1 || (a0 == 2)) _ _
    (λ e. if_so (IsInside i) (a2 == 0) _ _ (λ f. tt)
    (λ f. if_so (IsInside i) (nat_le stream_size (stream_len a0 k)) _ _ (λ g. tt)
    (λ g. if_so (IsInside i) (all_bytes (may_load i) a1 count) _ _ (λ z. within (may_load i) i.memory (loads_below i) a1 count z) (λ z. tt))))
    (λ e. tt)

plan_inside : (n a0 a1 a2 : ℕ) (k : Kernel) (i : Program) → IsInside i (plan_of n a0 a1 a2 k i)
plan_inside n a0 a1 a2 k i =
    if_so (IsInside i) (n == 63) _ _ (λ e. read_inside a0 a1 a2 k i)
    (λ e. if_so (IsInside i) (n == 64) _ _ (λ f. write_inside a0 a1 a2 k i)
    (λ f. if_so (IsInside i) (n == 93) _ _ (λ g. tt)
    (λ g. if_so (IsInside i) (n == 94) _ _ (λ x. tt)
    (λ x. if_so (IsInside i) (n == 214) _ _ (λ y. if_so (IsInside i) (nat_le (heap_start i) a0 && nat_le a0 (heap_limit i)) _ _ (λ z. tt) (λ z. tt)) (λ y. tt)))))

pub call_inside : (i : Program) (m : Machine) (w : Want) (p : Plan) → call_of i m w ≡ Some p → IsInside i p
call_inside i m (System n args) p e = subst (IsInside i) (same_Some (planned i m n args) p e) (plan_inside n (slice_index args 0) (slice_index args 1) (slice_index args 2) (kernel_of m) i)
call_inside i m w p e = absurd (none-some p e)

-- ---- the plan of a write call, by its result

abbrev GivesSend : ℕ → Machine → ℕ → ℕ → ℕ → Plan → Type 0
GivesSend h m a0 a1 n p = result_of (answered_reg (answer_call p h m).reply) ≡ Some n → p ≡ plans.Send a0 a1 n

write_gives : (i : Program) (m : Machine) (h a0 a1 a2 n : ℕ) → 1 ≤ n → n ≤ 4096 → GivesSend h m a0 a1 n (planned i m 64 (a0 ∷ a1 ∷ a2 ∷ []))
write_gives i m h a0 a1 a2 n low high =
    let count : ℕ = min a2 (min 4096 (stream_size - stream_len a0 (kernel_of m))) in
    if_so (GivesSend h m a0 a1 n) (a0 == 1 || (a0 == 2)) _ (plans.Answer (2 ^ 32 - 9))
    (λ e. if_so (GivesSend h m a0 a1 n) (a2 == 0) (plans.Answer 0) _
    (λ f. (λ x. (let z : 0 ≡ n = same_Some 0 n x in absurd (omega (arith, z, low)))))
    (λ f. if_so (GivesSend h m a0 a1 n) (nat_le stream_size (stream_len a0 (kernel_of m))) (plans.Answer (2 ^ 32 - 28)) _
    (λ g. (λ x. (let z : 2 ^ 32 - 28 ≡ n = same_Some (2 ^ 32 - 28) n x in absurd (omega (arith, z, high)))))
    (λ g. if_so (GivesSend h m a0 a1 n) (all_bytes (may_load i) a1 count) (plans.Send a0 a1 count) (plans.Answer (2 ^ 32 - 14))
    (λ y. (λ x. ap (plans.Send a0 a1) (same_Some count n x)))
    (λ y. (λ x. (let z : 2 ^ 32 - 14 ≡ n = same_Some (2 ^ 32 - 14) n x in absurd (omega (arith, z, high))))))))
    (λ e. (λ x. (let z : 2 ^ 32 - 9 ≡ n = same_Some (2 ^ 32 - 9) n x in absurd (omega (arith, z, high)))))

-- ---- the ask

abbrev writes : ℕ → ℕ → ℕ → Want
writes a0 a1 a2 = System 64 (a0 ∷ a1 ∷ a2 ∷ [])

ecall_writes : (i : Program) (s : HartState) → code_at i s.pc ≡ Some 0x73 → slice_index s.x 17 ≡ 64 → step i s ≡ Asks (writes (slice_index s.x 10) (slice_index s.x 11) (slice_index s.x 12))
ecall_writes i s e f = ecall_asks i s e ∙ ap (λ n. Asks (System n (reg s 10 ∷ reg s 11 ∷ reg s 12 ∷ []))) f

-- what such an ask does
record Send (c : RawSettings) (i : Program) (m : Machine) (h : ℕ) (w : Want) (s : HartState) (a0 a1 n turns : ℕ) : Type 0 where
  plan : call_of i m w ≡ Some (plans.Send a0 a1 n)
  point : point_of h s.ic turns (span_to c i m h w s) ≡ Some (access_point h s.ic turns (aligned a1) (word_count a1 n) Read)

send_of : (c : RawSettings) (i : Program) (m : Machine) (h a0 a1 a2 n turns : ℕ) (s : HartState) (r : Row) → asked_rows c i m h (writes a0 a1 a2) s ≡ r ∷ [] → result_of r.reg ≡ Some n → 1 ≤ n → n ≤ 4096
    → Send c i m h (writes a0 a1 a2) s a0 a1 n turns
send_of c i m h a0 a1 a2 n turns s r rows is low high =
    let pl : Plan = planned i m 64 (a0 ∷ a1 ∷ a2 ∷ []) in
    let same : call_row h i s (answered_reg (answer_call pl h m).reply) ≡ r = heads (call_row h i s (answered_reg (answer_call pl h m).reply)) r [] [] rows in
    let plan : pl ≡ plans.Send a0 a1 n = write_gives i m h a0 a1 a2 n low high (ap (λ (x : Row). result_of x.reg) same ∙ is) in
    record { plan = ap Some plan; point = ap (λ (x : Plan). point_of h s.ic turns (call_span x)) plan }

-- ---- a turn

ask_sends : (c : RawSettings) (i : Program) (run : Run) (h : ℕ) (r : Row) (n : ℕ) → AsksOrderly c i run h
    → asked_rows c i run.machine h (want_at c i run h) (asked_at c i run h) ≡ r ∷ [] → IsSendRow (asked_at c i run h) r n → AddsCall c i run h (slice_index (asked_at c i run h).x 11) n r.ic Read
ask_sends c i run h r n o rows f =
    let s : HartState = asked_at c i run h in
    let w : Want = want_at c i run h in
    let a0 : ℕ = slice_index s.x 10 in
    let a1 : ℕ = slice_index s.x 11 in
    let each : AreRowsFrom h i s (r ∷ []) = subst (AreRowsFrom h i s) rows (want_each w c i run.machine h s) in
    let code : code_at i s.pc ≡ Some 0x73 = sym each.0.3 ∙ f.ecall in
    let v : Want = writes a0 a1 (slice_index s.x 12) in
    let is : w ≡ v = want_reads w c i run.machine h s r v rows (ecall_writes i s code f.number) (came i (budget c (run.harts h)) (run.harts h).state) in
    let x : Send c i run.machine h w s a0 a1 n run.turns =
    subst (λ (y : Want). Send c i run.machine h y s a0 a1 n run.turns) (sym is)
    (send_of c i run.machine h a0 a1 (slice_index s.x 12) n run.turns s r (subst (λ (y : Want). asked_rows c i run.machine h y s ≡ r ∷ []) is rows) f.answered f.low f.high) in
    record {
      adds = adds_point c i run h (access_point h r.ic run.turns (aligned a1) (word_count a1 n) Read) o
          (x.point ∙ ap (λ k. Some (access_point h k run.turns (aligned a1) (word_count a1 n) Read)) (sym each.0.1));
      within = call_inside i run.machine w (plans.Send a0 a1 n) x.plan f.low;
    }

pub send_rows_send : SendRowsSend
send_rows_send c i run h before r n o has f = elim (turn_row c i run h before r has) [
  | inl q ↦ (let code : code_at i before.pc ≡ Some 0x73 = ap (λ (x : Row). x.word) q.row ∙ f.ecall in
      absurd (not_both i before q.next (writes (slice_index before.x 10) (slice_index before.x 11) (slice_index before.x 12)) q.quiet (ecall_writes i before code f.number)))
  | inr q ↦ subst (λ (s : HartState). AddsCall c i run h (slice_index s.x 11) n r.ic Read) (sym q.state)
      (ask_sends c i run h r n o q.row (subst (λ (s : HartState). IsSendRow s r n) q.state f))
]
