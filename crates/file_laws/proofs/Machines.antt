-- Answers to asks that hold words are words, and memory keeps to them.
use Rattle.file_laws.proofs.Common.{◌≡◌, ℕ, zero, suc, ◌+◌, ◌-◌, ◌/◌, ◌%◌, ◌<◌, ◌≤◌, ◌^◌, Bool, true, false, ◌&&◌, ◌||◌, min, cond, nat_le, Option, Some, None, List, [], ◌∷◌, take, slice_index, get_or, refl, arith, if◌then◌else◌, ◌==◌, AllByRecursion, Program, Part, AreApart, IsProgram, code_at, first_at, part_at, part_or, is_in, word_in, code_in, first_in, may_load, may_store, end_of, highest_end, heap_start, heap_limit, RawSettings, HartState, aligned, with_bytes, add, AreWords, stored_word, amo_result, loaded_value, passes, is_aligned, absorbed, next_with, Ask, Want, Load, Store, LoadReserved, StoreConditional, Amo, System, Cut, Faulted, Reply, Plan, HasWords, Hart, TurnEnd, GoesOn, NewInterval, HartOver, RunOver, Machine, Answered, answer, answer_access, answer_call, answer_sc, call_of, planned, kernel_of, put_byte, filled, is_reserved, bytes_in, sent, next_of, after_call}
use Rattle.rv_meaning.specs.Execute.{after}
use Rattle.rv_meaning.specs.declared.asks.Reply.TheVariants as replies
use Rattle.system_calls.specs.declared.kernel.Kernel.{Kernel}
use Rattle.system_calls.specs.declared.effect.Plan.TheVariants as plans
use Rattle.system_calls.specs.Calls.{plan_of, read_plan, write_plan, break_plan, fill_plan, send_plan, error_answer, all_bytes, stream_size, stream_len}
use Rattle.bus_memory.specs.Contents.{updated}
use Rattle.file_laws.proofs.Asks.{IsFormed, HoldsWords, AsksWell, HasCode, put_words, formed_with, formed_at, next_pc}
use Rattle.file_laws.proofs.Words.{with_byte, stored, amo_word, loaded_word}

-- ---- programs

got_word : (ws : List ℕ) (n : ℕ) → AllByRecursion (λ w. w < 2 ^ 32) ws → get_or ws n 0 < 2 ^ 32
got_word [] n a = omega arith
got_word (w ∷ ws) zero a = a.0
got_word (w ∷ ws) (suc n) a = got_word ws n a.1

-- the part, if there is one, has words
PartHasWords : Option Part → Type 0
PartHasWords None = Unit {0}
PartHasWords (Some p) = HasWords p

chosen_part : (b : Bool) (p : Part) (o : Option Part) → HasWords p → PartHasWords o → PartHasWords (part_or b p o)
unfolding PartHasWords
chosen_part true p o h k = h
chosen_part false p o h k = k

part_words : (ps : List Part) (a : ℕ) → AllByRecursion HasWords ps → PartHasWords (part_at ps a)
unfolding PartHasWords
part_words [] a h = tt
part_words (p ∷ ps) a h = chosen_part (is_in p a) p (part_at ps a) h.0 (part_words ps a h.1)

code_by : (executable : Bool) (w : ℕ) → w < 2 ^ 32 → HasCode (elim executable as (λ x. Option ℕ) [ true ↦ Some w | false ↦ None ])
code_by true w h = h
code_by false w h = tt

code_of : (o : Option Part) (a : ℕ) → PartHasWords o → HasCode (code_in o a)
unfolding PartHasWords
code_of None a h = tt
code_of (Some p) a h = code_by p.executable (word_in p a) (got_word p.words ((a - p.first) / 4) h)

code_if : (b : Bool) (o : Option ℕ) → HasCode o → HasCode (elim b as (λ x. Option ℕ) [ true ↦ o | false ↦ None ])
code_if true o h = h
code_if false o h = tt

pub code_words : (i : Program) → AllByRecursion HasWords i.parts → (a : ℕ) → HasCode (code_at i a)
code_words i h a = code_if (a % 4 == 0) (code_in (part_at i.parts a) a) (code_of (part_at i.parts a) a (part_words i.parts a h))

first_of_part : (o : Option Part) (a : ℕ) → PartHasWords o → first_in o a < 2 ^ 32
unfolding PartHasWords
first_of_part None a h = omega arith
first_of_part (Some p) a h = got_word p.words ((a - p.first) / 4) h

pub first_words : (i : Program) → AllByRecursion HasWords i.parts → (a : ℕ) → first_at i a < 2 ^ 32
first_words i h a = first_of_part (part_at i.parts a) a (part_words i.parts a h)

apart_bound : (low high : ℕ) (ps : List Part) → AreApart low high ps → low ≤ high
apart_bound low high [] a = a
apart_bound low high (p ∷ ps) a = omega (arith, a.0, apart_bound (end_of p) high ps a.1)

highest_bound : (low high : ℕ) (ps : List Part) → AreApart low high ps → highest_end ps ≤ high
highest_bound low high [] a = omega arith
highest_bound low high (p ∷ ps) a = omega (arith, apart_bound (end_of p) high ps a.1, highest_bound (end_of p) high ps a.1)

pub heap_word : (i : Program) → IsProgram i → heap_start i < 2 ^ 32
heap_word i p = omega (arith, highest_bound 4096 i.memory i.parts p.apart, p.memory_high)

-- ---- what is planned

-- the number that a call gives or ends with
abbrev pub PlanIsWord : Plan → Type 0
PlanIsWord (plans.Fill a n) = n < 2 ^ 32
PlanIsWord (plans.Send s a n) = n < 2 ^ 32
PlanIsWord (plans.Break v) = v < 2 ^ 32
PlanIsWord (plans.Answer v) = v < 2 ^ 32
PlanIsWord (plans.EndHart v) = v < 2 ^ 32
PlanIsWord (plans.EndRun v) = v < 2 ^ 32

plan_if : (b : Bool) (p q : Plan) → PlanIsWord p → PlanIsWord q → PlanIsWord (if b then p else q)
plan_if true p q h k = h
plan_if false p q h k = k

error_word : (n : ℕ) → 1 ≤ n → 2 ^ 32 - n < 2 ^ 32
error_word n h = omega (arith, h)

short : (count left : ℕ) → min count (min 4096 left) < 2 ^ 32
short count left = omega arith

fill_word : (a n : ℕ) (i : Program) → n < 2 ^ 32 → PlanIsWord (fill_plan a n i)
fill_word a n i h =
    plan_if (n == 0) (plans.Answer 0) (if all_bytes (may_store i) a n then plans.Fill a n else error_answer 14) (omega arith)
    (plan_if (all_bytes (may_store i) a n) (plans.Fill a n) (error_answer 14) h (error_word 14 (omega arith)))

read_word : (file a n : ℕ) (k : Kernel) (i : Program) → PlanIsWord (read_plan file a n k i)
read_word file a n k i = plan_if (file == 0) (fill_plan a (min n (min 4096 k.input_left)) i) (error_answer 9) (fill_word a (min n (min 4096 k.input_left)) i (short n k.input_left)) (error_word 9 (omega arith))

send_word : (file a n : ℕ) (i : Program) → n < 2 ^ 32 → PlanIsWord (send_plan file a n i)
send_word file a n i h = plan_if (all_bytes (may_load i) a n) (plans.Send file a n) (error_answer 14) h (error_word 14 (omega arith))

write_word : (file a n : ℕ) (k : Kernel) (i : Program) → PlanIsWord (write_plan file a n k i)
write_word file a n k i =
    let sends = send_plan file a (min n (min 4096 (stream_size - stream_len file k))) i in
    let spaced = if nat_le stream_size (stream_len file k) then error_answer 28 else sends in
    plan_if ((file == 1) || (file == 2)) (if n == 0 then plans.Answer 0 else spaced) (error_answer 9)
    (plan_if (n == 0) (plans.Answer 0) spaced (omega arith)
    (plan_if (nat_le stream_size (stream_len file k)) (error_answer 28) sends (error_word 28 (omega arith)) (send_word file a (min n (min 4096 (stream_size - stream_len file k))) i (short n (stream_size - stream_len file k)))))
    (error_word 9 (omega arith))

break_word : (a : ℕ) (k : Kernel) (i : Program) → a < 2 ^ 32 → k.brk < 2 ^ 32 → PlanIsWord (break_plan a k i)
break_word a k i h b = plan_if (nat_le (heap_start i) a && nat_le a (heap_limit i)) (plans.Break a) (plans.Answer k.brk) h b

plan_word : (number a b n : ℕ) (k : Kernel) (i : Program) → a < 2 ^ 32 → k.brk < 2 ^ 32 → PlanIsWord (plan_of number a b n k i)
plan_word number a b n k i h low =
    let none = error_answer 38 in
    let breaks = if number == 214 then break_plan a k i else none in
    let all_end = if number == 94 then plans.EndRun a else breaks in
    let one_ends = if number == 93 then plans.EndHart a else all_end in
    let writes = if number == 64 then write_plan a b n k i else one_ends in
    plan_if (number == 63) (read_plan a b n k i) writes (read_word a b n k i)
    (plan_if (number == 64) (write_plan a b n k i) one_ends (write_word a b n k i)
    (plan_if (number == 93) (plans.EndHart a) all_end h
    (plan_if (number == 94) (plans.EndRun a) breaks h
    (plan_if (number == 214) (break_plan a k i) none (break_word a k i h low) (error_word 38 (omega arith))))))

-- ---- answers

-- memory and the break hold words
pub record HoldsMachine (m : Machine) : Type 0 where
  pub memory : (a : ℕ) → m.memory a < 2 ^ 32
  pub brk : m.brk < 2 ^ 32

abbrev pub ReplyIsWord : Reply → Type 0
ReplyIsWord (replies.Word w) = w < 2 ^ 32
ReplyIsWord (replies.Answer v) = v < 2 ^ 32
ReplyIsWord reply = Unit {0}

-- the reply is a word, if it is a number, and the machine still holds words
pub record AnswersWell (x : Answered) : Type 0 where
  pub reply : ReplyIsWord x.reply
  pub machine : HoldsMachine x.machine

chosen_word : (b : Bool) (v w : ℕ) → v < 2 ^ 32 → w < 2 ^ 32 → cond b v w < 2 ^ 32
chosen_word true v w h k = h
chosen_word false v w h k = k

updated_words : (a v : ℕ) (memory : ℕ → ℕ) → v < 2 ^ 32 → ((b : ℕ) → memory b < 2 ^ 32) → (b : ℕ) → updated a v memory b < 2 ^ 32
updated_words a v memory h words b = chosen_word _ v (memory b) h (words b)

put_byte_words : (a v : ℕ) (memory : ℕ → ℕ) → ((b : ℕ) → memory b < 2 ^ 32) → (b : ℕ) → put_byte a v memory b < 2 ^ 32
put_byte_words a v memory words = updated_words (aligned a) (with_bytes (a % 4) 1 v (memory (aligned a))) memory (with_byte a v (memory (aligned a)) (words (aligned a))) words

filled_words : (a : ℕ) (vs : List ℕ) (memory : ℕ → ℕ) → ((b : ℕ) → memory b < 2 ^ 32) → (b : ℕ) → filled a vs memory b < 2 ^ 32
filled_words a [] memory words = words
filled_words a (v ∷ vs) memory words = filled_words (a + 1) vs (put_byte a v memory) (put_byte_words a v memory words)

sent_words : (b : Bool) (bytes : List ℕ) (m : Machine) → HoldsMachine m → HoldsMachine (sent b bytes m)
sent_words true bytes m h = record { memory = h.memory; brk = h.brk }
sent_words false bytes m h = record { memory = h.memory; brk = h.brk }

call_well : (plan : Plan) (h : ℕ) (m : Machine) → PlanIsWord plan → HoldsMachine m → AnswersWell (answer_call plan h m)
call_well (plans.Fill a n) h m p k = record { reply = p; machine = record { memory = filled_words a (take n m.input) m.memory k.memory; brk = k.brk } }
call_well (plans.Send s a n) h m p k = record { reply = p; machine = sent_words (s == 1) (bytes_in m.memory a n) _ (record { memory = k.memory; brk = k.brk }) }
call_well (plans.Break v) h m p k = record { reply = p; machine = record { memory = k.memory; brk = p } }
call_well (plans.Answer v) h m p k = record { reply = p; machine = record { memory = k.memory; brk = k.brk } }
call_well plan h m p k = record { reply = tt; machine = record { memory = k.memory; brk = k.brk } }

sc_well : (b : Bool) (a v h : ℕ) (m : Machine) → v < 2 ^ 32 → HoldsMachine m → AnswersWell (answer_sc b a v h m)
sc_well true a v h m p k = record { reply = tt; machine = record { memory = updated_words a v m.memory p k.memory; brk = k.brk } }
sc_well false a v h m p k = record { reply = tt; machine = record { memory = k.memory; brk = k.brk } }

cut_well : (b : Bool) → ReplyIsWord (if b then replies.Over else replies.Went)
cut_well true = tt
cut_well false = tt

first_of_both : (a b : Bool) → (a && b) ≡ true → a ≡ true
first_of_both true b e = refl
first_of_both false b e = cc

asks : Want → HartState → Ask
asks want s = record { state = s; want = want }

access_well : (want : Want) (c : RawSettings) (i : Program) (m : Machine) (h : ℕ) (s : HartState) → HoldsWords want → passes i want ≡ true → HoldsMachine m → AnswersWell (answer_access c m h (asks want s))
unfolding asks
access_well (Load a width signed rd) c i m h s p e k = record { reply = k.memory (aligned a); machine = k }
access_well (LoadReserved a rd) c i m h s p e k = record { reply = k.memory a; machine = record { memory = k.memory; brk = k.brk } }
access_well (Store a width v) c i m h s p e k =
    record { reply = tt; machine = record { memory = updated_words (aligned a) (stored_word a width v (m.memory (aligned a))) m.memory (stored a width v (m.memory (aligned a)) (first_of_both (is_aligned a width) _ e) p (k.memory (aligned a))) k.memory; brk = k.brk } }
access_well (Amo a op rd v) c i m h s p e k =
    record { reply = k.memory a; machine = record { memory = updated_words a (amo_result op (m.memory a) v) m.memory (amo_word op (m.memory a) v (k.memory a) p) k.memory; brk = k.brk } }
access_well (StoreConditional a rd v) c i m h s p e k = sc_well (is_reserved (m.reserved h) a) a v h m p k
access_well Cut c i m h s p e k = record { reply = cut_well (nat_le c.limit s.ic); machine = k }
access_well want c i m h s p e k = record { reply = tt; machine = k }

answer_by : (want : Want) (c : RawSettings) (i : Program) (m : Machine) (h : ℕ) (s : HartState) → HoldsWords want → passes i want ≡ true → HoldsMachine m → AnswersWell (answer c (call_of i m want) m h (asks want s))
unfolding asks
answer_by (System number args) c i m h s p e k =
    call_well (planned i m number args) h m (plan_word number (slice_index args 0) (slice_index args 1) (slice_index args 2) (kernel_of m) i (p 0) k.brk) k
answer_by want c i m h s p e k = access_well want c i m h s p e k

-- the answer to an ask that holds words
pub answer_well : (c : RawSettings) (i : Program) (m : Machine) (h : ℕ) (ask : Ask) → AsksWell ask → passes i ask.want ≡ true → HoldsMachine m → AnswersWell (answer c (call_of i m ask.want) m h ask)
unfolding asks
answer_well c i m h ask a e k = answer_by ask.want c i m h ask.state a.want e k

-- ---- the state after the reply

-- a state whose numbers are words
pub record IsWordState (s : HartState) : Type 0 where
  pub registers : AreWords s.x
  pub formed : IsFormed s

state_with : (rd v : ℕ) (s : HartState) → v < 2 ^ 32 → IsWordState s → IsWordState (next_with rd v s)
state_with rd v s p w = record { registers = put_words rd v s.x p w.registers; formed = formed_with rd v s w.formed }

state_by : (want : Want) (reply : Reply) (s : HartState) → ReplyIsWord reply → IsWordState s → IsWordState (after want reply s)
state_by (Load addr width signed rd) (replies.Word w) s p h = state_with rd (loaded_value addr width signed w) s (loaded_word addr width signed w p) h
state_by (LoadReserved addr rd) (replies.Word w) s p h = state_with rd w s p h
state_by (Amo addr op rd value) (replies.Word w) s p h = state_with rd w s p h
state_by (Store addr width value) replies.Stored s p h = record { registers = h.registers; formed = formed_at (add s.pc 4) s (next_pc s) h.formed }
state_by (StoreConditional addr rd value) replies.ScOk s p h = state_with rd 0 s (omega arith) h
state_by (StoreConditional addr rd value) replies.ScFailed s p h = state_with rd 1 s (omega arith) h
state_by (System number args) (replies.Answer v) s p h = state_with 10 v s p h
state_by (System number args) replies.Over s p h = record { registers = h.registers; formed = record { pc = h.formed.pc; count = h.formed.count; zero_first = h.formed.zero_first } }
state_by want reply s p h = h

pub state_after : (ask : Ask) (reply : Reply) → ReplyIsWord reply → AsksWell ask → IsWordState (absorbed ask reply)
state_after ask reply p a = state_by ask.want reply ask.state p (record { registers = a.registers; formed = a.formed })

-- ---- the value with which an interval ends

abbrev pub EndIsWord : TurnEnd → Type 0
EndIsWord GoesOn = Unit {0}
EndIsWord (NewInterval reason value) = value < 2 ^ 32
EndIsWord (HartOver reason value) = value < 2 ^ 32
EndIsWord (RunOver reason value) = value < 2 ^ 32

counted_word : (full end : Bool) → EndIsWord (elim end as (λ x. TurnEnd) [ true ↦ HartOver 7 0 | false ↦ elim full as (λ x. TurnEnd) [ true ↦ NewInterval 1 0 | false ↦ GoesOn ] ])
counted_word full true = omega arith
counted_word true false = omega arith
counted_word false false = tt

call_word : (plan : Plan) (reply : Reply) → PlanIsWord plan → ReplyIsWord reply → EndIsWord (after_call plan reply)
call_word (plans.EndHart v) reply p r = p
call_word (plans.EndRun v) reply p r = p
call_word plan (replies.Answer v) p r = r
call_word plan reply p r = tt

pub end_word : (want : Want) (c : RawSettings) (i : Program) (m : Machine) (h : Hart) (reply : Reply) (ic : ℕ) → HoldsWords want → HoldsMachine m → ReplyIsWord reply → EndIsWord (next_of c (call_of i m want) h want reply ic)
end_word (System number args) c i m h reply ic p k r =
    call_word (planned i m number args) reply (plan_word number (slice_index args 0) (slice_index args 1) (slice_index args 2) (kernel_of m) i (p 0) k.brk) r
end_word (Faulted kind value) c i m h reply ic p k r = p
end_word want c i m h reply ic p k r = counted_word (nat_le c.interval (ic - h.begun)) (nat_le c.limit ic)
