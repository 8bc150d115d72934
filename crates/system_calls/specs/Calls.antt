-- What a system call of a guest does: numbers and errors are those of Linux on RISC-V.
use Rattle.std.specs.Prelude.{ℕ, ◌+◌, ◌-◌, ◌^◌, ◌≤◌, ◌==◌, ⊤, min, Bool, nat_le, ◌&&◌, ◌||◌, if◌then◌else◌}
use Rattle.std.specs.List.{list_all, range_with_len}
use Rattle.bn_base.specs.Programs.{Program, may_load, may_store, heap_start, heap_limit}
use Rattle.system_calls.specs.declared.kernel.Kernel.{Kernel}
use Rattle.system_calls.specs.declared.effect.Plan.{Plan}
use Rattle.system_calls.specs.declared.effect.Plan.TheVariants.{Fill, Send, Break, EndHart, EndRun, Answer}

-- whether each of `count` bytes from an address on passes a test; addresses do not wrap, so a range that passes 2 ^ 32 is not mapped
abbrev pub all_bytes : (ℕ → Bool) → ℕ → ℕ → Bool
all_bytes test address count = list_all test (range_with_len address count)

-- an error is answered as its number, negated modulo 2 ^ 32
abbrev pub error_answer : ℕ → Plan
error_answer error = Answer (2 ^ 32 - error)

-- the bytes are filled from the input, if there are some and all of them are mapped and writable (error 14: bad address)
abbrev pub fill_plan : (address count : ℕ) → Program → Plan
fill_plan address count i =
    if count == 0 then Answer 0 else
    if all_bytes (may_store i) address count then Fill address count else
    error_answer 14

-- read: from file 0 alone (error 9: bad file number), at most 4,096 bytes and those that are left of the input
abbrev pub read_plan : (file address count : ℕ) → Kernel → Program → Plan
read_plan file address count k i =
    if file == 0 then fill_plan address (min count (min 4096 k.input_left)) i else
    error_answer 9

-- how many bytes a stream may hold
abbrev pub stream_size : ℕ
stream_size = 16777216

-- how many bytes a stream holds: file 1 is the first one, file 2 the second
abbrev pub stream_len : ℕ → Kernel → ℕ
stream_len file k = if file == 1 then k.out_len else k.err_len

-- the bytes are appended to the stream, if all of them are mapped
abbrev pub send_plan : (file address count : ℕ) → Program → Plan
send_plan file address count i =
    if all_bytes (may_load i) address count then Send file address count else
    error_answer 14

-- write: to file 1 or 2 alone, at most 4,096 bytes and those that the stream has room for (error 28: no space)
abbrev pub write_plan : (file address count : ℕ) → Kernel → Program → Plan
write_plan file address count k i =
    if (file == 1) || (file == 2) then
    (if count == 0 then Answer 0 else
    if nat_le stream_size (stream_len file k) then error_answer 28 else
    send_plan file address (min count (min 4096 (stream_size - stream_len file k))) i) else
    error_answer 9

-- brk: the break is set to an address from the heap's start to its limit; another leaves it, and the present break is answered
abbrev pub break_plan : ℕ → Kernel → Program → Plan
break_plan address k i =
    if nat_le (heap_start i) address && nat_le address (heap_limit i) then Break address else
    Answer k.brk

-- what the call of a number does with its three arguments: read, write, exit, exit_group, brk; no other is there (error 38: no such call)
abbrev pub plan_of : (number a0 a1 a2 : ℕ) → Kernel → Program → Plan
plan_of number a0 a1 a2 k i =
    if number == 63 then read_plan a0 a1 a2 k i else
    if number == 64 then write_plan a0 a1 a2 k i else
    if number == 93 then EndHart a0 else
    if number == 94 then EndRun a0 else
    if number == 214 then break_plan a0 k i else
    error_answer 38

-- what every plan keeps to: short counts, mapped ranges, the input, the room of a stream, the heap
abbrev pub IsWithin : Plan → Kernel → Program → Type 0
IsWithin (Fill address count) k i = (1 ≤ count) × (count ≤ 4096) × (count ≤ k.input_left) × (4096 ≤ address) × (address + count ≤ i.memory)
IsWithin (Send stream address count) k i = (1 ≤ count) × (count ≤ 4096) × (stream_len stream k + count ≤ stream_size) × (4096 ≤ address) × (address + count ≤ i.memory)
IsWithin (Break value) k i = (heap_start i ≤ value) × (value ≤ heap_limit i)
IsWithin (Answer value) k i = ⊤
IsWithin (EndHart code) k i = ⊤
IsWithin (EndRun code) k i = ⊤
