-- How often a source is read.
use Rattle.step_debugger.proofs.Common.{◌≡◌, ℕ, ◌+◌, inl, List, [], ◌∷◌, ◌++◌, length, sym, arith, length-append, Err, Supply, Trace, DebugError, ReadFault, WriteFault, LineTooLong, TooMuch, Joint, OutOfMemory, Reading, TakesByte, reads_for, IsReadOnce}

-- bytes, and then one more
pub byte_read : (line : List ℕ) (byte : ℕ) → length line + 1 ≡ length (line ++ byte ∷ [])
byte_read line byte = let size = length-append line (byte ∷ []) in omega (arith, size)

-- one that isn't taken
pub not_taken : (r : Reading) (byte : ℕ) (new : Reading) (e : DebugError) → TakesByte r byte (Err e) new → length r.line + 1 ≡ reads_for (r.line ++ byte ∷ []) (Err e)
not_taken r byte new ReadFault t = absurd t
not_taken r byte new WriteFault t = byte_read r.line byte
not_taken r byte new (LineTooLong n) t = byte_read r.line byte
not_taken r byte new (TooMuch n) t = byte_read r.line byte
not_taken r byte new (Joint f) t = byte_read r.line byte
not_taken r byte new OutOfMemory t = byte_read r.line byte

-- bytes, and then more
pub joined_reads : (xs ys : List ℕ) → length xs + length ys ≡ length (xs ++ ys)
joined_reads xs ys = sym (length-append xs ys)

pub joined_one : (xs ys : List ℕ) → length xs + (length ys + 1) ≡ length (xs ++ ys) + 1
joined_one xs ys = let size = length-append xs ys in omega (arith, size)

-- no line is left to read
pub not_read_once : (t : Trace) (input now_input : Supply) (xs ys : List ℕ) (e : DebugError) → IsReadOnce t (xs ++ ys) input now_input (length xs + reads_for ys (Err e)) (Err e)
not_read_once t input now_input xs ys ReadFault = joined_one xs ys
not_read_once t input now_input xs ys (LineTooLong n) = joined_reads xs ys
not_read_once t input now_input xs ys (TooMuch n) = joined_reads xs ys
not_read_once t input now_input xs ys WriteFault = inl (joined_reads xs ys)
not_read_once t input now_input xs ys (Joint f) = inl (joined_reads xs ys)
not_read_once t input now_input xs ys OutOfMemory = inl (joined_reads xs ys)
