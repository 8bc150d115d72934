-- A refusal and out of memory are told apart.
use Rattle.step_debugger.proofs.Common.{Err, Trace, DebugError, ReadFault, WriteFault, LineTooLong, TooMuch, Joint, OutOfMemory, StaysUnrefused, StopsApart, LineApart}

-- one after another
pub then : (a b c : Trace) → StaysUnrefused a b → StaysUnrefused b c → StaysUnrefused a c
then a b c h k = λ u. k (h u)

-- an error stops a line, and with it the session
pub line_apart : (a b c : Trace) (e : DebugError) → StaysUnrefused a b → LineApart b (Err e) c → StopsApart a (Err e) c
line_apart a b c ReadFault h k = tt
line_apart a b c WriteFault h k = tt
line_apart a b c (LineTooLong n) h k = tt
line_apart a b c (TooMuch n) h k = tt
line_apart a b c (Joint f) h k = k
line_apart a b c OutOfMemory h k = λ u. k (h u)
