-- The words for the reasons that end an interval.
use Rattle.std.specs.Prelude.{ℕ, ◌==◌, List, codes, if◌then◌else◌}
use Rattle.bn_base.specs.declared.fault.Fault.TheVariants.{Illegal, Breakpoint, FetchOutside, TargetMisaligned, LoadOutside, LoadMisaligned, StoreOutside, StoreMisaligned, StoreReadOnly}
use Rattle.bn_base.specs.Faults.{fault_name}

-- the word for a reason's code; a fault has 16 plus its number
unfoldable pub reason_word : ℕ → List ℕ
reason_word r =
    if r == 1 then codes "length" else
    if r == 2 then codes "call" else
    if r == 3 then codes "exit" else
    if r == 4 then codes "group" else
    if r == 5 then codes "stopped" else
    if r == 6 then codes "guard" else
    if r == 7 then codes "limit" else
    if r == 17 then fault_name Illegal else
    if r == 18 then fault_name Breakpoint else
    if r == 19 then fault_name FetchOutside else
    if r == 20 then fault_name TargetMisaligned else
    if r == 21 then fault_name LoadOutside else
    if r == 22 then fault_name LoadMisaligned else
    if r == 23 then fault_name StoreOutside else
    if r == 24 then fault_name StoreMisaligned else
    if r == 25 then fault_name StoreReadOnly else
    codes "-"
