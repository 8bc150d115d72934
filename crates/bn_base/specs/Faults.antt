-- The numbers and names of faults.
use Rattle.std.specs.Prelude.{ℕ, List, codes}
use Rattle.bn_base.specs.declared.fault.Fault.{Fault}
use Rattle.bn_base.specs.declared.fault.Fault.TheVariants.{Illegal, Breakpoint, FetchOutside, TargetMisaligned, LoadOutside, LoadMisaligned, StoreOutside, StoreMisaligned, StoreReadOnly}

-- the number of a fault
abbrev pub fault_number : Fault → ℕ
fault_number Illegal = 1
fault_number Breakpoint = 2
fault_number FetchOutside = 3
fault_number TargetMisaligned = 4
fault_number LoadOutside = 5
fault_number LoadMisaligned = 6
fault_number StoreOutside = 7
fault_number StoreMisaligned = 8
fault_number StoreReadOnly = 9

-- the name of a fault, in ASCII
unfoldable pub fault_name : Fault → List ℕ
fault_name Illegal = codes "Illegal"
fault_name Breakpoint = codes "Breakpoint"
fault_name FetchOutside = codes "FetchOutside"
fault_name TargetMisaligned = codes "TargetMisaligned"
fault_name LoadOutside = codes "LoadOutside"
fault_name LoadMisaligned = codes "LoadMisaligned"
fault_name StoreOutside = codes "StoreOutside"
fault_name StoreMisaligned = codes "StoreMisaligned"
fault_name StoreReadOnly = codes "StoreReadOnly"
