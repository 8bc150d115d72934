-- What a list keeps of a record, and the record that this represents.
use Rattle.std.specs.Prelude.{ℕ, ◌<◌, List, [], ◌∷◌, slice_index_or}
use Rattle.bn_base.specs.declared.state.HartState.{HartState}
use Rattle.log_record.specs.declared.record.Record.{Record}
use Rattle.log_record.specs.declared.record.Record.TheVariants.{Header, FirstLoad, ScOk, ScFailed, Edge, End}
use Rattle.log_record.specs.declared.stored_record.StoredRecord.{StoredRecord}
use Rattle.log_record.specs.declared.stored_record.StoredRecord.TheVariants.{Header as KeptHeader, FirstLoad as KeptLoad, ScOk as KeptOk, ScFailed as KeptFailed, Edge as KeptEdge, End as KeptEnd}

-- the state of a hart with this pc, registers and count
abbrev pub state_of : ℕ → List ℕ → ℕ → HartState
state_of pc x ic = record { pc = pc; x = x; ic = ic }

-- the states that a record tells: a Header's one
abbrev pub states_of : Record → List HartState
states_of (Header h n ic pc x) = state_of pc x ic ∷ []
states_of (FirstLoad h skip value) = []
states_of (ScOk h) = []
states_of (ScFailed h) = []
states_of (Edge h ic s j) = []
states_of (End h mark) = []

-- what is kept of a record at its own place, if a Header's state has this place among the states
abbrev pub entry_of : ℕ → Record → StoredRecord
entry_of place (Header h n ic pc x) = KeptHeader h place n
entry_of place (FirstLoad h skip value) = KeptLoad h skip value
entry_of place (ScOk h) = KeptOk h
entry_of place (ScFailed h) = KeptFailed h
entry_of place (Edge h ic s j) = KeptEdge h s ic j
entry_of place (End h mark) = KeptEnd h mark

-- the Header of an interval that begins in a state
abbrev pub header_with : ℕ → ℕ → HartState → Record
header_with h n state = Header h n state.ic state.pc state.x

-- the record that is kept so beside these states
abbrev pub record_of : List HartState → StoredRecord → Record
record_of states (KeptHeader h place n) = header_with h n (slice_index_or states place (state_of 0 [] 0))
record_of states (KeptLoad h skip value) = FirstLoad h skip value
record_of states (KeptOk h) = ScOk h
record_of states (KeptFailed h) = ScFailed h
record_of states (KeptEdge h s ic j) = Edge h ic s j
record_of states (KeptEnd h mark) = End h mark

-- a Header's state is one of so many
abbrev pub IsKept : ℕ → StoredRecord → Type 0
IsKept count (KeptHeader h place n) = place < count
IsKept count (KeptLoad h skip value) = Unit {0}
IsKept count (KeptOk h) = Unit {0}
IsKept count (KeptFailed h) = Unit {0}
IsKept count (KeptEdge h s ic j) = Unit {0}
IsKept count (KeptEnd h mark) = Unit {0}
