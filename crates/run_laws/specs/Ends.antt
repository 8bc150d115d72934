-- The last Ends of harts among records.
use Rattle.std.specs.Prelude.{◌≡◌, ◌<◌, ◌==◌, ℕ, true, false, List, [], ◌∷◌, length, slice_get, Option, Some, None}
use Rattle.std.specs.Option.{option_or}
use Rattle.run_laws.specs.Common.{EndMark, Record, Header, FirstLoad, ScOk, ScFailed, Edge, End}

-- the mark of a record, if it is an End of hart h
abbrev pub end_of : ℕ → Record → Option EndMark
end_of h (Header k n ic pc x) = None
end_of h (FirstLoad k skip value) = None
end_of h (ScOk k) = None
end_of h (ScFailed k) = None
end_of h (Edge k ic s j) = None
end_of h (End k mark) = elim (h == k) [ true ↦ Some mark | false ↦ None ]

-- the mark of hart h's last End among records; None if it has none
abbrev pub last_end : ℕ → List Record → Option EndMark
last_end h [] = None
last_end h (r ∷ rs) = option_or (last_end h rs) (end_of h r)

-- of so many harts with these last marks, each that has an End among the records has the mark of its last one
abbrev pub AreLastMarks : List Record → List (Option EndMark) → Type 0
AreLastMarks records marks = (h : ℕ) (m : EndMark) → h < length marks → last_end h records ≡ Some m → slice_get marks h ≡ Some (Some m)
