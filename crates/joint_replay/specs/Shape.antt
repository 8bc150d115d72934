-- The intervals of a hart in a log in order.
use Rattle.std.specs.Prelude.{◌≡◌, ℕ, ◌+◌, ◌≤◌, ◌==◌, Bool, true, false, List, [], ◌∷◌, Option, Some, None}
use Rattle.joint_replay.specs.Common.{EndMark, Record, Header, Phase, is_number, puts, nothing}
use Rattle.log_order.specs.declared.view.Phase.TheVariants.{Unknown, Awaiting, Open, Done}

-- an interval: its number, the Header's count, and the End's mark
pub record Span : Type 0 where
  pub number : ℕ
  pub begin : ℕ
  pub mark : EndMark

-- the mark of hart h's first End
abbrev pub mark_of : ℕ → List Record → EndMark
mark_of h rs = (puts h rs nothing).mark

-- hart h's intervals, in the order of their Headers
abbrev pub spans : ℕ → List Record → List Span
spans h [] = []
spans h (Header k n ic pc x ∷ rs) = elim (k == h) [ true ↦ record { number = n; begin = ic; mark = mark_of h rs } ∷ spans h rs | false ↦ spans h rs ]
spans h (r ∷ rs) = spans h rs

-- intervals one after another: numbers rise by one, and each begins at the end of the one before it
abbrev pub AreSpans : ℕ → Option ℕ → ℕ → List Span → Type 0
AreSpans limit next begin [] = Unit {0}
AreSpans limit next begin (s ∷ ss) = (is_number next s.number ≡ true) × (s.begin ≡ begin) × (s.begin ≤ s.mark.ic) × (s.mark.ic ≤ limit) × AreSpans limit (Some (s.number + 1)) s.mark.ic ss

-- what is known of a hart's later intervals by its phase
abbrev pub Fits : ℕ → Phase → EndMark → List Span → Type 0
Fits limit Unknown m [] = Unit {0}
Fits limit Unknown m (s ∷ ss) = AreSpans limit None s.begin (s ∷ ss)
Fits limit (Awaiting next begin) m ss = AreSpans limit next begin ss
Fits limit (Open next since) m ss = (since ≤ m.ic) × (m.ic ≤ limit) × AreSpans limit (Some next) m.ic ss
Fits limit Done m ss = ss ≡ []

-- whether the records so far tell the count that the hart has
abbrev pub is_known : Phase → Bool
is_known Unknown = false
is_known (Awaiting next begin) = true
is_known (Open next since) = true
is_known Done = true
