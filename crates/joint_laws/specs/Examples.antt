-- The orders of small recordings.
use Rattle.std.specs.Prelude.{ℕ, true, false, zero, suc, ◌-◌, ◌==◌, slice_index, slice_set, List, [], ◌∷◌, drop, filter, is_some, length, map, Option, Some, None}
use Rattle.joint_laws.specs.Common.{flat_map, range_with_len, Recording, a_relay, program_of, recorded, Hart, AllDone, NoneReady, Joining, begun, fresh, choice, ready_step, walk_on}
use Rattle.bn_base.specs.Ranges.{default_settings}

-- the whole allowed orders of so many steps from here on, by ascending harts
abbrev pub orders_from : ℕ → Joining → List (List ℕ)
orders_from zero j = elim (choice j) [ AllDone ↦ [] ∷ [] | NoneReady ↦ [] | Hart h ↦ [] ]
orders_from (suc n) j = flat_map (λ h. elim (ready_step j h) [ None ↦ [] | Some x ↦ map (λ order. h ∷ order) (orders_from n x.1) ]) (range_with_len 0 (length j.lanes))

-- the orders of n steps in all, of which each hart has so many left, allowed or not
abbrev pub merges : (n : ℕ) → (left : List ℕ) → List (List ℕ)
merges zero left = [] ∷ []
merges (suc n) left = flat_map (λ h. elim (slice_index left h == 0) [ true ↦ [] | false ↦ map (λ order. h ∷ order) (merges n (slice_set left h (slice_index left h - 1))) ]) (range_with_len 0 (length left))

-- those of some orders that are allowed
abbrev pub allowed_of : Joining → List (List ℕ) → List (List ℕ)
allowed_of j orders = filter (λ order. is_some (walk_on (begun j) order)) orders

-- the known words at the end of each of some orders
abbrev pub words_after : Joining → List (List ℕ) → List (Option (List (ℕ × ℕ)))
words_after j orders = map (λ order. elim (walk_on (begun j) order) [ None ↦ None | Some w ↦ Some w.now.memory ]) orders

-- the joint replay of the records of a recording but the first ones
abbrev pub joint_from : ℕ → Recording → Joining
joint_from dropped e = fresh (program_of e) e.settings.harts (drop dropped (recorded e).stream)

-- ---- a relay

-- the relay of three harts in intervals of four instructions, up to the fifth. Hart 0 stores a word; hart 1 loads it at the end
-- of its first interval, and stores the next in its second; hart 2 loads that
abbrev pub a_short_relay : Recording
a_short_relay = record a_relay { settings = record default_settings { harts = 3; interval = 4; limit = 5 }; turns = 0 ∷ 0 ∷ 1 ∷ 1 ∷ 2 ∷ 2 ∷ [] }

-- without the first intervals: a row and an end of each hart, and the point at which hart 1 loaded
abbrev pub late_relay : Joining
late_relay = joint_from 4 a_short_relay

-- hart 0's store comes before hart 1's point, and hart 1's store before hart 2's load
abbrev pub relay_orders : List (List ℕ)
relay_orders =
    (0 ∷ 0 ∷ 1 ∷ 1 ∷ 1 ∷ 2 ∷ 2 ∷ []) ∷ (0 ∷ 0 ∷ 1 ∷ 1 ∷ 2 ∷ 1 ∷ 2 ∷ []) ∷ (0 ∷ 0 ∷ 1 ∷ 1 ∷ 2 ∷ 2 ∷ 1 ∷ []) ∷ (0 ∷ 1 ∷ 0 ∷ 1 ∷ 1 ∷ 2 ∷ 2 ∷ []) ∷ (0 ∷ 1 ∷ 0 ∷ 1 ∷ 2 ∷ 1 ∷ 2 ∷ []) ∷ (0 ∷ 1 ∷ 0 ∷ 1 ∷ 2 ∷ 2 ∷ 1 ∷ [])
    ∷ (0 ∷ 1 ∷ 1 ∷ 0 ∷ 1 ∷ 2 ∷ 2 ∷ []) ∷ (0 ∷ 1 ∷ 1 ∷ 0 ∷ 2 ∷ 1 ∷ 2 ∷ []) ∷ (0 ∷ 1 ∷ 1 ∷ 0 ∷ 2 ∷ 2 ∷ 1 ∷ []) ∷ (0 ∷ 1 ∷ 1 ∷ 1 ∷ 0 ∷ 2 ∷ 2 ∷ []) ∷ (0 ∷ 1 ∷ 1 ∷ 1 ∷ 2 ∷ 0 ∷ 2 ∷ []) ∷ (0 ∷ 1 ∷ 1 ∷ 1 ∷ 2 ∷ 2 ∷ 0 ∷ [])
    ∷ (0 ∷ 1 ∷ 1 ∷ 2 ∷ 0 ∷ 1 ∷ 2 ∷ []) ∷ (0 ∷ 1 ∷ 1 ∷ 2 ∷ 0 ∷ 2 ∷ 1 ∷ []) ∷ (0 ∷ 1 ∷ 1 ∷ 2 ∷ 1 ∷ 0 ∷ 2 ∷ []) ∷ (0 ∷ 1 ∷ 1 ∷ 2 ∷ 1 ∷ 2 ∷ 0 ∷ []) ∷ (0 ∷ 1 ∷ 1 ∷ 2 ∷ 2 ∷ 0 ∷ 1 ∷ []) ∷ (0 ∷ 1 ∷ 1 ∷ 2 ∷ 2 ∷ 1 ∷ 0 ∷ []) ∷ []

-- ---- a conditional store that a store spoils

-- hart 0 reserves a word and stores it conditionally; hart 1 stores it in between; intervals of two instructions, up to the fourth
abbrev pub a_spoiled_store : Recording
a_spoiled_store = record {
  words = 0x00020437 ∷ 0x00051663 ∷ 0x100422af ∷ 0x18b4232f ∷ 0x00b42023 ∷ 0x00000013 ∷ [];
  settings = record default_settings { harts = 2; interval = 2; limit = 4 };
  input = [];
  turns = 0 ∷ 1 ∷ 0 ∷ 1 ∷ 0 ∷ 1 ∷ [];
}

-- without the first intervals: two rows and an end of each hart
abbrev pub late_store : Joining
late_store = joint_from 3 a_spoiled_store

-- the reservation comes before the store; the conditional store, which failed, may come before it or after it
abbrev pub store_orders : List (List ℕ)
store_orders =
    (0 ∷ 0 ∷ 0 ∷ 1 ∷ 1 ∷ 1 ∷ []) ∷ (0 ∷ 0 ∷ 1 ∷ 0 ∷ 1 ∷ 1 ∷ []) ∷ (0 ∷ 0 ∷ 1 ∷ 1 ∷ 0 ∷ 1 ∷ []) ∷ (0 ∷ 0 ∷ 1 ∷ 1 ∷ 1 ∷ 0 ∷ []) ∷ (0 ∷ 1 ∷ 0 ∷ 0 ∷ 1 ∷ 1 ∷ [])
    ∷ (0 ∷ 1 ∷ 0 ∷ 1 ∷ 0 ∷ 1 ∷ []) ∷ (0 ∷ 1 ∷ 0 ∷ 1 ∷ 1 ∷ 0 ∷ []) ∷ (0 ∷ 1 ∷ 1 ∷ 0 ∷ 0 ∷ 1 ∷ []) ∷ (0 ∷ 1 ∷ 1 ∷ 0 ∷ 1 ∷ 0 ∷ []) ∷ (0 ∷ 1 ∷ 1 ∷ 1 ∷ 0 ∷ 0 ∷ []) ∷ []
