-- A program with look-ups that are kept.
use Rattle.std.specs.Prelude.{◌≡◌, ℕ, List, slice_get, Some, option_map}
use Rattle.hart_replay.specs.Common.{Program, HartState, Cut, ask_of, code_at, seen, destination, fetched, instruction_in}
use Rattle.rv_meaning.specs.declared.asks.Ask.{Ask}
use Rattle.rv_meaning.specs.declared.fetched.Fetched.{Fetched}
use Rattle.hart_replay.specs.declared.decode_cache.Lookup.{Lookup}

-- the program
pub record CacheOf : Type 0 where
  pub now : Program

-- what is kept of an address is its code word in the program, the register that its instruction writes, and the
-- instruction
abbrev pub IsLookup : Program → Lookup → Type 0
IsLookup i l =
    (l.word ≡ code_at i l.pc) × (l.rd ≡ destination (instruction_in (code_at i l.pc))) × (option_map seen l.instr ≡ instruction_in (code_at i l.pc))

-- each look-up is one of the program
abbrev pub AreLookups : Program → List Lookup → Type 0
AreLookups i ls = (n : ℕ) (l : Lookup) → slice_get ls n ≡ Some l → IsLookup i l

-- the instruction before which a state stands asks nothing, and leads to the other state; this was looked up of it
pub record IsQuietStep (i : Program) (l : Lookup) (before next : HartState) : Type 0 where
  pub does : ◌≡◌ {A = Ask} (record { state = next; want = Cut }) (ask_of i 1 before)
  pub looked_up : (h : ℕ) → ◌≡◌ {A = Fetched} (record { hart = h; ic = before.ic; pc = l.pc; word = l.word; rd = l.rd }) (fetched h i before)
