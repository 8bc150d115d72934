-- What a demonstration records is a recording.
use Rattle.demo_run.proofs.Common.{◌≡◌, ℕ, zero, suc, ◌<◌, ◌^◌, ◌&&◌, ◌∙◌, nat_lt, Bool, true, false, List, [], ◌∷◌, ◌++◌, slice_index, refl, subst, sym, arith, Result, Ok, Err, list_all, flat_map-cons, RawSettings, number_bytes, AreBytes, Kind, code, demo_settings, demo_program, demo_turns, GuestsAreLoaded, DemonstrationsAreRecordings}
use Rattle.std.specs.Int.{byte_at, bytes_low_first}
use Rattle.bn_base.specs.Ranges.{IsSetting, checked}
use Rattle.bn_base.specs.declared.settings.BadSetting.{BadSetting}
use Rattle.rv_decode.specs.Encode.{encoded}
use Rattle.rv_decode.specs.Table.{Instruction}
use Rattle.guest_gen.specs.declared.kind.Kind.TheVariants.{Loop}
use Rattle.guest_gen.specs.File.{identification, file_header, headers, code_bytes, guest_bytes}
use Rattle.whole_runs.specs.Laws.{SeededListsEnd}

-- ---- the settings

setting : IsSetting demo_settings
unfolding demo_settings lib.Count.ones
setting = record {
  harts_low = omega arith;
  harts_high = omega arith;
  interval_low = omega arith;
  interval_high = omega arith;
  limit_low = omega arith;
  limit_high = omega arith;
  log_size_low = omega arith;
  log_size_high = omega arith;
  memory_low = omega arith;
  memory_high = omega arith;
  memory_pages = refl;
  sets_low = omega arith;
  sets_high = omega arith;
  sets_power = refl;
  ways_low = omega arith;
  ways_high = omega arith;
  line_low = omega arith;
  line_high = omega arith;
  line_power = refl;
  format_low = omega arith;
  format_high = omega arith;
  second_sets = refl;
  second_ways = refl;
}

pub low_limit : demo_settings.limit < 2 ^ 63
unfolding demo_settings
low_limit = omega arith

-- its log is of the first version
pub first_format : demo_settings.format ≡ 1
unfolding demo_settings
first_format = refl

tested : checked demo_settings ≡ Ok demo_settings
unfolding demo_settings lib.Count.ones
tested = refl

-- none of them is out of range
pub never_bad : (bad : BadSetting) → Err bad ≡ checked demo_settings → ⊥
never_bad bad e = err_not_ok (e ∙ tested)
  where
    err_not_ok : ◌≡◌ {A = Result RawSettings BadSetting} (Err bad) (Ok demo_settings) → ⊥
    err_not_ok f = cc

-- ---- the program file is bytes

both : (xs ys : List ℕ) → AreBytes xs → AreBytes ys → AreBytes (xs ++ ys)
both [] ys p q i = q i
both (x ∷ xs) ys p q zero = p 0
both (x ∷ xs) ys p q (suc i) = both xs ys (λ j. p (suc j)) q i

byte : (i n : ℕ) → byte_at i n < 256
byte zero n = omega arith
byte (suc i) n = omega arith

low_bytes : (i k n : ℕ) → AreBytes (bytes_low_first i k n)
low_bytes i zero n j = omega arith
low_bytes i (suc k) n zero = byte i n
low_bytes i (suc k) n (suc j) = low_bytes (suc i) k n j

word : (n : ℕ) → AreBytes (number_bytes 4 n)
unfolding number_bytes
word n = low_bytes 0 4 n

words : (is : List Instruction) → AreBytes (code_bytes is)
unfolding code_bytes
words [] i = omega arith
words (x ∷ xs) i =
    subst (λ (bytes : List ℕ). slice_index bytes i < 256) (sym (flat_map-cons (λ (y : Instruction). number_bytes 4 (encoded y)) x xs))
    (both (number_bytes 4 (encoded x)) (code_bytes xs) (word (encoded x)) (words xs) i)

later : (x y : Bool) → (x && y) ≡ true → y ≡ true
later true y f = f
later false y f = cc

are_bytes : (bytes : List ℕ) → list_all (λ b. nat_lt b 256) bytes ≡ true → AreBytes bytes
are_bytes [] e i = omega arith
are_bytes (b ∷ bs) e zero = grind arith
are_bytes (b ∷ bs) e (suc i) = are_bytes bs (later (nat_lt b 256) (list_all (λ b. nat_lt b 256) bs) e) i

all_headers : list_all (λ b. nat_lt b 256) headers ≡ true
unfolding headers file_header identification number_bytes
all_headers = refl

elf_bytes : (seed : ℕ) (kind : Kind) → AreBytes (guest_bytes seed kind)
unfolding guest_bytes
elf_bytes seed kind = both headers (code_bytes (code seed kind)) (are_bytes headers all_headers) (words (code seed kind))

-- ---- all of it

pub whole : GuestsAreLoaded → SeededListsEnd → DemonstrationsAreRecordings
unfolding demo_turns
whole load ends seed =
    let end = ends demo_settings (demo_program seed) [] seed setting in
    record { setting = setting; bytes = elf_bytes seed Loop; loaded = load seed Loop; legal = end.0; over = end.1 }
