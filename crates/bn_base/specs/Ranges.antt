-- The ranges of the settings.
use Rattle.std.specs.Prelude.{ℕ, ◌%◌, ◌^◌, ◌==◌, ◌≡◌, ◌≤◌, Bool, true, false, ◌&&◌, ◌||◌, nat_le, List, [], ◌∷◌, codes, if◌then◌else◌, Option, Some, None, Result, Ok, Err, IsTrue}
use Rattle.std.specs.Int.{is_power_of_two}
use Rattle.bn_base.specs.declared.settings.RawSettings.{RawSettings}
use Rattle.bn_base.specs.declared.settings.BadSetting.{BadSetting}

-- one hart, and room for most programs
abbrev pub default_settings : RawSettings
default_settings = record { harts = 1; interval = 100000; limit = 1000000000; log_size = 1048576; memory = 1048576; sets = 64; ways = 4; line = 8; format = 1; sets2 = 0; ways2 = 0 }

-- from low to high
abbrev pub is_between : ℕ → ℕ → ℕ → Bool
is_between low high value = nat_le low value && nat_le value high

-- a power of two from 1 to high
abbrev pub is_small_power : ℕ → ℕ → Bool
is_small_power high value = is_between 1 high value && is_power_of_two value

-- a multiple of 4,096 from 65,536 to 2 ^ 26
abbrev pub is_memory_size : ℕ → Bool
is_memory_size value = is_between 65536 (2 ^ 26) value && (value % 4096 == 0)

-- the most harts: with format 2 there are 16, with any other 8
abbrev pub most_harts : RawSettings → ℕ
most_harts s = if s.format == 2 then 16 else 8

-- the sets of a second level of the caches: there is none, or, with format 2 alone, a power of two of them
abbrev pub is_second_sets : RawSettings → Bool
is_second_sets s = s.sets2 == 0 || s.format == 2 && is_small_power 4096 s.sets2

-- the ways of a second level: none if and only if it has no sets
abbrev pub is_second_ways : RawSettings → Bool
is_second_ways s = if s.sets2 == 0 then s.ways2 == 0 else is_between 1 16 s.ways2

-- a setting: its field's number, its value, and whether it is in range
abbrev pub setting : ℕ → ℕ → Bool → ℕ × ℕ × Bool
setting field value fine = (field, value, fine)

-- the settings in the order in which they are tested; field 9 is no setting
abbrev pub tested : RawSettings → List (ℕ × ℕ × Bool)
tested s =
    setting 1 s.harts (is_between 1 (most_harts s) s.harts)
    ∷ setting 2 s.interval (is_between 1 10000000 s.interval)
    ∷ setting 3 s.limit (is_between 1 (2 ^ 40) s.limit)
    ∷ setting 4 s.log_size (is_between 16384 (2 ^ 28) s.log_size)
    ∷ setting 5 s.memory (is_memory_size s.memory)
    ∷ setting 6 s.sets (is_small_power 1024 s.sets)
    ∷ setting 7 s.ways (is_between 1 16 s.ways)
    ∷ setting 8 s.line (is_small_power 16 s.line)
    ∷ setting 10 s.format (is_between 1 2 s.format)
    ∷ setting 11 s.sets2 (is_second_sets s)
    ∷ setting 12 s.ways2 (is_second_ways s)
    ∷ []

-- what is bad of a setting and those after it
abbrev pub bad_or : Bool → BadSetting → Option BadSetting → Option BadSetting
bad_or true bad later = later
bad_or false bad later = Some bad

-- the first of some tested settings that is out of range
abbrev pub first_bad_of : List (ℕ × ℕ × Bool) → Option BadSetting
first_bad_of [] = None
first_bad_of (test ∷ rest) = bad_or test.2 (record { field = test.0; value = test.1 }) (first_bad_of rest)

-- the first setting that is out of range, in the order of `tested`; None if all are in range
abbrev pub first_bad : RawSettings → Option BadSetting
first_bad s = first_bad_of (tested s)

-- the settings, or what is bad of them
abbrev pub checked_by : Option BadSetting → RawSettings → Result RawSettings BadSetting
checked_by None s = Ok s
checked_by (Some bad) s = Err bad

-- the settings if all are in range, else the first that isn't
abbrev pub checked : RawSettings → Result RawSettings BadSetting
checked s = checked_by (first_bad s) s

-- the name of a setting by its field's number
unfoldable pub setting_name : ℕ → List ℕ
setting_name field =
    if field == 1 then codes "harts" else
    if field == 2 then codes "interval" else
    if field == 3 then codes "limit" else
    if field == 4 then codes "log-size" else
    if field == 5 then codes "memory" else
    if field == 6 then codes "sets" else
    if field == 7 then codes "ways" else
    if field == 8 then codes "line" else
    if field == 10 then codes "format" else
    if field == 11 then codes "sets2" else
    if field == 12 then codes "ways2" else
    codes "-"

-- settings that are in range
pub record IsSetting (s : RawSettings) : Type 0 where
  pub harts_low : 1 ≤ s.harts
  pub harts_high : s.harts ≤ most_harts s
  pub interval_low : 1 ≤ s.interval
  pub interval_high : s.interval ≤ 10000000
  pub limit_low : 1 ≤ s.limit
  pub limit_high : s.limit ≤ 2 ^ 40
  pub log_size_low : 16384 ≤ s.log_size
  pub log_size_high : s.log_size ≤ 2 ^ 28
  pub memory_low : 65536 ≤ s.memory
  pub memory_high : s.memory ≤ 2 ^ 26
  pub memory_pages : s.memory % 4096 ≡ 0
  pub sets_low : 1 ≤ s.sets
  pub sets_high : s.sets ≤ 1024
  pub sets_power : IsTrue (is_power_of_two s.sets)
  pub ways_low : 1 ≤ s.ways
  pub ways_high : s.ways ≤ 16
  pub line_low : 1 ≤ s.line
  pub line_high : s.line ≤ 16
  pub line_power : IsTrue (is_power_of_two s.line)
  pub format_low : 1 ≤ s.format
  pub format_high : s.format ≤ 2
  pub second_sets : IsTrue (is_second_sets s)
  pub second_ways : IsTrue (is_second_ways s)
