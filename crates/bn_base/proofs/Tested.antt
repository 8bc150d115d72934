-- Settings whose tests all hold are in range.
use Rattle.std.proofs.Common.{arith, ◌≡◌, ◌≤◌, ◌%◌, ◌^◌, ℕ, Bool, true, false, IsTrue, refl}
use Rattle.std.specs.Prelude.{Option, None}
use Rattle.std.specs.Int.{is_power_of_two}
use Rattle.bn_base.specs.declared.settings.RawSettings.{RawSettings}
use Rattle.bn_base.specs.declared.settings.BadSetting.{BadSetting}
use Rattle.bn_base.specs.Ranges.{is_between, is_small_power, is_memory_size, most_harts, bad_or, first_bad, IsSetting}

-- if nothing is bad, the first test holds and nothing later is bad
pub none_bad : (test : Bool) (bad : BadSetting) (later : Option BadSetting) → bad_or test bad later ≡ None → (test ≡ true) × (later ≡ None)
none_bad true bad later h = (refl, h)
none_bad false bad later h = Prim.grind arith

pub below : (low high value : ℕ) → is_between low high value ≡ true → (low ≤ value) × (value ≤ high)
below low high value h = grind arith

pub power : (high value : ℕ) → is_small_power high value ≡ true → (1 ≤ value) × (value ≤ high) × IsTrue (is_power_of_two value)
power high value h = grind arith

pub size : (value : ℕ) → is_memory_size value ≡ true → (65536 ≤ value) × (value ≤ 2 ^ 26) × (value % 4096 ≡ 0)
size value h = grind arith

-- settings of which nothing is bad are in range
pub in_range : (s : RawSettings) → first_bad s ≡ None → IsSetting s
in_range s bad =
    let h1 = none_bad _ _ _ bad in
    let h2 = none_bad _ _ _ h1.1 in
    let h3 = none_bad _ _ _ h2.1 in
    let h4 = none_bad _ _ _ h3.1 in
    let h5 = none_bad _ _ _ h4.1 in
    let h6 = none_bad _ _ _ h5.1 in
    let h7 = none_bad _ _ _ h6.1 in
    let h8 = none_bad _ _ _ h7.1 in
    let h9 = none_bad _ _ _ h8.1 in
    let h10 = none_bad _ _ _ h9.1 in
    let h11 = none_bad _ _ _ h10.1 in
    let harts = below 1 (most_harts s) s.harts h1.0 in
    let interval = below 1 10000000 s.interval h2.0 in
    let limit = below 1 (2 ^ 40) s.limit h3.0 in
    let log_size = below 16384 (2 ^ 28) s.log_size h4.0 in
    let memory = size s.memory h5.0 in
    let sets = power 1024 s.sets h6.0 in
    let ways = below 1 16 s.ways h7.0 in
    let line = power 16 s.line h8.0 in
    let format = below 1 2 s.format h9.0 in
    record {
      harts_low = harts.0;
      harts_high = harts.1;
      interval_low = interval.0;
      interval_high = interval.1;
      limit_low = limit.0;
      limit_high = limit.1;
      log_size_low = log_size.0;
      log_size_high = log_size.1;
      memory_low = memory.0;
      memory_high = memory.1;
      memory_pages = memory.2;
      sets_low = sets.0;
      sets_high = sets.1;
      sets_power = sets.2;
      ways_low = ways.0;
      ways_high = ways.1;
      line_low = line.0;
      line_high = line.1;
      line_power = line.2;
      format_low = format.0;
      format_high = format.1;
      second_sets = h10.0;
      second_ways = h11.0;
    }
