-- Settings that were tested are in range.
use Rattle.bugnet.proofs.Common.{◌≡◌, ◌≤◌, ℕ, ◌%◌, ◌^◌, ◌==◌, ◌&&◌, Bool, true, false, nat_le, Option, None, refl, arith, nat_tests, RawSettings, BadSetting, is_between, is_small_power, is_memory_size, is_second_sets, is_second_ways, most_harts, bad_or, first_bad, IsSetting, SeededListsEnd, SeedsAreWhole, ScheduledListsEnd, SchedulesAreWhole, began_by}
use Rattle.std.specs.Int.{is_power_of_two}

-- a test that wasn't failed, and those after it
passed : (t : Bool) (bad : BadSetting) (later : Option BadSetting) → bad_or t bad later ≡ None → (t ≡ true) × (later ≡ None)
passed true bad later e = (refl, e)
passed false bad later e = grind arith

both : (a b : Bool) → a && b ≡ true → (a ≡ true) × (b ≡ true)
both true b e = (refl, e)
both false b e = grind arith

at_most : (a b : ℕ) → nat_le a b ≡ true → a ≤ b
at_most a b e = grind (arith, nat_tests)

same_number : (a b : ℕ) → (a == b) ≡ true → a ≡ b
same_number a b e = grind arith

between : (low high value : ℕ) → is_between low high value ≡ true → (low ≤ value) × (value ≤ high)
between low high value e =
    let p = both (nat_le low value) (nat_le value high) e in
    (at_most low value p.0, at_most value high p.1)

pub in-range : (s : RawSettings) → first_bad s ≡ None → IsSetting s
in-range s e =
    let harts = passed (is_between 1 (most_harts s) s.harts) _ _ e in
    let interval = passed (is_between 1 10000000 s.interval) _ _ harts.1 in
    let limit = passed (is_between 1 (2 ^ 40) s.limit) _ _ interval.1 in
    let log_size = passed (is_between 16384 (2 ^ 28) s.log_size) _ _ limit.1 in
    let memory = passed (is_memory_size s.memory) _ _ log_size.1 in
    let sets = passed (is_small_power 1024 s.sets) _ _ memory.1 in
    let ways = passed (is_between 1 16 s.ways) _ _ sets.1 in
    let line = passed (is_small_power 16 s.line) _ _ ways.1 in
    let format = passed (is_between 1 2 s.format) _ _ line.1 in
    let sets2 = passed (is_second_sets s) _ _ format.1 in
    let ways2 = passed (is_second_ways s) _ _ sets2.1 in
    let h = between 1 (most_harts s) s.harts harts.0 in
    let i = between 1 10000000 s.interval interval.0 in
    let l = between 1 (2 ^ 40) s.limit limit.0 in
    let g = between 16384 (2 ^ 28) s.log_size log_size.0 in
    let m = both (is_between 65536 (2 ^ 26) s.memory) (s.memory % 4096 == 0) memory.0 in
    let k = between 65536 (2 ^ 26) s.memory m.0 in
    let p = both (is_between 1 1024 s.sets) (is_power_of_two s.sets) sets.0 in
    let q = between 1 1024 s.sets p.0 in
    let w = between 1 16 s.ways ways.0 in
    let r = both (is_between 1 16 s.line) (is_power_of_two s.line) line.0 in
    let t = between 1 16 s.line r.0 in
    let f = between 1 2 s.format format.0 in
    record {
      harts_low = h.0;
      harts_high = h.1;
      interval_low = i.0;
      interval_high = i.1;
      limit_low = l.0;
      limit_high = l.1;
      log_size_low = g.0;
      log_size_high = g.1;
      memory_low = k.0;
      memory_high = k.1;
      memory_pages = same_number (s.memory % 4096) 0 m.1;
      sets_low = q.0;
      sets_high = q.1;
      sets_power = p.1;
      ways_low = w.0;
      ways_high = w.1;
      line_low = t.0;
      line_high = t.1;
      line_power = r.1;
      format_low = f.0;
      format_high = f.1;
      second_sets = sets2.0;
      second_ways = ways2.0;
    }

pub schedules_whole : ScheduledListsEnd → SchedulesAreWhole
schedules_whole law c i digest input schedule e =
    let ends = law schedule (began_by c i digest input) (in-range c e) in
    record { legal = ends.0; over = ends.1 }

pub seeds_whole : SeededListsEnd → SeedsAreWhole
seeds_whole law c i input seed e =
    let ends = law c i input seed (in-range c e) in
    record { legal = ends.0; over = ends.1 }
