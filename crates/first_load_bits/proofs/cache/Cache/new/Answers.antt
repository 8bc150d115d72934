use Rattle.first_load_bits.proofs.Common.{◌≡◌, ◌*◌, ◌^◌, ◌<◌, ◌≤◌, ◌==◌, ◌∙◌, ℕ, Bool, true, false, ap, sym, subst, arith, refl, IsTrue, ◌&&◌, ◌||◌, if◌then◌else◌, is_power_of_two, eqb-true, All-same, All-replicate, Geometry}
use Rattle.bn_base.specs.declared.settings.RawSettings.{RawSettings}
use Rattle.bn_base.specs.Ranges.{is_between, is_small_power, IsSetting}
use Rattle.first_load_bits.proofs.Standing.{new_kept, exact_power, power_low}
use Rattle.first_load_bits.proofs.cache.Cache.new.Goals as goal

at_most : (high value : ℕ) → is_small_power high value ≡ true → value ≤ high
at_most high value h = grind arith

few_sets : (sets : ℕ) (none second : Bool) → (sets == 0) ≡ none → IsTrue (none || second && is_small_power 4096 sets) → sets ≤ 4096
few_sets sets true second e h = omega (arith, eqb-true sets 0 e)
few_sets sets false true e h = at_most 4096 sets h
few_sets sets false false e h = absurd cc

pub power_of-set_bits_below-requires : goal.power_of-set_bits_below-requires
power_of-set_bits_below-requires c =
    let raw = c.raw-raw.result in
    let is : IsSetting raw = subst IsSetting (sym c.raw-raw.ensures.value) c.raw-raw.ensures.in_range in
    few_sets raw.sets2 (raw.sets2 == 0) (raw.format == 2) refl is.second_sets

-- the number of a power of two within the settings' ranges
few_bits : (raw said : RawSettings) (k : ℕ) → raw ≡ said → IsSetting said → 2 ^ k ≤ raw.sets → k ≤ 10
few_bits raw said k e is low = let high = is.sets_high in power_low 10 k (omega (arith, low, high, ap (λ (r : RawSettings). r.sets) e))

short_bits : (raw said : RawSettings) (k : ℕ) → raw ≡ said → IsSetting said → 2 ^ k ≤ raw.line → k ≤ 4
short_bits raw said k e is low = let high = is.line_high in power_low 4 k (omega (arith, low, high, ap (λ (r : RawSettings). r.line) e))

pub empty_ways-requires-clause-sets : goal.empty_ways-requires-clause-sets
empty_ways-requires-clause-sets c = omega (arith, few_bits c.raw-raw.result c.args.settings.now c.ilog2-set_bits.result c.raw-raw.ensures.value c.raw-raw.ensures.in_range c.ilog2-set_bits.ensures.power_le)

pub of-requires : goal.of-requires
of-requires c = omega (arith, few_bits c.raw-raw.result c.args.settings.now c.ilog2-set_bits.result c.raw-raw.ensures.value c.raw-raw.ensures.in_range c.ilog2-set_bits.ensures.power_le)

pub of-requires-3 : goal.of-requires-3
of-requires-3 c = omega (arith, short_bits c.raw-raw.result c.args.settings.now c.ilog2-word_bits.result c.raw-raw.ensures.value c.raw-raw.ensures.in_range c.ilog2-word_bits.ensures.power_le)

pub invariant_of-result : goal.invariant_of-result
invariant_of-result c =
    let few : c.ilog2-set_bits.result ≤ 10 = few_bits c.raw-raw.result c.args.settings.now c.ilog2-set_bits.result c.raw-raw.ensures.value c.raw-raw.ensures.in_range c.ilog2-set_bits.ensures.power_le in
    let short : c.ilog2-word_bits.result ≤ 4 = short_bits c.raw-raw.result c.args.settings.now c.ilog2-word_bits.result c.raw-raw.ensures.value c.raw-raw.ensures.in_range c.ilog2-word_bits.ensures.power_le in
    record {
      some = omega (arith, c.ways-width.ensures.low);
      sets = omega (arith, few, c.of.ensures);
      sets_below = omega (arith, c.power_of-set_bits_below.ensures.few, c.of-2.ensures);
      words = omega (arith, short, c.of-3.ensures);
      shift = omega (arith, c.of-3.ensures);
      usual = c.is_usual.ensures;
      count = c.in_ok-ways.ensures.count ∙ ap (λ (n : ℕ). 2 ^ n * c.ways-width.result) (sym c.of.ensures);
      count_below = c.in_ok-ways_below.ensures.count ∙ ap (λ (n : ℕ). 2 ^ n * c.second_ways-width_below.result) (sym c.of-2.ensures);
      kept = new_kept _ refl (All-same (λ w. w.age ≡ 0) _ _ c.in_ok-ways.ensures.items (All-replicate (λ w. w.age ≡ 0) _ _ refl));
      kept_below = new_kept _ refl (All-same (λ w. w.age ≡ 0) _ _ c.in_ok-ways_below.ensures.items (All-replicate (λ w. w.age ≡ 0) _ _ refl));
    }

-- the geometry of numbers that are equal
same_geometry : (a b c d e : ℕ) (g : Geometry) → a ≡ g.sets → b ≡ g.ways → c ≡ g.line → d ≡ g.sets2 → e ≡ g.ways2 → ◌≡◌ {A = Geometry} (record { sets = a; ways = b; line = c; sets2 = d; ways2 = e }) g
same_geometry a b c d e g p q r s t =
    ap (λ x. record { sets = x; ways = b; line = c; sets2 = d; ways2 = e }) p
    ∙ (ap (λ x. record { sets = g.sets; ways = x; line = c; sets2 = d; ways2 = e }) q
    ∙ (ap (λ x. record { sets = g.sets; ways = g.ways; line = x; sets2 = d; ways2 = e }) r
    ∙ (ap (λ x. record { sets = g.sets; ways = g.ways; line = g.line; sets2 = x; ways2 = e }) s
    ∙ ap (λ x. record { sets = g.sets; ways = g.ways; line = g.line; sets2 = g.sets2; ways2 = x }) t)))

small_power : (high value : ℕ) → is_small_power high value ≡ true → (1 ≤ value) × IsTrue (is_power_of_two value)
small_power high value h = grind arith

some_ways : (width : ℕ) → is_between 1 16 width ≡ true → (width == 0) ≡ false
some_ways width h = grind arith

-- the second level has the sets of the settings, and none if it has no ways
sets_below : (width bits sets : ℕ) (none second : Bool) → (sets == 0) ≡ none → IsTrue (none || second && is_small_power 4096 sets) → IsTrue (if none then width == 0 else is_between 1 16 width)
    → (0 < sets → IsTrue (is_power_of_two sets) → 2 ^ bits ≡ sets) → elim (width == 0) as (λ x. ℕ) [ true ↦ 0 | false ↦ 2 ^ bits ] ≡ sets
sets_below width bits sets true second e s w exact = ap (λ n. elim (n == 0) as (λ x. ℕ) [ true ↦ 0 | false ↦ 2 ^ bits ]) (eqb-true width 0 w) ∙ sym (eqb-true sets 0 e)
sets_below width bits sets false true e s w exact =
    let p = small_power 4096 sets s in
    ap (λ (b : Bool). elim b as (λ x. ℕ) [ true ↦ 0 | false ↦ 2 ^ bits ]) (some_ways width w) ∙ exact (omega (arith, p.0)) p.1
sets_below width bits sets false false e s w exact = absurd cc

pub returns-clause-geometry : goal.returns-clause-geometry
returns-clause-geometry c =
    let raw = c.raw-raw.result in
    let known : raw ≡ c.args.settings.now = c.raw-raw.ensures.value in
    let is : IsSetting raw = subst IsSetting (sym known) c.raw-raw.ensures.in_range in
    let sets : 2 ^ c.ilog2-set_bits.result ≡ raw.sets = exact_power raw.sets c.ilog2-set_bits.result is.sets_power c.ilog2-set_bits.ensures.power_le c.ilog2-set_bits.ensures.next_power_gt in
    let line : 2 ^ c.ilog2-word_bits.result ≡ raw.line = exact_power raw.line c.ilog2-word_bits.result is.line_power c.ilog2-word_bits.ensures.power_le c.ilog2-word_bits.ensures.next_power_gt in
    let width : c.second_ways-width_below.result ≡ raw.ways2 = c.second_ways-width_below.ensures.value ∙ sym (ap (λ (r : RawSettings). r.ways2) known) in
    let ways : IsTrue (if raw.sets2 == 0 then c.second_ways-width_below.result == 0 else is_between 1 16 c.second_ways-width_below.result) =
    subst (λ (n : ℕ). IsTrue (if raw.sets2 == 0 then n == 0 else is_between 1 16 n)) (sym width) is.second_ways in
    same_geometry _ _ _ _ _ _ (ap (λ (n : ℕ). 2 ^ n) c.of.ensures ∙ sets ∙ ap (λ (r : RawSettings). r.sets) known) c.ways-width.ensures.value (ap (λ (n : ℕ). 2 ^ n) c.of-3.ensures ∙ line ∙ ap (λ (r : RawSettings). r.line) known)
    (ap (λ (n : ℕ). elim (c.second_ways-width_below.result == 0) as (λ x. ℕ) [ true ↦ 0 | false ↦ 2 ^ n ]) c.of-2.ensures
    ∙ sets_below c.second_ways-width_below.result c.power_of-set_bits_below.result raw.sets2 (raw.sets2 == 0) (raw.format == 2) refl is.second_sets ways c.power_of-set_bits_below.ensures.power ∙ ap (λ (r : RawSettings). r.sets2) known)
    c.second_ways-width_below.ensures.value
