use Rattle.first_load_bits.proofs.Common.{◌≡◌, ◌<◌, ◌≤◌, ◌+◌, ◌-◌, ◌∙◌, All, take, drop, set, ap, sym, subst, refl, arith, All-weaker, second_of, Level, Contents, second_level, contents, AreKept, IsPutBelow, with_ways_below}
use Rattle.first_load_bits.proofs.Standing.{IsRead}
use Rattle.first_load_bits.proofs.Both.{read_second, put_below_keeps, put_below_goes}
use Rattle.first_load_bits.proofs.Inside.{has_sets, has_ways}
use Rattle.first_load_bits.proofs.cache.Cache.put_below.Goals as goal

read : (c : goal.After-self-1) → IsRead (second_level (contents c.self.inside)) c.args.way.line c.first_way_below-first.result (take (c.first_way_below-first.result + c.self.inside.width_below - c.first_way_below-first.result) (drop c.first_way_below-first.result c.deref.result.now))
read c =
    read_second (contents c.self.inside) c.args.self.now c.args.way.line _ c.deref.result.now c.self.view_is (has_sets c.self.inside (has_ways c.self.inside.width_below c.if-self-ne0.true)) c.first_way_below-first.ensures.value c.first_way_below-first.ensures.within c.deref.ensures.value

-- the second level at the step before, and what is required of it
abbrev before : (c : goal.After-self-1) → Level
before c = record { geometry = second_of (contents c.self.inside).geometry; steps = c.self.inside.steps - 1; generation = c.self.inside.generation; ways = c.self.inside.ways_below.items }

uncleared : (c : goal.After-self-1) → c.self.inside.generation < c.self.inside.steps
uncleared c = subst (λ (x : Contents). x.generation < x.steps) (sym c.self.view_is) c.requires.uncleared

kept : (c : goal.After-self-1) → AreKept (before c)
kept c =
    let later : All (λ v. v.age < c.self.inside.steps) c.self.inside.ways_below.items = subst (λ (x : Contents). All (λ v. v.age < x.steps) x.ways_below) (sym c.self.view_is) c.requires.later in
    record {
      cleared = let u = uncleared c in omega (arith, u);
      ages = All-weaker (λ v. v.age < c.self.inside.steps) (λ v. v.age ≤ c.self.inside.steps - 1) (λ v l. omega arith) c.self.inside.ways_below.items later;
      apart = c.self.invariant.kept_below.apart;
    }

step : (c : goal.After-self-1) → c.self.inside.steps ≡ c.self.inside.steps - 1 + 1
step c = let u = uncleared c in omega (arith, u)

age : (c : goal.After-self-1) → c.args.way.age ≡ c.self.inside.steps
age c = c.requires.fallen ∙ ap (λ (x : Contents). x.steps) (sym c.self.view_is)

pub invariant_of-self : goal.invariant_of-self
invariant_of-self c =
    record {
      some = c.self.invariant.some;
      sets = c.self.invariant.sets;
      sets_below = c.self.invariant.sets_below;
      words = c.self.invariant.words;
      shift = c.self.invariant.shift;
      usual = c.self.invariant.usual;
      count = c.self.invariant.count;
      count_below = c.self.invariant.count_below;
      kept = c.self.invariant.kept;
      kept_below = put_below_keeps (contents c.self.inside) (c.self.inside.steps - 1) c.args.way.line _ c.place_for.result _ c.args.way (step c) (kept c) (read c) c.place_for.ensures refl (age c);
    }

pub returns-then-self-ne0 : goal.returns-then-self-ne0
returns-then-self-ne0 c =
    let after : Contents = with_ways_below (contents c.self.inside) (set c.self.inside.ways_below.items (c.first_way_below-first.result + c.place_for.result) c.args.way) in
    subst (λ (x : Contents). IsPutBelow x c.args.way after) c.self.view_is (record {
      same = refl;
      lines = λ k m. put_below_goes (contents c.self.inside) (c.self.inside.steps - 1) c.args.way.line _ c.place_for.result k _ c.args.way (step c) (kept c) (read c) c.place_for.ensures refl (age c);
    })
