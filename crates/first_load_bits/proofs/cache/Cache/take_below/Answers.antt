use Rattle.first_load_bits.proofs.Common.{◌<◌, ◌+◌, ◌-◌, ◌∙◌, take, drop, set, subst, refl, arith, Way, Contents, second_level, contents, IsTakenBelow, IsBitsBelow, with_ways_below}
use Rattle.first_load_bits.proofs.Standing.{IsRead, out_keeps, out_goes, out_absent, bits_read}
use Rattle.first_load_bits.proofs.Both.{read_second, some_ways, bits_absent_below}
use Rattle.first_load_bits.proofs.Inside.{has_sets}
use Rattle.first_load_bits.proofs.cache.Cache.take_below.Goals as goal

read : (c : goal.After-self-1) → IsRead (second_level (contents c.self.inside)) c.args.line c.first_way_below-first.result (take (c.first_way_below-first.result + c.self.inside.width_below - c.first_way_below-first.result) (drop c.first_way_below-first.result c.deref.result.now))
read c =
    let some : 0 < c.self.inside.width_below = some_ways c.first_way_below-first.result c.self.inside.width_below c.in-Some.at c.deref.result.now c.in-Some.ensures.found.0 in
    read_second (contents c.self.inside) c.args.self.now c.args.line _ c.deref.result.now c.self.view_is (has_sets c.self.inside some) c.first_way_below-first.ensures.value c.first_way_below-first.ensures.within c.deref.ensures.value

-- the way that is written
abbrev emptied : Way → Way
emptied w = record { line = w.line; mask = w.mask; age = 0 }

pub invariant_of-self : goal.invariant_of-self
invariant_of-self c =
    let level = second_level (contents c.self.inside) in
    let w = c.index_mut.result.now in
    record {
      some = c.self.invariant.some;
      sets = c.self.invariant.sets;
      sets_below = c.self.invariant.sets_below;
      words = c.self.invariant.words;
      shift = c.self.invariant.shift;
      usual = c.self.invariant.usual;
      count = c.self.invariant.count;
      count_below = c.self.invariant.count_below;
      kept = c.self.invariant.kept;
      kept_below = out_keeps level c.args.line _ c.in-Some.at _ (emptied w) c.self.invariant.kept_below (read c) c.in-Some.ensures.found refl;
    }

pub returns-in-Some-clause-bits : goal.returns-in-Some-clause-bits
returns-in-Some-clause-bits c = subst (λ (x : Contents). IsBitsBelow x c.args.line c.bits-bits.result) c.self.view_is
    (c.bits-bits.ensures ∙ bits_read (second_level (contents c.self.inside)) c.args.line _ c.in-Some.at _ c.index.result.now c.self.invariant.kept_below (read c) c.in-Some.ensures.found c.index.ensures)

pub returns-in-Some-clause-out : goal.returns-in-Some-clause-out
returns-in-Some-clause-out c = let after : Contents = with_ways_below (contents c.self.inside) (set c.self.inside.ways_below.items (c.first_way_below-first.result + c.in-Some.at) (emptied c.index_mut.result.now)) in subst (λ (x : Contents). IsTakenBelow x c.args.line after) c.self.view_is (record {
  same = refl;
  lines = λ k m. out_goes (second_level (contents c.self.inside)) c.args.line _ c.in-Some.at k _ (emptied c.index_mut.result.now) c.self.invariant.kept_below (read c) c.in-Some.ensures.found refl;
})

pub returns-in-None-clause-bits : goal.returns-in-None-clause-bits
returns-in-None-clause-bits c =
    subst (λ (x : Contents). IsBitsBelow x c.args.line 0) c.self.view_is
    (bits_absent_below (contents c.self.inside) c.args.line _ _ (has_sets c.self.inside)
    (λ some. read_second (contents c.self.inside) c.args.self.now c.args.line _ c.deref.result.now c.self.view_is some c.first_way_below-first.ensures.value c.first_way_below-first.ensures.within c.deref.ensures.value)
    c.in-None.ensures.none)

pub returns-in-None-clause-out : goal.returns-in-None-clause-out
returns-in-None-clause-out c = subst (λ (x : Contents). IsTakenBelow x c.args.line x) c.self.view_is (record {
  same = refl;
  lines = λ k m. out_absent (second_level (contents c.self.inside)) c.args.line _ k _
      (read_second (contents c.self.inside) c.args.self.now c.args.line _ c.deref.result.now c.self.view_is (let n = m in omega (arith, n)) c.first_way_below-first.ensures.value c.first_way_below-first.ensures.within c.deref.ensures.value)
      c.in-None.ensures.none;
})
