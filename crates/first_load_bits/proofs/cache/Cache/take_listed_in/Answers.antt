use Rattle.first_load_bits.proofs.Common.{◌≡◌, ◌<◌, ◌≤◌, ◌+◌, ◌-◌, ◌*◌, ◌∙◌, ℕ, List, length, ap, sym, set_of, take, drop, set, subst, pow_pos, refl, Way, Contents, first_level, contents, IsTakenListed, with_ways}
use Rattle.first_load_bits.proofs.Standing.{IsRead, out_keeps, out_goes, out_absent}
use Rattle.first_load_bits.proofs.Both.{read_first}
use Rattle.first_load_bits.proofs.cache.Cache.take_listed_in.Goals as goal

read_in : (c now : Contents) (l first width : ℕ) (ways : List Way) → c ≡ now → 0 < c.geometry.sets → first ≡ set_of now.geometry l * now.geometry.ways → first + now.geometry.ways ≤ length now.ways → ways ≡ c.ways
    → width ≡ now.geometry.ways → IsRead (first_level c) l first (take (first + width - first) (drop first ways))
read_in c now l first width ways seen some f n w same =
    subst (λ (k : ℕ). IsRead (first_level c) l first (take (first + k - first) (drop first ways))) (sym (same ∙ sym (ap (λ (x : Contents). x.geometry.ways) seen))) (read_first c now l first ways seen some f n w)

read : (c : goal.After-self-1) → IsRead (first_level (contents c.self.inside)) c.args.line c.args.first (take (c.args.first + c.args.width - c.args.first) (drop c.args.first c.deref.result.now))
read c = read_in (contents c.self.inside) c.args.self.now c.args.line c.args.first c.args.width c.deref.result.now c.self.view_is (pow_pos c.self.inside.set_bits.bits) c.requires.first c.requires.within c.deref.ensures.value c.requires.width

-- the way that is written
abbrev emptied : Way → Way
emptied w = record { line = w.line; mask = w.mask; age = 0 }

pub invariant_of-self : goal.invariant_of-self
invariant_of-self c =
    let level = first_level (contents c.self.inside) in
    let w = c.index_mut.result.now in
    record {
      some = c.self.invariant.some;
      sets = c.self.invariant.sets;
      sets_below = c.self.invariant.sets_below;
      words = c.self.invariant.words;
      shift = c.self.invariant.shift;
      usual = c.self.invariant.usual;
      count = c.self.invariant.count;
      count_below = c.self.invariant.count_below;
      kept = out_keeps level c.args.line _ c.in-Some.at _ (emptied w) c.self.invariant.kept (read c) c.in-Some.ensures.found refl;
      kept_below = c.self.invariant.kept_below;
    }

pub returns-in-Some : goal.returns-in-Some
returns-in-Some c = let after : Contents = with_ways (contents c.self.inside) (set c.self.inside.ways.items (c.args.first + c.in-Some.at) (emptied c.index_mut.result.now)) in
    subst (λ (x : Contents). IsTakenListed x c.args.line after) c.self.view_is (record {
      same = refl;
      lines = λ k m. out_goes (first_level (contents c.self.inside)) c.args.line _ c.in-Some.at k _ (emptied c.index_mut.result.now) c.self.invariant.kept (read c) c.in-Some.ensures.found refl;
    })

pub returns-in-None : goal.returns-in-None
returns-in-None c =
    let read = read_in (contents c.self.inside) c.args.self.now c.args.line c.args.first c.args.width c.deref.result.now c.self.view_is (pow_pos c.self.inside.set_bits.bits) c.requires.first c.requires.within c.deref.ensures.value c.requires.width in
    subst (λ (x : Contents). IsTakenListed x c.args.line x) c.self.view_is (record { same = refl; lines = λ k m. out_absent (first_level (contents c.self.inside)) c.args.line _ k _ read c.in-None.ensures.none })
