use Rattle.first_load_bits.proofs.Common.{◌≡◌, ◌<◌, ◌+◌, ◌-◌, ◌*◌, ◌%◌, ◌^◌, ◌∙◌, take, drop, ap, ◌==◌, sym, subst, bit_or, pow_pos, refl, if◌then◌else◌, bit_at, known_bits, IsFallen, IsTakenBelow, Contents, first_level, second_level, contents}
use Rattle.first_load_bits.specs.declared.warm.Warm.TheVariants as Answer
use Rattle.first_load_bits.proofs.Standing.{put_keeps, kept_later}
use Rattle.first_load_bits.proofs.Both.{IsTouched, touched_cache, touch_is, mask_is, read_first}
use Rattle.first_load_bits.proofs.Inside.{has_sets}
use Rattle.first_load_bits.proofs.cache.Cache.touch_anew.Goals as goal

pub invariant_of-self : goal.invariant_of-self
invariant_of-self c =
    let level = first_level (contents c.self.inside) in
    let read = read_first (contents c.self.inside) c.take_below-below.new.self c.line_of-line.result _ c.deref.result.now c.self.view_is (pow_pos c.self.inside.set_bits.bits) c.first_way-first.ensures.value c.first_way-first.ensures.within c.deref.ensures.value in
    record {
      some = c.self.invariant.some;
      sets = c.self.invariant.sets;
      sets_below = c.self.invariant.sets_below;
      words = c.self.invariant.words;
      shift = c.self.invariant.shift;
      usual = c.self.invariant.usual;
      count = c.self.invariant.count;
      count_below = c.self.invariant.count_below;
      kept = put_keeps level c.line_of-line.result _ c.place_for.result _ (record { line = c.line_of-line.result; mask = bit_or c.known_bits-bits.result (1 * 2 ^ c.place_of-place.result % 2 ^ 16); age = c.self.inside.steps + 1 })
          c.self.invariant.kept read c.place_for.ensures refl refl;
      kept_below = kept_later (second_level (contents c.self.inside)) c.self.invariant.kept_below;
    }

touched : (c : goal.After-answer) → IsTouched c.args.self.now (contents c.self.inside) c.let_fall.new.self c.args.addr c.line_of-line.result c.first_way-first.result c.place_for.result c.place_of-place.result c.take_below-below.result
    (take (c.first_way-first.result + c.self.inside.width - c.first_way-first.result) (drop c.first_way-first.result c.deref.result.now)) c.index.result.now
touched c =
    let x : Contents = contents c.self.inside in
    let line = c.line_of-line.result in
    let mask = mask_is c.known_bits-bits.result (known_bits c.self.inside.generation line c.take_below-below.result c.index.result.now) c.place_of-place.result c.place_of-place.ensures.within c.known_bits-bits.ensures in
    record {
      taken = subst (λ (y : Contents). IsTakenBelow c.args.self.now line y) (sym c.self.view_is) c.take_below-below.ensures.out;
      sets = has_sets c.self.inside;
      kept = c.self.invariant.kept;
      kept_below = c.self.invariant.kept_below;
      read = read_first x c.take_below-below.new.self line _ c.deref.result.now c.self.view_is (pow_pos c.self.inside.set_bits.bits) c.first_way-first.ensures.value c.first_way-first.ensures.within c.deref.ensures.value;
      at = c.place_for.ensures;
      way = c.index.ensures;
      line_is = c.line_of-line.ensures;
      place_is = c.place_of-place.ensures.value;
      below_is = c.take_below-below.ensures.bits;
      fallen = subst (λ m. IsFallen (touched_cache x (c.first_way-first.result + c.place_for.result) (record { line = line; mask = m; age = x.steps + 1 }) x.ways_below) line c.index.result.now c.let_fall.new.self) mask c.let_fall.ensures;
    }

some : (c : goal.After-answer) → 0 < c.args.self.now.geometry.ways
some c = subst (λ (x : Contents). 0 < x.geometry.ways) (touched c).taken.same c.self.invariant.some

known : (c : goal.After-answer) → c.known_bits-bits.result ≡ known_bits c.args.self.now.generation c.line_of-line.result c.take_below-below.result c.index.result.now
known c = c.known_bits-bits.ensures ∙ ap (λ (y : Contents). known_bits y.generation c.line_of-line.result c.take_below-below.result c.index.result.now) (touched c).taken.same

pub returns : goal.returns
returns c = touch_is c.args.self.now (contents c.self.inside) c.let_fall.new.self c.args.addr _ _ _ _ _ _ c.index.result.now c.answer.result (some c) (touched c)
    (c.answer.ensures ∙ ap (λ m. if bit_at m c.place_of-place.result == 1 then Answer.Warm else Answer.Cold) (known c))
