use Rattle.first_load_bits.proofs.Common.{ℕ, ◌≡◌, ◌<◌, ◌+◌, List, ◌==◌, if◌then◌else◌, ◌-◌, ◌*◌, ◌%◌, ◌^◌, ◌∙◌, take, drop, ap, subst, sym, refl, bit_or, pow_pos, inl, bit_at, line_in, Way, line_of, set_of, place_of, known_bits, HasLine, IsListed, IsTouch, Contents, first_level, second_level, contents}
use Rattle.std.proofs.lemmas.Bool.{lt-ltb}
use Rattle.first_load_bits.specs.declared.warm.Warm.TheVariants as Answer
use Rattle.first_load_bits.proofs.Standing.{IsRead, put_keeps, kept_later, known_read, line_read}
use Rattle.first_load_bits.proofs.Both.{listed_is, mask_is, read_first, touched_cache}
use Rattle.first_load_bits.proofs.Inside.{no_sets}
use Rattle.first_load_bits.proofs.cache.Cache.touch_listed.Goals as goal

-- the cache after the touch, with a mask
abbrev after : goal.After-answer → (mask : ℕ) → Contents
after c mask =
    let x : Contents = contents c.self.inside in
    touched_cache x (c.args.first + c.args.at) (record { line = c.line_of-line.result; mask = mask; age = x.steps + 1 }) x.ways_below

-- the ways of the set
abbrev ways : (c : goal.After-answer) → List Way
ways c = take (c.args.first + c.self.inside.width - c.args.first) (drop c.args.first c.self.inside.ways.items)

listed : (c : goal.After-answer) → IsListed (contents c.self.inside) c.args.addr c.args.first c.args.at
listed c = subst (λ (x : Contents). IsListed x c.args.addr c.args.first c.args.at) (sym c.self.view_is) c.requires.listed

line_is : (c : goal.After-answer) → c.line_of-line.result ≡ line_of (contents c.self.inside).geometry c.args.addr
line_is c = c.line_of-line.ensures ∙ ap (λ (x : Contents). line_of x.geometry c.args.addr) (sym c.self.view_is)

read : (c : goal.After-answer) → IsRead (first_level (contents c.self.inside)) c.line_of-line.result c.args.first (ways c)
read c =
    let x : Contents = contents c.self.inside in
    read_first x x c.line_of-line.result c.args.first c.self.inside.ways.items refl (pow_pos c.self.inside.set_bits.bits)
    ((listed c).first_is ∙ ap (λ k. set_of x.geometry k * x.geometry.ways) (sym (line_is c))) (listed c).within refl

has : (c : goal.After-answer) → HasLine c.line_of-line.result c.args.at (ways c)
has c = subst (λ k. HasLine k c.args.at (ways c)) (sym (line_is c)) (listed c).has

-- the way as it was: it has the line, and its mask counts
abbrev was : goal.After-answer → Way
was c = c.index_mut-way.result.now

line_same : (c : goal.After-answer) → (was c).line ≡ c.line_of-line.result
line_same c = line_read (first_level (contents c.self.inside)) c.line_of-line.result c.args.first c.args.at (ways c) c.index_mut-way.result.now (read c) (has c) c.index_mut-way.ensures.value

mask_in : (g : ℕ) (w : Way) → g < w.age → w.mask ≡ (line_in g w).bits
mask_in g w e = rw (lt-ltb g w.age e, line_in) refl

-- so the way that is written is that of an access
abbrev written : goal.After-answer → (mask : ℕ) → Way
written c mask = record { line = c.index_mut-way.result.now.line; mask = mask; age = c.self.inside.steps + 1 }

same : (c : goal.After-answer) (mask : ℕ) → written c mask ≡ record { line = c.line_of-line.result; mask = mask; age = c.self.inside.steps + 1 }
same c mask = ap (λ (l : ℕ). record { line = l; mask = mask; age = c.self.inside.steps + 1 }) (line_same c)

pub invariant_of-self : goal.invariant_of-self
invariant_of-self c = record {
  some = c.self.invariant.some;
  sets = c.self.invariant.sets;
  sets_below = c.self.invariant.sets_below;
  words = c.self.invariant.words;
  shift = c.self.invariant.shift;
  usual = c.self.invariant.usual;
  count = c.self.invariant.count;
  count_below = c.self.invariant.count_below;
  kept = put_keeps (first_level (contents c.self.inside)) c.line_of-line.result _ c.args.at _ (written c (bit_or c.index_mut-way.result.now.mask (1 * 2 ^ c.place_of-place.result % 2 ^ 16)))
      c.self.invariant.kept (read c) (inl (has c)) (line_same c) refl;
  kept_below = kept_later (second_level (contents c.self.inside)) c.self.invariant.kept_below;
}

pub returns-then-way-self : goal.returns-then-way-self
returns-then-way-self c =
    let x : Contents = contents c.self.inside in
    let line = c.line_of-line.result in
    let w : Way = c.index_mut-way.result.now in
    let raw : ℕ = bit_or w.mask (1 * 2 ^ c.place_of-place.result % 2 ^ 16) in
    let alone = (listed c).alone in
    let place_is = c.place_of-place.ensures.value ∙ ap (λ (y : Contents). place_of y.geometry c.args.addr) (sym c.self.view_is) in
    let bits = mask_in x.generation w c.if-way-self.true in
    let known = bits ∙ known_read (first_level x) line c.args.first c.args.at 0 (ways c) w (read c) (has c) c.index_mut-way.ensures.value in
    let mask = mask_is w.mask (known_bits x.generation line 0 w) c.place_of-place.result c.place_of-place.ensures.within known in
    let told = c.answer.ensures ∙ ap (λ m. if bit_at m c.place_of-place.result == 1 then Answer.Warm else Answer.Cold) bits in
    subst (λ (y : Contents). IsTouch y c.args.addr c.answer.result (touched_cache x (c.args.first + c.args.at) (written c raw) x.ways_below)) c.self.view_is
    (subst (λ (v : Way). IsTouch x c.args.addr c.answer.result (touched_cache x (c.args.first + c.args.at) v x.ways_below)) (sym (same c raw))
    (subst (λ m. IsTouch x c.args.addr c.answer.result (after c m)) (sym mask)
    (listed_is x c.args.addr line c.args.first c.args.at c.place_of-place.result w c.answer.result c.self.invariant.some (pow_pos c.self.inside.set_bits.bits) (no_sets c.self.inside alone)
    c.self.invariant.kept c.self.invariant.kept_below (listed c) (line_is c) place_is c.index_mut-way.ensures.value told)))
