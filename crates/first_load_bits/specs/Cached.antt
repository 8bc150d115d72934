-- How the fields of a cache are seen, and what is true of them.
use Rattle.std.specs.Prelude.{ℕ, ◌<◌, ◌≤◌, ◌≡◌, ◌+◌, ◌*◌, ◌^◌, ◌==◌, true, false, All, AllPairs, vec_len}
use Rattle.first_load_bits.specs.declared.cache.Cache.TheInside.{Inside}
use Rattle.first_load_bits.specs.Represents.{Level, Contents, ways_of, first_level, second_level}
use Rattle.first_load_bits.specs.Ways.{AreApart}

-- the number of sets of the second level: none if they would have no ways
abbrev pub sets_below : Inside → ℕ
sets_below c = elim (c.width_below == 0) [ true ↦ 0 | false ↦ 2 ^ c.set_bits_below.bits ]

-- a cache by its fields, which keep the sets, and the line, as exponents of 2
abbrev pub contents : Inside → Contents
contents c = record {
  geometry = record { sets = 2 ^ c.set_bits.bits; ways = c.width; line = 2 ^ c.word_bits.bits; sets2 = sets_below c; ways2 = c.width_below };
  steps = c.steps;
  generation = c.generation;
  ways = c.ways.items;
  ways_below = c.ways_below.items;
}

-- Ages are numbers of touches so far; within a set, ways that aren't empty have ages and
-- lines of their own.
pub record AreKept (v : Level) : Type 0 where
  pub cleared : v.generation ≤ v.steps
  pub ages : All (λ w. w.age ≤ v.steps) v.ways
  pub apart : (k : ℕ) → k < v.geometry.sets → AllPairs AreApart (ways_of v k)

-- there are at most 1,024 sets, 4,096 of the second level, and 16 words in a line, and ways for each set
pub record IsCache (c : Inside) : Type 0 where
  pub some : 0 < c.width
  pub sets : c.set_bits.bits ≤ 10
  pub sets_below : c.set_bits_below.bits ≤ 12
  pub words : c.word_bits.bits ≤ 4
  pub shift : c.shift ≡ c.word_bits.bits + 2
  pub usual : c.usual ≡ true → (c.width ≡ 4) × (c.width_below ≡ 0)
  pub count : vec_len c.ways ≡ 2 ^ c.set_bits.bits * c.width
  pub count_below : vec_len c.ways_below ≡ 2 ^ c.set_bits_below.bits * c.width_below
  pub kept : AreKept (first_level (contents c))
  pub kept_below : AreKept (second_level (contents c))
