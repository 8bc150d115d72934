use Rattle.std.proofs.Common.{arith, ◌≡◌, ◌≤◌, ◌<◌, ◌-◌, ◌∙◌, ℕ, List, length, slice_index_or, ap, sym}
use Rattle.bn_base.specs.Programs.{Part, AreApart, end_of, highest_end}
use Rattle.bn_base.proofs.Lookup.{highest_end-last}
use Rattle.bn_base.proofs.image.Image.highest_end.Goals as goal

-- the end of the last part, and that it is in the bounds
last_end : (high n : ℕ) (ps qs : List Part) (p : Part) → AreApart 4096 high ps → qs ≡ ps → n ≡ end_of p → (0 < length qs) × ((d : Part) → p ≡ slice_index_or qs (length qs - 1) d)
    → (n ≡ highest_end ps) × (n ≤ high)
last_end high n ps qs p h same is last =
    let l : (0 < length ps) × ((d : Part) → p ≡ slice_index_or ps (length ps - 1) d) = rw same at last in
    let top = highest_end-last 4096 high ps (length ps - 1) p h (omega (arith, l.0)) in
    let e : n ≡ highest_end ps = is ∙ ap end_of (l.1 p) ∙ sym top.0 in
    (e, omega (arith, e, top.2))

pub returns-in-Some-clause-value : goal.returns-in-Some-clause-value
returns-in-Some-clause-value c = rw (← c.self.view_is) ((last_end c.self.inside.memory _ c.self.inside.segments.items _ c.in-Some.segment.now c.self.invariant.0.apart c.deref.ensures.value c.end.ensures.value c.in-Some.ensures.item.3).0)

pub returns-in-Some-clause-bound : goal.returns-in-Some-clause-bound
returns-in-Some-clause-bound c = rw (← c.self.view_is) ((last_end c.self.inside.memory _ c.self.inside.segments.items _ c.in-Some.segment.now c.self.invariant.0.apart c.deref.ensures.value c.end.ensures.value c.in-Some.ensures.item.3).1)
