use Rattle.joint_replay.proofs.Common.{◌<◌, ◌+◌, ◌++◌, ◌∷◌, [], ℕ, List, length, drop, ap, ◌∙◌, arith, Joining, positions_from, ◌≡◌, zero, suc, refl, sym, append_assoc, slice_get, Option, Some, None, Coming, Lane, coming_of, count_of, coming}
use Rattle.std.specs.declared.vec.Vec.{Vec}
use Rattle.std.specs.declared.alloc.Global.{Global}
use Rattle.joint_replay.proofs.Choosing.{lanes_length}
use Rattle.joint_replay.proofs.joint.Joint.positions.Goals as goal
use Rattle.joint_replay.proofs.joint.Joint.positions.Goals.{in-Some+in_ok-push, in_default}

front : (xs : List Lane) (k : ℕ) → k < length xs → (x : Lane) × (slice_get xs k ≡ Some x) × (drop k xs ≡ x ∷ drop (suc k) xs)
front [] k low = absurd (omega (arith, low))
front (x ∷ xs) zero low = (x, refl, refl)
front (x ∷ xs) (suc k) low = front xs k (omega (arith, low))

-- the position of a hart before others
abbrev after : ℕ → Option Coming → List (ℕ × ℕ) → List (ℕ × ℕ)
after h o rest = elim o [ None ↦ rest | Some c ↦ (h, count_of c) ∷ rest ]

one_on : (j : Joining) (h : ℕ) → h < length j.lanes → positions_from h (drop h j.lanes) ≡ after h (coming j h) (positions_from (h + 1) (drop (h + 1) j.lanes))
one_on j h low =
    let x = front j.lanes h low in
    let up : suc h ≡ h + 1 = omega arith in
    ap (positions_from h) (x.2 ∙ ap (λ (k : ℕ). x.0 ∷ drop k j.lanes) up)
    ∙ sym (ap (λ (o : Option Lane). after h (elim o as (λ y. Option Coming) [ None ↦ None | Some lane ↦ coming_of lane ]) (positions_from (h + 1) (drop (h + 1) j.lanes))) x.1)

none_more : (j : Joining) (h : ℕ) (found : List (ℕ × ℕ)) (o : Option Coming) → h < length j.lanes → o ≡ coming j h → o ≡ None → found ++ positions_from h (drop h j.lanes) ≡ positions_from 0 j.lanes
    → found ++ positions_from (h + 1) (drop (h + 1) j.lanes) ≡ positions_from 0 j.lanes
none_more j h found o low e f so =
    ap (λ (ps : List (ℕ × ℕ)). found ++ ps) (sym (one_on j h low ∙ ap (λ (c : Option Coming). after h c (positions_from (h + 1) (drop (h + 1) j.lanes))) (sym e ∙ f))) ∙ so

one_more : (j : Joining) (h : ℕ) (found : List (ℕ × ℕ)) (o : Option Coming) (c : Coming) → h < length j.lanes → o ≡ coming j h → o ≡ Some c → found ++ positions_from h (drop h j.lanes) ≡ positions_from 0 j.lanes
    → (found ++ (h, count_of c) ∷ []) ++ positions_from (h + 1) (drop (h + 1) j.lanes) ≡ positions_from 0 j.lanes
one_more j h found o c low e f so =
    append_assoc found ((h, count_of c) ∷ []) (positions_from (h + 1) (drop (h + 1) j.lanes))
    ∙ ap (λ (ps : List (ℕ × ℕ)). found ++ ps) (sym (one_on j h low ∙ ap (λ (x : Option Coming). after h x (positions_from (h + 1) (drop (h + 1) j.lanes))) (sym e ∙ f))) ∙ so

pub loop-hart-preserved : goal.loop-hart-preserved
loop-hart-preserved c =
    let low : c.loop-hart.hart < length c.args.self.now.lanes = omega (arith, c.loop-hart-test.true, c.self.invariant.0.count_is, lanes_length c.self.inside.lanes.items, ap (λ (j : Joining). length j.lanes) c.self.view_is) in
    elim c.match-coming.branch [
      | in-Some+in_ok-push s ↦
          ap (λ (v : Vec (ℕ × ℕ) Global). v.items ++ positions_from (c.loop-hart.hart + 1) (drop (c.loop-hart.hart + 1) c.args.self.now.lanes)) s.found-is
          ∙ ap (λ (ps : List (ℕ × ℕ)). ps ++ positions_from (c.loop-hart.hart + 1) (drop (c.loop-hart.hart + 1) c.args.self.now.lanes)) (s.in_ok-push.ensures.items ∙ ap (λ n. c.loop-hart.found.items ++ (c.loop-hart.hart, n) ∷ []) s.ic.ensures)
          ∙ one_more c.args.self.now c.loop-hart.hart c.loop-hart.found.items c.coming.result s.in-Some.coming low c.coming.ensures s.in-Some.is c.loop-hart.invariant
      | in_default n ↦
          ap (λ (v : Vec (ℕ × ℕ) Global). v.items ++ positions_from (c.loop-hart.hart + 1) (drop (c.loop-hart.hart + 1) c.args.self.now.lanes)) n.found-is
          ∙ none_more c.args.self.now c.loop-hart.hart c.loop-hart.found.items c.coming.result low c.coming.ensures n.in_default.is c.loop-hart.invariant
    ]
