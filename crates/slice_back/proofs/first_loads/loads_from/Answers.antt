use Rattle.slice_back.proofs.Common.{◌≡◌, ℕ, ◌+◌, ◌<◌, Option, Some, None, List, [], ◌∷◌, ◌++◌, length, get_or, drop, sym, ap, ◌∙◌, append_assoc, add-one, arith, drop-cons, append-nil, Record, Logged, put, puts, nothing, loads_in, scanned}
use Rattle.slice_back.proofs.first_loads.loads_from.Goals as goal

-- the loads from a place on, by those after it
from_place : (h : ℕ) (rs : List Record) (k : ℕ) (r : Record) (o : Option (Option (ℕ × ℕ))) → k < length rs → r ≡ get_or rs k r → ((l : Logged) → (put h r l).loads ≡ scanned o l.loads)
    → loads_in h (drop k rs) ≡ scanned o (loads_in h (drop (k + 1) rs))
from_place h rs k r o below is tells =
    let front : drop k rs ≡ r ∷ drop (k + 1) rs = rw add-one (drop-cons rs k r below) ∙ ap (λ (y : Record). y ∷ drop (k + 1) rs) (sym is) in
    ap (loads_in h) front ∙ tells (puts h (drop (k + 1) rs) nothing)

pub loop-place-preserved-in-None : goal.loop-place-preserved-in-None
loop-place-preserved-in-None c =
    let below : c.loop-place.place < length c.args.records.now = omega arith in
    let items : List (ℕ × ℕ) = c.loop-place.loads.items in
    ap (λ (xs : List (ℕ × ℕ)). items ++ xs) (sym (from_place c.args.hart c.args.records.now c.loop-place.place c.get.result None below c.get.ensures c.in-None.ensures)) ∙ c.loop-place.invariant

pub loop-place-preserved : goal.loop-place-preserved
loop-place-preserved c =
    let below : c.loop-place.place < length c.args.records.now = omega arith in
    let items : List (ℕ × ℕ) = c.loop-place.loads.items in
    let behind : List (ℕ × ℕ) = loads_in c.args.hart (drop (c.loop-place.place + 1) c.args.records.now) in
    let all = from_place c.args.hart c.args.records.now c.loop-place.place c.get.result (Some c.in-Some-Some.field-0) below c.get.ensures c.in-Some-Some.ensures
    ∙ ap (λ (o : Option (ℕ × ℕ)). scanned (Some o) behind) c.in-Some-Some.field-0-is in
    ap (λ (xs : List (ℕ × ℕ)). xs ++ behind) c.in_ok-push-in-Some-Some.ensures.items
    ∙ append_assoc items (c.in-Some-Some.load ∷ []) behind
    ∙ ap (λ (xs : List (ℕ × ℕ)). items ++ xs) (sym all)
    ∙ c.loop-place.invariant

pub returns-in-Some-None : goal.returns-in-Some-None
returns-in-Some-None c =
    let below : c.loop-place.place < length c.args.records.now = omega arith in
    let items : List (ℕ × ℕ) = c.loop-place.loads.items in
    let behind : List (ℕ × ℕ) = loads_in c.args.hart (drop (c.loop-place.place + 1) c.args.records.now) in
    let none = from_place c.args.hart c.args.records.now c.loop-place.place c.get.result (Some c.in-Some-None.field-0) below c.get.ensures c.in-Some-None.ensures
    ∙ ap (λ (o : Option (ℕ × ℕ)). scanned (Some o) behind) c.in-Some-None.field-0-is in
    sym (append-nil items) ∙ ap (λ (xs : List (ℕ × ℕ)). items ++ xs) (sym none) ∙ c.loop-place.invariant
