use Rattle.run_model.proofs.Common.{◌≡◌, ◌+◌, ◌∷◌, ◌++◌, [], List, take, subst, sym, ◌∙◌, length-append, arith, number_bytes, Record, Edge, bytes_of, total, Log, edges_from, IsLog, ℕ, zero, suc, ap, append_assoc, Some, slice_get}
use Rattle.run_model.proofs.Bytes.{total_append}
use Rattle.run_model.proofs.records.append_edge.Goals as goal

-- The Edges of a beginning of the sources.

edges_next : (h ic : ℕ) (es : List (ℕ × ℕ)) (i : ℕ) (x : ℕ × ℕ) → slice_get es i ≡ Some x → edges_from h ic (take (suc i) es) ≡ edges_from h ic (take i es) ++ Edge h ic x.0 x.1 ∷ []
edges_next h ic [] i x e = cc
edges_next h ic (y ∷ es) zero x e = grind arith
edges_next h ic (y ∷ es) (suc i) x e = ap (λ (rs : List Record). Edge h ic y.0 y.1 ∷ rs) (edges_next h ic es i x e)

-- one Edge more
edges_more : (h ic : ℕ) (es : List (ℕ × ℕ)) (i : ℕ) (x : ℕ × ℕ) (rs : List Record) → slice_get es i ≡ Some x → rs ++ edges_from h ic (take (i + 1) es) ≡ (rs ++ edges_from h ic (take i es)) ++ Edge h ic x.0 x.1 ∷ []
edges_more h ic es i x rs e =
    let up : suc i ≡ i + 1 = omega arith in
    subst (λ (n : ℕ). rs ++ edges_from h ic (take n es) ≡ (rs ++ edges_from h ic (take i es)) ++ Edge h ic x.0 x.1 ∷ []) up
    (ap (λ (xs : List Record). rs ++ xs) (edges_next h ic es i x e) ∙ sym (append_assoc rs (edges_from h ic (take i es)) (Edge h ic x.0 x.1 ∷ [])))

-- a log holds the same records by another name
same_records : (log : Log) (xs ys : List Record) → xs ≡ ys → IsLog log ys → IsLog log xs
same_records log xs ys e is = subst (λ (zs : List Record). IsLog log zs) (sym e) is

pub returns-clause-holds : goal.returns-clause-holds
returns-clause-holds c rs is =
    let from = c.in-Some.from in let from_ic = c.in-Some.from_ic in
    let r : Record = Edge c.args.hart c.args.ic from from_ic in
    let before = rs ++ edges_from c.args.hart c.args.ic (take c.args.i c.args.edges.now) in
    let wide = c.numbers_have_their_width.ensures in
    let nineteen : total (r ∷ []) ≡ 19 = omega (arith, length-append (bytes_of r) [], length-append (number_bytes 8 c.args.ic) (from ∷ number_bytes 8 from_ic), wide 8 c.args.ic, wide 8 from_ic) in
    let e = edges_more c.args.hart c.args.ic c.args.edges.now c.args.i (from, from_ic) rs (sym c.get.ensures ∙ c.in-Some.is) in
    let more : c.args.log.now.bytes + 19 ≡ total (before ++ r ∷ []) = omega (arith, is.bytes, total_append before (r ∷ []), nineteen) in
    same_records _ _ (before ++ r ∷ []) e (record {
      holds = c.append_edge.ensures.holds before is.holds;
      bytes = more;
    })
