-- The harts of a joint replay, begun one after another.
use Rattle.joint_replay.proofs.Common.{◌≡◌, ℕ, zero, suc, ◌+◌, refl, sym, ap, ◌∙◌, subst, arith, List, [], ◌∷◌, ◌++◌, length, None, Program, Record, Content, Lane, lane_of, Joining, lanes_from, begun, fresh, HartLane, IsReached, lanes_of, joining, AreHarts, AreBegun, IsTogether}

lanes_added : (hs : List HartLane) (l : HartLane) → lanes_of (hs ++ l ∷ []) ≡ lanes_of hs ++ l.lane ∷ []
lanes_added [] l = refl
lanes_added (h ∷ hs) l = ap (λ (ls : List Lane). h.lane ∷ ls) (lanes_added hs l)

length_added : (hs : List HartLane) (l : HartLane) → length (hs ++ l ∷ []) ≡ suc (length hs)
length_added [] l = refl
length_added (h ∷ hs) l = ap suc (length_added hs l)

one_from : (i : Program) (records : List Record) (h n : ℕ) → lanes_from i records h (suc n) ≡ lanes_from i records h n ++ lane_of i records (h + n) ∷ []
one_from i records h zero = let same : h ≡ h + 0 = omega arith in ap (λ k. lane_of i records k ∷ []) same
one_from i records h (suc n) =
    let same : h + 1 + n ≡ h + suc n = omega arith in
    ap (λ (ls : List Lane). lane_of i records h ∷ ls) (one_from i records (h + 1) n ∙ ap (λ k. lanes_from i records (h + 1) n ++ lane_of i records k ∷ []) same)

own_added : (i : Program) (records : List Record) (h : ℕ) (hs : List HartLane) (l : HartLane) → AreHarts i records h hs → l.program ≡ i → l.records ≡ records → l.hart ≡ h + length hs → AreHarts i records h (hs ++ l ∷ [])
own_added i records h [] l own p r e = (p, r, omega (arith, e), tt)
own_added i records h (x ∷ hs) l own p r e = (own.0, own.1, own.2, own_added i records (h + 1) hs l own.3 p r (omega (arith, e)))

pub one_begun : (i : Program) (records : List Record) (count : ℕ) (hs all : List HartLane) (l : HartLane) → AreBegun i records count hs
    → l ≡ record { program = i; records = records; hart = count; lane = lane_of i records count } → all ≡ hs ++ l ∷ [] → AreBegun i records (count + 1) all
one_begun i records count hs all l b e f = subst (AreBegun i records (count + 1)) (sym f) (record {
  lanes = lanes_added hs l ∙ ap (λ (ls : List Lane). ls ++ l.lane ∷ []) b.lanes ∙ ap (λ (x : HartLane). lanes_from i records 0 count ++ x.lane ∷ []) e
      ∙ ap (λ k. lanes_from i records 0 count ++ lane_of i records k ∷ []) (zero_more count) ∙ sym (one_from i records 0 count) ∙ ap (lanes_from i records 0) (up count);
  own = own_added i records 0 hs l b.own (ap (λ (x : HartLane). x.program) e) (ap (λ (x : HartLane). x.records) e) (omega (arith, ap (λ (x : HartLane). x.hart) e, b.length_is));
  length_is = length_added hs l ∙ omega (arith, b.length_is);
})
  where
    zero_more : (n : ℕ) → n ≡ 0 + n
    zero_more n = omega arith

    up : (n : ℕ) → suc n ≡ n + 1
    up n = omega arith

-- before the first step
pub is_fresh : (i : Program) (records : List Record) (count : ℕ) (hs : List HartLane) (memory : List (ℕ × ℕ)) → AreBegun i records count hs → memory ≡ []
    → joining i records hs memory None ≡ fresh i count records
is_fresh i records count hs memory b e =
    ap (λ (ls : List Lane). with_lanes ls memory) b.lanes ∙ ap (λ (ms : List (ℕ × ℕ)). with_lanes (lanes_from i records 0 count) ms) e
  where
    with_lanes : List Lane → List (ℕ × ℕ) → Joining
    with_lanes ls ms = record { program = i; records = records; lanes = ls; memory = ms; refused = None }

pub is_together : (i : Program) (log : Content) (count : ℕ) (hs : List HartLane) (memory : List (ℕ × ℕ)) → AreBegun i log.records log.head.settings.harts hs → count ≡ log.head.settings.harts → memory ≡ []
    → IsTogether i log count hs memory None
is_together i log count hs memory b c e = record {
  count_is = omega (arith, c, b.length_is);
  number = sym c;
  own = b.own;
  reached = subst (λ n. IsReached n (joining i log.records hs memory None)) (sym b.length_is) (subst (IsReached log.head.settings.harts) (sym (is_fresh i log.records log.head.settings.harts hs memory b e)) at_start);
}
  where
    at_start : IsReached log.head.settings.harts (fresh i log.head.settings.harts log.records)
    at_start = record {
      order = [];
      walk = begun (fresh i log.head.settings.harts log.records);
      begun = record { allowed = refl };
      lanes = refl;
      memory = refl;
      whole = λ none. refl;
    }
