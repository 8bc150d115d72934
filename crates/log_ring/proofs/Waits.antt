-- What a ring is after the records that wait for it.
use Rattle.log_ring.proofs.Common.{◌≡◌, ◌+◌, ◌^◌, ◌<◌, ◌≤◌, ◌∙◌, ℕ, List, [], ◌∷◌, ◌++◌, length, refl, sym, ap, subst, arith, length-append, append-nil, append_assoc, Record, bytes_of, Fits, total, kept, Held, held, HoldsLog, AppendsAll, TellTheirSize, AreRead, IsWhole, records_in}
use Rattle.log_ring.specs.Waits.{after, with_waiting, IsIntake, IsPassedOn}
use Rattle.log_ring.proofs.Cuts.{records_in-nil, whole_nil, pushed_whole}
use Rattle.log_ring.proofs.Fitting.{kept-all, kept-small, kept-kepts, kept-suffix}

pub still_holds : (old new : Held) (rs : List Record) → new.records ≡ kept old.size (old.records ++ rs) → new.dropped + length new.records ≡ old.dropped + length old.records + length rs
    → new.size ≡ old.size → (appended : List Record) → HoldsLog old appended → HoldsLog new (appended ++ rs)
still_holds old new rs latest counted size appended holds = record {
  latest = latest ∙ ap (λ (xs : List Record). kept old.size (xs ++ rs)) holds.latest ∙ kept-kepts old.size appended rs ∙ ap (λ (n : ℕ). kept n (appended ++ rs)) (sym size);
  counted = omega (arith, holds.counted, counted, length-append appended rs);
}

-- fields that agree
same_held : (ring : Held) (rs : List Record) (dropped size : ℕ) → ring.records ≡ rs → ring.dropped ≡ dropped → ring.size ≡ size → ring ≡ held rs dropped size
same_held ring rs dropped size a b c =
    ap (λ (x : List Record). held x ring.dropped ring.size) a ∙ ap (λ (n : ℕ). held rs n ring.size) b ∙ ap (λ (n : ℕ). held rs dropped n) c

-- no more are kept than there are
fewer : (ring : Held) (rs : List Record) → length (kept ring.size (ring.records ++ rs)) ≤ length ring.records + length rs
fewer ring rs =
    let f = kept-suffix ring.size (ring.records ++ rs) in
    omega (arith, ap length f.1, length-append f.0 (kept ring.size (ring.records ++ rs)), length-append ring.records rs)

-- after no record a ring is as it was
pub after_none : (ring : Held) → total ring.records ≤ ring.size → ring ≡ after ring []
after_none ring small =
    let all : kept ring.size (ring.records ++ []) ≡ ring.records = ap (kept ring.size) (append-nil ring.records) ∙ kept-all ring.size ring.records small in
    same_held ring _ _ _ (sym all) (omega (arith, ap length all)) refl

-- after an append of several records it is what it would be after them
pub after_all : (old : Held) (rs : List Record) (new : Held) → AppendsAll old rs new → new ≡ after old rs
after_all old rs new a = same_held new _ _ _ a.latest (omega (arith, a.counted, ap length a.latest)) a.size

-- one more waits
pub after_more : (ring : Held) (rs : List Record) (r : Record) → AppendsAll (after ring rs) (r ∷ []) (after ring (rs ++ r ∷ []))
after_more ring rs r =
    let old : Held = after ring rs in
    let new : Held = after ring (rs ++ r ∷ []) in
    let latest : new.records ≡ kept old.size (old.records ++ r ∷ []) =
    ap (kept ring.size) (sym (append_assoc ring.records rs (r ∷ []))) ∙ sym (kept-kepts ring.size (ring.records ++ rs) (r ∷ [])) in
    let counted : new.dropped + length new.records ≡ old.dropped + length old.records + 1 =
    omega (arith, fewer ring rs, fewer ring (rs ++ r ∷ []), length-append rs (r ∷ [])) in
    record { latest = latest; counted = counted; size = refl; holds = still_holds old new (r ∷ []) latest counted refl }

-- the same of a ring and bytes that may have been passed on
pub appended : TellTheirSize → AreRead → (old ring : Held) (bytes bytes-new : List ℕ) (r : Record) → with_waiting ring bytes ≡ old → IsWhole bytes → Fits 2 r → bytes-new ≡ bytes ++ bytes_of r
    → AppendsAll old (r ∷ []) (with_waiting ring bytes-new)
appended tell read old ring bytes bytes-new r seen whole fits e =
    let both = pushed_whole tell read bytes bytes-new r whole fits e in
    subst (λ (x : Held). AppendsAll x (r ∷ []) (with_waiting ring bytes-new)) seen
    (subst (λ (rs : List Record). AppendsAll (with_waiting ring bytes) (r ∷ []) (after ring rs)) (sym both.1) (after_more ring (records_in bytes) r))

-- as many were appended
pub count_is : (ring : Held) (rs : List Record) → (after ring rs).dropped + length (after ring rs).records ≡ ring.dropped + (length ring.records + length rs)
count_is ring rs = omega (arith, fewer ring rs)

-- if nothing waits, nothing is passed on
pub passed_none : (ring : Held) (bytes : List ℕ) → length bytes ≡ 0 → total ring.records ≤ ring.size → IsPassedOn ring bytes ring bytes
passed_none ring [] e small = record { same = after_none ring small ∙ ap (after ring) (sym records_in-nil); none = refl }
passed_none ring (b ∷ bytes) e small = absurd (omega (arith, e))

-- passing on changes nothing that is seen
pub passed_same : (ring : Held) (bytes : List ℕ) (ring-new : Held) (bytes-new : List ℕ) → IsPassedOn ring bytes ring-new bytes-new → with_waiting ring-new bytes-new ≡ with_waiting ring bytes
passed_same ring bytes ring-new bytes-new p =
    let small : total ring-new.records ≤ ring-new.size = subst (λ (x : Held). total x.records ≤ x.size) (sym p.same) (kept-small ring.size (ring.records ++ records_in bytes)) in
    ap (with_waiting ring-new) p.none ∙ ap (after ring-new) records_in-nil ∙ sym (after_none ring-new small) ∙ p.same

-- an intake for which nothing waits
pub fresh : (ring : Held) (bytes : List ℕ) (room : ℕ) → bytes ≡ [] → 146 ≤ room → room ≤ 640 → room ≤ ring.size → IsIntake ring bytes room
fresh ring [] room e least most within = record { can = record { whole = whole_nil; small = omega arith; count = λ n. absurd (omega (arith, n)) }; least = least; most = most; within = within; few = omega arith }
fresh ring (b ∷ bytes) room e least most within = absurd cc

-- and one for which one record more waits
pub more_wait : TellTheirSize → AreRead → (old ring : Held) (bytes bytes-new more : List ℕ) (room : ℕ) (r : Record) → with_waiting ring bytes ≡ old → old.dropped + length old.records < 2 ^ 60 → IsWhole bytes
    → Fits 2 r → more ≡ bytes_of r → bytes-new ≡ bytes ++ more → length bytes + length more ≤ room → 146 ≤ room → room ≤ 640 → room ≤ ring.size → IsIntake ring bytes-new room
more_wait tell read old ring bytes bytes-new more room r seen count whole fits is e enough least most within =
    let both = pushed_whole tell read bytes bytes-new r whole fits (e ∙ ap (λ (t : List ℕ). bytes ++ t) is) in
    let few : length bytes-new ≤ room = omega (arith, enough, ap length e, length-append bytes more) in
    let before : ring.dropped + length ring.records < 2 ^ 60 = omega (arith, count, count_is ring (records_in bytes), ap (λ (h : Held). h.dropped + length h.records) seen) in
    record { can = record { whole = both.0; small = omega (arith, few, within); count = λ n. before }; least = least; most = most; within = within; few = few }
