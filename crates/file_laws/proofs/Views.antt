-- What is known of a hart from the records so far, and the records of a turn that are its hart's own.
use Rattle.file_laws.proofs.Common.{◌≡◌, ℕ, zero, suc, ◌+◌, ◌<◌, ◌≤◌, ◌^◌, max, Bool, true, false, Option, Some, List, [], ◌∷◌, ◌++◌, length, Ok, refl, sym, ◌∙◌, subst, arith, append_assoc, ◌≢◌, ◌==◌, slice_get, slice_set, length-set, append-nil, EndMark, Reply, Warm, Record, Header, FirstLoad, ScOk, ScFailed, Edge, End, OrderLimits, HartView, Awaiting, Open, Done, phase_after, step, Keeps, Hart, edges_from, load_record, sc_record}
use Rattle.rv_meaning.specs.declared.asks.Reply.TheVariants as replies
use Rattle.first_load_bits.specs.declared.warm.Warm.TheVariants as answers

-- ---- the laws of the order of records that are used here

abbrev pub OneMoreIsKept : Type 0
OneMoreIsKept = (t : OrderLimits) (count dropped : ℕ) (kept : List Record) (harts next : List HartView) (r : Record) → Keeps t count dropped kept harts → step t harts r ≡ Ok next → Keeps t count dropped (kept ++ r ∷ []) next

abbrev pub AnAwaitedHeaderFollows : Type 0
AnAwaitedHeaderFollows = (t : OrderLimits) (harts : List HartView) (h n ic pc : ℕ) (x : List ℕ) (seen : ℕ) (met : Bool) (last : Option ℕ) → slice_get harts h ≡ Some (record { phase = Awaiting (Some n) ic; seen = seen; met = met; last = last })
    → n ≤ 2 ^ 41 → seen ≤ ic → ic ≤ t.limit
    → step t harts (Header h n ic pc x) ≡ Ok (slice_set harts h (record { phase = Open (n + 1) ic; seen = seen; met = true; last = last }))

abbrev pub LoadsAndConditionalsFollow : Type 0
LoadsAndConditionalsFollow = (t : OrderLimits) (harts : List HartView) (h skip value next since seen : ℕ) (met : Bool) (last : Option ℕ) → slice_get harts h ≡ Some (record { phase = Open next since; seen = seen; met = met; last = last })
    → let after = Ok (slice_set harts h (record { phase = Open next since; seen = seen; met = true; last = last })) in
    (step t harts (FirstLoad h skip value) ≡ after) × (step t harts (ScOk h) ≡ after) × (step t harts (ScFailed h) ≡ after)

abbrev pub AnEdgeFollows : Type 0
AnEdgeFollows = (t : OrderLimits) (harts : List HartView) (h ic s j next since seen : ℕ) (met : Bool) (last : Option ℕ) → slice_get harts h ≡ Some (record { phase = Open next since; seen = seen; met = met; last = last })
    → s < length harts → s ≢ h → ic < t.limit → j < t.limit → seen ≤ ic + 1 → since ≤ ic → ic < since + t.interval
    → step t harts (Edge h ic s j) ≡ Ok (slice_set harts h (record { phase = Open next since; seen = max seen (ic + 1); met = true; last = last }))

abbrev pub AnEndFollows : Type 0
AnEndFollows = (t : OrderLimits) (harts : List HartView) (h : ℕ) (mark : EndMark) (next since seen : ℕ) (met : Bool) (last : Option ℕ) → slice_get harts h ≡ Some (record { phase = Open next since; seen = seen; met = met; last = last })
    → seen ≤ mark.ic → mark.ic ≤ t.limit → (mark.reason ≡ 7 → mark.ic ≡ t.limit) → since ≤ mark.ic → mark.ic ≤ since + t.interval → (mark.reason ≡ 1 → mark.ic ≡ since + t.interval)
    → step t harts (End h mark) ≡ Ok (slice_set harts h (record { phase = phase_after (Open next since) mark; seen = seen; met = true; last = Some mark.ic }))

pub record OrderLaws : Type 0 where
  pub more : OneMoreIsKept
  pub header : AnAwaitedHeaderFollows
  pub other : LoadsAndConditionalsFollow
  pub edge : AnEdgeFollows
  pub ends : AnEndFollows

-- ---- one view among others

abbrev pub Views : Type 0
Views = List HartView

lower : (j k : ℕ) → (suc j == suc k) ≡ false → (j == k) ≡ false
lower j k e = grind arith

not_same : (k : ℕ) → (k == k) ≡ false → ⊥
not_same k e = grind arith

pub get_set : (vs : Views) (k : ℕ) (v w : HartView) → slice_get vs k ≡ Some v → slice_get (slice_set vs k w) k ≡ Some w
get_set [] k v w e = absurd cc
get_set (x ∷ vs) zero v w e = refl
get_set (x ∷ vs) (suc k) v w e = get_set vs k v w e

pub get_other : (vs : Views) (k j : ℕ) (w : HartView) → (j == k) ≡ false → slice_get (slice_set vs k w) j ≡ slice_get vs j
get_other [] k j w e = refl
get_other (x ∷ vs) zero zero w e = absurd (not_same 0 e)
get_other (x ∷ vs) zero (suc j) w e = refl
get_other (x ∷ vs) (suc k) zero w e = refl
get_other (x ∷ vs) (suc k) (suc j) w e = get_other vs k j w (lower j k e)

-- the hart is in an interval that began at count since, with the next one's number, and no Edge of it is at count ic or later
pub record IsOpen (next since ic : ℕ) (o : Option HartView) : Type 0 where
  pub seen : ℕ
  pub met : Bool
  pub last : Option ℕ
  pub is : o ≡ Some (record { phase = Open next since; seen = seen; met = met; last = last })
  pub low : seen ≤ ic

-- the hart's last End is at count ic, and nothing comes after it
pub record IsDone (ic : ℕ) (o : Option HartView) : Type 0 where
  pub seen : ℕ
  pub met : Bool
  pub is : o ≡ Some (record { phase = Done; seen = seen; met = met; last = Some ic })

-- the view of a hart, as a turn leaves it
pub record IsView (h : Hart) (o : Option HartView) : Type 0 where
  pub in_interval : h.live ≡ true → IsOpen (h.number + 1) h.begun h.state.ic o
  pub over : h.live ≡ false → IsDone h.state.ic o

pub open_later : (next since ic later : ℕ) (o : Option HartView) → ic ≤ later → IsOpen next since ic o → IsOpen next since later o
open_later next since ic later o le v = record { seen = v.seen; met = v.met; last = v.last; is = v.is; low = omega (arith, v.low, le) }

-- ---- records of one hart

-- after the stream come records of hart k, which leave its view so and the others as they are
pub record Took (t : OrderLimits) (n : ℕ) (stream : List Record) (vs : Views) (k : ℕ) (rs : List Record) (P : Option HartView → Type 0) : Type 0 where
  pub views : Views
  pub keeps : Keeps t n 0 (stream ++ rs) views
  pub size : length views ≡ length vs
  pub own : P (slice_get views k)
  pub others : (j : ℕ) → (j == k) ≡ false → slice_get views j ≡ slice_get vs j

pub took_none : (t : OrderLimits) (n : ℕ) (stream : List Record) (vs : Views) (k : ℕ) (P : Option HartView → Type 0) → Keeps t n 0 stream vs → P (slice_get vs k) → Took t n stream vs k [] P
took_none t n stream vs k P kp p = record {
  views = vs;
  keeps = subst (λ (x : List Record). Keeps t n 0 x vs) (sym (append-nil stream)) kp;
  size = refl;
  own = p;
  others = λ j e. refl;
}

pub took_one : OneMoreIsKept → (t : OrderLimits) (n : ℕ) (stream : List Record) (vs : Views) (k : ℕ) (r : Record) (v w : HartView) (P : Option HartView → Type 0) → Keeps t n 0 stream vs
    → slice_get vs k ≡ Some v → step t vs r ≡ Ok (slice_set vs k w) → P (Some w) → Took t n stream vs k (r ∷ []) P
took_one more t n stream vs k r v w P kp e s p = record {
  views = slice_set vs k w;
  keeps = more t n 0 stream vs (slice_set vs k w) r kp s;
  size = length-set vs k w;
  own = subst P (sym (get_set vs k v w e)) p;
  others = λ j d. get_other vs k j w d;
}

pub took_both : (t : OrderLimits) (n : ℕ) (stream : List Record) (vs : Views) (k : ℕ) (rs qs : List Record) (P Q : Option HartView → Type 0) (a : Took t n stream vs k rs P)
    → Took t n (stream ++ rs) a.views k qs Q → Took t n stream vs k (rs ++ qs) Q
took_both t n stream vs k rs qs P Q a b = record {
  views = b.views;
  keeps = subst (λ (x : List Record). Keeps t n 0 x b.views) (append_assoc stream rs qs) b.keeps;
  size = b.size ∙ a.size;
  own = b.own;
  others = λ j d. b.others j d ∙ a.others j d;
}

-- ---- the Edges of a turn

-- another hart, and a count of it below the limit
pub record IsSource (n limit k : ℕ) (s : ℕ × ℕ) : Type 0 where
  pub hart : s.0 < n
  pub other : s.0 ≢ k
  pub below : s.1 < limit

abbrev pub AreSources : ℕ → ℕ → ℕ → List (ℕ × ℕ) → Type 0
AreSources n limit k [] = Unit {0}
AreSources n limit k (s ∷ ss) = IsSource n limit k s × AreSources n limit k ss

max_low : (a b : ℕ) → a ≤ b → max a b ≤ b
max_low a b h = omega (arith, h)

pub took_edges : OrderLaws → (t : OrderLimits) (n : ℕ) (stream : List Record) (vs : Views) (k ic next since : ℕ) (ss : List (ℕ × ℕ)) → Keeps t n 0 stream vs → length vs ≡ n
    → IsOpen next since (ic + 1) (slice_get vs k) → AreSources n t.limit k ss → ic < t.limit → since ≤ ic → ic < since + t.interval
    → Took t n stream vs k (edges_from k ic ss) (IsOpen next since (ic + 1))
took_edges laws t n stream vs k ic next since [] kp size v sources high begun within = took_none t n stream vs k (IsOpen next since (ic + 1)) kp v
took_edges laws t n stream vs k ic next since (s ∷ ss) kp size v sources high begun within =
    let source = sources.0 in
    let first = took_one laws.more t n stream vs k (Edge k ic s.0 s.1) (record { phase = Open next since; seen = v.seen; met = v.met; last = v.last }) (record { phase = Open next since; seen = max v.seen (ic + 1); met = true; last = v.last }) (IsOpen next since (ic + 1)) kp v.is
    (laws.edge t vs k ic s.0 s.1 next since v.seen v.met v.last v.is (omega (arith, source.hart, size)) source.other high source.below v.low begun within)
    (record { seen = max v.seen (ic + 1); met = true; last = v.last; is = refl; low = max_low v.seen (ic + 1) v.low }) in
    took_both t n stream vs k (Edge k ic s.0 s.1 ∷ []) (edges_from k ic ss) (IsOpen next since (ic + 1)) (IsOpen next since (ic + 1)) first
    (took_edges laws t n (stream ++ Edge k ic s.0 s.1 ∷ []) first.views k ic next since ss first.keeps (first.size ∙ size) first.own sources.1 high begun within)

-- ---- its FirstLoad and how its SC went

took_other : OneMoreIsKept → (t : OrderLimits) (n : ℕ) (stream : List Record) (vs : Views) (k ic next since : ℕ) (r : Record) (v : IsOpen next since ic (slice_get vs k)) → Keeps t n 0 stream vs
    → step t vs r ≡ Ok (slice_set vs k (record { phase = Open next since; seen = v.seen; met = true; last = v.last })) → Took t n stream vs k (r ∷ []) (IsOpen next since ic)
took_other more t n stream vs k ic next since r v kp e =
    took_one more t n stream vs k r (record { phase = Open next since; seen = v.seen; met = v.met; last = v.last }) (record { phase = Open next since; seen = v.seen; met = true; last = v.last }) (IsOpen next since ic) kp v.is e
    (record { seen = v.seen; met = true; last = v.last; is = refl; low = v.low })

pub took_load : OrderLaws → (t : OrderLimits) (n : ℕ) (stream : List Record) (vs : Views) (k ic next since : ℕ) (load : Option Warm) (skipped word : ℕ) → Keeps t n 0 stream vs → IsOpen next since ic (slice_get vs k)
    → Took t n stream vs k (load_record load k skipped word) (IsOpen next since ic)
took_load laws t n stream vs k ic next since (Some answers.Cold) skipped word kp v =
    took_other laws.more t n stream vs k ic next since (FirstLoad k skipped word) v kp (laws.other t vs k skipped word next since v.seen v.met v.last v.is).0
took_load laws t n stream vs k ic next since load skipped word kp v = took_none t n stream vs k (IsOpen next since ic) kp v

pub took_conditional : OrderLaws → (t : OrderLimits) (n : ℕ) (stream : List Record) (vs : Views) (k ic next since : ℕ) (reply : Reply) → Keeps t n 0 stream vs → IsOpen next since ic (slice_get vs k)
    → Took t n stream vs k (sc_record reply k) (IsOpen next since ic)
took_conditional laws t n stream vs k ic next since replies.ScOk kp v = took_other laws.more t n stream vs k ic next since (ScOk k) v kp (laws.other t vs k 0 0 next since v.seen v.met v.last v.is).1
took_conditional laws t n stream vs k ic next since replies.ScFailed kp v = took_other laws.more t n stream vs k ic next since (ScFailed k) v kp (laws.other t vs k 0 0 next since v.seen v.met v.last v.is).2
took_conditional laws t n stream vs k ic next since reply kp v = took_none t n stream vs k (IsOpen next since ic) kp v
