use Rattle.log_record.proofs.Common.{◌≡◌, ◌∷◌, [], ◌++◌, List, length, map, arith, ◌∙◌, sym, ap, Record, StoredRecord, record_of, ℕ, ◌+◌, refl, AllByRecursion, Result, Ok, Err, IsErr, is_ok, if◌then◌else◌, get_or_append_left, map-append, length-append, Header, FirstLoad, ScOk, ScFailed, Edge, End, state_of, states_of, entry_of, header_with, IsKept}
use Rattle.std.proofs.Math.Seq.{get_or-append_seam}
use Rattle.bn_base.specs.declared.state.HartState.{HartState}
use Rattle.log_record.specs.declared.stored_record.StoredRecord.TheVariants.{Header as KeptHeader, FirstLoad as KeptLoad, ScOk as KeptOk, ScFailed as KeptFailed, Edge as KeptEdge, End as KeptEnd}
use Rattle.log_record.proofs.list.RecordList.push.Goals as goal

-- The entries of a list, after the state of one more record is kept.

-- an entry represents the same record, whatever states are kept after the others
same : (states more : List HartState) (e : StoredRecord) → IsKept (length states) e → record_of (states ++ more) e ≡ record_of states e
same states more (KeptHeader h place n) lt = ap (header_with h n) (get_or_append_left states more (state_of 0 [] 0) place lt)
same states more (KeptLoad h skip value) k = refl
same states more (KeptOk h) k = refl
same states more (KeptFailed h) k = refl
same states more (KeptEdge h s ic j) k = refl
same states more (KeptEnd h mark) k = refl

all_same : (states more : List HartState) (es : List StoredRecord) → AllByRecursion (IsKept (length states)) es → map (record_of (states ++ more)) es ≡ map (record_of states) es
all_same states more [] k = refl
all_same states more (e ∷ es) k = ap (λ (r : Record). r ∷ map (record_of (states ++ more)) es) (same states more e k.0) ∙ ap (λ (rs : List Record). record_of states e ∷ rs) (all_same states more es k.1)

wider : (count more : ℕ) (e : StoredRecord) → IsKept count e → IsKept (count + more) e
wider count more (KeptHeader h place n) lt = omega (arith, lt)
wider count more (KeptLoad h skip value) k = k
wider count more (KeptOk h) k = k
wider count more (KeptFailed h) k = k
wider count more (KeptEdge h s ic j) k = k
wider count more (KeptEnd h mark) k = k

all_wider : (count more : ℕ) (es new : List StoredRecord) → AllByRecursion (IsKept count) es → AllByRecursion (IsKept (count + more)) new → AllByRecursion (IsKept (count + more)) (es ++ new)
all_wider count more [] new k last = last
all_wider count more (e ∷ es) new k last = (wider count more e k.0, all_wider count more es new k.1 last)

-- the entry of the record whose state came last represents it
stands : (states : List HartState) (r : Record) → record_of (states ++ states_of r) (entry_of (length states) r) ≡ r
stands states (Header h n ic pc x) = ap (header_with h n) (get_or-append_seam states (state_of pc x ic) [] (state_of 0 [] 0))
stands states (FirstLoad h skip value) = refl
stands states (ScOk h) = refl
stands states (ScFailed h) = refl
stands states (Edge h ic s j) = refl
stands states (End h mark) = refl

is_kept : (count : ℕ) (r : Record) → IsKept (count + length (states_of r)) (entry_of count r)
is_kept count (Header h n ic pc x) = omega arith
is_kept count (FirstLoad h skip value) = tt
is_kept count (ScOk h) = tt
is_kept count (ScFailed h) = tt
is_kept count (Edge h ic s j) = tt
is_kept count (End h mark) = tt

grown : (states now : List HartState) (es : List StoredRecord) (r : Record) → now ≡ states ++ states_of r → AllByRecursion (IsKept (length states)) es → map (record_of now) es ≡ map (record_of states) es
grown states now es r is k = rw is (all_same states (states_of r) es k)

pushed : (states now : List HartState) (es new : List StoredRecord) (place : ℕ) (r : Record) → place ≡ length states → now ≡ states ++ states_of r → new ≡ es ++ entry_of place r ∷ []
    → AllByRecursion (IsKept (length states)) es → map (record_of now) new ≡ map (record_of states) es ++ r ∷ []
pushed states now es new place r at is more k =
    let f = record_of (states ++ states_of r) in
    rw is (rw more (rw at (map-append f es (entry_of (length states) r ∷ [])
    ∙ ap (λ (rs : List Record). rs ++ f (entry_of (length states) r) ∷ []) (all_same states (states_of r) es k)
    ∙ ap (λ (one : Record). map (record_of states) es ++ one ∷ []) (stands states r))))

kept : (states now : List HartState) (es new : List StoredRecord) (place : ℕ) (r : Record) → place ≡ length states → now ≡ states ++ states_of r → new ≡ es ++ entry_of place r ∷ []
    → AllByRecursion (IsKept (length states)) es → AllByRecursion (IsKept (length now)) new
kept states now es new place r at is more k =
    rw is (rw more (rw at (rw (length-append states (states_of r)) (all_wider (length states) (length (states_of r)) es (entry_of (length states) r ∷ []) k (is_kept (length states) r, tt)))))

refused : {A E : Type 0} (r : Result A E) (x y : List Record) → IsErr r → (if is_ok r then x else y) ≡ y
refused (Ok a) x y e = cc
refused (Err b) x y e = refl

pub returns-in_err-push : goal.returns-in_err-push
returns-in_err-push c =
    let same = ap (λ (es : List StoredRecord). map (record_of c.keep_state.new.states.items) es) c.in_err-push.ensures.items in
    same ∙ grown c.self.inside.states.items c.keep_state.new.states.items c.self.inside.entries.items c.args.entry c.in_ok-keep_state.ensures.ok c.self.invariant ∙ c.self.view_is
    ∙ sym (refused c.from_residual-in_err-push.result (c.args.self.now ++ c.args.entry ∷ []) c.args.self.now c.from_residual-in_err-push.ensures.0)

pub invariant_of-self-2 : goal.invariant_of-self-2
invariant_of-self-2 c =
    let at : c.len-place.result ≡ length c.self.inside.states.items = omega (arith, c.len-place.ensures, c.self.inside.states.ok) in
    let more = c.in_ok-push.ensures.items ∙ ap (λ (e : StoredRecord). c.self.inside.entries.items ++ e ∷ []) c.of.ensures in
    kept c.self.inside.states.items c.keep_state.new.states.items c.self.inside.entries.items c.push.new.self.items c.len-place.result c.args.entry at c.in_ok-keep_state.ensures.ok more c.self.invariant

pub returns : goal.returns
returns c =
    let at : c.len-place.result ≡ length c.self.inside.states.items = omega (arith, c.len-place.ensures, c.self.inside.states.ok) in
    let more = c.in_ok-push.ensures.items ∙ ap (λ (e : StoredRecord). c.self.inside.entries.items ++ e ∷ []) c.of.ensures in
    pushed c.self.inside.states.items c.keep_state.new.states.items c.self.inside.entries.items c.push.new.self.items c.len-place.result c.args.entry at c.in_ok-keep_state.ensures.ok more c.self.invariant
    ∙ ap (λ (rs : List Record). rs ++ c.args.entry ∷ []) c.self.view_is
