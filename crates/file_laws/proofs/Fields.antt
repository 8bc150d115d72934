-- The records of a turn fit their fields, and are few.
use Rattle.file_laws.proofs.Common.{◌≡◌, ℕ, zero, suc, ◌+◌, ◌<◌, ◌≤◌, ◌^◌, Bool, true, false, not, ◌&&◌, ◌||◌, Option, Some, None, List, [], ◌∷◌, length, slice_index, refl, sym, ◌∙◌, ap, arith, ◌==◌, AllByRecursion, RawSettings, HartState, AreWords, Reply, Warm, Point, Record, EndMark, ScOk, ScFailed, End, Fits, AreRegisters, has_value, is_mark, is_marked, Hart, TurnEnd, GoesOn, NewInterval, HartOver, RunOver, is_marked_next, edges_from, edge_records, load_record, sc_record, next_records, stopped_records, run_over_records, by_guard, header, mark, ListedEdges}
use Rattle.rv_meaning.specs.declared.asks.Reply.TheVariants as replies
use Rattle.first_load_bits.specs.declared.warm.Warm.TheVariants as answers
use Rattle.file_laws.proofs.Views.{AreSources}
use Rattle.file_laws.proofs.Sources.{ArePoints, sources_are}
use Rattle.file_laws.proofs.Nexts.{EndsAs}
use Rattle.file_laws.proofs.Machines.{IsWordState, EndIsWord}

-- ---- registers

all_words : (xs : List ℕ) → AreWords xs → AllByRecursion (λ w. w < 2 ^ 32) xs
all_words [] h = tt
all_words (x ∷ xs) h = (h 0, all_words xs (λ r. h (suc r)))

are_registers : (x : List ℕ) → length x ≡ 32 → slice_index x 0 ≡ 0 → AreWords x → AreRegisters x
are_registers [] count first words = cc
are_registers (y ∷ ys) count first words = record { others = ys; zero_first = ap (λ (n : ℕ). n ∷ ys) first; count = omega (arith, count); are_words = all_words ys (λ r. words (suc r)) }

pub header_fits : (k number : ℕ) (s : HartState) → k < 256 → number < 2 ^ 64 → s.ic < 2 ^ 64 → IsWordState s → Fits 1 (header k number s)
header_fits k number s small few low w = record { fields = (small, few, low, w.formed.pc, are_registers s.x w.formed.count w.formed.zero_first w.registers); mark = refl }

-- ---- Edges

edges_fit : (n limit k ic : ℕ) (ss : List (ℕ × ℕ)) → k < 256 → ic < 2 ^ 64 → n ≤ 256 → limit ≤ 2 ^ 64 → AreSources n limit k ss → AllByRecursion (Fits 1) (edges_from k ic ss)
edges_fit n limit k ic [] small low harts high a = tt
edges_fit n limit k ic (s ∷ ss) small low harts high a =
    (record { fields = (small, low, omega (arith, a.0.hart, harts), omega (arith, a.0.below, high)); mark = refl }, edges_fit n limit k ic ss small low harts high a.1)

pub edge_records_fit : ListedEdges → (point : Option Point) (points : List Point) (n limit : ℕ) (counts : ℕ → ℕ) → ArePoints n counts points → ((s : ℕ) → counts s ≤ limit)
    → ((p : Point) → point ≡ Some p → (p.hart < 256) × (p.count < 2 ^ 64)) → n ≤ 256 → limit ≤ 2 ^ 64 → AllByRecursion (Fits 1) (edge_records point points)
edge_records_fit listed None points n limit counts are high own harts low = tt
edge_records_fit listed (Some p) points n limit counts are high own harts low = (let o = own p refl in edges_fit n limit p.hart p.count _ o.0 o.1 harts low (sources_are listed points p n limit counts are high))

-- ---- the others

pub load_fits : (load : Option Warm) (k skipped word : ℕ) → k < 256 → skipped < 2 ^ 32 → word < 2 ^ 32 → AllByRecursion (Fits 1) (load_record load k skipped word)
load_fits (Some answers.Cold) k skipped word small few w = (record { fields = (small, few, w); mark = refl }, tt)
load_fits load k skipped word small few w = tt

pub conditional_fits : (reply : Reply) (k : ℕ) → k < 256 → AllByRecursion (Fits 1) (sc_record reply k)
conditional_fits replies.ScOk k small = (record { fields = small; mark = refl }, tt)
conditional_fits replies.ScFailed k small = (record { fields = small; mark = refl }, tt)
conditional_fits reply k small = tt

-- a mark that isn't the guard's is one of format 1
pub plain_mark : (ic reason value : ℕ) → (reason == 6) ≡ false → is_mark 2 (mark ic reason value) ≡ is_mark 1 (mark ic reason value)
plain_mark ic reason value e = ap (λ (b : Bool). has_value reason || ((reason == 1 || reason == 5 || reason == 7 || reason == 18 || b) && (value == 0))) e

end_fits : (k ic reason value : ℕ) → k < 256 → ic < 2 ^ 64 → reason < 256 → value < 2 ^ 32 → (reason == 6) ≡ false → is_mark 2 (mark ic reason value) ≡ true → Fits 1 (End k (mark ic reason value))
end_fits k ic reason value small low r v u m = record { fields = (small, low, r, v); mark = sym (plain_mark ic reason value u) ∙ m }

pub next_fits : (next : TurnEnd) (c : RawSettings) (h : Hart) (k number : ℕ) (s : HartState) → k < 256 → number + 1 < 2 ^ 64 → s.ic < 2 ^ 64 → IsWordState s → EndsAs c h s.ic next → EndIsWord next → is_marked_next next ≡ true
    → AllByRecursion (Fits 1) (next_records next k number s)
next_fits GoesOn c h k number s small few low w so value m = tt
next_fits (NewInterval reason v) c h k number s small few low w so value m = (end_fits k s.ic reason v small low so.small value so.unguarded m, (header_fits k (number + 1) s small few low w, tt))
next_fits (HartOver reason v) c h k number s small few low w so value m = (end_fits k s.ic reason v small low so.small value so.unguarded m, tt)
next_fits (RunOver reason v) c h k number s small few low w so value m = (end_fits k s.ic reason v small low so.small value so.unguarded m, tt)

stop_fits : (b : Bool) (j ic : ℕ) (rs : List Record) → j < 256 → ic < 2 ^ 64 → AllByRecursion (Fits 1) rs → AllByRecursion (Fits 1) (elim b as (λ x. List Record) [ true ↦ End j (mark ic 5 0) ∷ rs | false ↦ rs ])
stop_fits true j ic rs small low a = (end_fits j ic 5 0 small low (omega arith) (omega arith) refl refl, a)
stop_fits false j ic rs small low a = a

stops_fit : (k j n : ℕ) (harts : ℕ → Hart) → j + n ≤ 256 → ((i : ℕ) → (harts i).state.ic < 2 ^ 64) → AllByRecursion (Fits 1) (stopped_records k j n harts)
stops_fit k j zero harts within low = tt
stops_fit k j (suc n) harts within low =
    stop_fits (not (j == k) && (harts j).live) j (harts j).state.ic (stopped_records k (j + 1) n harts) (omega (arith, within)) (low j) (stops_fit k (j + 1) n harts (omega (arith, within)) low)

pub over_fits : (next : TurnEnd) (k n : ℕ) (harts : ℕ → Hart) → n ≤ 256 → ((i : ℕ) → (harts i).state.ic < 2 ^ 64) → AllByRecursion (Fits 1) (run_over_records next k n harts)
over_fits (RunOver reason value) k n harts within low = stops_fit k 0 n harts (omega (arith, within)) low
over_fits next k n harts within low = tt

-- ---- of any format

any_by : (value other guard zero_value : Bool) → (value || ((other || false) && zero_value)) ≡ true → (value || ((other || guard) && zero_value)) ≡ true
any_by true other guard zero_value e = refl
any_by false true guard zero_value e = e
any_by false false guard zero_value e = cc

-- a log of any format has the marks of format 1
mark_any : (format : ℕ) (m : EndMark) → is_mark 1 m ≡ true → is_mark format m ≡ true
mark_any format m e = any_by (has_value m.reason) (m.reason == 1 || m.reason == 5 || m.reason == 7 || m.reason == 18) ((format == 2) && (m.reason == 6)) (m.value == 0) e

pub marked_any : (format : ℕ) (r : Record) → is_marked 1 r ≡ true → is_marked format r ≡ true
marked_any format (End h m) e = mark_any format m e
marked_any format r e = refl

pub fits_any : (format : ℕ) (rs : List Record) → AllByRecursion (Fits 1) rs → AllByRecursion (Fits format) rs
fits_any format [] a = tt
fits_any format (r ∷ rs) a = (record { fields = a.0.fields; mark = marked_any format r a.0.mark }, fits_any format rs a.1)

-- the guard's records are of format 2
pub guard_fits : (k number : ℕ) (s : HartState) → k < 256 → number + 1 < 2 ^ 64 → s.ic < 2 ^ 64 → IsWordState s → AllByRecursion (Fits 2) (next_records by_guard k number s)
guard_fits k number s small few low w = (record { fields = (small, low, omega arith, omega arith); mark = refl }, fits_any 2 (header k (number + 1) s ∷ []) (header_fits k (number + 1) s small few low w, tt))

-- ---- how many

pub load_few : (load : Option Warm) (k skipped word : ℕ) → length (load_record load k skipped word) ≤ 1
load_few (Some answers.Cold) k skipped word = omega arith
load_few load k skipped word = omega arith

pub conditional_few : (reply : Reply) (k : ℕ) → length (sc_record reply k) ≤ 1
conditional_few replies.ScOk k = omega arith
conditional_few reply k = omega arith

pub next_few : (next : TurnEnd) (k number : ℕ) (s : HartState) → length (next_records next k number s) ≤ 2
next_few GoesOn k number s = omega arith
next_few next k number s = omega arith

stop_few : (b : Bool) (j ic n : ℕ) (rs : List Record) → length rs ≤ n → length (elim b as (λ x. List Record) [ true ↦ End j (mark ic 5 0) ∷ rs | false ↦ rs ]) ≤ suc n
stop_few true j ic n rs h = omega (arith, h)
stop_few false j ic n rs h = omega (arith, h)

stops_few : (k j n : ℕ) (harts : ℕ → Hart) → length (stopped_records k j n harts) ≤ n
stops_few k j zero harts = omega arith
stops_few k j (suc n) harts = stop_few (not (j == k) && (harts j).live) j (harts j).state.ic n (stopped_records k (j + 1) n harts) (stops_few k (j + 1) n harts)

pub over_few : (next : TurnEnd) (k n : ℕ) (harts : ℕ → Hart) → length (run_over_records next k n harts) ≤ n
over_few (RunOver reason value) k n harts = stops_few k 0 n harts
over_few next k n harts = omega arith
