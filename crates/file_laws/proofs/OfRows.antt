-- What a ring holds after lawful rows is what a log says.
use Rattle.file_laws.proofs.Common.{◌≡◌, ℕ, zero, suc, ◌+◌, ◌*◌, ◌<◌, ◌≤◌, ◌^◌, Bool, true, false, not, ◌&&◌, nat_lt, Option, Some, None, List, [], ◌∷◌, ◌++◌, length, refl, sym, ◌∙◌, ap, subst, arith, inl, inr, ◌==◌, AllByRecursion, eqb_tells, length-append, Program, IsSetting, RawSettings, HartState, absorbed, Ask, Reply, Plan, Warm, Point, after, sources_into, TurnRow, Record, End, Fits, is_mark, is_marked, total, IsContent, broken_by, Held, kept, Hart, TurnEnd, GoesOn, NewInterval, HartOver, RunOver, Span, Answered, answer, call_of, is_marked_next, Run, Served, serve, after_ask, span_of, next_of, loading, warmth, word_before, point_of, edges_from, edge_records, load_record, sc_record, next_records, stopped_records, run_over_records, harts_after, is_orderly, mark, is_guarded, by_guard, begun_anew, guarded_run, guard_records, start, first_headers, most_turns, MovesOn, turns_left, IsRested, kept_of, dropped_of, after_rows, are_orderly, IsLawful, counts_of, HoldsLogOfRows, ring_content, EdgesAreFew, and_parts, ltb-true, eqb_same, own_is, other_is, all_less, one_less, all_first, uncut, served, LogsOfRowsAreContents}
use Rattle.rv_meaning.specs.declared.asks.Reply.TheVariants as replies
use Rattle.first_load_bits.specs.declared.warm.Warm.TheVariants as answers
use Rattle.run_model.specs.Represents.Harts.{all_left}
use Rattle.file_laws.proofs.Nexts.{EndsAs, next_ends}
use Rattle.file_laws.proofs.Sources.{few_edges}
use Rattle.file_laws.proofs.Fields.{plain_mark, load_few, conditional_few, next_few, over_few, marked_any}
use Rattle.file_laws.proofs.Turns.{Laws, Recording, Underway, IsAsking, all_both, own_hart, asking, guard_is, asking_kept, asks, turn_kept}
use Rattle.file_laws.proofs.Rows.{SuffixIsKept, last_part, orderly_first, held_records, held_dropped, FirstAreGivenUp, KeptAreInOrder, EarlyAreNotLate, kept_in_order}
use Rattle.file_laws.proofs.Contents.{KeptFit, few_harts, five_parts, headers_count, turns_bound}
use Rattle.file_laws.proofs.Starts.{NoneAreKept, started}

-- ---- records that a log of version 1 has, but for the size of their numbers

pub IsPlain : Record → Type 0
IsPlain r = is_marked 1 r ≡ true

edges_plain : (k ic : ℕ) (ss : List (ℕ × ℕ)) → AllByRecursion IsPlain (edges_from k ic ss)
unfolding IsPlain
edges_plain k ic [] = tt
edges_plain k ic (s ∷ ss) = (refl, edges_plain k ic ss)

point_plain : (point : Option Point) (points : List Point) → AllByRecursion IsPlain (edge_records point points)
point_plain None points = tt
point_plain (Some p) points = edges_plain p.hart p.count (sources_into (after points p) (length points))

load_plain : (load : Option Warm) (k skipped word : ℕ) → AllByRecursion IsPlain (load_record load k skipped word)
unfolding IsPlain
load_plain (Some answers.Cold) k skipped word = (refl, tt)
load_plain load k skipped word = tt

conditional_plain : (reply : Reply) (k : ℕ) → AllByRecursion IsPlain (sc_record reply k)
unfolding IsPlain
conditional_plain replies.ScOk k = (refl, tt)
conditional_plain replies.ScFailed k = (refl, tt)
conditional_plain reply k = tt

end_plain : (k ic reason value : ℕ) → (reason == 6) ≡ false → is_mark 2 (mark ic reason value) ≡ true → IsPlain (End k (mark ic reason value))
unfolding IsPlain
end_plain k ic reason value u m = sym (plain_mark ic reason value u) ∙ m

next_plain : (next : TurnEnd) (c : RawSettings) (h : Hart) (k number : ℕ) (s : HartState) → EndsAs c h s.ic next → is_marked_next next ≡ true → AllByRecursion IsPlain (next_records next k number s)
unfolding IsPlain
next_plain GoesOn c h k number s so m = tt
next_plain (NewInterval reason v) c h k number s so m = (end_plain k s.ic reason v so.unguarded m, (refl, tt))
next_plain (HartOver reason v) c h k number s so m = (end_plain k s.ic reason v so.unguarded m, tt)
next_plain (RunOver reason v) c h k number s so m = (end_plain k s.ic reason v so.unguarded m, tt)

stop_plain : (b : Bool) (j ic : ℕ) (rs : List Record) → AllByRecursion IsPlain rs → AllByRecursion IsPlain (elim b as (λ x. List Record) [ true ↦ End j (mark ic 5 0) ∷ rs | false ↦ rs ])
unfolding IsPlain
stop_plain true j ic rs a = (refl, a)
stop_plain false j ic rs a = a

stops_plain : (k j n : ℕ) (harts : ℕ → Hart) → AllByRecursion IsPlain (stopped_records k j n harts)
stops_plain k j zero harts = tt
stops_plain k j (suc n) harts = stop_plain (not (j == k) && (harts j).live) j (harts j).state.ic (stopped_records k (j + 1) n harts) (stops_plain k (j + 1) n harts)

over_plain : (next : TurnEnd) (k n : ℕ) (harts : ℕ → Hart) → AllByRecursion IsPlain (run_over_records next k n harts)
over_plain (RunOver reason value) k n harts = stops_plain k 0 n harts
over_plain next k n harts = tt

headers_plain : (c : RawSettings) (i : Program) (k m : ℕ) → AllByRecursion IsPlain (first_headers c i k m)
unfolding IsPlain
headers_plain c i k zero = tt
headers_plain c i k (suc m) = (refl, headers_plain c i (k + 1) m)

-- records that a log of a format has, but for the size of their numbers
pub IsOf : ℕ → Record → Type 0
IsOf format r = is_marked format r ≡ true

of_any : (format : ℕ) (rs : List Record) → AllByRecursion IsPlain rs → AllByRecursion (IsOf format) rs
unfolding IsPlain IsOf
of_any format [] a = tt
of_any format (r ∷ rs) a = (marked_any format r a.0, of_any format rs a.1)

guard_of : (k number : ℕ) (s : HartState) → AllByRecursion (IsOf 2) (next_records by_guard k number s)
unfolding IsOf
guard_of k number s = (refl, (refl, tt))

-- such records of a ring, which has those of version 2, are those of the format
of_fits : (format : ℕ) (rs : List Record) → AllByRecursion (Fits 2) rs → AllByRecursion (IsOf format) rs → AllByRecursion (Fits format) rs
unfolding IsOf
of_fits format [] fit plain = tt
of_fits format (r ∷ rs) fit plain = (record { fields = fit.0.fields; mark = plain.0 }, of_fits format rs fit.1 plain.1)

-- ---- a turn

-- what holds of a run all of whose asks were orderly, beside the order of its records, which are few but for so many
pub record Counted (c : RawSettings) (spare : ℕ) (run : Run) : Type 0 where
  pub plain : AllByRecursion (IsOf c.format) run.stream
  pub few : length run.stream ≤ 16 + spare + 40 * run.turns
  pub left : run.turns + all_left c c.harts run.harts ≤ most_turns c

one_later : (turns old new most : ℕ) → new < old → turns + old ≤ most → turns + 1 + new ≤ most
one_later turns old new most h l = omega (arith, h, l)

few_more : (stream more turns harts : ℕ) → stream ≤ 16 + 2 + 40 * turns → more ≤ harts + (1 + (1 + (2 + harts))) → harts ≤ 16 → stream + more ≤ 16 + 0 + 40 * (turns + 1)
few_more stream more turns harts h m l = omega (arith, h, m, l)

parts_few : (e l s n o harts : ℕ) → e ≤ harts → l ≤ 1 → s ≤ 1 → n ≤ 2 → o ≤ harts → e + (l + (s + (n + o))) ≤ harts + (1 + (1 + (2 + harts)))
parts_few e l s n o harts a b c d f = omega (arith, a, b, c, d, f)

counted_after : Laws → EdgesAreFew → (c : RawSettings) (run : Run) (k : ℕ) (ask : Ask) (call : Option Plan) (answered : Answered) (span : Option Span) (next : TurnEnd) (s : HartState) → IsSetting c → Underway c run → ((j : ℕ) → (j == k) ≡ false → IsRested c (run.harts j)) → Counted c 2 run → k < c.harts → (run.harts k).live ≡ true
    → MovesOn c (run.harts k) ask.state.ic s.ic next span (loading ask.want) → EndsAs c (run.harts k) s.ic next → Counted c 0 (after_ask c run k ask call answered span next s)
counted_after laws few c run k ask call answered span next s setting known rest w there live on so =
    let h = run.harts k in
    let new = after_ask c run k ask call answered span next s in
    let own : Hart = own_hart c run k ask next s new.bytes in
    let point = point_of k ask.state.ic run.turns span in
    let load = warmth c (loading ask.want) (run.events k) in
    let word = word_before run.machine.memory (loading ask.want) in
    let es : List Record = edge_records point run.points in
    let ls : List Record = load_record load k h.skipped word in
    let cs : List Record = sc_record answered.reply k in
    let ns : List Record = next_records next k h.number s in
    let os : List Record = run_over_records next k c.harts run.harts in
    let edges : length es ≤ c.harts = few_edges few point run.points c.harts (counts_of run) known.points in
    let fits = laws.fits c h ask.state.ic new.bytes s next span (loading ask.want) (run.events k) setting.interval_low live (known.fit k) on in
    let mine : turns_left c (harts_after next k own run.harts k) < turns_left c h = subst (λ (x : Hart). turns_left c x < turns_left c h) (sym (own_is next k k own run.harts (eqb_same k))) fits.1 in
    let each : (j : ℕ) → turns_left c (harts_after next k own run.harts j) ≤ turns_left c (run.harts j) = λ j. elim (eqb_tells j k) [
      | inl p ↦ subst (λ (n : ℕ). turns_left c (harts_after next k own run.harts n) ≤ turns_left c (run.harts n)) (sym p.1) (omega (arith, mine))
      | inr p ↦ subst (λ (x : Hart). turns_left c x ≤ turns_left c (run.harts j)) (sym (other_is next k j own run.harts p.0)) (laws.others c (run.harts j) next (rest j p.0)).1
    ] in record {
      plain = all_both (IsOf c.format) run.stream (es ++ (ls ++ (cs ++ (ns ++ os)))) w.plain
          (of_any c.format (es ++ (ls ++ (cs ++ (ns ++ os))))
          (all_both IsPlain es (ls ++ (cs ++ (ns ++ os))) (point_plain point run.points)
          (all_both IsPlain ls (cs ++ (ns ++ os)) (load_plain load k h.skipped word)
          (all_both IsPlain cs (ns ++ os) (conditional_plain answered.reply k)
          (all_both IsPlain ns os (next_plain next c h k h.number s so on.marked) (over_plain next k c.harts run.harts))))));
      few = (let more = parts_few (length es) (length ls) (length cs) (length ns) (length os) c.harts edges (load_few load k h.skipped word) (conditional_few answered.reply k) (next_few next k h.number s) (over_few next k c.harts run.harts) in
          let all = few_more (length run.stream) _ run.turns c.harts w.few more (few_harts c setting) in
          subst (λ (n : ℕ). n ≤ 16 + 0 + 40 * (run.turns + 1)) (sym (five_parts run.stream es ls cs ns os)) all);
      left = one_later run.turns (all_left c c.harts run.harts) (all_left c c.harts (harts_after next k own run.harts)) (most_turns c) (one_less c c.harts k run.harts (harts_after next k own run.harts) there each mine) w.left;
    }

-- once the guard has begun an interval, if it does
asking_counted : (g : Bool) (c : RawSettings) (i : Program) (run : Run) (k : ℕ) (ask : Ask) → IsAsking c i run (guarded_run g run k ask.state) k ask → Counted c 0 run → (g ≡ true → c.format ≡ 2) → Counted c 2 (guarded_run g run k ask.state)
asking_counted false c i run k ask a w two = record { plain = w.plain; few = omega (arith, w.few); left = w.left }
asking_counted true c i run k ask a w two = record {
  plain = all_both (IsOf c.format) run.stream (guard_records run k ask.state) w.plain
      (subst (λ (format : ℕ). AllByRecursion (IsOf format) (guard_records run k ask.state)) (sym (two refl)) (guard_of k (run.harts k).number ask.state));
  few = omega (arith, length-append run.stream (guard_records run k ask.state), w.few);
  left = omega (arith, all_less c c.harts run.harts (begun_anew run k ask.state).harts a.left, w.left);
}

turn_counted : Laws → EdgesAreFew → (c : RawSettings) (i : Program) (run : Run) (k : ℕ) (ask : Ask) → IsSetting c → Recording c run → Counted c 0 run → k < c.harts → (run.harts k).live ≡ true → is_orderly c i (run.harts k) ask ≡ true → Counted c 0 (serve c i run k ask).run
turn_counted laws few c i run k ask setting known w there live o =
    let g = is_guarded c run k ask.want in
    let at : Run = asking c run k ask in
    let h = at.harts k in
    let call : Option Plan = call_of i run.machine ask.want in
    let answered : Answered = answer c call run.machine k ask in
    let s : HartState = absorbed ask answered.reply in
    let next : TurnEnd = next_of c call h ask.want answered.reply s.ic in
    let now = asking_kept g laws c i run k ask setting known there live o (uncut c run k ask.want) in
    let a = asks g laws c i run k ask setting known live o (uncut c run k ask.want) in
    let on = laws.moves c i run.machine h k ask (omega (arith, setting.limit_high)) (now.fit k) a.live a.orderly in
    let so = next_ends call c h ask.want answered.reply s.ic setting.interval_low in
    subst (λ (x : Served). Counted c 0 x.run) (sym (served c i run k ask o))
    (counted_after laws few c at k ask call answered (span_of call ask.want answered.reply) next s setting now a.others (asking_counted g c i run k ask a w (λ e. (guard_is c run k ask.want e).0)) there a.live on so)

-- ---- lawful rows of orderly asks

-- a run after them
pub record AfterRows (c : RawSettings) (run : Run) : Type 0 where
  pub known : Recording c run
  pub counted : Counted c 0 run

rows_counted : Laws → EdgesAreFew → (c : RawSettings) (i : Program) (run : Run) (rows : List TurnRow) → IsSetting c → AfterRows c run → IsLawful c i run rows → are_orderly c i run rows ≡ true → AfterRows c (after_rows c i run rows)
rows_counted laws few c i run [] setting a lawful orderly = a
rows_counted laws few c i run (r ∷ rs) setting a lawful orderly =
    let live = and_parts (nat_lt r.hart c.harts) (run.harts r.hart).live lawful.0 in
    let there = ltb-true r.hart c.harts live.0 in
    let first = orderly_first (is_orderly c i (run.harts r.hart) r.ask) (are_orderly c i (serve c i run r.hart r.ask).run rs) orderly in
    let next : AfterRows c (serve c i run r.hart r.ask).run = record {
      known = turn_kept laws c i run r.hart r.ask setting a.known there live.1 first.0;
      counted = turn_counted laws few c i run r.hart r.ask setting a.known a.counted there live.1 first.0;
    } in
    rows_counted laws few c i (serve c i run r.hart r.ask).run rs setting next lawful.3 first.1

start_counted : (c : RawSettings) (i : Program) (input : List ℕ) → IsSetting c → Counted c 0 (start c i input)
start_counted c i input setting = record {
  plain = of_any c.format (first_headers c i 0 c.harts) (headers_plain c i 0 c.harts);
  few = omega (arith, headers_count c i 0 c.harts, few_harts c setting);
  left = omega (arith, all_first c i c.harts);
}

pub rows_end : Laws → EdgesAreFew → (c : RawSettings) (i : Program) (input : List ℕ) (rows : List TurnRow) → IsSetting c → Recording c (start c i input) → IsLawful c i (start c i input) rows → are_orderly c i (start c i input) rows ≡ true
    → AfterRows c (after_rows c i (start c i input) rows)
rows_end laws few c i input rows setting known lawful orderly = rows_counted laws few c i (start c i input) rows setting (record { known = known; counted = start_counted c i input setting }) lawful orderly

-- ---- the content

least : (a b m : ℕ) → a + b ≤ m → a ≤ m
least a b m h = omega (arith, h)

low_of : (dropped kept stream turns most : ℕ) → dropped + kept ≡ stream → stream ≤ 16 + 0 + 40 * turns → turns ≤ most → most ≤ 16 * (2 ^ 40 + 1) → dropped < 2 ^ 64
low_of dropped kept stream turns most e f t m = omega (arith, e, f, t, m)

pub ring_is_content : SuffixIsKept → KeptFit → (c : RawSettings) (i : Program) (input digest : List ℕ) (rows : List TurnRow) (ring : Held) → HoldsLogOfRows c i input rows ring → length digest ≡ 32 → AfterRows c (after_rows c i (start c i input) rows)
    → (let run = after_rows c i (start c i input) rows in broken_by c (dropped_of c run) (kept_of c run) ≡ None) → IsContent (ring_content c digest ring)
ring_is_content suffix bound c i input digest rows ring h size a order =
    let run = after_rows c i (start c i input) rows in
    let setting = h.setting in
    let part = suffix c.log_size run.stream in
    let records = held_records c run ring h.log h.size in
    let dropped = held_dropped c run ring h.log h.size in
    let plain : AllByRecursion (IsOf c.format) ring.records = subst (AllByRecursion (IsOf c.format)) (sym records) (last_part (IsOf c.format) part.0 (kept_of c run) (subst (AllByRecursion (IsOf c.format)) part.1 a.counted.plain)) in record {
      settings = setting;
      digest = size;
      dropped = low_of ring.dropped (length ring.records) (length run.stream) run.turns (most_turns c) h.log.counted a.counted.few (least run.turns _ (most_turns c) a.counted.left) (turns_bound c.harts c.limit (few_harts c setting) setting.limit_high);
      fit = of_fits c.format ring.records h.fit plain;
      bound = subst (λ (rs : List Record). total rs ≤ c.log_size) (sym records) (bound c.log_size run.stream);
      order = ap (λ (n : ℕ). broken_by c n ring.records) dropped ∙ ap (broken_by c (dropped_of c run)) records ∙ order;
    }

pub ring_contents : Laws → EdgesAreFew → NoneAreKept → SuffixIsKept → KeptFit → FirstAreGivenUp → KeptAreInOrder → EarlyAreNotLate → LogsOfRowsAreContents
ring_contents laws few none suffix fit given order early c i input digest rows ring h size =
    let end = rows_end laws few c i input rows h.setting (started laws.order none c i input h.setting) h.lawful h.orderly in
    ring_is_content suffix fit c i input digest rows ring h size end (kept_in_order suffix given order early c (after_rows c i (start c i input) rows) end.known h.over)
