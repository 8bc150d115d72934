-- Each hart's last mark is that of its last End.
use Rattle.run_laws.proofs.Common.{◌≡◌, ℕ, zero, suc, ◌+◌, ◌<◌, ◌≤◌, ◌==◌, Bool, true, false, not, ◌&&◌, Option, Some, None, List, [], ◌∷◌, ◌++◌, length, refl, sym, ◌∙◌, ap, subst, arith, inl, inr, ◌⊎◌, option_or, eqb_tells, append-nil, Program, EndMark, RawSettings, HartState, Ask, Reply, Plan, Warm, Point, after, sources_into, TurnRow, Record, End, total, Hart, TurnEnd, GoesOn, NewInterval, HartOver, RunOver, Span, Answered, answer, call_of, Run, serve, served_if, is_orderly, is_guarded, by_guard, guarded_run, guard_records, after_ask, loading, warmth, skipped_after, word_before, point_of, edges_from, edge_records, load_record, sc_record, next_records, stopped_records, run_over_records, hart_after, other_after, harts_after, mark, start, first_headers, after_rows, end_of, last_end, LastEndsAreMarks, KeptEndsAreMarks, ne_eqb, eq-eqb}
use Rattle.rv_meaning.specs.declared.asks.Reply.TheVariants as replies
use Rattle.first_load_bits.specs.declared.warm.Warm.TheVariants as answers

-- ---- records one after another

or_none : (m : Option EndMark) → option_or m None ≡ m
or_none None = refl
or_none (Some x) = refl

or_both : (a b d : Option EndMark) → option_or (option_or a b) d ≡ option_or a (option_or b d)
or_both None b d = refl
or_both (Some x) b d = refl

pub last_of_both : (h : ℕ) (xs ys : List Record) → last_end h (xs ++ ys) ≡ option_or (last_end h ys) (last_end h xs)
last_of_both h [] ys = sym (or_none (last_end h ys))
last_of_both h (x ∷ xs) ys = ap (λ (m : Option EndMark). option_or m (end_of h x)) (last_of_both h xs ys) ∙ or_both (last_end h ys) (last_end h xs) (end_of h x)

-- records without an End of the hart
passed : (h : ℕ) (xs ys : List Record) → last_end h xs ≡ None → last_end h (xs ++ ys) ≡ last_end h ys
passed h xs ys e = last_of_both h xs ys ∙ ap (option_or (last_end h ys)) e ∙ or_none (last_end h ys)

edges_none : (h k ic : ℕ) (ss : List (ℕ × ℕ)) → last_end h (edges_from k ic ss) ≡ None
edges_none h k ic [] = refl
edges_none h k ic (s ∷ ss) = ap (λ (m : Option EndMark). option_or m None) (edges_none h k ic ss)

point_none : (point : Option Point) (h : ℕ) (points : List Point) → last_end h (edge_records point points) ≡ None
point_none None h points = refl
point_none (Some p) h points = edges_none h p.hart p.count (sources_into (after points p) (length points))

load_none : (load : Option Warm) (h k skipped word : ℕ) → last_end h (load_record load k skipped word) ≡ None
load_none (Some answers.Cold) h k skipped word = refl
load_none load h k skipped word = refl

conditional_none : (reply : Reply) (h k : ℕ) → last_end h (sc_record reply k) ≡ None
conditional_none replies.ScOk h k = refl
conditional_none reply h k = refl

headers_none : (c : RawSettings) (i : Program) (h k m : ℕ) → last_end h (first_headers c i k m) ≡ None
headers_none c i h k zero = refl
headers_none c i h k (suc m) = ap (λ (x : Option EndMark). option_or x None) (headers_none c i h (k + 1) m)

-- ---- what comes after a turn

-- the End of the hart whose turn it was
pub own_end : (h k : ℕ) (m : EndMark) → (h == k) ≡ true → end_of h (End k m) ≡ Some m
own_end h k m e = ap (λ (b : Bool). elim b as (λ x. Option EndMark) [ true ↦ Some m | false ↦ None ]) e

other_end : (h k : ℕ) (m : EndMark) → (h == k) ≡ false → end_of h (End k m) ≡ None
other_end h k m e = ap (λ (b : Bool). elim b as (λ x. Option EndMark) [ true ↦ Some m | false ↦ None ]) e

own_next : (next : TurnEnd) (h k number : ℕ) (s : HartState) (skipped bytes : ℕ) (own : Hart) → (h == k) ≡ true → (hart_after next s skipped bytes own).mark ≡ option_or (last_end h (next_records next k number s)) own.mark
own_next GoesOn h k number s skipped bytes own e = refl
own_next (NewInterval reason value) h k number s skipped bytes own e = sym (ap (λ (m : Option EndMark). option_or m own.mark) (own_end h k (mark s.ic reason value) e))
own_next (HartOver reason value) h k number s skipped bytes own e = sym (ap (λ (m : Option EndMark). option_or m own.mark) (own_end h k (mark s.ic reason value) e))
own_next (RunOver reason value) h k number s skipped bytes own e = sym (ap (λ (m : Option EndMark). option_or m own.mark) (own_end h k (mark s.ic reason value) e))

other_next : (next : TurnEnd) (h k number : ℕ) (s : HartState) → (h == k) ≡ false → last_end h (next_records next k number s) ≡ None
other_next GoesOn h k number s e = refl
other_next (NewInterval reason value) h k number s e = other_end h k (mark s.ic reason value) e
other_next (HartOver reason value) h k number s e = other_end h k (mark s.ic reason value) e
other_next (RunOver reason value) h k number s e = other_end h k (mark s.ic reason value) e

-- ---- the Ends of harts that are stopped

-- nothing of the hart is among them
none_by : (b : Bool) (h j ic : ℕ) (rs : List Record) → last_end h rs ≡ None → (b ≡ true → (h == j) ≡ false) → last_end h (elim b as (λ x. List Record) [ true ↦ End j (mark ic 5 0) ∷ rs | false ↦ rs ]) ≡ None
none_by true h j ic rs e apart = ap (λ (m : Option EndMark). option_or m (end_of h (End j (mark ic 5 0)))) e ∙ other_end h j (mark ic 5 0) (apart refl)
none_by false h j ic rs e apart = e

stop_apart : (same live : Bool) → (not same && live) ≡ true → same ≡ false
stop_apart false live e = refl
stop_apart true live e = cc

other_of : (h j k : ℕ) → (h == k) ≡ true → (j == k) ≡ false → (h == j) ≡ false
other_of h j k e f = grind arith

pub stops_own : (h k j n : ℕ) (harts : ℕ → Hart) → (h == k) ≡ true → last_end h (stopped_records k j n harts) ≡ None
stops_own h k j zero harts e = refl
stops_own h k j (suc n) harts e = none_by (not (j == k) && (harts j).live) h j (harts j).state.ic (stopped_records k (j + 1) n harts) (stops_own h k (j + 1) n harts e) (λ p. other_of h j k e (stop_apart (j == k) (harts j).live p))

stops_before : (h k j n : ℕ) (harts : ℕ → Hart) → h < j → last_end h (stopped_records k j n harts) ≡ None
stops_before h k j zero harts low = refl
stops_before h k j (suc n) harts low = none_by (not (j == k) && (harts j).live) h j (harts j).state.ic (stopped_records k (j + 1) n harts) (stops_before h k (j + 1) n harts (omega (arith, low))) (λ p. ne_eqb h j (λ q. omega (arith, low, q)))

-- a live hart's mark when it is stopped
abbrev stop_mark : Hart → Option EndMark
stop_mark x = elim x.live [ true ↦ Some (mark x.state.ic 5 0) | false ↦ None ]

-- a live hart's own End is among them
here_by : (live same : Bool) (h j ic : ℕ) (rs : List Record) → last_end h rs ≡ None → same ≡ false → (h == j) ≡ true
    → last_end h (elim (not same && live) as (λ x. List Record) [ true ↦ End j (mark ic 5 0) ∷ rs | false ↦ rs ]) ≡ elim live as (λ x. Option EndMark) [ true ↦ Some (mark ic 5 0) | false ↦ None ]
here_by live true h j ic rs e apart own = absurd cc
here_by true false h j ic rs e apart own = ap (λ (m : Option EndMark). option_or m (end_of h (End j (mark ic 5 0)))) e ∙ own_end h j (mark ic 5 0) own
here_by false false h j ic rs e apart own = e

pub first_or_later : (i j m : ℕ) → j ≤ i → i < j + suc m → (i ≡ j) ⊎ ((j + 1 ≤ i) × (i < j + 1 + m))
first_or_later i j m low high = elim (eqb_tells i j) [
  | inl p ↦ inl p.1
  | inr p ↦ inr (omega (arith, low, p.1), omega (arith, high))
]

-- an End of another hart in front changes nothing
later_by : (b : Bool) (h j ic : ℕ) (rs : List Record) → (h == j) ≡ false → last_end h (elim b as (λ x. List Record) [ true ↦ End j (mark ic 5 0) ∷ rs | false ↦ rs ]) ≡ last_end h rs
later_by true h j ic rs apart = ap (option_or (last_end h rs)) (other_end h j (mark ic 5 0) apart) ∙ or_none (last_end h rs)
later_by false h j ic rs apart = refl

stops_other : (h k j n : ℕ) (harts : ℕ → Hart) → (h == k) ≡ false → j ≤ h → h < j + n → last_end h (stopped_records k j n harts) ≡ stop_mark (harts h)
stops_other h k j zero harts apart low high = absurd (omega (arith, low, high))
stops_other h k j (suc n) harts apart low high = elim (first_or_later h j n low high) [
  | inl p ↦
      let off : (j == k) ≡ false = subst (λ (x : ℕ). (x == k) ≡ false) p apart in
      here_by (harts j).live (j == k) h j (harts j).state.ic (stopped_records k (j + 1) n harts) (stops_before h k (j + 1) n harts (omega (arith, p))) off (eq-eqb h j p) ∙ ap (λ (x : ℕ). stop_mark (harts x)) (sym p)
  | inr p ↦
      later_by (not (j == k) && (harts j).live) h j (harts j).state.ic (stopped_records k (j + 1) n harts) (ne_eqb h j (λ q. omega (arith, p.0, q)))
      ∙ stops_other h k (j + 1) n harts apart p.0 p.1
]

stopped_mark : (b : Bool) (x : Hart) → (elim b as (λ z. Hart) [ true ↦ record x { live = false; mark = Some (mark x.state.ic 5 0) } | false ↦ x ]).mark ≡ option_or (elim b as (λ z. Option EndMark) [ true ↦ Some (mark x.state.ic 5 0) | false ↦ None ]) x.mark
stopped_mark true x = refl
stopped_mark false x = refl

own_over : (next : TurnEnd) (h k n : ℕ) (harts : ℕ → Hart) → (h == k) ≡ true → last_end h (run_over_records next k n harts) ≡ None
own_over (RunOver reason value) h k n harts e = stops_own h k 0 n harts e
own_over next h k n harts e = refl

other_over : (next : TurnEnd) (h k n : ℕ) (harts : ℕ → Hart) → (h == k) ≡ false → h < n → (other_after next (harts h)).mark ≡ option_or (last_end h (run_over_records next k n harts)) (harts h).mark
other_over (RunOver reason value) h k n harts e within = stopped_mark (harts h).live (harts h) ∙ ap (λ (m : Option EndMark). option_or m (harts h).mark) (sym (stops_other h k 0 n harts e (omega arith) (omega (arith, within))))
other_over next h k n harts e within = refl

-- ---- the harts after a turn

pub own_is : (next : TurnEnd) (k j : ℕ) (own : Hart) (harts : ℕ → Hart) → (j == k) ≡ true → harts_after next k own harts j ≡ own
own_is next k j own harts e = ap (λ (b : Bool). elim b as (λ x. Hart) [ true ↦ own | false ↦ other_after next (harts j) ]) e

pub other_is : (next : TurnEnd) (k j : ℕ) (own : Hart) (harts : ℕ → Hart) → (j == k) ≡ false → harts_after next k own harts j ≡ other_after next (harts j)
other_is next k j own harts e = ap (λ (b : Bool). elim b as (λ x. Hart) [ true ↦ own | false ↦ other_after next (harts j) ]) e

-- each hart's mark is that of its last End among the records of a turn, or the one that it had
turn_marks : (next : TurnEnd) (h k number n : ℕ) (s : HartState) (skipped bytes : ℕ) (harts : ℕ → Hart) → h < n
    → (harts_after next k (hart_after next s skipped bytes (harts k)) harts h).mark ≡ option_or (last_end h (next_records next k number s ++ run_over_records next k n harts)) (harts h).mark
turn_marks next h k number n s skipped bytes harts within =
    let own : Hart = hart_after next s skipped bytes (harts k) in
    let ns : List Record = next_records next k number s in
    let os : List Record = run_over_records next k n harts in
    elim (eqb_tells h k) [
      | inl p ↦
          let first : (hart_after next s skipped bytes (harts k)).mark ≡ option_or (last_end h ns) (harts h).mark = own_next next h k number s skipped bytes (harts k) p.0 ∙ ap (λ (x : ℕ). option_or (last_end h ns) (harts x).mark) (sym p.1) in
          let all : last_end h (ns ++ os) ≡ last_end h ns = last_of_both h ns os ∙ ap (λ (m : Option EndMark). option_or m (last_end h ns)) (own_over next h k n harts p.0) in
          ap (λ (x : Hart). x.mark) (own_is next k h own harts p.0) ∙ first ∙ ap (λ (m : Option EndMark). option_or m (harts h).mark) (sym all)
      | inr p ↦
          let all : last_end h (ns ++ os) ≡ last_end h os = passed h ns os (other_next next h k number s p.0) in
          ap (λ (x : Hart). x.mark) (other_is next k h own harts p.0) ∙ other_over next h k n harts p.0 within ∙ ap (λ (m : Option EndMark). option_or m (harts h).mark) (sym all)
    ]

-- ---- runs

-- each of n harts has the mark of its last End
AreMarked : ℕ → Run → Type 0
AreMarked n run = (h : ℕ) → h < n → last_end h run.stream ≡ (run.harts h).mark

marked_more : (h : ℕ) (stream more : List Record) (old new : Option EndMark) → last_end h stream ≡ old → new ≡ option_or (last_end h more) old → last_end h (stream ++ more) ≡ new
marked_more h stream more old new e f = last_of_both h stream more ∙ ap (option_or (last_end h more)) e ∙ sym f

guard_marked : (g : Bool) (n : ℕ) (run : Run) (k : ℕ) (s : HartState) → AreMarked n run → AreMarked n (guarded_run g run k s)
unfolding AreMarked
guard_marked false n run k s are h within = are h within
guard_marked true n run k s are h within =
    let bytes = run.bytes + total (guard_records run k s) in
    let rs : List Record = guard_records run k s in
    let more = turn_marks by_guard h k (run.harts k).number n s 0 bytes run.harts within in
    marked_more h run.stream rs (run.harts h).mark (harts_after by_guard k (hart_after by_guard s 0 bytes (run.harts k)) run.harts h).mark (are h within)
    (more ∙ ap (λ (x : List Record). option_or (last_end h x) (run.harts h).mark) (append-nil rs))

after_marked : (c : RawSettings) (run : Run) (k : ℕ) (ask : Ask) (call : Option Plan) (answered : Answered) (span : Option Span) (next : TurnEnd) (s : HartState) → AreMarked c.harts run → AreMarked c.harts (after_ask c run k ask call answered span next s)
unfolding AreMarked
after_marked c run k ask call answered span next s are h within =
    let new = after_ask c run k ask call answered span next s in
    let load = warmth c (loading ask.want) (run.events k) in
    let skipped = (run.harts k).skipped in
    let word = word_before run.machine.memory (loading ask.want) in
    let es : List Record = edge_records (point_of k ask.state.ic run.turns span) run.points in
    let ls : List Record = load_record load k skipped word in
    let cs : List Record = sc_record answered.reply k in
    let ends : List Record = next_records next k (run.harts k).number s ++ run_over_records next k c.harts run.harts in
    let all : last_end h (es ++ (ls ++ (cs ++ ends))) ≡ last_end h ends =
    passed h es (ls ++ (cs ++ ends)) (point_none (point_of k ask.state.ic run.turns span) h run.points) ∙ passed h ls (cs ++ ends) (load_none load h k skipped word) ∙ passed h cs ends (conditional_none answered.reply h k) in
    let more = turn_marks next h k (run.harts k).number c.harts s (skipped_after load skipped) new.bytes run.harts within in
    marked_more h run.stream (es ++ (ls ++ (cs ++ ends))) (run.harts h).mark (new.harts h).mark (are h within) (more ∙ ap (λ (m : Option EndMark). option_or m (run.harts h).mark) (sym all))

served_marked : (b : Bool) (c : RawSettings) (i : Program) (run : Run) (k : ℕ) (ask : Ask) → AreMarked c.harts run → AreMarked c.harts (served_if b c i run k ask).run
unfolding AreMarked
served_marked false c i run k ask are h within = are h within
served_marked true c i run k ask are h within =
    let g = is_guarded c run k ask.want in
    let at = guarded_run g run k ask.state in
    let call : Option Plan = call_of i run.machine ask.want in
    let answered : Answered = answer c call run.machine k ask in
    after_marked c at k ask call answered _ _ _ (guard_marked g c.harts run k ask.state are) h within

serve_marked : (c : RawSettings) (i : Program) (run : Run) (k : ℕ) (ask : Ask) → AreMarked c.harts run → AreMarked c.harts (serve c i run k ask).run
unfolding serve
serve_marked c i run k ask are = served_marked (is_orderly c i (run.harts k) ask) c i run k ask are

rows_marked : (c : RawSettings) (i : Program) (run : Run) (rows : List TurnRow) → AreMarked c.harts run → AreMarked c.harts (after_rows c i run rows)
rows_marked c i run [] are = are
rows_marked c i run (r ∷ rs) are = rows_marked c i (serve c i run r.hart r.ask).run rs (serve_marked c i run r.hart r.ask are)

-- the last End of each hart has its mark
pub ends_are_marks : LastEndsAreMarks
unfolding AreMarked
ends_are_marks c i input rows h within = rows_marked c i (start c i input) rows (λ k below. headers_none c i k 0 c.harts) h within

-- so has one at the end of the stream
end_mark : (h : ℕ) (stream front back : List Record) (m : EndMark) (now : Option EndMark) → stream ≡ front ++ back → last_end h back ≡ Some m → last_end h stream ≡ now → now ≡ Some m
end_mark h stream front back m now parts e is = sym is ∙ ap (last_end h) parts ∙ last_of_both h front back ∙ ap (λ (x : Option EndMark). option_or x (last_end h front)) e

pub kept_ends_are_marks : KeptEndsAreMarks
kept_ends_are_marks c i input rows rs h m within end e =
    let run = after_rows c i (start c i input) rows in
    end_mark h run.stream end.front rs m (run.harts h).mark end.parts e (ends_are_marks c i input rows h within)
