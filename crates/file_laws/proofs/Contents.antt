-- What is kept of a recording is what a log says.
use Rattle.file_laws.proofs.Common.{◌≡◌, ℕ, zero, suc, ◌+◌, ◌-◌, ◌*◌, ◌%◌, ◌<◌, ◌≤◌, ◌^◌, Bool, true, false, nat_lt, Option, Some, None, List, [], ◌∷◌, ◌++◌, length, replicate, set, refl, sym, ◌∙◌, ap, subst, arith, inl, inr, mod-lt, pow_pos, mul-le-mul, ◌==◌, if◌then◌else◌, slice_set, AllByRecursion, eqb_tells, length-append, Program, IsSetting, RawSettings, HartState, absorbed, orderly, passes, is_counted, AreWords, Ask, Plan, Point, IsImage, Record, Fits, total, IsContent, broken_by, kept, Hart, TurnEnd, Span, Answered, answer, call_of, Run, Served, turn, ask_at, is_guarded, begun_anew, guarded_run, guard_records, after_ask, span_of, next_of, loading, warmth, word_before, budget, point_of, edge_records, load_record, sc_record, next_records, run_over_records, harts_after, is_orderly, start, start_state, first_headers, run_from, legal_from, most_turns, MovesOn, kept_of, dropped_of, content_of, counts_of, EdgesAreFew, and_parts, ltb-true, own_is, other_is, legal_first, own_state, other_state, uncut, served, ordered, run_of, sha256, same_Some, LogsAreContents, StreamsAreInOrder, LoadedProgramsAreImages, RunsEnd, AsksAreOrderly}
use Rattle.file_laws.proofs.Asks.{StepsKeepWords, asks_well}
use Rattle.file_laws.proofs.Machines.{HoldsMachine, IsWordState, EndIsWord, answer_well, state_after, end_word, code_words, first_words, heap_word}
use Rattle.file_laws.proofs.Nexts.{EndsAs, next_ends}
use Rattle.file_laws.proofs.Sources.{few_edges}
use Rattle.file_laws.proofs.Fields.{header_fits, edge_records_fit, load_fits, conditional_fits, next_fits, over_fits, fits_any, guard_fits, load_few, conditional_few, next_few, over_few}
use Rattle.file_laws.proofs.Turns.{Laws, Recording, Underway, all_both, own_hart, turn_within, asking, guard_is, anew_is, anew_other, asking_kept, asks, turn_kept}
use Rattle.file_laws.proofs.Rows.{SuffixIsKept, last_part, FirstAreGivenUp, KeptAreInOrder, EarlyAreNotLate, kept_in_order, stream_in_order}
use Rattle.sha2.proofs.Facts256.{length-sha256}
use Rattle.file_laws.specs.Given.{IsRecording}
use Rattle.file_laws.proofs.Starts.{NoneAreKept, started}

-- the laws that are used here
pub record AllLaws : Type 0 where
  pub turns : Laws
  pub asks : AsksAreOrderly
  pub keep : StepsKeepWords
  pub few : EdgesAreFew

-- what holds of a run of the harts' own asks: its numbers are words, and the records fit their fields and are few, but for so many
pub record Worded (c : RawSettings) (spare : ℕ) (run : Run) : Type 0 where
  pub states : (k : ℕ) → k < c.harts → IsWordState (run.harts k).state
  pub machine : HoldsMachine run.machine
  pub fits : AllByRecursion (Fits c.format) run.stream
  pub few : length run.stream ≤ 16 + spare + 40 * run.turns

-- there are at most 16 harts
by_format : (b : Bool) → (if b then 16 else 8) ≤ 16
by_format true = omega arith
by_format false = omega arith

pub few_harts : (c : RawSettings) → IsSetting c → c.harts ≤ 16
few_harts c setting = omega (arith, setting.harts_high, by_format (c.format == 2))

-- ---- a turn

word_loaded : (load : Option ℕ) (memory : ℕ → ℕ) → ((a : ℕ) → memory a < 2 ^ 32) → word_before memory load < 2 ^ 32
word_loaded None memory words = omega arith
word_loaded (Some a) memory words = words a

own_point : (span : Option Span) (k asked turns : ℕ) (p : Point) → point_of k asked turns span ≡ Some p → k < 256 → asked < 2 ^ 64 → (p.hart < 256) × (p.count < 2 ^ 64)
own_point None k asked turns p e small low = cc
own_point (Some x) k asked turns p e small low = let hart : k ≡ p.hart = ap (λ (x : Point). x.hart) (same_Some _ p e) in let count : asked ≡ p.count = ap (λ (x : Point). x.count) (same_Some _ p e) in (omega (arith, hart, small), omega (arith, count, low))

states_on : (c : RawSettings) (run : Run) (k : ℕ) (ask : Ask) (next : TurnEnd) (s : HartState) (bytes : ℕ) → ((j : ℕ) → j < c.harts → IsWordState (run.harts j).state) → IsWordState s → (j : ℕ) → j < c.harts
    → IsWordState (harts_after next k (own_hart c run k ask next s bytes) run.harts j).state
states_on c run k ask next s bytes states w j within = elim (eqb_tells j k) [
  | inl p ↦ subst IsWordState (sym (ap (λ (h : Hart). h.state) (own_is next k j (own_hart c run k ask next s bytes) run.harts p.0) ∙ own_state next s _ bytes (run.harts k))) w
  | inr p ↦ subst IsWordState (sym (ap (λ (h : Hart). h.state) (other_is next k j (own_hart c run k ask next s bytes) run.harts p.0) ∙ other_state next (run.harts j))) (states j within)
]

pub five_parts : (a e l s n o : List Record) → length (a ++ (e ++ (l ++ (s ++ (n ++ o))))) ≡ length a + (length e + (length l + (length s + (length n + length o))))
five_parts a e l s n o = omega (arith, length-append a (e ++ (l ++ (s ++ (n ++ o)))), length-append e (l ++ (s ++ (n ++ o))), length-append l (s ++ (n ++ o)), length-append s (n ++ o), length-append n o)

worded_after : AllLaws → (c : RawSettings) (run : Run) (k : ℕ) (ask : Ask) (call : Option Plan) (answered : Answered) (span : Option Span) (next : TurnEnd) (s : HartState) → IsSetting c → Underway c run → Worded c 2 run → k < c.harts
    → MovesOn c (run.harts k) ask.state.ic s.ic next span (loading ask.want) → EndsAs c (run.harts k) s.ic next → IsWordState s → HoldsMachine answered.machine → EndIsWord next
    → Worded c 0 (after_ask c run k ask call answered span next s)
worded_after laws c run k ask call answered span next s setting known w there on so state machine value =
    let h = run.harts k in
    let fit = known.fit k in
    let within = turn_within c h ask.state.ic s.ic next span (loading ask.want) fit on in
    let point = point_of k ask.state.ic run.turns span in
    let load = warmth c (loading ask.want) (run.events k) in
    let word = word_before run.machine.memory (loading ask.want) in
    let es = edge_records point run.points in
    let ls = load_record load k h.skipped word in
    let cs = sc_record answered.reply k in
    let ns = next_records next k h.number s in
    let os = run_over_records next k c.harts run.harts in
    let harts = few_harts c setting in
    let small : k < 256 = omega (arith, there, harts) in
    let asked : ask.state.ic < 2 ^ 64 = omega (arith, on.low, within.limit, setting.limit_high) in
    let low : s.ic < 2 ^ 64 = omega (arith, within.limit, setting.limit_high) in
    let number : h.number + 1 < 2 ^ 64 = omega (arith, fit.number, fit.limit, within.low, within.limit, setting.limit_high) in
    let skipped : h.skipped < 2 ^ 32 = omega (arith, fit.skipped, fit.interval, setting.interval_high) in
    let limits : (j : ℕ) → counts_of run j ≤ c.limit = λ j. (known.fit j).limit in
    let counts : (j : ℕ) → (run.harts j).state.ic < 2 ^ 64 = λ j. omega (arith, (known.fit j).limit, setting.limit_high) in
    let edges_fit = edge_records_fit laws.turns.listed point run.points c.harts c.limit (counts_of run) known.points limits (λ p e. own_point span k ask.state.ic run.turns p e small asked) (omega (arith, harts)) (omega (arith, setting.limit_high)) in
    record {
      states = states_on c run k ask next s (after_ask c run k ask call answered span next s).bytes w.states state;
      machine = machine;
      fits = all_both (Fits c.format) run.stream (es ++ (ls ++ (cs ++ (ns ++ os)))) w.fits
          (fits_any c.format (es ++ (ls ++ (cs ++ (ns ++ os))))
          (all_both (Fits 1) es (ls ++ (cs ++ (ns ++ os))) edges_fit
          (all_both (Fits 1) ls (cs ++ (ns ++ os)) (load_fits load k h.skipped word small skipped (word_loaded (loading ask.want) run.machine.memory w.machine.memory))
          (all_both (Fits 1) cs (ns ++ os) (conditional_fits answered.reply k small)
          (all_both (Fits 1) ns os (next_fits next c h k h.number s small number low state so value on.marked) (over_fits next k c.harts run.harts (omega (arith, harts)) counts))))));
      few = (let edges : length es ≤ c.harts = few_edges laws.few point run.points c.harts (counts_of run) known.points in
          omega (arith, five_parts run.stream es ls cs ns os, w.few, edges, load_few load k h.skipped word, conditional_few answered.reply k, next_few next k h.number s, over_few next k c.harts run.harts, harts));
    }

passed : (i : Program) (from b : ℕ) (ask : Ask) → orderly i from b ask ≡ true → passes i ask.want ≡ true
passed i from b ask e = (and_parts (is_counted from b ask.want ask.state.ic) (passes i ask.want) e).1

-- once the guard has begun an interval
anew_worded : (c : RawSettings) (run : Run) (k : ℕ) (s : HartState) → IsSetting c → Recording c run → Worded c 0 run → k < c.harts → c.format ≡ 2 → s.ic < 2 ^ 64 → IsWordState s → Worded c 2 (begun_anew run k s)
anew_worded c run k s setting known w there two low state =
    let harts = few_harts c setting in
    let h = run.harts k in
    let fit = (known.fit k).fit in
    let number : h.number + 1 < 2 ^ 64 = omega (arith, fit.number, fit.limit, fit.skipped, setting.limit_high) in
    record {
      states = λ j within. elim (eqb_tells j k) [
        | inl p ↦ subst IsWordState (sym (ap (λ (x : Hart). x.state) (anew_is run k j s p.0))) state
        | inr p ↦ subst IsWordState (sym (ap (λ (x : Hart). x.state) (anew_other run k j s p.0))) (w.states j within)
      ];
      machine = w.machine;
      fits = all_both (Fits c.format) run.stream (guard_records run k s) w.fits
          (subst (λ (format : ℕ). AllByRecursion (Fits format) (guard_records run k s)) (sym two) (guard_fits k h.number s (omega (arith, there, harts)) number low state));
      few = omega (arith, length-append run.stream (guard_records run k s), w.few);
    }

asking_worded : (g : Bool) (c : RawSettings) (run : Run) (k : ℕ) (s : HartState) → IsSetting c → Recording c run → Worded c 0 run → k < c.harts → (g ≡ true → c.format ≡ 2) → s.ic < 2 ^ 64 → IsWordState s → Worded c 2 (guarded_run g run k s)
asking_worded true c run k s setting known w there two low state = anew_worded c run k s setting known w there (two refl) low state
asking_worded false c run k s setting known w there two low state = record { states = w.states; machine = w.machine; fits = w.fits; few = omega (arith, w.few) }

turn_worded : AllLaws → (c : RawSettings) (i : Program) (run : Run) (k : ℕ) → IsSetting c → IsImage i → Recording c run → Worded c 0 run → k < c.harts → (run.harts k).live ≡ true → is_orderly c i (run.harts k) (ask_at c i (run.harts k)) ≡ true → Worded c 0 (turn c i run k)
turn_worded laws c i run k setting image known w there live o =
    let own = run.harts k in
    let ask = ask_at c i own in
    let g = is_guarded c run k ask.want in
    let at : Run = asking c run k ask in
    let h = at.harts k in
    let call : Option Plan = call_of i run.machine ask.want in
    let answered : Answered = answer c call run.machine k ask in
    let s : HartState = absorbed ask answered.reply in
    let next : TurnEnd = next_of c call h ask.want answered.reply s.ic in
    let state = w.states k there in
    let well = asks_well laws.keep i (code_words i image.words) (budget c own) own.state state.registers state.formed in
    let answers = answer_well c i run.machine k ask well (passed i own.state.ic (budget c own) ask o) w.machine in
    let now = asking_kept g laws.turns c i run k ask setting known there live o (uncut c run k ask.want) in
    let a = asks g laws.turns c i run k ask setting known live o (uncut c run k ask.want) in
    let on = laws.turns.moves c i run.machine h k ask (omega (arith, setting.limit_high)) (now.fit k) a.live a.orderly in
    let so = next_ends call c h ask.want answered.reply s.ic setting.interval_low in
    let within = turn_within c h ask.state.ic s.ic next _ (loading ask.want) (now.fit k) on in
    let low : ask.state.ic < 2 ^ 64 = omega (arith, on.low, within.limit, setting.limit_high) in
    let begun = asking_worded g c run k ask.state setting known w there (λ e. (guard_is c run k ask.want e).0) low (record { registers = well.registers; formed = well.formed }) in
    subst (λ (x : Served). Worded c 0 x.run) (sym (served c i run k ask o))
    (worded_after laws c at k ask call answered (span_of call ask.want answered.reply) next s setting now begun there on so (state_after ask answered.reply answers.reply well) answers.machine
    (end_word ask.want c i run.machine h answered.reply s.ic well.want w.machine answers.reply))

one_turn : Laws → (c : RawSettings) (i : Program) (run : Run) (k : ℕ) → IsSetting c → is_orderly c i (run.harts k) (ask_at c i (run.harts k)) ≡ true → (turn c i run k).turns ≡ run.turns + 1
one_turn laws c i run k setting o = ap (λ (x : Served). x.run.turns) (served c i run k (ask_at c i (run.harts k)) o)

-- ---- the turns of a legal list

-- a run after the turns of a list
pub record After (c : RawSettings) (turns : ℕ) (run : Run) : Type 0 where
  pub known : Recording c run
  pub words : Worded c 0 run
  pub count : run.turns ≡ turns

pub turns_after : AllLaws → (c : RawSettings) (i : Program) (run : Run) (b : List ℕ) (n : ℕ) → IsSetting c → IsImage i → After c n run → legal_from c i run b ≡ true → After c (n + length b) (run_from c i run b)
turns_after laws c i run [] n setting image a e = (let z : n ≡ n + 0 = omega arith in subst (λ (m : ℕ). After c m run) z a)
turns_after laws c i run (k ∷ ks) n setting image a e =
    let first = legal_first c i run k ks e in
    let live = and_parts (nat_lt k c.harts) (run.harts k).live first.0 in
    let there = ltb-true k c.harts live.0 in
    let o = ordered laws.asks c i (run.harts k) (omega (arith, setting.limit_high)) (a.known.fit k).fit in
    let next : After c (n + 1) (turn c i run k) = record {
      known = turn_kept laws.turns c i run k (ask_at c i (run.harts k)) setting a.known there live.1 o;
      words = turn_worded laws c i run k setting image a.known a.words there live.1 o;
      count = omega (arith, one_turn laws.turns c i run k setting o, a.count);
    } in
    let z : n + 1 + length ks ≡ n + suc (length ks) = omega arith in
    subst (λ (m : ℕ). After c m (run_from c i (turn c i run k) ks)) z (turns_after laws c i (turn c i run k) ks (n + 1) setting image next first.1)

-- ---- the start

set_words : (x : List ℕ) (i v : ℕ) → v < 2 ^ 32 → AreWords x → AreWords (set x i v)
set_words [] i v p h r = h r
set_words (y ∷ ys) zero v p h zero = p
set_words (y ∷ ys) zero v p h (suc r) = h (suc r)
set_words (y ∷ ys) (suc i) v p h zero = h zero
set_words (y ∷ ys) (suc i) v p h (suc r) = set_words ys i v p (λ k. h (suc k)) r

no_words : (n : ℕ) → AreWords (replicate n 0)
no_words zero r = omega arith
no_words (suc n) zero = omega arith
no_words (suc n) (suc r) = no_words n r

start_registers : (k n top : ℕ) → k < 2 ^ 32 → n < 2 ^ 32 → top < 2 ^ 32 → AreWords (slice_set (slice_set (slice_set (replicate 32 0) 10 k) 11 n) 2 top)
start_registers k n top p q r = set_words (set (set (replicate 32 0) 10 k) 11 n) 2 top r (set_words (set (replicate 32 0) 10 k) 11 n q (set_words (replicate 32 0) 10 k p (no_words 32)))

start_words : (c : RawSettings) (i : Program) (k : ℕ) → IsSetting c → IsImage i → k < 2 ^ 32 → IsWordState (start_state c i k)
start_words c i k setting image small = record {
  registers = start_registers k c.harts ((i.memory + 2 ^ 32 - 65536 * k) % 2 ^ 32) small (omega (arith, few_harts c setting)) (mod-lt (i.memory + 2 ^ 32 - 65536 * k) (pow_pos 32));
  formed = record { pc = image.entry; count = refl; zero_first = refl };
}

headers_fit : (c : RawSettings) (i : Program) (k m : ℕ) → IsSetting c → IsImage i → k + m ≤ 256 → AllByRecursion (Fits 1) (first_headers c i k m)
headers_fit c i k zero setting image within = tt
headers_fit c i k (suc m) setting image within =
    (header_fits k 0 (start_state c i k) (omega (arith, within)) (omega arith) (omega arith) (start_words c i k setting image (omega (arith, within))), headers_fit c i (k + 1) m setting image (omega (arith, within)))

pub headers_count : (c : RawSettings) (i : Program) (k m : ℕ) → length (first_headers c i k m) ≡ m
headers_count c i k zero = refl
headers_count c i k (suc m) = ap suc (headers_count c i (k + 1) m)

pub start_worded : (c : RawSettings) (i : Program) (input : List ℕ) → IsSetting c → IsImage i → Worded c 0 (start c i input)
start_worded c i input setting image = record {
  states = λ k there. start_words c i k setting image (omega (arith, there, few_harts c setting));
  machine = record { memory = first_words i image.words; brk = heap_word i image.program };
  fits = fits_any c.format (first_headers c i 0 c.harts) (headers_fit c i 0 c.harts setting image (omega (arith, few_harts c setting)));
  few = omega (arith, headers_count c i 0 c.harts, few_harts c setting);
}

-- ---- the content

abbrev pub KeptFit : Type 0
KeptFit = (size : ℕ) (rs : List Record) → total (kept size rs) ≤ size

pub turns_bound : (harts limit : ℕ) → harts ≤ 16 → limit ≤ 2 ^ 40 → harts * (limit + 1) ≤ 16 * (2 ^ 40 + 1)
turns_bound harts limit h l = (let up : limit + 1 ≤ 2 ^ 40 + 1 = omega (arith, l) in mul-le-mul h up)

pub is_content : SuffixIsKept → KeptFit → (c : RawSettings) (digest : List ℕ) (n : ℕ) (run : Run) → IsSetting c → length digest ≡ 32 → After c n run → n ≤ most_turns c → broken_by c (dropped_of c run) (kept_of c run) ≡ None
    → IsContent (content_of c digest run)
is_content suffix bound c digest n run setting size a few order =
    let part = suffix c.log_size run.stream in
    record {
      settings = setting;
      digest = size;
      dropped = omega (arith, a.words.few, a.count, few, turns_bound c.harts c.limit (few_harts c setting) setting.limit_high);
      fit = last_part (Fits c.format) part.0 (kept_of c run) (subst (AllByRecursion (Fits c.format)) part.1 a.words.fits);
      bound = bound c.log_size run.stream;
      order = order;
    }

-- ---- the laws

-- the run of a recording
recorded : AllLaws → LoadedProgramsAreImages → NoneAreKept → (c : RawSettings) (i : Program) (elf input b : List ℕ) → IsRecording c i elf input b → After c (0 + length b) (run_of c i input b)
recorded laws images none c i elf input b r =
    let image : IsImage i = images elf c i r.bytes r.setting r.loaded in
    let begin : After c 0 (start c i input) = record { known = started laws.turns.order none c i input r.setting; words = start_worded c i input r.setting image; count = refl } in
    turns_after laws c i (start c i input) b 0 r.setting image begin r.legal

pub contents : AllLaws → LoadedProgramsAreImages → RunsEnd → NoneAreKept → SuffixIsKept → KeptFit → FirstAreGivenUp → KeptAreInOrder → EarlyAreNotLate → LogsAreContents
contents laws images ends none suffix fit given order early c i elf input b r =
    let end = recorded laws images none c i elf input b r in
    is_content suffix fit c (sha256 elf) _ (run_of c i input b) r.setting (length-sha256 elf) end (omega (arith, ends c i input b r.setting r.legal))
    (kept_in_order suffix given order early c (run_of c i input b) end.known r.over)

pub streams_in_order : AllLaws → LoadedProgramsAreImages → NoneAreKept → KeptAreInOrder → EarlyAreNotLate → StreamsAreInOrder
streams_in_order laws images none order early c i elf input b r = stream_in_order order early c (run_of c i input b) (recorded laws images none c i elf input b r).known r.over
