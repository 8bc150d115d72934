-- An instruction that a replay did is the one that the definition gives.
use Rattle.hart_replay.proofs.Common.{◌≡◌, ℕ, suc, ◌+◌, ◌-◌, ◌/◌, ◌^◌, ◌<◌, Bool, true, false, Option, Some, None, List, [], ◌∷◌, length, refl, sym, subst, ◌∙◌, ap, arith, inl, inr, add-zero, ◌==◌, ◌||◌, is_some, Result, Ok, Err, OnOk, IfErr, Program, EndMark, Row, HartState, stored_word, absorbed, after, count_up, aligned, Want, Store, StoreConditional, Reply, Stored, row_of, at_address, known, IntervalCursor, ReplayError, LoadMissing, ScMissing, OutOfMemory, Refused, Next, Stop, logged, taken_from, slot, or_else, word_for, missing, after_ask, after_sc, ask_step, Pending, due, met, IsWaiting, first_of, rest_of, Frame, word_at, Side, Alike, Goes, word_count, rows_below, side, interval_at, position_at, word_due, Keeps, KeepsWord, Does, side_of, DoneAndKept}
use Rattle.rv_meaning.specs.declared.asks.Reply.TheVariants as replies
use Rattle.hart_replay.proofs.Places.{logged-due, logged-met, left-met, slot-first, slot-rest, length-rest}
use Rattle.hart_replay.proofs.KnownRows.{known_word, known_put}
use Rattle.hart_replay.proofs.Alike.{moved, tried_once}

-- of two accesses at one address the later counts
pub twice : (a x y w : ℕ) (o : Option ℕ) → at_address (aligned w) (Some (a, y)) (at_address (aligned w) (Some (a, x)) o) ≡ at_address (aligned w) (Some (a, y)) o
twice a x y w o = by_test (aligned a == aligned w)
  where
    by_test : (b : Bool) → elim b as (λ z. Option ℕ) [ true ↦ Some y | false ↦ elim b as (λ z. Option ℕ) [ true ↦ Some x | false ↦ o ] ] ≡ elim b as (λ z. Option ℕ) [ true ↦ Some y | false ↦ o ]
    by_test true = refl
    by_test false = refl

-- a loading access whose row has the word that is put
pub load_alike : (lo : Pending) (co : List Bool) (old new : List (ℕ × Frame)) (r : Row) → IsWaiting lo.skipped lo.loads
    → ((w : ℕ) → known (aligned w) (r ∷ rows_below old word_count) ≡ known (aligned w) (rows_below new word_count))
    → Alike (moved (side lo co old) 1 r) (side (met lo.skipped lo.loads) co new)
load_alike lo co old new r waits words = record {
  loads = λ k. logged-met lo.skipped lo.loads k;
  loads_left = λ k. left-met lo.skipped lo.loads k;
  conditionals = λ k. refl;
  conditionals_left = λ k. refl;
  words = words;
}

pub store_alike : (lo : Pending) (co : List Bool) (old new : List (ℕ × Frame)) (r : Row)
    → ((w : ℕ) → known (aligned w) (r ∷ rows_below old word_count) ≡ known (aligned w) (rows_below new word_count))
    → Alike (moved (side lo co old) 0 r) (side lo co new)
store_alike lo co old new r words = record {
  loads = λ k. ap (λ n. logged lo.loads (n + k)) (add-zero lo.skipped);
  loads_left = λ k. ap (λ n. length lo.loads - taken_from 0 lo.loads (n + k)) (add-zero lo.skipped);
  conditionals = λ k. refl;
  conditionals_left = λ k. refl;
  words = words;
}

pub try_alike : (lo : Pending) (co : List Bool) (old new : List (ℕ × Frame)) (r : Row)
    → ((w : ℕ) → known (aligned w) (r ∷ rows_below old word_count) ≡ known (aligned w) (rows_below new word_count))
    → Alike (tried_once (side lo co old) r) (side lo (rest_of co) new)
try_alike lo co old new r words = record {
  loads = λ k. refl;
  loads_left = λ k. refl;
  conditionals = λ k. (let more : 0 + 1 + k ≡ suc k = omega arith in let none : k ≡ 0 + k = omega arith in ap (slot co) more ∙ slot-rest co k ∙ ap (slot (rest_of co)) none);
  conditionals_left = λ k. (let more : 0 + 1 + k ≡ suc k = omega arith in let none : k ≡ 0 + k = omega arith in ap (λ n. length co - n) more ∙ length-rest co k ∙ ap (λ n. length (rest_of co) - n) none);
  words = words;
}

-- the word of the definition is the one that was looked up
pub word_looked_up : (s t : HartState) (m : EndMark) (called : Bool) (lo : Pending) (co : List Bool) (pages : List (ℕ × Frame)) (a : ℕ) (o : Option ℕ) → a < 2 ^ 32 → IsWaiting lo.skipped lo.loads
    → word_due lo (word_at pages (a / 4)) ≡ o → word_for (interval_at s m (side lo co pages)) (position_at t called (side lo co pages)) a ≡ o
word_looked_up s t m called lo co pages a o fits waits e =
    ap (λ (x : Option ℕ). or_else x (known (aligned a) (rows_below pages word_count))) (logged-due lo.skipped lo.loads waits)
    ∙ ap (λ (x : Option ℕ). or_else (due lo.skipped lo.loads) x) (known_word pages a fits) ∙ e

module _ (i : Program) (h : ℕ) (m : EndMark) (s : HartState) (called : Bool) (lo : Pending) (co : List Bool) (old : List (ℕ × Frame)) where
  -- a loading access with this word
  pub load_goes : (k : Want) (w x : ℕ) (reply : ℕ → Reply) (load store : ℕ → Option (ℕ × ℕ)) (o : Option ℕ) (new : List (ℕ × Frame)) (row : Row) (t : HartState)
      → o ≡ Some x → absorbed (record { state = s; want = k }) (reply x) ≡ t → row_of h i s (absorbed (record { state = s; want = k }) (reply x)) (load x) (store x) ≡ row
      → IsWaiting lo.skipped lo.loads
      → ((v : ℕ) → known (aligned v) (row_of h i s (absorbed (record { state = s; want = k }) (reply x)) (load x) (store x) ∷ rows_below old word_count) ≡ known (aligned v) (rows_below new word_count))
      → Goes (side lo co old) (elim o as (λ y. Next) [ None ↦ missing h (position_at s called (side lo co old)) w | Some y ↦ after_ask i h (position_at s called (side lo co old)) (record { state = s; want = k }) (reply y) 1 (load y) (store y) ]) row t false (side (met lo.skipped lo.loads) co new)
  load_goes k w x reply load store o new row t e state is waits words =
      subst (λ (z : Option ℕ). Goes (side lo co old) (elim z as (λ y. Next) [ None ↦ missing h (position_at s called (side lo co old)) w | Some y ↦ after_ask i h (position_at s called (side lo co old)) (record { state = s; want = k }) (reply y) 1 (load y) (store y) ]) row t false (side (met lo.skipped lo.loads) co new)) (sym e)
      (state, refl, ap (λ (r : Row). r ∷ []) is, load_alike lo co old new (row_of h i s (absorbed (record { state = s; want = k }) (reply x)) (load x) (store x)) waits words)

  -- and without one
  pub load_stops : (k : Want) (w : ℕ) (reply : ℕ → Reply) (load store : ℕ → Option (ℕ × ℕ)) (o : Option ℕ) → o ≡ None
      → elim o as (λ y. Next) [ None ↦ missing h (position_at s called (side lo co old)) w | Some y ↦ after_ask i h (position_at s called (side lo co old)) (record { state = s; want = k }) (reply y) 1 (load y) (store y) ] ≡ Stop (Refused (LoadMissing h s.ic w))
  load_stops k w reply load store o e = ap (λ (z : Option ℕ). elim z as (λ y. Next) [ None ↦ missing h (position_at s called (side lo co old)) w | Some y ↦ after_ask i h (position_at s called (side lo co old)) (record { state = s; want = k }) (reply y) 1 (load y) (store y) ]) e

-- ---- the contracts of the steps

-- the definition's next, if it depends on a word
abbrev pub by_word : IntervalCursor → Want → ℕ → (ℕ → Reply) → (load store : ℕ → Option (ℕ × ℕ)) → Option ℕ → Next
by_word c k w reply load store o = elim o as (λ y. Next) [ None ↦ missing c.hart (position_at c.state c.called (side_of c)) w | Some y ↦ after_ask c.image.now c.hart (position_at c.state c.called (side_of c)) (record { state = c.state; want = k }) (reply y) 1 (load y) (store y) ]

-- what a kept access says
abbrev pub Kept : IntervalCursor → IntervalCursor → Want → Reply → (load store : Option (ℕ × ℕ)) → (ℕ × ℕ) → Result (Unit {0}) ReplayError → Row → Type 0
Kept mid new k reply load store told r row =
    OnOk r (DoneAndKept mid k reply load store told row new)
    × IfErr r (λ e. (e ≡ OutOfMemory) × (new ≡ record mid { words = new.words }))

keep_does : (a : Side) (n : Next) (mid new : IntervalCursor) (k : Want) (reply : Reply) (load store : Option (ℕ × ℕ)) (told : ℕ × ℕ) (r : Result (Unit {0}) ReplayError) (row : Row)
    → (row ≡ row_of mid.hart mid.image.now mid.state (after k reply mid.state) load store → Keeps mid.words.pages told new.words.pages → Goes a n row (after k reply mid.state) false (side mid.loads mid.conditionals new.words.pages))
    → (after k reply mid.state).ic ≡ count_up mid.state.ic
    → KeepsWord n
    → Kept mid new k reply load store told r row
    → Does a n mid.state r row new.state new.called (side_of new)
keep_does a n mid new k reply load store told (Ok u) row goes up tells kept =
    subst (λ (c : IntervalCursor). Goes a n row c.state c.called (side_of c) × (c.state.ic ≡ count_up mid.state.ic)) (sym kept.0.2) (goes kept.0.0 kept.0.1, up)
keep_does a n mid new k reply load store told (Err e) row goes up tells kept = (inr (kept.1.0, tells), ap (λ (c : IntervalCursor). c.state) kept.1.1)

abbrev pub met_cursor : IntervalCursor → IntervalCursor
met_cursor c = record c { loads = met c.loads.skipped c.loads.loads }

pub loading_does : (old mid new : IntervalCursor) (k : Want) (w x : ℕ) (reply : ℕ → Reply) (load store : ℕ → Option (ℕ × ℕ)) (told : ℕ) (r : Result (Unit {0}) ReplayError) (row : Row)
    → w < 2 ^ 32 → IsWaiting old.loads.skipped old.loads.loads → word_due old.loads (word_at old.words.pages (w / 4)) ≡ Some x → mid ≡ met_cursor old
    → ((s : HartState) → (after k (reply x) s).ic ≡ count_up s.ic)
    → ((v : ℕ) (o : Option ℕ) → at_address (aligned v) (store x) (at_address (aligned v) (load x) o) ≡ at_address (aligned v) (Some (w, told)) o)
    → (is_some (load x) || is_some (store x)) ≡ true
    → Kept mid new k (reply x) (load x) (store x) (w, told) r row
    → Does (side_of old) (by_word old k w reply load store (word_for (interval_at old.state old.mark (side_of old)) (position_at old.state old.called (side_of old)) w)) old.state r row new.state new.called (side_of new)
loading_does old mid new k w x reply load store told r row fits waits is e up words tells kept =
    let known_now = word_looked_up old.state old.state old.mark old.called old.loads old.conditionals old.words.pages w (Some x) fits waits is in
    keep_does (side_of old) _ (met_cursor old) new k (reply x) (load x) (store x) (w, told) r row
    (λ same puts. load_goes old.image.now old.hart old.mark old.state old.called old.loads old.conditionals old.words.pages k w x reply load store _ new.words.pages row (after k (reply x) old.state)
    known_now refl (sym same) waits
    (λ v. words v (known (aligned v) (rows_below old.words.pages word_count)) ∙ known_put old.words.pages new.words.pages w told v fits puts))
    (up old.state)
    (subst (λ (o : Option ℕ). KeepsWord (by_word old k w reply load store o)) (sym known_now) tells)
    (subst (λ (m : IntervalCursor). Kept m new k (reply x) (load x) (store x) (w, told) r row) e kept)

pub missing_does : (old mid : IntervalCursor) (k : Want) (w : ℕ) (reply : ℕ → Reply) (load store : ℕ → Option (ℕ × ℕ)) (e : ReplayError) (row : Row)
    → w < 2 ^ 32 → IsWaiting old.loads.skipped old.loads.loads → word_due old.loads (word_at old.words.pages (w / 4)) ≡ None → mid ≡ met_cursor old → e ≡ LoadMissing old.hart old.state.ic w
    → Does (side_of old) (by_word old k w reply load store (word_for (interval_at old.state old.mark (side_of old)) (position_at old.state old.called (side_of old)) w)) old.state (Err e) row mid.state mid.called (side_of mid)
missing_does old mid k w reply load store e row fits waits is same error = (
  inl (load_stops old.image.now old.hart old.mark old.state old.called old.loads old.conditionals old.words.pages k w reply load store _ (word_looked_up old.state old.state old.mark old.called old.loads old.conditionals old.words.pages w None fits waits is) ∙ ap (λ (y : ReplayError). Stop (Refused y)) (sym error)),
  ap (λ (c : IntervalCursor). c.state) same,
)

-- a store of a word
pub storing_does : (old new : IntervalCursor) (w width y : ℕ) (r : Result (Unit {0}) ReplayError) (row : Row) → w < 2 ^ 32 → (width == 4) ≡ true
    → Kept old new (Store w width y) Stored None (Some (w, y)) (w, y) r row
    → Does (side_of old) (ask_step old.image.now old.hart (interval_at old.state old.mark (side_of old)) (position_at old.state old.called (side_of old)) (Store w width y)) old.state r row new.state new.called (side_of new)
storing_does old new w width y r row fits full kept =
    subst (λ (b : Bool). Does (side_of old) (elim b as (λ z. Next) [ true ↦ after_ask old.image.now old.hart (position_at old.state old.called (side_of old)) (record { state = old.state; want = Store w width y }) Stored 0 None (Some (w, y)) | false ↦ by_word old (Store w width y) w (λ z. Stored) (λ z. None) (λ z. Some (w, stored_word w width y z)) (word_for (interval_at old.state old.mark (side_of old)) (position_at old.state old.called (side_of old)) w) ]) old.state r row new.state new.called (side_of new)) (sym full)
    (keep_does (side_of old) (after_ask old.image.now old.hart (position_at old.state old.called (side_of old)) (record { state = old.state; want = Store w width y }) Stored 0 None (Some (w, y))) old new (Store w width y) Stored None (Some (w, y)) (w, y) r row
    (λ same puts. (refl, refl, ap (λ (z : Row). z ∷ []) (sym same), store_alike old.loads old.conditionals old.words.pages new.words.pages (row_of old.hart old.image.now old.state (after (Store w width y) Stored old.state) None (Some (w, y))) (λ v. known_put old.words.pages new.words.pages w y v fits puts)))
    refl refl kept)

-- a store of a part of a word
pub part_does : (old : IntervalCursor) (w width y : ℕ) (s : HartState) (r : Result (Unit {0}) ReplayError) (row : Row) (t : HartState) (called : Bool) (b : Side) → (width == 4) ≡ false
    → Does (side_of old) (by_word old (Store w width y) w (λ z. Stored) (λ z. None) (λ z. Some (w, stored_word w width y z)) (word_for (interval_at old.state old.mark (side_of old)) (position_at old.state old.called (side_of old)) w)) s r row t called b
    → Does (side_of old) (ask_step old.image.now old.hart (interval_at old.state old.mark (side_of old)) (position_at old.state old.called (side_of old)) (Store w width y)) s r row t called b
part_does old w width y s r row t called b part does =
    subst (λ (z : Bool). Does (side_of old) (elim z as (λ z. Next) [ true ↦ after_ask old.image.now old.hart (position_at old.state old.called (side_of old)) (record { state = old.state; want = Store w width y }) Stored 0 None (Some (w, y)) | false ↦ by_word old (Store w width y) w (λ z. Stored) (λ z. None) (λ z. Some (w, stored_word w width y z)) (word_for (interval_at old.state old.mark (side_of old)) (position_at old.state old.called (side_of old)) w) ]) s r row t called b) (sym part) does

-- a store-conditional that succeeded
abbrev pub tried_cursor : IntervalCursor → IntervalCursor
tried_cursor c = record c { conditionals = rest_of c.conditionals }

pub trying_does : (old mid new : IntervalCursor) (w rd y : ℕ) (r : Result (Unit {0}) ReplayError) (row : Row) → w < 2 ^ 32 → first_of old.conditionals ≡ Some true → mid ≡ tried_cursor old
    → Kept mid new (StoreConditional w rd y) replies.ScOk None (Some (w, y)) (w, y) r row
    → Does (side_of old) (ask_step old.image.now old.hart (interval_at old.state old.mark (side_of old)) (position_at old.state old.called (side_of old)) (StoreConditional w rd y)) old.state r row new.state new.called (side_of new)
trying_does old mid new w rd y r row fits is e kept =
    subst (λ (o : Option Bool). Does (side_of old) (elim o as (λ z. Next) [ None ↦ Stop (Refused (ScMissing old.hart old.state.ic)) | Some g ↦ after_sc old.image.now old.hart (position_at old.state old.called (side_of old)) (record { state = old.state; want = StoreConditional w rd y }) g w y ]) old.state r row new.state new.called (side_of new)) (sym (slot-first old.conditionals ∙ is))
    (keep_does (side_of old) (after_sc old.image.now old.hart (position_at old.state old.called (side_of old)) (record { state = old.state; want = StoreConditional w rd y }) true w y) (tried_cursor old) new (StoreConditional w rd y) replies.ScOk None (Some (w, y)) (w, y) r row
    (λ same puts. (refl, refl, ap (λ (z : Row). z ∷ []) (sym same), try_alike old.loads old.conditionals old.words.pages new.words.pages (row_of old.hart old.image.now old.state (after (StoreConditional w rd y) replies.ScOk old.state) None (Some (w, y))) (λ v. known_put old.words.pages new.words.pages w y v fits puts)))
    refl
    refl
    (subst (λ (m : IntervalCursor). Kept m new (StoreConditional w rd y) replies.ScOk None (Some (w, y)) (w, y) r row) e kept))
