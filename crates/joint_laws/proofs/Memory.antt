-- The joint memory, by the rows and points of the run.
use Rattle.joint_laws.proofs.Common.{◌≡◌, ℕ, zero, suc, ◌+◌, ◌≤◌, Bool, true, false, ◌⊎◌, inl, inr, refl, sym, ap, ◌∙◌, subst, arith, List, [], ◌∷◌, ◌++◌, length, map, slice_get, is_some, Option, Some, None, ◌==◌, range_with_len, false≢true, Program, Row, HartState, aligned, at_address, Record, Point, Touches, Writes, run_of, RowsAreCounted, HasCodeWords, Fills, RowsThatTellHaveNoFault, RunRowsTellWords, RunWritersHaveRows, TurnRowsAreRows, PartsHaveCodeWords, state_after, HasRow, RunHasRow, IsRowOfTurn, Item, Doing, Taken, Walk, IsRowAt, IsSound, Did, StepsPass, SoundnessStays, FillsAreFilled, BeginsSound, KeepsOrder, HasMemory, IsRecordedWord, Recording, IsLogOf, OfBeginnings, begin, points_of, told_by, none-some, eqb-true, cases_lt, EndsSuffice, IntervalRowsAreOfTurns}
use Rattle.elf_loader.specs.Laws.{LoadedProgramsAreImages}
use Rattle.row_laws.specs.Words.{word_told, HasWord}
use Rattle.joint_laws.proofs.Follows.{IsFollowed, IsItemOf, AreTaken, follows}
use Rattle.joint_laws.proofs.Once.{IsDoneOnce, done_once}
use Rattle.joint_laws.proofs.Words.{IsLatest, forgets, latest, words_are}
use Rattle.joint_laws.proofs.Moves.{some_is}

-- ---- a row that tells a word

-- the word that it tells is aligned
told_access : (o : Option (ℕ × ℕ)) (rest : Option ℕ) (a : ℕ) → (rest ≡ None) ⊎ (aligned a ≡ a) → is_some (at_address a o rest) ≡ true → aligned a ≡ a
told_access None rest a (inl e) t = absurd (false≢true (ap is_some (sym e) ∙ t))
told_access None rest a (inr own) t = own
told_access (Some x) rest a q t = by (aligned x.0 == a) refl t
  where
    own : (b a : ℕ) → aligned b ≡ a → aligned a ≡ a
    own b a e = omega (arith, e)

    left : (rest ≡ None) ⊎ (aligned a ≡ a) → is_some rest ≡ true → aligned a ≡ a
    left (inl e) t = absurd (false≢true (ap is_some (sym e) ∙ t))
    left (inr o) t = o

    by : (b : Bool) → (aligned x.0 == a) ≡ b → is_some (elim b as (λ y. Option ℕ) [ true ↦ Some x.1 | false ↦ rest ]) ≡ true → aligned a ≡ a
    by true e t = own x.0 a (eqb-true (aligned x.0) a e)
    by false e t = left q t

load_or : (o : Option (ℕ × ℕ)) (a : ℕ) → (at_address a o None ≡ None) ⊎ (aligned a ≡ a)
load_or o a = by (at_address a o None) refl
  where
    by : (t : Option ℕ) → at_address a o None ≡ t → (at_address a o None ≡ None) ⊎ (aligned a ≡ a)
    by None e = inl e
    by (Some v) e = inr (told_access o None a (inl refl) (ap is_some e))

told_aligned : (r : Row) (a word : ℕ) → word_told r a ≡ Some word → aligned a ≡ a
told_aligned r a word e = told_access r.store (at_address a r.load None) a (load_or r.load a) (ap is_some e)

-- a row that stores the word tells it
store_tells : (o : Option (ℕ × ℕ)) (rest : Option ℕ) (a v : ℕ) → at_address a o None ≡ Some v → at_address a o rest ≡ Some v
store_tells None rest a v e = absurd (none-some v e)
store_tells (Some x) rest a v e = by (aligned x.0 == a) e
  where
    by : (b : Bool) → elim b as (λ y. Option ℕ) [ true ↦ Some x.1 | false ↦ None ] ≡ Some v → elim b as (λ y. Option ℕ) [ true ↦ Some x.1 | false ↦ rest ] ≡ Some v
    by true f = f
    by false f = absurd (none-some v f)

-- ---- a hart has one row of a count

heads : {X : Type 0} (x y : X) (xs ys : List X) → x ∷ xs ≡ y ∷ ys → x ≡ y
heads x y xs ys e = cc

rests : {X : Type 0} (x y : X) (xs ys : List X) → x ∷ xs ≡ y ∷ ys → xs ≡ ys
rests x y xs ys e = cc

counted_at : (front back : List Row) (r : Row) (k n : ℕ) → map (λ (x : Row). x.ic) (front ++ r ∷ back) ≡ range_with_len k n → r.ic ≡ k + length front
counted_at [] back r k zero e = absurd cc
counted_at [] back r k (suc n) e = let same : r.ic ≡ k = heads r.ic k _ _ e in omega (arith, same)
counted_at (f ∷ fs) back r k zero e = absurd cc
counted_at (f ∷ fs) back r k (suc n) e = let rest = counted_at fs back r (k + 1) n (rests _ _ _ _ e) in omega (arith, rest)

same_place : (xs ys : List Row) (r s : Row) (us vs : List Row) → length xs ≡ length ys → xs ++ r ∷ us ≡ ys ++ s ∷ vs → (xs ≡ ys) × (r ≡ s)
same_place [] [] r s us vs n e = (refl, heads r s us vs e)
same_place [] (y ∷ ys) r s us vs n e = absurd (omega (arith, n))
same_place (x ∷ xs) [] r s us vs n e = absurd (omega (arith, n))
same_place (x ∷ xs) (y ∷ ys) r s us vs n e =
    let first : x ≡ y = heads x y (xs ++ r ∷ us) (ys ++ s ∷ vs) e in
    let rest = same_place xs ys r s us vs (omega (arith, n)) (rests x y (xs ++ r ∷ us) (ys ++ s ∷ vs) e) in
    (ap (λ z. z ∷ xs) first ∙ ap (λ zs. y ∷ zs) rest.0, rest.1)

same_row : (i : Program) (s : HartState) (rows : List Row) (b d : HartState) (q r : Row) → map (λ (x : Row). x.ic) rows ≡ range_with_len 0 (length rows) → HasRow i s rows b q → HasRow i s rows d r → q.ic ≡ r.ic → (b ≡ d) × (q ≡ r)
same_row i s rows b d q r counted x y e =
    let first : q.ic ≡ 0 + length x.front = counted_at x.front x.back q 0 (length rows) (ap (map (λ (z : Row). z.ic)) (sym x.rows_are) ∙ counted) in
    let second : r.ic ≡ 0 + length y.front = counted_at y.front y.back r 0 (length rows) (ap (map (λ (z : Row). z.ic)) (sym y.rows_are) ∙ counted) in
    let same = same_place x.front y.front q r x.back y.back (omega (arith, first, second, e)) (sym x.rows_are ∙ y.rows_are) in
    (x.state ∙ (ap (state_after i s) same.0 ∙ sym y.state), same.1)

-- ---- the steps that were taken

pub item_of : (r : Recording) (records : List Record) (ts : List Taken) (x : ℕ) (t : Taken) → AreTaken r records ts → slice_get ts x ≡ Some t → IsItemOf r records t.hart t.item
item_of r records [] x t all e = absurd cc
item_of r records (u ∷ us) zero t all e = subst (λ (v : Taken). IsItemOf r records v.hart v.item) (some_is u t (Some u) refl e) all.0
item_of r records (u ∷ us) (suc x) t all e = item_of r records us x t all.1 e

-- a step that did an instruction did a row of the run
pub record IsDoing (r : Recording) (h : ℕ) (item : Item) : Type 0 where
  pub before : HartState
  pub row : Row
  pub is : item ≡ Doing before row
  pub of_run : IsRowOfTurn r.settings r.program r.input r.turns h before row

of_told : (r : Recording) (records : List Record) (h : ℕ) (item : Item) (a word : ℕ) → IsItemOf r records h item → told_by a item ≡ Some word → IsDoing r h item
of_told r records h (Doing before row) a word o t = record { before = before; row = row; is = refl; of_run = o }
of_told r records h item a word o t = absurd (none-some word t)

of_row : (r : Recording) (records : List Record) (h k : ℕ) (item : Item) → IsItemOf r records h item → IsRowAt k item → IsDoing r h item
of_row r records h k (Doing before row) o d = record { before = before; row = row; is = refl; of_run = o }
of_row r records h k item o d = absurd d

touches : (a : ℕ) (q : Point) → Writes a q → Touches a q
touches a q w = (w.0, w.1, w.2, w.3, w.4.0)

module _ (r : Recording) (records : List Record) (order : List ℕ) (w : Walk) (log : IsLogOf r records) (f : IsFollowed r records w) (once : IsDoneOnce (begin r records) w) (keeps : KeepsOrder r records w)
    (writers : RunWritersHaveRows) (turn_rows : TurnRowsAreRows) (counted : RowsAreCounted) (fills : FillsAreFilled) (codes : HasCodeWords r.program) where
  -- a step that did a point which writes the word tells it, or fills bytes of it
  writer_step : (a n y : ℕ) (q : Point) (t : Taken) → aligned a ≡ a → slice_get (points_of r) n ≡ Some q → Writes a q → slice_get w.taken y ≡ Some t → t.hart ≡ q.hart → IsRowAt q.count t.item
      → told_by a t.item ≡ None → forgets a t.item ≡ false → ⊥
  writer_step a n y q t own at writes at_step hart row_at none kept =
      let setting = log.recording.setting in
      let legal = log.recording.legal in
      let limit = setting.limit_high in
      let x = writers r.settings r.program r.input r.turns n q a setting codes legal at writes in
      let d : IsDoing r t.hart t.item = of_row r records t.hart q.count t.item (item_of r records w.taken y t f.taken at_step) row_at in
      let mine : RunHasRow r.settings r.program r.input r.turns q.hart d.before d.row =
      subst (λ h. RunHasRow r.settings r.program r.input r.turns h d.before d.row) hart (turn_rows r.settings r.program r.input r.turns t.hart d.before d.row setting legal d.of_run) in
      let count : d.row.ic ≡ q.count = (subst (IsRowAt q.count) d.is row_at).0 in
      let same = same_row r.program _ _ d.before x.before d.row x.row
      (counted r.settings r.program r.input r.turns q.hart (omega (arith, limit)) (record { legal = legal; over = log.recording.over })) mine x.has (count ∙ x.count) in
      elim x.writes [
        | inl stored ↦ none-some _ (sym none ∙ (ap (told_by a) d.is ∙ (ap (λ (z : Row). word_told z a) same.1 ∙ store_tells x.row.store (at_address a x.row.load None) a _ stored)))
        | inr fill ↦ false≢true (sym kept ∙ (ap (forgets a) d.is ∙ (fills d.before d.row a own).0 (subst (λ (s : HartState). Fills s d.row a) (sym same.0) (subst (λ (z : Row). Fills x.before z a) (sym same.1) fill))))
      ]

  module _ (faultless : RowsThatTellHaveNoFault) (tell : RunRowsTellWords) (a word : ℕ) (l : IsLatest w.taken a word) where
    d : IsDoing r l.step.hart l.step.item
    d = of_told r records l.step.hart l.step.item a word (item_of r records w.taken l.place l.step f.taken l.at) l.tells

    row_tells : word_told d.row a ≡ Some word
    row_tells = sym (ap (told_by a) d.is) ∙ l.tells

    has : HasWord r.settings r.program r.input r.turns l.step.hart d.row a word
    has = tell r.settings r.program r.input r.turns l.step.hart d.before d.row a word log.recording.setting log.recording.legal d.of_run row_tells

    did : Did w.taken l.place has.point.hart has.point.count
    did = record {
      step = l.step;
      at = l.at;
      hart_is = ap (λ (p : Point). p.hart) (sym has.is);
      row = subst (IsRowAt has.point.count) (sym d.is) (ap (λ (p : Point). p.count) (sym has.is), faultless r.settings r.program (run_of r.settings r.program r.input d.of_run.front) l.step.hart d.before d.row a word d.of_run.has row_tells);
    }

    own : aligned a ≡ a
    own = told_aligned d.row a word row_tells

    touched : Touches a has.point
    touched = subst (Touches a) (sym has.is) ((0, record { word = a; writes = is_some d.row.store }, omega arith, refl, refl))

    no_later : (n y : ℕ) (q : Point) → slice_get (points_of r) n ≡ Some q → Writes a q → Did w.taken y q.hart q.count → n ≤ has.place
    no_later n y q at writes dq = elim (cases_lt has.place n) [
      | inr low ↦ low
      | inl later ↦ (let x = keeps a has.place n y (record { earlier = later; first = has.point; second = q; first_at = has.at; second_at = at; related = record { first = touched; second = touches a q writes; written = inr writes } }) (once.to_do l.place has.point.hart has.point.count did) dq in
          let same : x.0 ≡ l.place = once.once x.0 l.place has.point.hart has.point.count x.1 did in
          let up = x.2 in
          let quiet = l.no_later y dq.step (omega (arith, up, same)) dq.at in
          absurd (writer_step a n y q dq.step own at writes dq.at dq.hart_is dq.row quiet.0 quiet.1))
    ]

    pub is_recorded : IsRecordedWord r w a word
    is_recorded = record {
      step = l.place;
      last = record { step = l.step; at = l.at; tells = λ e. none-some word (sym e ∙ l.tells); no_later = λ y t low at. (l.no_later y t low at).0 };
      place = has.place;
      point = has.point;
      at = has.at;
      did = did;
      touches = touched;
      value = sym has.value;
      no_later = no_later;
    }

pub has_memory : StepsPass → SoundnessStays → RowsThatTellHaveNoFault → BeginsSound → EndsSuffice → IntervalRowsAreOfTurns → OfBeginnings KeepsOrder → LoadedProgramsAreImages → PartsHaveCodeWords → RunRowsTellWords → RunWritersHaveRows → TurnRowsAreRows → RowsAreCounted → FillsAreFilled → OfBeginnings HasMemory
has_memory pass stay faultless starts suffice rows_are keeps images parts tell writers turn_rows counted fills r records order w log b a word e =
    let sound : IsSound (begin r records) = starts r records log in
    let image = images r.elf r.settings r.program log.recording.bytes log.recording.setting log.recording.loaded in
    let codes : HasCodeWords r.program = parts r.program image.words in
    let l : IsLatest w.taken a word = latest w.taken a word (sym (words_are r records order w b a) ∙ e) in
    is_recorded r records order w log (follows suffice rows_are r records order w log b) (done_once pass stay r records order w sound b) (keeps r records order w log b) writers turn_rows counted fills codes faultless tell a word l
