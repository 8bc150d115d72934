-- Lawful rows of which each hart's are its own are those of turns.
use Rattle.run_laws.proofs.Common.{◌≡◌, ℕ, ◌==◌, Bool, true, false, nat_lt, List, [], ◌∷◌, ◌++◌, refl, sym, ◌∙◌, ap, subst, arith, inl, inr, eqb_tells, Program, Ask, IsSetting, RawSettings, TurnRow, Run, serve, turn, ask_at, is_orderly, start, run_from, legal_from, is_live, IsRested, after_rows, are_orderly, IsLawful, IsOwn, Place, place_of, place_after, row_at, rows_from, rows_by, harts_of, AreOwn, AreTurns, OwnRowsGrow, ListsGoOn, AreJoined, TurnsAreLawful, TurnsAreOwn, and_parts, ltb-true, ne_eqb, eqb_same}
use Rattle.run_laws.proofs.Turns.{Laws, ranged, legal_first, live_then, legal_cons, ordered, turn_left, own_place, other_place, other_is, next_at}

-- ---- one hart's rows of a list that begins with one

own_row : (c : RawSettings) (i : Program) (p : Place) (h : ℕ) (x : TurnRow) (rows : List TurnRow) → (x.hart == h) ≡ true → IsOwn c i h p (rows_by h (x ∷ rows)) → IsOwn c i h p (x ∷ rows_by h rows)
own_row c i p h x rows e own = subst (λ (b : Bool). IsOwn c i h p (elim b as (λ z. List TurnRow) [ true ↦ x ∷ rows_by h rows | false ↦ rows_by h rows ])) e own

other_row : (c : RawSettings) (i : Program) (p : Place) (h : ℕ) (x : TurnRow) (rows : List TurnRow) → (x.hart == h) ≡ false → IsOwn c i h p (rows_by h (x ∷ rows)) → IsOwn c i h p (rows_by h rows)
other_row c i p h x rows e own = subst (λ (b : Bool). IsOwn c i h p (elim b as (λ z. List TurnRow) [ true ↦ x ∷ rows_by h rows | false ↦ rows_by h rows ])) e own

-- ---- the first row

-- the first of lawful and own rows is that of its hart's turn
row_is : (c : RawSettings) (i : Program) (run : Run) (x : TurnRow) → x.ask ≡ ask_at c i (run.harts x.hart) → x.reply ≡ (serve c i run x.hart x.ask).reply → x.guarded ≡ (serve c i run x.hart x.ask).guarded
    → x ≡ row_at c i run x.hart
row_is c i run x asks replies flags =
    let reply = replies ∙ ap (λ (a : Ask). (serve c i run x.hart a).reply) asks in
    let flag = flags ∙ ap (λ (a : Ask). (serve c i run x.hart a).guarded) asks in
    λ j. record { hart = x.hart; ask = asks j; reply = reply j; guarded = flag j }

-- what is left of each hart's own rows is its own after that turn
rest_own : (c : RawSettings) (i : Program) (run : Run) (x : TurnRow) (rows : List TurnRow) → is_orderly c i (run.harts x.hart) (ask_at c i (run.harts x.hart)) ≡ true → x ≡ row_at c i run x.hart → AreOwn c i run (x ∷ rows) → AreOwn c i (turn c i run x.hart) rows
rest_own c i run x rows o is own h within =
    let left = rows_by h rows in
    elim (eqb_tells x.hart h) [
      | inl p ↦
          let place : place_after c (place_of (run.harts x.hart)) x.ask x.guarded x.reply ≡ place_of ((turn c i run x.hart).harts x.hart) =
          ap (λ (r : TurnRow). place_after c (place_of (run.harts x.hart)) r.ask r.guarded r.reply) is ∙ own_place c i run x.hart o in
          let here : place_after c (place_of (run.harts h)) x.ask x.guarded x.reply ≡ place_of ((turn c i run x.hart).harts h) =
          subst (λ (n : ℕ). place_after c (place_of (run.harts n)) x.ask x.guarded x.reply ≡ place_of ((turn c i run x.hart).harts n)) p.1 place in
          subst (λ (q : Place). IsOwn c i h q left) here (own_row c i (place_of (run.harts h)) h x rows p.0 (own h within)).2
      | inr p ↦
          let place : place_of ((turn c i run x.hart).harts h) ≡ place_of (run.harts h) = ap place_of (other_is c i run x.hart h o (ne_eqb h x.hart (λ q. p.1 (sym q)))) ∙ other_place (next_at c i run x.hart) (run.harts h) in
          subst (λ (q : Place). IsOwn c i h q left) (sym place) (other_row c i (place_of (run.harts h)) h x rows p.0 (own h within))
    ]

-- ---- all rows

pub are_turns : Laws → (c : RawSettings) (i : Program) (run : Run) (rows : List TurnRow) → IsSetting c → ((j : ℕ) → IsRested c (run.harts j)) → IsLawful c i run rows → AreOwn c i run rows → AreTurns c i run rows
are_turns laws c i run [] setting fit lawful own = record { legal = refl; rows_are = refl; run_is = refl; orderly = refl }
are_turns laws c i run (x ∷ rows) setting fit lawful own =
    let k = x.hart in
    let there = and_parts (nat_lt k c.harts) (run.harts k).live lawful.0 in
    let mine = own_row c i (place_of (run.harts k)) k x rows (eqb_same k) (own k (ltb-true k c.harts there.0)) in
    let asks : x.ask ≡ ask_at c i (run.harts k) = mine.1 in
    let o = ordered laws.asks c i (run.harts k) (omega (arith, setting.limit_high)) (fit k).fit in
    let is = row_is c i run x asks lawful.1 lawful.2 in
    let next : (serve c i run k x.ask).run ≡ turn c i run k = ap (λ (a : Ask). (serve c i run k a).run) asks in
    let rest = are_turns laws c i (turn c i run k) rows setting (turn_left laws c i run k (ranged c setting) fit there.1).fit (subst (λ (r : Run). IsLawful c i r rows) next lawful.3) (rest_own c i run x rows o is own) in record {
      legal = live_then (is_live c run k) (legal_from c i (turn c i run k) (harts_of rows)) lawful.0 rest.legal;
      rows_are = λ j. is j ∷ rest.rows_are j;
      run_is = ap (λ (r : Run). after_rows c i r rows) next ∙ rest.run_is;
      orderly = live_then (is_orderly c i (run.harts k) x.ask) (are_orderly c i (serve c i run k x.ask).run rows)
          (ap (λ (a : Ask). is_orderly c i (run.harts k) a) asks ∙ o)
          (ap (λ (r : Run). are_orderly c i r rows) next ∙ rest.orderly);
    }

-- ---- a hart that makes its own rows

pub own_grow : OwnRowsGrow
own_grow c i h p [] r own same asks = ((same, asks, tt), refl)
own_grow c i h p (x ∷ rows) r own same asks =
    let more = own_grow c i h (place_after c p x.ask x.guarded x.reply) rows r own.2 same asks in
    ((own.0, own.1, more.0), more.1)

-- ---- lists that continue

pub run_append : (c : RawSettings) (i : Program) (run : Run) (b more : List ℕ) → run_from c i run (b ++ more) ≡ run_from c i (run_from c i run b) more
run_append c i run [] more = refl
run_append c i run (k ∷ ks) more = run_append c i (turn c i run k) ks more

rows_append : (c : RawSettings) (i : Program) (run : Run) (b more : List ℕ) → rows_from c i run (b ++ more) ≡ rows_from c i run b ++ rows_from c i (run_from c i run b) more
rows_append c i run [] more = refl
rows_append c i run (k ∷ ks) more = ap (λ (rs : List TurnRow). row_at c i run k ∷ rs) (rows_append c i (turn c i run k) ks more)

legal_append : (c : RawSettings) (i : Program) (run : Run) (b more : List ℕ) → legal_from c i run b ≡ true → legal_from c i (run_from c i run b) more ≡ true → legal_from c i run (b ++ more) ≡ true
legal_append c i run [] more legal rest = rest
legal_append c i run (k ∷ ks) more legal rest =
    let first = legal_first c i run k ks legal in
    legal_cons c i run k (ks ++ more) first.0 (legal_append c i (turn c i run k) ks more first.1 rest)

-- a beginning of a legal list is legal
pub legal_front : (c : RawSettings) (i : Program) (run : Run) (b more : List ℕ) → legal_from c i run (b ++ more) ≡ true → legal_from c i run b ≡ true
legal_front c i run [] more legal = refl
legal_front c i run (k ∷ ks) more legal =
    let first = legal_first c i run k (ks ++ more) legal in
    legal_cons c i run k ks first.0 (legal_front c i (turn c i run k) ks more first.1)

pub lists_go_on : ListsGoOn
lists_go_on = record { run = run_append; rows = rows_append; legal = legal_append }

-- ---- rows in threads, and turns after them

pub joined : ListsGoOn → TurnsAreLawful → TurnsAreOwn → (c : RawSettings) (i : Program) (input : List ℕ) (rows : List TurnRow) (more : List ℕ) → IsSetting c → AreTurns c i (start c i input) rows
    → legal_from c i (after_rows c i (start c i input) rows) more ≡ true → AreJoined c i input rows more
joined lists lawful own c i input rows more setting are legal =
    let first = start c i input in
    let b = harts_of rows in
    let whole : legal_from c i first (b ++ more) ≡ true = lists.legal c i first b more are.legal (subst (λ (r : Run). legal_from c i r more ≡ true) are.run_is legal) in
    let all : rows ++ rows_from c i (after_rows c i first rows) more ≡ rows_from c i first (b ++ more) =
    ap (λ (r : Run). rows ++ rows_from c i r more) are.run_is ∙ ap (λ (rs : List TurnRow). rs ++ rows_from c i (run_from c i first b) more) are.rows_are ∙ sym (lists.rows c i first b more) in record {
      legal = whole;
      rows_are = all;
      run_is = ap (λ (r : Run). run_from c i r more) are.run_is ∙ sym (lists.run c i first b more);
      lawful = subst (IsLawful c i first) (sym all) (lawful c i input (b ++ more) whole).0;
      own = λ h within. subst (λ (rs : List TurnRow). IsOwn c i h (place_of (first.harts h)) (rows_by h rs)) (sym all) (own c i input (b ++ more) h setting whole);
    }
