-- What a turn's records say to a hart's replay, and what the turn leaves of the harts.
use Rattle.replay_laws.proofs.Common.{◌≡◌, ℕ, zero, suc, ◌+◌, ◌<◌, ◌≤◌, Bool, true, false, not, ◌&&◌, List, [], ◌∷◌, ◌++◌, length, Option, Some, None, refl, sym, ◌∙◌, ap, arith, subst, inl, inr, ◌==◌, ◌≢◌, eq-eqb, eqb_tells, HartState, Reply, Warm, Point, after, sources_into, Record, End, Logged, put, puts, Hart, TurnEnd, GoesOn, NewInterval, HartOver, RunOver, edges_from, edge_records, load_record, sc_record, next_records, stopped_records, run_over_records, harts_after, other_after, mark}
use Rattle.rv_meaning.specs.declared.asks.Reply.TheVariants as replies
use Rattle.first_load_bits.specs.declared.warm.Warm.TheVariants as answers
use Rattle.replay_laws.proofs.Step.{with_load, with_sc}

pub puts_append : (h : ℕ) (rs bs : List Record) (l : Logged) → puts h (rs ++ bs) l ≡ puts h rs (puts h bs l)
puts_append h [] bs l = refl
puts_append h (r ∷ rs) bs l = ap (put h r) (puts_append h rs bs l)

-- an interval that ends there
abbrev pub ended_at : ℕ → ℕ → ℕ → Logged
ended_at ic reason value = record { loads = []; conditionals = []; mark = mark ic reason value }

-- the records of hart k's turn, in their order
abbrev pub turn_records : ℕ → Option Point → List Point → Option Warm → ℕ → ℕ → Reply → TurnEnd → ℕ → HartState → ℕ → (ℕ → Hart) → List Record
turn_records k point points warmth skipped word reply next number s count harts =
    edge_records point points ++ (load_record warmth k skipped word ++ (sc_record reply k ++ (next_records next k number s ++ run_over_records next k count harts)))

edges_pass : (h k ic : ℕ) (sources : List (ℕ × ℕ)) (l : Logged) → puts h (edges_from k ic sources) l ≡ l
edges_pass h k ic [] l = refl
edges_pass h k ic (a ∷ sources) l = edges_pass h k ic sources l

edge_pass : (h : ℕ) (o : Option Point) (points : List Point) (l : Logged) → puts h (edge_records o points) l ≡ l
edge_pass h None points l = refl
edge_pass h (Some p) points l = edges_pass h p.hart p.count (sources_into (after points p) (length points)) l

end_own : (h ic r x : ℕ) (l : Logged) → put h (End h (mark ic r x)) l ≡ ended_at ic r x
end_own h ic r x l = ap (λ b. elim b as (λ y. Logged) [ true ↦ ended_at ic r x | false ↦ l ]) (eq-eqb h h refl)

end_pass : (h k ic r x : ℕ) (l : Logged) → (k == h) ≡ false → put h (End k (mark ic r x)) l ≡ l
end_pass h k ic r x l e = ap (λ b. elim b as (λ y. Logged) [ true ↦ ended_at ic r x | false ↦ l ]) e

load_pass : (o : Option Warm) (h k s x : ℕ) (l : Logged) → (k == h) ≡ false → puts h (load_record o k s x) l ≡ l
load_pass (Some answers.Cold) h k s x l e = ap (λ b. elim b as (λ y. Logged) [ true ↦ with_load s x l | false ↦ l ]) e
load_pass o h k s x l e = refl

sc_pass : (h k : ℕ) (r : Reply) (l : Logged) → (k == h) ≡ false → puts h (sc_record r k) l ≡ l
sc_pass h k replies.ScOk l e = ap (λ b. elim b as (λ y. Logged) [ true ↦ with_sc true l | false ↦ l ]) e
sc_pass h k replies.ScFailed l e = ap (λ b. elim b as (λ y. Logged) [ true ↦ with_sc false l | false ↦ l ]) e
sc_pass h k r l e = refl

next_pass : (n : TurnEnd) (h k number : ℕ) (s : HartState) (l : Logged) → (k == h) ≡ false → puts h (next_records n k number s) l ≡ l
next_pass GoesOn h k number s l e = refl
next_pass (NewInterval r x) h k number s l e = end_pass h k s.ic r x l e
next_pass (HartOver r x) h k number s l e = end_pass h k s.ic r x l e
next_pass (RunOver r x) h k number s l e = end_pass h k s.ic r x l e

-- ---- a hart's own turn

-- what its records say after those of its ask
abbrev pub end_log : TurnEnd → HartState → Logged → Logged
end_log GoesOn s l = l
end_log (NewInterval r x) s l = ended_at s.ic r x
end_log (HartOver r x) s l = ended_at s.ic r x
end_log (RunOver r x) s l = ended_at s.ic r x

next_own : (n : TurnEnd) (h number : ℕ) (s : HartState) (l : Logged) (count : ℕ) (harts : ℕ → Hart)
    → puts h (next_records n h number s ++ run_over_records n h count harts) l ≡ end_log n s l
next_own GoesOn h number s l count harts = refl
next_own (NewInterval r x) h number s l count harts = end_own h s.ic r x l
next_own (HartOver r x) h number s l count harts = end_own h s.ic r x l
next_own (RunOver r x) h number s l count harts = end_own h s.ic r x (puts h (stopped_records h 0 count harts) l)

pub own_log : (h : ℕ) (point : Option Point) (points : List Point) (o : Option Warm) (skipped word : ℕ) (r : Reply) (n : TurnEnd) (number : ℕ) (s : HartState) (count : ℕ)
    (harts : ℕ → Hart) (l : Logged)
    → puts h (turn_records h point points o skipped word r n number s count harts) l ≡ puts h (load_record o h skipped word) (puts h (sc_record r h) (end_log n s l))
own_log h point points o skipped word r n number s count harts l =
    let last : List Record = next_records n h number s ++ run_over_records n h count harts in
    let loads : List Record = load_record o h skipped word in
    puts_append h (edge_records point points) (loads ++ (sc_record r h ++ last)) l
    ∙ (edge_pass h point points (puts h (loads ++ (sc_record r h ++ last)) l)
    ∙ (puts_append h loads (sc_record r h ++ last) l
    ∙ ap (puts h loads) (puts_append h (sc_record r h) last l ∙ ap (puts h (sc_record r h)) (next_own n h number s l count harts))))

-- ---- another hart's turn

stopped_if : (x : Bool) (h k ic : ℕ) (rest : List Record) (l : Logged) → (k == h) ≡ false
    → puts h (elim x as (λ y. List Record) [ true ↦ End k (mark ic 5 0) ∷ rest | false ↦ rest ]) l ≡ puts h rest l
stopped_if true h k ic rest l e = end_pass h k ic 5 0 (puts h rest l) e
stopped_if false h k ic rest l e = refl

-- the records at hart j of those that the run's end stops, before the rest
abbrev stopped_at : ℕ → (ℕ → Hart) → List Record → Bool → List Record
stopped_at j harts rest x = elim x [ true ↦ End j (mark (harts j).state.ic 5 0) ∷ rest | false ↦ rest ]

stopped_log : (n h own k : ℕ) (harts : ℕ → Hart) (l : Logged) → (h == own) ≡ false → (harts h).live ≡ true → k ≤ h → h < k + n
    → puts h (stopped_records own k n harts) l ≡ ended_at (harts h).state.ic 5 0
stopped_log zero h own k harts l e a f g = absurd (omega arith)
stopped_log (suc n) h own k harts l e a f g = elim (eqb_tells k h) [
  | inl p ↦ subst (λ (j : ℕ). puts h (stopped_at j harts (stopped_records own (j + 1) n harts) (not (j == own) && (harts j).live)) l ≡ ended_at (harts h).state.ic 5 0) (sym p.1)
      (ap (λ (x : Bool). puts h (stopped_at h harts (stopped_records own (h + 1) n harts) (not x && (harts h).live)) l) e
      ∙ (ap (λ (x : Bool). puts h (stopped_at h harts (stopped_records own (h + 1) n harts) x) l) a
      ∙ end_own h (harts h).state.ic 5 0 (puts h (stopped_records own (h + 1) n harts) l)))
  | inr p ↦ stopped_if (not (k == own) && (harts k).live) h k (harts k).state.ic (stopped_records own (k + 1) n harts) l p.0 ∙ stopped_log n h own (k + 1) harts l e a
      (let q : k ≢ h = p.1 in omega (arith, q)) (omega arith)
]

-- what another hart's turn says to h
abbrev pub other_log : TurnEnd → Hart → Logged → Logged
other_log (RunOver r x) t l = ended_at t.state.ic 5 0
other_log n t l = l

over_pass : (n : TurnEnd) (h k count : ℕ) (harts : ℕ → Hart) (l : Logged) → (h == k) ≡ false → (harts h).live ≡ true → h < count
    → puts h (run_over_records n k count harts) l ≡ other_log n (harts h) l
over_pass (RunOver r x) h k count harts l e a g = stopped_log count h k 0 harts l e a (omega arith) (omega arith)
over_pass n h k count harts l e a g = refl

pub foreign_log : (h k : ℕ) (point : Option Point) (points : List Point) (o : Option Warm) (skipped word : ℕ) (r : Reply) (n : TurnEnd) (number : ℕ) (s : HartState)
    (count : ℕ) (harts : ℕ → Hart) (l : Logged)
    → (k == h) ≡ false → (h == k) ≡ false → (harts h).live ≡ true → h < count
    → puts h (turn_records k point points o skipped word r n number s count harts) l ≡ other_log n (harts h) l
foreign_log h k point points o skipped word r n number s count harts l e f live g =
    let over : List Record = run_over_records n k count harts in
    let last : List Record = next_records n k number s ++ over in
    let loads : List Record = load_record o k skipped word in
    puts_append h (edge_records point points) (loads ++ (sc_record r k ++ last)) l
    ∙ (edge_pass h point points (puts h (loads ++ (sc_record r k ++ last)) l)
    ∙ (puts_append h loads (sc_record r k ++ last) l
    ∙ (load_pass o h k skipped word (puts h (sc_record r k ++ last) l) e
    ∙ (puts_append h (sc_record r k) last l
    ∙ (sc_pass h k r (puts h last l) e
    ∙ (puts_append h (next_records n k number s) over l
    ∙ (next_pass n h k number s (puts h over l) e
    ∙ over_pass n h k count harts l f live g)))))))

-- ---- the harts after it

pub own_hart : (n : TurnEnd) (h : ℕ) (t : Hart) (harts : ℕ → Hart) → harts_after n h t harts h ≡ t
own_hart n h t harts = ap (λ b. elim b as (λ y. Hart) [ true ↦ t | false ↦ other_after n (harts h) ]) (eq-eqb h h refl)

pub foreign_hart : (n : TurnEnd) (h k : ℕ) (t : Hart) (harts : ℕ → Hart) → (h == k) ≡ false → harts_after n k t harts h ≡ other_after n (harts h)
foreign_hart n h k t harts e = ap (λ b. elim b as (λ y. Hart) [ true ↦ t | false ↦ other_after n (harts h) ]) e
