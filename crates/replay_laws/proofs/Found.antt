-- The Header of an interval is found in the kept records.
use Rattle.replay_laws.proofs.Common.{◌≡◌, ℕ, zero, suc, ◌+◌, Bool, true, false, not, ◌&&◌, List, [], ◌∷◌, ◌++◌, drop, length, Option, Some, None, refl, sym, ◌∙◌, ap, inl, inr, ◌==◌, ◌⊎◌, eq-eqb, append_assoc, Program, RawSettings, HartState, Reply, Warm, Point, after, sources_into, Record, Header, ScOk, ScFailed, End, Interval, Logged, puts, nothing, interval_from, interval_of, Hart, TurnEnd, GoesOn, NewInterval, RunOver, edges_from, edge_records, load_record, sc_record, next_records, stopped_records, run_over_records, header, mark, first_headers, and_from}
use Rattle.rv_meaning.specs.declared.asks.Reply.TheVariants as replies
use Rattle.first_load_bits.specs.declared.warm.Warm.TheVariants as answers
use Rattle.replay_laws.proofs.Turns.{turn_records}

-- whether a record is the Header of interval n of h
abbrev heads : ℕ → ℕ → Record → Bool
heads h n (Header k c ic pc x) = k == h && (c == n)
heads h n r = false

-- none of them is
abbrev pub Passes : ℕ → ℕ → List Record → Type 0
Passes h n [] = Unit {0}
Passes h n (r ∷ rs) = (heads h n r ≡ false) × Passes h n rs

pub interval_skip : (r : Record) (h n : ℕ) (rs : List Record) → heads h n r ≡ false → interval_of h n (r ∷ rs) ≡ interval_of h n rs
interval_skip (Header k c ic pc x) h n rs e =
    ap (λ b. elim b as (λ y. Option Interval) [ true ↦ Some (interval_from (record { pc = pc; x = x; ic = ic }) (puts h rs nothing)) | false ↦ interval_of h n rs ]) e
interval_skip r h n rs e = refl

-- a suffix has the interval that a suffix of more has
abbrev pub IsIn : ℕ → ℕ → List Record → List Record → Type 0
IsIn h n rs more = (d : ℕ) × (interval_of h n rs ≡ interval_of h n (drop d more))

-- or it has the one that begins in state s before more
abbrev pub FoundOr : ℕ → ℕ → HartState → List Record → List Record → Type 0
FoundOr h n s rs more = (interval_of h n rs ≡ Some (interval_from s (puts h more nothing))) ⊎ IsIn h n rs more

pub pass_all : (h n : ℕ) (rs more : List Record) (m : ℕ) → Passes h n rs → IsIn h n (drop m (rs ++ more)) more
pass_all h n [] more m p = (m, refl)
pass_all h n (r ∷ rs) more zero p = let k = pass_all h n rs more zero p.1 in (k.0, interval_skip r h n (rs ++ more) p.0 ∙ k.1)
pass_all h n (r ∷ rs) more (suc m) p = pass_all h n rs more m p.1

-- with the Header after them: it is found, or dropped
pub find_at : (h n : ℕ) (s : HartState) (rs more : List Record) (m : ℕ) → Passes h n rs → FoundOr h n s (drop m (rs ++ (header h n s ∷ more))) more
find_at h n s [] more zero p =
    inl (ap (λ b. elim b as (λ y. Option Interval) [ true ↦ Some (interval_from s (puts h more nothing)) | false ↦ interval_of h n more ])
    (and_from (h == h) (n == n) (eq-eqb h h refl) (eq-eqb n n refl)))
find_at h n s [] more (suc m) p = inr (m, refl)
find_at h n s (r ∷ rs) more zero p = elim (find_at h n s rs more zero p.1) [
  | inl e ↦ inl (interval_skip r h n (rs ++ (header h n s ∷ more)) p.0 ∙ e)
  | inr k ↦ inr (k.0, interval_skip r h n (rs ++ (header h n s ∷ more)) p.0 ∙ k.1)
]
find_at h n s (r ∷ rs) more (suc m) p = find_at h n s rs more m p.1

-- ---- the records of a turn

passes_append : (h n : ℕ) (xs ys : List Record) → Passes h n xs → Passes h n ys → Passes h n (xs ++ ys)
passes_append h n [] ys p q = q
passes_append h n (x ∷ xs) ys p q = (p.0, passes_append h n xs ys p.1 q)

edges_pass : (h n k ic : ℕ) (sources : List (ℕ × ℕ)) → Passes h n (edges_from k ic sources)
edges_pass h n k ic [] = tt
edges_pass h n k ic (a ∷ sources) = (refl, edges_pass h n k ic sources)

edge_passes : (h n : ℕ) (o : Option Point) (points : List Point) → Passes h n (edge_records o points)
edge_passes h n None points = tt
edge_passes h n (Some p) points = edges_pass h n p.hart p.count (sources_into (after points p) (length points))

load_passes : (o : Option Warm) (h n k s x : ℕ) → Passes h n (load_record o k s x)
load_passes (Some answers.Cold) h n k s x = (refl, tt)
load_passes o h n k s x = tt

sc_passes : (r : Reply) (h n k : ℕ) → Passes h n (sc_record r k)
sc_passes replies.ScOk h n k = (refl, tt)
sc_passes replies.ScFailed h n k = (refl, tt)
sc_passes r h n k = tt

pub next_passes : (x : TurnEnd) (h n k number : ℕ) (s : HartState) → (k == h && (number + 1 == n)) ≡ false → Passes h n (next_records x k number s)
next_passes GoesOn h n k number s e = tt
next_passes (NewInterval r y) h n k number s e = (refl, (e, tt))
next_passes x h n k number s e = (refl, tt)

stopped_if : (x : Bool) (h n k ic : ℕ) (rest : List Record) → Passes h n rest
    → Passes h n (elim x as (λ y. List Record) [ true ↦ End k (mark ic 5 0) ∷ rest | false ↦ rest ])
stopped_if true h n k ic rest p = (refl, p)
stopped_if false h n k ic rest p = p

stopped_passes : (count h n own k : ℕ) (harts : ℕ → Hart) → Passes h n (stopped_records own k count harts)
stopped_passes zero h n own k harts = tt
stopped_passes (suc count) h n own k harts =
    stopped_if (not (k == own) && (harts k).live) h n k (harts k).state.ic (stopped_records own (k + 1) count harts) (stopped_passes count h n own (k + 1) harts)

over_passes : (x : TurnEnd) (h n k count : ℕ) (harts : ℕ → Hart) → Passes h n (run_over_records x k count harts)
over_passes (RunOver r y) h n k count harts = stopped_passes count h n k 0 harts
over_passes x h n k count harts = tt

pub turn_passes : (h n k : ℕ) (point : Option Point) (points : List Point) (o : Option Warm) (skipped word : ℕ) (r : Reply) (x : TurnEnd) (number : ℕ) (s : HartState)
    (count : ℕ) (harts : ℕ → Hart)
    → Passes h n (next_records x k number s) → Passes h n (turn_records k point points o skipped word r x number s count harts)
turn_passes h n k point points o skipped word r x number s count harts p =
    passes_append h n (edge_records point points) _ (edge_passes h n point points)
    (passes_append h n (load_record o k skipped word) _ (load_passes o h n k skipped word)
    (passes_append h n (sc_record r k) _ (sc_passes r h n k)
    (passes_append h n (next_records x k number s) _ p (over_passes x h n k count harts))))

push_out : (xs ys : List Record) (z : Record) (zs : List Record) → zs ≡ ys ++ z ∷ [] → xs ++ zs ≡ (xs ++ ys) ++ z ∷ []
push_out xs ys z zs e = ap (λ y. xs ++ y) e ∙ sym (append_assoc xs ys (z ∷ []))

-- the Header at the end of a turn's records is found, or dropped
pub turn_finds : (h n : ℕ) (point : Option Point) (points : List Point) (o : Option Warm) (skipped word : ℕ) (r : Reply) (y x number : ℕ) (s : HartState) (count : ℕ)
    (harts : ℕ → Hart) (more : List Record) (d : ℕ)
    → number + 1 ≡ n
    → FoundOr h n s (drop d (turn_records h point points o skipped word r (NewInterval y x) number s count harts ++ more)) more
turn_finds h n point points o skipped word r y x number s count harts more d e =
    let last : Record = header h n s in
    let ending : Record = End h (mark s.ic y x) in
    let edges : List Record = edge_records point points in
    let loads : List Record = load_record o h skipped word in
    let pre : List Record = edges ++ (loads ++ (sc_record r h ++ (ending ∷ []))) in
    let all : List Record = turn_records h point points o skipped word r (NewInterval y x) number s count harts in
    let one : (next_records (NewInterval y x) h number s ++ []) ≡ (ending ∷ []) ++ last ∷ [] = ap (λ z. ending ∷ header h z s ∷ []) e in
    let whole : all ≡ pre ++ last ∷ [] = push_out edges _ last _ (push_out loads _ last _ (push_out (sc_record r h) _ last _ one)) in
    let moved : (all ++ more) ≡ pre ++ (last ∷ more) = ap (λ z. z ++ more) whole ∙ append_assoc pre (last ∷ []) more in
    let p : Passes h n pre =
    passes_append h n edges _ (edge_passes h n point points)
    (passes_append h n loads _ (load_passes o h n h skipped word) (passes_append h n (sc_record r h) _ (sc_passes r h n h) (refl, tt))) in
    elim (find_at h n s pre more d p) [
      | inl f ↦ inl (ap (λ z. interval_of h n (drop d z)) moved ∙ f)
      | inr f ↦ inr (f.0, ap (λ z. interval_of h n (drop d z)) moved ∙ f.1)
    ]

-- the first Headers say nothing to a replay
pub headers_log : (c : RawSettings) (i : Program) (h k count : ℕ) (l : Logged) → puts h (first_headers c i k count) l ≡ l
headers_log c i h k zero l = refl
headers_log c i h k (suc count) l = headers_log c i h (k + 1) count l
