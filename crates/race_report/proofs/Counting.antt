-- How many races there are.
use Rattle.race_report.proofs.Common.{◌≡◌, ℕ, zero, suc, ◌+◌, ◌<◌, ◌≤◌, refl, sym, ap, ◌∙◌, subst, arith, List, [], ◌∷◌, ◌++◌, length, slice_get, Option, Some, None, append-nil, length-append, Row, Meeting, Touch, Gathered, Accessing, accessing, race_at, meeting_at, meetings_of, count_below, race_count, total_of, total, lists_of, IsGathered, IsState, point_by}
use Rattle.race_report.proofs.Prefixes.{meetings_more, length_more}

abbrev list_or : Option (List Meeting) → List Meeting
list_or None = []
list_or (Some l) = l

-- how many the first k lists have
abbrev first_total : List (List Meeting) → ℕ → ℕ
first_total ls zero = 0
first_total ls (suc k) = first_total ls k + length (list_or (slice_get ls k))

first_more : (l : List Meeting) (ls : List (List Meeting)) (k : ℕ) → first_total (l ∷ ls) (suc k) ≡ length l + first_total ls k
first_more l ls zero = omega arith
first_more l ls (suc k) = let rest = first_more l ls k in omega (arith, rest)

first_all : (ls : List (List Meeting)) → first_total ls (length ls) ≡ total_of ls
first_all [] = refl
first_all (l ∷ ls) = let more = first_more l ls (length ls) in let rest = first_all ls in omega (arith, more, rest)

count_is : (run : List Accessing) (ls : List (List Meeting)) → ((m : ℕ) → m < length run → slice_get ls m ≡ Some (meetings_of run m)) → (k : ℕ) → k ≤ length run → first_total ls k ≡ count_below run k
count_is run ls at zero low = refl
count_is run ls at (suc k) low =
    let rest = count_is run ls at k (omega (arith, low)) in
    let here : length (list_or (slice_get ls k)) ≡ length (meetings_of run k) = ap (λ (o : Option (List Meeting)). length (list_or o)) (at k (omega (arith, low))) in
    omega (arith, rest, here)

pub total_is : (harts : ℕ) (run : List Accessing) (g : Gathered) → IsGathered harts run g → total g.found.lists.items ≡ race_count run
total_is harts run g i = sym (first_all (lists_of g.found)) ∙ ap (first_total (lists_of g.found)) i.size ∙ count_is run (lists_of g.found) i.lists (length run) (omega arith)

count_up : (run : List Accessing) (p : Accessing) (k : ℕ) → count_below run k ≤ count_below (run ++ p ∷ []) k
count_up run p zero = omega arith
count_up run p (suc k) =
    let rest = count_up run p k in
    let more : length (meetings_of (run ++ p ∷ []) k) ≡ length (meetings_of run k) + length (meeting_at (length run) (race_at (run ++ p ∷ []) k (length run))) = ap length (meetings_more run p k) ∙ length-append (meetings_of run k) (meeting_at (length run) (race_at (run ++ p ∷ []) k (length run))) in
    omega (arith, rest, more)

count_more : (run : List Accessing) (p : Accessing) → race_count run ≤ race_count (run ++ p ∷ [])
count_more run p =
    let up = count_up run p (length run) in
    let one : race_count (run ++ p ∷ []) ≡ count_below (run ++ p ∷ []) (length run) + length (meetings_of (run ++ p ∷ []) (length run)) = ap (count_below (run ++ p ∷ [])) (length_more run p) in
    omega (arith, up, one)

-- ---- the state after a row

pub state_over : (harts most h : ℕ) (row : Row) (o : Option Touch) (run : List Accessing) (g : Gathered) → most < total g.found.lists.items → IsState harts most run g → IsState harts most (run ++ accessing h row o) g
state_over harts most h row None run g over s = subst (λ (r : List Accessing). IsState harts most r g) (sym (append-nil run)) s
state_over harts most h row (Some t) run g over s = record {
  gathered = λ low. absurd (omega (arith, low, over));
  over = λ high. let old = s.over high in let more = count_more run (point_by h row t) in omega (arith, old, more);
}

pub state_of : (harts most : ℕ) (run : List Accessing) (g : Gathered) → IsGathered harts run g → IsState harts most run g
state_of harts most run g i = record { gathered = λ low. i; over = λ high. let same = total_is harts run g i in omega (arith, same, high) }

pub state_more : (harts most h : ℕ) (row : Row) (t : Touch) (o : Option Touch) (run : List Accessing) (g : Gathered) → Some t ≡ o → IsGathered harts (run ++ point_by h row t ∷ []) g → IsState harts most (run ++ accessing h row o) g
state_more harts most h row t o run g e i = subst (λ (u : Option Touch). IsState harts most (run ++ accessing h row u) g) e (state_of harts most (run ++ point_by h row t ∷ []) g i)
