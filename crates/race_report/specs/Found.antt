-- The races that were found so far.
use Rattle.std.specs.Prelude.{ℕ, zero, suc, ◌+◌, ◌==◌, nat_lt, true, false, cond, List, [], ◌∷◌, length, min, Vec, Option, Some, None}
use Rattle.std.specs.Global.{Global}
use Rattle.race_report.specs.declared.meeting.Meeting.{Meeting}

-- the race with place n, by its lowest word
abbrev pub meeting : ℕ → ℕ → Meeting
meeting n w = record { second = n; word = w }

-- the lists of the races, as they are kept
abbrev pub lists_in : List (Vec Meeting Global) → List (List Meeting)
lists_in [] = []
lists_in (v ∷ vs) = v.items ∷ lists_in vs

-- how many they have together
abbrev pub total_of : List (List Meeting) → ℕ
total_of [] = 0
total_of (l ∷ ls) = length l + total_of ls

-- how many races are kept
abbrev pub total : List (Vec Meeting Global) → ℕ
total vs = total_of (lists_in vs)

-- the word of the last one, if that is with place n
abbrev pub last_meets : ℕ → List Meeting → Option ℕ
last_meets n [] = None
last_meets n (x ∷ []) = elim (x.second == n) [ true ↦ Some x.word | false ↦ None ]
last_meets n (x ∷ y ∷ ys) = last_meets n (y ∷ ys)

-- one more race with place n, unless it is the last already, which then has the lower word
abbrev pub met : ℕ → ℕ → List Meeting → List Meeting
met n w [] = meeting n w ∷ []
met n w (x ∷ []) = elim (x.second == n) [ true ↦ meeting n (min x.word w) ∷ [] | false ↦ x ∷ meeting n w ∷ [] ]
met n w (x ∷ y ∷ ys) = x ∷ met n w (y ∷ ys)

-- the lists of races, after one more race of the place m with place n
abbrev pub met_at : ℕ → ℕ → ℕ → List (List Meeting) → List (List Meeting)
met_at n w m [] = []
met_at n w zero (l ∷ ls) = met n w l ∷ ls
met_at n w (suc m) (l ∷ ls) = l ∷ met_at n w m ls

-- the lists after one more race with place n of each of several places
abbrev pub met_all : ℕ → ℕ → List ℕ → List (List Meeting) → List (List Meeting)
met_all n w [] ls = ls
met_all n w (m ∷ ms) ls = met_all n w ms (met_at n w m ls)

-- the first of some descending places, up to one that is below a count
abbrev pub uncovered : ℕ → List ℕ → List ℕ
uncovered count [] = []
uncovered count (m ∷ ms) = cond (nat_lt m count) [] (m ∷ uncovered count ms)

-- the lists after the races with place n of a word's accesses by all harts but h, as far as the counts don't cover them
abbrev pub met_harts : ℕ → ℕ → ℕ → (ℕ → ℕ) → (ℕ → List ℕ) → ℕ → List (List Meeting) → List (List Meeting)
met_harts n w h counts places zero ls = ls
met_harts n w h counts places (suc g) ls = cond (g == h) (met_harts n w h counts places g ls) (met_all n w (uncovered (counts g) (places g)) (met_harts n w h counts places g ls))

-- the lists after the races with place n of the accesses of several words
abbrev pub met_words : ℕ → ℕ → (ℕ → ℕ) → (ℕ → ℕ → List ℕ) → ℕ → List ℕ → List (List Meeting) → List (List Meeting)
met_words n h counts places harts [] ls = ls
met_words n h counts places harts (w ∷ ws) ls = met_words n h counts places harts ws (met_harts n w h counts (λ g. places g w) harts ls)
