-- The bytes of a generated program, piece by piece.
use Rattle.std.proofs.Common.{◌≡◌, ℕ, zero, suc, length, length-append, ◌*◌, ◌+◌, ◌-◌, ◌/◌, ◌<◌, ◌≤◌, ◌^◌, List, [], ◌∷◌, ◌++◌, map, refl, ap, sym, ◌∙◌, append_assoc, arith}
use Rattle.std.proofs.lemmas.List.{append-nil, length-map}
use Rattle.std.proofs.lemmas.List.Concat.{flat_map-cons}
use Rattle.std.proofs.lemmas.Grind.{flat_map-append}
use Rattle.le_numbers.specs.Numbers.{number_bytes}
use Rattle.rv_decode.specs.Table.{Instruction}
use Rattle.rv_decode.specs.Encode.{encoded}
use Rattle.guest_gen.specs.declared.kind.Kind.{Kind}
use Rattle.guest_gen.specs.Code.{next, draws, slot, code, opening, closing}
use Rattle.guest_gen.specs.File.{headers, file_header, identification, code_bytes, guest_bytes}

abbrev pub word_of : Instruction → List ℕ
word_of i = number_bytes 4 (encoded i)

one_more : (i : Instruction) (is : List Instruction) → code_bytes (i ∷ is) ≡ word_of i ++ code_bytes is
unfolding code_bytes
one_more i is = flat_map-cons word_of i is

join : (is js : List Instruction) → code_bytes (is ++ js) ≡ code_bytes is ++ code_bytes js
unfolding code_bytes
join is js = flat_map-append word_of is js

none : code_bytes [] ≡ []
unfolding code_bytes
none = refl

single : (i : Instruction) → code_bytes (i ∷ []) ≡ word_of i
single i = one_more i [] ∙ ap (λ t. word_of i ++ t) none ∙ append-nil (word_of i)

-- three words after what there is
pub three : (o a b c : List ℕ) (x y z i j k : Instruction) → x ≡ i → y ≡ j → z ≡ k → a ≡ o ++ word_of x → b ≡ a ++ word_of y → c ≡ b ++ word_of z → c ≡ o ++ code_bytes (i ∷ j ∷ k ∷ [])
three o a b c x y z i j k d e f p q r =
    r ∙ ap (λ u. b ++ word_of u) f ∙ ap (λ t. t ++ word_of k) (q ∙ ap (λ u. a ++ word_of u) e ∙ ap (λ t. t ++ word_of j) (p ∙ ap (λ u. o ++ word_of u) d))
    ∙ append_assoc (o ++ word_of i) (word_of j) (word_of k)
    ∙ append_assoc o (word_of i) (word_of j ++ word_of k)
    ∙ ap (λ t. o ++ t) (sym (one_more i (j ∷ k ∷ []) ∙ ap (λ t. word_of i ++ t) (one_more j (k ∷ []) ∙ ap (λ t. word_of j ++ t) (single k))))

first : (m s : ℕ) → draws (suc m) s ≡ next s / 2 ^ 33 ∷ draws m (next s)
unfolding draws
first m s = refl

next_draw : (n s : ℕ) → n < 256 → draws (256 - n) s ≡ next s / 2 ^ 33 ∷ draws (256 - (n + 1)) (next s)
next_draw n s h = ap (λ m. draws m s) count ∙ first (256 - (n + 1)) s
  where
    count : 256 - n ≡ suc (256 - (n + 1))
    count = omega (arith, h)

-- a word is written, and one draw fewer is left
pub one_drawn : (n s : ℕ) (i : Instruction) (out new whole : List ℕ) → n < 256 → i ≡ slot (next s / 2 ^ 33) → new ≡ out ++ word_of i
    → out ++ code_bytes (map slot (draws (256 - n) s)) ≡ whole → new ++ code_bytes (map slot (draws (256 - (n + 1)) (next s))) ≡ whole
one_drawn n s i out new whole h e w all =
    let rest = map slot (draws (256 - (n + 1)) (next s)) in
    ap (λ t. t ++ code_bytes rest) (w ∙ ap (λ i. out ++ word_of i) e) ∙ append_assoc out (word_of (slot (next s / 2 ^ 33))) (code_bytes rest)
    ∙ ap (λ t. out ++ t) (sym (one_more (slot (next s / 2 ^ 33)) rest))
    ∙ ap (λ (ds : List ℕ). out ++ code_bytes (map slot ds)) (sym (next_draw n s h)) ∙ all

no_draw : (s : ℕ) → code_bytes (map slot (draws 0 s)) ≡ []
unfolding code_bytes draws
no_draw s = refl

none_left : (n s : ℕ) → 256 - n ≡ 0 → code_bytes (map slot (draws (256 - n) s)) ≡ []
none_left n s e = ap (λ m. code_bytes (map slot (draws m s))) e ∙ no_draw s

-- the four pieces
pub whole_file : (seed : ℕ) (kind : Kind) (a b c d : List ℕ) (i : Instruction) → a ≡ headers → b ≡ a ++ code_bytes opening → c ≡ b ++ code_bytes (map slot (draws 256 seed))
    → i ≡ closing kind → d ≡ c ++ word_of i → d ≡ guest_bytes seed kind
unfolding guest_bytes code
whole_file seed kind a b c d i p q r e w =
    let slots = map slot (draws 256 seed) in
    w ∙ ap (λ i. c ++ word_of i) e
    ∙ ap (λ t. t ++ word_of (closing kind)) (r ∙ ap (λ t. t ++ code_bytes slots) (q ∙ ap (λ t. t ++ code_bytes opening) p))
    ∙ append_assoc (headers ++ code_bytes opening) (code_bytes slots) (word_of (closing kind))
    ∙ append_assoc headers (code_bytes opening) (code_bytes slots ++ word_of (closing kind))
    ∙ ap (λ t. headers ++ t) (sym (join opening (slots ++ (closing kind ∷ [])) ∙ ap (λ t. code_bytes opening ++ t) (join slots (closing kind ∷ []) ∙ ap (λ t. code_bytes slots ++ t) (single (closing kind)))))

-- nothing is left to draw, so what is written is the whole
pub all_drawn : (n s : ℕ) (out whole : List ℕ) → 256 ≤ n → out ++ code_bytes (map slot (draws (256 - n) s)) ≡ whole → out ≡ whole
all_drawn n s out whole h e = sym (append-nil out) ∙ ap (λ t. out ++ t) (sym (none_left n s (omega (arith, h)))) ∙ e

four : (i : Instruction) → length (word_of i) ≡ 4
unfolding number_bytes
four i = refl

count_bytes : (is : List Instruction) → length (code_bytes is) ≡ 4 * length is
count_bytes [] = ap length none
count_bytes (i ∷ is) = ap length (one_more i is) ∙ omega (arith, length-append (word_of i) (code_bytes is), four i, count_bytes is)

count_draws : (n s : ℕ) → length (draws n s) ≡ n
unfolding draws
count_draws zero s = refl
count_draws (suc n) s = ap suc (count_draws n (next s))

count_opening : length opening ≡ 3
unfolding opening
count_opening = refl

count_headers : length headers ≡ 116
unfolding headers file_header identification number_bytes
count_headers = refl

count_code : (seed : ℕ) (kind : Kind) → length (code seed kind) ≡ 260
unfolding code
count_code seed kind =
    let slots = map slot (draws 256 seed) in
    omega (arith, length-append opening (slots ++ (closing kind ∷ [])), length-append slots (closing kind ∷ []), length-map (draws 256 seed) slot, count_draws 256 seed, count_opening)

pub count_file : (seed : ℕ) (kind : Kind) → length (guest_bytes seed kind) ≡ 1156
unfolding guest_bytes
count_file seed kind = omega (arith, length-append headers (code_bytes (code seed kind)), count_bytes (code seed kind), count_code seed kind, count_headers)
