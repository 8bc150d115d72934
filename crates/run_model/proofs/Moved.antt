-- Bytes that are moved one after another.
use Rattle.run_model.proofs.Common.{arith, append_assoc, add-one, ◌≡◌, ◌∙◌, sym, ap, subst, ℕ, zero, suc, ◌+◌, ◌-◌, ◌*◌, ◌/◌, ◌%◌, ◌<◌, true, List, [], ◌∷◌, ◌++◌, length, get_or, take, drop, take_more, get_or-drop, length-drop, length-take-le, aligned, bytes_at, HoldsMap, has_page, HasPages, put_byte, filled, bytes_in, word_count}
use Rattle.bus_memory.specs.Contents.{Contents}

-- one byte more is filled
filled_more : (a : ℕ) (xs : List ℕ) (v : ℕ) (m : ℕ → ℕ) → filled a (xs ++ v ∷ []) m ≡ put_byte (a + length xs) v (filled a xs m)
filled_more a [] v m = let place : a ≡ a + 0 = omega arith in ap (λ (n : ℕ). put_byte n v m) place
filled_more a (x ∷ xs) v m =
    let place : a + 1 + length xs ≡ a + length (x ∷ xs) = omega arith in
    filled_more (a + 1) xs v (put_byte a x m) ∙ ap (λ (n : ℕ). put_byte n v (filled (a + 1) xs (put_byte a x m))) place

-- the next byte of a list's part
next_taken : (i start : ℕ) (bytes : List ℕ) → start + i < length bytes → take (i + 1) (drop start bytes) ≡ take i (drop start bytes) ++ get_or bytes (start + i) 0 ∷ []
next_taken i start bytes below =
    let within : i < length (drop start bytes) = omega (arith, length-drop start bytes) in
    take_more (drop start bytes) i 0 within ∙ ap (λ (w : ℕ). take i (drop start bytes) ++ w ∷ []) (get_or-drop start bytes i 0)

pub filled_step : (a i start : ℕ) (bytes : List ℕ) (m : ℕ → ℕ) (words : List ℕ) → start + i < length bytes
    → HoldsMap words (put_byte (a + i) (get_or bytes (start + i) 0) (filled a (take i (drop start bytes)) m)) → HoldsMap words (filled a (take (i + 1) (drop start bytes)) m)
filled_step a i start bytes m words below held =
    let v = get_or bytes (start + i) 0 in
    let taken : length (take i (drop start bytes)) ≡ i = length-take-le i (drop start bytes) (omega (arith, length-drop start bytes)) in
    let same : filled a (take (i + 1) (drop start bytes)) m ≡ put_byte (a + i) v (filled a (take i (drop start bytes)) m) =
    ap (λ (xs : List ℕ). filled a xs m) (next_taken i start bytes below) ∙ filled_more a (take i (drop start bytes)) v m
    ∙ ap (λ (n : ℕ). put_byte (a + n) v (filled a (take i (drop start bytes)) m)) taken in
    subst (λ (f : ℕ → ℕ). HoldsMap words f) (sym same) held

-- one byte more is read
bytes_more : (m : ℕ → ℕ) (a n : ℕ) → bytes_in m a (suc n) ≡ bytes_in m a n ++ bytes_at ((a + n) % 4) 1 (m (aligned (a + n))) ∷ []
bytes_more m a zero = let place : a ≡ a + 0 = omega arith in ap (λ (k : ℕ). bytes_at (k % 4) 1 (m (aligned k)) ∷ []) place
bytes_more m a (suc n) =
    let place : a + 1 + n ≡ a + suc n = omega arith in
    ap (λ (bs : List ℕ). bytes_at (a % 4) 1 (m (aligned a)) ∷ bs)
    (bytes_more m (a + 1) n ∙ ap (λ (k : ℕ). bytes_in m (a + 1) n ++ bytes_at (k % 4) 1 (m (aligned k)) ∷ []) place)

pub sent_more : (old now new : List ℕ) (m : ℕ → ℕ) (a n b : ℕ) → now ≡ old ++ bytes_in m a n → b ≡ bytes_at ((a + n) % 4) 1 (m (aligned (a + n))) → new ≡ now ++ b ∷ [] → new ≡ old ++ bytes_in m a (n + 1)
sent_more old now new m a n b was is more =
    more ∙ ap (λ (xs : List ℕ). xs ++ b ∷ []) was ∙ append_assoc old (bytes_in m a n) (b ∷ [])
    ∙ ap (λ (v : ℕ). old ++ (bytes_in m a n ++ v ∷ [])) is ∙ ap (λ (xs : List ℕ). old ++ xs) (sym (bytes_more m a n))
    ∙ ap (λ (k : ℕ). old ++ bytes_in m a k) (sym (add-one n))

-- the page of a byte that is one of those that have pages
pub byte_page : (c : Contents) (a n i : ℕ) → i < n → HasPages c (aligned a) (word_count a n) → has_page c (aligned (a + i)) ≡ true
byte_page c a n i below pages =
    let place : aligned a + 4 * ((a + i) / 4 - a / 4) ≡ aligned (a + i) = omega arith in
    let among : (a + i) / 4 - a / 4 < word_count a n = omega arith in
    subst (λ (b : ℕ). has_page c b ≡ true) place (pages ((a + i) / 4 - a / 4) among)
