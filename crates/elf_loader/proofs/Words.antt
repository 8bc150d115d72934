-- Words out of a file's bytes.
use Rattle.elf_loader.proofs.Common.{◌≡◌, ℕ, ◌+◌, ◌-◌, ◌*◌, ◌/◌, ◌%◌, ◌<◌, ◌≤◌, zero, suc, List, [], ◌∷◌, drop, map, get_or, slice_index, refl, ap, sym, ◌∙◌, ◌⊎◌, inl, inr, arith, cases_lt, get_or-drop, get_or_past, length-map-range_with_len, get_or-map-range_with_len, range_with_len, number_at, ProgramHeader, byte_in, word_of, words_touched, first_word, file_words, ◌++◌, ap₂, map-range_with_len_more}

-- a byte that the file has
pub byte_in-inside : (bytes : List ℕ) (h : ProgramHeader) (addr at : ℕ) → h.vaddr ≤ addr → addr < h.vaddr + h.filesz → h.offset + (addr - h.vaddr) ≡ at → byte_in bytes h addr ≡ slice_index bytes at
byte_in-inside bytes h addr at low high e = grind arith

-- a number of four bytes by its bytes
pub number_at-four : (bytes : List ℕ) (at a b c d : ℕ) → slice_index bytes at ≡ a → slice_index bytes (at + 1) ≡ b → slice_index bytes (at + 2) ≡ c → slice_index bytes (at + 3) ≡ d
    → number_at 4 at bytes ≡ number_at 4 0 (a ∷ b ∷ c ∷ d ∷ [])
unfolding number_at
number_at-four bytes at a b c d ea eb ec ed =
    let fa : slice_index (drop at bytes) 0 ≡ a = get_or-drop at bytes 0 0 ∙ ap (slice_index bytes) (omega arith) ∙ ea in
    let fb : slice_index (drop at bytes) 1 ≡ b = get_or-drop at bytes 1 0 ∙ eb in
    let fc : slice_index (drop at bytes) 2 ≡ c = get_or-drop at bytes 2 0 ∙ ec in
    let fd : slice_index (drop at bytes) 3 ≡ d = get_or-drop at bytes 3 0 ∙ ed in
    cc

-- a word whose four bytes the file has
pub word_of-inside : (bytes : List ℕ) (h : ProgramHeader) (addr at : ℕ) → h.vaddr ≤ addr → addr + 4 ≤ h.vaddr + h.filesz → h.offset + (addr - h.vaddr) ≡ at → number_at 4 at bytes ≡ word_of bytes h addr
word_of-inside bytes h addr at low high e =
    number_at-four bytes at _ _ _ _
    (sym (byte_in-inside bytes h addr at low (omega arith) e))
    (sym (byte_in-inside bytes h (addr + 1) (at + 1) (omega arith) (omega arith) (omega arith)))
    (sym (byte_in-inside bytes h (addr + 2) (at + 2) (omega arith) (omega arith) (omega arith)))
    (sym (byte_in-inside bytes h (addr + 3) (at + 3) (omega arith) (omega arith) (omega arith)))

-- some bytes touch as many words as their first and last say
pub words_touched-some : (addr size : ℕ) → 0 < size → words_touched addr size ≡ (addr % 4 + size + 3) / 4
words_touched-some addr size some = grind arith

-- more bytes touch no fewer words
pub words_touched_more : (addr m n : ℕ) → m ≤ n → words_touched addr m ≤ words_touched addr n
words_touched_more addr zero n le = omega arith
words_touched_more addr (suc m) n le =
    let e : words_touched addr n ≡ (addr % 4 + n + 3) / 4 = words_touched-some addr n (omega arith) in
    let f : words_touched addr (suc m) ≡ (addr % 4 + suc m + 3) / 4 = words_touched-some addr (suc m) (omega arith) in omega (arith, e, f)

-- a byte that the file hasn't
byte_in-outside : (bytes : List ℕ) (h : ProgramHeader) (addr : ℕ) → (addr < h.vaddr + h.filesz → addr < h.vaddr) → byte_in bytes h addr ≡ 0
byte_in-outside bytes h addr out = grind arith

word_of-zeros : (a b c d : ℕ) → a ≡ 0 → b ≡ 0 → c ≡ 0 → d ≡ 0 → number_at 4 0 (a ∷ b ∷ c ∷ d ∷ []) ≡ 0
unfolding number_at
word_of-zeros a b c d ea eb ec ed = rw (ea, eb, ec, ed) refl

past_words : (v f k i : ℕ) → words_touched v f ≤ k → 4 * (v / 4 + k) + i < v + f → 4 * (v / 4 + k) + i < v
past_words v zero k i past lt = omega (arith, lt)
past_words v (suc f) k i past lt = let e = words_touched-some v (suc f) (omega arith) in omega (arith, e, past, lt)

-- words past those that the file touches are 0
word_of-past : (bytes : List ℕ) (h : ProgramHeader) (k : ℕ) → words_touched h.vaddr h.filesz ≤ k → word_of bytes h (4 * (first_word h + k)) ≡ 0
word_of-past bytes h k past =
    let out = past_words h.vaddr h.filesz k in
    word_of-zeros _ _ _ _
    (byte_in-outside bytes h (4 * (first_word h + k)) (λ lt. let below = out 0 past (omega (arith, lt)) in omega (arith, below)))
    (byte_in-outside bytes h (4 * (first_word h + k) + 1) (λ lt. out 1 past lt))
    (byte_in-outside bytes h (4 * (first_word h + k) + 2) (λ lt. out 2 past lt))
    (byte_in-outside bytes h (4 * (first_word h + k) + 3) (λ lt. out 3 past lt))

-- each word of a segment, whether the file gives it or not
pub get_or-file_words : (bytes : List ℕ) (h : ProgramHeader) (k : ℕ) → get_or (file_words bytes h) k 0 ≡ word_of bytes h (4 * (first_word h + k))
unfolding file_words
get_or-file_words bytes h k = choice (cases_lt k (words_touched h.vaddr h.filesz))
  where
    choice : (k < words_touched h.vaddr h.filesz) ⊎ (words_touched h.vaddr h.filesz ≤ k) → get_or (map (λ i. word_of bytes h (4 * (first_word h + i))) (range_with_len 0 (words_touched h.vaddr h.filesz))) k 0 ≡ word_of bytes h (4 * (first_word h + k))
    choice (inl lt) = get_or-map-range_with_len (λ i. word_of bytes h (4 * (first_word h + i))) 0 (words_touched h.vaddr h.filesz) k k 0 lt (omega arith)
    choice (inr past) = get_or_past _ k 0 (omega (arith, past, length-map-range_with_len (λ i. word_of bytes h (4 * (first_word h + i))) 0 (words_touched h.vaddr h.filesz))) ∙ sym (word_of-past bytes h k past)

-- ---- loops that push what a function gives at each place

pub grown : {X : Type 0} (f : ℕ → X) (n : ℕ) (xs ys : List X) (x : X) → ys ≡ xs ++ x ∷ [] → xs ≡ map f (range_with_len 0 n) → x ≡ f n → ys ≡ map f (range_with_len 0 (n + 1))
grown {X} f n xs ys x pushed before value =
    pushed ∙ ap₂ (λ (zs : List X) (z : X). zs ++ z ∷ []) before value ∙ sym (map-range_with_len_more f 0 n n (omega arith))
