-- What the last blocks of a file say.
use Rattle.log_blocks.proofs.Common.{◌≡◌, ℕ, ◌+◌, Bool, true, false, nat_le, List, [], ◌∷◌, ◌++◌, length, refl, sym, ◌∙◌, ap, arith, append_assoc, append-nil, length-append, Record, bytes_of, Block, block_size, cut_from, last_block, numbered, records_in, AreSmall, LastBlocksAreAnEnd}
use Rattle.log_blocks.proofs.Firsts.{cut_first}

-- all records of the parts
joined : List (List Record) → List Record
joined [] = []
joined (rs ∷ rest) = rs ++ joined rest

joined_last : (block : List Record) → joined (last_block block) ≡ block
unfolding joined
joined_last [] = refl
joined_last (r ∷ rs) = append-nil (r ∷ rs)

joined_by : (b : Bool) (block rs : List Record) (r : Record) (x y : List (List Record)) → joined x ≡ (block ++ r ∷ []) ++ rs → joined y ≡ r ∷ rs → joined (elim b as (λ z. List (List Record)) [ true ↦ x | false ↦ block ∷ y ]) ≡ block ++ r ∷ rs
unfolding joined
joined_by true block rs r x y e f = e ∙ append_assoc block (r ∷ []) rs
joined_by false block rs r x y e f = ap (λ ys. block ++ ys) f

-- the parts are the whole
joined_cut : (rs block : List Record) (used : ℕ) → joined (cut_from block used rs) ≡ block ++ rs
unfolding joined
joined_cut [] block used = joined_last block ∙ sym (append-nil block)
joined_cut (r ∷ rs) block used =
    let size = length (bytes_of r) in
    joined_by (nat_le (used + size) block_size) block rs r _ _ (joined_cut rs (block ++ r ∷ []) (used + size)) (joined_cut rs (r ∷ []) size)

-- the parts after the first are those into which their records are cut
Again : List (List Record) → Type 0
Again rest = cut_from [] 0 (joined rest) ≡ rest

tails : List (List Record) → Type 0
tails [] = Unit {0}
tails (rs ∷ rest) = Again rest × tails rest

tails_last : (block : List Record) → tails (last_block block)
unfolding joined Again tails
tails_last [] = tt
tails_last (r ∷ rs) = (refl, tt)

tails_by : (b : Bool) (block : List Record) (x y : List (List Record)) → tails x → tails y → Again y → tails (elim b as (λ z. List (List Record)) [ true ↦ x | false ↦ block ∷ y ])
unfolding tails
tails_by true block x y tx ty a = tx
tails_by false block x y tx ty a = (a, ty)

tails_cut : (rs block : List Record) (used : ℕ) → AreSmall rs → tails (cut_from block used rs)
unfolding Again
tails_cut [] block used small = tails_last block
tails_cut (r ∷ rs) block used small =
    let size = length (bytes_of r) in
    let y = cut_from (r ∷ []) size rs in
    tails_by (nat_le (used + size) block_size) block _ y (tails_cut rs (block ++ r ∷ []) (used + size) small.1) (tails_cut rs (r ∷ []) size small.1)
    (ap (cut_from [] 0) (joined_cut rs (r ∷ []) size) ∙ cut_first r rs small.0)

-- ---- the blocks

-- blocks that are those of these parts, from a number on, and what their last ones are
record Cut (before : ℕ) (parts : List (List Record)) (front : List Block) (b : Block) (back : List Block) : Type 0 where
  whole : joined parts ≡ records_in front ++ records_in (b ∷ back)
  number : b.before ≡ before + length (records_in front)
  rest : List (List Record)
  again : Again rest
  is : numbered b.before rest ≡ b ∷ back
  records : records_in (b ∷ back) ≡ joined rest

records_of : (before : ℕ) (parts : List (List Record)) → records_in (numbered before parts) ≡ joined parts
unfolding joined
records_of before [] = refl
records_of before (rs ∷ rest) = ap (λ ys. rs ++ ys) (records_of (before + length rs) rest)

head_of : List Block → ℕ → ℕ
head_of [] n = n
head_of (b ∷ bs) n = b.before

rest_of : List Block → List Block
rest_of [] = []
rest_of (b ∷ bs) = bs

cut_at : (front : List Block) (before : ℕ) (parts : List (List Record)) (b : Block) (back : List Block) → Again parts → tails parts → numbered before parts ≡ front ++ b ∷ back → Cut before parts front b back
unfolding joined tails head_of rest_of
cut_at [] before [] b back a t e = cc
cut_at [] before (rs ∷ rest) b back a t e =
    let n : before ≡ b.before = ap (λ bs. head_of bs 0) e in
    record {
      whole = sym (records_of before (rs ∷ rest)) ∙ ap records_in e;
      number = omega (arith, n);
      rest = rs ∷ rest;
      again = a;
      is = ap (λ (k : ℕ). numbered k (rs ∷ rest)) (sym n) ∙ e;
      records = sym (ap records_in e) ∙ records_of before (rs ∷ rest);
    }
cut_at (f ∷ front) before [] b back a t e = cc
cut_at (f ∷ front) before (rs ∷ rest) b back a t e =
    let tail : numbered (before + length rs) rest ≡ front ++ b ∷ back = ap rest_of e in
    let cut = cut_at front (before + length rs) rest b back t.0 t.1 tail in
    let first : rs ≡ f.records = ap (λ bs. first_records bs) e in
    record {
      whole = ap₂' first cut.whole ∙ sym (append_assoc f.records (records_in front) (records_in (b ∷ back)));
      number = omega (arith, cut.number, ap length first, length-append f.records (records_in front));
      rest = cut.rest;
      again = cut.again;
      is = cut.is;
      records = cut.records;
    }
  where
    first_records : List Block → List Record
    first_records [] = []
    first_records (x ∷ xs) = x.records

    ap₂' : {xs ys us vs : List Record} → xs ≡ us → ys ≡ vs → xs ++ ys ≡ us ++ vs
    ap₂' {ys = ys} {us = us} p q = ap (λ zs. zs ++ ys) p ∙ ap (λ zs. us ++ zs) q

again_of : (rest : List (List Record)) → Again rest → cut_from [] 0 (joined rest) ≡ rest
unfolding Again
again_of rest p = p

again_by : (rest : List (List Record)) (rs : List Record) → joined rest ≡ rs → cut_from [] 0 rs ≡ rest → Again rest
unfolding Again
again_by rest rs e p = ap (cut_from [] 0) e ∙ p

pub last_blocks : LastBlocksAreAnEnd
last_blocks dropped records front b back small e =
    let whole : joined (cut_from [] 0 records) ≡ records = joined_cut records [] 0 in
    let cut = cut_at front dropped (cut_from [] 0 records) b back (again_by (cut_from [] 0 records) records whole refl) (tails_cut records [] 0 small) e in
    (sym whole ∙ cut.whole, cut.number, ap (λ rs. numbered b.before (cut_from [] 0 rs)) cut.records ∙ (ap (numbered b.before) (again_of cut.rest cut.again) ∙ cut.is))
