-- What several reads or writes in turn do, and what one read does.
use Rattle.std.proofs.Common.{◌≡◌, ◌+◌, ◌≤◌, ◌<◌, ℕ, List, [], ◌∷◌, ◌++◌, append-nil, length, take, drop, Option, Some, None, append_assoc, ap, ◌∙◌, sym, arith, length-append, length-drop, inl, inr}
use Rattle.std.proofs.lemmas.List.{length-take-le, take_at, drop-drop, take-append-drop}
use Rattle.std.specs.Prelude.{IfSome}
use Rattle.std.specs.Io.KnownBytes.{Appends, Consumes, IsAtEnd}
use Rattle.bn_outside.specs.Counts.{Rose}
use Rattle.bn_outside.specs.Streams.{ConsumesAll, EndsExactly}

-- one addition after another
pub appends_both : (a b c : Option (List ℕ)) (x y : List ℕ) → Appends a b x → Appends b c y → Appends a c (x ++ y)
appends_both None b c x y p q = tt
appends_both (Some a) None c x y p q = absurd p
appends_both (Some a) (Some b) None x y p q = absurd q
appends_both (Some a) (Some b) (Some c) x y p q = q ∙ (ap (λ m. m ++ y) p ∙ append_assoc a x y)

-- one loss of front bytes after another
pub consumes_both : (a b c : Option (List ℕ)) (x y : List ℕ) → Consumes a b x → Consumes b c y → Consumes a c (x ++ y)
consumes_both None b c x y p q = tt
consumes_both (Some a) None c x y p q = absurd p
consumes_both (Some a) (Some b) None x y p q = absurd q
consumes_both (Some a) (Some b) (Some c) x y p q = p ∙ (ap (λ m. x ++ m) q ∙ sym (append_assoc x y c))

-- a read that finds no byte left, after others that took these
pub consumes_all : (a b c : Option (List ℕ)) (x buffer : List ℕ) (n : ℕ) → Consumes a b x → Consumes b c (take n buffer) → EndsExactly b n buffer → n ≡ 0 → 0 < length buffer → ConsumesAll a c x
consumes_all None b c x buffer n p q e zero room = tt
consumes_all (Some a) None c x buffer n p q e zero room = absurd p
consumes_all (Some a) (Some b) None x buffer n p q e zero room = absurd q
consumes_all (Some a) (Some b) (Some c) x buffer n p q e zero room =
    let none : b ≡ [] = (e room).0 zero in
    (sym (append-nil x) ∙ (ap (λ m. x ++ m) (sym none) ∙ sym p), ap Some (rest _ _ (sym q ∙ none)))
  where
    rest : (y z : List ℕ) → y ++ z ≡ [] → z ≡ []
    rest [] z h = h
    rest (y ∷ ys) z h = cc

-- with a read's piece more than a limit came, so more were left before all reads
pub more_left : (a b c : Option (List ℕ)) (x y : List ℕ) (n limit : ℕ) → Consumes a b x → Consumes b c y → n ≡ length x → limit < n + length y → IfSome a (λ left. limit < length left)
more_left None b c x y n limit p q e h = tt
more_left (Some a) None c x y n limit p q e h = absurd p
more_left (Some a) (Some b) None x y n limit p q e h = absurd q
more_left (Some a) (Some b) (Some c) x y n limit p q e h = omega (arith, ap length p, ap length q, length-append x b, length-append y c, e, h)

-- a count that never fell rose over all calls if it rose in the last
pub rose_last : (a b c : ℕ) → a ≤ b → Rose b c → Rose a c
rose_last a b c h (inl r) = inl (omega (arith, h, r))
rose_last a b c h (inr r) = inr r

-- a read's piece, and what is left after it, are what was left before
pub source_gives : (bytes buffer piece : List ℕ) (at n m : ℕ) → at + n ≤ length bytes → m ≡ n → piece ≡ take m (drop at bytes)
    → drop at bytes ≡ take n (piece ++ drop n buffer) ++ drop (at + n) bytes
source_gives bytes buffer piece at n m h same e =
    let first : piece ≡ take n (drop at bytes) = cc in
    let size : length piece ≡ n = ap length first ∙ length-take-le n (drop at bytes) (omega (arith, length-drop at bytes)) in
    sym (ap (λ x. x ++ drop (at + n) bytes) (take_at piece (drop n buffer) n size ∙ first)
    ∙ (ap (λ x. take n (drop at bytes) ++ x) (sym (drop-drop n at bytes)) ∙ take-append-drop n (drop at bytes)))

-- a read that answers 0 only at the end answers it exactly there, since no byte of none can be moved
pub ends_exactly : (old new : Option (List ℕ)) (n : ℕ) (buffer : List ℕ) → n ≤ length buffer → Consumes old new (take n buffer) → (n ≡ 0 → 0 < length buffer → IsAtEnd new) → EndsExactly old n buffer
ends_exactly None new n buffer bound p e = tt
ends_exactly (Some left) None n buffer bound p e = absurd p
ends_exactly (Some left) (Some rest) n buffer bound p e = λ room. (
  λ zero. p ∙ (ap (λ m. m ++ rest) (ap (λ k. take k buffer) zero) ∙ e zero room),
  λ none. omega (arith, length-take-le n buffer bound, ap length (sym none ∙ p), length-append (take n buffer) rest),
)
