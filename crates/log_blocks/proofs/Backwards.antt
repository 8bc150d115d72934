-- The walk back over blocks.
use Rattle.log_blocks.proofs.Common.{◌≡◌, ℕ, suc, ◌+◌, ◌-◌, ◌≤◌, ◌<◌, Bool, true, false, List, [], ◌∷◌, ◌++◌, length, take, drop, length-append, length-drop, refl, sym, ap, ap₂, subst, ◌∙◌, arith, length-take-le, drop-take, take-length, number_at, Piece, gathered, len_in, start_in, piece_in, is_good, Walked, IsWalk, AreAt, AreLaid, HasWalked, HasSeen}
use Rattle.log_blocks.specs.declared.walking.Walk.{Walk}
use Rattle.log_blocks.proofs.Bytes.{take_take}

-- the blocks that were walked over so far, with which each walk from here is one from the end
pub record WalkedTo (digest : List ℕ) (n : ℕ) (bytes : List ℕ) (rest size : ℕ) (sizes : List ℕ) : Type 0 where
  pub kept : List Piece
  pub goes : (count : ℕ) (ahead : List ℕ) (pieces : List Piece) → Walked digest n count (take rest bytes) kept ahead pieces → IsWalk digest n bytes ahead pieces
  pub laid : AreLaid bytes rest size sizes kept

pub walked_none : (digest : List ℕ) (n : ℕ) (bytes : List ℕ) → WalkedTo digest n bytes (length bytes) 0 []
walked_none digest n bytes = record {
  kept = [];
  goes = λ count ahead pieces w. record { count = count; walked = subst (λ (t : List ℕ). Walked digest n count t [] ahead pieces) (take-length bytes) w };
  laid = record { at = refl; size_is = refl; sizes_are = refl };
}

pub walked_more : (digest : List ℕ) (n : ℕ) (bytes : List ℕ) (rest next size len more : ℕ) (sizes : List ℕ) → rest ≤ length bytes → is_good digest n size (take rest bytes) ≡ true → len ≡ len_in (take rest bytes) → 1 ≤ len
    → len + 48 ≤ length (take rest bytes) → next ≡ rest - (len + 48) → more ≡ size + len → WalkedTo digest n bytes rest size sizes → WalkedTo digest n bytes next more (sizes ++ len ∷ [])
walked_more digest n bytes rest next size len more sizes le good is low fits then sum w =
    let b = take rest bytes in
    let n_b : length b ≡ rest = length-take-le rest bytes le in
    let start : start_in b ≡ next = omega (arith, n_b, is, then) in
    let ahead_is : take (start_in b) b ≡ take next bytes = ap (λ (k : ℕ). take k b) start ∙ take_take next rest bytes (omega (arith, then)) in
    let long : length (piece_in b).bytes ≡ len = length-take-le (len_in b) (drop (start_in b) b) (omega (arith, length-drop (start_in b) b, start, then, fits, is, n_b)) ∙ sym is in
    let whole : rest ≡ next + (len + 48) = omega (arith, then, fits, n_b) in
    let here : drop (start_in b) b ≡ take (len + 48) (drop next bytes) = ap₂ (λ (k m : ℕ). drop k (take m bytes)) start whole ∙ drop-take next (len + 48) bytes in
    let place : next + length (piece_in b).bytes + 48 ≡ rest = omega (arith, whole, long) in
    record {
      kept = piece_in b ∷ w.kept;
      goes = λ count ahead pieces x. w.goes (suc count) ahead pieces (
        ap (λ (k : ℕ). is_good digest n k b) (sym w.laid.size_is) ∙ good,
        subst (λ (t : List ℕ). Walked digest n count t (piece_in b ∷ w.kept) ahead pieces) (sym ahead_is) x,
      );
      laid = record {
        at = (
          record {
            some = omega (arith, low, long);
            within = omega (arith, place, le);
            bytes_is = ap₂ (λ (k : ℕ) (t : List ℕ). take k t) (sym is) here ∙ take_take len (len + 48) (drop next bytes) (omega arith) ∙ ap (λ (k : ℕ). take k (drop next bytes)) (sym long);
            before_is = ap₂ (λ (k m : ℕ). number_at 8 k (take m bytes)) (omega (arith, n_b, whole, long)) (sym place);
          },
          subst (λ (k : ℕ). AreAt bytes k w.kept) (sym place) w.laid.at,
        );
        size_is = omega (arith, sum, long, w.laid.size_is, length-append (piece_in b).bytes (gathered w.kept));
        sizes_are = ap₂ (λ (t : List ℕ) (k : ℕ). t ++ k ∷ []) w.laid.sizes_are (sym long);
      };
    }

pub walked_all : (digest : List ℕ) (n : ℕ) (bytes : List ℕ) (rest size : ℕ) (sizes : List ℕ) → rest ≤ length bytes → size ≤ n → is_good digest n size (take rest bytes) ≡ false → WalkedTo digest n bytes rest size sizes → HasWalked digest n bytes rest size sizes
walked_all digest n bytes rest size sizes le few bad w = record {
  pieces = w.kept;
  walk = w.goes 0 (take rest bytes) w.kept (ap (λ (k : ℕ). is_good digest n k (take rest bytes)) (sym w.laid.size_is) ∙ bad, (refl, refl));
  laid = w.laid;
  within = le;
  few = few;
}

-- the same with the list of their sizes, or without memory for it
pub record SeenTo (digest : List ℕ) (n : ℕ) (bytes : List ℕ) (rest size : ℕ) (list : List ℕ) (listed : Bool) : Type 0 where
  pub sizes : List ℕ
  pub walked : WalkedTo digest n bytes rest size sizes
  pub all : listed ≡ true → list ≡ sizes
  pub some : listed ≡ false → 0 < size

pub seen_none : (digest : List ℕ) (n : ℕ) (bytes list : List ℕ) → list ≡ [] → SeenTo digest n bytes (length bytes) 0 list true
seen_none digest n bytes list none = record { sizes = []; walked = walked_none digest n bytes; all = λ is. none; some = λ is. absurd cc }

pub seen_more : (digest : List ℕ) (n : ℕ) (bytes : List ℕ) (rest next size len more : ℕ) (list longer : List ℕ) (listed now : Bool) → rest ≤ length bytes → is_good digest n size (take rest bytes) ≡ true → len ≡ len_in (take rest bytes) → 1 ≤ len
    → len + 48 ≤ length (take rest bytes) → next ≡ rest - (len + 48) → more ≡ size + len → (now ≡ true → (listed ≡ true) × (longer ≡ list ++ len ∷ [])) → SeenTo digest n bytes rest size list listed → SeenTo digest n bytes next more longer now
seen_more digest n bytes rest next size len more list longer listed now le good is low fits then sum put s = record {
  sizes = s.sizes ++ len ∷ [];
  walked = walked_more digest n bytes rest next size len more s.sizes le good is low fits then sum s.walked;
  all = λ t. (put t).1 ∙ ap (λ (xs : List ℕ). xs ++ len ∷ []) (s.all (put t).0);
  some = λ t. omega (arith, low, sum);
}

pub seen_all : (digest : List ℕ) (n : ℕ) (bytes : List ℕ) (walk : Walk) (listed : Bool) → walk.rest ≤ length bytes → walk.size ≤ n → is_good digest n walk.size (take walk.rest bytes) ≡ false → SeenTo digest n bytes walk.rest walk.size walk.sizes.items listed
    → HasSeen digest n bytes walk listed
seen_all digest n bytes walk listed le few bad s = record { sizes = s.sizes; walked = walked_all digest n bytes walk.rest walk.size s.sizes le few bad s.walked; all = s.all; some = s.some }
