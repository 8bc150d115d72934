-- Which version a file names, and that its log is read.
use Rattle.log_blocks.proofs.Common.{◌≡◌, ℕ, Bool, true, false, nat_le, List, ◌++◌, length, take, drop, append_assoc, Result, Ok, Err, refl, sym, ap, subst, ◌∙◌, arith, ◌==◌, ◌&&◌, IfOk, IfErr, MatchResult, bytes_eq, eq-eqb, bytes_eq-Decides, number_at, number_bytes, HaveTheirWidth, AreRead, Content, IsContent, FileError, OutOfMemory, magic, settings_bytes, signed_bytes, file_bytes, file_bytes2, IsVersion1, Damage, File, BadBlock, is_second, IsSecondRefusal, IsFirstRefusal, IsRefusal, IsSpelled, NameTheirVersion, SayOneThing, AreNotRefused}
use Rattle.std.proofs.lemmas.Bool.{le-leb}
use Rattle.log_file.specs.Laws as of_first
use Rattle.log_blocks.proofs.Tested.{Passed, no_fault}
use Rattle.log_blocks.proofs.Heads.{no_fault_again}

names_second : (bytes : List ℕ) → Passed bytes → is_second bytes ≡ true
names_second bytes p = rw (le-leb 124 (length bytes) (omega (arith, p.long)), (bytes_eq-Decides (take 8 bytes) magic).1 p.begins, eq-eqb _ _ p.version) refl

regroup : (m v h i l g e s w n d r k b x : List ℕ) → ((m ++ v ++ h ++ i ++ l ++ g ++ e ++ s ++ w ++ n) ++ d ++ r ++ k ++ b) ++ x ≡ m ++ (v ++ (h ++ (i ++ (l ++ (g ++ (e ++ (s ++ (w ++ (n ++ (d ++ (r ++ (k ++ (b ++ x)))))))))))))
regroup m v h i l g e s w n d r k b x = simp append_assoc

pub record Begins (bytes : List ℕ) : Type 0 where
  pub rest : List ℕ
  pub parts : bytes ≡ magic ++ (number_bytes 4 1 ++ rest)

begins : (c : Content) → Begins (file_bytes c)
unfolding signed_bytes settings_bytes
begins c = record { rest = _; parts = regroup magic (number_bytes 4 1) _ _ _ _ _ _ _ _ _ _ _ _ _ }

other_version : (b c : Bool) → (b && c) ≡ (b && c) → c ≡ false → (b && c) ≡ false
other_version true c e f = f
other_version false c e f = refl

names_first : AreRead → (bytes : List ℕ) → Begins bytes → is_second bytes ≡ false
unfolding magic
names_first read bytes b =
    let version = read 4 8 1 bytes b.rest (omega arith) (ap (drop 8) b.parts) in
    other_version (nat_le 124 (length bytes) && bytes_eq (take 8 bytes) magic) (number_at 4 8 bytes == 2) refl (ap (λ (n : ℕ). n == 2) version.0)

pub names : AreRead → HaveTheirWidth → of_first.AreNotBad → NameTheirVersion
names read long good c is = (names_second (file_bytes2 c) (no_fault (file_bytes2 c) (no_fault_again read long good c is)), names_first read (file_bytes c) (begins c))

-- ---- reading

spelled_second : (b : Bool) (P Q : Type 0) → b ≡ true → (elim b as (λ z. Type 0) [ true ↦ P | false ↦ Q ]) → P
spelled_second true P Q e x = x
spelled_second false P Q e x = absurd cc

spelled_first : (b : Bool) (P Q : Type 0) → b ≡ false → (elim b as (λ z. Type 0) [ true ↦ P | false ↦ Q ]) → Q
spelled_first true P Q e x = absurd cc
spelled_first false P Q e x = x

pub read_second_only : NameTheirVersion → SayOneThing → AreNotRefused → (bytes : List ℕ) (r : Result Content Damage) → IfOk r (λ c. IsContent c) → IfOk r (IsSpelled bytes) → IfErr r (IsRefusal bytes) → (d : Content) → IsContent d → bytes ≡ file_bytes2 d
    → MatchResult r (λ c. c ≡ d) (λ e. e ≡ File OutOfMemory)
read_second_only name same taken bytes (Ok c) ic f x d id e =
    let second : is_second bytes ≡ true = ap is_second e ∙ (name d id).0 in
    same c d ic id (sym (spelled_second (is_second bytes) (bytes ≡ file_bytes2 c) ((c.head.settings.format ≡ 1) × (bytes ≡ file_bytes c)) second f) ∙ e)
read_second_only name same taken bytes (Err y) ic f x d id e =
    let second : is_second bytes ≡ true = ap is_second e ∙ (name d id).0 in
    taken d id y (subst (λ (b : List ℕ). IsSecondRefusal b y) e (spelled_second (is_second bytes) (IsSecondRefusal bytes y) (IsFirstRefusal bytes y) second x))

pub first_refused : of_first.AreNotRefused → (bytes : List ℕ) (e : Damage) (d : Content) → IsVersion1 d → bytes ≡ file_bytes d → IsFirstRefusal bytes e → e ≡ File OutOfMemory
first_refused taken bytes (File f) d id e x = ap (λ (g : FileError). File g) (taken d id f (subst (λ (b : List ℕ). IsFirstRefusal b (File f)) e x))
first_refused taken bytes (BadBlock at) d id e x = absurd x

pub read_first_only : NameTheirVersion → of_first.SayOneThing → of_first.AreNotRefused → (bytes : List ℕ) (r : Result Content Damage) → IfOk r (λ c. IsContent c) → IfOk r (IsSpelled bytes) → IfErr r (IsRefusal bytes) → (d : Content) → IsVersion1 d → bytes ≡ file_bytes d
    → MatchResult r (λ c. c ≡ d) (λ e. e ≡ File OutOfMemory)
read_first_only name same taken bytes (Ok c) ic f x d id e =
    let first : is_second bytes ≡ false = ap is_second e ∙ (name d id.0).1 in
    let x = spelled_first (is_second bytes) (bytes ≡ file_bytes2 c) ((c.head.settings.format ≡ 1) × (bytes ≡ file_bytes c)) first f in
    same c d (ic, x.0) id (sym x.1 ∙ e)
read_first_only name same taken bytes (Err y) ic f x d id e =
    let first : is_second bytes ≡ false = ap is_second e ∙ (name d id.0).1 in
    first_refused taken bytes y d id e (spelled_first (is_second bytes) (IsSecondRefusal bytes y) (IsFirstRefusal bytes y) first x)
