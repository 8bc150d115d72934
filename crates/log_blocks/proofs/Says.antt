-- Bytes say one thing, by either version, and files say their logs.
use Rattle.log_blocks.proofs.Common.{◌≡◌, ℕ, ◌≤◌, arith, Bool, true, false, List, refl, sym, ap, subst, ◌∙◌, ◌==◌, Result, Ok, Err, Content, IsContent, file_bytes, file_bytes2, OutOfMemory, Damage, File, SalvageError, is_second, IsSecondRefusal, IsFirstRefusal, NameTheirVersion, SayOneThing, AreNotRefused, RefusalsAreUnique, SalvagedAreUnique, SalvagedAreNotRefused, SalvageRefusalsAreUnique, Reads, ReadingsAreUnique, SalvagesAreUnique, FilesAreRead}
use Rattle.log_file.specs.Laws as of_first
use Rattle.log_blocks.proofs.Decided.{to_second, to_first}
use Rattle.log_blocks.proofs.Versions.{first_refused}

-- a format in range that isn't 2 is 1
is_first : (format : ℕ) → 1 ≤ format → format ≤ 2 → (format == 2) ≡ false → format ≡ 1
is_first format low high other = grind arith

abbrev Spelled : Bool → List ℕ → Content → Type 0
Spelled b bytes c = elim b as (λ z. Type 0) [ true ↦ bytes ≡ file_bytes2 c | false ↦ (c.head.settings.format ≡ 1) × (bytes ≡ file_bytes c) ]

abbrev RefusedBy : Bool → List ℕ → Damage → Type 0
RefusedBy b bytes e = elim b as (λ z. Type 0) [ true ↦ IsSecondRefusal bytes e | false ↦ IsFirstRefusal bytes e ]

pub record Grammar : Type 0 where
  pub first_one : of_first.SayOneThing
  pub first_taken : of_first.AreNotRefused
  pub one : SayOneThing
  pub taken : AreNotRefused
  pub cause : RefusalsAreUnique

one_spelled : Grammar → (b : Bool) (bytes : List ℕ) (c d : Content) → IsContent c → IsContent d → Spelled b bytes c → Spelled b bytes d → c ≡ d
one_spelled g true bytes c d ic id x y = g.one c d ic id (sym x ∙ y)
one_spelled g false bytes c d ic id x y = g.first_one c d (ic, x.0) (id, y.0) (sym x.1 ∙ y.1)

refused_too : Grammar → (b : Bool) (bytes : List ℕ) (d : Content) (e : Damage) → IsContent d → Spelled b bytes d → RefusedBy b bytes e → e ≡ File OutOfMemory
refused_too g true bytes d e id x y = g.taken d id e (subst (λ (t : List ℕ). IsSecondRefusal t e) x y)
refused_too g false bytes d e id x y = first_refused g.first_taken bytes e d (id, x.0) x.1 y

abbrev log_ok : Content → Result Content Damage
log_ok c = Ok c

abbrev log_err : Damage → Result Content Damage
log_err e = Err e

pub one_reading : Grammar → ReadingsAreUnique
one_reading g bytes (Ok c) (Ok d) x y = ap log_ok (one_spelled g (is_second bytes) bytes c d x.0 y.0 x.1 y.1)
one_reading g bytes (Ok c) (Err e) x y = absurd (y.1 (refused_too g (is_second bytes) bytes c e x.0 x.1 y.0))
one_reading g bytes (Err e) (Ok d) x y = absurd (x.1 (refused_too g (is_second bytes) bytes d e y.0 y.1 x.0))
one_reading g bytes (Err e) (Err f) x y = ap log_err (g.cause bytes e f x.0 y.0 x.1 y.1)

abbrev saved_ok : Content → Result Content SalvageError
saved_ok c = Ok c

abbrev saved_err : SalvageError → Result Content SalvageError
saved_err e = Err e

pub one_salvage : SalvagedAreUnique → SalvagedAreNotRefused → SalvageRefusalsAreUnique → SalvagesAreUnique
one_salvage one either cause bytes (Ok c) (Ok d) x y = ap saved_ok (one bytes c d x y)
one_salvage one either cause bytes (Ok c) (Err e) x y = absurd (y.1 (either bytes c e x y.0))
one_salvage one either cause bytes (Err e) (Ok d) x y = absurd (x.1 (either bytes d e y x.0))
one_salvage one either cause bytes (Err e) (Err f) x y = ap saved_err (cause bytes e f x.0 y.0 x.1 y.1)

first_read : NameTheirVersion → (c : Content) → IsContent c → c.head.settings.format ≡ 1 → Reads (file_bytes c) (Ok c)
first_read name c is one = (is, to_first (is_second (file_bytes c)) (file_bytes c ≡ file_bytes2 c) ((c.head.settings.format ≡ 1) × (file_bytes c ≡ file_bytes c)) (name c is).1 (one, refl))

second_read : NameTheirVersion → (c : Content) → IsContent c → Reads (file_bytes2 c) (Ok c)
second_read name c is = (is, to_second (is_second (file_bytes2 c)) (file_bytes2 c ≡ file_bytes2 c) ((c.head.settings.format ≡ 1) × (file_bytes2 c ≡ file_bytes c)) (name c is).0 refl)

saved_by : (c : Content) (b : Bool) → (c.head.settings.format == 2) ≡ b → 1 ≤ c.head.settings.format → c.head.settings.format ≤ 2 → (c.head.settings.format ≡ 1 → Reads (file_bytes c) (Ok c)) → Reads (file_bytes2 c) (Ok c)
    → Reads (elim b as (λ z. List ℕ) [ true ↦ file_bytes2 c | false ↦ file_bytes c ]) (Ok c)
saved_by c true e low high first second = second
saved_by c false e low high first second = first (is_first c.head.settings.format low high e)

pub files_read : NameTheirVersion → FilesAreRead
files_read name = record {
  first = λ c is. first_read name c is.0 is.1;
  second = λ c is. second_read name c is;
  saved = λ c is. saved_by c (c.head.settings.format == 2) refl is.settings.format_low is.settings.format_high (first_read name c is) (second_read name c is);
}
