-- An interval whose Header is kept is one that is replayed.
use Rattle.file_laws.proofs.Common.{◌≡◌, ℕ, ◌==◌, Bool, true, false, ◌&&◌, Option, Some, List, [], ◌∷◌, ◌++◌, refl, sym, ap, subst, arith, Record, Header, Interval, interval_of, interval_from, puts, nothing, kept_of, run_of, LogSuffices, and_from, eqb_same}
use Rattle.run_laws.specs.Retained.{HasHeader, FaultsAreKept}
use Rattle.file_laws.specs.Retained.{FaultsAreReplayed}

-- the records have the interval
abbrev HasInterval : ℕ → ℕ → List Record → Type 0
HasInterval k n rs = (v : Interval) × (interval_of k n rs ≡ Some v)

found_or : (b : Bool) (k n : ℕ) (v : Interval) (rs : List Record) → HasInterval k n rs → (w : Interval) × (elim b as (λ x. Option Interval) [ true ↦ Some v | false ↦ interval_of k n rs ] ≡ Some w)
found_or true k n v rs h = (v, refl)
found_or false k n v rs h = h

one_more : (r : Record) (k n : ℕ) (rs : List Record) → HasInterval k n rs → HasInterval k n (r ∷ rs)
one_more (Header h m ic pc x) k n rs has = found_or (h == k && (m == n)) k n (interval_from (record { pc = pc; x = x; ic = ic }) (puts k rs nothing)) rs has
one_more r k n rs has = has

behind : (front : List Record) (k n : ℕ) (rs : List Record) → HasInterval k n rs → HasInterval k n (front ++ rs)
behind [] k n rs has = has
behind (r ∷ front) k n rs has = one_more r k n (front ++ rs) (behind front k n rs has)

at_header : (k n ic pc : ℕ) (x : List ℕ) (back : List Record) → HasInterval k n (Header k n ic pc x ∷ back)
at_header k n ic pc x back =
    let v : Interval = interval_from (record { pc = pc; x = x; ic = ic }) (puts k back nothing) in
    (v, ap (λ (b : Bool). elim b as (λ y. Option Interval) [ true ↦ Some v | false ↦ interval_of k n back ]) (and_from (k == k) (n == n) (eqb_same k) (eqb_same n)))

has_interval : (k n begun : ℕ) (rs : List Record) → HasHeader k n begun rs → HasInterval k n rs
has_interval k n begun rs h = subst (HasInterval k n) (sym h.parts) (behind h.front k n (Header k n begun h.pc h.x ∷ h.back) (at_header k n begun h.pc h.x h.back))

pub faults_replayed : FaultsAreKept → LogSuffices → FaultsAreReplayed
faults_replayed kept suffices c i input b k kind value guarding whole fault =
    let run = run_of c i input (b ++ k ∷ []) in
    let h = run.harts k in
    let v = has_interval k h.number h.begun (kept_of c run) (kept c i input b k kind value guarding whole.legal fault).header in
    suffices c i input (b ++ k ∷ []) k h.number (omega (arith, guarding.limit_high)) whole v.0 v.1
