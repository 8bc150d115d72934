-- Bytes have one answer.
use Rattle.log_blocks.proofs.Common.{◌≡◌, ℕ, ◌+◌, ◌<◌, Bool, true, false, List, [], length, Option, Some, None, inl, inr, refl, sym, ap, ap₂, subst, ◌∙◌, arith, ◌≢◌, ◌⊎◌, flat_map, AllByRecursion, Head, Record, bytes_of, total, Fits, BeginNoOther, OrderBreak, order_break, broken_by, Content, content, FileError, Short, BadMagic, BadVersion, BadHead, LengthDiffers, DigestDiffers, BadRecord, BadOrder, OutOfMemory, blocks_of, Damage, File, BadBlock, head_in, dropped_in, size_in, head_digest, blocks_in, is_second, head_fault, Piece, gathered, IsWalk, first_wrong, NoRecord, CutOtherwise, BreaksOrder, HasBlocks, IsRecordsFault, IsHeadFault, IsWalkFault, IsSecondRefusal, dropped_before, IsSalvaged, IsSalvageFault, NoneIsLeft, IsFirstRefusal, FirstAreUnique, RefusalsAreUnique, SalvagedAreUnique, SalvagedAreNotRefused, SalvageRefusalsAreUnique}
use Rattle.log_blocks.specs.declared.damage.SalvageError.TheVariants as salvage
use Rattle.log_file.proofs.Again.{records_free}
use Rattle.log_file.proofs.Causes.{same_some, none_some}
use Rattle.log_file.proofs.Rows.{no_stop, one_stop}
use Rattle.log_blocks.proofs.Written.{Same, one_walk}
use Rattle.log_blocks.proofs.Recovered.{one_list}

-- what the records of blocks are, by what is said of them
record Known (head : Head) (dropped start : ℕ) (pieces : List Piece) (wrong : Option ℕ) : Type 0 where
  pub records : List Record
  pub fit : AllByRecursion (Fits head.settings.format) records
  pub parts : gathered pieces ≡ flat_map bytes_of records
  pub blocks : first_wrong start (blocks_of dropped records) pieces ≡ wrong

module _ (alone : BeginNoOther) (head : Head) (dropped start : ℕ) (pieces : List Piece) where
  same_records : {v w : Option ℕ} (x : Known head dropped start pieces v) (y : Known head dropped start pieces w) → x.records ≡ y.records
  same_records x y = one_list alone head.settings.format head.settings.format x.records y.records x.fit y.fit (sym x.parts ∙ y.parts)

  same_wrong : (v w : Option ℕ) → Known head dropped start pieces v → Known head dropped start pieces w → v ≡ w
  same_wrong v w x y = sym x.blocks ∙ ap (λ (rs : List Record). first_wrong start (blocks_of dropped rs) pieces) (same_records x y) ∙ y.blocks

  abbrev cut : (at : ℕ) → CutOtherwise head dropped start pieces at → Known head dropped start pieces (Some at)
  cut at x = record { records = x.records; fit = x.fit; parts = x.parts; blocks = x.wrong }

  abbrev broken : (at rule : ℕ) → BreaksOrder head dropped start pieces at rule → Known head dropped start pieces None
  broken at rule x = record { records = x.records; fit = x.fit; parts = x.parts; blocks = x.blocks }

  whole_or_not : {P : Type 0} (at : ℕ) (w : Option ℕ) → NoRecord head.settings.format (gathered pieces) at → Known head dropped start pieces w → P
  whole_or_not at w x y = absurd (no_stop bytes_of (Fits head.settings.format) (records_free alone head.settings.format) y.records x.before x.rest y.fit x.fit (sym y.parts ∙ x.parts) x.more x.none)

  one_place : (p q : ℕ) → NoRecord head.settings.format (gathered pieces) p → NoRecord head.settings.format (gathered pieces) q → p ≡ q
  one_place p q x y = x.place_is ∙ ap total (one_stop bytes_of (Fits head.settings.format) (records_free alone head.settings.format) x.before y.before x.rest y.rest x.fit y.fit (sym x.parts ∙ y.parts) x.none y.none) ∙ sym y.place_is

  one_break : (p q a b : ℕ) → BreaksOrder head dropped start pieces p a → BreaksOrder head dropped start pieces q b → order_break p a ≡ order_break q b
  one_break p q a b x y = same_some (order_break p a) (order_break q b) (sym x.breaks ∙ ap (broken_by head.settings dropped) (same_records (broken p a x) (broken q b y)) ∙ y.breaks)

  one_fault : (e f : Damage) → IsRecordsFault head dropped start pieces e → IsRecordsFault head dropped start pieces f → e ≢ File OutOfMemory → f ≢ File OutOfMemory → e ≡ f
  one_fault (File (Short n)) f x y m k = absurd x
  one_fault (File BadMagic) f x y m k = absurd x
  one_fault (File (BadVersion found)) f x y m k = absurd x
  one_fault (File (BadHead field value)) f x y m k = absurd x
  one_fault (File (LengthDiffers said found)) f x y m k = absurd x
  one_fault (File (DigestDiffers kept found)) f x y m k = absurd x
  one_fault (File OutOfMemory) f x y m k = absurd (m refl)
  one_fault e (File (Short n)) x y m k = absurd y
  one_fault e (File BadMagic) x y m k = absurd y
  one_fault e (File (BadVersion found)) x y m k = absurd y
  one_fault e (File (BadHead field value)) x y m k = absurd y
  one_fault e (File (LengthDiffers said found)) x y m k = absurd y
  one_fault e (File (DigestDiffers kept found)) x y m k = absurd y
  one_fault e (File OutOfMemory) x y m k = absurd (k refl)
  one_fault (BadBlock p) (BadBlock q) x y m k = ap (λ (n : ℕ). BadBlock n) (same_some p q (same_wrong (Some p) (Some q) (cut p x) (cut q y)))
  one_fault (BadBlock p) (File (BadRecord q)) x y m k = whole_or_not q (Some p) y (cut p x)
  one_fault (BadBlock p) (File (BadOrder q b)) x y m k = none_some p (same_wrong None (Some p) (broken q b y) (cut p x))
  one_fault (File (BadRecord p)) (BadBlock q) x y m k = whole_or_not p (Some q) x (cut q y)
  one_fault (File (BadRecord p)) (File (BadRecord q)) x y m k = ap (λ (n : ℕ). File (BadRecord n)) (one_place p q x y)
  one_fault (File (BadRecord p)) (File (BadOrder q b)) x y m k = whole_or_not p None x (broken q b y)
  one_fault (File (BadOrder p a)) (BadBlock q) x y m k = none_some q (same_wrong None (Some q) (broken p a x) (cut q y))
  one_fault (File (BadOrder p a)) (File (BadRecord q)) x y m k = whole_or_not q None y (broken p a x)
  one_fault (File (BadOrder p a)) (File (BadOrder q b)) x y m k = ap (λ (o : OrderBreak). File (BadOrder o.at o.rule)) (one_break p q a b x y)

  abbrev known : (c : Content) → HasBlocks head dropped start pieces c → Known head dropped start pieces None
  known c x = record { records = c.records; fit = subst (λ (h : Head). AllByRecursion (Fits h.settings.format) c.records) x.head_is x.content.fit; parts = x.parts; blocks = x.blocks }

  in_order : (c : Content) → HasBlocks head dropped start pieces c → broken_by head.settings dropped c.records ≡ None
  in_order c x = ap₂ (λ (h : Head) (n : ℕ). broken_by h.settings n c.records) (sym x.head_is) (sym x.dropped_is) ∙ x.content.order

  -- the log of blocks, and a fault of their records
  log_or_fault : {P : Type 0} (c : Content) (e : Damage) → HasBlocks head dropped start pieces c → IsRecordsFault head dropped start pieces e → e ≢ File OutOfMemory → P
  log_or_fault c (File (Short n)) x y m = absurd y
  log_or_fault c (File BadMagic) x y m = absurd y
  log_or_fault c (File (BadVersion found)) x y m = absurd y
  log_or_fault c (File (BadHead field value)) x y m = absurd y
  log_or_fault c (File (LengthDiffers said found)) x y m = absurd y
  log_or_fault c (File (DigestDiffers kept found)) x y m = absurd y
  log_or_fault c (File OutOfMemory) x y m = absurd (m refl)
  log_or_fault c (BadBlock q) x y m = none_some q (same_wrong None (Some q) (known c x) (cut q y))
  log_or_fault c (File (BadRecord q)) x y m = whole_or_not q None y (known c x)
  log_or_fault c (File (BadOrder q b)) x y m =
      none_some (order_break q b) (sym (in_order c x) ∙ ap (broken_by head.settings dropped) (same_records (known c x) (broken q b y)) ∙ y.breaks)

  one_log : (c d : Content) → HasBlocks head dropped start pieces c → HasBlocks head dropped start pieces d → c ≡ d
  one_log c d x y =
      ap (λ (h : Head). content h c.dropped c.records) (x.head_is ∙ sym y.head_is) ∙ ap (λ (n : ℕ). content d.head n c.records) (x.dropped_is ∙ sym y.dropped_is)
      ∙ ap (content d.head d.dropped) (same_records (known c x) (known d y))

-- ---- a file of version 2

head_or_not : {P : Type 0} (bytes : List ℕ) (e : Damage) → head_fault bytes ≡ None → IsHeadFault bytes e → P
head_or_not bytes (File f) none x = none_some f (sym none ∙ x)
head_or_not bytes (BadBlock at) none x = absurd x

one_head : (bytes : List ℕ) (e f : Damage) → IsHeadFault bytes e → IsHeadFault bytes f → e ≡ f
one_head bytes (File a) (File b) x y = ap (λ (n : FileError). File n) (same_some a b (sym x ∙ y))
one_head bytes (File a) (BadBlock q) x y = absurd y
one_head bytes (BadBlock p) f x y = absurd x

not_empty : {P : Type 0} (rest : List ℕ) → 0 < length rest → rest ≡ [] → P
not_empty rest lt e = absurd (omega (arith, lt, ap length e))

one_behind : BeginNoOther → (bytes rest : List ℕ) (pieces : List Piece) (e f : Damage) → IsWalkFault bytes rest pieces e → IsWalkFault bytes rest pieces f → e ≢ File OutOfMemory → f ≢ File OutOfMemory → e ≡ f
one_behind alone bytes rest pieces e f (inl x) (inl y) m k = x.1 ∙ sym y.1
one_behind alone bytes rest pieces e f (inl x) (inr (inl y)) m k = not_empty rest x.0 y.0
one_behind alone bytes rest pieces e f (inl x) (inr (inr y)) m k = not_empty rest x.0 y.0
one_behind alone bytes rest pieces e f (inr (inl x)) (inl y) m k = not_empty rest y.0 x.0
one_behind alone bytes rest pieces e f (inr (inl x)) (inr (inl y)) m k = x.2 ∙ sym y.2
one_behind alone bytes rest pieces e f (inr (inl x)) (inr (inr y)) m k = absurd (x.1 y.1)
one_behind alone bytes rest pieces e f (inr (inr x)) (inl y) m k = not_empty rest y.0 x.0
one_behind alone bytes rest pieces e f (inr (inr x)) (inr (inl y)) m k = absurd (y.1 x.1)
one_behind alone bytes rest pieces e f (inr (inr x)) (inr (inr y)) m k = one_fault alone (head_in bytes) (dropped_in bytes) 136 pieces e f x.2 y.2 m k

at_walk : (bytes rest other : List ℕ) (pieces others : List Piece) (e : Damage) → Same rest other pieces others → IsWalkFault bytes rest pieces e → IsWalkFault bytes other others e
at_walk bytes rest other pieces others e s x = subst (λ (t : List Piece). IsWalkFault bytes other t e) s.pieces_are (subst (λ (t : List ℕ). IsWalkFault bytes t pieces e) s.rest_is x)

one_second : BeginNoOther → (bytes : List ℕ) (e f : Damage) → IsSecondRefusal bytes e → IsSecondRefusal bytes f → e ≢ File OutOfMemory → f ≢ File OutOfMemory → e ≡ f
one_second alone bytes e f (inl x) (inl y) m k = one_head bytes e f x y
one_second alone bytes e f (inl x) (inr y) m k = head_or_not bytes e y.fault x
one_second alone bytes e f (inr x) (inl y) m k = head_or_not bytes f x.fault y
one_second alone bytes e f (inr x) (inr y) m k =
    one_behind alone bytes y.rest y.pieces e f (at_walk bytes x.rest y.rest x.pieces y.pieces e (one_walk _ _ _ _ _ _ _ x.walk y.walk) x.wrong) y.wrong m k

-- ---- a file of either version

first_apart : {P : Type 0} (e : FileError) → File e ≢ File OutOfMemory → e ≡ OutOfMemory → P
first_apart e m is = absurd (m (ap (λ (n : FileError). File n) is))

one_first : FirstAreUnique → (bytes : List ℕ) (e f : Damage) → IsFirstRefusal bytes e → IsFirstRefusal bytes f → e ≢ File OutOfMemory → f ≢ File OutOfMemory → e ≡ f
one_first once bytes (File a) (File b) x y m k = ap (λ (n : FileError). File n) (once bytes a b x y (first_apart a m) (first_apart b k))
one_first once bytes (File a) (BadBlock q) x y m k = absurd y
one_first once bytes (BadBlock p) f x y m k = absurd x

by_version : (b : Bool) (S F : Damage → Type 0) (e f : Damage) → (S e → S f → e ≡ f) → (F e → F f → e ≡ f) → (elim b as (λ z. Type 0) [ true ↦ S e | false ↦ F e ]) → (elim b as (λ z. Type 0) [ true ↦ S f | false ↦ F f ]) → e ≡ f
by_version true S F e f s t x y = s x y
by_version false S F e f s t x y = t x y

pub one_refusal : BeginNoOther → FirstAreUnique → RefusalsAreUnique
one_refusal alone once bytes e f x y m k =
    by_version (is_second bytes) (IsSecondRefusal bytes) (IsFirstRefusal bytes) e f (λ p q. one_second alone bytes e f p q m k) (λ p q. one_first once bytes e f p q m k) x y

-- ---- salvage

at_salvage : (bytes rest other : List ℕ) (pieces others : List Piece) (c : Content) → Same rest other pieces others → HasBlocks (head_in bytes) (dropped_before (dropped_in bytes) pieces) (136 + length rest) pieces c
    → HasBlocks (head_in bytes) (dropped_before (dropped_in bytes) others) (136 + length other) others c
at_salvage bytes rest other pieces others c s x =
    subst (λ (t : List Piece). HasBlocks (head_in bytes) (dropped_before (dropped_in bytes) t) (136 + length other) t c) s.pieces_are
    (subst (λ (t : List ℕ). HasBlocks (head_in bytes) (dropped_before (dropped_in bytes) pieces) (136 + length t) pieces c) s.rest_is x)

at_fault : (bytes rest other : List ℕ) (pieces others : List Piece) (e : Damage) → Same rest other pieces others → IsRecordsFault (head_in bytes) (dropped_before (dropped_in bytes) pieces) (136 + length rest) pieces e
    → IsRecordsFault (head_in bytes) (dropped_before (dropped_in bytes) others) (136 + length other) others e
at_fault bytes rest other pieces others e s x =
    subst (λ (t : List Piece). IsRecordsFault (head_in bytes) (dropped_before (dropped_in bytes) t) (136 + length other) t e) s.pieces_are
    (subst (λ (t : List ℕ). IsRecordsFault (head_in bytes) (dropped_before (dropped_in bytes) pieces) (136 + length t) pieces e) s.rest_is x)

pub one_salvaged : BeginNoOther → SalvagedAreUnique
one_salvaged alone bytes c d x y =
    one_log alone (head_in bytes) (dropped_before (dropped_in bytes) y.pieces) (136 + length y.rest) y.pieces c d (at_salvage bytes x.rest y.rest x.pieces y.pieces c (one_walk _ _ _ _ _ _ _ x.walk y.walk) x.blocks) y.blocks

none_lost : {P : Type 0} (n : ℕ) → 0 < n → n ≡ 0 → P
none_lost n lt e = absurd (omega (arith, lt, e))

log_or_file : {P : Type 0} → BeginNoOther → (bytes : List ℕ) (c : Content) (e : Damage) → IsSalvaged bytes c → IsHeadFault bytes e ⊎ IsSalvageFault bytes e → e ≢ File OutOfMemory → P
log_or_file alone bytes c e x (inl y) m = head_or_not bytes e x.fault y
log_or_file alone bytes c e x (inr y) m =
    log_or_fault alone (head_in bytes) (dropped_before (dropped_in bytes) y.pieces) (136 + length y.rest) y.pieces c e (at_salvage bytes x.rest y.rest x.pieces y.pieces c (one_walk _ _ _ _ _ _ _ x.walk y.walk) x.blocks) y.wrong m

lost_or_log : {P : Type 0} (bytes rest : List ℕ) (pieces : List Piece) → NoneIsLeft bytes → IsWalk (head_digest bytes) (size_in bytes) (blocks_in bytes) rest pieces → (pieces ≡ [] → size_in bytes ≡ 0) → P
lost_or_log bytes rest pieces n w some = none_lost (size_in bytes) n.more (some (sym (one_walk _ _ _ _ _ _ _ n.walk w).pieces_are))

pub salvaged_or_refused : BeginNoOther → SalvagedAreNotRefused
salvaged_or_refused alone bytes c (salvage.File e) x y = log_or_file alone bytes c e x y.0 y.1
salvaged_or_refused alone bytes c salvage.NothingLeft x y = lost_or_log bytes x.rest x.pieces y x.walk x.some
salvaged_or_refused alone bytes c salvage.OutOfMemory x y = refl

lost_or_file : {P : Type 0} (bytes : List ℕ) (e : Damage) → NoneIsLeft bytes → IsHeadFault bytes e ⊎ IsSalvageFault bytes e → P
lost_or_file bytes e n (inl y) = head_or_not bytes e n.fault y
lost_or_file bytes e n (inr y) = lost_or_log bytes y.rest y.pieces n y.walk y.some

one_file : BeginNoOther → (bytes : List ℕ) (e f : Damage) → IsHeadFault bytes e ⊎ IsSalvageFault bytes e → IsHeadFault bytes f ⊎ IsSalvageFault bytes f → e ≢ File OutOfMemory → f ≢ File OutOfMemory → e ≡ f
one_file alone bytes e f (inl x) (inl y) m k = one_head bytes e f x y
one_file alone bytes e f (inl x) (inr y) m k = head_or_not bytes e y.fault x
one_file alone bytes e f (inr x) (inl y) m k = head_or_not bytes f x.fault y
one_file alone bytes e f (inr x) (inr y) m k =
    one_fault alone (head_in bytes) (dropped_before (dropped_in bytes) y.pieces) (136 + length y.rest) y.pieces e f (at_fault bytes x.rest y.rest x.pieces y.pieces e (one_walk _ _ _ _ _ _ _ x.walk y.walk) x.wrong) y.wrong m k

pub one_salvage_refusal : BeginNoOther → SalvageRefusalsAreUnique
one_salvage_refusal alone bytes salvage.OutOfMemory f x y m k = absurd (m refl)
one_salvage_refusal alone bytes e salvage.OutOfMemory x y m k = absurd (k refl)
one_salvage_refusal alone bytes (salvage.File a) (salvage.File b) x y m k = ap (λ (n : Damage). salvage.File n) (one_file alone bytes a b x.0 y.0 x.1 y.1)
one_salvage_refusal alone bytes (salvage.File a) salvage.NothingLeft x y m k = lost_or_file bytes a y x.0
one_salvage_refusal alone bytes salvage.NothingLeft (salvage.File b) x y m k = lost_or_file bytes b x y.0
one_salvage_refusal alone bytes salvage.NothingLeft salvage.NothingLeft x y m k = refl
