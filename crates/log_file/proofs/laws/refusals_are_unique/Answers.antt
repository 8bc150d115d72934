use Rattle.log_file.proofs.Common.{◌≡◌, ℕ, List, refl, sym, ap, ◌∙◌, inl, inr, ◌≢◌, Head, bytes_of, total, Fits, BeginNoOther, OrderBreak, order_break, broken_by, FileError, Short, BadMagic, BadVersion, BadHead, LengthDiffers, DigestDiffers, BadRecord, BadOrder, OutOfMemory, NoRecord, BreaksOrder, IsRecordsFault, IsRefusal}
use Rattle.log_file.proofs.Rows.{no_stop, one_row, one_stop}
use Rattle.log_file.proofs.Again.{records_free}
use Rattle.log_file.proofs.Causes.{same_some, none_some}
use Rattle.log_file.proofs.laws.refusals_are_unique.Goals as goal

-- Bytes have at most one first cause for a refusal.

-- by the law that no record's bytes begin another's
module _ (alone : BeginNoOther) where
  one_place : (bytes : List ℕ) (p q : ℕ) → NoRecord 1 bytes p → NoRecord 1 bytes q → p ≡ q
  one_place bytes p q x y =
      let same = one_stop bytes_of (Fits 1) (records_free alone 1) x.before y.before x.rest y.rest x.fit y.fit (sym x.parts ∙ y.parts) x.none y.none in
      x.place_is ∙ ap total same ∙ sym y.place_is

  whole_or_not : (head : Head) (dropped : ℕ) (bytes : List ℕ) (p q rule : ℕ) → NoRecord 1 bytes p → BreaksOrder head dropped bytes q rule → ⊥
  whole_or_not head dropped bytes p q rule x y = no_stop bytes_of (Fits 1) (records_free alone 1) y.records x.before x.rest y.fit x.fit (sym y.parts ∙ x.parts) x.more x.none

  one_break : (head : Head) (dropped : ℕ) (bytes : List ℕ) (p q a b : ℕ) → BreaksOrder head dropped bytes p a → BreaksOrder head dropped bytes q b → order_break p a ≡ order_break q b
  one_break head dropped bytes p q a b x y =
      let same = one_row bytes_of (Fits 1) (records_free alone 1) x.records y.records x.fit y.fit (sym x.parts ∙ y.parts) in
      same_some (order_break p a) (order_break q b) (sym x.first ∙ ap (broken_by head.settings dropped) same ∙ y.first)

  one_fault : (head : Head) (dropped : ℕ) (bytes : List ℕ) (e f : FileError) → IsRecordsFault head dropped bytes e → IsRecordsFault head dropped bytes f → e ≢ OutOfMemory → f ≢ OutOfMemory → e ≡ f
  one_fault head dropped bytes (Short n) f x y m k = absurd x
  one_fault head dropped bytes BadMagic f x y m k = absurd x
  one_fault head dropped bytes (BadVersion found) f x y m k = absurd x
  one_fault head dropped bytes (BadHead field value) f x y m k = absurd x
  one_fault head dropped bytes (LengthDiffers said found) f x y m k = absurd x
  one_fault head dropped bytes (DigestDiffers kept found) f x y m k = absurd x
  one_fault head dropped bytes OutOfMemory f x y m k = absurd (m refl)
  one_fault head dropped bytes (BadRecord p) (Short n) x y m k = absurd y
  one_fault head dropped bytes (BadRecord p) BadMagic x y m k = absurd y
  one_fault head dropped bytes (BadRecord p) (BadVersion found) x y m k = absurd y
  one_fault head dropped bytes (BadRecord p) (BadHead field value) x y m k = absurd y
  one_fault head dropped bytes (BadRecord p) (LengthDiffers said found) x y m k = absurd y
  one_fault head dropped bytes (BadRecord p) (DigestDiffers kept found) x y m k = absurd y
  one_fault head dropped bytes (BadRecord p) (BadRecord q) x y m k = ap (λ (n : ℕ). BadRecord n) (one_place bytes p q x y)
  one_fault head dropped bytes (BadRecord p) (BadOrder q b) x y m k = absurd (whole_or_not head dropped bytes p q b x y)
  one_fault head dropped bytes (BadRecord p) OutOfMemory x y m k = absurd (k refl)
  one_fault head dropped bytes (BadOrder p a) (Short n) x y m k = absurd y
  one_fault head dropped bytes (BadOrder p a) BadMagic x y m k = absurd y
  one_fault head dropped bytes (BadOrder p a) (BadVersion found) x y m k = absurd y
  one_fault head dropped bytes (BadOrder p a) (BadHead field value) x y m k = absurd y
  one_fault head dropped bytes (BadOrder p a) (LengthDiffers said found) x y m k = absurd y
  one_fault head dropped bytes (BadOrder p a) (DigestDiffers kept found) x y m k = absurd y
  one_fault head dropped bytes (BadOrder p a) (BadRecord q) x y m k = absurd (whole_or_not head dropped bytes q p a y x)
  one_fault head dropped bytes (BadOrder p a) (BadOrder q b) x y m k = ap (λ (o : OrderBreak). BadOrder o.at o.rule) (one_break head dropped bytes p q a b x y)
  one_fault head dropped bytes (BadOrder p a) OutOfMemory x y m k = absurd (k refl)

  pub one_refusal : (bytes : List ℕ) (e f : FileError) → IsRefusal bytes e → IsRefusal bytes f → e ≢ OutOfMemory → f ≢ OutOfMemory → e ≡ f
  one_refusal bytes e f x y m k =
      elim x [
        | inl a ↦
            elim y [
              | inl b ↦ same_some e f (sym a ∙ b)
              | inr b ↦ none_some e (sym b.0 ∙ a)
            ]
        | inr a ↦
            elim y [
              | inl b ↦ none_some f (sym a.0 ∙ b)
              | inr b ↦ one_fault _ _ _ e f a.1 b.1 m k
            ]
      ]

pub returns : goal.returns
returns c = one_refusal c.no_record_begins_another.ensures
