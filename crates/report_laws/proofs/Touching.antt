-- The point of the run that a row with its accesses is.
use Rattle.report_laws.proofs.Common.{◌≡◌, ◌⊎◌, inl, inr, ℕ, suc, ◌+◌, ◌*◌, ◌/◌, ◌%◌, ◌^◌, ◌<◌, ◌≤◌, Bool, true, false, ◌&&◌, ◌||◌, refl, sym, ap, ◌∙◌, subst, arith, List, [], ◌∷◌, map, Option, Some, None, ◌==◌, nat_lt, nat_le, slice_index, is_some, eq-eqb, eqb-true, Fault, Row, HartState, LoadedProgramsAreImages, accesses_from, access_point, is_write, Point, Access, Touched as Touch, sent, words_with, or_else, is_atomic, word_with, call_touch, loaded_touch, touch_of, words_from, RunRowsTellWords, RunCallsAccess, IsRowOfTurn, Recording, IsRecorded, IsPointOf, none-some, and_parts, or_cases, leb-true, ltb-true, some_is}
use Rattle.rv_meaning.specs.Rows.{at_address}
use Rattle.race_log.specs.declared.mode.Mode.{Mode}
use Rattle.race_log.specs.declared.mode.Mode.TheVariants.{Read, Write}
use Rattle.rv_meaning.specs.Words.{aligned}
use Rattle.run_model.specs.Machine.{word_count}
use Rattle.joint_replay.specs.Memory.{Bytes, call_result, filled}
use Rattle.row_laws.specs.Calls.{IsSendRow, HasCall}
use Rattle.row_laws.specs.Fills.{IsFillRow, result_of}
use Rattle.row_laws.specs.Words.{word_told, HasWord}

-- ---- tests

-- ---- the rows of calls

abbrev result_by : ℕ → Option ℕ → ℕ → Option (ℕ × ℕ) → Option ℕ
result_by number o x reg = elim o [ None ↦ None | Some w ↦ elim (w == 0x73 && (x == number)) [ true ↦ result_of reg | false ↦ None ] ]

is_result : (number : ℕ) (o : Option ℕ) (x n : ℕ) (reg : Option (ℕ × ℕ)) → result_by number o x reg ≡ Some n → (o ≡ Some 0x73) × (x ≡ number) × (result_of reg ≡ Some n)
is_result number None x n reg e = absurd (none-some n e)
is_result number (Some w) x n reg e = by (w == 0x73 && (x == number)) refl e
  where
    by : (b : Bool) → (w == 0x73 && (x == number)) ≡ b → elim b as (λ y. Option ℕ) [ true ↦ result_of reg | false ↦ None ] ≡ Some n → (Some w ≡ Some 0x73) × (x ≡ number) × (result_of reg ≡ Some n)
    by true f g = (ap Some (eqb-true w 0x73 (and_parts (w == 0x73) (x == number) f).0), eqb-true x number (and_parts (w == 0x73) (x == number) f).1, g)
    by false f g = absurd (none-some n g)

-- bytes, by the result of the call, a test of a0, and a1
abbrev bytes_by : Bool → ℕ → Option ℕ → Option Bytes
bytes_by test first o = elim o [ None ↦ None | Some n ↦ elim (test && (nat_lt 0 n && nat_le n 4096)) [ true ↦ Some (record { first = first; count = n }) | false ↦ None ] ]

record HasBytes (test : Bool) (first : ℕ) (o : Option ℕ) (b : Bytes) : Type 0 where
  pub result : o ≡ Some b.count
  pub file : test ≡ true
  pub low : 1 ≤ b.count
  pub high : b.count ≤ 4096
  pub first_is : b.first ≡ first

has_bytes : (test : Bool) (first : ℕ) (o : Option ℕ) (b : Bytes) → bytes_by test first o ≡ Some b → HasBytes test first o b
has_bytes test first None b e = absurd (none-some b e)
has_bytes test first (Some n) b e = by (test && (nat_lt 0 n && nat_le n 4096)) refl e
  where
    by : (t : Bool) → (test && (nat_lt 0 n && nat_le n 4096)) ≡ t → elim t as (λ y. Option Bytes) [ true ↦ Some (record { first = first; count = n }) | false ↦ None ] ≡ Some b → HasBytes test first (Some n) b
    by true f g =
        let p = and_parts test (nat_lt 0 n && nat_le n 4096) f in
        let q = and_parts (nat_lt 0 n) (nat_le n 4096) p.1 in
        let some : 0 < n = ltb-true 0 n q.0 in
        let bytes : Bytes = record { first = first; count = n } in
        subst (HasBytes test first (Some n)) (some_is bytes b (Some bytes) refl g) (record { result = refl; file = p.0; low = omega (arith, some); high = leb-true n 4096 q.1; first_is = refl })
    by false f g = absurd (none-some b g)

fill_row : (before : HartState) (row : Row) (b : Bytes) → filled before row ≡ Some b → IsFillRow before row b.count × (b.first ≡ slice_index before.x 11)
fill_row before row b e =
    let h = has_bytes (slice_index before.x 10 == 0) (slice_index before.x 11) (call_result 63 before row) b e in
    let g = is_result 63 row.word (slice_index before.x 17) b.count row.reg h.result in
    (record { ecall = g.0; number = g.1; file = eqb-true (slice_index before.x 10) 0 h.file; answered = g.2; low = h.low; high = h.high }, h.first_is)

send_row : (before : HartState) (row : Row) (b : Bytes) → sent before row ≡ Some b → IsSendRow before row b.count × (b.first ≡ slice_index before.x 11)
send_row before row b e =
    let a0 : ℕ = slice_index before.x 10 in
    let h = has_bytes (a0 == 1 || (a0 == 2)) (slice_index before.x 11) (call_result 64 before row) b e in
    let g = is_result 64 row.word (slice_index before.x 17) b.count row.reg h.result in
    (record { ecall = g.0; number = g.1; file = file (or_cases (a0 == 1) (a0 == 2) h.file); answered = g.2; low = h.low; high = h.high }, h.first_is)
  where
    file : ((slice_index before.x 10 == 1) ≡ true) ⊎ ((slice_index before.x 10 == 2) ≡ true) → (slice_index before.x 10 ≡ 1) ⊎ (slice_index before.x 10 ≡ 2)
    file (inl f) = inl (eqb-true (slice_index before.x 10) 1 f)
    file (inr f) = inr (eqb-true (slice_index before.x 10) 2 f)

-- ---- words one after another

same_accesses : (first n : ℕ) (writes : Bool) → first + 4 * n ≤ 2 ^ 32 → accesses_from first n writes ≡ map (λ w. record { word = w; writes = writes }) (words_from first n)
same_accesses first (suc (suc n)) writes low =
    let next : first + 4 ≡ (first + 4) % 2 ^ 32 = omega (arith, low) in
    ap (λ (xs : List Access). record { word = first; writes = writes } ∷ xs) (same_accesses (first + 4) (suc n) writes (omega (arith, low)))
    ∙ ap (λ (a : ℕ). record { word = first; writes = writes } ∷ map (λ w. record { word = w; writes = writes }) (words_from a (suc n))) next
same_accesses first n writes low = refl

call_accesses : (a n : ℕ) (writes : Bool) → 1 ≤ n → a + n ≤ 2 ^ 26 → accesses_from (aligned a) (word_count a n) writes ≡ map (λ w. record { word = w; writes = writes }) (words_from (aligned a) ((a % 4 + n + 3) / 4))
call_accesses a n writes low high =
    let count : word_count a n ≡ (a % 4 + n + 3) / 4 = omega arith in
    ap (λ (k : ℕ). accesses_from (aligned a) k writes) count ∙ same_accesses (aligned a) ((a % 4 + n + 3) / 4) writes (omega (arith, high))

-- ---- the point of a row

module _ (images : LoadedProgramsAreImages) (tell : RunRowsTellWords) (calls : RunCallsAccess) (r : Recording) (is : IsRecorded r) (h : ℕ) (before : HartState) (row : Row)
    (of_turn : IsRowOfTurn r.settings r.program r.input r.turns h before row) where
  abbrev Recorded : Touch → Type 0
  Recorded t = (place : ℕ) × IsPointOf r (record { hart = h; row = row; touch = t }) place

  abbrev told : Bool → ℕ → Touch
  told writes address = record { first = aligned address; count = 1; writes = writes; syncs = is_atomic row }

  of_word : (writes : Bool) (address word : ℕ) → is_some row.store ≡ writes → word_told row (aligned address) ≡ Some word → Recorded (told writes address)
  of_word writes address word stores e =
      let x : HasWord r.settings r.program r.input r.turns h row (aligned address) word = tell r.settings r.program r.input r.turns h before row (aligned address) word is.setting is.legal of_turn e in (
        x.place,
        record {
          point = x.point;
          at = x.at;
          hart = ap (λ (p : Point). p.hart) x.is;
          count = ap (λ (p : Point). p.count) x.is;
          accesses = ap (λ (p : Point). p.accesses) x.is ∙ ap (λ (b : Bool). record { word = aligned address; writes = b } ∷ []) stores;
        },
      )

  at_own : (access : ℕ × ℕ) (rest : Option ℕ) → at_address (aligned access.0) (Some access) rest ≡ Some access.1
  at_own access rest = ap (λ (b : Bool). elim b as (λ y. Option ℕ) [ true ↦ Some access.1 | false ↦ rest ]) (eq-eqb (aligned access.0) (aligned access.0) refl)

  of_store : (access : ℕ × ℕ) → row.store ≡ Some access → Recorded (told true access.0)
  of_store access e =
      of_word true access.0 access.1 (ap is_some e)
      (ap (λ (o : Option (ℕ × ℕ)). at_address (aligned access.0) o (at_address (aligned access.0) row.load None)) e ∙ at_own access (at_address (aligned access.0) row.load None))

  of_load : (access : ℕ × ℕ) → row.store ≡ None → row.load ≡ Some access → Recorded (told false access.0)
  of_load access none e =
      of_word false access.0 access.1 (ap is_some none)
      (ap (λ (o : Option (ℕ × ℕ)). at_address (aligned access.0) o (at_address (aligned access.0) row.load None)) none
      ∙ (ap (λ (o : Option (ℕ × ℕ)). at_address (aligned access.0) o None) e ∙ at_own access None))

  abbrev called : Bytes → Bool → Touch
  called b writes = record { first = aligned b.first; count = (b.first % 4 + b.count + 3) / 4; writes = writes; syncs = false }

  of_call : (b : Bytes) (mode : Mode) → 1 ≤ b.count → b.first ≡ slice_index before.x 11 → HasCall r.settings r.program r.input r.turns h row (slice_index before.x 11) b.count mode → Recorded (called b (is_write mode))
  of_call b mode low first_is c =
      let high = (images r.elf r.settings r.program is.bytes is.setting is.loaded).program.memory_high in
      let within = c.within in
      let point : c.point ≡ access_point h row.ic c.point.turn (aligned b.first) (word_count b.first b.count) mode =
      c.is ∙ ap (λ (a : ℕ). access_point h row.ic c.point.turn (aligned a) (word_count a b.count) mode) (sym first_is) in (
        c.place,
        record {
          point = c.point;
          at = c.at;
          hart = ap (λ (p : Point). p.hart) point;
          count = ap (λ (p : Point). p.count) point;
          accesses = ap (λ (p : Point). p.accesses) point ∙ call_accesses b.first b.count (is_write mode) low (omega (arith, first_is, within, high));
        },
      )

  of_fill : (b : Bytes) → filled before row ≡ Some b → Recorded (called b true)
  of_fill b e =
      let f = fill_row before row b e in
      of_call b Write f.0.low f.1 (calls.fills r.settings r.program r.input r.turns h before row b.count is.setting is.legal of_turn f.0)

  of_send : (b : Bytes) → sent before row ≡ Some b → Recorded (called b false)
  of_send b e =
      let f = send_row before row b e in
      of_call b Read f.0.low f.1 (calls.sends r.settings r.program r.input r.turns h before row b.count is.setting is.legal of_turn f.0)

  -- what is to be shown of each access
  abbrev IfSo : Option Touch → Type 0
  IfSo o = (t : Touch) → o ≡ Some t → Recorded t

  this : (u t : Touch) → Some u ≡ Some t → Recorded u → Recorded t
  this u t e x = subst Recorded (some_is u t (Some u) refl e) x

  by_send : (o : Option Bytes) → sent before row ≡ o → IfSo (words_with o false)
  by_send None e t f = absurd (none-some t f)
  by_send (Some b) e t f = this (called b false) t f (of_send b e)

  by_fill : (o : Option Bytes) → filled before row ≡ o → IfSo (or_else (words_with o true) (words_with (sent before row) false))
  by_fill None e t f = by_send (sent before row) refl t f
  by_fill (Some b) e t f = this (called b true) t f (of_fill b e)

  by_load : row.store ≡ None → (o : Option (ℕ × ℕ)) → row.load ≡ o → IfSo (or_else (word_with o false (is_atomic row)) (call_touch before row))
  by_load none None e t f = by_fill (filled before row) refl t f
  by_load none (Some access) e t f = this (told false access.0) t f (of_load access none e)

  by_store : (o : Option (ℕ × ℕ)) → row.store ≡ o → IfSo (or_else (word_with o true (is_atomic row)) (loaded_touch before row))
  by_store None e t f = by_load e row.load refl t f
  by_store (Some access) e t f = this (told true access.0) t f (of_store access e)

  by_fault : (o : Option (Fault × ℕ)) → IfSo (elim o as (λ y. Option Touch) [ Some f ↦ None | None ↦ or_else (word_with row.store true (is_atomic row)) (loaded_touch before row) ])
  by_fault (Some x) t f = absurd (none-some t f)
  by_fault None t f = by_store row.store refl t f

  pub row_is_recorded : (t : Touch) → touch_of before row ≡ Some t → (place : ℕ) × IsPointOf r (record { hart = h; row = row; touch = t }) place
  row_is_recorded t e = by_fault row.fault t e
