use Rattle.log_ring.proofs.Common.{◌≡◌, ◌+◌, ◌-◌, ℕ, length, ap, refl, arith, Record, Fits, bytes_of, Held, ◌∙◌, ◌≤◌, List, [], ◌∷◌, ◌++◌, drop, sym, ap₂, length-append, Buffer, buffer, keep_last, Some, Header, FirstLoad, ScOk, ScFailed, Edge, End, TellTheirSize, AreRead, records_in, IsWhole, kept, held, HoldsLog, GivesUp}
use Rattle.log_ring.proofs.Cuts.{pushed_whole}
use Rattle.log_ring.proofs.Fitting.{kept-suffix, kept-kept, kept-append}
use Rattle.log_ring.proofs.ring.Ring.append_bytes.Goals as goal

-- What a ring holds after an append.
keep_all : (n : ℕ) (xs : List ℕ) → length xs ≤ n → keep_last n xs ≡ xs
keep_all n xs le = let none : length xs - n ≡ 0 = omega arith in ap (λ (k : ℕ). drop k xs) none

-- so many records went as the count says
gives_up : (old new : Held) (r : Record) (gone : ℕ) → new.records ≡ kept old.size (old.records ++ r ∷ []) → new.dropped ≡ old.dropped + gone
    → gone + length new.records ≡ length old.records + 1 → gone ≤ 73 → GivesUp old r new
gives_up old new r gone latest dropped count few =
    let f = kept-suffix old.size (old.records ++ r ∷ []) in
    let parts : old.records ++ r ∷ [] ≡ f.0 ++ new.records = f.1 ∙ ap (λ (xs : List Record). f.0 ++ xs) (sym latest) in
    let gone_is : gone ≡ length f.0 = omega (arith, ap length parts, length-append f.0 new.records, length-append old.records (r ∷ [])) in
    record { front = f.0; parts = parts; dropped = omega arith; few = omega arith }

-- after an append a ring still holds what is kept
still_holds : (old new : Held) (r : Record) (gone : ℕ) → new.records ≡ kept old.size (old.records ++ r ∷ []) → new.dropped ≡ old.dropped + gone
    → gone + length new.records ≡ length old.records + 1 → new.size ≡ old.size → (appended : List Record) → HoldsLog old appended → HoldsLog new (appended ++ r ∷ [])
still_holds old new r gone latest dropped count size appended holds = record {
  latest = latest ∙ ap (λ (xs : List Record). kept old.size (xs ++ r ∷ [])) holds.latest ∙ kept-kept old.size appended r ∙ ap (λ (n : ℕ). kept n (appended ++ r ∷ [])) (sym size);
  counted = omega (arith, holds.counted, length-append appended (r ∷ []));
}

-- the bytes and the capacity after an append by which m records went
record Pushed (old : Held) (r : Record) (b : Buffer ℕ) (m : ℕ) : Type 0 where
  whole : IsWhole b.items
  capacity : b.capacity ≡ old.size
  latest : records_in b.items ≡ kept old.size (old.records ++ r ∷ [])
  count : m + length (records_in b.items) ≡ length old.records + 1

pushed : TellTheirSize → AreRead → (old : Held) (xs : List ℕ) (dropped capacity size room m : ℕ) (mid b : Buffer ℕ) (text : List ℕ) (r : Record)
    → held (records_in xs) dropped capacity ≡ old → Fits 2 r → text ≡ bytes_of r → size ≡ length text → room ≡ capacity - size → size ≤ capacity
    → IsWhole mid.items → mid.capacity ≡ capacity → records_in mid.items ≡ kept room (records_in xs) → length mid.items ≤ room → m + length (records_in mid.items) ≡ length (records_in xs)
    → b ≡ buffer (keep_last mid.capacity (mid.items ++ text)) mid.capacity → Pushed old r b m
pushed tell read old xs dropped capacity size room m mid b text r view fits text_is size_is room_is within whole mid_capacity mid_records mid_room count out =
    let under : length (mid.items ++ text) ≤ mid.capacity = omega (arith, length-append mid.items text) in
    let items : b.items ≡ mid.items ++ bytes_of r = ap (λ (x : Buffer ℕ). x.items) out ∙ keep_all mid.capacity (mid.items ++ text) under ∙ ap (λ (t : List ℕ). mid.items ++ t) text_is in
    let both = pushed_whole tell read mid.items b.items r whole fits items in
    let records : records_in xs ≡ old.records = ap (λ (h : Held). h.records) view in
    let capacity_is : capacity ≡ old.size = ap (λ (h : Held). h.size) view in
    let fill : room + length (bytes_of r) ≡ capacity = omega (arith, ap length text_is) in
    let latest : records_in b.items ≡ kept capacity (records_in xs ++ r ∷ []) =
    both.1 ∙ ap (λ (rs : List Record). rs ++ r ∷ []) mid_records ∙ sym (kept-append room capacity (records_in xs) r fill) in
    record {
      whole = both.0;
      capacity = ap (λ (x : Buffer ℕ). x.capacity) out ∙ mid_capacity ∙ capacity_is;
      latest = latest ∙ ap₂ (λ (n : ℕ) (rs : List Record). kept n (rs ++ r ∷ [])) capacity_is records;
      count = omega (arith, ap length both.1, length-append (records_in mid.items) (r ∷ []), ap length records);
    }

-- a record has at most 146 bytes
same_some : (m n : ℕ) → m ≤ 146 → Some m ≡ Some n → n ≤ 146
same_some m n few e = let same : m ≡ n = cc in omega (arith, same, few)

longest : TellTheirSize → (r : Record) → Fits 2 r → length (bytes_of r) ≤ 146
longest tell (Header h n ic pc x) fits = same_some 146 _ (omega arith) (tell (Header h n ic pc x) [] fits.fields)
longest tell (FirstLoad h skip value) fits = same_some 10 _ (omega arith) (tell (FirstLoad h skip value) [] fits.fields)
longest tell (ScOk h) fits = omega arith
longest tell (ScFailed h) fits = omega arith
longest tell (Edge h ic s j) fits = same_some 19 _ (omega arith) (tell (Edge h ic s j) [] fits.fields)
longest tell (End h mark) fits = same_some 15 _ (omega arith) (tell (End h mark) [] fits.fields)

after : (c : goal.After-extend_from_slice) (r : Record) → Fits 2 r → c.args.newest.now ≡ bytes_of r → Pushed c.args.self.now r c.extend_from_slice.new.self c.make_room.result
after c r fits bytes = pushed c.tags_tell_sizes.ensures.front c.written_records_are_read.ensures c.args.self.now c.self.inside.bytes.items c.self.inside.dropped c.self.inside.bytes.capacity (length c.args.newest.now) (c.capacity.result - length c.args.newest.now) c.make_room.result c.make_room.new.bytes c.extend_from_slice.new.self
    c.args.newest.now r c.self.view_is fits bytes refl
    (ap (λ (n : ℕ). n - length c.args.newest.now) c.capacity.ensures.capacity) (omega (arith, longest c.tags_tell_sizes.ensures.front r fits, ap length bytes, c.self.invariant.1))
    c.make_room.ensures.whole c.make_room.ensures.capacity c.make_room.ensures.records c.make_room.ensures.room c.make_room.ensures.count c.extend_from_slice.ensures

pub invariant_of-self : goal.invariant_of-self
invariant_of-self c =
    let r = c.requires.record in
    let p = after c r.0 r.1 r.2 in
    (p.whole, omega (arith, p.capacity, ap (λ (h : Held). h.size) c.self.view_is, c.self.invariant.1))

pub returns : goal.returns
returns c r fits bytes =
    let p = after c r fits bytes in
    let dropped = ap (λ (h : Held). h.dropped + c.make_room.result) c.self.view_is in
    record {
      latest = p.latest;
      given_up = gives_up c.args.self.now _ r c.make_room.result p.latest dropped p.count (c.make_room.ensures.few (omega (arith, longest c.tags_tell_sizes.ensures.front r fits, ap length bytes, c.capacity.ensures.capacity, c.capacity.ensures.within.0)));
      size = p.capacity;
      holds = still_holds c.args.self.now _ r c.make_room.result p.latest dropped p.count p.capacity;
    }
