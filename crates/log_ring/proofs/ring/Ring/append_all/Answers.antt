use Rattle.log_ring.proofs.Common.{◌≡◌, ◌+◌, ◌-◌, ℕ, length, ap, refl, arith, Record, Fits, bytes_of, total, Held, ◌∙◌, ◌≤◌, List, [], ◌∷◌, ◌++◌, drop, sym, ap₂, append_assoc, length-append, flat_map, AllByRecursion, Buffer, buffer, keep_last, TellTheirSize, AreRead, records_in, IsWhole, kept, held}
use Rattle.log_ring.proofs.Cuts.{records_in-bytes, whole_of}
use Rattle.log_ring.proofs.Fitting.{kept-appends}
use Rattle.log_ring.proofs.Waits.{still_holds}
use Rattle.log_ring.proofs.ring.Ring.append_all.Goals as goal

-- What a ring holds after an append of several records.
all-append : (xs ys : List Record) → AllByRecursion (Fits 2) xs → AllByRecursion (Fits 2) ys → AllByRecursion (Fits 2) (xs ++ ys)
all-append [] ys fit more = more
all-append (x ∷ xs) ys fit more = (fit.0, all-append xs ys fit.1 more)

flat_map-append : (xs ys : List Record) → flat_map bytes_of (xs ++ ys) ≡ flat_map bytes_of xs ++ flat_map bytes_of ys
flat_map-append [] ys = refl
flat_map-append (x ∷ xs) ys = ap (λ (t : List ℕ). bytes_of x ++ t) (flat_map-append xs ys) ∙ sym (append_assoc (bytes_of x) (flat_map bytes_of xs) (flat_map bytes_of ys))

keep_all : (n : ℕ) (xs : List ℕ) → length xs ≤ n → keep_last n xs ≡ xs
keep_all n xs le = let none : length xs - n ≡ 0 = omega arith in ap (λ (k : ℕ). drop k xs) none

-- the bytes and the capacity after an append by which m records went
record Pushed (old : Held) (rs : List Record) (b : Buffer ℕ) (m : ℕ) : Type 0 where
  whole : IsWhole b.items
  capacity : b.capacity ≡ old.size
  latest : records_in b.items ≡ kept old.size (old.records ++ rs)
  count : m + length (records_in b.items) ≡ length old.records + length rs

pushed : TellTheirSize → AreRead → (old : Held) (xs : List ℕ) (dropped capacity size room m : ℕ) (mid b : Buffer ℕ) (text : List ℕ) (rs : List Record)
    → held (records_in xs) dropped capacity ≡ old → AllByRecursion (Fits 2) rs → text ≡ flat_map bytes_of rs → size ≡ length text → room ≡ capacity - size → size ≤ capacity
    → IsWhole mid.items → mid.capacity ≡ capacity → records_in mid.items ≡ kept room (records_in xs) → length mid.items ≤ room → m + length (records_in mid.items) ≡ length (records_in xs)
    → b ≡ buffer (keep_last mid.capacity (mid.items ++ text)) mid.capacity → Pushed old rs b m
pushed tell read old xs dropped capacity size room m mid b text rs view fits text_is size_is room_is within whole mid_capacity mid_records mid_room count out =
    let under : length (mid.items ++ text) ≤ mid.capacity = omega (arith, length-append mid.items text) in
    let items : b.items ≡ mid.items ++ flat_map bytes_of rs = ap (λ (x : Buffer ℕ). x.items) out ∙ keep_all mid.capacity (mid.items ++ text) under ∙ ap (λ (t : List ℕ). mid.items ++ t) text_is in
    let fit = all-append (records_in mid.items) rs whole.fit fits in
    let joined : flat_map bytes_of (records_in mid.items ++ rs) ≡ b.items = flat_map-append (records_in mid.items) rs ∙ ap (λ (t : List ℕ). t ++ flat_map bytes_of rs) whole.joined ∙ sym items in
    let both : records_in b.items ≡ records_in mid.items ++ rs = records_in-bytes tell read b.items (records_in mid.items ++ rs) fit joined in
    let records : records_in xs ≡ old.records = ap (λ (h : Held). h.records) view in
    let capacity_is : capacity ≡ old.size = ap (λ (h : Held). h.size) view in
    let fill : room + total rs ≡ capacity = omega (arith, ap length text_is) in
    let latest : records_in b.items ≡ kept capacity (records_in xs ++ rs) =
    both ∙ ap (λ (ys : List Record). ys ++ rs) mid_records ∙ sym (kept-appends room capacity (records_in xs) rs fill) in
    record {
      whole = whole_of tell read b.items (records_in mid.items ++ rs) fit joined;
      capacity = ap (λ (x : Buffer ℕ). x.capacity) out ∙ mid_capacity ∙ capacity_is;
      latest = latest ∙ ap₂ (λ (n : ℕ) (ys : List Record). kept n (ys ++ rs)) capacity_is records;
      count = omega (arith, ap length both, length-append (records_in mid.items) rs, ap length records);
    }

after : (c : goal.After-extend_from_slice) (rs : List Record) → AllByRecursion (Fits 2) rs → c.args.more.now ≡ flat_map bytes_of rs → Pushed c.args.self.now rs c.extend_from_slice.new.self c.make_room.result
after c rs fits bytes = pushed c.tags_tell_sizes.ensures.front c.written_records_are_read.ensures c.args.self.now c.self.inside.bytes.items c.self.inside.dropped c.self.inside.bytes.capacity (length c.args.more.now) (c.capacity.result - length c.args.more.now) c.make_room.result c.make_room.new.bytes c.extend_from_slice.new.self
    c.args.more.now rs c.self.view_is fits bytes refl
    (ap (λ (n : ℕ). n - length c.args.more.now) c.capacity.ensures.capacity) (omega (arith, c.requires.size, ap (λ (h : Held). h.size) c.self.view_is))
    c.make_room.ensures.whole c.make_room.ensures.capacity c.make_room.ensures.records c.make_room.ensures.room c.make_room.ensures.count c.extend_from_slice.ensures

pub invariant_of-self : goal.invariant_of-self
invariant_of-self c =
    let r = c.requires.records in
    let p = after c r.0 r.1 r.2 in
    (p.whole, omega (arith, p.capacity, ap (λ (h : Held). h.size) c.self.view_is, c.self.invariant.1))

-- all are counted
counted_is : (old new : Held) (n gone : ℕ) → new.dropped ≡ old.dropped + gone → gone + length new.records ≡ length old.records + n → new.dropped + length new.records ≡ old.dropped + length old.records + n
counted_is old new n gone dropped count = omega (arith, dropped, count)

pub returns : goal.returns
returns c rs fits bytes =
    let p = after c rs fits bytes in
    let new : Held = held (records_in c.extend_from_slice.new.self.items) (c.self.inside.dropped + c.make_room.result) c.extend_from_slice.new.self.capacity in
    let dropped = ap (λ (h : Held). h.dropped + c.make_room.result) c.self.view_is in
    record {
      latest = p.latest;
      counted = counted_is c.args.self.now new (length rs) c.make_room.result dropped p.count;
      size = p.capacity;
      holds = still_holds c.args.self.now new rs p.latest (counted_is c.args.self.now new (length rs) c.make_room.result dropped p.count) p.capacity;
    }
