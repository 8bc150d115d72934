use Rattle.race_log.proofs.Common.{◌≡◌, ◌⊎◌, max, length, ◌≤◌, ◌<◌, ◌+◌, ◌/◌, ℕ, IsTrue, vec_len, kept_in, has_room, size_of}
use Rattle.race_log.proofs.words.KeptWords.make_pages.Given as goal

abbrev pub invariant-loop-number : goal.invariant-loop-number
invariant-loop-number l = record {
  harts : l.self.harts ≡ l.fn.self.harts;
  epochs : l.self.epochs ≡ l.fn.self.epochs;
  same : (w : ℕ) → kept_in l.self w ≡ kept_in l.fn.self w;
  stays : (w : ℕ) → IsTrue (has_room l.fn.self w) → IsTrue (has_room l.self w);
  pages : length l.self.pages.items ≤ max (length l.fn.self.pages.items) (l.last / 256 + 1);
  others : (page : ℕ) → (page < l.first / 256) ⊎ (l.number ≤ page) → size_of l.self page ≡ size_of l.fn.self page;
  count : l.last / 256 + 1 ≤ vec_len l.self.pages;
  limit : l.self.limit ≡ l.fn.self.limit;
  made : (w : ℕ) → l.first / 256 ≤ w / 256 → w / 256 < l.number → IsTrue (has_room l.self w);
}
