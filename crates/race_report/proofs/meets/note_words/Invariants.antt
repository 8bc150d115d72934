use Rattle.race_report.proofs.Common.{◌≡◌, ◌-◌, ◌<◌, ◌%◌, ℕ, List, length, words_from, AreBelow, noted, IsTracked}
use Rattle.race_report.proofs.meets.note_words.Given as goal

abbrev pub invariant-loop : goal.invariant-loop
invariant-loop l = record {
  aligned : l.word % 4 ≡ 0;
  harts : length l.track.heads.items ≡ length l.fn.track.heads.items;
  below : (count : ℕ) → l.place < count → AreBelow count l.fn.track.entries.items → AreBelow count l.track.entries.items;
  noted : (h w : ℕ) (ps : List ℕ) → w % 4 ≡ 0 → IsTracked l.fn.track h w ps
      → (qs : List ℕ) × IsTracked l.track h w qs × (noted h w l.hart l.place (words_from l.word (l.fn.touch.count - l.counter)) qs ≡ noted h w l.hart l.place (words_from l.fn.touch.first l.fn.touch.count) ps);
}
