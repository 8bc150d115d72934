use Rattle.hart_replay.proofs.Common.{◌/◌, ◌%◌, ◌^◌, inl, inr, ap, ◌∙◌, List, slice_get, cases_lt, page_at, page_in, place_for, word_of, TaggedPage}
use Rattle.hart_replay.proofs.Listed.{word_listed, none_past}
use Rattle.hart_replay.proofs.words.Words.new.Goals as goal

pub returns : goal.returns
returns c k =
    let f = page_at (place_for c.new.result) c.new-2.result.items in
    elim (cases_lt (k / 64) (2 ^ 24)) [
      | inl within ↦ word_listed f k within ∙ ap (λ (xs : List TaggedPage). word_of (page_in (slice_get xs (place_for c.new.result (k / 64))) (k / 64)) (k % 64)) c.new-2.ensures.items
      | inr past ↦ none_past f k past
    ]
