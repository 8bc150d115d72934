use Rattle.race_log.proofs.Common.{◌≡◌, ℕ, zero, suc, ◌<◌, ◌/◌, ◌%◌, ◌==◌, List, [], ◌∷◌, map, cond, refl, sym, ◌∙◌, ap, ap₂, subst, slice_get, Option, Some, None, nat_lt, ◌&&◌, All, Vec, Global, Shadow, Slot, CountsOf, OwnUpTo, Kept, Suffices, has_bit, counts_in, word_in, slots_of, counts_at, place_of, is_live, kept_of}
use Rattle.race_log.specs.Noted.{Noted, noted, NotesDecide}
use Rattle.race_log.proofs.laws.notes_decide.Goals as goal

-- What a shadow notes decides for which runs it stands.

slots_or : Option (List Slot) → List Slot
slots_or None = []
slots_or (Some slots) = slots

page_same : (pages : List (Vec Slot Global)) (n : ℕ) → slots_of (slice_get pages n) ≡ slots_or (slice_get (map (λ (page : Vec Slot Global). page.items) pages) n)
unfolding slots_or
page_same [] zero = refl
page_same [] (suc n) = refl
page_same (p ∷ pages) zero = refl
page_same (p ∷ pages) (suc n) = page_same pages n

-- what is kept of a word, by what is noted
kept_by_notes : Noted → ℕ → List Kept
kept_by_notes n word = cond (word % 4 == 0) (word_in (counts_in n.epochs) n.harts (slots_or (slice_get n.pages (word / 256))) (place_of n.harts word)) []

kept_noted : (s : Shadow) (word : ℕ) → kept_of s word ≡ kept_by_notes (noted s) word
unfolding kept_by_notes
kept_noted s word =
    ap₂ (λ harts page. cond (word % 4 == 0) (word_in (counts_in s.words.epochs.table.items) harts page (place_of harts word)) []) s.same_harts
    (page_same s.words.pages.items (word / 256))

notes : NotesDecide
notes one other e run live st = record {
  in_order = st.in_order;
  harts = subst (λ (n : ℕ). All (λ p. p.hart < n) run) (ap (λ (n : Noted). n.harts) e) st.harts;
  past = subst (λ (n : ℕ). All (λ p. p.turn < n) run) (ap (λ (n : Noted). n.turn) e) st.past;
  own = λ hart below. subst (λ (counts : ℕ → ℕ). CountsOf run (OwnUpTo run hart) counts) (ap (λ (n : Noted). counts_at (slice_get n.times hart)) e)
      (st.own hart (subst (λ (n : ℕ). hart < n) (ap (λ (n : Noted). n.harts) (sym e)) below));
  kept = λ word. subst (λ (n : Noted). Suffices run (λ hart. nat_lt hart n.harts && has_bit n.lasting hart && live hart) word (kept_of other word)) e
      (subst (Suffices run (is_live one live) word) (kept_noted one word ∙ (ap (λ n. kept_by_notes n word) e ∙ sym (kept_noted other word))) (st.kept word));
}

pub returns : goal.returns
returns c = λ one other e run live st. notes one other e run live st
