use Rattle.std.proofs.Common.{sym}
use Rattle.run_model.proofs.Common.{◌≡◌, ◌+◌, ◌-◌, ◌*◌, ℕ, zero, suc, List, ◌∷◌, ap, ◌∙◌, arith, subst, refl, Event, Drop, line_of, Contents, RepresentsEvents, drops}
use Rattle.run_model.proofs.caches.drop_word.Goals as goal

-- The line of a word that is the line of the word before it, too, need not be dropped again.

-- a second drop of a line right after the first changes nothing
abbrev DropsOnce : Type 0
DropsOnce = (c : Contents) (a b : ℕ) (es : List Event) → line_of c.geometry a ≡ line_of c.geometry b → RepresentsEvents c (Drop b ∷ es) → RepresentsEvents c (Drop a ∷ Drop b ∷ es)

-- one more word is dropped
after : (c : Contents) (first place : ℕ) (es : List Event) → RepresentsEvents c (Drop (first + 4 * place) ∷ drops first place es) → RepresentsEvents c (drops first (place + 1) es)
after c first place es s =
    let more : suc place ≡ place + 1 = omega arith in
    subst (λ (n : ℕ). RepresentsEvents c (drops first n es)) more s

again : DropsOnce → (c : Contents) (first place : ℕ) (es : List Event) → (place ≡ 0 → ⊥) → line_of c.geometry (first + 4 * place) ≡ line_of c.geometry (first + 4 * place - 4)
    → RepresentsEvents c (drops first place es) → RepresentsEvents c (drops first (place + 1) es)
again once c first zero es some same s = absurd (some refl)
again once c first (suc m) es some same s =
    let before : first + 4 * suc m - 4 ≡ first + 4 * m = omega arith in
    after c first (suc m) es (once c (first + 4 * suc m) (first + 4 * m) (drops first m es) (same ∙ ap (λ (a : ℕ). line_of c.geometry a) before) s)

pub returns-then-place-eq0-clause-stands : goal.returns-then-place-eq0-clause-stands
returns-then-place-eq0-clause-stands c = λ es s. after c.drop_line.new.self c.args.first c.args.place es (c.drop_line.ensures.stands _ s)

pub returns-else-line_of-clause-stands : goal.returns-else-line_of-clause-stands
returns-else-line_of-clause-stands c = λ es s.
    again c.a_second_drop_changes_nothing.ensures c.args.cache.now c.args.first c.args.place es c.if-place-eq0.false
    (sym c.line_of.ensures ∙ c.if-line_of.false ∙ c.line_of-else-place-eq0.ensures) s
