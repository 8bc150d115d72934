-- Caches of several harts, and their histories.
use Rattle.run_model.proofs.Common.{arith, refl, sym, ap, subst, ◌≡◌, ◌∙◌, ◌≢◌, ◌⊎◌, inl, inr, ℕ, ◌+◌, ◌<◌, ◌==◌, Bool, true, false, List, ◌∷◌, ◌++◌, length, get_or, set, take, drop, Option, Some, None, get_or-set_same, get_or-set_other, length-set, get_or_default, take-append-le, take_all, cases_eq, eq-eqb, ne_eqb, RawSettings, Event, Touch, Contents, RepresentsEvents, GoesOn, Plan, Span, dropped, events_after, no_cache, cache_of, steps_in, AreCaches, is_spared, IsDropped, IsSetTo}

-- ---- which of two histories

at_true : (c : Contents) (b : Bool) (x y : List Event) → b ≡ true → RepresentsEvents c x → RepresentsEvents c (elim b [ true ↦ x | false ↦ y ])
at_true c true x y e h = h
at_true c false x y e h = cc

at_false : (c : Contents) (b : Bool) (x y : List Event) → b ≡ false → RepresentsEvents c y → RepresentsEvents c (elim b [ true ↦ x | false ↦ y ])
at_false c true x y e h = cc
at_false c false x y e h = h

of_true : (c : Contents) (b : Bool) (x y : List Event) → b ≡ true → RepresentsEvents c (elim b [ true ↦ x | false ↦ y ]) → RepresentsEvents c x
of_true c true x y e h = h
of_true c false x y e h = cc

of_false : (c : Contents) (b : Bool) (x y : List Event) → b ≡ false → RepresentsEvents c (elim b [ true ↦ x | false ↦ y ]) → RepresentsEvents c y
of_false c true x y e h = cc
of_false c false x y e h = h

-- ---- one cache more

pub dropped_more : (spared : Option ℕ) (lost : List Event → List Event) (k : ℕ) (old now : List Contents) (any new : Contents) (b : Bool) → k < length now
    → b ≡ is_spared spared k → ((es : List Event) → RepresentsEvents (get_or now k any) es → RepresentsEvents new (elim b [ true ↦ es | false ↦ lost es ])) → new.geometry ≡ (get_or now k any).geometry → new.steps ≡ (get_or now k any).steps
    → IsDropped spared lost k old now → IsDropped spared lost (k + 1) old (set now k new)
dropped_more spared lost k old now any new b below is stands geometry steps d = record {
  count = length-set now k new ∙ d.count;
  geometry = λ j. geometry_at j (cases_eq j k);
  steps = λ j. steps_at j (cases_eq j k);
  done = λ j h es s. done j h es s (cases_eq j k);
  rest = λ j h. let other : j ≢ k = omega arith in get_or-set_other now k j new no_cache other ∙ d.rest j (omega arith);
}
  where
    here : cache_of (set now k new) k ≡ new
    here = get_or-set_same now k new no_cache below

    was_here : get_or now k any ≡ cache_of now k
    was_here = get_or_default now k any no_cache below

    geometry_at : (j : ℕ) → (j ≡ k) ⊎ (j ≢ k) → (cache_of (set now k new) j).geometry ≡ (cache_of old j).geometry
    geometry_at j (inl same) =
        let at : (cache_of (set now k new) k).geometry ≡ (cache_of old k).geometry =
        ap (λ (c : Contents). c.geometry) here ∙ geometry ∙ ap (λ (c : Contents). c.geometry) was_here ∙ d.geometry k in
        subst (λ (n : ℕ). (cache_of (set now k new) n).geometry ≡ (cache_of old n).geometry) (sym same) at
    geometry_at j (inr other) = ap (λ (c : Contents). c.geometry) (get_or-set_other now k j new no_cache other) ∙ d.geometry j

    steps_at : (j : ℕ) → (j ≡ k) ⊎ (j ≢ k) → steps_in (set now k new) j ≡ steps_in old j
    steps_at j (inl same) =
        let at : steps_in (set now k new) k ≡ steps_in old k = ap (λ (c : Contents). c.steps) here ∙ steps ∙ ap (λ (c : Contents). c.steps) was_here ∙ d.steps k in
        subst (λ (n : ℕ). steps_in (set now k new) n ≡ steps_in old n) (sym same) at
    steps_at j (inr other) = ap (λ (c : Contents). c.steps) (get_or-set_other now k j new no_cache other) ∙ d.steps j

    here_stands : (es : List Event) → RepresentsEvents (cache_of old k) es → RepresentsEvents (cache_of (set now k new) k) (elim (is_spared spared k) [ true ↦ es | false ↦ lost es ])
    here_stands es s =
        let before : RepresentsEvents (get_or now k any) es = subst (λ (c : Contents). RepresentsEvents c es) (sym (was_here ∙ d.rest k (omega arith))) s in
        let after : RepresentsEvents new (elim (is_spared spared k) [ true ↦ es | false ↦ lost es ]) =
        subst (λ (t : Bool). RepresentsEvents new (elim t [ true ↦ es | false ↦ lost es ])) is (stands es before) in
        subst (λ (c : Contents). RepresentsEvents c (elim (is_spared spared k) [ true ↦ es | false ↦ lost es ])) (sym here) after

    done : (j : ℕ) → j < k + 1 → (es : List Event) → RepresentsEvents (cache_of old j) es → (j ≡ k) ⊎ (j ≢ k)
        → RepresentsEvents (cache_of (set now k new) j) (elim (is_spared spared j) [ true ↦ es | false ↦ lost es ])
    done j h es s (inl same) =
        let s_here : RepresentsEvents (cache_of old k) es = subst (λ (n : ℕ). RepresentsEvents (cache_of old n) es) same s in
        subst (λ (n : ℕ). RepresentsEvents (cache_of (set now k new) n) (elim (is_spared spared n) [ true ↦ es | false ↦ lost es ])) (sym same) (here_stands es s_here)
    done j h es s (inr other) =
        subst (λ (c : Contents). RepresentsEvents c (elim (is_spared spared j) [ true ↦ es | false ↦ lost es ])) (sym (get_or-set_other now k j new no_cache other)) (d.done j (omega arith) es s)

-- ---- an access of hart h: its word is touched, then what is written is dropped from the others

pub access_stands : (c : RawSettings) (old mid new : List Contents) (h : ℕ) (s : Span) (events : ℕ → List Event) → h < length old → IsSetTo h (Touch s.first) old mid
    → IsDropped (Some h) (dropped s) (length mid) mid new → AreCaches c old events → AreCaches c new (events_after GoesOn h None (Some s) events)
access_stands c old mid new h s events below t d a = record {
  count = d.count ∙ t.count ∙ a.count;
  geometry = λ k in_harts. d.geometry k ∙ t.geometry k ∙ a.geometry k in_harts;
  stands = λ k in_harts. each k in_harts (cases_eq k h);
}
  where
    within : (k : ℕ) → k < c.harts → k < length mid
    within k in_harts = omega (arith, t.count, a.count, in_harts)

    own : RepresentsEvents (cache_of new h) (Touch s.first ∷ events h)
    own =
        of_true (cache_of new h) (h == h) (Touch s.first ∷ events h) (dropped s (Touch s.first ∷ events h)) (eq-eqb h h refl)
        (d.done h (omega (arith, t.count, below)) (Touch s.first ∷ events h) (t.own (events h) (a.stands h (omega (arith, a.count, below)))))

    each : (k : ℕ) → k < c.harts → (k ≡ h) ⊎ (k ≢ h) → RepresentsEvents (cache_of new k) (events_after GoesOn h None (Some s) events k)
    each k in_harts (inl same) =
        let at : RepresentsEvents (cache_of new k) (Touch s.first ∷ events h) = subst (λ (n : ℕ). RepresentsEvents (cache_of new n) (Touch s.first ∷ events h)) (sym same) own in
        at_true (cache_of new k) (k == h) (Touch s.first ∷ events h) (dropped s (events k)) (eq-eqb k h same) at
    each k in_harts (inr other) =
        let before : RepresentsEvents (cache_of mid k) (events k) = subst (λ (x : Contents). RepresentsEvents x (events k)) (sym (t.others k other)) (a.stands k in_harts) in
        let after : RepresentsEvents (cache_of new k) (dropped s (events k)) =
        of_false (cache_of new k) (k == h) (events k) (dropped s (events k)) (ne_eqb k h other) (d.done k (within k in_harts) (events k) before) in
        at_false (cache_of new k) (k == h) (Touch s.first ∷ events h) (dropped s (events k)) (ne_eqb k h other) after

-- ---- a system call of hart h: what it writes is dropped from all

pub call_stands : (c : RawSettings) (old new : List Contents) (h : ℕ) (p : Plan) (s : Span) (events : ℕ → List Event) → IsDropped None (dropped s) (length old) old new
    → AreCaches c old events → AreCaches c new (events_after GoesOn h (Some p) (Some s) events)
call_stands c old new h p s events d a = record {
  count = d.count ∙ a.count;
  geometry = λ k in_harts. d.geometry k ∙ a.geometry k in_harts;
  stands = λ k in_harts. each k (d.done k (omega (arith, a.count, in_harts)) (events k) (a.stands k in_harts)) (cases_eq k h);
}
  where
    each : (k : ℕ) → RepresentsEvents (cache_of new k) (dropped s (events k)) → (k ≡ h) ⊎ (k ≢ h) → RepresentsEvents (cache_of new k) (events_after GoesOn h (Some p) (Some s) events k)
    each k after (inl same) =
        at_true (cache_of new k) (k == h) (dropped s (events h)) (dropped s (events k)) (eq-eqb k h same) (subst (λ (n : ℕ). RepresentsEvents (cache_of new k) (dropped s (events n))) same after)
    each k after (inr other) = at_false (cache_of new k) (k == h) (dropped s (events h)) (dropped s (events k)) (ne_eqb k h other) after

-- ---- what is written through a slice of all items

pub written_back : {X : Type 0} (n : ℕ) (xs ys : List X) → length xs ≡ length ys → length ys ≡ n → take n (xs ++ drop (length xs) ys) ≡ xs
written_back n xs ys same len = take-append-le n xs (drop (length xs) ys) (omega (arith, same, len)) ∙ take_all n xs (omega (arith, same, len))
