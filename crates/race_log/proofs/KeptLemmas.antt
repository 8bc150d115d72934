-- What is kept of a word after one more point.
use Rattle.race_log.proofs.Common.{◌≡◌, ℕ, Bool, true, false, not, ◌&&◌, ◌||◌, ◌⊎◌, ◌==◌, refl, inl, inr, sym, ap, ◌∙◌, List, [], ◌∷◌, length, slice_get, Some, filter, subst, Point, Before, touches, writes_word, IsInOrder, UpTo, TimesOf, Kept, is_write, Replaces, after, In, KeptAt, AllKnow, Suffices, stays}
use Rattle.race_log.proofs.BoolFacts.{or_second, known, same_number, other_number}
use Rattle.race_log.proofs.Agree.{is_touches, writes_is, any_map}
use Rattle.race_log.proofs.MergeLaws.{is_in, of_hart_at}
use Rattle.race_log.proofs.RangeLemmas.{IsOfOneKind}
use Rattle.race_log.proofs.Next.{get_old, old_at, get_new, in_after, up_new, step_last, order_own, conflict_new}
use Rattle.race_log.proofs.AfterLemmas.{own_in, times_old}
use Rattle.race_log.proofs.Sources.{up_join}

write_touches : (w : ℕ) (p : Point) → writes_word w p ≡ true → touches w p ≡ true
write_touches w p h = is_touches w p (any_map p.accesses (λ x e. e.0) (writes_is w p h))

kept_old : (run : List Point) (b : Point) (w j : ℕ) (k : Kept) → IsInOrder (after run b) → KeptAt run w j k → KeptAt (after run b) w j k
kept_old run b w j k up at = record {
  point = at.point;
  at = old_at run b j at.point at.at;
  turn = at.turn;
  hart = at.hart;
  count = at.count;
  touched = at.touched;
  written = at.written;
  times = times_old run b j k.times up (is_in run j at.point at.at) at.times;
}

in_filter : (test : Kept → Bool) (ks : List Kept) (k : Kept) → In (filter test ks) k → In ks k
in_filter test [] k i = i
in_filter test (x ∷ ks) k i = elim (known (test x)) [
  | inl t ↦ elim (rw t at i) [ inl e ↦ inl e | inr j ↦ inr (in_filter test ks k j) ]
  | inr f ↦ inr (in_filter test ks k (rw f at i))
]

filter_in : (test : Kept → Bool) (ks : List Kept) (k : Kept) → In ks k → test k ≡ true → In (filter test ks) k
filter_in test [] k i t = i
filter_in test (x ∷ ks) k (inl e) t = let u : test x ≡ true = rw e t in rw u (inl e)
filter_in test (x ∷ ks) k (inr i) t = elim (known (test x)) [
  | inl u ↦ rw u (inr (filter_in test ks k i t))
  | inr f ↦ rw f (filter_in test ks k i t)
]

not_stays : (hart : ℕ) (writes : Bool) (k : Kept) → stays hart writes k ≡ false → (writes ≡ true) ⊎ ((is_write k.mode ≡ false) × ((k.hart == hart) ≡ true))
not_stays hart writes k h = go writes (is_write k.mode) (k.hart == hart) h
  where
    go : (v a e : Bool) → (not v && (a || not e)) ≡ false → (v ≡ true) ⊎ ((a ≡ false) × (e ≡ true))
    go true a e h = inl refl
    go false true e h = cc
    go false false true h = inr (refl, refl)
    go false false false h = cc

true_false : {x : Bool} → x ≡ true → x ≡ false → ⊥
true_false h k = cc

module _ (run : List Point) (live : ℕ → Bool) (b : Point) (writes : Bool) (kind : IsOfOneKind b writes) (up : IsInOrder (after run b)) where
  know_on : (m : ℕ) → AllKnow run live m → AllKnow (after run b) live m
  know_on m all hart lives =
      let o = all hart lives in
      (o.0, rw (get_old run b o.0 (own_in run hart o.0 o.1)) o.1, up_new run b o.2)

  -- what is kept of a word that the point doesn't access suffices still
  pub other_word : (v : ℕ) (ks : List Kept) → touches v b ≡ false → Suffices run live v ks → Suffices (after run b) live v ks
  other_word v ks out h = record {
    each = λ k i. let e = h.each k i in (e.0, kept_old run b v e.0 k up e.1);
    writes = λ m p e t. elim (in_after run b m p e) [
      | inl old ↦ elim (h.writes m p old.1 t) [
        | inl s ↦ inl (s.0, s.1, s.2, kept_old run b v s.0 s.1 up s.3, up_new run b s.4, s.5)
        | inr all ↦ inr (know_on m all)
      ]
      | inr new ↦ absurd (untouched p new.1 (write_touches v p t))
    ];
    accesses = λ m p e t. elim (in_after run b m p e) [
      | inl old ↦ elim (h.accesses m p old.1 t) [
        | inl s ↦ inl (s.0, s.1, s.2, kept_old run b v s.0 s.1 up s.3, up_new run b s.4, s.5)
        | inr all ↦ inr (know_on m all)
      ]
      | inr new ↦ absurd (untouched p new.1 t)
    ];
  }
    where
      untouched : (p : Point) → b ≡ p → touches v p ≡ true → ⊥
      untouched p is t = true_false (subst (λ (x : Point). touches v x ≡ true) (sym is) t) out

  -- what is or is before a kept access that goes is before the new point
  gone_before : (w m j : ℕ) (k : Kept) → KeptAt run w j k → touches w b ≡ true → UpTo run m j
      → (writes ≡ true) ⊎ ((k.hart == b.hart) ≡ true) → Before (after run b) m (length run)
  gone_before w m j k at in_b u why = elim (known (at.point.hart == b.hart)) [
    | inl same ↦ step_last run b m j u (inl (order_own run b j (of_hart_at run b.hart j at.point at.at (same_number at.point.hart b.hart same))))
    | inr other ↦
        let wrote : writes ≡ true = elim why [ inl t ↦ t | inr t ↦ absurd (let e = ap (λ x. x == b.hart) at.hart in cc) ] in
        step_last run b m j u (inr (conflict_new run b j at.point at.at
        (kind.conflict at.point w (other_number at.point.hart b.hart other) in_b at.touched (or_second (writes_word w at.point) writes wrote))))
  ]

  -- with the point's access in the place of those that go, what is kept of a word that it accesses suffices
  pub same_word : (w : ℕ) (k : Kept) (ks news : List Kept) → touches w b ≡ true → k.turn ≡ b.turn → k.hart ≡ b.hart → k.ic ≡ b.count → is_write k.mode ≡ writes
      → TimesOf (after run b) (length run) k.times
      → Replaces k ks news → Suffices run live w ks → Suffices (after run b) live w news
  same_word w k ks news in_b is_turn is_hart is_count is_writes times r h = record {
    each = λ o i. elim (r.only o i) [
      | inl j ↦ let e = h.each o j.0 in (e.0, kept_old run b w e.0 o up e.1)
      | inr e ↦ (length run, rw e at kept_new)
    ];
    writes = λ m p e t. elim (in_after run b m p e) [
      | inl old ↦ elim (h.writes m p old.1 t) [
        | inl s ↦ inl (elim (known (stays b.hart writes s.1)) [
          | inl stay ↦ (s.0, s.1, still s.1 s.2 stay, kept_old run b w s.0 s.1 up s.3, up_new run b s.4, s.5)
          | inr goes ↦ elim (not_stays b.hart writes s.1 goes) [
            | inl wrote ↦ (length run, k, last, kept_new, inr (gone_before w m s.0 s.1 s.3 in_b s.4 (inl wrote)), is_writes ∙ wrote)
            | inr read ↦ absurd (true_false s.5 read.0)
          ]
        ])
        | inr all ↦ inr (know_on m all)
      ]
      | inr new ↦
          let u : writes_word w b ≡ true = subst (λ (x : Point). writes_word w x ≡ true) (sym new.1) t in
          inl (length run, k, last, kept_new, inl new.0, is_writes ∙ (sym (kind.written w in_b) ∙ u))
    ];
    accesses = λ m p e t. elim (in_after run b m p e) [
      | inl old ↦ elim (h.accesses m p old.1 t) [
        | inl s ↦ inl (elim (known (stays b.hart writes s.1)) [
          | inl stay ↦ (s.0, s.1, still s.1 s.2 stay, kept_old run b w s.0 s.1 up s.3, up_new run b s.4, s.5)
          | inr goes ↦ elim (not_stays b.hart writes s.1 goes) [
            | inl wrote ↦ (length run, k, last, kept_new, inr (gone_before w m s.0 s.1 s.3 in_b s.4 (inl wrote)), inl (is_writes ∙ wrote))
            | inr read ↦
                let of_hart = same_number s.1.hart b.hart read.1 in
                let reader : s.1.hart ≡ p.hart = elim s.5 [ inl v ↦ absurd (true_false v read.0) | inr v ↦ v ] in
                (length run, k, last, kept_new, inr (gone_before w m s.0 s.1 s.3 in_b s.4 (inr read.1)), inr (is_hart ∙ (sym of_hart ∙ reader)))
          ]
        ])
        | inr all ↦ inr (know_on m all)
      ]
      | inr new ↦ inl (length run, k, last, kept_new, inl new.0, inr (is_hart ∙ ap (λ (x : Point). x.hart) new.1))
    ];
  }
    where
      last : In news k
      last = r.last

      still : (o : Kept) → In ks o → stays b.hart writes o ≡ true → In news o
      still o i stay = r.stay o i (rw (is_hart, is_writes) stay)

      kept_new : KeptAt (after run b) w (length run) k
      kept_new = record {
        point = b;
        at = get_new run b;
        turn = is_turn;
        hart = is_hart;
        count = is_count;
        touched = in_b;
        written = is_writes ∙ sym (kind.written w in_b);
        times = times;
      }

-- if one hart has all points and alone is live, it knows of all, and what is kept suffices whatever it is
pub alone_suffices : (run : List Point) (live : ℕ → Bool) (b : Point) → IsInOrder (after run b)
    → ((m : ℕ) (p : Point) → slice_get (after run b) m ≡ Some p → p.hart ≡ 0) → ((g : ℕ) → live g ≡ true → g ≡ 0)
    → (w : ℕ) (ks : List Kept) → Suffices run live w ks → Suffices (after run b) live w ks
alone_suffices run live b up own lives w ks h = record {
  each = λ k i. let e = h.each k i in (e.0, kept_old run b w e.0 k up e.1);
  writes = λ m p e t. inr (all m p e);
  accesses = λ m p e t. inr (all m p e);
}
  where
    all : (m : ℕ) (p : Point) → slice_get (after run b) m ≡ Some p → AllKnow (after run b) live m
    all m p e hart live_one = (m, of_hart_at (after run b) hart m p e (own m p e ∙ sym (lives hart live_one)), inl refl)

-- kept accesses that each live hart knows of may go, and harts may end
pub fewer_suffice : (run : List Point) (live still : ℕ → Bool) (w : ℕ) (ks : List Kept) (goes : Kept → Bool)
    → ((g : ℕ) → still g ≡ true → live g ≡ true)
    → ((k : Kept) (j : ℕ) → In ks k → KeptAt run w j k → goes k ≡ true → AllKnow run still j)
    → Suffices run live w ks → Suffices run still w (filter (λ k. not (goes k)) ks)
fewer_suffice run live still w ks goes fewer all h = record {
  each = λ k i. h.each k (in_filter (λ k. not (goes k)) ks k i);
  writes = λ m p e t. elim (h.writes m p e t) [
    | inl s ↦ elim (known (goes s.1)) [
      | inl g ↦ inr (λ hart lives. let o = all s.1 s.0 s.2 s.3 g hart lives in (o.0, o.1, up_join run s.4 o.2))
      | inr stay ↦ inl (s.0, s.1, filter_in (λ k. not (goes k)) ks s.1 s.2 (rw stay refl), s.3, s.4, s.5)
    ]
    | inr know ↦ inr (λ hart lives. know hart (fewer hart lives))
  ];
  accesses = λ m p e t. elim (h.accesses m p e t) [
    | inl s ↦ elim (known (goes s.1)) [
      | inl g ↦ inr (λ hart lives. let o = all s.1 s.0 s.2 s.3 g hart lives in (o.0, o.1, up_join run s.4 o.2))
      | inr stay ↦ inl (s.0, s.1, filter_in (λ k. not (goes k)) ks s.1 s.2 (rw stay refl), s.3, s.4, s.5)
    ]
    | inr know ↦ inr (λ hart lives. know hart (fewer hart lives))
  ];
}
