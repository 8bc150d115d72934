use Rattle.run_model.proofs.Common.{◌+◌, ◌≡◌, ◌++◌, ◌∷◌, [], List, length, arith, sym, subst, ap, ◌∙◌, length-append, HartState, Record, IsLog, Hart, header, start_hart, first_headers, first_hart, AreHarts, ℕ, zero, suc, ◌<◌, Some, slice_get, append_assoc, Program, RawSettings, start_state}
use Rattle.run_model.proofs.first.first_harts.Goals as goal

-- The harts before the first turn, one by one.

headers_next : (n : ℕ) (c : RawSettings) (i : Program) (k : ℕ) → first_headers c i k n ++ header (k + n) 0 (start_state c i (k + n)) ∷ [] ≡ first_headers c i k (suc n)
headers_next zero c i k =
    let e : k + 0 ≡ k = omega arith in
    ap (λ (j : ℕ). header j 0 (start_state c i j) ∷ []) e
headers_next (suc n) c i k =
    let e : k + suc n ≡ k + 1 + n = omega arith in
    ap (λ (rs : List Record). header k 0 (start_state c i k) ∷ rs) (ap (λ (j : ℕ). first_headers c i (k + 1) n ++ header j 0 (start_state c i j) ∷ []) e ∙ headers_next n c i (k + 1))

-- one Header more
headers_more : (n : ℕ) (c : RawSettings) (i : Program) (rs : List Record) → (rs ++ first_headers c i 0 n) ++ header n 0 (start_state c i n) ∷ [] ≡ rs ++ first_headers c i 0 (n + 1)
headers_more n c i rs =
    let up : suc n ≡ n + 1 = omega arith in
    let at : n ≡ 0 + n = omega arith in
    append_assoc rs (first_headers c i 0 n) (header n 0 (start_state c i n) ∷ [])
    ∙ ap (λ (j : ℕ). rs ++ (first_headers c i 0 n ++ header j 0 (start_state c i j) ∷ [])) at
    ∙ ap (λ (xs : List Record). rs ++ xs) (headers_next n c i 0)
    ∙ ap (λ (m : ℕ). rs ++ first_headers c i 0 m) up

push_at : (hs : List Hart) (x : Hart) (f : ℕ → Hart) (k : ℕ) → ((j : ℕ) → j < length hs → slice_get hs j ≡ Some (f j)) → x ≡ f (length hs) → k < length hs + 1 → slice_get (hs ++ x ∷ []) k ≡ Some (f k)
push_at [] x f zero are e below = ap Some e
push_at [] x f (suc k) are e below = absurd (none k below)
  where
    none : (k : ℕ) → suc k < 0 + 1 → ⊥
    none k h = omega (arith, h)
push_at (y ∷ hs) x f zero are e below = are zero (omega arith)
push_at (y ∷ hs) x f (suc k) are e below = push_at hs x (λ j. f (suc j)) k (λ j inside. are (suc j) (omega (arith, inside))) e (omega (arith, below))

-- one hart more
harts_more : (hs : List Hart) (x : Hart) (f : ℕ → Hart) → AreHarts hs f → x ≡ f (length hs) → AreHarts (hs ++ x ∷ []) f
harts_more hs x f are e k below = push_at hs x f k are e (omega (arith, below, length-append hs (x ∷ [])))

pub loop-number-preserved : goal.loop-number-preserved
loop-number-preserved c =
    let s = c.args.settings.now in let i = c.args.image.now in
    let l = c.loop-number in let v = l.invariant in
    let items = c.in_ok-push.ensures.items in
    let here : c.new.result ≡ first_hart s i l.number = c.new.ensures ∙ ap (start_hart l.number) c.start_state-in-loop-number.ensures in
    let place : c.new.result ≡ first_hart s i (length l.harts.items) = here ∙ ap (first_hart s i) (sym v.len) in
    record {
      len = ap length items ∙ length-append l.harts.items (c.new.result ∷ []) ∙ ap (λ n. n + 1) v.len;
      each = subst (λ (hs : List Hart). AreHarts hs (first_hart s i)) (sym items) (harts_more l.harts.items c.new.result (first_hart s i) v.each place);
      log = λ rs held.
          subst (λ (xs : List Record). IsLog c.append_header.new.log xs) (headers_more l.number s i rs)
          (subst (λ (x : HartState). IsLog c.append_header.new.log ((rs ++ first_headers s i 0 l.number) ++ header l.number 0 x ∷ [])) c.start_state.ensures
          (c.append_header.ensures.holds _ (v.log rs held)));
      took = record { size = c.append_header.ensures.took.size ∙ v.took.size; count_is = omega (arith, c.append_header.ensures.took.count_is, v.took.count_is) };
    }
