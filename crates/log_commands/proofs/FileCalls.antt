-- The calls that a command makes of its store.
use Rattle.log_commands.proofs.Common.{◌≡◌, ◌≢◌, ℕ, false, List, [], ◌∷◌, ◌++◌, ◌∙◌, ap, subst, sym, refl, inl, inr, ◌⊎◌, append_assoc, Option, Result, Ok, Err, Appends, append-nil, StoreCall, LoadCall, FileNames, name_of, FileCall, Loads, Saves, store_call, noted_after, loads_of, EndsWith, StopsAt, LoadsUpTo, CallsTo, LoadsTo, IsOfLoad, IsOfSave, SavesUpTo, SavesTo, SavesTold, book_saves, has_save, limit_of, IsOwn, ToldRefusal, Call, Role, Refusal, OutOfMemory, StoreFailed}
use Rattle.log_commands.specs.declared.names.Role.TheVariants as role

-- ---- what is noted

-- after calls, and then more
pub noted-append : (note : ℕ → StoreCall → ℕ) (names : FileNames) (n : ℕ) (first last : List FileCall) → noted_after note names n (first ++ last) ≡ noted_after note names (noted_after note names n first) last
noted-append note names n [] last = refl
noted-append note names n (made ∷ first) last = noted-append note names (note n (store_call names made)) first last

-- ---- the last of the calls

pub ends-behind : (first made : List FileCall) (last : FileCall) → EndsWith made last → EndsWith (first ++ made) last
ends-behind first made last (earlier, e) = (first ++ earlier, ap (λ (calls : List FileCall). first ++ calls) e ∙ sym (append_assoc first earlier (last ∷ [])))

-- calls that stopped, after one more load
pub stops-behind : (c : FileCall) (needed : List FileCall) (r : Refusal) (made : List FileCall) → StopsAt needed r made → StopsAt (c ∷ needed) r (c ∷ made)
stops-behind c needed r made (inl memory) = inl memory
stops-behind c needed r made (inr (inl (role, last, is))) = inr (inl (role, ends-behind (c ∷ []) made (Loads role) last, is))
stops-behind c needed r made (inr (inr (inl (role, bytes, last, is)))) = inr (inr (inl (role, bytes, ends-behind (c ∷ []) made (Saves role bytes) last, is)))
stops-behind c needed r made (inr (inr (inr (own, e)))) = inr (inr (inr (own, ap (λ (calls : List FileCall). c ∷ calls) e)))

-- at a load
pub stops-load : (role : Role) (needed : List FileCall) (r : Refusal) (earlier : List FileCall) → IsOfLoad role r → StopsAt needed r (earlier ++ Loads role ∷ [])
stops-load role needed r earlier (inl memory) = inl memory
stops-load role needed r earlier (inr is) = inr (inl (role, (earlier, refl), is))

-- ---- loads

-- a load with the most bytes that its file may have
pub load-noted : (note : ℕ → StoreCall → ℕ) (names : FileNames) (role : Role) (limit before after : ℕ) → limit ≡ limit_of role → after ≡ note before (LoadCall (name_of names role) limit)
    → after ≡ note before (store_call names (Loads role))
load-noted note names role limit before after l e = e ∙ ap (λ (n : ℕ). note before (LoadCall (name_of names role) n)) l

-- the first load was refused
pub load-stops : (note : ℕ → StoreCall → ℕ) (names : FileNames) (role : Role) (roles needed : List Role) (before after : ℕ) (r : Refusal)
    → after ≡ note before (store_call names (Loads role)) → IsOfLoad role r → LoadsUpTo names (role ∷ roles) needed note before after r
load-stops note names role roles needed before after r e is = record {
  made = Loads role ∷ [];
  left = loads_of roles;
  parts = refl;
  noted = e;
  at = stops-load role (loads_of needed) r [] is;
}

-- it gave bytes, and then more is loaded
pub then-loads : (A : Type 0) (note : ℕ → StoreCall → ℕ) (names : FileNames) (role : Role) (roles needed : List Role) (before mid after : ℕ) (result : Result A Refusal)
    → mid ≡ note before (store_call names (Loads role)) → CallsTo names roles needed note mid after result → CallsTo names (role ∷ roles) (role ∷ needed) note before after result
then-loads A note names role roles needed before mid after (Ok a) e h = subst (λ (n : ℕ). after ≡ noted_after note names n (loads_of roles)) e h
then-loads A note names role roles needed before mid after (Err r) e h = record {
  made = Loads role ∷ h.made;
  left = h.left;
  parts = ap (λ (calls : List FileCall). Loads role ∷ calls) h.parts;
  noted = subst (λ (n : ℕ). after ≡ noted_after note names n h.made) e h.noted;
  at = stops-behind (Loads role) (loads_of needed) r h.made h.at;
}

-- what was loaded is read
pub own-loads : (A : Type 0) (note : ℕ → StoreCall → ℕ) (names : FileNames) (roles : List Role) (before after : ℕ) (result : Result A Refusal)
    → after ≡ noted_after note names before (loads_of roles) → IsOwn result → LoadsTo names roles note before after result
own-loads A note names roles before after (Ok a) e own = e
own-loads A note names roles before after (Err r) e own = record {
  made = loads_of roles;
  left = [];
  parts = sym (append-nil (loads_of roles));
  noted = e;
  at = inr (inr (inr (own, refl)));
}

-- ---- a loop over roles

-- as far as it has come: these roles are left
pub record CalledSoFar (note : ℕ → StoreCall → ℕ) (names : FileNames) (roles rest : List Role) (before now : ℕ) : Type 0 where
  pub made : List FileCall
  pub parts : loads_of roles ≡ made ++ loads_of rest
  pub noted : now ≡ noted_after note names before made

pub one-more : (note : ℕ → StoreCall → ℕ) (names : FileNames) (role : Role) (made : List FileCall) (before now after : ℕ) → now ≡ noted_after note names before made
    → after ≡ note now (store_call names (Loads role)) → after ≡ noted_after note names before (made ++ Loads role ∷ [])
one-more note names role made before now after n e = e ∙ ap (λ (m : ℕ). note m (store_call names (Loads role))) n ∙ sym (noted-append note names before made (Loads role ∷ []))

pub called-more : (note : ℕ → StoreCall → ℕ) (names : FileNames) (roles left rest : List Role) (role : Role) (limit before now after : ℕ) → limit ≡ limit_of role → left ≡ role ∷ rest
    → CalledSoFar note names roles left before now → after ≡ note now (LoadCall (name_of names role) limit) → CalledSoFar note names roles rest before after
called-more note names roles left rest role limit before now after l e so_far h = record {
  made = so_far.made ++ Loads role ∷ [];
  parts = so_far.parts ∙ ap (λ (rs : List Role). so_far.made ++ loads_of rs) e ∙ sym (append_assoc so_far.made (Loads role ∷ []) (loads_of rest));
  noted = one-more note names role so_far.made before now after so_far.noted (load-noted note names role limit now after l h);
}

pub some-left : (roles left rest : List Role) (role : Role) (made : List FileCall) → roles ≡ [] → left ≡ role ∷ rest → loads_of roles ≡ made ++ loads_of left → ⊥
some-left roles left rest role made none at parts =
    nothing made (sym (ap loads_of none) ∙ parts ∙ ap (λ (rs : List Role). made ++ loads_of rs) at)
  where
    nothing : (made : List FileCall) → [] ≡ made ++ Loads role ∷ loads_of rest → ⊥
    nothing [] e = absurd cc
    nothing (m ∷ ms) e = absurd cc

pub called-stops : (note : ℕ → StoreCall → ℕ) (names : FileNames) (roles left rest : List Role) (role : Role) (limit before now after : ℕ) (r : Refusal) → limit ≡ limit_of role → left ≡ role ∷ rest
    → CalledSoFar note names roles left before now → after ≡ note now (LoadCall (name_of names role) limit) → IsOfLoad role r → LoadsUpTo names roles roles note before after r
called-stops note names roles left rest role limit before now after r l e so_far h is = record {
  made = so_far.made ++ Loads role ∷ [];
  left = loads_of rest;
  parts = so_far.parts ∙ ap (λ (rs : List Role). so_far.made ++ loads_of rs) e ∙ sym (append_assoc so_far.made (Loads role ∷ []) (loads_of rest));
  noted = one-more note names role so_far.made before now after so_far.noted (load-noted note names role limit now after l h);
  at = stops-load role (loads_of roles) r so_far.made is;
}

-- ---- saves

-- one alone: it was refused
pub one-save-stops : (note : ℕ → StoreCall → ℕ) (names : FileNames) (role : Role) (bytes : List ℕ) (saves : List FileCall) (before after : ℕ) (r : Refusal) → after ≡ note before (store_call names (Saves role bytes))
    → (r ≡ OutOfMemory) ⊎ (r ≡ StoreFailed role) → SavesUpTo names (Saves role bytes ∷ saves) note before after r
one-save-stops note names role bytes saves before after r e (inl memory) = record { made = Saves role bytes ∷ []; left = saves; parts = refl; noted = e; at = inl memory }
one-save-stops note names role bytes saves before after r e (inr is) = record { made = Saves role bytes ∷ []; left = saves; parts = refl; noted = e; at = inr (role, bytes, ([], refl), is) }

-- the second of two
pub next-save-stops : (note : ℕ → StoreCall → ℕ) (names : FileNames) (first last : FileCall) (role : Role) (bytes : List ℕ) (before mid after : ℕ) (r : Refusal) → last ≡ Saves role bytes
    → mid ≡ note before (store_call names first) → after ≡ note mid (store_call names last) → (r ≡ OutOfMemory) ⊎ (r ≡ StoreFailed role) → SavesUpTo names (first ∷ last ∷ []) note before after r
next-save-stops note names first last role bytes before mid after r at f e is = record {
  made = first ∷ last ∷ [];
  left = [];
  parts = refl;
  noted = e ∙ ap (λ (n : ℕ). note n (store_call names last)) f;
  at = by is;
}
  where
    by : (r ≡ OutOfMemory) ⊎ (r ≡ StoreFailed role) → IsOfSave r (first ∷ last ∷ [])
    by (inl memory) = inl memory
    by (inr is) = inr (role, bytes, (first ∷ [], ap (λ (c : FileCall). first ∷ c ∷ []) at), is)

-- whether there is a list decides
pub listed-saves : (log : List ℕ) (book known : Option (List ℕ)) (note : ℕ → StoreCall → ℕ) (names : FileNames) (A : Type 0) (before after : ℕ) (result : Result A Refusal) → book ≡ known
    → SavesTo names (Saves role.Log log ∷ book_saves known) note before after result → SavesTo names (Saves role.Log log ∷ book_saves book) note before after result
listed-saves log book known note names A before after result e h = subst (λ (o : Option (List ℕ)). SavesTo names (Saves role.Log log ∷ book_saves o) note before after result) (sym e) h

-- ---- calls without a save

pub loads-alone : (roles : List Role) (made left : List FileCall) → loads_of roles ≡ made ++ left → has_save made ≡ false
loads-alone roles [] left e = refl
loads-alone [] (c ∷ made) left e = absurd cc
loads-alone (r ∷ roles) (c ∷ made) left e = subst (λ (x : FileCall). has_save (x ∷ made) ≡ false) (head-same e) (loads-alone roles made left (tail-same e))
  where
    head-same : loads_of (r ∷ roles) ≡ (c ∷ made) ++ left → Loads r ≡ c
    head-same e = cc

    tail-same : loads_of (r ∷ roles) ≡ (c ∷ made) ++ left → loads_of roles ≡ made ++ left
    tail-same e = cc

-- an answer whose saves were refused
pub saves-refused : (note : ℕ → StoreCall → ℕ) (names : FileNames) (saves : List FileCall) (r : Refusal) (status : ℕ) (before after : ℕ) (k : Call) → SavesUpTo names saves note before after r
    → Appends k.old.out.text k.new.out.text [] → ToldRefusal names r status k.old.err.text k.new.err.text k.old.err.faults k.new.err.faults → SavesTold names saves status note before after k
saves-refused note names saves r status before after k s out told = record {
  made = s.made;
  left = s.left;
  parts = s.parts;
  noted = s.noted;
  ends = inr (record { refusal = r; at = s.at; out = out; told = told });
}

-- or that made them all
pub saves-done : (note : ℕ → StoreCall → ℕ) (names : FileNames) (saves : List FileCall) (status : ℕ) (before after : ℕ) (k : Call) → after ≡ noted_after note names before saves → status ≢ 3
    → SavesTold names saves status note before after k
saves-done note names saves status before after k e other = record { made = saves; left = []; parts = sym (append-nil saves); noted = e; ends = inl (refl, other) }
