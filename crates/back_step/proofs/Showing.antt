-- What a joint replay shows doesn't depend on what is left of its replays.
use Rattle.back_step.proofs.Common.{◌≡◌, ℕ, zero, suc, Bool, true, false, refl, sym, ap, ◌∙◌, List, [], ◌∷◌, map, slice_get, Option, Some, None, Readiness, Cursor, Lane, coming_of, point_of, state_of, Joining, begun, is_passed, first_waited, waits_for, readiness, readiness_of, coming, bare, state_at, Trace, IsGoneBack, LeadsBy, IsBackAt}
use Rattle.bn_base.specs.declared.state.HartState.{HartState}
use Rattle.log_record.specs.declared.record.Record.{Record}
use Rattle.joint_replay.specs.declared.kinds.Coming.{Coming}
use Rattle.joint_replay.specs.declared.kinds.Readiness.TheVariants as is
use Rattle.joint_replay.specs.Points.{sources_into}
use Rattle.joint_replay.specs.Memory.{word_in}
use Rattle.back_step.proofs.Leading.{leads_walk}

-- ---- one hart

coming_bare : (points : List ℕ) (cursors : List Cursor) → coming_of (bare (record { points = points; cursors = cursors })) ≡ coming_of (record { points = points; cursors = cursors })
coming_bare (p ∷ ps) cursors = refl
coming_bare [] [] = refl
coming_bare [] (c ∷ cs) = refl

point_bare : (points : List ℕ) (cursors : List Cursor) → point_of (bare (record { points = points; cursors = cursors })) ≡ point_of (record { points = points; cursors = cursors })
point_bare (p ∷ ps) cursors = refl
point_bare [] [] = refl
point_bare [] (c ∷ cs) = refl

state_bare : (points : List ℕ) (cursors : List Cursor) → state_of (bare (record { points = points; cursors = cursors })) ≡ state_of (record { points = points; cursors = cursors })
state_bare (p ∷ ps) cursors = refl
state_bare [] [] = refl
state_bare [] (c ∷ cs) = refl

-- what is asked of an optional hart, of others, and of one that is bare
abbrev coming_in : Option Lane → Option Coming
coming_in o = elim o [ None ↦ None | Some lane ↦ coming_of lane ]

abbrev state_in : Option Lane → Option HartState
state_in o = elim o [ None ↦ None | Some lane ↦ state_of lane ]

coming_in_bare : (ls : List Lane) (h : ℕ) → coming_in (slice_get (map bare ls) h) ≡ coming_in (slice_get ls h)
coming_in_bare [] h = refl
coming_in_bare (l ∷ ls) zero = coming_bare l.points l.cursors
coming_in_bare (l ∷ ls) (suc h) = coming_in_bare ls h

state_in_bare : (ls : List Lane) (h : ℕ) → state_in (slice_get (map bare ls) h) ≡ state_in (slice_get ls h)
state_in_bare [] h = refl
state_in_bare (l ∷ ls) zero = state_bare l.points l.cursors
state_in_bare (l ∷ ls) (suc h) = state_in_bare ls h

-- ---- which harts are ready

passed_bare : (ls : List Lane) (h ic : ℕ) → is_passed (slice_get (map bare ls) h) ic ≡ is_passed (slice_get ls h) ic
passed_bare [] h ic = refl
passed_bare (l ∷ ls) zero ic = one l.points l.cursors
  where
    one : (points : List ℕ) (cursors : List Cursor) → is_passed (Some (bare (record { points = points; cursors = cursors }))) ic ≡ is_passed (Some (record { points = points; cursors = cursors })) ic
    one (p ∷ ps) cursors = refl
    one [] [] = refl
    one [] (c ∷ cs) = refl
passed_bare (l ∷ ls) (suc h) ic = passed_bare ls h ic

waited_bare : (ls : List Lane) (ps : List (ℕ × ℕ)) → first_waited (map bare ls) ps ≡ first_waited ls ps
waited_bare ls [] = refl
waited_bare ls (p ∷ ps) =
    ap (λ (b : Bool). elim b as (λ x. Option (ℕ × ℕ)) [ true ↦ first_waited (map bare ls) ps | false ↦ Some p ]) (passed_bare ls p.0 p.1)
    ∙ ap (λ (o : Option (ℕ × ℕ)). elim (is_passed (slice_get ls p.0) p.1) as (λ x. Option (ℕ × ℕ)) [ true ↦ o | false ↦ Some p ]) (waited_bare ls ps)

-- of a hart, by the others
abbrev ready_in : List Record → List Lane → ℕ → Option Coming → Option ℕ → Readiness
ready_in records lanes h c p = elim c [
  | None ↦ is.Done
  | Some x ↦ elim p [ None ↦ is.Ready | Some ic ↦ waits_for (first_waited lanes (sources_into records h ic)) ]
]

others_bare : (records : List Record) (lanes : List Lane) (h : ℕ) (c : Option Coming) (p : Option ℕ) → ready_in records (map bare lanes) h c p ≡ ready_in records lanes h c p
others_bare records lanes h None p = refl
others_bare records lanes h (Some c) None = refl
others_bare records lanes h (Some c) (Some ic) = ap waits_for (waited_bare lanes (sources_into records h ic))

own_bare : (records : List Record) (lanes : List Lane) (h : ℕ) (points : List ℕ) (cursors : List Cursor)
    → readiness_of records (map bare lanes) h (bare (record { points = points; cursors = cursors })) ≡ readiness_of records lanes h (record { points = points; cursors = cursors })
own_bare records lanes h points cursors =
    ap (λ (c : Option Coming). ready_in records (map bare lanes) h c (point_of (bare (record { points = points; cursors = cursors })))) (coming_bare points cursors)
    ∙ ap (λ (p : Option ℕ). ready_in records (map bare lanes) h (coming_of (record { points = points; cursors = cursors })) p) (point_bare points cursors)
    ∙ others_bare records lanes h (coming_of (record { points = points; cursors = cursors })) (point_of (record { points = points; cursors = cursors }))

abbrev ready_at : List Record → List Lane → ℕ → Option Lane → Readiness
ready_at records lanes h o = elim o [ None ↦ is.Done | Some lane ↦ readiness_of records lanes h lane ]

ready_bare : (records : List Record) (lanes : List Lane) (h : ℕ) (ls : List Lane) (k : ℕ) → ready_at records (map bare lanes) h (slice_get (map bare ls) k) ≡ ready_at records lanes h (slice_get ls k)
ready_bare records lanes h [] k = refl
ready_bare records lanes h (l ∷ ls) zero = own_bare records lanes h l.points l.cursors
ready_bare records lanes h (l ∷ ls) (suc k) = ready_bare records lanes h ls k

-- ---- all that is shown

module _ (there now : Joining) (s : IsBackAt there now) where
  pub same_ready : (h : ℕ) → readiness now h ≡ readiness there h
  same_ready h =
      sym (ready_bare now.records now.lanes h now.lanes h)
      ∙ ap (λ (ls : List Lane). ready_at now.records ls h (slice_get ls h)) s.lanes
      ∙ ready_bare now.records there.lanes h there.lanes h
      ∙ ap (λ (rs : List Record). ready_at rs there.lanes h (slice_get there.lanes h)) s.records

  pub same_coming : (h : ℕ) → coming now h ≡ coming there h
  same_coming h = sym (coming_in_bare now.lanes h) ∙ ap (λ (ls : List Lane). coming_in (slice_get ls h)) s.lanes ∙ coming_in_bare there.lanes h

  pub same_state : (h : ℕ) → state_at now h ≡ state_at there h
  same_state h = sym (state_in_bare now.lanes h) ∙ ap (λ (ls : List Lane). state_in (slice_get ls h)) s.lanes ∙ state_in_bare there.lanes h

-- so a trace shows the state at its entries' harts
pub gone_back : (t : Trace) (there : Joining) → LeadsBy t.start t.entries there → IsBackAt there t.now → IsGoneBack t
gone_back t there led s =
    let r = leads_walk (begun t.start) there t.entries led in
    record {
      walk = r.0;
      stands = record {
        walk = r.1;
        ready = λ h. same_ready there t.now s h ∙ ap (λ (j : Joining). readiness j h) (sym r.2);
        coming = λ h. same_coming there t.now s h ∙ ap (λ (j : Joining). coming j h) (sym r.2);
        states = λ h. same_state there t.now s h ∙ ap (λ (j : Joining). state_at j h) (sym r.2);
        words = λ a. ap (λ (ms : List (ℕ × ℕ)). word_in ms a) (s.memory ∙ ap (λ (j : Joining). j.memory) (sym r.2));
        whole = λ none. s.whole none ∙ sym r.2;
      };
      taken = sym r.3;
    }
