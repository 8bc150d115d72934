-- All laws, of the run with the lowest ready hart first and of joint replays that an allowed order led to. Each begins sound.
use Rattle.joint_laws.proofs.Common.{◌≡◌, sym, subst, content_of, FilesSayTheRun, run_all, fresh, OfWholeOrders, OfBeginnings, begin, kept, recorded, OwnLogsAreLogs, StandsInOrder, HasStates, HasMemory, HasWordsOnce, HasRows, RunsToTheEnd, SaysTheRun, JointReplaysSayTheRun, JointFilesSayTheRun, ℕ, ◌+◌, ap, ◌∙◌, arith, List, ◌++◌, length, None, RawSettings, Record, StreamsAreInOrder, StartsAreSound, BeginsSound, zero, suc, refl, [], ◌∷◌, map, slice_get, Option, Some, Program, HartState, Walk, Cursor, Lane, state_of, word_in, IsBegun, Begun, KeepsOrder, HasFirstRows, HasShownStates, ReachedSayTheRun}
use Rattle.sha2.specs.Sha256.{sha256}
use Rattle.log_order.specs.Content.{Content}
use Rattle.log_order.specs.Order.{broken_by}
use Rattle.joint_replay.specs.Calls.{bare}

pub say_the_run : RunsToTheEnd → OfWholeOrders StandsInOrder → OfBeginnings HasStates → OfBeginnings HasMemory → OfBeginnings HasWordsOnce → OfWholeOrders HasRows → JointReplaysSayTheRun
say_the_run runs keeps states memory once rows r records log =
    let x = runs r records log in
    let w = (run_all (begin r records)).walk in
    let words = once r records x.order w log x.allowed.begun in
    record {
      stopped = x.stopped;
      order = x.order;
      allowed = x.allowed;
      keeps = keeps r records x.order w log x.allowed;
      rows = rows r records x.order w log x.allowed;
      states = states r records x.order w log x.allowed.begun;
      ascend = words.0;
      words = λ m c. memory r records x.order w log x.allowed.begun m.0 m.1 (words.1 m c);
    }

pub files_say_the_run : JointReplaysSayTheRun → OwnLogsAreLogs → FilesSayTheRun → JointFilesSayTheRun
files_say_the_run joint own files r d is file =
    let it : d ≡ content_of r.settings (sha256 r.elf) (recorded r) = files r.settings r.program r.elf r.input r.turns is d file.content file.bytes in
    subst (λ (c : Content). SaysTheRun r c.records (run_all (fresh r.program c.head.settings.harts c.records))) (sym it) (joint r (kept r) (own r is))

-- ---- the beginning

abbrev pub OrderStays : Type 0
OrderStays = (s : RawSettings) (dropped : ℕ) (front back : List Record) → broken_by s dropped (front ++ back) ≡ None → broken_by s (dropped + length front) back ≡ None

pub begins_sound : StartsAreSound → StreamsAreInOrder → OrderStays → BeginsSound
begins_sound starts streams stays r records log =
    let high = log.recording.setting.limit_high in
    let all : broken_by r.settings 0 (recorded r).stream ≡ None = streams r.settings r.program r.elf r.input r.turns log.recording in
    starts r.program r.settings (0 + length log.end.front) records (omega (arith, high))
    (stays r.settings 0 log.end.front records (sym (ap (broken_by r.settings 0) log.end.parts) ∙ all))

-- ---- joint replays that an allowed order led to

-- the state that is shown doesn't depend on what is left of replays
state_bare : (points : List ℕ) (cursors : List Cursor) → state_of (bare (record { points = points; cursors = cursors })) ≡ state_of (record { points = points; cursors = cursors })
state_bare (p ∷ ps) cursors = refl
state_bare [] [] = refl
state_bare [] (c ∷ cs) = refl

abbrev shown : Option Lane → Option HartState
shown o = elim o [ None ↦ None | Some lane ↦ state_of lane ]

shown_bare : (ls : List Lane) (h : ℕ) → shown (slice_get (map bare ls) h) ≡ shown (slice_get ls h)
shown_bare [] h = refl
shown_bare (l ∷ ls) zero = state_bare l.points l.cursors
shown_bare (l ∷ ls) (suc h) = shown_bare ls h

pub reached_say_the_run : OfBeginnings KeepsOrder → OfBeginnings HasFirstRows → OfBeginnings HasShownStates → OfBeginnings HasMemory → ReachedSayTheRun
reached_say_the_run keeps rows states memory r j log same reached =
    let w : Walk = reached.walk in
    let begun : Begun r j.records reached.order w = subst (λ (i : Program). IsBegun i r.settings.harts j.records reached.order w) same reached.begun in
    record {
      keeps = keeps r j.records reached.order w log begun;
      rows = rows r j.records reached.order w log begun;
      states = λ h s e. states r j.records reached.order w log begun h s
          (sym (shown_bare w.now.lanes h) ∙ (ap (λ (ls : List Lane). shown (slice_get ls h)) reached.lanes ∙ (shown_bare j.lanes h ∙ e)));
      words = λ a word e. memory r j.records reached.order w log begun a word (ap (λ ms. word_in ms a) reached.memory ∙ e);
    }
