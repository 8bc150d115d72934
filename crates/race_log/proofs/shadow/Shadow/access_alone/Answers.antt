use Rattle.race_log.proofs.Common.{◌≡◌, ◌<◌, ◌+◌, ◌-◌, ◌==◌, if◌then◌else◌, ℕ, ◌∙◌, arith, refl, sym, ap, Kept, is_write, gathered, sources, counts_after, times_of, kept_of}
use Rattle.race_log.proofs.AccessLemmas.{counts_alone}
use Rattle.race_log.proofs.Steps.{found_edges, stands_after, new_times}
use Rattle.race_log.proofs.shadow.Shadow.access_alone.Goals as goal

pub returns-clause-point : goal.returns-clause-point
unfolding counts_after
returns-clause-point c = λ first n mode.
    let old = c.args.self.now in let new = c.note_alone.new.self in let t = c.note_alone.ensures in
    let some : 0 < old.harts = omega (arith, c.requires.alone) in
    let kept = gathered (kept_of old) first n in
    let one : Kept = record { hart = 0; ic = c.args.ic; turn = c.args.turn; mode = mode; times = times_of new 0 } in
    let own : (h : ℕ) → times_of new 0 h ≡ (if h == 0 then c.args.ic + 1 else counts_after 0 (is_write mode) (old.harts - 1) (times_of old 0) kept h) = λ h.
    t.own h ∙ ap (λ m. if h == 0 then c.args.ic + 1 else counts_after 0 (is_write mode) (m - 1) (times_of old 0) kept h) (sym c.requires.alone) in
    record {
      stands = λ run live lives stands.
          stands_after run 0 c.args.ic c.args.turn first n mode live old stands some c.requires.counts c.requires.turns c.requires.lasting lives
          (times_of new 0) own new one t.harts t.lasting t.turns (λ h. refl) t.others refl refl refl refl (λ h. refl)
          (λ more. absurd (omega (arith, more, c.requires.alone))) (λ few w. t.kept w);
      times = λ run live lives stands.
          new_times run 0 c.args.ic c.args.turn first n mode live old stands some c.requires.counts c.requires.turns c.requires.lasting lives (times_of new 0) own;
      others = t.others;
    }

pub returns-clause-none : goal.returns-clause-none
unfolding sources
returns-clause-none c = λ first n mode run live lives stands.
    let old = c.args.self.now in
    let some : 0 < old.harts = omega (arith, c.requires.alone) in
    sym (found_edges run 0 c.args.ic c.args.turn first n mode live old stands some c.requires.counts c.requires.turns c.requires.lasting lives)
    ∙ ap (λ m. sources 0 (is_write mode) (m - 1) (times_of old 0) (gathered (kept_of old) first n)) c.requires.alone

pub returns-clause-next : goal.returns-clause-next
returns-clause-next c =
    let t = c.note_alone.ensures in
    record {
      harts = t.harts;
      lasting = t.lasting;
      turns = t.turns;
      counts = counts_alone c.args.self.now c.note_alone.new.self c.args.ic c.args.turn t;
    }
