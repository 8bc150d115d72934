use Rattle.race_log.proofs.Common.{◌∙◌, ℕ, ap, sym, subst, IsTimesOf}
use Rattle.race_log.proofs.AccessLemmas.{read_times}
use Rattle.race_log.proofs.Known.{latest_times, no_times}
use Rattle.race_log.proofs.shadow.Shadow.times.Goals as goal

pub returns-clause-latest : goal.returns-clause-latest
returns-clause-latest c = λ run live stands p l.
    let known = read_times c.args.self.now c.args.hart c.index.result.now c.requires c.index.ensures in
    subst (IsTimesOf run p) known (latest_times run live c.args.self.now c.args.hart stands c.requires p l)

pub returns-clause-none : goal.returns-clause-none
returns-clause-none c = λ run live stands none h.
    let known = read_times c.args.self.now c.args.hart c.index.result.now c.requires c.index.ensures in
    sym (ap (λ (f : ℕ → ℕ). f h) known) ∙ no_times run live c.args.self.now c.args.hart stands c.requires none h
