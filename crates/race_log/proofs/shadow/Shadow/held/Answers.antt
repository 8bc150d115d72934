use Rattle.race_log.proofs.Common.{◌≤◌, ◌+◌, ◌*◌, sym, subst, accessed_below, harts_of, words_of}
use Rattle.race_log.proofs.HeldLemmas.{most_held}
use Rattle.race_log.proofs.shadow.Shadow.held.Goals as goal

pub returns-clause-most : goal.returns-clause-most
returns-clause-most c = λ run live stands.
    let s = c.args.self.now in
    subst (λ n. n ≤ (harts_of s + 1) * accessed_below run (words_of s)) (sym c.held.ensures) (most_held s run live stands)
