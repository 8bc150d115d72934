use Rattle.race_log.proofs.Common.{◌≡◌, ◌+◌, ◌*◌, ◌-◌, None, count_of, latest, gathered, found_as, kept_in, epoch_counts}
use Rattle.race_log.proofs.search.latest_in.Given as goal

abbrev pub invariant-loop-i : goal.invariant-loop-i
invariant-loop-i l =
    latest l.hart l.writes (count_of l.times) (found_as (epoch_counts l.words.epochs) l.best) (gathered (kept_in l.words) (l.first + 4 * l.i) (l.count - l.i))
    ≡ latest l.hart l.writes (count_of l.times) None (gathered (kept_in l.words) l.first l.count)
