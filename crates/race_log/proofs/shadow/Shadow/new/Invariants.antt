use Rattle.std.proofs.Common.{◌≡◌, vec_len}
use Rattle.race_log.proofs.NewLemmas.{AllZero}
use Rattle.race_log.proofs.shadow.Shadow.new.Given as goal

abbrev pub invariant-loop : goal.invariant-loop
invariant-loop l = record {
  zeros : AllZero l.times.items;
  size : vec_len l.times ≡ l.counter;
}
