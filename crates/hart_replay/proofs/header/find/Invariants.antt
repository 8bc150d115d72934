use Rattle.hart_replay.proofs.Common.{◌≡◌, drop, interval_of}
use Rattle.hart_replay.proofs.header.find.Given as goal

-- the Header doesn't stand before the place
abbrev pub invariant-loop-place : goal.invariant-loop-place
invariant-loop-place l = interval_of l.hart l.interval (drop l.place l.records) ≡ interval_of l.hart l.interval l.records
