use Rattle.race_log.proofs.Common.{refl, false≢true}
use Rattle.race_log.proofs.Steps.{stands_same}
use Rattle.race_log.proofs.shadow.Shadow.reserve.Goals as goal

pub returns-in_err-make_room-clause-ready : goal.returns-in_err-make_room-clause-ready
returns-in_err-make_room-clause-ready c is = absurd (false≢true (c.in_err-make_room.ensures.ready (c.args.self.now.room (c.args.first, c.args.count) is)))

pub returns-in_err-make_room-clause-stands : goal.returns-in_err-make_room-clause-stands
returns-in_err-make_room-clause-stands c = λ run live.
    stands_same _ _ (record { harts = refl; lasting = refl; turn = refl; times = λ hart other. refl; kept = c.make_room.ensures.same }) run live

pub returns-clause-stands : goal.returns-clause-stands
returns-clause-stands c = λ run live.
    stands_same _ _ (record { harts = refl; lasting = refl; turn = refl; times = λ hart other. refl; kept = c.make_room.ensures.same }) run live
