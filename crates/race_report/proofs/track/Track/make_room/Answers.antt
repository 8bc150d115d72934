use Rattle.race_report.proofs.Tracking.{known_is, heads_same, linked_same, room_here, then_ok}
use Rattle.race_report.proofs.track.Track.make_room.Goals as goal

pub returns-clause-heads : goal.returns-clause-heads
returns-clause-heads c =
    let heads = c.args.self.now.heads.items in
    heads_same heads c.args.hart c.index_mut.result.now c.make_room.new.self c.requires (known_is heads c.args.hart c.index_mut.result.now c.requires c.index_mut.ensures.value) c.make_room.ensures.same

pub invariant_of-self : goal.invariant_of-self
invariant_of-self c =
    let heads = c.args.self.now.heads.items in
    record {
      linked = linked_same heads _ c.args.self.now.entries.items
          (heads_same heads c.args.hart c.index_mut.result.now c.make_room.new.self c.requires (known_is heads c.args.hart c.index_mut.result.now c.requires c.index_mut.ensures.value) c.make_room.ensures.same) c.args.self.now.linked;
    }

pub returns-clause-room : goal.returns-clause-room
returns-clause-room c = then_ok c.make_room.result _ _ (room_here c.args.self.now.heads.items c.args.hart c.make_room.new.self c.requires) c.make_room.ensures.room
