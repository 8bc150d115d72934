use Rattle.race_report.proofs.Tracking.{known_is, heads_set, linked_set, room_is, on_ok}
use Rattle.race_report.proofs.track.Track.set_head.Goals as goal

pub returns-clause-heads : goal.returns-clause-heads
returns-clause-heads c =
    let heads = c.args.self.now.heads.items in
    let p = c.index_mut.result.now in
    let there = known_is heads c.args.hart p c.requires.hart c.index_mut.ensures.value in
    let put = on_ok c.put.result _ (c.put.ensures.taken (room_is heads c.args.hart p there c.requires.room)) c.put.ensures.word in
    heads_set heads c.args.hart c.args.word c.args.number p c.put.new.self c.requires.hart there put

pub invariant_of-self : goal.invariant_of-self
invariant_of-self c =
    let heads = c.args.self.now.heads.items in
    let p = c.index_mut.result.now in
    let there = known_is heads c.args.hart p c.requires.hart c.index_mut.ensures.value in
    let put = on_ok c.put.result _ (c.put.ensures.taken (room_is heads c.args.hart p there c.requires.room)) c.put.ensures.word in
    record {
      linked = linked_set heads _ c.args.self.now.entries.items c.args.hart c.args.word c.args.number c.requires.number
          (heads_set heads c.args.hart c.args.word c.args.number p c.put.new.self c.requires.hart there put) c.args.self.now.linked;
    }

pub unreachable-requires : goal.unreachable-requires
unreachable-requires c =
    let heads = c.args.self.now.heads.items in
    let p = c.index_mut.result.now in
    let there = known_is heads c.args.hart p c.requires.hart c.index_mut.ensures.value in
    let no = c.in-Err.ensures.taken (room_is heads c.args.hart p there c.requires.room) in
    absurd cc
