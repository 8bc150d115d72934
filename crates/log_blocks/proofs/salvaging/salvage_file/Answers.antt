use Rattle.std.proofs.Common.{refl, ◌∙◌}
use Rattle.log_blocks.proofs.Tallied.{within_size, renews}
use Rattle.log_blocks.proofs.salvaging.salvage_file.Goals as goal

pub write_file2-requires : goal.write_file2-requires
write_file2-requires c = let k = c.in_ok-tested.ensures.tested in within_size c.in_ok-tested.tested.head c.deref.result.now c.in_ok-tested.tested.counts k.log k.content (rw c.deref.ensures.value k.tells)

pub returns-clause-renewed : goal.returns-clause-renewed
returns-clause-renewed c =
    let k = c.in_ok-tested.ensures.tested in
    renews c.args.bytes.now c.in_ok-tested.tested _ k refl (c.in_ok-file.ensures k.log.head.settings.format k.log.records k.content.fit (c.deref.ensures.value ∙ k.tells.parts))
