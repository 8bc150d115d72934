use Rattle.std.proofs.Common.{rules}
use Rattle.hart_replay.proofs.Lookups.{copied_lookups}
use Rattle.hart_replay.proofs.decode_cache.make_table.Goals as goal

pub returns-in-Ok : goal.returns-in-Ok
returns-in-Ok c i all = copied_lookups i 1024 c.empty.result c.in-Ok.made.items (c.empty.ensures i) (c.in-Ok.ensures.items_if_clones_equal (λ y h. search rules))
