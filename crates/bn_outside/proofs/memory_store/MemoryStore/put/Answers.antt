use Rattle.std.proofs.Common.{ap, ◌∙◌}
use Rattle.bn_outside.specs.InMemory.{files_in}
use Rattle.bn_outside.proofs.Entries.{put_there, put_elsewhere}
use Rattle.bn_outside.proofs.memory_store.MemoryStore.put.Goals as goal

pub returns-clause-ok : goal.returns-clause-ok
returns-clause-ok c = put_there c.self.inside.files c.insert.new.self _ _ c.in_ok-name.name c.in_ok-bytes.bytes c.in_ok-name.ensures.ok (c.in_ok-bytes.ensures.items_if_clones_equal (λ x y e. e)) c.in_ok-insert.ensures.updates

pub returns-clause-others : goal.returns-clause-others
returns-clause-others c = λ other differs.
    put_elsewhere c.self.inside.files c.insert.new.self _ c.in_ok-name.name c.in_ok-bytes.bytes c.in_ok-name.ensures.ok c.in_ok-insert.ensures.updates other differs
    ∙ ap (λ s. files_in s.entries other) c.self.view_is
