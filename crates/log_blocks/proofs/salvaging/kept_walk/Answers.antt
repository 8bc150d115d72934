use Rattle.log_blocks.proofs.Common.{ℕ, List, false, subst, sym, ◌∙◌, HasWalked}
use Rattle.log_blocks.proofs.Salvaged.{lost, unlisted_left, walked_behind}
use Rattle.log_blocks.proofs.salvaging.kept_walk.Goals as goal

pub returns-then-not-listed-clause-refused : goal.returns-then-not-listed-clause-refused
returns-then-not-listed-clause-refused c =
    let s = c.walk_back-walk.ensures in
    unlisted_left c.args.bytes.now c.head_digest.result c.tail.result.now c.read_u32-said.result c.walk_back-walk.result.0.rest c.walk_back-walk.result.0.size s.sizes
    (record { fault = c.requires.fault; digest_is = c.head_digest.ensures; n_is = c.read_u32-said.ensures; body_is = c.tail.ensures }) s.walked (s.some c.if-not-listed.true)

pub returns-then-is_lost-clause-refused : goal.returns-then-is_lost-clause-refused
returns-then-is_lost-clause-refused c =
    let s = c.walk_back-walk.ensures in
    lost c.args.bytes.now c.head_digest.result c.tail.result.now c.read_u32-said.result c.walk_back-walk.result.0.rest c.walk_back-walk.result.0.size c.walk_back-walk.result.0.sizes.items
    (record { fault = c.requires.fault; digest_is = c.head_digest.ensures; n_is = c.read_u32-said.ensures; body_is = c.tail.ensures })
    (subst (λ (t : List ℕ). HasWalked c.head_digest.result c.read_u32-said.result c.tail.result.now c.walk_back-walk.result.0.rest c.walk_back-walk.result.0.size t) (sym (s.all c.if-not-listed.false)) s.walked) (sym c.is_lost.ensures ∙ c.if-is_lost.true)

pub returns-clause-walked : goal.returns-clause-walked
returns-clause-walked c =
    let s = c.walk_back-walk.ensures in
    walked_behind c.args.bytes.now c.head_digest.result c.tail.result.now c.read_u32-said.result c.walk_back-walk.result.0.rest c.walk_back-walk.result.0.size c.walk_back-walk.result.0.sizes.items
    (record { fault = c.requires.fault; digest_is = c.head_digest.ensures; n_is = c.read_u32-said.ensures; body_is = c.tail.ensures })
    (subst (λ (t : List ℕ). HasWalked c.head_digest.result c.read_u32-said.result c.tail.result.now c.walk_back-walk.result.0.rest c.walk_back-walk.result.0.size t) (sym (s.all c.if-not-listed.false)) s.walked)
