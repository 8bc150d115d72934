use Rattle.race_report.proofs.Common.{◌∙◌, ap, sym, arith, List, Some, Meeting}
use Rattle.race_report.proofs.Lists.{lists_length, list_at, lists_get}
use Rattle.race_report.proofs.race_lists.RaceLists.with.Goals as goal

pub index-requires : goal.index-requires
index-requires c = omega (arith, c.requires, c.args.self.now.lists.ok, lists_length c.args.self.now.lists.items)

pub returns : goal.returns
returns c =
    let vs = c.args.self.now.lists.items in
    lists_get vs c.args.first c.index.result.now (list_at vs c.args.first c.index.result.now c.requires c.index.ensures) ∙ ap (λ (l : List Meeting). Some l) (sym c.deref.ensures.value)
