use Rattle.log_record.proofs.Sizes.{header_size, first_load_size, edge_size, end_size}
use Rattle.log_record.proofs.record.Record.size.Goals as goal

pub returns-in-Header-clause-value : goal.returns-in-Header-clause-value
returns-in-Header-clause-value c = header_size c.numbers_have_their_width.ensures c.args.self.now _ _ _ _ c.in-Header.x c.others.result.now c.in-Header.is c.others.ensures.value

pub returns-in-FirstLoad-clause-value : goal.returns-in-FirstLoad-clause-value
returns-in-FirstLoad-clause-value c = first_load_size c.numbers_have_their_width.ensures c.args.self.now _ _ _ c.in-FirstLoad.is

pub returns-in-Edge-clause-value : goal.returns-in-Edge-clause-value
returns-in-Edge-clause-value c = edge_size c.numbers_have_their_width.ensures c.args.self.now _ _ _ _ c.in-Edge.is

pub returns-in-End-clause-value : goal.returns-in-End-clause-value
returns-in-End-clause-value c = end_size c.numbers_have_their_width.ensures c.args.self.now _ _ c.in-End.is
