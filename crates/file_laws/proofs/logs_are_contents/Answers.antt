use Rattle.file_laws.proofs.Views.{OrderLaws}
use Rattle.file_laws.proofs.Turns.{Laws}
use Rattle.file_laws.proofs.Contents.{contents}
use Rattle.file_laws.proofs.logs_are_contents.Goals as goal

pub returns : goal.returns
returns c =
    let order : OrderLaws = record { more = c.one_more_is_kept.ensures; header = c.an_awaited_header_follows.ensures; other = c.loads_and_conditionals_follow.ensures; edge = c.an_edge_follows.ensures; ends = c.an_end_follows.ensures } in
    let turns : Laws = record { order = order; listed = c.listed_edges_are_all.ensures.all; moves = c.each_turn_moves_on.ensures; fits = c.each_turn_fits.ensures; others = c.others_stay_fit.ensures; guarded = c.guarded_asks_fit.ensures } in
    contents (record { turns = turns; asks = c.each_ask_is_orderly.ensures.orderly; keep = c.registers_stay_words.ensures.step; few = c.edges_are_few.ensures })
    c.loaded_programs_are_images.ensures c.runs_end.ensures c.no_records_are_kept.ensures c.a_suffix_is_kept.ensures c.kept_records_fit.ensures c.the_first_are_given_up.ensures c.kept_records_are_in_order.ensures c.early_edges_are_not_late.ensures
