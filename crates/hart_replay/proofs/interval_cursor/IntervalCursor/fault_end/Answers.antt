use Rattle.hart_replay.proofs.Common.{ap, ◌∙◌, EndDiffers, without_rows, outcome_of, interval_of_cursor, position_of, Program, fetched, ◌≡◌, HartState, ask_of, Ask}
use Rattle.hart_replay.proofs.Asked.{end_missed, end_met, end_other}
use Rattle.hart_replay.proofs.interval_cursor.IntervalCursor.fault_end.Goals as goal

run_of : (i j : Program) (s : HartState) (a : Ask) → i ≡ j → a ≡ ask_of i 1 s → a ≡ ask_of j 1 s
run_of i j s a same e = e ∙ ap (λ (p : Program). ask_of p 1 s) same

pub returns-then-is_fault : goal.returns-then-is_fault
returns-then-is_fault c =
    end_met c.args.self.now.image.now c.args.self.now.hart (interval_of_cursor c.args.self.now) (without_rows (position_of c.args.self.now)) c.quiet_run_in_place-want.new.state c.quiet_run_in_place-want.result c.in-Some.kind c.in-Some.value c.of_fault-end.result c.fault_row.result (outcome_of c.left_over.result) c.is_fault.result c.requires (run_of _ _ c.args.self.now.state _ c.image-image.ensures c.quiet_run_in_place-want.ensures)
    c.in-Some.ensures c.of_fault-end.ensures c.is_fault.ensures c.if-is_fault.true (c.fault_row.ensures.looked_up c.args.self.now.hart c.args.self.now.image.now c.args.self.now.state (c.at-here.ensures ∙ ap (λ (i : Program). fetched c.args.self.now.hart i c.args.self.now.state) c.image-image.ensures)) c.left_over.ensures

pub returns-else-is_fault : goal.returns-else-is_fault
returns-else-is_fault c =
    end_other c.args.self.now.image.now c.args.self.now.hart (interval_of_cursor c.args.self.now) (without_rows (position_of c.args.self.now)) c.quiet_run_in_place-want.new.state c.quiet_run_in_place-want.result c.in-Some.kind c.in-Some.value c.of_fault-end.result c.differs.result c.is_fault.result c.requires (run_of _ _ c.args.self.now.state _ c.image-image.ensures c.quiet_run_in_place-want.ensures)
    c.in-Some.ensures c.of_fault-end.ensures c.is_fault.ensures c.if-is_fault.false c.differs.ensures

pub returns-in-None : goal.returns-in-None
returns-in-None c =
    end_missed c.args.self.now.image.now c.args.self.now.hart (interval_of_cursor c.args.self.now) (without_rows (position_of c.args.self.now)) c.quiet_run_in_place-want.new.state c.quiet_run_in_place-want.result c.differs-in-None.result c.requires (run_of _ _ c.args.self.now.state _ c.image-image.ensures c.quiet_run_in_place-want.ensures) c.in-None.ensures (c.differs-in-None.ensures ∙ ap (EndDiffers c.args.self.now.hart c.args.self.now.mark) c.end_here.ensures)
