use Rattle.hart_replay.proofs.Common.{◌≡◌, [], ◌∷◌, Option, Some, Result, Err, false, subst, sym, rules, arith, ReplayError, Stepped, with_rows, CursorDoes, answered, cursor_to_come, next_of, left_by}
use Rattle.hart_replay.proofs.Stepping.{stepped_on, stepped_out}
use Rattle.hart_replay.proofs.replayer.Replayer.advance.Goals as goal

pub returns-then-goes_on : goal.returns-then-goes_on
returns-then-goes_on c =
    let n = c.goes_on.new.self in
    let kept : c.goes_on.new.over ≡ c.self.inside.over = c.goes_on.ensures.kept c.if-goes_on.true in
    let on = stepped_on c.self.inside.cursor n c.self.inside.over c.args.self.now c.goes_on.new.row c.self.view_is c.in-None.is c.if-self.true (omega arith) c.if-goes_on.ensures.answer c.goes_on.ensures.same in
    (subst (λ (o : Option (Result (Unit {0}) ReplayError)). c.args.self.now.left ≡ with_rows (c.goes_on.new.row ∷ []) (left_by o (cursor_to_come n))) (sym kept) on.0, on.1, on.2, on.3)

pub returns-in-Some-Err-over : goal.returns-in-Some-Err-over
returns-in-Some-Err-over c =
    let n = c.goes_on.new.self in
    let e = c.in-Some-Err-over.error in
    let is : c.goes_on.new.over ≡ Some (Err e) = search rules in
    let does : CursorDoes c.self.inside.cursor (next_of c.self.inside.cursor) (Err e) c.goes_on.new.row n =
    subst (λ (o : Option (Result (Unit {0}) ReplayError)). CursorDoes c.self.inside.cursor (next_of c.self.inside.cursor) (answered false o) c.goes_on.new.row n) is c.if-goes_on.ensures.answer in
    subst (λ (o : Option (Result (Unit {0}) ReplayError)). Stepped c.args.self.now (Err e) (record { program = n.image.now; mark = n.mark; state = n.state; left = left_by o (cursor_to_come n) })) (sym is)
    (stepped_out c.self.inside.cursor n c.self.inside.over c.args.self.now e c.goes_on.new.row c.self.view_is c.in-None.is c.if-self.true does c.goes_on.ensures.same)
