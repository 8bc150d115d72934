use Rattle.race_report.proofs.Common.{◌∙◌, ap, sym, slice_get, Option, Row, race_by, row_of}
use Rattle.race_report.proofs.Orders.{race_none, race_some, race_nothing}
use Rattle.race_report.proofs.gathered.Gathered.race_with.Goals as goal

pub returns-in-None-row_of : goal.returns-in-None-row_of
returns-in-None-row_of c = λ harts run g.
    ap (λ (o : Option Row). race_by (slice_get run c.args.first) o c.args.meeting.word) (sym (c.row_of.ensures harts run g) ∙ c.in-None-row_of.is) ∙ race_none (slice_get run c.args.first) c.args.meeting.word

pub returns-in-Some-row_of : goal.returns-in-Some-row_of
returns-in-Some-row_of c = λ harts run g.
    ap (λ (o : Option Row). race_by (slice_get run c.args.first) o c.args.meeting.word) (sym (c.row_of.ensures harts run g) ∙ c.in-Some-row_of.is)
    ∙ race_some (slice_get run c.args.first) c.in-Some.row c.in-Some-row_of.second c.args.meeting.word (sym c.in-Some.is ∙ c.row_at.ensures harts run g)

pub returns-in-None : goal.returns-in-None
returns-in-None c = λ harts run g. race_nothing (slice_get run c.args.first) (row_of run c.args.meeting.second c.args.hart) c.args.meeting.word (sym c.in-None.is ∙ c.row_at.ensures harts run g)
