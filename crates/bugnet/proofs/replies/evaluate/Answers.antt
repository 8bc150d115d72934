use Rattle.bugnet.proofs.replies.evaluate.Goals as goal

pub returns-in-Replay-clause-answers : goal.returns-in-Replay-clause-answers
returns-in-Replay-clause-answers c = rw c.in-Replay.is (rw (c.deref.ensures.value, c.deref-in-Replay.ensures.value) at c.evaluate.ensures)

pub returns-in-Joint-clause-answers : goal.returns-in-Joint-clause-answers
returns-in-Joint-clause-answers c = rw c.in-Joint.is (rw (c.deref-in-Joint.ensures.value, c.deref-in-Joint-2.ensures.value) at c.evaluate-in-Joint.ensures)

pub returns-in-Races-clause-answers : goal.returns-in-Races-clause-answers
returns-in-Races-clause-answers c = rw c.in-Races.is (rw (c.deref-in-Races.ensures.value, c.deref-in-Races-2.ensures.value) at c.evaluate-in-Races.ensures)

pub returns-in-Slice-clause-answers : goal.returns-in-Slice-clause-answers
returns-in-Slice-clause-answers c = rw c.in-Slice.is (rw (c.deref-in-Slice.ensures.value, c.deref-in-Slice-2.ensures.value) at c.evaluate-in-Slice.ensures)

pub returns-in-List-clause-answers : goal.returns-in-List-clause-answers
returns-in-List-clause-answers c = rw c.in-List.is (rw c.deref-in-List.ensures.value at c.evaluate-in-List.ensures)

pub returns-in-Check-clause-answers : goal.returns-in-Check-clause-answers
returns-in-Check-clause-answers c = rw c.in-Check.is (rw c.deref-in-Check.ensures.value at c.evaluate-in-Check.ensures)

pub returns-in-Convert-clause-answers : goal.returns-in-Convert-clause-answers
returns-in-Convert-clause-answers c = rw c.in-Convert.is (rw c.deref-in-Convert.ensures.value at c.evaluate-in-Convert.ensures)

pub returns-in-Salvage-clause-answers : goal.returns-in-Salvage-clause-answers
returns-in-Salvage-clause-answers c = rw c.in-Salvage.is (rw c.deref-in-Salvage.ensures.value at c.evaluate-in-Salvage.ensures)

pub returns-in-Audit-clause-answers : goal.returns-in-Audit-clause-answers
returns-in-Audit-clause-answers c = rw c.in-Audit.is (rw (c.deref-in-Audit.ensures.value, c.deref-in-Audit-2.ensures.value, c.deref-in-Audit-3.ensures.value) at c.evaluate-in-Audit.ensures)

pub returns-in-Demo-clause-answers : goal.returns-in-Demo-clause-answers
returns-in-Demo-clause-answers c = rw c.in-Demo.is c.evaluate-in-Demo.ensures.answers

pub returns-in-Demo-clause-demo : goal.returns-in-Demo-clause-demo
returns-in-Demo-clause-demo c = λ names. rw c.in-Demo.is (c.evaluate-in-Demo.ensures.shows names)
