use Rattle.log_file.proofs.Common.{Err, ap, sym, ◌∙◌, OrderBreak, number_of}
use Rattle.log_file.proofs.Walks.{stays_broken, goes_on, breaks}
use Rattle.log_file.proofs.counting.advance.Goals as goal

pub returns-in-Some : goal.returns-in-Some
returns-in-Some c = λ start rs is ran. stays_broken c.args.terms.now c.args.at start rs c.args.entry.now c.in-Some.found is (rw c.in-Some.is at ran)

pub returns-in-Ok : goal.returns-in-Ok
returns-in-Ok c = λ start rs is ran. goes_on c.args.terms.now c.args.at start c.args.harts.now c.step.new.harts rs c.args.entry.now is (rw c.in-None.is at ran) (sym c.in-Ok.ensures)

pub returns-in-Err : goal.returns-in-Err
returns-in-Err c = λ start rs is ran. breaks c.args.terms.now c.args.at (number_of c.in-Err.rule) start c.args.harts.now rs c.args.entry.now is (rw c.in-None.is at ran) (sym c.in-Err.ensures) ∙ ap (λ (b : OrderBreak). Err b) (sym c.of.ensures)
