use Rattle.first_load_bits.proofs.Below.{second_agrees}
use Rattle.first_load_bits.proofs.Bits.{bits_law}
use Rattle.first_load_bits.proofs.Order.{lines_law, length-lines, length-lines_below}
use Rattle.first_load_bits.proofs.laws.lists_say_the_history.Goals as goal

pub returns-clause-order : goal.returns-clause-order
returns-clause-order c = lines_law

pub returns-clause-few : goal.returns-clause-few
returns-clause-few c = length-lines

pub returns-clause-order_below : goal.returns-clause-order_below
returns-clause-order_below c = λ g l es w w2. second_agrees g es w w2 l

pub returns-clause-few_below : goal.returns-clause-few_below
returns-clause-few_below c = length-lines_below

pub returns-clause-warm : goal.returns-clause-warm
returns-clause-warm c = bits_law
