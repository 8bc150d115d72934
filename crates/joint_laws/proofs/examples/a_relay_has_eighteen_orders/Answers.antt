use Rattle.joint_laws.proofs.Worked.{relay_whole, relay_is, relay_merges, relay_others, relay_words}
use Rattle.joint_laws.proofs.examples.a_relay_has_eighteen_orders.Goals as goal

pub returns-clause-whole : goal.returns-clause-whole
returns-clause-whole c = relay_whole

pub returns-clause-orders : goal.returns-clause-orders
returns-clause-orders c = relay_is

pub returns-clause-merges : goal.returns-clause-merges
returns-clause-merges c = relay_merges

pub returns-clause-others : goal.returns-clause-others
returns-clause-others c = relay_others

pub returns-clause-words : goal.returns-clause-words
returns-clause-words c = relay_words
