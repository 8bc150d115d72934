use Rattle.joint_laws.proofs.Words.{words_once}
use Rattle.joint_laws.proofs.known_words_ascend.Goals as goal

pub returns : goal.returns
returns c = words_once
