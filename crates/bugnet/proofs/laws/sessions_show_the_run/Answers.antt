use Rattle.bugnet.proofs.Sessions.{sessions_show}
use Rattle.bugnet.proofs.laws.sessions_show_the_run.Goals as goal

pub returns : goal.returns
returns c = sessions_show c.beginnings_go_on.ensures c.steps_are_not_refused.ensures c.reached_joint_replays_say_the_run.ensures
