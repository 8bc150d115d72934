use Rattle.log_commands.proofs.Common.{drop}
use Rattle.log_commands.proofs.Fetched.{LoadedSoFar}
use Rattle.log_commands.proofs.inputs.load_inputs.Given as goal

abbrev pub invariant-loop-role : goal.invariant-loop-role
invariant-loop-role g l = LoadedSoFar l.names l.roles (drop l.role-index l.roles) l.inputs g.S.Store.note (g.S.Store.stored l.fn.files) (g.S.Store.stored l.files)
