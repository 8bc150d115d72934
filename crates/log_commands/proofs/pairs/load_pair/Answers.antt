use Rattle.log_commands.proofs.Common.{IsByLog, by_reading, LoadsPair, pair_roles, pair_of, JointReading}
use Rattle.log_commands.proofs.Answered.{loads-stop, loads-give}
use Rattle.log_commands.proofs.Answering.{passed-on, pair-gives}
use Rattle.log_commands.proofs.Fetched.{only-own}
use Rattle.log_commands.proofs.FileCalls.{own-loads}
use Rattle.log_commands.proofs.SamePair.{pair-there}
use Rattle.log_commands.proofs.Tells.{with-any}
use Rattle.log_commands.proofs.pairs.load_pair.Goals as goal

pub returns-in_err-inputs : goal.returns-in_err-inputs
returns-in_err-inputs g c =
    let names = c.args.names.now in
    let h = c.in_err-inputs.ensures in
    passed-on (LoadsPair names g.S.Store.note _ _) _ c.from_residual.result c.from_residual.ensures.1
    (record {
      told = λ go.
          loads-stop (by_reading go) (λ b what. IsByLog names b.log (pair_of go names b.elf) what) pair_roles _ names _
          (rw c.pair_roles.ensures at h.loads);
      loaded = with-any _ _ (λ files. tt);
      only = record { same = h.only.same; asks = h.only.asks; later = h.only.later; cause = h.only.cause };
      calls = rw c.pair_roles.ensures at h.calls;
    })

pub returns : goal.returns
returns g c =
    let names = c.args.names.now in
    let inputs = c.in_ok-inputs.inputs in
    let h = c.in_ok-inputs.ensures in
    let there = rw c.pair_roles.ensures at h.loads in
    let made = rw c.deref-2.ensures.value at (rw c.deref.ensures.value at c.read_pair.ensures.is) in
    record {
      told = λ go.
          loads-give (by_reading go) (λ b what. IsByLog names b.log (pair_of go names b.elf) what) pair_roles _ names inputs c.read_pair.result there
          (pair-gives inputs.log.items inputs.elf.items go names c.read_pair.result made);
      loaded = pair-there _ names inputs c.read_pair.result there made;
      only = only-own _ _ inputs c.read_pair.result h.only c.read_pair.ensures.own;
      calls = own-loads JointReading g.S.Store.note names pair_roles _ _ c.read_pair.result
          (rw c.pair_roles.ensures at h.calls) c.read_pair.ensures.own;
    }
