use Rattle.bugnet.proofs.Agrees.{AuditLaws}
use Rattle.bugnet.proofs.Suffices.{FileLaws, Sizes}
use Rattle.bugnet.proofs.Complete.{SecondLaws, can-be-done}
use Rattle.bugnet.proofs.laws.each_can_be_done.Goals as goal

pub returns : goal.returns
returns c =
    let laws : FileLaws = record { contents = c.logs_are_contents.ensures; limit = c.saved_files_keep_to_the_limit.ensures; read = c.files_are_read.ensures } in
    let seconds : SecondLaws = record { numbers = c.files_number_their_version.ensures; sizes = c.files_have_their_size.ensures; few = c.blocks_are_few.ensures; whole = c.whole_files_are_salvaged.ensures } in
    let audits : AuditLaws = record { verdicts = c.verdicts_are_unique.ensures; errors = c.whole_runs_have_no_error.ensures } in
    let sizes : Sizes = record { first = c.files_have_their_size-2.ensures; second = c.files_have_their_size.ensures; few = c.blocks_are_few.ensures } in
    can-be-done c.seeds_are_whole.ensures c.schedules_are_whole.ensures c.one_answer.ensures (c.ends_suffice.ensures, c.the_rows_of_an_interval_stand_together.ensures) sizes laws seconds audits
