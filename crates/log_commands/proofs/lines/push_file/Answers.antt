use Rattle.log_commands.proofs.Common.{file_said}
use Rattle.log_commands.proofs.lines.push_file.Goals as goal

pub returns-in-Short : goal.returns-in-Short
unfolding file_said
returns-in-Short c = rw c.in-Short.is c.push_counted.ensures

pub returns-in-BadVersion : goal.returns-in-BadVersion
unfolding file_said
returns-in-BadVersion c = rw c.in-BadVersion.is c.push_counted-in-BadVersion.ensures

pub returns-in-LengthDiffers : goal.returns-in-LengthDiffers
unfolding file_said
returns-in-LengthDiffers c = rw c.in-LengthDiffers.is c.push_pair-in-LengthDiffers.ensures

pub returns-in-DigestDiffers : goal.returns-in-DigestDiffers
unfolding file_said
returns-in-DigestDiffers c = rw c.in-DigestDiffers.is c.push_digests.ensures

pub returns-in-BadRecord : goal.returns-in-BadRecord
unfolding file_said
returns-in-BadRecord c = rw c.in-BadRecord.is c.push_counted-in-BadRecord.ensures

pub returns-in-BadOrder : goal.returns-in-BadOrder
unfolding file_said
returns-in-BadOrder c = rw c.in-BadOrder.is c.push_pair-in-BadOrder.ensures

pub returns-in-OutOfMemory : goal.returns-in-OutOfMemory
unfolding file_said
returns-in-OutOfMemory c = rw c.in-OutOfMemory.is c.push_str-in-OutOfMemory.ensures.ok
