use Rattle.le_numbers.specs.Numbers.{number_bytes}
use Rattle.le_numbers.proofs.Writes.{put_mid-written}
use Rattle.le_numbers.proofs.writing.write_u32.Goals as goal

pub returns : goal.returns
unfolding number_bytes
returns c = put_mid-written c.args.at 4 c.args.bytes.now c.write_u32.new.buf _ c.requires c.write_u32.ensures
