use Rattle.run_model.proofs.Common.{◌≡◌, ◌∷◌, [], length-append, arith, number_bytes, Record, FirstLoad, bytes_of, total}
use Rattle.run_model.proofs.Bytes.{total_append}
use Rattle.run_model.proofs.records.append_first_load.Goals as goal

pub returns-clause-holds : goal.returns-clause-holds
returns-clause-holds c rs is =
    let r : Record = FirstLoad c.args.hart c.args.skipped c.args.word in
    let skip = number_bytes 4 c.args.skipped in let value = number_bytes 4 c.args.word in
    let wide = c.numbers_have_their_width.ensures in
    let ten : total (r ∷ []) ≡ 10 = omega (arith, length-append (bytes_of r) [], length-append skip value, wide 4 c.args.skipped, wide 4 c.args.word) in
    record {
      holds = c.append_first_load.ensures.holds rs is.holds;
      bytes = omega (arith, is.bytes, total_append rs (r ∷ []), ten);
    }
