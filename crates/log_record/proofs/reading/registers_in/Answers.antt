use Rattle.log_record.proofs.Common.{◌≡◌, ◌<◌, ◌∙◌, ◌+◌, ◌*◌, ◌-◌, ◌++◌, ◌∷◌, [], List, ℕ, length, take, set, length-set, ap, sym, arith, take_more_set, take_all, words_at}
use Rattle.log_record.proofs.Words.{words_at-more, words_at-done}
use Rattle.log_record.proofs.reading.registers_in.Goals as goal

pub loop-number-preserved : goal.loop-number-preserved
loop-number-preserved c =
    let i = c.loop-number.number in
    let bytes = c.args.bytes.now in
    let front = take i c.loop-number.contents in
    let lt : i < length c.loop-number.contents = omega (arith, c.loop-number.invariant.count, c.loop-number-test.true) in
    let more = words_at-more front 32 i (18 + 4 * i) (18 + 4 * (i + 1)) bytes (0 ∷ words_at 31 22 bytes) c.loop-number-test.true (omega arith) c.loop-number.invariant.read in
    let written : take (i + 1) (set c.loop-number.contents i c.read_u32.result) ≡ front ++ c.read_u32.result ∷ [] = take_more_set c.loop-number.contents i c.read_u32.result lt in
    record {
      count = simp length-set c.loop-number.invariant.count;
      read = ap (λ (t : List ℕ). t ++ words_at (32 - (i + 1)) (18 + 4 * (i + 1)) bytes) (written ∙ ap (λ (w : ℕ). front ++ w ∷ []) c.read_u32.ensures) ∙ more;
    }

pub returns : goal.returns
returns c =
    let i = c.loop-number.number in
    let front = take i c.loop-number.contents in
    let all : front ≡ c.loop-number.contents = take_all i c.loop-number.contents (omega (arith, c.loop-number.invariant.count, c.loop-number-test.false)) in
    c.new.ensures ∙ sym all ∙ words_at-done front (32 - i) (18 + 4 * i) c.args.bytes.now _ (omega (arith, c.loop-number-test.false)) c.loop-number.invariant.read
