use Rattle.log_commands.proofs.Common.{◌≡◌, ◌++◌, drop, digest_text}
use Rattle.log_commands.proofs.lines.push_digest.Given as goal

abbrev pub invariant-loop-byte : goal.invariant-loop-byte
invariant-loop-byte l = l.text ++ digest_text (drop l.byte-index l.digest) ≡ l.fn.text ++ digest_text l.digest
