-- Which texts are numbers.
use Rattle.std.specs.Prelude.{◌≡◌, ℕ, Bool, true, false, List, Option, Some, None, Result, Ok, Err}
use Rattle.std.proofs.Common.{refl, ap, arith}
use Rattle.std.specs.Result.{result_ok}
use Rattle.std.specs.Str.Parse.{ParsesUnsigned}
use Rattle.clap.specs.ValueTests.{is_unsigned_in}
use Rattle.clap.specs.Values.{IsUnsignedIn}
use Rattle.clap.specs.declared.builder.value_parser.ValueParser.TheVariants as vp
use Rattle.clap.proofs.ValueTestLemmas.{accepts-Accepts, Accepts-accepts}
use Rattle.command_words.specs.Words.{number_of}

-- a text that is read as a number is one as the command line has it
pub number_read : {E : Type 0} (t : List ℕ) (r : Result ℕ E) → ParsesUnsigned 64 10 t r → result_ok r ≡ number_of t
number_read t (Ok n) h =
    let in_range : IsUnsignedIn 0 18446744073709551615 t = (h.0.0, h.0.1, omega arith, omega arith) in
    let yes : is_unsigned_in 0 18446744073709551615 t ≡ true = Accepts-accepts false (vp.Unsigned 0 18446744073709551615) t in_range in
    rw yes (ap Some h.1)
number_read t (Err e) h = go (is_unsigned_in 0 18446744073709551615 t) refl
  where
    go : (b : Bool) → is_unsigned_in 0 18446744073709551615 t ≡ b → None ≡ number_of t
    go false e = rw e refl
    go true e = let a = accepts-Accepts false (vp.Unsigned 0 18446744073709551615) t e in absurd (h (a.0, a.1))
