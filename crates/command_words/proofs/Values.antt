-- What is read of a value, and how an argument reads it.
use Rattle.command_words.proofs.Common.{◌≡◌, ◌∙◌, ℕ, Bool, true, false, Result, Ok, Err, Option, Some, None, refl, ap, arith, Rule, Text, rule_of, number_of, IsRule}
use Rattle.std.specs.Result.{result_ok}
use Rattle.std.specs.Str.Parse.{ParsesUnsigned}
use Rattle.clap.specs.ValueTests.{is_unsigned_in}
use Rattle.clap.specs.Values.{IsUnsignedIn}
use Rattle.clap.specs.declared.builder.arg.Arg.{Arg}
use Rattle.clap.specs.declared.builder.value_parser.ValueParser.{ValueParser}
use Rattle.clap.specs.declared.builder.value_parser.ValueParser.TheVariants as vp
use Rattle.clap.proofs.ValueTestLemmas.{accepts-Accepts, Accepts-accepts}

-- an argument whose values are read in another way
pub parsed : (old new : Arg) (r : Rule) (p : ValueParser) → new ≡ record old { value_parser = new.value_parser } → new.value_parser ≡ Some p → IsRule r old → IsRule (record r { parser = Some p }) new
parsed old new r p others given is = (
  ap rule_of others ∙ ap (λ (v : Option ValueParser). record (rule_of old) { parser = v }) given ∙ ap (λ (x : Rule). record x { parser = Some p }) is.0,
  ap (λ (a : Arg). a.global) others ∙ is.1,
)

pub number_read : {E : Type 0} (t : Text) (r : Result ℕ E) → ParsesUnsigned 64 10 t r → result_ok r ≡ number_of t
number_read t (Ok n) h =
    let in_range : IsUnsignedIn 0 18446744073709551615 t = (h.0.0, h.0.1, omega arith, omega arith) in
    let yes : is_unsigned_in 0 18446744073709551615 t ≡ true = Accepts-accepts false (vp.Unsigned 0 18446744073709551615) t in_range in
    rw yes (ap Some h.1)
number_read t (Err e) h = go (is_unsigned_in 0 18446744073709551615 t) refl
  where
    go : (b : Bool) → is_unsigned_in 0 18446744073709551615 t ≡ b → None ≡ number_of t
    go false e = rw e refl
    go true e = let a = accepts-Accepts false (vp.Unsigned 0 18446744073709551615) t e in absurd (h (a.0, a.1))
