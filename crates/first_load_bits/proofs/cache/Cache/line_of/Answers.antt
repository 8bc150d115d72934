use Rattle.first_load_bits.proofs.Common.{◌≡◌, ◌/◌, ◌^◌, ◌∙◌, ap, subst, pow-add, mul_comm, line_of, Contents}
use Rattle.first_load_bits.proofs.cache.Cache.line_of.Goals as goal

pub returns : goal.returns
returns c = let k = c.self.inside.word_bits.bits in subst (λ (x : Contents). c.args.addr / 2 ^ c.self.inside.shift ≡ line_of x.geometry c.args.addr) c.self.view_is (ap (λ n. c.args.addr / 2 ^ n) c.self.invariant.shift ∙ ap (λ n. c.args.addr / n) (pow-add 2 k 2 ∙ mul_comm (2 ^ k) 4))
