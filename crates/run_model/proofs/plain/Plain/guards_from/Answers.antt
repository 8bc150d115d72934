use Rattle.run_model.proofs.Common.{◌≡◌, ◌≤◌, ◌==◌, ◌+◌, ◌-◌, ◌*◌, ◌/◌, false, Bool, ap, subst, arith, nat_lt, ◌&&◌, ne_eqb, header_size, Hart, IsUnguarded, hart_in}
use Rattle.run_model.proofs.LoneTurns.{fewer_than_half, below_none}
use Rattle.run_model.proofs.Owns.{hart_at}
use Rattle.run_model.proofs.plain.Plain.guards_from.Goals as goal

pub returns-then-format-ne2 : goal.returns-then-format-ne2
returns-then-format-ne2 c bytes below =
    let s = c.args.self.now.start.settings in
    let one : (s.format == 2) ≡ false = ne_eqb s.format 2 (λ q. omega (arith, q, c.format.ensures, c.if-format-ne2.true)) in
    ap (λ (b : Bool). b && nat_lt s.log_size (2 * (header_size + (bytes - (hart_in c.args.self.now.trace.harts.items 0).headed)))) one

pub returns-then-half-lt-HEADER_SIZE : goal.returns-then-half-lt-HEADER_SIZE
returns-then-half-lt-HEADER_SIZE c = below_none c.args.self.now.start.settings (hart_in c.args.self.now.trace.harts.items 0).headed

pub returns : goal.returns
returns c =
    let p = c.args.self.now in
    let s = p.start.settings in
    let own : Hart = c.index-own.result.now in
    let at : own ≡ hart_in p.trace.harts.items 0 = hart_at p.trace.harts.items 0 own c.requires c.index-own.ensures in
    let half = c.from-half.result / 2 in
    let is : half ≡ s.log_size / 2 = omega (arith, c.from-half.ensures, c.log_size.ensures) in
    let most : 146 ≤ half = omega (arith, c.if-half-lt-HEADER_SIZE.false) in
    let low : c.saturating_add.result ≤ own.headed + (half - 145) = omega (arith, c.saturating_add.ensures) in
    subst (λ (h : Hart). IsUnguarded s h.headed c.saturating_add.result) at (fewer_than_half s half own.headed c.saturating_add.result is most low)
