use Rattle.run_model.proofs.Common.{◌≡◌, ◌<◌, ◌*◌, ◌==◌, ℕ, false, sym, subst, nat_lt, ◌&&◌, parts}
use Rattle.run_model.proofs.LoneTurns.{bytes_here, below_from}
use Rattle.run_model.proofs.plain.Plain.may_guard.Goals as goal

pub returns : goal.returns
returns c e run is =
    let s = c.args.self.now.start.settings in
    let bytes = c.args.self.now.trace.log.bytes in
    let below : bytes < c.args.limit = below_from bytes c.args.limit e in
    subst (λ (n : ℕ). (s.format == 2) && nat_lt s.log_size (2 * n) ≡ false) (sym (bytes_here (parts c.args.self.now) run is c.requires.hart)) (c.requires.limit bytes below)
