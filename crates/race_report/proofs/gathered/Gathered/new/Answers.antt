use Rattle.race_report.proofs.Common.{◌∙◌, ◌<◌, ℕ, ap, subst, sym, arith, length, true, false, everyone}
use Rattle.race_report.proofs.Following.{follows_none}
use Rattle.race_report.proofs.gathered.Gathered.new.Goals as goal

pub returns : goal.returns
returns c = record {
  harts_are = c.harts-harts.ensures.value;
  few = omega (arith, c.harts-harts.ensures.value, c.harts-harts.ensures.room);
  rows = c.new-4.ensures.items;
  owners = c.new-5.ensures.items;
  all = follows_none c.args.settings.now.harts true c.in_ok-all.all (c.in_ok-all.ensures.harts ∙ c.harts-harts.ensures.value) c.in_ok-all.ensures.none c.in_ok-all.ensures.below;
  written = follows_none c.args.settings.now.harts false c.in_ok-written.written (c.in_ok-written.ensures.harts ∙ c.harts-harts.ensures.value) c.in_ok-written.ensures.none c.in_ok-written.ensures.below;
  stands = c.in_ok-shadow.ensures.stands everyone;
  shadow_harts = c.in_ok-shadow.ensures.harts;
  turn = (let e = c.in_ok-shadow.ensures.turn in omega (arith, e));
  counts = λ h. (let e = c.in_ok-shadow.ensures.counts h in omega (arith, e));
  lasting = λ h low. c.in_ok-shadow.ensures.lasting h (subst (λ (k : ℕ). h < k) (sym c.in_ok-shadow.ensures.harts) low);
  size = ap length c.new-6.ensures;
  lists = λ m low. absurd (omega (arith, low));
}
