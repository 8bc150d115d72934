use Rattle.bus_core.proofs.Common.{◌≡◌, Bool, true, false, subst, sym, ◌∙◌, parts, Seen, seen, is_live, HasTurnedAlone}
use Rattle.bus_core.proofs.Lone.{history_lone, lone_seen, one_seen}
use Rattle.bus_core.proofs.bus.Bus.take_turns.Goals as goal

pub returns-then-is_some : goal.returns-then-is_some
returns-then-is_some g c =
    let e = c.in_ok-take_turn.ensures in
    record { turned = one_seen g.B.Book.tells c.args.most c.args.self c.take_turn.new.self c.requires.some c.requires.alone c.requires.live e.began e.halted e.disordered e.turns e.state e.told }

pub invariant_of-result : goal.invariant_of-result
invariant_of-result g c =
    let b = c.self.inside in
    let p = parts b.plain in let q = parts c.turns_alone.new.self in
    let s = c.self.invariant.some in
    let live = subst (λ (x : Seen). is_live x 0 ≡ true) (sym c.self.view_is) c.requires.live in
    record {
      told = λ t. absurd (apart (sym c.rows.ensures.tells ∙ sym c.is_some.ensures ∙ c.if-is_some.false) t);
      some = history_lone c.args.most p q b.halted b.disordered s.0 live c.turns_alone.ensures.start c.in_ok-turns_alone.ensures.turned s.1;
    }
  where
    apart : {b : Bool} → b ≡ false → b ≡ true → ⊥
    apart f t = cc

pub returns : goal.returns
returns g c =
    let b = c.self.inside in
    let p = parts b.plain in let q = parts c.turns_alone.new.self in
    let s = c.self.invariant.some in
    let told = g.B.Book.told b.book in
    record {
      turned = subst (λ (x : Seen). HasTurnedAlone g.B.Book.tells c.args.most x (seen q b.halted b.disordered told)) c.self.view_is
          (lone_seen c.notes_decide.ensures g.B.Book.tells c.args.most p q b.halted b.disordered told s.0 (sym c.rows.ensures.tells ∙ sym c.is_some.ensures ∙ c.if-is_some.false) c.turns_alone.ensures.start c.in_ok-turns_alone.ensures.turned s.1);
    }
