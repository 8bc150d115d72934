use Rattle.joint_replay.proofs.Common.{◌≡◌, ◌++◌, ◌-◌, List, [], false, take, sym, ap, ◌∙◌, Retained, running, ℕ, ◌<◌, subst, ◌∷◌, Some, None, Program, Record, Content, IsThere, AreThere, Running, later_cursors, hart_cursors, IsHartLane}
use Rattle.joint_replay.proofs.lane.next_cursor.Goals as goal

-- of some intervals that are there, the last one and those before it are
last_there : (h : ℕ) (records : List Record) (rs all : List Retained) (r : Retained) → all ≡ rs ++ r ∷ [] → AreThere h records all → AreThere h records rs × IsThere h records r.number r.place
last_there h records rs all r e a = split rs (subst (AreThere h records) e a)
  where
    split : (xs : List Retained) → AreThere h records (xs ++ r ∷ []) → AreThere h records xs × IsThere h records r.number r.place
    split [] b = (tt, b.0)
    split (x ∷ xs) b = let rest : AreThere h records xs × IsThere h records r.number r.place = split xs b.1 in ((b.0, rest.0), rest.1)

-- none is left
none_left : (i : Program) (h : ℕ) (records : List Record) (rs all : List Retained) → rs ≡ all → hart_cursors i records h None rs ≡ later_cursors i records h all
none_left i h records rs all e = ap (later_cursors i records h) e

whole_without : (i : Program) (log : Content) (h : ℕ) (rs : List Retained) → h < log.head.settings.harts → rs ≡ [] → IsHartLane i log h None rs
whole_without i log h rs low e = record { hart = low; program = tt; there = subst (AreThere h log.records) (sym e) tt; goes = e }

whole_with : (i : Program) (log : Content) (h : ℕ) (r : Running) (rs : List Retained) → h < log.head.settings.harts → r.program ≡ i → AreThere h log.records rs → IsHartLane i log h (Some r) rs
whole_with i log h r rs low p there = record { hart = low; program = p; there = there; goes = tt }

pub returns-in-None : goal.returns-in-None
returns-in-None c =
    let none : c.pop.new.self.items ≡ [] = c.in-None.ensures.rest ∙ ap (λ n. take (n - 1) c.args.later.now.items) c.in-None.ensures.cases.0 in
    let same : c.args.later.now.items ≡ [] = c.in-None.ensures.items ∙ ap (λ (rs : List Retained). rs ++ []) none in
    record {
      cursors = none_left c.args.image.now c.args.hart c.args.log.now.records c.pop.new.self.items c.args.later.now.items (none ∙ sym same);
      whole = whole_without c.args.image.now c.args.log.now c.args.hart c.pop.new.self.items c.requires.hart none;
    }

pub returns-in-Ok-clause-whole : goal.returns-in-Ok-clause-whole
returns-in-Ok-clause-whole c =
    whole_with c.args.image.now c.args.log.now c.args.hart (running c.in-Some.next.number c.in-Ok.replayer false) c.pop.new.self.items c.requires.hart c.in-Ok.ensures.begins.program
    (last_there c.args.hart c.args.log.now.records c.pop.new.self.items c.args.later.now.items c.in-Some.next c.in-Some.ensures.items c.requires.there).0
