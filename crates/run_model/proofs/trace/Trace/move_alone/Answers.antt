use Rattle.run_model.proofs.Common.{◌≡◌, ◌∙◌, ℕ, ◌+◌, ◌-◌, refl, sym, ap, arith, HartState, ask_of, Hart, hart_in}
use Rattle.run_model.proofs.LoneTurns.{state_there, moved_by, asks_same}
use Rattle.run_model.proofs.Owns.{hart_at}
use Rattle.run_model.proofs.trace.Trace.move_alone.Goals as goal

pub returns-clause-moved : goal.returns-clause-moved
returns-clause-moved c =
    let hs = c.args.self.now.harts.items in
    let x : Hart = c.index_mut.result.now in
    let s : HartState = record { pc = c.pc-own.result; x = c.run-found.new.x; ic = c.args.end - c.left.result } in
    moved_by c.args.self.now _ x s c.requires.hart (hart_at hs 0 x c.requires.hart c.index_mut.ensures.value) refl refl refl refl

pub returns-clause-pc : goal.returns-clause-pc
returns-clause-pc c =
    let hs = c.args.self.now.harts.items in
    let x : Hart = c.index_mut.result.now in
    let s : HartState = record { pc = c.pc-own.result; x = c.run-found.new.x; ic = c.args.end - c.left.result } in
    sym (ap (λ (z : HartState). z.pc) (state_there hs x s c.requires.hart (hart_at hs 0 x c.requires.hart c.index_mut.ensures.value)) ∙ c.pc-own.ensures)

pub returns-clause-end : goal.returns-clause-end
returns-clause-end c =
    let hs = c.args.self.now.harts.items in
    let x : Hart = c.index_mut.result.now in
    let s : HartState = record { pc = c.pc-own.result; x = c.run-found.new.x; ic = c.args.end - c.left.result } in
    omega (arith, ap (λ (z : HartState). z.ic) (state_there hs x s c.requires.hart (hart_at hs 0 x c.requires.hart c.index_mut.ensures.value)), c.left.ensures, c.run-found.ensures.left, c.requires.end)

pub returns-clause-asks : goal.returns-clause-asks
returns-clause-asks c =
    let hs = c.args.self.now.harts.items in
    let h : Hart = hart_in hs 0 in
    let i = c.args.walk.now.program in
    let w = c.args.walk.now in let v = c.run-found.new.self in
    let x : Hart = c.index_mut.result.now in
    let there : x ≡ h = hart_at hs 0 x c.requires.hart c.index_mut.ensures.value in
    let s : HartState = record { pc = c.pc-own.result; x = c.run-found.new.x; ic = c.args.end - c.left.result } in
    ap (λ (z : HartState). ask_of i (v.left + 1) z) (state_there hs x s c.requires.hart there)
    ∙ ap (λ (a : ℕ). ask_of i (v.left + 1) (record { pc = a; x = c.run-found.new.x; ic = c.args.end - c.left.result })) c.pc-own.ensures
    ∙ ap (λ (a : ℕ). ask_of i (v.left + 1) (record { pc = v.pc; x = c.run-found.new.x; ic = c.args.end - a })) c.left.ensures
    ∙ asks_same i x h w v c.run-found.new.x c.args.end there c.requires.pc c.requires.end c.run-found.ensures.left (omega arith) (c.run-found.ensures.leads 1)
