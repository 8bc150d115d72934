use Rattle.std.proofs.Common.{◌≡◌, ◌∙◌, true, false, sym, inl}
use Rattle.whole_runs.proofs.OwnTurns.{stays_taken}
use Rattle.whole_runs.proofs.listed_bus.take_at.Goals as goal

pub returns-in-Ok-clause-taken : goal.returns-in-Ok-clause-taken
returns-in-Ok-clause-taken g c = λ running.
    let e = c.in-Ok.ensures in
    stays_taken g.B.Book.tells c.args.bus.now c.serve_kept.new.bus c.args.list.now.items c.serve_kept.new.list.items c.args.keeps c.args.hart (sym e.served.running ∙ running) e.taken e.kept

never : {A : Type 0} → false ≡ true → A
never e = cc

-- ---- no turn is taken

pub returns-then-not-live-clause-at : goal.returns-then-not-live-clause-at
returns-then-not-live-clause-at g c live run is place = sym c.if-not-live.true ∙ c.live.ensures.value ∙ live

pub returns-then-not-live-clause-none : goal.returns-then-not-live-clause-none
returns-then-not-live-clause-none g c = inl (sym c.live.ensures.value ∙ c.if-not-live.true)

pub returns-then-not-is_at-clause-at : goal.returns-then-not-is_at-clause-at
returns-then-not-is_at-clause-at g c live run is place = sym c.if-not-is_at.true ∙ c.is_at.ensures.all run is place

pub returns-then-not-is_at-clause-over : goal.returns-then-not-is_at-clause-over
returns-then-not-is_at-clause-over g c over =
    let both : false ≡ true = sym over ∙ sym c.live.ensures.value ∙ c.if-not-live.false in
    never both

-- ---- a turn, or out of memory

pub serve_kept-requires-clause-own : goal.serve_kept-requires-clause-own
serve_kept-requires-clause-own g c run is = c.requires ∙ c.is_at.ensures.asks c.if-not-is_at.false run is

pub returns-in-Ok-clause-over : goal.returns-in-Ok-clause-over
returns-in-Ok-clause-over g c over =
    let both : false ≡ true = sym over ∙ sym c.live.ensures.value ∙ c.if-not-live.false in
    never both

pub returns-in-Err-clause-over : goal.returns-in-Err-clause-over
returns-in-Err-clause-over g c over =
    let both : false ≡ true = sym over ∙ sym c.live.ensures.value ∙ c.if-not-live.false in
    never both
