use Rattle.bus_core.proofs.Common.{◌≡◌, Bool, not, ◌&&◌, None, length, subst, sym, ◌∙◌, ap, map, Vec, Global, IsSetting, Hart, Start, any_live, has_finished, hart_in, parts, Held, HoldsLog, Seen, seen, marks, began_of, run_after, IsState, IsLogged, broken_by}
use Rattle.bus_core.proofs.History.{logged_is}
use Rattle.bus_core.proofs.Marks.{marks_are, live_is, over_is}
use Rattle.bus_core.proofs.LastMarks.{last_marks_are}
use Rattle.bus_core.proofs.Order.{order_is}
use Rattle.bus_core.proofs.bus.Bus.close.Goals as goal

pub returns-clause-ends : goal.returns-clause-ends
returns-clause-ends g c run is =
    let b = c.self.inside in let p = parts b.plain in
    let at : IsState (seen p b.halted b.disordered (g.B.Book.told b.book)) run = subst (λ (x : Seen). IsState x run) (sym c.self.view_is) is in
    c.of.ensures ∙ ap (λ (v : Vec Hart Global). map (λ (h : Hart). h.mark) v.items) c.into_recorded-recorded.ensures.harts
    ∙ marks_are p.trace.harts.items run.harts p.start.settings.harts at.harts b.plain.fits.harts
    ∙ ap (λ (x : Seen). marks 0 x.began.settings.harts run.harts) c.self.view_is

pub returns-clause-finished : goal.returns-clause-finished
returns-clause-finished g c run is =
    let b = c.self.inside in let p = parts b.plain in
    let at : IsState (seen p b.halted b.disordered (g.B.Book.told b.book)) run = subst (λ (x : Seen). IsState x run) (sym c.self.view_is) is in
    let live = c.any_live-live.ensures ∙ ap (λ (v : Vec Hart Global). any_live (length v.items) (hart_in v.items)) c.into_recorded-recorded.ensures.harts
    ∙ live_is p.trace.harts.items run.harts p.start.settings.harts at.harts b.plain.fits.harts in
    c.is_finished.ensures ∙ ap (λ (x : Bool). not b.halted && not b.disordered && not x) live
    ∙ ap (λ (x : Bool). not b.halted && not b.disordered && x) (over_is (any_live p.start.settings.harts run.harts))
    ∙ ap (λ (x : Seen). not x.halted && not x.disordered && has_finished x.began.settings run) c.self.view_is

pub returns-clause-told : goal.returns-clause-told
returns-clause-told g c tells =
    let b = c.self.inside in
    let p = parts b.plain in let told = g.B.Book.told b.book in
    let ring = c.into_recorded-recorded.result.ring in
    subst (λ (s : Seen). IsLogged s ring s.rows) c.self.view_is (logged_is c.rings_keep_their_rules.ensures p b.halted b.disordered told told ring (subst (λ (t : Start). IsSetting t.settings) c.start.ensures c.raw-settings.ensures.in_range) c.into_recorded-recorded.ensures.size c.into_recorded-recorded.ensures.ring (c.self.invariant.told tells))

pub returns-clause-some : goal.returns-clause-some
returns-clause-some g c =
    let b = c.self.inside in
    let p = parts b.plain in let told = g.B.Book.told b.book in
    let ring = c.into_recorded-recorded.result.ring in
    let some = c.self.invariant.some in
    (some.0, subst (λ (s : Seen). IsLogged s ring some.0) c.self.view_is (logged_is c.rings_keep_their_rules.ensures p b.halted b.disordered told some.0 ring (subst (λ (t : Start). IsSetting t.settings) c.start.ensures c.raw-settings.ensures.in_range) c.into_recorded-recorded.ensures.size c.into_recorded-recorded.ensures.ring some.1))

pub returns-clause-last_marks : goal.returns-clause-last_marks
returns-clause-last_marks g c =
    let b = c.self.inside in
    let p = parts b.plain in
    let some = c.self.invariant.some in
    let s = p.start in
    let ring = c.into_recorded-recorded.result.ring in
    let run = run_after (began_of s) b.halted some.0 in
    let log : HoldsLog ring run.stream = subst (λ (r : Held). HoldsLog r run.stream) (sym c.into_recorded-recorded.ensures.ring) some.1.run.trace.log.holds in
    let ends = c.of.ensures ∙ ap (λ (v : Vec Hart Global). map (λ (h : Hart). h.mark) v.items) c.into_recorded-recorded.ensures.harts
    ∙ marks_are p.trace.harts.items run.harts s.settings.harts some.1.run.trace.harts b.plain.fits.harts in
    last_marks_are c.a_suffix_is_kept.ensures c.kept_ends_are_marks.ensures (began_of s) b.halted some.0 ring c.of.result.items log ends

pub returns-clause-order : goal.returns-clause-order
returns-clause-order g c = λ whole.
    let b = c.self.inside in
    let p = parts b.plain in let told = g.B.Book.told b.book in
    let some = c.self.invariant.some in
    let ring = c.into_recorded-recorded.result.ring in
    let setting = subst (λ (t : Start). IsSetting t.settings) c.start.ensures c.raw-settings.ensures.in_range in
    let size = c.into_recorded-recorded.ensures.size in
    let run = run_after (began_of p.start) b.halted some.0 in
    let logged = logged_is c.rings_keep_their_rules.ensures p b.halted b.disordered told some.0 ring setting size c.into_recorded-recorded.ensures.ring some.1 in
    let live = c.any_live-live.ensures ∙ ap (λ (v : Vec Hart Global). any_live (length v.items) (hart_in v.items)) c.into_recorded-recorded.ensures.harts
    ∙ live_is p.trace.harts.items run.harts p.start.settings.harts some.1.run.trace.harts b.plain.fits.harts in
    let ended = sym (c.is_finished.ensures ∙ ap (λ (x : Bool). not b.halted && not b.disordered && not x) live ∙ ap (λ (x : Bool). not b.halted && not b.disordered && x) (over_is (any_live p.start.settings.harts run.harts))) ∙ whole in
    subst (λ (s : Seen). broken_by s.began.settings ring.dropped ring.records ≡ None) c.self.view_is
    (order_is c.logs_of_rows_are_contents.ensures (seen p b.halted b.disordered told) some.0 ring setting logged size c.pieces-kept.ensures.fit ended)
