use Rattle.race_report.proofs.Common.{◌≡◌, ◌∙◌, ℕ, ap, subst, refl, length, count_of, Gathered, Accessing, lists_of}
use Rattle.race_report.proofs.Tracking.{then_ok}
use Rattle.race_report.proofs.Taking.{IsTaken, gathered_more, map_long}
use Rattle.race_report.proofs.gathered.Gathered.take_point.Goals as goal

pub returns : goal.returns
returns c = then_ok c.add_place.result _ _ (λ added harts run low g.
    let old = c.args.self.now in
    let new : Gathered = record { harts = old.harts; rows = c.extend_from_slice.new.self; owners = c.push.new.self; all = c.note_point.new.all; written = c.note_point.new.written; shadow = c.reach.new.shadow; found = c.add_place.new.self } in
    let counts = count_of c.in_ok-known.known in
    let taken : IsTaken c.args.hart c.args.row.now c.args.touch c.in_ok-place.place old new (lists_of c.meet_point.new.found) counts = record {
      harts = refl;
      rows = c.in_ok-extend_from_slice.ensures.items;
      owners = c.in_ok-push.ensures.items;
      stands = c.in_ok-known.ensures.stands;
      known = c.in_ok-known.ensures.known;
      shadow_harts = c.in_ok-known.ensures.harts;
      lasting = c.in_ok-known.ensures.lasting;
      turn = c.in_ok-known.ensures.turn;
      counts_are = c.in_ok-known.ensures.counts;
      wrote = c.in_ok-meet_point.ensures.wrote;
      read = c.in_ok-meet_point.ensures.read;
      all_harts = c.note_point.ensures.all_harts;
      written_harts = c.note_point.ensures.written_harts;
      all_below = c.note_point.ensures.all_below;
      written_below = c.note_point.ensures.written_below;
      all_noted = c.in_ok-note_point.ensures.all;
      written_noted = c.in_ok-note_point.ensures.wrote;
      written_same = c.note_point.ensures.read;
      lists = added;
    } in
    let place : c.in_ok-place.place ≡ length run = c.in_ok-place.ensures ∙ ap length g.rows ∙ map_long (λ (q : Accessing). q.row) run in
    gathered_more c.tests_decide.ensures.before c.places_stand_for_counts.ensures.before harts c.args.hart c.args.row.now c.args.touch run old new (lists_of c.meet_point.new.found) counts c.requires.whole low g
    (subst (λ (k : ℕ). IsTaken c.args.hart c.args.row.now c.args.touch k old new (lists_of c.meet_point.new.found) counts) place taken)) c.add_place.ensures
