use Rattle.race_report.proofs.Common.{◌∙◌, ℕ, ap, [], ◌∷◌, ◌++◌, cond, ◌&&◌, ◌==◌, ◌/◌, Some, Option, Vec, length, Global, TrackEntry, head_at}
use Rattle.race_report.proofs.Tracking.{tracked_more}
use Rattle.race_report.proofs.track.Track.note.Goals as goal

pub returns-clause-noted : goal.returns-clause-noted
returns-clause-noted c =
    let entry : TrackEntry = record { place = c.args.place; previous = c.latest-previous.result } in
    tracked_more c.args.self.now.heads.items c.set_head.new.self.heads.items c.args.self.now.entries.items c.set_head.new.self.entries.items entry c.args.hart c.args.word
    (ap (λ (v : Vec TrackEntry Global). v.items) c.set_head.ensures.entries ∙ c.in_ok-number.ensures.ok.0 ∙ ap (λ (v : Vec TrackEntry Global). v.items ++ entry ∷ []) c.make_room.ensures.entries)
    (c.latest-previous.ensures.value ∙ c.make_room.ensures.heads c.args.hart c.args.word)
    (λ h w. c.set_head.ensures.heads h w
    ∙ ap (λ (k : ℕ). cond (c.args.hart == h && (c.args.word / 4 == w / 4)) (Some k) (head_at c.add_entry.new.self.heads.items h w)) (c.in_ok-number.ensures.ok.1 ∙ ap (λ (v : Vec TrackEntry Global). length v.items) c.make_room.ensures.entries)
    ∙ ap (λ (o : Option ℕ). cond (c.args.hart == h && (c.args.word / 4 == w / 4)) (Some (length c.args.self.now.entries.items)) o) (ap (λ v. head_at v.items h w) c.in_ok-number.ensures.heads ∙ c.make_room.ensures.heads h w))
