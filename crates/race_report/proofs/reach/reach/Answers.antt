use Rattle.race_report.proofs.Common.{subst, refl, Point, IsTimesOf, after, RepresentsAccesses, times_of, everyone, sync_of, ◌≡◌, ℕ, ◌<◌, Bool, true, false, if◌then◌else◌, sym, ap, ◌∙◌, List, [], map, Access, access_point, accesses_from, is_write, Touch, IsTouch, words_from, accesses_of, with_accesses}
use Rattle.race_log.specs.declared.mode.Mode.{Mode}
use Rattle.race_report.proofs.reach.reach.Goals as goal

accesses_are : (touch : Touch) (b : Bool) → touch.syncs ≡ b → IsTouch touch → accesses_from touch.first (if b then 1 else 0) touch.writes ≡ elim b as (λ y. List Access) [ true ↦ accesses_of touch | false ↦ [] ]
accesses_are touch true e t = ap (λ (k : ℕ). map (λ w. record { word = w; writes = touch.writes }) (words_from touch.first k)) (sym (t.one e))
accesses_are touch false e t = refl

point_is : (hart place turn count : ℕ) (touch : Touch) (mode : Mode) → turn ≡ place → is_write mode ≡ touch.writes → count ≡ (if touch.syncs then 1 else 0) → IsTouch touch
    → access_point hart turn turn touch.first count mode ≡ sync_of hart place touch
point_is hart place turn count touch mode e f g t =
    ap (λ (k : ℕ). access_point hart k k touch.first count mode) e
    ∙ ap (λ (b : Bool). with_accesses hart place (accesses_from touch.first count b)) f
    ∙ ap (λ (k : ℕ). with_accesses hart place (accesses_from touch.first k touch.writes)) g
    ∙ ap (λ (xs : List Access). with_accesses hart place xs) (accesses_are touch touch.syncs refl t)

times_by : (run : List Point) (p : Point) (counts others : ℕ → ℕ) → ((h : ℕ) → counts h ≡ others h) → IsTimesOf run p others → IsTimesOf run p counts
times_by run p counts others e t = λ h k. (λ low. (t h k).0 (subst (λ (x : ℕ). k < x) (e h) low), λ up. subst (λ (x : ℕ). k < x) (sym (e h)) ((t h k).1 up))

pub returns-clause-stands : goal.returns-clause-stands
returns-clause-stands c = λ run s.
    let same = point_is c.args.hart c.args.place c.from-turn.result c.counted-count.result c.args.touch c.mode_of.result c.from-turn.ensures c.mode_of.ensures c.counted-count.ensures c.requires.whole in
    subst (λ (p : Point). RepresentsAccesses (after run p) everyone c.access.new.self) same (c.access.ensures.point.stands run everyone refl (c.in_ok-reserve.ensures.stands run everyone s))

pub returns-clause-known : goal.returns-clause-known
returns-clause-known c = λ run s.
    let same = point_is c.args.hart c.args.place c.from-turn.result c.counted-count.result c.args.touch c.mode_of.result c.from-turn.ensures c.mode_of.ensures c.counted-count.ensures c.requires.whole in
    let times : IsTimesOf (after run (sync_of c.args.hart c.args.place c.args.touch)) (sync_of c.args.hart c.args.place c.args.touch) (times_of c.access.new.self c.args.hart) =
    subst (λ (p : Point). IsTimesOf (after run p) p (times_of c.access.new.self c.args.hart)) same (c.access.ensures.point.times run everyone refl (c.in_ok-reserve.ensures.stands run everyone s)) in
    times_by (after run (sync_of c.args.hart c.args.place c.args.touch)) (sync_of c.args.hart c.args.place c.args.touch) _ _ c.times.ensures.value times
