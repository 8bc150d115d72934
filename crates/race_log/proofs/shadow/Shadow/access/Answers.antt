use Rattle.race_log.proofs.Common.{◌≡◌, ◌∙◌, ℕ, Bool, List, IsTrue, length, refl, sym, Contains, ◌↔◌, subst, access_point, after, Point, IsPointAt, IsEdgeBetween, RepresentsAccesses, edges_of, times_of, sources_into}
use Rattle.race_log.proofs.AccessLemmas.{counts_taken}
use Rattle.race_log.proofs.Known.{listed_exactly}
use Rattle.race_log.proofs.Steps.{now_in_order, found_edges, stands_after, new_times}
use Rattle.race_log.proofs.shadow.Shadow.access.Goals as goal

pub returns-clause-edges : goal.returns-clause-edges
returns-clause-edges c = record {
  listed = listed;
  exact = λ run live lives stands h i.
      subst (λ xs. Contains xs (h, i) ↔ ((p : Point) × IsPointAt run h i p × IsEdgeBetween (after run b) p b)) (sym (listed run live lives stands))
      (listed_exactly run b (now_in_order run c.args.hart c.args.ic c.args.turn c.args.first c.args.count c.args.mode live c.args.self.now stands
      c.requires.there c.requires.counts c.requires.turns c.requires.lasting lives) h i);
  few = c.take_in.ensures.few;
}
  where
    b : Point
    b = access_point c.args.hart c.args.ic c.args.turn c.args.first c.args.count c.args.mode

    listed : (run : List Point) (live : ℕ → Bool) → IsTrue (live c.args.hart) → RepresentsAccesses run live c.args.self.now
        → edges_of c.take_in.new.self ≡ sources_into (after run b) (length run)
    listed run live lives stands =
        c.take_in.ensures.edges
        ∙ found_edges run c.args.hart c.args.ic c.args.turn c.args.first c.args.count c.args.mode live c.args.self.now stands
        c.requires.there c.requires.counts c.requires.turns c.requires.lasting lives

pub returns-clause-point : goal.returns-clause-point
returns-clause-point c =
    let t = c.take_in.ensures in
    record {
      stands = λ run live lives stands.
          stands_after run c.args.hart c.args.ic c.args.turn c.args.first c.args.count c.args.mode live c.args.self.now stands
          c.requires.there c.requires.counts c.requires.turns c.requires.lasting lives (times_of c.take_in.new.self c.args.hart) t.own c.take_in.new.self t.one
          t.harts t.lasting t.turns (λ h. refl) t.others t.at_turn t.by_hart t.at_count t.with_mode t.with_times t.many t.alone;
      times = λ run live lives stands.
          new_times run c.args.hart c.args.ic c.args.turn c.args.first c.args.count c.args.mode live c.args.self.now stands
          c.requires.there c.requires.counts c.requires.turns c.requires.lasting lives (times_of c.take_in.new.self c.args.hart) t.own;
      others = t.others;
    }

pub returns-clause-next : goal.returns-clause-next
returns-clause-next c =
    let t = c.take_in.ensures in
    record {
      harts = t.harts;
      lasting = t.lasting;
      turns = t.turns;
      counts = λ h. counts_taken c.args.self.now c.take_in.new.self c.args.hart c.args.ic c.args.turn c.args.first c.args.count c.args.mode t h;
      reserved = t.reserved;
      unswept = t.unswept;
      size = t.size;
    }
