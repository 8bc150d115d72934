use Rattle.bugnet.proofs.Common.{refl, inl, inr, arith, world, between, pair_roles, JointReading, passed-on, appends-nothing, tells-from, with-any, debug_with, reading, DebugsTo}
use Rattle.bugnet.proofs.BegunSessions.{pair-begun}
use Rattle.bugnet.proofs.Debugs.{no_commands, none-read, named-refused, named-made, named-session, named-begins, refused-status, begun-not}
use Rattle.bugnet.proofs.LineCalls.{unbegun-calls, begun-calls}
use Rattle.bugnet.proofs.LineTells.{is_counted}
use Rattle.bugnet.proofs.commands.debug.debug_files.Goals as goal

pub returns-in_err-pair : goal.returns-in_err-pair
returns-in_err-pair g c =
    let names = c.args.names.now in
    let i = reading g.I.Source.source g.I.Source.note c.args.input.now c.args.input.now in
    let out = g.O.Sink.stream c.args.out.now in
    let old = g.S.Store.stored c.args.files.now in
    let new = g.S.Store.stored c.load_pair.new.files in
    let x = c.in_err-pair.field-0.0 in
    let h = c.in_err-pair.ensures in
    passed-on (DebugsTo names g.S.Store.note i old new out out) x c.from_residual.result c.from_residual.ensures.1
    (λ status err end closed.
    let k = between (world old out err) (world new out end) in
    let s = refused-status names x status err.text end.text err.faults end.faults old.counts new.counts h.only.cause closed.0 in
    record {
      told = (
        no_commands,
        none-read status i.before i.notes s.read s.zero,
        named-refused names x status k (appends-nothing out.text) h.only.same (h.told (debug_with names no_commands)) closed.0,
        with-any old.files _ (λ files. inl (refl, refl, refl)),
      );
      first = inr refl;
      begins = inl refl;
      same = h.only.same;
      asks = h.only.asks;
      calls = unbegun-calls JointReading g.S.Store.note names pair_roles x status k h.calls (appends-nothing out.text) closed.0;
      words = s.words;
      counted = is_counted status k s.causes (record { out = omega arith; err = closed.1 }) h.only.later;
      read_later = omega arith;
    })

pub returns : goal.returns
returns g c = λ status err end closed.
    let names = c.args.names.now in
    let i = reading g.I.Source.source g.I.Source.note c.args.input.now c.debug_pair.new.input in
    let out = g.O.Sink.stream c.args.out.now in
    let printed = g.O.Sink.stream c.debug_pair.new.out in
    let old = g.S.Store.stored c.args.files.now in
    let new = g.S.Store.stored c.load_pair.new.files in
    let pair = c.in_ok-pair.pair in
    let h = c.in_ok-pair.ensures in
    let s = c.debug_pair.ensures names status err end closed in
    let d = s.told in
    let begun = pair-begun names pair.log pair.image status i.before i.after i.notes out printed err end d s.begun in
    let k = between (world old out err) (world new printed end) in
    let l = between (world new out err) (world new printed end) in
    record {
      told = (
        d.0,
        d.1,
        named-made names d.0 pair status k (h.told (debug_with names d.0)) (tells-from names (debug_with names d.0 pair.log pair.image) status old l h.only.same h.only.later (d.2 new)),
        named-session d.0 names.log names.elf pair status i.before i.after i.notes k h.loaded d.3,
      );
      first = inl begun;
      begins = inr (named-begins names.log names.elf pair old.files h.loaded);
      same = h.only.same;
      asks = h.only.asks;
      calls = begun-calls g.S.Store.note names pair_roles status k h.calls begun;
      words = begun-not status 2 begun refl;
      counted = record {
        failed = λ e. absurd (begun-not status 3 begun refl e);
        missing = λ e. absurd (begun-not status 4 begun refl e);
        long = λ e. absurd (begun-not status 5 begun refl e);
        write = s.write;
        later = record { out = s.out_later; err = s.err_later };
        counts = h.only.later;
      };
      read_later = s.read_later;
    }
