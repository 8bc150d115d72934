use Rattle.log_commands.proofs.Common.{◌+◌, List, drop, subst, ◌++◌, arith, Record, AppendsPart, record_text, list_text, SendStops, Sent, Sends, Always, ◌≡◌, ℕ, ◌≤◌, ◌<◌, [], ◌∷◌, length, get_or, sym, ap, append_assoc, Option, ◌∙◌, add-one, drop_all}
use Rattle.log_commands.proofs.Answering.{passed-on}
use Rattle.log_commands.proofs.Prints.{so_far-gathered, so_far-stopped, so_far-last, SoFar}
use Rattle.std.proofs.Math.Seq.{drop-cons}
use Rattle.log_commands.proofs.commands.list.send_list.Goals as goal

-- The lines of a log, record by record.
-- the k-th record, as a loop has it, and those after it
left : (records : List Record) (k : ℕ) (x : Record) → k < length records → x ≡ get_or records k x → drop k records ≡ x ∷ drop (k + 1) records
left records k x lt is = rw add-one (drop-cons records k x lt) ∙ ap (λ (y : Record). y ∷ drop (k + 1) records) (sym is)

-- the line of the k-th record, and those of the records after it
list-more : (records : List Record) (k : ℕ) (x : Record) → k < length records → x ≡ get_or records k x
    → list_text (drop k records) ≡ record_text x (drop (k + 1) records) ++ list_text (drop (k + 1) records)
unfolding list_text
list-more records k x lt is = ap list_text (left records k x lt is)

-- of a text of which some was sent, the next line of what waits
list-so_far : (records : List Record) (k : ℕ) (x : Record) (text : List ℕ) (old now : Option (List ℕ)) (before after : ℕ) → k < length records → x ≡ get_or records k x → SoFar (list_text records) (text ++ list_text (drop k records)) old now before after
    → SoFar (list_text records) ((text ++ record_text x (drop (k + 1) records)) ++ list_text (drop (k + 1) records)) old now before after
list-so_far records k x text old now before after lt is s =
    subst (λ (t : List ℕ). SoFar (list_text records) t old now before after) (ap (λ (t : List ℕ). text ++ t) (list-more records k x lt is) ∙ sym (append_assoc text _ _)) s

list-done : (records : List Record) (k : ℕ) → length records ≤ k → list_text (drop k records) ≡ []
unfolding list_text
list-done records k le = ap list_text (drop_all k records le)

pub returns-in_err-gather_record : goal.returns-in_err-gather_record
returns-in_err-gather_record g c =
    let rs = c.records-records.result.now in
    let old = g.O.Sink.stream c.args.out.now in
    let next = g.O.Sink.stream c.gather_record.new.out in
    let so_far = list-so_far rs c.loop-place.place c.get.result c.loop-place.text old.text _ old.faults _ (rw c.len-place-end.ensures.value at c.loop-place-test.true) c.get.ensures c.loop-place.invariant in
    passed-on (Sends (list_text c.args.log.now.records) Always old next) _ c.from_residual.result c.from_residual.ensures.1
    (record {
      sent = subst (λ (rs : List Record). AppendsPart old.text next.text (list_text rs) × SendStops old.faults next.faults c.in_err-gather_record.field-0.0) c.records-records.ensures.value
          (so_far-stopped (list_text rs) (c.loop-place.text ++ record_text c.get.result (drop (c.loop-place.place + 1) rs)) (list_text (drop (c.loop-place.place + 1) rs)) old.text _ next.text old.faults _ next.faults c.in_err-gather_record.field-0.0 so_far c.in_err-gather_record.ensures.sent);
      later = omega (arith, c.loop-place.invariant.later, c.gather_record.ensures.later);
    })

pub loop-place-preserved : goal.loop-place-preserved
loop-place-preserved g c =
    let rs = c.records-records.result.now in
    let old = g.O.Sink.stream c.args.out.now in
    let next = g.O.Sink.stream c.gather_record.new.out in
    let so_far = list-so_far rs c.loop-place.place c.get.result c.loop-place.text old.text _ old.faults _ (rw c.len-place-end.ensures.value at c.loop-place-test.true) c.get.ensures c.loop-place.invariant in
    so_far-gathered (list_text rs) (c.loop-place.text ++ record_text c.get.result (drop (c.loop-place.place + 1) rs)) c.gather_record.new.text (list_text (drop (c.loop-place.place + 1) rs)) old.text _ next.text old.faults _ next.faults
    so_far c.in_ok-gather_record.ensures.sent c.gather_record.ensures.later

pub returns : goal.returns
returns g c = record {
  sent =
      let rs = c.records-records.result.now in
      let old = (g.O.Sink.stream c.args.out.now).text in
      let next = (g.O.Sink.stream c.send.new.sink).text in
      let before = (g.O.Sink.stream c.args.out.now).faults in
      let last = (g.O.Sink.stream c.send.new.sink).faults in
      subst (λ (rs : List Record). Sent old next before last (list_text rs) (λ x. Unit {0}) c.send.result) c.records-records.ensures.value
      (so_far-last (list_text _) c.loop-place.text (list_text (drop c.loop-place.place _)) _ _ _ _ _ _ c.send.result c.loop-place.invariant
      (list-done _ c.loop-place.place (rw c.len-place-end.ensures.value at c.loop-place-test.false)) c.send.ensures.sends.sent);
  later = omega (arith, c.loop-place.invariant.later, c.send.ensures.sends.later);
}
