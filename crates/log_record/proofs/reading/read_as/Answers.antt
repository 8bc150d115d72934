use Rattle.log_record.proofs.Common.{◌≡◌, true, false, ap, sym, ◌∙◌, arith, Some, slice_index, size_of, is_marked}
use Rattle.log_record.proofs.Records.{read_none, read_only, read_found, unmarked}
use Rattle.log_record.proofs.reading.read_as.Goals as goal

pub returns-then-bytes-size-clause-only : goal.returns-then-bytes-size-clause-only
returns-then-bytes-size-clause-only c = λ r rest fits q.
    let size : Some c.in_ok-size.size ≡ size_of (slice_index c.args.bytes.now 0) = c.in_ok-size.ensures.value ∙ ap size_of (c.in_ok-tag.ensures.item.3.1 0) in
    read_none c.tags_tell_sizes.ensures.front c.written_records_are_read.ensures c.args.bytes.now r rest c.in_ok-size.size fits.fields q size (λ s. omega (arith, s.within, c.if-bytes-size.true))

pub returns-then-is_marked-clause-found : goal.returns-then-is_marked-clause-found
returns-then-is_marked-clause-found c =
    let size : Some c.in_ok-size.size ≡ size_of (slice_index c.args.bytes.now 0) = c.in_ok-size.ensures.value ∙ ap size_of (c.in_ok-tag.ensures.item.3.1 0) in
    let mark : is_marked c.args.format c.record_in-entry.result ≡ true = sym c.is_marked.ensures ∙ c.if-is_marked.true in
    read_found c.read_records_are_written.ensures c.args.format c.args.bytes.now c.record_in-entry.result c.in_ok-size.size (λ i. omega (arith, c.type_inv.bytes i)) size c.if-bytes-size.false c.record_in-entry.ensures mark

pub returns-then-is_marked-clause-only : goal.returns-then-is_marked-clause-only
returns-then-is_marked-clause-only c = λ r rest fits q.
    let size : Some c.in_ok-size.size ≡ size_of (slice_index c.args.bytes.now 0) = c.in_ok-size.ensures.value ∙ ap size_of (c.in_ok-tag.ensures.item.3.1 0) in
    read_only c.tags_tell_sizes.ensures.front c.written_records_are_read.ensures c.args.bytes.now c.record_in-entry.result c.in_ok-size.size r rest fits.fields q size c.record_in-entry.ensures

pub returns-else-is_marked-clause-only : goal.returns-else-is_marked-clause-only
returns-else-is_marked-clause-only c = λ r rest fits q.
    let size : Some c.in_ok-size.size ≡ size_of (slice_index c.args.bytes.now 0) = c.in_ok-size.ensures.value ∙ ap size_of (c.in_ok-tag.ensures.item.3.1 0) in
    let mark : is_marked c.args.format c.record_in-entry.result ≡ false = sym c.is_marked.ensures ∙ c.if-is_marked.false in
    read_none c.tags_tell_sizes.ensures.front c.written_records_are_read.ensures c.args.bytes.now r rest c.in_ok-size.size fits.fields q size (λ s. unmarked c.args.format r fits.mark (ap (is_marked c.args.format) (sym s.same ∙ sym c.record_in-entry.ensures) ∙ mark))
