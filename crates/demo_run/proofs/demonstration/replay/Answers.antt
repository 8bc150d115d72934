use Rattle.demo_run.proofs.Common.{◌≡◌, ℕ, List, ◌/◌, ◌∙◌, ap, arith, flat_map, demo, word_bytes, known_words}
use Rattle.demo_run.proofs.Shown.{all-come, goes-through, ends-there, goes-there, rows-so, words-so, count-so, with_counts, figures-so}
use Rattle.demo_run.proofs.demonstration.replay.Goals as goal

pub count_rows-requires : goal.count_rows-requires
count_rows-requires c =
    ends-there c.args.seed c.args.image.now c.in_ok-log.log c.requires.image c.in_ok-log.ensures
    (all-come c.demonstrations_are_recordings.ensures c.the_log_suffices.ensures c.the_rows_of_an_interval_stand_together.ensures c.own_logs_are_logs.ensures c.args.seed)

pub join-requires : goal.join-requires
join-requires c =
    goes-there c.args.seed c.args.image.now c.in_ok-log.log c.requires.image c.in_ok-log.ensures
    (goes-through c.demonstrations_are_recordings.ensures c.own_logs_are_logs.ensures c.recordings_run_to_the_end.ensures c.args.seed)

pub returns : goal.returns
returns c =
    let seed = c.args.seed in
    let image = c.requires.image in
    let log = c.in_ok-log.ensures in
    let recorded = c.args.recorded.now in
    let bytes : List ℕ = c.in_ok-known.known.items in
    let words : bytes ≡ flat_map word_bytes (known_words (demo seed)) = words-so seed c.args.image.now c.in_ok-log.log bytes image log c.in_ok-known.ensures in
    ap (λ (d : List ℕ). with_counts seed recorded.turns recorded.instructions c.counts-counts.result c.in_ok-rows.rows (c.len.result / 8) d) c.digest.ensures
    ∙ figures-so seed recorded.turns recorded.instructions c.counts-counts.result c.in_ok-rows.rows (c.len.result / 8) bytes
    c.requires.recorded.turns c.requires.recorded.instructions c.counts-counts.ensures
    (rows-so seed c.args.image.now c.in_ok-log.log c.in_ok-rows.rows image log c.in_ok-rows.ensures)
    (count-so (known_words (demo seed)) bytes c.len.result (omega (arith, c.len.ensures, c.in_ok-known.known.ok)) words)
    words
