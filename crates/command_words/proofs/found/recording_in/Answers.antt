use Rattle.command_words.proofs.found.recording_in.Goals as goal

pub returns : goal.returns
returns c =
    rw (← c.in_ok-settings.ensures, ← c.in_ok-seed.ensures, ← c.in_ok-elf.ensures, ← c.in_ok-log.ensures, ← c.in_ok-book.ensures, c.flag_in-lean.ensures, c.text_at-input.ensures)
