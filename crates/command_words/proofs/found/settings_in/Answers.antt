use Rattle.command_words.proofs.found.settings_in.Goals as goal

pub returns : goal.returns
returns c = rw (← c.in_ok-harts.ensures, ← c.in_ok-log_size.ensures, ← c.in_ok-sets.ensures, ← c.in_ok-sets2.ensures)
