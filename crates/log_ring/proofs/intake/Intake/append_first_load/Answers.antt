use Rattle.log_ring.proofs.intake.Intake.append_first_load.Goals as goal

pub returns : goal.returns
returns c = c.append_bytes.ensures _ c.write_first_load.ensures.fits c.write_first_load.ensures.bytes
