use Rattle.log_ring.proofs.intake.Intake.append_edge.Goals as goal

pub returns : goal.returns
returns c = c.append_bytes.ensures _ c.write_edge.ensures.fits c.write_edge.ensures.bytes
