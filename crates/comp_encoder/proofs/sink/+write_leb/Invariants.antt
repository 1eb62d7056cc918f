use Rattle.comp_encoder.proofs.sink.+write_leb.Given as goal

abbrev pub decreases-write_leb : goal.decreases-write_leb
decreases-write_leb l = l.most
