use Rattle.comp_encoder.proofs.sink.+write_signed_leb.Given as goal

abbrev pub decreases-write_signed_leb : goal.decreases-write_signed_leb
decreases-write_signed_leb l = l.most
