use Rattle.comp_encoder.proofs.sink.+leb_len.Given as goal

abbrev pub decreases-leb_len : goal.decreases-leb_len
decreases-leb_len l = l.most
