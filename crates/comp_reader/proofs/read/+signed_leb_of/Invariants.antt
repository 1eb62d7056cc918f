use Rattle.comp_reader.proofs.read.+signed_leb_of.Given as goal

abbrev pub decreases-signed_leb_of : goal.decreases-signed_leb_of
decreases-signed_leb_of l = l.left
