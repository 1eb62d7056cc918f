use Rattle.comp_reader.proofs.read.+leb_of.Given as goal

abbrev pub decreases-leb_of : goal.decreases-leb_of
decreases-leb_of l = l.left
