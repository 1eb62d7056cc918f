use Rattle.comp_define.proofs.closing.first_mentions.Goals as goal

pub returns : goal.returns
returns c = λ s shows. record { resources = c.in_ok-resources.ensures s shows; places = c.in_ok-places.ensures s shows }
