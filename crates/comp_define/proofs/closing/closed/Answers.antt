use Rattle.comp_define.proofs.closing.closed.Goals as goal

pub numbered-requires : goal.numbered-requires
numbered-requires c = (_, c.in_ok-sides.ensures.found c.requires.0 c.requires.1)

pub returns-clause-found : goal.returns-clause-found
returns-clause-found c = λ k shows. c.numbered.ensures.found _ (c.in_ok-sides.ensures.found k shows)
