use Rattle.comp_define.proofs.ScopeLaws.{shows_with_spaces}
use Rattle.comp_scope.specs.Types.{with_decl, with_spaces}
use Rattle.comp_space.specs.SpaceViews.{ShowsSpaces}
use Rattle.comp_space.specs.StandingLaws.{finds_map}
use Rattle.comp_define.proofs.declarations.add_declared_alias.Goals as goal

pub returns-clause-found : goal.returns-clause-found
unfolding with_decl
returns-clause-found c = λ ss k around shows.
    finds_map (λ u. ShowsSpaces c.add_alias.new.table c.add_alias.new.space) _ (with_spaces k) c.add_alias.result _
    (λ u s spaces. shows_with_spaces c.args.table.now c.add_alias.new.table c.add_alias.ensures.extends c.args.scope.now k c.add_alias.new.space s shows spaces)
    (c.add_alias.ensures.found ss k.spaces around shows.spaces)
