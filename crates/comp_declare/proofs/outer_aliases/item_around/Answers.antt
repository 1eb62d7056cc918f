use Rattle.std.proofs.Common.{ap, map, subst, sym, ◌∙◌, Bor}
use Rattle.comp_declare.specs.Outer.{AllShowSpaces}
use Rattle.comp_space.specs.declared.space.Space.{Space}
use Rattle.comp_declare.proofs.outer_aliases.item_around.Goals as goal

pub item_outside-requires : goal.item_outside-requires
item_outside-requires c =
    (c.requires.0, subst (λ xs. AllShowSpaces c.args.table.now xs c.requires.0) (sym (ap (map (λ (s : Bor Space). s.now)) c.deref.ensures.value ∙ c.in_ok-scopes.ensures)) c.requires.1)

pub returns-clause-found : goal.returns-clause-found
returns-clause-found c = λ ss shows.
    c.item_outside.ensures.found ss (subst (λ xs. AllShowSpaces c.args.table.now xs ss) (sym (ap (map (λ (s : Bor Space). s.now)) c.deref.ensures.value ∙ c.in_ok-scopes.ensures)) shows)
