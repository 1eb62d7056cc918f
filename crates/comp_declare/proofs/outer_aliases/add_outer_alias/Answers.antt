use Rattle.std.proofs.Common.{subst, sym, ◌∙◌}
use Rattle.comp_declare.proofs.OuterAliasLaws.{core_alias_is, item_alias_is}
use Rattle.comp_space.specs.Faults.{Finds}
use Rattle.comp_space.specs.SpaceViews.{ShowsSpaces}
use Rattle.comp_declare.proofs.outer_aliases.add_outer_alias.Goals as goal

pub returns-then-is_core_type-clause-found : goal.returns-then-is_core_type-clause-found
returns-then-is_core_type-clause-found c = λ ss s around shows.
    subst (Finds (λ u. ShowsSpaces c.args.table.now c.add_outer_core.new.space) c.add_outer_core.result) (core_alias_is ss s c.args.sort c.args.count c.args.index (sym c.is_core_type.ensures ∙ c.if-is_core_type.true))
    (c.add_outer_core.ensures.found c.args.table.now ss s around shows)

pub returns-clause-found : goal.returns-clause-found
returns-clause-found c = λ ss s around shows.
    subst (Finds (λ u. ShowsSpaces c.add_outer_item.new.table c.add_outer_item.new.space) c.add_outer_item.result) (item_alias_is ss s c.args.sort c.args.count c.args.index (sym c.is_core_type.ensures ∙ c.if-is_core_type.false))
    (c.add_outer_item.ensures.found ss s around shows)
