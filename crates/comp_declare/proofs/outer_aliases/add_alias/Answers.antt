use Rattle.comp_scope.specs.Aliases.{aliased}
use Rattle.comp_declare.proofs.outer_aliases.add_alias.Goals as goal

pub returns-in-Export-clause-found : goal.returns-in-Export-clause-found
unfolding aliased
returns-in-Export-clause-found c = λ ss s around shows. rw c.in-Export.is (c.add_export_alias.ensures.found s shows)

pub returns-in-CoreExport-clause-found : goal.returns-in-CoreExport-clause-found
unfolding aliased
returns-in-CoreExport-clause-found c = λ ss s around shows. rw c.in-CoreExport.is (c.add_core_alias.ensures.found s shows)

pub returns-in-Outer-clause-found : goal.returns-in-Outer-clause-found
unfolding aliased
returns-in-Outer-clause-found c = λ ss s around shows. rw c.in-Outer.is (c.add_outer_alias.ensures.found ss s around shows)
