use Rattle.comp_table.specs.declared.head.Head.TheVariants as head
use Rattle.comp_table.specs.Plain.{around_two}
use Rattle.comp_table.specs.StandLaws.{number_of_same}
use Rattle.comp_define.proofs.scope_types.component.Goals as goal

pub around_two-requires-clause-first : goal.around_two-requires-clause-first
around_two-requires-clause-first c = (c.in_ok-sides.ensures.found c.requires.0 c.requires.1).imports.there

pub around_two-requires-clause-second : goal.around_two-requires-clause-second
around_two-requires-clause-second c = (c.in_ok-sides.ensures.found c.requires.0 c.requires.1).exports.there

pub returns-clause-number : goal.returns-clause-number
returns-clause-number c = λ k shows.
    let sides = c.in_ok-sides.ensures.found k shows in
    number_of_same c.around_two.result c.around_two.new.table _ _ (λ i. around_two head.Component (sides.imports.tree_is i) (sides.exports.tree_is i)) c.around_two.ensures.number
