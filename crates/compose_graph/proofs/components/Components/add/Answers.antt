use Rattle.std.proofs.Common.{◌≡◌, ◌+◌, suc, ◌∙◌, ap, subst, arith}
use Rattle.compose_component.specs.Component.{name_of}
use Rattle.comp_entity.specs.Entity.{ShapeTree}
use Rattle.compose_graph.specs.Graph.{component_named}
use Rattle.compose_graph.specs.Listed.{ComponentList, component_entries}
use Rattle.compose_graph.specs.Loose.{IsLoosened}
use Rattle.compose_graph.specs.Parts.{AreParts}
use Rattle.compose_graph.proofs.EntryLaws.{are_below}
use Rattle.compose_graph.proofs.PartLaws.{parts_grown}
use Rattle.compose_graph.proofs.components.Components.add.Goals as goal

pub add_part-requires : goal.add_part-requires
add_part-requires c = are_below c.self.inside.next c.self.inside.parts.entries c.self.invariant.ids

pub invariant_of-self-in_err-add_part : goal.invariant_of-self-in_err-add_part
invariant_of-self-in_err-add_part c =
    c.in_err-add_part.ensures.kept c.loose_numbers.new.table
    (parts_grown c.self.inside.parts.entries c.self.inside.numbers c.self.inside.table c.loose_numbers.new.table c.self.inside.next c.in_ok-loose.ensures.kept c.self.invariant)

pub invariant_of-self-2 : goal.invariant_of-self-2
invariant_of-self-2 c =
    let more : suc c.self.inside.next ≡ c.self.inside.next + 1 = omega arith in
    subst (λ n. AreParts c.add_part.new.parts.entries c.add_part.new.numbers c.loose_numbers.new.table n) more
    (c.in_ok-add_part.ensures.added c.loose_numbers.new.table
    (parts_grown c.self.inside.parts.entries c.self.inside.numbers c.self.inside.table c.loose_numbers.new.table c.self.inside.next c.in_ok-loose.ensures.kept c.self.invariant)
    (ap (λ (l : ComponentList). component_named (component_entries l.entries) (name_of c.args.component)) c.self.view_is ∙ c.requires.free)
    (c.in_ok-name.ensures.ok ∙ c.name.ensures)
    (subst (λ (s : ShapeTree). IsLoosened c.loose_numbers.new.table c.in_ok-loose.loose s) c.types.ensures.value c.in_ok-loose.ensures.numbers))
