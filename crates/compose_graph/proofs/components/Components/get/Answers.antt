use Rattle.std.proofs.Common.{◌∙◌, ap, sym}
use Rattle.std.specs.Prelude.{option_map}
use Rattle.compose_graph.specs.Listed.{component_entry, held_component}
use Rattle.compose_graph.specs.declared.part.Part.{Part}
use Rattle.compose_graph.proofs.PartLaws.{at_seen}
use Rattle.compose_graph.proofs.components.Components.get.Goals as goal

pub returns-in-Some : goal.returns-in-Some
returns-in-Some c =
    ap (option_map (λ (p : Part). component_entry (held_component c.args.id p.component))) c.in-Some.ensures.value
    ∙ sym (at_seen c.self.inside.parts.entries c.self.inside.next c.args.id c.args.self.now c.self.view_is)

pub returns-in-None : goal.returns-in-None
returns-in-None c =
    ap (option_map (λ (p : Part). component_entry (held_component c.args.id p.component))) c.in-None.ensures.value
    ∙ sym (at_seen c.self.inside.parts.entries c.self.inside.next c.args.id c.args.self.now c.self.view_is)
