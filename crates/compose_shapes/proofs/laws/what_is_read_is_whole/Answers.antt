use Rattle.comp_coherence.specs.Coherence.{Names, OneTree, inside_component, nowhere}
use Rattle.comp_entity.specs.Bounds.{bounded}
use Rattle.comp_entity.specs.Entity.{ValueTree}
use Rattle.compose_coherence.specs.Agreement.{meaning_of}
use Rattle.compose_known.specs.InOrder.{IsApart}
use Rattle.compose_shapes.proofs.InOrder.{each_in_order}
use Rattle.compose_shapes.proofs.Shapes.{shape_good}
use Rattle.compose_shapes.proofs.laws.what_is_read_is_whole.Goals as goal
use Rattle.std.specs.Prelude.{true}

pub returns : goal.returns
returns c = λ bytes s has.
    let good = shape_good bytes has.parts has.has_parts bounded s has.shape_is in
    let coherent = c.each_name_stands_for_one_type.ensures bytes has.parts has.has_parts bounded s has.shape_is in
    let apart : (names : Names) (t : ValueTree) → OneTree names t → IsApart t =
    λ names t one. c.one_tree_stands_apart.ensures _ t
    (c.a_coherent_type_has_one_tree.ensures names (meaning_of (λ n. n) (λ n. true) names)
    (c.names_have_a_meaning.ensures names (λ n. n) (λ n. true)) t one) in
    record {
      imports =
          each_in_order apart (inside_component coherent.tree nowhere) s.imports coherent.imports good.imports_ordered;
      exports =
          each_in_order apart (inside_component coherent.tree nowhere) s.exports coherent.exports good.exports_ordered;
      nothing_around = good.nothing_around;
    }
