use Rattle.comp_entity.specs.Bounds.{bounded}
use Rattle.comp_entity.specs.Views.{entries_of}
use Rattle.compose_shapes.proofs.Shapes.{all_own_names, each_own_names, shape_good}
use Rattle.compose_shapes.proofs.laws.what_is_read_is_well_named.Goals as goal

pub returns : goal.returns
returns c = λ bytes s has.
    let good = shape_good bytes has.parts has.has_parts bounded s has.shape_is in
    record {
      coherent = c.each_name_stands_for_one_type.ensures bytes has.parts has.has_parts bounded s has.shape_is;
      imports_brought = good.imports_brought;
      exports_brought = good.exports_brought;
      imports_apart = each_own_names s.imports good.imports_ordered;
      exports_apart = all_own_names (entries_of s.exports) good.exports_ordered;
    }
