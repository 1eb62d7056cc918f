use Rattle.std.proofs.Common.{◌∙◌, ap, map}
use Rattle.std.specs.Prelude.{flat_map}
use Rattle.compose_check.specs.Composition.{composition_tree}
use Rattle.compose_image.specs.Imports.{component_import, component_of}
use Rattle.compose_encode.proofs.AgreedLaws.{all_numbered}
use Rattle.compose_encode.proofs.agreed.imported_numbers.Goals as goal

pub returns : goal.returns
returns c =
    let k = composition_tree c.args.composition.now in
    rw c.if-define.false
    (all_numbered k c.in_ok-used.used.numbers.items
    ∙ ap (λ ns. map component_import (flat_map (component_of k) ns)) c.in_ok-used.ensures.numbers)
