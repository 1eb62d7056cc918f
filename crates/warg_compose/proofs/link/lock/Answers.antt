use Rattle.std.proofs.Common.{◌∙◌, false, subst, sym}
use Rattle.comp_format.specs.Sections.{Reads}
use Rattle.compose_check.specs.Composition.{composition_tree}
use Rattle.compose_image.specs.Instances.{written}
use Rattle.warg_compose.proofs.LockLaws.{left_named}
use Rattle.warg_compose.proofs.link.lock.Goals as goal

pub left_names-requires : goal.left_names-requires
left_names-requires c =
    let whole = c.in_ok-bytes.ensures.locked in
    let items = (written (composition_tree c.args.composition.now) false c.args.root whole.order whole.items).items in
    (items, subst (λ bytes. Reads bytes items) (sym c.deref.ensures.value) whole.encoded.reads)

pub returns-clause-locked : goal.returns-clause-locked
returns-clause-locked c =
    let tree = composition_tree c.args.composition.now in
    let whole = c.in_ok-bytes.ensures.locked in
    let items = (written tree false c.args.root whole.order whole.items).items in
    record {
      whole = whole;
      open_names =
          c.in_ok-left.ensures items (subst (λ bytes. Reads bytes items) (sym c.deref.ensures.value) whole.encoded.reads)
          ∙ left_named c.one_shape.ensures tree c.args.root c.requires c.what_is_written_imports_these.ensures c.in_ok-bytes.bytes.items whole items whole.encoded.reads;
    }
