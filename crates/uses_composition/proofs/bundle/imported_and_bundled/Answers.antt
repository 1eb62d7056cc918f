use Rattle.std.proofs.Common.{List, Some, subst, ℕ}
use Rattle.compose_bundle.specs.Bundled.{IsBundled, content_in}
use Rattle.compose_check.specs.Composition.{composition_tree}
use Rattle.uses_composition.proofs.bundle.imported_and_bundled.Goals as goal

pub returns-in-Ok-bundle : goal.returns-in-Ok-bundle
returns-in-Ok-bundle c =
    let whole = c.in-Ok.ensures.whole in
    let content = content_in c.args.contents.now in
    let bundled = subst (λ (bytes : List ℕ). IsBundled content bytes c.in-Ok-bundle.bundle.items)
    c.deref.ensures.value c.in-Ok-bundle.ensures.bundled in (
      whole.order,
      c.bundles_are_whole.ensures (composition_tree c.args.composition.now) content (Some c.args.export)
          c.in-Ok.bytes.items c.in-Ok-bundle.bundle.items whole (c.requires.contents c.in-Ok.bytes.items) bundled,
    )
