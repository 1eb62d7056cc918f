use Rattle.std.proofs.Common.{[], ap, ◌∙◌}
use Rattle.comp_entity.specs.Views.{named_entities}
use Rattle.compose_needs.specs.Exports.{export_hides}
use Rattle.compose_needs.specs.Lefts.{lefts_of}
use Rattle.compose_check.specs.Checked.{entities_placed}
use Rattle.compose_check.specs.Composition.{composition_tree, wiring}
use Rattle.compose_check.proofs.exports.hidden_export.Goals as goal

pub returns : goal.returns
returns c =
    let w = wiring (composition_tree c.args.composition.now) in
    c.in_ok-name.ensures w c.requires.origins ∙ ap (λ es. export_hides (lefts_of w) [] (named_entities es)) c.deref.ensures.value
    ∙ ap (export_hides (lefts_of w) []) (c.in_ok-found.ensures w c.requires.origins c.requires.no_circle ∙ ap (entities_placed w c.args.instance) c.exports_of-exports.ensures)
