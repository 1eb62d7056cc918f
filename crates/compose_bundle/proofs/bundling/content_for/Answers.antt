use Rattle.std.proofs.Common.{◌∙◌}
use Rattle.compose_bundle.proofs.FoundLaws.{found_component}
use Rattle.compose_bundle.proofs.bundling.content_for.Goals as goal

pub returns-in-Import-default-Component-clause-component : goal.returns-in-Import-default-Component-clause-component
returns-in-Import-default-Component-clause-component c =
    found_component c.args.contents.now c.in-Import-default-Component.name c.copied.result c.requires
    (c.copied.ensures ∙ c.get.ensures.value)
