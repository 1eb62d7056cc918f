use Rattle.std.proofs.Common.{◌∙◌, ap, subst, sym}
use Rattle.comp_format.specs.Fits.{IsComponent}
use Rattle.compose_component.specs.Content.{content_bytes}
use Rattle.compose_component.proofs.ComponentLaws.{is_read}
use Rattle.compose_component.proofs.component.Component.bytes.Goals as goal

pub returns-in-Lent-clause-form : goal.returns-in-Lent-clause-form
returns-in-Lent-clause-form c =
    subst IsComponent (ap content_bytes c.in-Lent.is) (is_read (content_bytes c.args.self.now.content) c.args.self.now.is_component)

pub returns-in-Owned-clause-form : goal.returns-in-Owned-clause-form
returns-in-Owned-clause-form c =
    subst IsComponent (ap content_bytes c.in-Owned.is ∙ sym c.deref.ensures.value)
    (is_read (content_bytes c.args.self.now.content) c.args.self.now.is_component)
