use Rattle.std.proofs.Common.{◌∙◌, ap, subst, sym}
use Rattle.comp_scope.specs.Descriptions.{described_type}
use Rattle.comp_space.specs.Descriptions.{ShowsDescribed}
use Rattle.comp_space.specs.Faults.{Finds}
use Rattle.comp_instance.proofs.ExportLaws.{item_export, type_export}
use Rattle.comp_instance.proofs.exports.plain_export.Goals as goal

pub returns-in-Ty-clause-found : goal.returns-in-Ty-clause-found
returns-in-Ty-clause-found c = λ s e shows stands.
    subst (Finds (ShowsDescribed c.described_type.new.table) c.described_type.result)
    (ap (λ new. described_type new (e, c.args.item.named)) (c.made.ensures c.args.table.now s shows) ∙ type_export s e c.args.item.named (sym (c.sort_at.ensures e stands) ∙ c.in-Ty.is))
    (c.described_type.ensures.found e stands)

pub returns-in_default-clause-found : goal.returns-in_default-clause-found
returns-in_default-clause-found c = λ s e shows stands.
    subst (Finds (ShowsDescribed c.args.table.now) c.plain_item.result)
    (item_export s e c.args.item.named (λ is. c.in_default.not-Ty (c.sort_at.ensures e stands ∙ is)))
    (c.plain_item.ensures c.args.table.now e stands)
