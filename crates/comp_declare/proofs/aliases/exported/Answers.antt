use Rattle.std.proofs.Common.{ap, sym, ◌∙◌}
use Rattle.comp_entity.specs.Fits.{under}
use Rattle.comp_declare.specs.Exported.{is_instance}
use Rattle.comp_declare.proofs.AliasLaws.{export_there, instance_there, sort_there}
use Rattle.comp_declare.proofs.aliases.exported.Goals as goal

pub sort_at-requires : goal.sort_at-requires
sort_at-requires c =
    let there = instance_there c.args.table.now c.args.instance.number c.requires.0 c.requires.1 (ap is_instance (sym c.head.ensures) ∙ sym c.is_instance.ensures ∙ c.if-not-is_instance.false) in
    (export_there c.args.table.now c.in-Some.found (under c.args.name.now there.exports) (c.in-Some.ensures there.exports (c.parts.ensures.parts ∙ there.below_is))).shown.stands.there

pub returns : goal.returns
returns c = λ e stands.
    let there = instance_there c.args.table.now c.args.instance.number e stands (ap is_instance (sym c.head.ensures) ∙ sym c.is_instance.ensures ∙ c.if-not-is_instance.false) in
    let h = export_there c.args.table.now c.in-Some.found (under c.args.name.now there.exports) (c.in-Some.ensures there.exports (c.parts.ensures.parts ∙ there.below_is)) in
    sort_there c.args.table.now c.args.instance.number e c.args.instance.named c.args.sort c.args.name.now there c.in-Some.found c.sort_at.result h (c.sort_at.ensures h.e.0 h.shown.stands)
    (sym c.is_same_space.ensures ∙ c.if-not-is_same_space.false)
