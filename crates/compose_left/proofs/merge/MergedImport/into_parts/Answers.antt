use Rattle.std.proofs.Common.{Option, ap, sym, ◌∙◌}
use Rattle.comp_entity.specs.declared.entity.Entity.{Entity}
use Rattle.comp_entity.specs.Views.{named_entities}
use Rattle.compose_left.specs.Merged.{merged_of}
use Rattle.compose_left.proofs.ViewLaws.{entity_instance}
use Rattle.compose_left.proofs.merge.MergedImport.into_parts.Goals as goal

pub returns-in-None-clause-entity : goal.returns-in-None-clause-entity
returns-in-None-clause-entity c =
    entity_instance (record { exports = c.args.self.exports })
    ∙ ap (λ (o : Option Entity). merged_of o (named_entities c.args.self.exports.items)) (sym c.in-None.is)
