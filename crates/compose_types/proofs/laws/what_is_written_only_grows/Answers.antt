use Rattle.comp_entity.specs.Names.{OfPlace}
use Rattle.comp_format.specs.Definitions as tree
use Rattle.compose_writing.specs.WriteEntities.{at_end, write_also, write_entity, write_import}
use Rattle.compose_types.proofs.DeclaredLaws.{grown_size}
use Rattle.compose_types.proofs.GrowLaws.{all_new, named_grows, sizes_grow}
use Rattle.compose_types.proofs.WriteGrowLaws.{entity_grows}
use Rattle.compose_types.proofs.laws.what_is_written_only_grows.Goals as goal

pub returns-clause-entity : goal.returns-clause-entity
returns-clause-entity c = λ e ms x is. grown_size ms (write_entity e ms) x (entity_grows e ms) is

pub returns-clause-import : goal.returns-clause-import
returns-clause-import c = λ name e ty ms. sizes_grow ms (write_import name e ty ms) (named_grows tree.Import name e ty ms)

pub returns-clause-also : goal.returns-clause-also
returns-clause-also c = λ number from path ms. sizes_grow ms (write_also number from path ms) (all_new (OfPlace number) (at_end from path) ms)
