use Rattle.comp_entity.specs.Names.{OfPlace}
use Rattle.comp_format.specs.Definitions as tree
use Rattle.compose_writing.specs.WriteEntities.{at_end, write_also, write_entity, write_import}
use Rattle.compose_types.proofs.DeclaredLaws.{all_declared, declared_size, grown, outermost_declared}
use Rattle.compose_types.proofs.GrowLaws.{all_new, named_grows}
use Rattle.compose_types.proofs.WriteGrowLaws.{entity_grows}
use Rattle.compose_types.proofs.laws.what_is_numbered_is_declared.Goals as goal

pub returns-clause-begun : goal.returns-clause-begun
returns-clause-begun c = outermost_declared

pub returns-clause-entity : goal.returns-clause-entity
returns-clause-entity c = λ e ms x d is. all_declared ms x.0 (grown ms (write_entity e ms) x (entity_grows e ms) is) d

pub returns-clause-import : goal.returns-clause-import
returns-clause-import c = λ name e ty ms d. all_declared ms (write_import name e ty ms) (named_grows tree.Import name e ty ms) d

pub returns-clause-also : goal.returns-clause-also
returns-clause-also c = λ number from path ms d. all_declared ms (write_also number from path ms) (all_new (OfPlace number) (at_end from path) ms) d

pub returns-clause-size : goal.returns-clause-size
returns-clause-size c = λ m d. declared_size m d
