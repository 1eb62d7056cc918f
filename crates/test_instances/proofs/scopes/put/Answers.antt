use Rattle.comp_entity.specs.Bounds.{bounded}
use Rattle.comp_entity.specs.Views.{entity_tree}
use Rattle.comp_scope.specs.Spaces.{added}
use Rattle.std.proofs.Common.{true}
use Rattle.comp_space.specs.SpaceLaws.{space_kept}
use Rattle.comp_space.specs.SpaceViews.{ShowsSpaces}
use Rattle.test_instances.proofs.ScopeLaws.{found_is_shown}
use Rattle.test_instances.proofs.scopes.put.Goals as goal

pub returns : goal.returns
returns c =
    found_is_shown (ShowsSpaces c.intern.new.self c.add.new.self) c.add.result (added bounded c.requires.0 (entity_tree c.in_ok-entity.entity) true)
    (c.add.ensures.found c.requires.0 (entity_tree c.in_ok-entity.entity) (space_kept c.args.table.now c.intern.new.self c.intern.ensures.kept c.args.space.now c.requires.0 c.requires.1) c.in_ok-number.ensures.number)
