use Rattle.std.proofs.Common.{◌≡◌, ◌++◌, map, take}
use Rattle.std.specs.Prelude.{Bool}
use Rattle.comp_entity.specs.Views.{named_entities}
use Rattle.compose_image.specs.Instances.{open_arg, open_from}
use Rattle.compose_encode.specs.Held.{Items}
use Rattle.compose_encode.specs.Looked.{AreTables, lent_tree}
use Rattle.compose_encode.proofs.instances.push_all_open.Given as goal

abbrev pub invariant-loop-import : goal.invariant-loop-import
invariant-loop-import l = (define : Bool) (imports : Items) → AreTables l.tables define imports
    → l.args.items ≡ l.initial.args.items ++ map (open_arg imports) (open_from (lent_tree l.tables) l.instance 0 (named_entities (take l.import l.entries)))
