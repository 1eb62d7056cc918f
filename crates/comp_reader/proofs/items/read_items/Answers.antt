use Rattle.std.proofs.Common.{map}
use Rattle.comp_format.specs.Items.{item_tree}
use Rattle.comp_reader.proofs.ItemLaws.{read_found, found_only, refused_only, memory_is}
use Rattle.comp_reader.proofs.items.read_items.Goals as goal

pub returns-in-Ok-clause-found : goal.returns-in-Ok-clause-found
returns-in-Ok-clause-found c = read_found 200 c.args.bytes.now (map item_tree c.in-Ok.items.items) c.in-Ok.ensures

pub returns-in-Ok-clause-only : goal.returns-in-Ok-clause-only
returns-in-Ok-clause-only c = λ items h. found_only 200 c.args.bytes.now (map item_tree c.in-Ok.items.items) items c.in-Ok.ensures h

pub returns-in-Err-clause-only : goal.returns-in-Err-clause-only
returns-in-Err-clause-only c = λ items h. memory_is c.in-Err.error c.placed.result c.placed.ensures (refused_only c.in-Err.error 200 c.args.bytes.now items c.in-Err.ensures h)
