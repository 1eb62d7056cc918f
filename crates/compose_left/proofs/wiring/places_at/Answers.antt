use Rattle.std.proofs.Common.{rules}
use Rattle.compose_left.specs.Wiring.{shapes_of}
use Rattle.compose_left.proofs.PlaceLaws.{places_at, places_past}
use Rattle.compose_left.proofs.wiring.places_at.Goals as goal

pub returns-then-instance-len : goal.returns-then-instance-len
returns-then-instance-len c = places_past c.args.wired.now.places.items (shapes_of c.args.wired.now.shapes.now) c.args.instance c.requires.places (search rules)

pub returns : goal.returns
returns c = places_at c.args.wired.now.places.items (shapes_of c.args.wired.now.shapes.now) c.args.instance _ c.requires.places (search rules) (search rules)
