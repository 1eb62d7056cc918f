use Rattle.std.proofs.Common.{rules, ◌≡◌, ◌<◌, ◌++◌, ◌∷◌, [], refl, arith}
use Rattle.compose_naming.proofs.ScopeLaws.{noted_here}
use Rattle.compose_naming.proofs.scopes.note.Goals as goal

pub returns : goal.returns
returns c =
    let was : c.args.scopes.now.items ≡ c.pop.new.self.items ++ c.in-Some.scope ∷ [] = search rules in
    let below : c.args.thing.out < c.in-Some.scope.width = let e = c.if-thing-scope.false in omega (arith, e) in
    noted_here c.args.scopes.now.items c.pop.new.self.items c.push.new.self.items c.in-Some.scope _ c.args.thing c.args.bit
    c.requires was c.in_ok-push.ensures.items below refl c.in_ok-insert.ensures.updates
