use Rattle.std.proofs.Common.{[]}
use Rattle.test_instances.proofs.scopes.scope.Goals as goal

pub returns : goal.returns
returns c =
    let k = c.in_ok-add_members.ensures in
    (record { spaces = k.0; imports = []; exports = [] }, record { spaces = k.1; imports = c.new.ensures c.add_members.new.table; exports = c.new-2.ensures c.add_members.new.table })
