use Rattle.test_scopes.proofs.reading.scope_of.Goals as goal

pub loop-item-init : goal.loop-item-init
loop-item-init c = (_, c.new-scope.ensures c.args.table.now)
