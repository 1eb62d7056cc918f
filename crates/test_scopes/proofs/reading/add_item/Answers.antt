use Rattle.std.proofs.Common.{[]}
use Rattle.test_scopes.proofs.ScopeLaws.{scope_after, spaces_after}
use Rattle.test_scopes.proofs.reading.add_item.Goals as goal

pub returns-in-Ty : goal.returns-in-Ty
returns-in-Ty c =
    spaces_after c.args.table.now c.add_type.new.table c.add_type.ensures.extends c.args.scope.now c.requires.0 c.add_type.new.space c.add_type.result _ c.requires.1
    (c.add_type.ensures.found [] c.requires.0.spaces tt c.requires.1.spaces)

pub returns-in-CoreTy : goal.returns-in-CoreTy
returns-in-CoreTy c =
    spaces_after c.args.table.now c.add_core_type.new.table c.add_core_type.ensures.extends c.args.scope.now c.requires.0 c.add_core_type.new.space c.add_core_type.result _ c.requires.1
    (c.add_core_type.ensures.found [] c.requires.0.spaces tt c.requires.1.spaces)

pub returns-in-Alias : goal.returns-in-Alias
returns-in-Alias c =
    spaces_after c.args.table.now c.add_alias.new.table c.add_alias.ensures.extends c.args.scope.now c.requires.0 c.add_alias.new.space c.add_alias.result _ c.requires.1
    (c.add_alias.ensures.found [] c.requires.0.spaces tt c.requires.1.spaces)

pub returns-in-Import : goal.returns-in-Import
returns-in-Import c = scope_after c.import.new.table c.import.new.self c.import.result _ (c.import.ensures.found c.requires.0 c.requires.1)
