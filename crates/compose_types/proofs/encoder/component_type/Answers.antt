use Rattle.compose_types.specs.Scopes.{item_of, scopes}
use Rattle.comp_entity.specs.Views.{entries_of, named_entities}
use Rattle.compose_types.proofs.EntityLargestLaws.{exports_refused, imports_refused}
use Rattle.compose_types.proofs.RefusalLaws.{told}
use Rattle.compose_types.proofs.EntityPossibleLaws.{exports_possible, imports_possible}
use Rattle.compose_types.proofs.InnerLaws.{component_ends, exports_taken_behind, imports_taken}
use Rattle.compose_types.specs.declared.body.Side.TheVariants as side
use Rattle.compose_types.proofs.encoder.component_type.Goals as goal

pub returns-in_err-write_entries-clause-among : goal.returns-in_err-write_entries-clause-among
returns-in_err-write_entries-clause-among c =
    λ n e. imports_refused n (entries_of (named_entities c.args.imports.now)) (entries_of (named_entities c.args.exports.now)) (scopes c.args.state.now) (scopes c.open.new.self) c.in_ok-open.ensures.opened (c.in_err-write_entries.ensures.among n (told c.from_residual-in_err-write_entries.result _ n c.from_residual-in_err-write_entries.ensures.1 e))

pub returns-in_err-write_entries-2-clause-among : goal.returns-in_err-write_entries-2-clause-among
returns-in_err-write_entries-2-clause-among c = λ n e.
    exports_refused n (entries_of (named_entities c.args.imports.now)) (entries_of (named_entities c.args.exports.now)) (scopes c.args.state.now) (scopes c.open.new.self) c.in_ok-open.ensures.opened (scopes c.write_entries.new.state) c.in_ok-write_entries.ensures.written (c.in_err-write_entries-2.ensures.among n (told c.from_residual-in_err-write_entries-2.result _ n c.from_residual-in_err-write_entries-2.ensures.1 e))

pub write_entries-requires-clause-kind : goal.write_entries-requires-clause-kind
write_entries-requires-clause-kind c = imports_taken c.args.state.now (scopes c.open.new.self) c.in_ok-open.ensures.opened

pub write_entries-requires-clause-possible : goal.write_entries-requires-clause-possible
write_entries-requires-clause-possible c =
    imports_possible (entries_of (named_entities c.args.imports.now)) (entries_of (named_entities c.args.exports.now)) (scopes c.args.state.now) (scopes c.open.new.self) c.in_ok-open.ensures.opened c.requires.possible

pub write_entries-requires-2-clause-kind : goal.write_entries-requires-2-clause-kind
write_entries-requires-2-clause-kind c =
    exports_taken_behind c.args.state.now (scopes c.open.new.self) c.in_ok-open.ensures.opened (item_of side.Imports) (entries_of (named_entities c.args.imports.now)) (scopes c.write_entries.new.state) c.in_ok-write_entries.ensures.written

pub write_entries-requires-2-clause-possible : goal.write_entries-requires-2-clause-possible
write_entries-requires-2-clause-possible c =
    exports_possible (entries_of (named_entities c.args.imports.now)) (entries_of (named_entities c.args.exports.now)) (scopes c.args.state.now) (scopes c.open.new.self) c.in_ok-open.ensures.opened c.requires.possible (scopes c.write_entries.new.state) c.in_ok-write_entries.ensures.written

pub close_component-ty-requires : goal.close_component-ty-requires
close_component-ty-requires c =
    component_ends c.args.state.now (scopes c.open.new.self) c.in_ok-open.ensures.opened (item_of side.Imports) (item_of side.Exports) (entries_of (named_entities c.args.imports.now)) (entries_of (named_entities c.args.exports.now)) (scopes c.write_entries.new.state) (scopes c.write_entries-2.new.state)
    c.in_ok-write_entries.ensures.written c.in_ok-write_entries-2.ensures.written
