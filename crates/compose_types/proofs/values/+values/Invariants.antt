use Rattle.std.proofs.Common.{◌≡◌, drop}
use Rattle.compose_types.specs.Scopes.{scopes}
use Rattle.compose_types.specs.Values.{write_each, write_part, write_field, write_case}
use Rattle.compose_types.proofs.ValueLaws.{then_each}
use Rattle.compose_types.proofs.values.+values.Given as goal

abbrev pub invariant-cases_of-loop-case : goal.invariant-cases_of-loop-case
invariant-cases_of-loop-case l = then_each l.written (write_each write_case (drop l.case-index l.cases) (scopes l.state)) ≡ write_each write_case l.fn.cases (scopes l.fn.state)

abbrev pub invariant-fields_of-loop-field : goal.invariant-fields_of-loop-field
invariant-fields_of-loop-field l = then_each l.written (write_each write_field (drop l.field-index l.fields) (scopes l.state)) ≡ write_each write_field l.fn.fields (scopes l.fn.state)

abbrev pub invariant-parts_of-loop-part : goal.invariant-parts_of-loop-part
invariant-parts_of-loop-part l = then_each l.written (write_each write_part (drop l.part-index l.parts) (scopes l.state)) ≡ write_each write_part l.fn.parts (scopes l.fn.state)
