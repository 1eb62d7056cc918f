use Rattle.std.proofs.Common.{◌≡◌, drop, map}
use Rattle.comp_entity.specs.Views.{cases_of, fields_of, value_tree, values_of}
use Rattle.compose_left.specs.Renaming.{case_tree, field_tree}
use Rattle.compose_naming.specs.Bits.{bit_in, both, cases_bit, parts_bit}
use Rattle.compose_naming.specs.Scopes.{scopes_in}
use Rattle.compose_naming.proofs.values.+bits.Given as goal

abbrev pub invariant-cases_bit-loop-case : goal.invariant-cases_bit-loop-case
invariant-cases_bit-loop-case l =
    both l.bit (cases_bit (bit_in (scopes_in l.scopes)) (cases_of (map case_tree (drop l.case-index l.cases))))
    ≡ cases_bit (bit_in (scopes_in l.scopes)) (cases_of (map case_tree l.cases))

abbrev pub invariant-fields_bit-loop-field : goal.invariant-fields_bit-loop-field
invariant-fields_bit-loop-field l =
    both l.bit (cases_bit (bit_in (scopes_in l.scopes)) (fields_of (map field_tree (drop l.field-index l.fields))))
    ≡ cases_bit (bit_in (scopes_in l.scopes)) (fields_of (map field_tree l.fields))

abbrev pub invariant-parts_bit-loop-part : goal.invariant-parts_bit-loop-part
invariant-parts_bit-loop-part l =
    both l.bit (parts_bit (bit_in (scopes_in l.scopes)) (values_of (map value_tree (drop l.part-index l.parts))))
    ≡ parts_bit (bit_in (scopes_in l.scopes)) (values_of (map value_tree l.parts))
