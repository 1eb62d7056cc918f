use Rattle.std.proofs.Common.{◌≡◌, take, true}
use Rattle.std.specs.List.{list_all}
use Rattle.compose_types.specs.Sights.{sees, part_known, field_known, case_known}
use Rattle.compose_types.proofs.sights.+mentioning.Given as goal

abbrev pub invariant-each_seen-loop-part : goal.invariant-each_seen-loop-part
invariant-each_seen-loop-part l = list_all (part_known (sees l.sight)) (take l.part-index l.parts) ≡ true

abbrev pub invariant-fields_seen-loop-field : goal.invariant-fields_seen-loop-field
invariant-fields_seen-loop-field l = list_all (field_known (sees l.sight)) (take l.field-index l.fields) ≡ true

abbrev pub invariant-cases_seen-loop-case : goal.invariant-cases_seen-loop-case
invariant-cases_seen-loop-case l = list_all (case_known (sees l.sight)) (take l.case-index l.cases) ≡ true
