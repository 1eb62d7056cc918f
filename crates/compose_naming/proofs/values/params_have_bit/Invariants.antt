use Rattle.std.proofs.Common.{◌≡◌, drop, map}
use Rattle.std.specs.List.{list_all}
use Rattle.compose_left.specs.Renaming.{field_tree}
use Rattle.compose_naming.specs.Bits.{bit_in, param_has_bit}
use Rattle.compose_naming.specs.Scopes.{scopes_in}
use Rattle.compose_naming.proofs.values.params_have_bit.Given as goal

abbrev pub invariant-loop-param : goal.invariant-loop-param
invariant-loop-param l =
    list_all (param_has_bit (bit_in (scopes_in l.scopes))) (map field_tree (drop l.param-index l.params))
    ≡ list_all (param_has_bit (bit_in (scopes_in l.scopes))) (map field_tree l.params)
