use Rattle.std.proofs.Common.{◌≡◌, sym, ◌∙◌, true, false}
use Rattle.std.specs.Cmp.Lexicographic.{pointwise}
use Rattle.comp_entity.specs.Comparing.{field_alike}
use Rattle.comp_entity.proofs.ViewLaws.{funcs_are, both_true, first_false}
use Rattle.comp_entity.proofs.values.func_equal.Goals as goal

pub returns-then-fields_equal : goal.returns-then-fields_equal
returns-then-fields_equal c =
    let p : pointwise (field_alike c.args.naming.now) c.args.given.now.params.items c.args.asked.now.params.items ≡ true = cc in
    both_true _ _ _ p c.result_equal.ensures ∙ sym (funcs_are c.args.naming.now c.args.given.now c.args.asked.now)

pub returns-else-fields_equal : goal.returns-else-fields_equal
returns-else-fields_equal c =
    let p : pointwise (field_alike c.args.naming.now) c.args.given.now.params.items c.args.asked.now.params.items ≡ false = cc in
    let q : c.fields_equal.result ≡ pointwise (field_alike c.args.naming.now) c.args.given.now.params.items c.args.asked.now.params.items = cc in
    first_false _ _ _ p q ∙ sym (funcs_are c.args.naming.now c.args.given.now c.args.asked.now)
