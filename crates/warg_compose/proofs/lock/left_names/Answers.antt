use Rattle.std.proofs.Common.{◌≡◌, ◌∙◌, ap, map, subst}
use Rattle.std.specs.Prelude.{IfOk}
use Rattle.comp_format.specs.Items.{item_tree}
use Rattle.warg_compose.specs.Left.{open_names}
use Rattle.warg_compose.proofs.lock.left_names.Goals as goal

pub returns-in-Ok : goal.returns-in-Ok
returns-in-Ok c = λ items reads.
    let read = ap (map item_tree) c.deref.ensures.value ∙ c.in-Ok.ensures.only items reads in
    subst (λ is. IfOk c.names_among.result (λ names. names.items ≡ open_names is)) read c.names_among.ensures
