-- What the value means is what the bytes have.
use Rattle.std.proofs.Common.{◌≡◌, Err, IfOk, option_map, ap, subst, Option}
use Rattle.json.specs.Value.{value_view}
use Rattle.warg_store.specs.Namespaces.{Names}
use Rattle.warg_namespace_files.proofs.NameLaws.{read_value, no_value}
use Rattle.warg_namespace_files.proofs.names.read_names.Goals as goal

pub returns-in-Ok : goal.returns-in-Ok
returns-in-Ok c =
    let read = c.in-Ok.ensures.ok in
    subst (λ (meant : Option Names). IfOk c.value_names.result (λ o. option_map (λ names. names.entries) o ≡ meant))
    (read_value c.args.bytes.now (value_view c.in-Ok.value) read.0 read.1) c.value_names.ensures

pub returns-in-Err-Invalid : goal.returns-in-Err-Invalid
returns-in-Err-Invalid c = no_value c.args.bytes.now (c.in-Err-Invalid.ensures.invalid (ap Err c.in-Err-Invalid.field-0-is))
