use Rattle.std.proofs.Common.{rules, ◌≡◌, ◌<◌, ◌^◌, List, Ok, Err, false, refl, sym, subst}
use Rattle.std.specs.Prelude.{option_copied, bytes_eq, IfErr, Result}
use Rattle.std.specs.Result.{IsErrAnd}
use Rattle.std.specs.List.{IsDistinct}
use Rattle.warg_exchange.specs.Views.{page_view}
use Rattle.warg_exchange.specs.declared.logs.PublishedRecord.{PublishedRecord}
use Rattle.warg_hash.specs.Hash.{operator_log_id}
use Rattle.warg_model.specs.Held.{registry_of}
use Rattle.warg_model.specs.Pages.{AreBehind, IsLogsFault, asked_in}
use Rattle.warg_model.specs.declared.error.LogsError.{LogsError}
use Rattle.warg_model.specs.State.{held}
use Rattle.warg_model.proofs.ListLaws.{Asked, asked-ids}
use Rattle.warg_model.proofs.LogsLaws.{is-page, have-records, fault-further}
use Rattle.warg_model.proofs.registry.ModelRegistry.page.Goals as goal

if-err : {X : Type 0} (P : LogsError → Type 0) (r : Result X LogsError) (e : LogsError) → IsErrAnd r (λ x. x ≡ e) → P e → IfErr r P
if-err P (Ok x) e same fault = tt
if-err P (Err x) e same fault = subst P (sym same) fault

pub returns-in_err-packages-clause-err : goal.returns-in_err-packages-clause-err
returns-in_err-packages-clause-err c =
    let request = c.args.request.now in
    let first : Asked = (operator_log_id, request.operator) in
    let fault = fault-further (registry_of (held c.args.self.now)) request.log_length first request.packages.entries _ c.in_err-packages.ensures.err in
    if-err (IsLogsFault (registry_of (held c.args.self.now)) request.log_length (asked_in request)) _ _ c.from_residual-in_err-packages.ensures.1 fault

pub returns-clause-is : goal.returns-clause-is
returns-clause-is c sound apart logs names =
    let request = c.args.request.now in
    let w = registry_of (held c.args.self.now) in
    let small : request.log_length < 2 ^ 64 = search rules in
    let token : option_copied c.as_ref.result ≡ request.operator = search rules in
    let behind : AreBehind w request.log_length operator_log_id request.operator c.in_ok-records.records.items = search rules in
    let operator : AreBehind w request.log_length operator_log_id request.operator c.from_vec.result = subst (λ (rs : List PublishedRecord). AreBehind w request.log_length operator_log_id request.operator rs) (sym c.from_vec.ensures) behind in
    let distinct : IsDistinct bytes_eq (asked-ids request.packages.entries) = c.lists_asked.ensures.unique in
    is-page (held c.args.self.now) request logs (page_view (record { more = false; operator = c.from_vec.result; packages = c.in_ok-packages.packages })) small sound apart names distinct refl operator c.in_ok-packages.ensures.lists

pub returns-clause-whole : goal.returns-clause-whole
returns-clause-whole c logs names =
    let request = c.args.request.now in
    let w = registry_of (held c.args.self.now) in
    let behind : AreBehind w request.log_length operator_log_id request.operator c.in_ok-records.records.items = search rules in
    let distinct : IsDistinct bytes_eq (asked-ids request.packages.entries) = c.lists_asked.ensures.unique in
    have-records (held c.args.self.now) request logs c.in_ok-records.records.items c.in_ok-packages.packages.entries names distinct behind c.in_ok-packages.ensures.lists
