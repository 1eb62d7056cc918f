-- A page that is put together of logs' records is one of the registry.
use Rattle.std.proofs.Common.{◌≡◌, ◌<◌, ◌^◌, ◌∷◌, inl, inr, List, ℕ, false, Option, refl, sym, ◌∙◌, subst}
use Rattle.std.specs.Prelude.{◌↔◌, bytes_eq, Contains}
use Rattle.std.specs.List.{IsDistinct}
use Rattle.warg_hash.specs.Hash.{operator_log_id, package_log_id}
use Rattle.warg_record.specs.Record.{Kind, Package, Operator}
use Rattle.warg_exchange.specs.declared.logs.FetchLogsRequest.{FetchLogsRequest}
use Rattle.warg_exchange.specs.declared.logs.PublishedRecord.{PublishedRecord}
use Rattle.warg_exchange.specs.Views.{Page}
use Rattle.warg_info.specs.Kept.{Kept, last_token}
use Rattle.warg_page.specs.Logs.{Logs, brought, tokens_of}
use Rattle.warg_ledger.specs.Honest.{HaveRecords}
use Rattle.warg_ledger.specs.Registry.{Registry, IsLogId, BringsBehind, IsPageOf, log_below}
use Rattle.warg_model.specs.declared.error.LogsError.{LogsError}
use Rattle.warg_model.specs.Held.{Held, IsModel, HasNoClash, registry_of}
use Rattle.warg_model.specs.Pages.{AreBehind, AreLists, IsLogsFault, StartsWith, Names}
use Rattle.warg_model.proofs.BehindLaws.{brings-behind}
use Rattle.warg_model.proofs.ListLaws.{Asked, Listed, asked-ids, brought-behind, listed-asked, package-asked, asked-package, further}
use Rattle.warg_model.proofs.RequestLaws.{last-place}

-- what is behind a token of a log's beginning is all that there is of the log behind it
brings-named : (h : Held) (kind : Kind) (id : List ℕ) (n : ℕ) (token : Option (List ℕ)) (log : List Kept) (records : List PublishedRecord) → n < 2 ^ 64 → IsModel h → HasNoClash (registry_of h) → IsLogId kind id
    → StartsWith (log_below (registry_of h) n id) log → token ≡ last_token log → AreBehind (registry_of h) n id token records → BringsBehind kind (log_below (registry_of h) n id) log records false
brings-named h kind id n token log records small model apart is starts last behind =
    let at = last-place h n id log starts.0 behind.place small starts.1 (sym last ∙ behind.named) behind.of_log in
    subst (λ (rs : List PublishedRecord). BringsBehind kind (log_below (registry_of h) n id) log rs false) (sym behind.all) (brings-behind h kind id n behind.place log starts.0 model apart is starts.1 at)

-- what is listed for a package's log that is asked for
listed-for : (h : Held) (n : ℕ) (logs : Logs) (asked : List Asked) (listed : List Listed) (name : List ℕ) (log : List Kept) → IsDistinct bytes_eq (asked-ids asked) → AreLists (registry_of h) n asked listed
    → ((a : Asked) → Contains (tokens_of logs.packages) a ↔ Contains asked a) → Contains logs.packages (name, log)
    → AreBehind (registry_of h) n (package_log_id name) (last_token log) (brought (package_log_id name) listed)
listed-for h n logs asked listed name log distinct are is there =
    brought-behind (registry_of h) n asked listed (package_log_id name, last_token log) distinct are ((is (package_log_id name, last_token log)).0 (package-asked logs.packages (name, log) there))

pub is-page : (h : Held) (request : FetchLogsRequest) (logs : Logs) (page : Page) → request.log_length < 2 ^ 64 → IsModel h → HasNoClash (registry_of h) → Names (registry_of h) logs request → IsDistinct bytes_eq (asked-ids request.packages.entries) → page.more ≡ false
    → AreBehind (registry_of h) request.log_length operator_log_id request.operator page.operator → AreLists (registry_of h) request.log_length request.packages.entries page.packages → IsPageOf (registry_of h) request.log_length logs page
is-page h request logs page small model apart names distinct last operator lists =
    let w = registry_of h in
    let n = request.log_length in
    let asked = request.packages.entries in
    record {
      operator_records = rw last (brings-named h Operator operator_log_id n request.operator logs.operator page.operator small model apart (inl (refl, refl)) names.operator_begins names.operator_token operator);
      package_records = λ name log there. rw last (brings-named h Package (package_log_id name) n (last_token log) log (brought (package_log_id name) page.packages) small model apart (inr (refl, name, refl)) (names.packages_begin name log there) refl
          (listed-for h n logs asked page.packages name log distinct lists names.package_tokens there));
      only_asked = λ id records there.
          let of = listed-asked w n asked page.packages (id, records) lists there in
          asked-package logs.packages (id, of.0.0) ((names.package_tokens (id, of.0.0)).1 of.0.1);
      some_records = λ name records there empty. (listed-asked w n asked page.packages (package_log_id name, records) lists there).1;
    }

pub have-records : (h : Held) (request : FetchLogsRequest) (logs : Logs) (operator : List PublishedRecord) (listed : List Listed) → Names (registry_of h) logs request → IsDistinct bytes_eq (asked-ids request.packages.entries)
    → AreBehind (registry_of h) request.log_length operator_log_id request.operator operator → AreLists (registry_of h) request.log_length request.packages.entries listed → HaveRecords (registry_of h) request.log_length logs
have-records h request logs operator listed names distinct behind lists = record {
  operator = behind.some;
  packages = λ name log there. (listed-for h request.log_length logs request.packages.entries listed name log distinct lists names.package_tokens there).some;
}

-- a fault with one of the packages' logs is one with a log that is asked for
pub fault-further : (w : Registry) (n : ℕ) (a : Asked) (asked : List Asked) (e : LogsError) → IsLogsFault w n asked e → IsLogsFault w n (a ∷ asked) e
fault-further w n a asked e fault = (fault.0, further a fault.0 asked fault.1, fault.2)
