-- That a registry gives no page: where it does not find the log of a package, what is done about a hint at another
-- registry says what is answered.
use Rattle.std.specs.Prelude.{◌≡◌, ◌⊎◌, ℕ, Bool, false, List, codes, Contains, Option, Err}
use Rattle.warg_hash.specs.Hash.{package_log_id}
use Rattle.warg_hint.specs.Hint.{IsReported, IsFollowed, IsLeft}
use Rattle.warg_hint.specs.declared.settings.HintSettings.{HintSettings}
use Rattle.warg_exchange.specs.declared.exchange.Reply.{Reply}
use Rattle.warg_exchange.specs.declared.service.ServiceError.TheVariants.{LogNotFound}
use Rattle.warg_exchange.specs.Replies.{says, header, Refused, page_in}
use Rattle.warg_api.specs.Calls.{IsReplyFault}
use Rattle.warg_api.specs.Errors.{logs_error}
use Rattle.warg_info.specs.Kept.{Kept}
use Rattle.warg_update.specs.declared.error.UpdateError.{UpdateError}
use Rattle.warg_update.specs.declared.error.UpdateError.TheVariants as error
use Rattle.warg_update.specs.Errors.{call_wants_memory}

-- the log of the package with this name is asked for, and the reply says that the registry does not find it
pub record IsNotFound (name : List ℕ) (packages : List (List ℕ × List Kept)) (reply : Reply) : Type 0 where
  pub log : List Kept
  pub asked : Contains packages (name, log)
  pub said : says page_in reply ≡ Err (Refused (LogNotFound (package_log_id name)))

-- the value of the header that may hold a hint
abbrev pub hint_in : Reply → Option (List ℕ)
hint_in reply = header (codes "warg-registry-hint") reply

-- what is answered of a package that is not found, by what may be said where a decision is asked: that it does not
-- exist, where a hint is left; or that hints are neither followed nor reported, where one would be. Want of memory says
-- nothing
abbrev pub IsAnswered : UpdateError → HintSettings → (Bool → Bool) → List ℕ → Option (List ℕ) → Type 0
IsAnswered (error.PackageDoesNotExist known) settings said name hint = (known ≡ name) × IsLeft settings said name hint
IsAnswered (error.NotBuilt known) settings said name hint =
    (known ≡ name) × (IsReported settings hint ⊎ IsFollowed settings said name hint)
IsAnswered error.Memory settings said name hint = Unit {0}
IsAnswered other settings said name hint = ⊥

-- the reply gives no page: a package is not found; or none is, and the reply gives none for another reason
abbrev pub IsNoPageFault : UpdateError → HintSettings → (Bool → Bool) → List (List ℕ × List Kept) → Reply → Type 0
IsNoPageFault (error.PackageDoesNotExist name) settings said packages reply =
    IsNotFound name packages reply × IsLeft settings said name (hint_in reply)
IsNoPageFault (error.NotBuilt name) settings said packages reply =
    IsNotFound name packages reply
    × (IsReported settings (hint_in reply) ⊎ IsFollowed settings said name (hint_in reply))
IsNoPageFault (error.Api e) settings said packages reply =
    (call_wants_memory e ≡ false) × IsReplyFault logs_error e reply page_in
    × ((name : List ℕ) → IsNotFound name packages reply → ⊥)
IsNoPageFault error.Memory settings said packages reply = Unit {0}
IsNoPageFault other settings said packages reply = ⊥
