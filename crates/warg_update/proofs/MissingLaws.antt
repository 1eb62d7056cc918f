-- How a call tells that a log is not found, and what is answered then.
use Rattle.std.proofs.Common.{◌≡◌, ◌⊎◌, inl, inr, List, ℕ, Bool, false, Option, Some, None, refl, sym, ◌∙◌, ap, subst}
use Rattle.std.specs.Prelude.{Result, Err, Contains, codes}
use Rattle.std.proofs.lemmas.Bool.{false≢true}
use Rattle.http_header.specs.FieldValue.{FieldValue}
use Rattle.warg_hash.specs.Hash.{package_log_id}
use Rattle.warg_hint.specs.Hint.{IsReported, IsFollowed, IsLeft, hint_value}
use Rattle.warg_hint.specs.declared.settings.HintSettings.{HintSettings}
use Rattle.warg_exchange.specs.declared.exchange.Reply.{Reply}
use Rattle.warg_exchange.specs.declared.service.ServiceError.{ServiceError}
use Rattle.warg_exchange.specs.declared.service.ServiceError.TheVariants.{CheckpointNotFound, LogNotFound, FetchTokenNotFound, RecordNotFound, RecordNotSourcing, NamespaceNotDefined, NamespaceImported, Unauthorized, ConflictPendingPublish, Rejection, ContentDigestNotFound, LeafNotFound, Message}
use Rattle.warg_exchange.specs.Replies.{says, first_header, ReplyFault, Refused, page_in}
use Rattle.warg_exchange.specs.Views.{Page}
use Rattle.warg_api.specs.declared.error.ClientError.{ClientError}
use Rattle.warg_api.specs.declared.error.ClientError.TheVariants as call
use Rattle.warg_api.specs.Calls.{IsReplyFault, IsMeaningless}
use Rattle.warg_api.specs.Errors.{error_with_hint, hinted_error, logs_error}
use Rattle.warg_info.specs.Kept.{Kept}
use Rattle.warg_update.specs.declared.error.UpdateError.{UpdateError}
use Rattle.warg_update.specs.declared.error.UpdateError.TheVariants as update
use Rattle.warg_update.specs.Errors.{call_wants_memory}
use Rattle.warg_update.specs.NotFound.{hint_in, IsNotFound, IsAnswered, IsNoPageFault}

-- ---- the error of a call

abbrev fetched : ClientError → Option ServiceError
fetched (call.Fetch f) = Some f.error
fetched e = None

-- a service's error, and a hint beside it
record IsMissing (id : List ℕ) (hint : Option FieldValue) (x : ServiceError) (given : Option FieldValue) : Type 0 where
  error : x ≡ LogNotFound id
  header : given ≡ hint

fetched-is : (x : ServiceError) (id : List ℕ) → Some x ≡ Some (LogNotFound id) → x ≡ LogNotFound id
fetched-is x id e = cc e

hinted : (x : ServiceError) (given hint : FieldValue) (id : List ℕ) → hinted_error x given ≡ call.LogNotFoundWithHint id hint → IsMissing id (Some hint) x (Some given)
hinted (LogNotFound j) given hint id e = let same_id : j ≡ id = cc in let same_hint : given ≡ hint = cc in record { error = ap LogNotFound same_id; header = ap (λ (h : FieldValue). Some h) same_hint }
hinted (CheckpointNotFound n) given hint id e = absurd cc
hinted (FetchTokenNotFound t) given hint id e = absurd cc
hinted (RecordNotFound j) given hint id e = absurd cc
hinted RecordNotSourcing given hint id e = absurd cc
hinted (NamespaceNotDefined t) given hint id e = absurd cc
hinted (NamespaceImported t) given hint id e = absurd cc
hinted (Unauthorized t) given hint id e = absurd cc
hinted (ConflictPendingPublish j) given hint id e = absurd cc
hinted (Rejection t) given hint id e = absurd cc
hinted (ContentDigestNotFound h) given hint id e = absurd cc
hinted (LeafNotFound n) given hint id e = absurd cc
hinted (Message t) given hint id e = absurd cc

unhinted : (x : ServiceError) (given : FieldValue) (id : List ℕ) → fetched (hinted_error x given) ≡ Some (LogNotFound id) → ⊥
unhinted (LogNotFound j) given id e = absurd cc
unhinted (CheckpointNotFound n) given id e = absurd cc
unhinted (FetchTokenNotFound t) given id e = absurd cc
unhinted (RecordNotFound j) given id e = absurd cc
unhinted RecordNotSourcing given id e = absurd cc
unhinted (NamespaceNotDefined t) given id e = absurd cc
unhinted (NamespaceImported t) given id e = absurd cc
unhinted (Unauthorized t) given id e = absurd cc
unhinted (ConflictPendingPublish j) given id e = absurd cc
unhinted (Rejection t) given id e = absurd cc
unhinted (ContentDigestNotFound h) given id e = absurd cc
unhinted (LeafNotFound n) given id e = absurd cc
unhinted (Message t) given id e = absurd cc

is-missing : (x : ServiceError) (given hint : Option FieldValue) (id : List ℕ) → error_with_hint x given ≡ error_with_hint (LogNotFound id) hint → IsMissing id hint x given
is-missing x None None id e = record { error = fetched-is x id (ap fetched e); header = refl }
is-missing x None (Some h) id e = let no : Some x ≡ None = ap fetched e in absurd cc
is-missing x (Some g) None id e = absurd (unhinted x g id (ap fetched e))
is-missing x (Some g) (Some h) id e = hinted x g h id e

-- of two logs that are told so, the ids are one
pub same-log : (i j : List ℕ) (given hint : Option FieldValue) → error_with_hint (LogNotFound i) given ≡ error_with_hint (LogNotFound j) hint → i ≡ j
same-log i j given hint e = let same : LogNotFound i ≡ LogNotFound j = (is-missing (LogNotFound i) given hint j e).error in cc

-- ---- what the reply says

not-meaningless : (hint : Option FieldValue) (id : List ℕ) (reply : Reply) → IsMeaningless (error_with_hint (LogNotFound id) hint) reply page_in → ⊥
not-meaningless None id reply bad = bad
not-meaningless (Some h) id reply bad = bad

-- the reply says that the log is not found, and has this hint
record SaysMissing (id : List ℕ) (hint : Option FieldValue) (reply : Reply) : Type 0 where
  said : says page_in reply ≡ Err (Refused (LogNotFound id))
  header : first_header (codes "warg-registry-hint") reply ≡ hint

says-missing : (e : ClientError) (id : List ℕ) (hint : Option FieldValue) (reply : Reply) → IsReplyFault logs_error e reply page_in → e ≡ error_with_hint (LogNotFound id) hint → SaysMissing id hint reply
says-missing e id hint reply (inl refused) is =
    let missing = is-missing refused.0 (first_header (codes "warg-registry-hint") reply) hint id (sym refused.2 ∙ is) in
    record { said = refused.1 ∙ ap (λ (x : ServiceError). Err (Refused x)) missing.error; header = missing.header }
says-missing e id hint reply (inr meaningless) is = absurd (not-meaningless hint id reply (subst (λ (k : ClientError). IsMeaningless k reply page_in) is meaningless))

refused-is : (r : Result Page ReplyFault) (x y : ServiceError) → r ≡ Err (Refused x) → r ≡ Err (Refused y) → x ≡ y
refused-is r x y is also = cc

no-meaning : (r : Result Page ReplyFault) (x : ServiceError) (e : ReplyFault) → r ≡ Err (Refused x) → r ≡ Err e → Refused x ≡ e
no-meaning r x e is also = cc

has-no-meaning : (e : ClientError) (reply : Reply) (x : ServiceError) → says page_in reply ≡ Err (Refused x) → call_wants_memory e ≡ false → IsMeaningless e reply page_in → ⊥
has-no-meaning (call.UnexpectedResponse status message) reply x said other bad = let no = no-meaning (says page_in reply) x _ said bad.1 in absurd cc
has-no-meaning (call.Hash text) reply x said other bad = let no = no-meaning (says page_in reply) x _ said bad in absurd cc
has-no-meaning call.Memory reply x said other bad = false≢true (sym other)
has-no-meaning e reply x said other bad = absurd bad

-- a call that does not tell so was not told so
pub not-said : (e : ClientError) (id : List ℕ) (reply : Reply) → IsReplyFault logs_error e reply page_in → call_wants_memory e ≡ false → ((hint : Option FieldValue) → e ≡ error_with_hint (LogNotFound id) hint → ⊥)
    → says page_in reply ≡ Err (Refused (LogNotFound id)) → ⊥
not-said e id reply (inl refused) other untold said =
    let same : refused.0 ≡ LogNotFound id = refused-is (says page_in reply) refused.0 (LogNotFound id) refused.1 said in
    untold (first_header (codes "warg-registry-hint") reply) (refused.2 ∙ ap (logs_error reply) same)
not-said e id reply (inr meaningless) other untold said = has-no-meaning e reply (LogNotFound id) said other meaningless

-- ---- what is answered

pub is-not-found : (e : ClientError) (name : List ℕ) (log : List Kept) (packages : List (List ℕ × List Kept)) (hint : Option FieldValue) (reply : Reply) → Contains packages (name, log)
    → e ≡ error_with_hint (LogNotFound (package_log_id name)) hint → IsReplyFault logs_error e reply page_in → IsNotFound name packages reply × (hint_value hint ≡ hint_in reply)
is-not-found e name log packages hint reply there is fault =
    let missing = says-missing e (package_log_id name) hint reply fault is in
    (record { log = log; asked = there; said = missing.said }, ap hint_value (sym missing.header))

pub answered-fault : (e : UpdateError) (settings : HintSettings) (said : Bool → Bool) (name : List ℕ) (hint : Option (List ℕ)) (packages : List (List ℕ × List Kept)) (reply : Reply) → IsNotFound name packages reply → hint ≡ hint_in reply
    → IsAnswered e settings said name hint → IsNoPageFault e settings said packages reply
answered-fault (update.PackageDoesNotExist known) settings said name hint packages reply missing is answer =
    let left : IsLeft settings said name (hint_in reply) = subst (IsLeft settings said name) is answer.1 in
    (subst (λ (n : List ℕ). IsNotFound n packages reply) (sym answer.0) missing, subst (λ (n : List ℕ). IsLeft settings said n (hint_in reply)) (sym answer.0) left)
answered-fault (update.NotBuilt known) settings said name hint packages reply missing is answer =
    let heeded : IsReported settings (hint_in reply) ⊎ IsFollowed settings said name (hint_in reply) = subst (λ (h : Option (List ℕ)). IsReported settings h ⊎ IsFollowed settings said name h) is answer.1 in (
      subst (λ (n : List ℕ). IsNotFound n packages reply) (sym answer.0) missing,
      subst (λ (n : List ℕ). IsReported settings (hint_in reply) ⊎ IsFollowed settings said n (hint_in reply)) (sym answer.0) heeded,
    )
answered-fault update.Memory settings said name hint packages reply missing is answer = tt
answered-fault e settings said name hint packages reply missing is answer = absurd answer

-- the error of a call that does not tell that a package is not found
pub told-fault : (e : ClientError) (settings : HintSettings) (said : Bool → Bool) (packages : List (List ℕ × List Kept)) (reply : Reply) → IsReplyFault logs_error e reply page_in
    → ((p : List ℕ × List Kept) (hint : Option FieldValue) → Contains packages p → e ≡ error_with_hint (LogNotFound (package_log_id p.0)) hint → ⊥) → call_wants_memory e ≡ false
    → IsNoPageFault (update.Api e) settings said packages reply
told-fault e settings said packages reply fault untold other =
    (other, fault, λ name missing. not-said e (package_log_id name) reply fault other (λ hint. untold (name, missing.log) hint missing.asked) missing.said)
