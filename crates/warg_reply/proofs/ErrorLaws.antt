-- What the members of errors mean, where an error's value is by its members.
use Rattle.std.proofs.Common.{◌≡◌, ℕ, List, refl}
use Rattle.std.specs.Prelude.{Result, Ok, Err, IfOk, codes}
use Rattle.serde_json.specs.Data.{string}
use Rattle.serde_json.specs.View.{view}
use Rattle.serde_json.specs.declared.value.Value.{Value}
use Rattle.warg_hash.specs.Hash.{hash_text}
use Rattle.warg_values.specs.declared.memory.Memory.{Memory}
use Rattle.warg_exchange.specs.Requests.{whole_number}
use Rattle.warg_exchange.specs.Replies.{service_error_in}
use Rattle.warg_exchange.specs.declared.service.ServiceError.TheVariants.{CheckpointNotFound, LogNotFound, FetchTokenNotFound, RecordNotFound, RecordNotSourcing, NamespaceNotDefined, NamespaceImported, Unauthorized, ConflictPendingPublish, Rejection, ContentDigestNotFound, LeafNotFound, Message}
use Rattle.warg_reply.specs.Bodies.{kind_data, told_data}
use Rattle.warg_reply.specs.Order.{NamesItself}

abbrev Values : Type 0
Values = Result Value Memory

pub is_CheckpointNotFound : (r : Values) (x : ℕ) → IfOk r (λ v. view v ≡ told_data (codes "length") (whole_number x) (codes "checkpointNotFound")) → IfOk r (λ v. service_error_in (view v) ≡ Ok (CheckpointNotFound x))
unfolding service_error_in
is_CheckpointNotFound (Ok v) x is = rw is refl
is_CheckpointNotFound (Err e) x is = tt

pub is_LogNotFound : (r : Values) (x : List ℕ) → IfOk r (λ v. view v ≡ told_data (codes "id") (string (hash_text x)) (codes "logNotFound")) → IfOk r (λ _. NamesItself x) → IfOk r (λ v. service_error_in (view v) ≡ Ok (LogNotFound x))
unfolding service_error_in
is_LogNotFound (Ok v) x is named = rw (is, named) refl
is_LogNotFound (Err e) x is named = tt

pub is_FetchTokenNotFound : (r : Values) (x : List ℕ) → IfOk r (λ v. view v ≡ told_data (codes "token") (string x) (codes "fetchTokenNotFound")) → IfOk r (λ v. service_error_in (view v) ≡ Ok (FetchTokenNotFound x))
unfolding service_error_in
is_FetchTokenNotFound (Ok v) x is = rw is refl
is_FetchTokenNotFound (Err e) x is = tt

pub is_RecordNotFound : (r : Values) (x : List ℕ) → IfOk r (λ v. view v ≡ told_data (codes "id") (string (hash_text x)) (codes "recordNotFound")) → IfOk r (λ _. NamesItself x) → IfOk r (λ v. service_error_in (view v) ≡ Ok (RecordNotFound x))
unfolding service_error_in
is_RecordNotFound (Ok v) x is named = rw (is, named) refl
is_RecordNotFound (Err e) x is named = tt

pub is_RecordNotSourcing : (r : Values) → IfOk r (λ v. view v ≡ kind_data (codes "recordNotSourcing")) → IfOk r (λ v. service_error_in (view v) ≡ Ok RecordNotSourcing)
unfolding service_error_in
is_RecordNotSourcing (Ok v) is = rw is refl
is_RecordNotSourcing (Err e) is = tt

pub is_NamespaceNotDefined : (r : Values) (x : List ℕ) → IfOk r (λ v. view v ≡ told_data (codes "namespace") (string x) (codes "namespaceNotDefined")) → IfOk r (λ v. service_error_in (view v) ≡ Ok (NamespaceNotDefined x))
unfolding service_error_in
is_NamespaceNotDefined (Ok v) x is = rw is refl
is_NamespaceNotDefined (Err e) x is = tt

pub is_NamespaceImported : (r : Values) (x : List ℕ) → IfOk r (λ v. view v ≡ told_data (codes "namespace") (string x) (codes "namespaceImported")) → IfOk r (λ v. service_error_in (view v) ≡ Ok (NamespaceImported x))
unfolding service_error_in
is_NamespaceImported (Ok v) x is = rw is refl
is_NamespaceImported (Err e) x is = tt

pub is_Unauthorized : (r : Values) (x : List ℕ) → IfOk r (λ v. view v ≡ told_data (codes "message") (string x) (codes "unauthorized")) → IfOk r (λ v. service_error_in (view v) ≡ Ok (Unauthorized x))
unfolding service_error_in
is_Unauthorized (Ok v) x is = rw is refl
is_Unauthorized (Err e) x is = tt

pub is_ConflictPendingPublish : (r : Values) (x : List ℕ) → IfOk r (λ v. view v ≡ told_data (codes "id") (string (hash_text x)) (codes "conflictPendingPublish")) → IfOk r (λ _. NamesItself x) → IfOk r (λ v. service_error_in (view v) ≡ Ok (ConflictPendingPublish x))
unfolding service_error_in
is_ConflictPendingPublish (Ok v) x is named = rw (is, named) refl
is_ConflictPendingPublish (Err e) x is named = tt

pub is_Rejection : (r : Values) (x : List ℕ) → IfOk r (λ v. view v ≡ told_data (codes "message") (string x) (codes "rejection")) → IfOk r (λ v. service_error_in (view v) ≡ Ok (Rejection x))
unfolding service_error_in
is_Rejection (Ok v) x is = rw is refl
is_Rejection (Err e) x is = tt

pub is_ContentDigestNotFound : (r : Values) (x : List ℕ) → IfOk r (λ v. view v ≡ told_data (codes "digest") (string (hash_text x)) (codes "contentDigestNotFound")) → IfOk r (λ _. NamesItself x) → IfOk r (λ v. service_error_in (view v) ≡ Ok (ContentDigestNotFound x))
unfolding service_error_in
is_ContentDigestNotFound (Ok v) x is named = rw (is, named) refl
is_ContentDigestNotFound (Err e) x is named = tt

pub is_LeafNotFound : (r : Values) (x : ℕ) → IfOk r (λ v. view v ≡ told_data (codes "index") (whole_number x) (codes "leafNotFound")) → IfOk r (λ v. service_error_in (view v) ≡ Ok (LeafNotFound x))
unfolding service_error_in
is_LeafNotFound (Ok v) x is = rw is refl
is_LeafNotFound (Err e) x is = tt

pub is_Message : (r : Values) (x : List ℕ) → IfOk r (λ v. view v ≡ told_data (codes "message") (string x) (codes "message")) → IfOk r (λ v. service_error_in (view v) ≡ Ok (Message x))
unfolding service_error_in
is_Message (Ok v) x is = rw is refl
is_Message (Err e) x is = tt
