use Rattle.std.proofs.Common.{◌≡◌, List, ℕ, subst}
use Rattle.std.specs.Prelude.{Ok, IfOk}
use Rattle.serde_json.specs.View.{view}
use Rattle.warg_exchange.specs.Replies.{service_error_in}
use Rattle.warg_exchange.specs.declared.service.ServiceError.TheVariants.{LogNotFound, RecordNotFound, ConflictPendingPublish}
use Rattle.warg_reply.proofs.ErrorLaws.{is_CheckpointNotFound, is_LogNotFound, is_FetchTokenNotFound, is_RecordNotFound, is_RecordNotSourcing, is_NamespaceNotDefined, is_NamespaceImported, is_Unauthorized, is_ConflictPendingPublish, is_Rejection, is_ContentDigestNotFound, is_LeafNotFound, is_Message}
use Rattle.warg_reply.proofs.errors.error_value.Goals as goal

pub returns-in-CheckpointNotFound-clause-says : goal.returns-in-CheckpointNotFound-clause-says
returns-in-CheckpointNotFound-clause-says c = rw c.in-CheckpointNotFound.is (is_CheckpointNotFound c.number_object.result c.in-CheckpointNotFound.length c.number_object.ensures)

pub returns-in-LogNotFound-clause-says : goal.returns-in-LogNotFound-clause-says
returns-in-LogNotFound-clause-says c = rw c.in-LogNotFound.is (subst (λ (id : List ℕ). IfOk c.hash_object.result (λ v. service_error_in (view v) ≡ Ok (LogNotFound id))) c.hash.ensures.value (is_LogNotFound c.hash_object.result c.hash.result.now c.hash_object.ensures.object c.hash_object.ensures.names))

pub returns-in-FetchTokenNotFound-clause-says : goal.returns-in-FetchTokenNotFound-clause-says
returns-in-FetchTokenNotFound-clause-says c = rw c.in-FetchTokenNotFound.is (is_FetchTokenNotFound c.text_object.result c.in-FetchTokenNotFound.token c.text_object.ensures)

pub returns-in-RecordNotFound-clause-says : goal.returns-in-RecordNotFound-clause-says
returns-in-RecordNotFound-clause-says c = rw c.in-RecordNotFound.is (subst (λ (id : List ℕ). IfOk c.hash_object-in-RecordNotFound.result (λ v. service_error_in (view v) ≡ Ok (RecordNotFound id))) c.hash-in-RecordNotFound.ensures.value (is_RecordNotFound c.hash_object-in-RecordNotFound.result c.hash-in-RecordNotFound.result.now c.hash_object-in-RecordNotFound.ensures.object c.hash_object-in-RecordNotFound.ensures.names))

pub returns-in-RecordNotSourcing-clause-says : goal.returns-in-RecordNotSourcing-clause-says
returns-in-RecordNotSourcing-clause-says c = rw c.in-RecordNotSourcing.is (is_RecordNotSourcing c.kind_object.result c.kind_object.ensures)

pub returns-in-NamespaceNotDefined-clause-says : goal.returns-in-NamespaceNotDefined-clause-says
returns-in-NamespaceNotDefined-clause-says c = rw c.in-NamespaceNotDefined.is (is_NamespaceNotDefined c.text_object-in-NamespaceNotDefined.result c.in-NamespaceNotDefined.namespace c.text_object-in-NamespaceNotDefined.ensures)

pub returns-in-NamespaceImported-clause-says : goal.returns-in-NamespaceImported-clause-says
returns-in-NamespaceImported-clause-says c = rw c.in-NamespaceImported.is (is_NamespaceImported c.text_object-in-NamespaceImported.result c.in-NamespaceImported.namespace c.text_object-in-NamespaceImported.ensures)

pub returns-in-Unauthorized-clause-says : goal.returns-in-Unauthorized-clause-says
returns-in-Unauthorized-clause-says c = rw c.in-Unauthorized.is (is_Unauthorized c.text_object-in-Unauthorized.result c.in-Unauthorized.message c.text_object-in-Unauthorized.ensures)

pub returns-in-ConflictPendingPublish-clause-says : goal.returns-in-ConflictPendingPublish-clause-says
returns-in-ConflictPendingPublish-clause-says c = rw c.in-ConflictPendingPublish.is (subst (λ (id : List ℕ). IfOk c.hash_object-in-ConflictPendingPublish.result (λ v. service_error_in (view v) ≡ Ok (ConflictPendingPublish id))) c.hash-in-ConflictPendingPublish.ensures.value (is_ConflictPendingPublish c.hash_object-in-ConflictPendingPublish.result c.hash-in-ConflictPendingPublish.result.now c.hash_object-in-ConflictPendingPublish.ensures.object c.hash_object-in-ConflictPendingPublish.ensures.names))

pub returns-in-Rejection-clause-says : goal.returns-in-Rejection-clause-says
returns-in-Rejection-clause-says c = rw c.in-Rejection.is (is_Rejection c.text_object-in-Rejection.result c.in-Rejection.message c.text_object-in-Rejection.ensures)

pub returns-in-ContentDigestNotFound-clause-says : goal.returns-in-ContentDigestNotFound-clause-says
returns-in-ContentDigestNotFound-clause-says c = rw c.in-ContentDigestNotFound.is (is_ContentDigestNotFound c.hash_object-in-ContentDigestNotFound.result c.in-ContentDigestNotFound.digest c.hash_object-in-ContentDigestNotFound.ensures.object c.hash_object-in-ContentDigestNotFound.ensures.names)

pub returns-in-LeafNotFound-clause-says : goal.returns-in-LeafNotFound-clause-says
returns-in-LeafNotFound-clause-says c = rw c.in-LeafNotFound.is (is_LeafNotFound c.number_object-in-LeafNotFound.result c.in-LeafNotFound.index c.number_object-in-LeafNotFound.ensures)

pub returns-in-Message-clause-says : goal.returns-in-Message-clause-says
returns-in-Message-clause-says c = rw c.in-Message.is (is_Message c.text_object-in-Message.result c.in-Message.message c.text_object-in-Message.ensures)
