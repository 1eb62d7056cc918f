-- How calls tell what registries answer in place of what was asked.
use Rattle.std.specs.Prelude.{codes, Option, Some, None}
use Rattle.http_header.specs.FieldValue.{FieldValue}
use Rattle.warg_exchange.specs.declared.exchange.Reply.{Reply}
use Rattle.warg_exchange.specs.declared.service.ServiceError.{ServiceError}
use Rattle.warg_exchange.specs.declared.service.ServiceError.TheVariants.{CheckpointNotFound, LogNotFound, FetchTokenNotFound, RecordNotFound, RecordNotSourcing, NamespaceNotDefined, NamespaceImported, Unauthorized, ConflictPendingPublish, Rejection, ContentDigestNotFound, LeafNotFound, Message}
use Rattle.warg_exchange.specs.Replies.{first_header}
use Rattle.warg_proof.specs.declared.fault.ProofFault.{ProofFault}
use Rattle.warg_proof.specs.declared.fault.ProofFault.TheVariants.{Form, WrongCount, WrongLeaf, WrongLength, MissingHash, OtherRoot, Memory}
use Rattle.warg_api.specs.declared.error.ClientError.{ClientError}
use Rattle.warg_api.specs.declared.error.ClientError.TheVariants as error
use Rattle.warg_api.specs.declared.error.Other.TheVariants as other
use Rattle.warg_api.specs.declared.error.ProofError.TheVariants as proof
use Rattle.warg_url.specs.declared.error.UrlError.{UrlError}
use Rattle.warg_url.specs.declared.error.UrlError.TheVariants as url

-- of a text that is to be a URL
abbrev pub url_error : UrlError → ClientError
url_error url.Memory = error.Memory
url_error url.NotUrl = error.Other other.BadUrl
url_error url.NotHttps = error.Other other.BadUrl
url_error url.Insecure = error.Other other.BadUrl

-- by which service was asked
abbrev pub fetch_error : Reply → ServiceError → ClientError
fetch_error reply x = error.Fetch (record { error = x })

abbrev pub package_error : Reply → ServiceError → ClientError
package_error reply x = error.Package (record { error = x })

abbrev pub content_error : Reply → ServiceError → ClientError
content_error reply x = error.Content (record { error = x })

abbrev pub monitor_error : Reply → ServiceError → ClientError
monitor_error reply x = error.Monitor (record { error = x })

abbrev pub ledger_error : Reply → ServiceError → ClientError
ledger_error reply x = error.Ledger (record { error = x })

abbrev pub proof_error : Reply → ServiceError → ClientError
proof_error reply x = error.Proof (proof.Service x)

-- where a log was not found, and the registry tells of another one
abbrev pub hinted_error : ServiceError → FieldValue → ClientError
hinted_error (LogNotFound id) hint = error.LogNotFoundWithHint id hint
hinted_error (CheckpointNotFound n) hint = error.Fetch (record { error = CheckpointNotFound n })
hinted_error (FetchTokenNotFound t) hint = error.Fetch (record { error = FetchTokenNotFound t })
hinted_error (RecordNotFound id) hint = error.Fetch (record { error = RecordNotFound id })
hinted_error RecordNotSourcing hint = error.Fetch (record { error = RecordNotSourcing })
hinted_error (NamespaceNotDefined t) hint = error.Fetch (record { error = NamespaceNotDefined t })
hinted_error (NamespaceImported t) hint = error.Fetch (record { error = NamespaceImported t })
hinted_error (Unauthorized t) hint = error.Fetch (record { error = Unauthorized t })
hinted_error (ConflictPendingPublish id) hint = error.Fetch (record { error = ConflictPendingPublish id })
hinted_error (Rejection t) hint = error.Fetch (record { error = Rejection t })
hinted_error (ContentDigestNotFound h) hint = error.Fetch (record { error = ContentDigestNotFound h })
hinted_error (LeafNotFound n) hint = error.Fetch (record { error = LeafNotFound n })
hinted_error (Message t) hint = error.Fetch (record { error = Message t })

abbrev pub error_with_hint : ServiceError → Option FieldValue → ClientError
error_with_hint x (Some hint) = hinted_error x hint
error_with_hint x None = error.Fetch (record { error = x })

-- of a request for logs, by the reply's first hint
abbrev pub logs_error : Reply → ServiceError → ClientError
logs_error reply x = error_with_hint x (first_header (codes "warg-registry-hint") reply)

-- by what is wrong with bundles that are to show inclusion
abbrev pub inclusion_error : ProofFault → ClientError
inclusion_error Form = error.Proof (proof.BundleFailure Form)
inclusion_error WrongCount = error.Proof (proof.BundleFailure WrongCount)
inclusion_error (OtherRoot root found) = error.Proof (proof.IncorrectProof root found)
inclusion_error WrongLeaf = error.InclusionProof WrongLeaf
inclusion_error WrongLength = error.InclusionProof WrongLength
inclusion_error MissingHash = error.InclusionProof MissingHash
inclusion_error Memory = error.Memory

-- by what is wrong with a bundle that is to show consistency
abbrev pub consistency_error : ProofFault → ClientError
consistency_error Form = error.Proof (proof.BundleFailure Form)
consistency_error WrongCount = error.Proof (proof.BundleFailure WrongCount)
consistency_error (OtherRoot root found) = error.IncorrectConsistencyProof root found
consistency_error WrongLeaf = error.ConsistencyProof WrongLeaf
consistency_error WrongLength = error.ConsistencyProof WrongLength
consistency_error MissingHash = error.ConsistencyProof MissingHash
consistency_error Memory = error.Memory
