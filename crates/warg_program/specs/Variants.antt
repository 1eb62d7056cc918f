-- The errors of a client, by the names of their variants.
use Rattle.std.specs.Prelude.{ℕ, List, codes}
use Rattle.warg_api.specs.declared.error.ClientError.{ClientError as CallError}
use Rattle.warg_api.specs.declared.error.ClientError.TheVariants as call
use Rattle.warg_replay.specs.ClientError.{ClientError}
use Rattle.warg_replay.specs.ClientError.TheVariants as error
use Rattle.warg_replay.specs.Other.{Other}
use Rattle.warg_replay.specs.Other.TheVariants as other

-- an error of a registry's reply
abbrev pub call_variant : CallError → List ℕ
call_variant (call.Fetch e) = codes "Api/Fetch"
call_variant (call.Package e) = codes "Api/Package"
call_variant (call.Content e) = codes "Api/Content"
call_variant (call.Proof e) = codes "Api/Proof"
call_variant (call.Monitor e) = codes "Api/Monitor"
call_variant (call.Ledger e) = codes "Api/Ledger"
call_variant (call.InclusionProof fault) = codes "Api/InclusionProof"
call_variant (call.ConsistencyProof fault) = codes "Api/ConsistencyProof"
call_variant (call.IncorrectConsistencyProof root found) = codes "Api/IncorrectConsistencyProof"
call_variant call.LinkFault = codes "Api/LinkFault"
call_variant (call.UnexpectedResponse status message) = codes "Api/UnexpectedResponse"
call_variant (call.Hash text) = codes "Api/Hash"
call_variant (call.AllSourcesFailed digest) = codes "Api/AllSourcesFailed"
call_variant (call.InvalidHttpMethod method) = codes "Api/InvalidHttpMethod"
call_variant (call.InvalidHttpHeader name value) = codes "Api/InvalidHttpHeader"
call_variant (call.InvalidWellKnownConfig label) = codes "Api/InvalidWellKnownConfig"
call_variant (call.LogNotFoundWithHint log hint) = codes "Api/LogNotFoundWithHint"
call_variant (call.Other e) = codes "Api/Other"
call_variant call.Memory = codes "Api/Memory"

-- an error of a text
abbrev pub other_variant : Other → List ℕ
other_variant (other.UnknownLog log) = codes "Other/UnknownLog"
other_variant other.BadEnvelope = codes "Other/BadEnvelope"
other_variant other.BadHeader = codes "Other/BadHeader"
other_variant (other.BadUrl e) = codes "Other/BadUrl"

abbrev pub variant : ClientError → List ℕ
variant (error.Api e) = call_variant e
variant (error.Other e) = other_variant e
variant (error.BadPlan fault) = codes "BadPlan"
variant (error.BadComponent e) = codes "BadComponent"
variant (error.BadImportName name) = codes "BadImportName"
variant (error.DependencyCycle key) = codes "DependencyCycle"
variant (error.ImportsDisallowed name) = codes "ImportsDisallowed"
variant (error.Incompatible why) = codes "Incompatible"
variant error.NotBuilt = codes "NotBuilt"
variant (error.PackageDoesNotExist name) = codes "PackageDoesNotExist"
variant (error.PackageVersionRequirementDoesNotExist name) = codes "PackageVersionRequirementDoesNotExist"
variant (error.PackageValidationFailed name inner) = codes "PackageValidationFailed"
variant (error.OperatorValidationFailed inner) = codes "OperatorValidationFailed"
variant (error.PackageLogEmpty name) = codes "PackageLogEmpty"
variant error.NoOperatorRecords = codes "NoOperatorRecords"
variant (error.InvalidCheckpointKeyId key) = codes "InvalidCheckpointKeyId"
variant error.InvalidCheckpointSignature = codes "InvalidCheckpointSignature"
variant (error.CheckpointLogLengthRewind from to) = codes "CheckpointLogLengthRewind"
variant (error.CheckpointChangedLogRootOrMapRoot length) = codes "CheckpointChangedLogRootOrMapRoot"
variant (error.ContentNotFound digest) = codes "ContentNotFound"
variant (error.IncorrectContent digest expected) = codes "IncorrectContent"
variant error.RoundLimit = codes "RoundLimit"
variant (error.TooLarge number) = codes "TooLarge"
variant (error.Damaged kind) = codes "Damaged"
variant error.LinkFault = codes "LinkFault"
variant error.StoreFault = codes "StoreFault"
variant error.Memory = codes "Memory"
