-- What clauses see of values that hold maps: the maps' entries.
use Rattle.std.specs.Prelude.{ℕ, List, map, Bool, Option}
use Rattle.warg_exchange.specs.declared.logs.PublishedRecord.{PublishedRecord}
use Rattle.warg_exchange.specs.declared.logs.FetchLogsResponse.{FetchLogsResponse}
use Rattle.warg_exchange.specs.declared.names.FetchPackageNamesResponse.{FetchPackageNamesResponse}
use Rattle.warg_exchange.specs.declared.content.ContentSource.{ContentSource}
use Rattle.warg_exchange.specs.declared.content.ContentSourcesResponse.{ContentSourcesResponse}
use Rattle.warg_exchange.specs.declared.package.UploadEndpoint.{UploadEndpoint}
use Rattle.warg_exchange.specs.declared.package.UploadEndpoint.TheVariants.{Http}
use Rattle.warg_exchange.specs.declared.package.MissingContent.{MissingContent}
use Rattle.warg_exchange.specs.declared.package.PackageRecord.{PackageRecord}
use Rattle.warg_exchange.specs.declared.package.PackageRecordState.{PackageRecordState}

-- a page of logs: whether more is to come, the operator's records, and those of packages by log id
pub record Page : Type 0 where
  pub more : Bool
  pub operator : List PublishedRecord
  pub packages : List (List ℕ × List PublishedRecord)

abbrev pub page_view : FetchLogsResponse → Page
page_view r = record { more = r.more; operator = r.operator; packages = r.packages.entries }

-- names by log id
abbrev pub Names : Type 0
Names = List (List ℕ × Option (List ℕ))

abbrev pub names_view : FetchPackageNamesResponse → Names
names_view r = r.packages.entries

-- sources by the digest of their content
abbrev pub Sources : Type 0
Sources = List (List ℕ × List ContentSource)

abbrev pub sources_view : ContentSourcesResponse → Sources
sources_view r = r.content_sources.entries

-- a place for an upload: the request's method, the text of its URL, and its headers
pub record Endpoint : Type 0 where
  pub method : List ℕ
  pub url : List ℕ
  pub headers : List (List ℕ × List ℕ)

abbrev pub endpoint_view : UploadEndpoint → Endpoint
endpoint_view (Http method url headers) = record { method = method; url = url; headers = headers.entries }

abbrev pub missing_view : MissingContent → List Endpoint
missing_view m = map endpoint_view m.upload

-- a record in publishing: its id, how far it is, why it was refused, and where each missing content is to be sent
pub record Publishing : Type 0 where
  pub record_id : List ℕ
  pub state : PackageRecordState
  pub reason : Option (List ℕ)
  pub missing : List (List ℕ × List Endpoint)

abbrev pub publishing_view : PackageRecord → Publishing
publishing_view r = record {
  record_id = r.record_id;
  state = r.state;
  reason = r.reason;
  missing = map (λ m. (m.0, missing_view m.1)) r.missing_content.entries;
}
