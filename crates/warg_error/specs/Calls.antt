-- How a client tells the errors of URLs, of stores and of calls of a registry.
use Rattle.warg_api.specs.declared.error.ClientError.{ClientError as CallError}
use Rattle.warg_api.specs.declared.error.ClientError.TheVariants as call
use Rattle.warg_api.specs.declared.error.Other.{Other as CallOther}
use Rattle.warg_api.specs.declared.error.Other.TheVariants as call_other
use Rattle.warg_exchange.specs.declared.service.ContentError.{ContentError}
use Rattle.warg_exchange.specs.declared.service.ServiceError.{ServiceError}
use Rattle.warg_exchange.specs.declared.service.ServiceError.TheVariants as service
use Rattle.warg_learn.specs.LoadError.{LoadError}
use Rattle.warg_learn.specs.LoadError.TheVariants as load
use Rattle.warg_store.specs.declared.error.StoreError.{StoreError}
use Rattle.warg_store.specs.declared.error.StoreError.TheVariants as store
use Rattle.warg_url.specs.declared.error.UrlError.{UrlError}
use Rattle.warg_url.specs.declared.error.UrlError.TheVariants as url
use Rattle.warg_error.specs.declared.error.Other.TheVariants as other
use Rattle.warg_error.specs.declared.error.ClientError.{ClientError}
use Rattle.warg_error.specs.declared.error.ClientError.TheVariants as error

-- that a text is no URL of a registry
abbrev pub url_refusal : UrlError → ClientError
url_refusal url.Memory = error.Memory
url_refusal e = error.Other (other.BadUrl e)

-- that a store refuses
abbrev pub store_refusal : StoreError → ClientError
store_refusal store.Failed = error.StoreFault
store_refusal (store.Damaged kind) = error.Damaged kind
store_refusal (store.IncorrectContent digest expected) = error.IncorrectContent digest expected
store_refusal store.Memory = error.Memory

abbrev pub other_refusal : CallOther → ClientError
other_refusal call_other.BadHeader = error.Other other.BadHeader
other_refusal call_other.BadUrl = error.Api (call.Other call_other.BadUrl)

-- that the registry refuses a request for the sources of a content
abbrev pub sources_refusal : ServiceError → ClientError
sources_refusal (service.ContentDigestNotFound digest) = error.ContentNotFound digest
sources_refusal e = error.Api (call.Content (record { error = e }))

abbrev pub content_refusal : ContentError → ClientError
content_refusal refused = sources_refusal refused.error

-- that a call of a registry gives nothing
abbrev pub call_refusal : CallError → ClientError
call_refusal call.LinkFault = error.LinkFault
call_refusal (call.Content refused) = content_refusal refused
call_refusal (call.Other e) = other_refusal e
call_refusal call.Memory = error.Memory
call_refusal e = error.Api e

-- that a content is not fetched
abbrev pub load_refusal : LoadError → ClientError
load_refusal (load.Store e) = store_refusal e
load_refusal (load.Call e) = call_refusal e
load_refusal load.Memory = error.Memory
