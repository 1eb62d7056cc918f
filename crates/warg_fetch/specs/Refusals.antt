-- How a fetch tells the errors of its parts.
use Rattle.std.specs.Prelude.{if◌then◌else◌, Bool, true, false}
use Rattle.warg_api.specs.declared.error.ClientError.{ClientError}
use Rattle.warg_api.specs.declared.error.ClientError.TheVariants as call
use Rattle.warg_session.specs.declared.error.UpdateRefusal.{UpdateRefusal}
use Rattle.warg_session.specs.declared.error.UpdateRefusal.TheVariants as update
use Rattle.warg_store.specs.declared.error.StoreError.{StoreError}
use Rattle.warg_store.specs.declared.error.StoreError.TheVariants as store
use Rattle.warg_fetch.specs.declared.error.FetchError.{FetchError}
use Rattle.warg_fetch.specs.declared.error.FetchError.TheVariants as error
use Rattle.warg_fetch.specs.declared.error.LoadError.{LoadError}
use Rattle.warg_fetch.specs.declared.error.LoadError.TheVariants as load

-- ---- want of memory

abbrev pub store_wants_memory : StoreError → Bool
store_wants_memory store.Memory = true
store_wants_memory _ = false

abbrev pub update_wants_memory : UpdateRefusal → Bool
update_wants_memory update.Memory = true
update_wants_memory _ = false

abbrev pub call_wants_memory : ClientError → Bool
call_wants_memory call.Memory = true
call_wants_memory _ = false

-- ---- of an update

-- that a store refuses
abbrev pub store_refusal : StoreError → FetchError
store_refusal e = if store_wants_memory e then error.Memory else error.Store e

-- that an update proves nothing
abbrev pub update_refusal : UpdateRefusal → FetchError
update_refusal e = if update_wants_memory e then error.Memory else error.Update e

-- ---- of a content

-- that the store refuses
abbrev pub content_refusal : StoreError → LoadError
content_refusal e = if store_wants_memory e then load.Memory else load.Store e

-- that a call of the registry gives nothing
abbrev pub call_refusal : ClientError → LoadError
call_refusal e = if call_wants_memory e then load.Memory else load.Call e
