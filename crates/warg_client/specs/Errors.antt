-- Which parts of a client an error is of.
use Rattle.std.specs.Prelude.{◌≡◌}
use Rattle.warg_store.specs.declared.error.StoreError.{StoreError}
use Rattle.warg_complete.specs.Calls.{store_refusal}
use Rattle.warg_complete.specs.ClientError.{ClientError}

-- an error is one of the stores', for which this is the reason
pub record IsOfStore (e : ClientError) (Refuses : StoreError → Type 0) : Type 0 where
  pub refusal : StoreError
  pub told : e ≡ store_refusal refusal
  pub refuses : Refuses refusal
