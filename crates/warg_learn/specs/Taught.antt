-- What the update of a package teaches a learner, before it is noted. Only the crate's private clauses cite it.
use Rattle.std.specs.Prelude.{◌≡◌, ℕ, List}
use Rattle.warg_exchange.specs.declared.exchange.Exchange.{Exchange}
use Rattle.warg_api.specs.Link.{Asked}
use Rattle.warg_info.specs.Info.{IsSoundPackage}
use Rattle.warg_session.specs.Updating.{LeavesPages}
use Rattle.warg_plan.specs.Walk.{NeedsLog}
use Rattle.warg_assemble.specs.Known.{Known, registry_of}
use Rattle.warg_assemble.specs.Parts.{Updated, known_after}
use Rattle.warg_fetch.specs.declared.package.PackageUpdate.{PackageUpdate}
use Rattle.warg_fetch.specs.Fetched.{IsFetched, update_of}
use Rattle.warg_fetch.specs.Stored.{IsOwnStore, IsReadable, Knows}
use Rattle.warg_learn.specs.Seen.{Seen, IsSame, NeverFalls}
use Rattle.warg_learn.specs.Unlearnt.{IsLogBegun}

-- for all that the stores of a learner know
abbrev pub ForKnown : {T D : Type 0} → Seen T D → (Known → Type 0) → Type 0
ForKnown s P = (known : Known) → Knows s.accepts s.registries s.names known → P known

module _ {T D : Type 0} (Steps : T → Asked → T → Type 0) (old new : Seen T D) (name : List ℕ) where
  -- The exchanges are those of an update, and the store is the client's own still. Contents and names are as they were.
  pub record IsUnderWay : Type 0 where
    pub same : IsSame old new
    pub never_falls : NeverFalls old new
    pub contents : new.contents ≡ old.contents
    pub names : new.names ≡ old.names
    pub own : ForKnown old (λ known. IsOwnStore old.accepts new.registries)
    pub begun : ForKnown old (λ known. IsLogBegun Steps old new known (NeedsLog name))

  -- This update was fetched, and just what it teaches is known besides. The pages that it asked for are no longer left,
  -- nobody was asked for a decision, and stores that can be read still can.
  pub record IsTaught (got : PackageUpdate) : Type 0 where
    pub way : IsUnderWay
    pub named : ForKnown old (λ known. got.info.name ≡ name)
    pub fetched : ForKnown old (λ known. (xs : List Exchange)
        × IsFetched old.accepts old.asker known Steps old.transcript new.transcript (update_of got xs))
    pub knows : ForKnown old (λ known. (xs : List Exchange)
        → Knows old.accepts new.registries new.names (known_after known (Updated (update_of got xs))))
    pub pages : ForKnown old (λ known. LeavesPages (old.asker (registry_of known name)) old.transcript new.transcript
        old.pages_left got.pages_left)
    pub undecided : ForKnown old (λ known. new.decider ≡ old.decider)
    pub reads : IsReadable old.registries → IsReadable new.registries
    pub sound : IsSoundPackage got.info
