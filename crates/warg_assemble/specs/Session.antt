-- The session of a plan: its parts in turn, each of which is what the walk asks for next; and the plan over the logs
-- that the exchanges of a session prove.
use Rattle.std.specs.Prelude.{◌≡◌, ◌≢◌, ℕ, List, [], ◌∷◌, Some, Result, Err}
use Rattle.std.specs.List.{flat_map}
use Rattle.sha2.specs.Sha256.{sha256}
use Rattle.warg_log.specs.Rules.{Accepts}
use Rattle.warg_exchange.specs.declared.exchange.Exchange.{Exchange}
use Rattle.warg_exchange.specs.Requests.{Asker}
use Rattle.warg_info.specs.Kept.{Kept}
use Rattle.warg_store.specs.Held.{Registry}
use Rattle.compose_config.specs.Plan.{Settings}
use Rattle.warg_plan.specs.Keys.{Key, Release}
use Rattle.warg_plan.specs.Walk.{Content, Facts, log_in, content_in, Stop, NeedsLog, NeedsContent, Entry, node_of, walk}
use Rattle.warg_plan.specs.Plan.{IsPlan}
use Rattle.warg_assemble.specs.Known.{Known, registry_of}
use Rattle.warg_assemble.specs.Parts.{Part, Updated, Loaded, known_after, learnt, updated_under, releases_in, IsPart, HasLog}

-- what a plan is made of: the settings of its text, the key at which it begins, and how many keys may be open at one
-- place
pub record Wanted : Type 0 where
  pub settings : Settings
  pub root : Key
  pub depth : ℕ

-- what the walk answers over what is known
abbrev pub walked : Wanted → Facts → Result (List Entry) Stop
walked w f = walk (node_of w.settings f) w.depth w.root

-- a part gives what a stop asks for: the package's log, by an update under the registry that has the package; or the
-- content, under the registry of the package's update
abbrev pub Serves : Known → Stop → Part → Type 0
Serves known (NeedsLog name) (Updated u) = (u.name ≡ name) × (u.registry ≡ registry_of known name)
Serves known (NeedsContent name digest) (Loaded l) = (l.digest ≡ digest) × (updated_under known name ≡ Some l.registry)
Serves known _ _ = ⊥

-- the walk stops, and the part gives what it asks for
pub record IsWanted (w : Wanted) (known : Known) (f : Facts) (p : Part) : Type 0 where
  pub stop : Stop
  pub stops : walked w f ≡ Err stop
  pub serves : Serves known stop p

-- ---- each package once

-- the packages that parts update, in turn
abbrev pub updated_by : Part → List (List ℕ)
updated_by (Updated u) = u.name ∷ []
updated_by (Loaded l) = []

abbrev pub IsNone : List ℕ → List (List ℕ) → Type 0
IsNone name [] = Unit {0}
IsNone name (n ∷ ns) = (name ≢ n) × IsNone name ns

abbrev pub AreDistinct : List (List ℕ) → Type 0
AreDistinct [] = Unit {0}
AreDistinct (n ∷ ns) = IsNone n ns × AreDistinct ns

-- each package is updated once
abbrev pub AreOnce : List Part → Type 0
AreOnce ps = AreDistinct (flat_map updated_by ps)

module _ (accepts : Accepts) (asker : Registry → Asker) (Reads : Content → Type 0) where
  -- The walk asks for each part in turn, and each is right.
  unfoldable pub IsSession : Wanted → Known → Facts → List Part → Type 0
  IsSession w known f [] = Unit {0}
  IsSession w known f (p ∷ ps) =
      IsWanted w known f p × IsPart accepts asker Reads known p × IsSession w (known_after known p) (learnt f p) ps

  -- ---- the plan

  -- the releases are those of a log that the exchanges prove of a package
  pub record AreProved (known : Known) (xs : List Exchange) (name : List ℕ) (releases : List Release) : Type 0 where
    pub log : List Kept
    pub are : releases ≡ releases_in log
    pub has : HasLog accepts asker Reads known xs name log

  -- a content has this digest, and is read so
  pub record IsRead (digest : List ℕ) (c : Content) : Type 0 where
    pub digest_is : sha256 c.bytes ≡ digest
    pub reads : Reads c

  -- what is known is what the exchanges prove, and contents with their digests
  pub record AreFacts (known : Known) (xs : List Exchange) (f : Facts) : Type 0 where
    pub logs : (name : List ℕ) (releases : List Release) → log_in f name ≡ Some releases
        → AreProved known xs name releases
    pub contents : (digest : List ℕ) (c : Content) → content_in f digest ≡ Some c → IsRead digest c

  -- a plan over the logs that packages have by what is known and by these exchanges
  pub record IsPlanOf (known : Known) (xs : List Exchange) (w : Wanted) (es : List Entry) : Type 0 where
    pub facts : Facts
    pub proved : AreFacts known xs facts
    pub plan : IsPlan w.settings facts w.root es
