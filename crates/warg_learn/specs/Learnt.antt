-- What a learner learns.
use Rattle.std.specs.Prelude.{◌≡◌, ◌+◌, ℕ}
use Rattle.sha2.specs.Sha256.{sha256}
use Rattle.warg_api.specs.Link.{Asked}
use Rattle.warg_exchange.specs.Requests.{Asker}
use Rattle.warg_session.specs.Pages.{pages_asked}
use Rattle.warg_session.specs.Recording.{AreKept}
use Rattle.warg_store.specs.Held.{Registry}
use Rattle.warg_plan.specs.Walk.{Content, Stop}
use Rattle.warg_assemble.specs.Known.{Known}
use Rattle.warg_assemble.specs.Parts.{Load, Loaded, Part, Updated, exchanges_in, known_after, IsPart}
use Rattle.warg_assemble.specs.Session.{Serves}
use Rattle.warg_learn.specs.Seen.{Seen, IsKnown, IsSame, NeverFalls, ReadsStores}

-- how many pages of logs a part asked for
abbrev pub pages_of_part : (Registry → Asker) → Part → ℕ
pages_of_part asker (Updated u) = pages_asked (asker u.registry) u.exchanges
pages_of_part asker (Loaded l) = 0

-- a content has its digest, and is read so
pub record IsReadLoad (Reads : Content → Type 0) (l : Load) : Type 0 where
  pub digest : sha256 l.content.bytes ≡ l.digest
  pub reads : Reads l.content

-- of a part that is learnt, whatever stores tell: a content was read
abbrev pub IsReadPart : (Content → Type 0) → Part → Type 0
IsReadPart Reads (Updated u) = Unit {0}
IsReadPart Reads (Loaded l) = IsReadLoad Reads l

module _ {T D : Type 0} (Steps : T → Asked → T → Type 0) (Reads : Content → Type 0) where
  -- A part gives what was asked for, and is right by what is known; its exchanges were kept; and just what it teaches
  -- is known besides. The pages that were asked for are no longer left, and nobody was asked for a decision.
  pub record IsRight (old : Seen T D) (asked : Stop) (p : Part) (new : Seen T D) (known : Known) : Type 0 where
    pub serves : Serves known asked p
    pub is : IsPart old.accepts old.asker Reads known p
    pub kept : AreKept Steps old.transcript (exchanges_in p) new.transcript
    pub knows : IsKnown new (known_after known p)
    pub pages : new.pages_left + pages_of_part old.asker p ≡ old.pages_left
    pub undecided : new.decider ≡ old.decider

  -- A learner was asked for this, and has learnt it by this part. Stores that can be read still can, and a content was read.
  pub record IsLearnt (old : Seen T D) (asked : Stop) (p : Part) (new : Seen T D) : Type 0 where
    pub same : IsSame old new
    pub never_falls : NeverFalls old new
    pub reads : ReadsStores old → ReadsStores new
    pub content : IsReadPart Reads p
    pub right : (known : Known) → IsKnown old known → IsRight old asked p new known
