-- Why a search may find no plan, though no reply is at fault.
use Rattle.std.specs.Prelude.{◌≡◌, ◌<◌, ◌++◌, ◌∷◌, List, true}
use Rattle.comp_shape.specs.declared.error.ShapeError.{ShapeError}
use Rattle.comp_shape.specs.declared.error.ShapeError.TheVariants as shape
use Rattle.warg_values.specs.Faults.{Rose}
use Rattle.warg_request.specs.Asking.{CanAsk}
use Rattle.warg_api.specs.Link.{Asked}
use Rattle.warg_update.specs.declared.error.UpdateError.TheVariants as reply
use Rattle.warg_learn.specs.Pages.{pages_asked}
use Rattle.warg_learn.specs.UpdateRefusal.{UpdateRefusal}
use Rattle.warg_learn.specs.UpdateRefusal.TheVariants as update
use Rattle.warg_course.specs.Refusals.{IsUnanswered, IsOwnFault}
use Rattle.warg_store.specs.declared.error.StoreError.TheVariants as store
use Rattle.warg_plan.specs.Walk.{nothing_known}
use Rattle.warg_assemble.specs.Known.{Known}
use Rattle.warg_assemble.specs.Parts.{Load, Loaded, Part, Update, Updated, known_by, learnt}
use Rattle.warg_assemble.specs.Session.{Wanted}
use Rattle.warg_learn.specs.Fetched.{IsFetchFault}
use Rattle.warg_learn.specs.Kept.{IsStoresFault}
use Rattle.warg_learn.specs.FetchError.{FetchError}
use Rattle.warg_learn.specs.LoadError.{LoadError}
use Rattle.warg_learn.specs.LoadError.TheVariants as load
use Rattle.warg_learn.specs.Search.{AreLearnt}
use Rattle.warg_learn.specs.SearchError.{SearchError}
use Rattle.warg_learn.specs.SearchError.TheVariants as search
use Rattle.warg_learn.specs.Learnt.{IsLearnt}
use Rattle.warg_learn.specs.Seen.{Seen, registry_loads, name_loads}
use Rattle.warg_learn.specs.Unlearnt.{is_link_fault}
use Rattle.warg_learn.specs.declared.error.LearnError.{LearnError}
use Rattle.warg_learn.specs.declared.error.LearnError.TheVariants as error
use Rattle.warg_compose.specs.Read.{IsComponent}

module _ {T D : Type 0} (Steps : T → Asked → T → Type 0) (old new : Seen T D) (known : Known) where
  -- ---- an update

  -- An update of a package proves nothing, and no reply is at fault: the link gave none; more pages are in it than may
  -- be asked for; the registry's name or the token is no value of a header; or for want of memory, also where a reply
  -- is read.
  abbrev pub IsOwnUpdateRefusal : Update → UpdateRefusal → Type 0
  IsOwnUpdateRefusal u (update.SameLog id) = ⊥
  IsOwnUpdateRefusal u update.LinkFault = IsUnanswered Steps u.exchanges old.transcript.link new.transcript.link
  IsOwnUpdateRefusal u update.RoundLimit = old.pages_left < pages_asked (old.asker u.registry) u.exchanges
  IsOwnUpdateRefusal u update.BadHeader = CanAsk (old.asker u.registry) → ⊥
  IsOwnUpdateRefusal u (update.Reply e) = e ≡ reply.Memory
  IsOwnUpdateRefusal u update.Memory = Unit {0}

  -- A package is not fetched: the stores do not give what its update begins with, or do not keep the update; or the
  -- update's refusal is its own.
  abbrev pub IsOwnFetchFault : Update → FetchError → Type 0
  IsOwnFetchFault u e =
      IsFetchFault e
      (λ e. IsStoresFault old.accepts old.asker known u.name Steps old.transcript new.transcript e
      (registry_loads old new) (name_loads old new))
      (IsOwnUpdateRefusal u)

  -- ---- a content

  -- A content is not fetched: the store of contents failed, or the download's fault is its own. What is held has the
  -- digest, and so has what comes.
  abbrev pub IsOwnLoadFault : Load → LoadError → Type 0
  IsOwnLoadFault l (load.Store store.Failed) = Rose old.faults.contents new.faults.contents
  IsOwnLoadFault l (load.Store (store.Damaged kind)) = ⊥
  IsOwnLoadFault l (load.Store (store.IncorrectContent found expected)) = ⊥
  IsOwnLoadFault l (load.Store store.Memory) = Unit {0}
  IsOwnLoadFault l (load.Call e) =
      IsOwnFault e (old.asker l.registry) Steps l.exchanges old.transcript.link new.transcript.link
  IsOwnLoadFault l load.Memory = Unit {0}

  -- ---- a part

  -- A part is not learnt, and no reply is at fault. A content that comes is a component: it is not read for want of
  -- memory alone.
  abbrev pub IsOwnLearnFault : Part → LearnError ShapeError → Type 0
  IsOwnLearnFault (Updated u) (error.Fetch e) = IsOwnFetchFault u e
  IsOwnLearnFault (Updated u) (error.Load e) = ⊥
  IsOwnLearnFault (Updated u) (error.Content e) = ⊥
  IsOwnLearnFault (Updated u) error.Memory = Unit {0}
  IsOwnLearnFault (Loaded l) (error.Fetch e) = ⊥
  IsOwnLearnFault (Loaded l) (error.Load e) = IsOwnLoadFault l e
  IsOwnLearnFault (Loaded l) (error.Content e) = e ≡ shape.Memory
  IsOwnLearnFault (Loaded l) error.Memory = Unit {0}

module _ {T D : Type 0} (Steps : T → Asked → T → Type 0) (w : Wanted) (known : Known) (parts : List Part)
    (old new : Seen T D) where
  -- The first parts of a session were learnt, and the next is not, though no reply is at fault. A fault of the link is
  -- counted.
  pub record IsOwnUnlearnt (e : LearnError ShapeError) : Type 0 where
    pub done : List Part
    pub next : Part
    pub rest : List Part
    pub in_turn : parts ≡ done ++ next ∷ rest
    pub before : Seen T D
    pub are : AreLearnt learnt w (IsLearnt Steps IsComponent) nothing_known old done before
    pub fault : IsOwnLearnFault Steps before new (known_by known done) next e
    pub counted : is_link_fault e ≡ true → Rose before.faults.link new.faults.link

  -- Why a search of a session's plan finds none, though no reply is at fault: the next part is not learnt. Want of
  -- memory tells nothing.
  abbrev pub IsOwnSearchRefusal : SearchError (LearnError ShapeError) → Type 0
  IsOwnSearchRefusal (search.NoPlan stop) = ⊥
  IsOwnSearchRefusal (search.Refused e) = IsOwnUnlearnt e
  IsOwnSearchRefusal search.Memory = Unit {0}
