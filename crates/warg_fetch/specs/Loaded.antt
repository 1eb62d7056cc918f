-- What the fetch of a content gives, what it leaves in the store, and why it gives nothing.
use Rattle.std.specs.Prelude.{◌≡◌, ◌⊎◌, ℕ, true, List, Option, Some, None, option_map, IfSome}
use Rattle.warg_exchange.specs.declared.exchange.Exchange.{Exchange}
use Rattle.warg_exchange.specs.Requests.{Asker}
use Rattle.warg_api.specs.Download.{Downloads, IsDownloadFault}
use Rattle.warg_api.specs.Link.{Asked}
use Rattle.warg_api.specs.declared.error.ClientError.{ClientError}
use Rattle.warg_session.specs.Recording.{Transcript, IsRecorded, AreKept}
use Rattle.warg_store.specs.declared.error.StoreError.{StoreError}
use Rattle.warg_store.specs.Contents.{Contents, TellsContents, LeavesContent, IsContentFault, IsStoreContentFault, with_content}
use Rattle.warg_assemble.specs.Known.{Known}
use Rattle.warg_assemble.specs.Parts.{Comes}
use Rattle.warg_fetch.specs.Fetched.{Loads}
use Rattle.warg_fetch.specs.declared.error.LoadError.{LoadError}
use Rattle.warg_fetch.specs.declared.error.LoadError.TheVariants as error

-- what is known with the bytes of a content
abbrev pub with_bytes : Known → List ℕ → List ℕ → Known
with_bytes known digest bytes = record known { contents = with_content known.contents digest bytes }

module _ {T : Type 0} (a : Asker) (digest : List ℕ) (Steps : T → Asked → T → Type 0) (begun now : Transcript T) where
  -- the bytes are known, and nothing was asked; or they are not, and the exchanges that were kept get them
  pub record IsContentFetched (known : Known) (bytes : List ℕ) : Type 0 where
    pub exchanges : List Exchange
    pub kept : AreKept Steps begun exchanges now
    pub comes : Comes a (known.contents digest) digest exchanges bytes

  -- the exchanges that were kept get these bytes
  pub record IsDownloaded (bytes : List ℕ) : Type 0 where
    pub exchanges : List Exchange
    pub kept : AreKept Steps begun exchanges now
    pub gets : Downloads a digest exchanges bytes

  -- a store of bytes that were downloaded is refused
  pub record IsUnstored (e : StoreError) (before after : ℕ) : Type 0 where
    pub bytes : List ℕ
    pub downloaded : IsDownloaded bytes
    pub fault : IsStoreContentFault e bytes (Some digest) before after

  -- no reply was lost, and a download gives nothing
  pub record IsUndownloaded (e : ClientError) : Type 0 where
    pub whole : now.is_whole ≡ true
    pub fault : IsDownloadFault a digest e (IsRecorded Steps) begun now

  -- why a download gives nothing
  abbrev pub IsDownloadCause : LoadError → Type 0
  IsDownloadCause (error.Store e) = ⊥
  IsDownloadCause (error.Call e) = IsUndownloaded e
  IsDownloadCause error.Memory = Unit {0}

  -- why a content is not downloaded and kept
  abbrev pub IsStoreCause : LoadError → ℕ → ℕ → Type 0
  IsStoreCause (error.Store e) before after = IsUnstored e before after
  IsStoreCause (error.Call e) before after = IsUndownloaded e
  IsStoreCause error.Memory before after = Unit {0}

  -- why a content is not fetched: the store does not give it; or it is not held, and the store does not keep it, or the
  -- download gives nothing. Want of memory says nothing
  abbrev pub IsLoadRefusal : LoadError → Loads Contents → Type 0
  IsLoadRefusal (error.Store e) contents =
      IsContentFault e digest contents.before contents.after
      (option_map (λ (held : Contents). held digest) contents.told)
      ⊎ (IfSome contents.told (λ held. held digest ≡ None) × IsUnstored e contents.before contents.after)
  IsLoadRefusal (error.Call e) contents = IfSome contents.told (λ held. held digest ≡ None) × IsUndownloaded e
  IsLoadRefusal error.Memory contents = Unit {0}

  -- bytes that were downloaded, or a front of them, are held besides
  pub record LeavesDownload (told : Option Contents) (held : Contents) : Type 0 where
    pub bytes : List ℕ
    pub downloaded : IsDownloaded bytes
    pub leaves : LeavesContent told held bytes

  -- what a refused fetch leaves
  abbrev pub LeavesFetch : Option Contents → Contents → Type 0
  LeavesFetch told held = TellsContents told held ⊎ LeavesDownload told held
