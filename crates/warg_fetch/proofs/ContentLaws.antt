-- The content of a digest that is kept, and why one that is not is not fetched.
use Rattle.std.proofs.Common.{◌≡◌, ℕ, ◌≤◌, Bool, true, false, List, [], Option, Some, None, IfSome, refl, sym, subst, ◌∙◌, inr}
use Rattle.std.specs.Prelude.{if◌then◌else◌}
use Rattle.warg_exchange.specs.Requests.{Asker}
use Rattle.warg_api.specs.Download.{IsDownloadFault}
use Rattle.warg_api.specs.Link.{Asked}
use Rattle.warg_api.specs.declared.error.ClientError.{ClientError}
use Rattle.warg_session.specs.Recording.{Transcript, IsRecorded}
use Rattle.warg_session.specs.RecordingLaws.{none_kept}
use Rattle.warg_store.specs.Contents.{Contents, IsStoreContentFault}
use Rattle.warg_store.specs.declared.error.StoreError.{StoreError}
use Rattle.warg_store.specs.declared.error.StoreError.TheVariants as store
use Rattle.warg_assemble.specs.Known.{Known}
use Rattle.warg_assemble.specs.Parts.{Comes}
use Rattle.warg_fetch.specs.Loaded.{IsContentFetched, IsDownloadCause, IsLoadRefusal, IsStoreCause}
use Rattle.warg_fetch.specs.Refusals.{call_refusal, call_wants_memory}
use Rattle.warg_fetch.specs.Stored.{KnowsContents}
use Rattle.warg_fetch.specs.declared.error.LoadError.{LoadError}
use Rattle.warg_fetch.specs.declared.error.LoadError.TheVariants as error
use Rattle.warg_fetch.specs.StoredLaws.{if_some, rose_before}

-- a store that is refused later is refused since before
later_unstored : (e : StoreError) (bytes : List ℕ) (wanted : Option (List ℕ)) (a b c : ℕ) → a ≤ b → IsStoreContentFault e bytes wanted b c → IsStoreContentFault e bytes wanted a c
later_unstored store.Failed bytes wanted a b c le h = rose_before a b c le h
later_unstored (store.Damaged kind) bytes wanted a b c le h = h
later_unstored (store.IncorrectContent found expected) bytes wanted a b c le h = h
later_unstored store.Memory bytes wanted a b c le h = h

module _ {T : Type 0} (a : Asker) (digest : List ℕ) (Steps : T → Asked → T → Type 0) where
  -- bytes that are kept are fetched, and nothing is asked
  pub kept_fetched : (now : Transcript T) (told : Option Contents) (known : Known) (bytes : List ℕ) → KnowsContents told known → IfSome told (λ held. held digest ≡ Some bytes) → IsContentFetched a digest Steps now now known bytes
  kept_fetched now told known bytes k found =
      let is : known.contents digest ≡ Some bytes = sym (k.contents digest) ∙ if_some (λ held. held digest ≡ Some bytes) told k.held k.tells found in
      record {
        exchanges = [];
        kept = none_kept Steps now;
        comes = subst (λ o. Comes a o digest [] bytes) (sym is) (refl, refl);
      }

  module _ (begun now : Transcript T) where
    -- where no reply was lost, a download gives nothing for its own reason, or for want of memory
    pub undownloaded : (e : ClientError) → now.is_whole ≡ true → IsDownloadFault a digest e (IsRecorded Steps) begun now → IsDownloadCause a digest Steps begun now (call_refusal e)
    undownloaded e whole fault = by (call_wants_memory e)
      where
        by : (b : Bool) → IsDownloadCause a digest Steps begun now (if b then error.Memory else error.Call e)
        by true = record {}
        by false = record { whole = whole; fault = fault }

    -- bytes that are not kept are not fetched for a reason of the download, or of the store that was to keep them
    pub load_refused : (e : LoadError) (x y z : ℕ) (told : Option Contents) → x ≤ y → IfSome told (λ held. held digest ≡ None) → IsStoreCause a digest Steps begun now e y z
        → IsLoadRefusal a digest Steps begun now e (record { before = x; after = z; told = told })
    load_refused (error.Store e) x y z told le missing h =
        inr (missing, record { bytes = h.bytes; downloaded = h.downloaded; fault = later_unstored e h.bytes (Some digest) x y z le h.fault })
    load_refused (error.Call e) x y z told le missing h = (missing, h)
    load_refused error.Memory x y z told le missing h = record {}
