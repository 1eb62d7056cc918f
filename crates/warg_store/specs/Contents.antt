-- Contents that a store holds.
use Rattle.std.specs.Prelude.{◌≡◌, ◌≢◌, ◌⊎◌, ◌-◌, ℕ, if◌then◌else◌, List, length, take, bytes_eq, Option, Some, None, IfSome}
use Rattle.sha2.specs.Sha256.{sha256}
use Rattle.warg_values.specs.Faults.{Rose}
use Rattle.warg_store.specs.declared.after.After.{After}
use Rattle.warg_store.specs.declared.after.After.TheVariants as after
use Rattle.warg_store.specs.declared.error.StoreError.{StoreError}
use Rattle.warg_store.specs.declared.error.StoreError.TheVariants as error

-- the bytes that are held for a digest: a content is whole where the digest is that of its bytes
abbrev pub Contents : Type 0
Contents = List ℕ → Option (List ℕ)

abbrev pub SameContents : Contents → Contents → Type 0
SameContents now held = (digest : List ℕ) → now digest ≡ held digest

-- the contents with these bytes for a digest
abbrev pub with_content : Contents → List ℕ → List ℕ → Contents
with_content held digest bytes d = if bytes_eq digest d then Some bytes else held d

-- each content is as it was, or gone
abbrev pub ArePartlyCleared : Contents → Contents → Type 0
ArePartlyCleared held now = (digest : List ℕ) → (now digest ≡ held digest) ⊎ (now digest ≡ None)

-- ---- what a store tells

-- the store tells that it holds just these
pub record TellsContents (told : Option Contents) (held : Contents) : Type 0 where
  pub now : Contents
  pub tells : told ≡ Some now
  pub same : SameContents now held

-- a refused store of a content leaves what was held, or a front of the bytes for their digest
abbrev pub LeavesContent : Option Contents → Contents → List ℕ → Type 0
LeavesContent told held bytes =
    TellsContents told held ⊎ ((n : ℕ) × TellsContents told (with_content held (sha256 bytes) (take n bytes)))

-- a refused clearing leaves each content as it was, or none
abbrev pub LeavesCleared : Option Contents → Contents → Type 0
LeavesCleared told held = (now : Contents) × (told ≡ Some now) × ArePartlyCleared held now

-- ---- refusals

-- why a load of a content is refused: the store failed, or the bytes that are held have another digest
abbrev pub IsContentFault : StoreError → List ℕ → ℕ → ℕ → Option (Option (List ℕ)) → Type 0
IsContentFault error.Failed digest before after held = Rose before after
IsContentFault (error.Damaged kind) digest before after held = ⊥
IsContentFault (error.IncorrectContent found expected) digest before after held =
    (expected ≡ digest) × (found ≢ digest)
    × IfSome held (λ o. (bytes : List ℕ) × (o ≡ Some bytes) × (found ≡ sha256 bytes))
IsContentFault error.Memory digest before after held = Unit {0}

-- why a store of a content is refused: the store failed, or the bytes have not the digest that is expected
abbrev pub IsStoreContentFault : StoreError → List ℕ → Option (List ℕ) → ℕ → ℕ → Type 0
IsStoreContentFault error.Failed bytes wanted before after = Rose before after
IsStoreContentFault (error.Damaged kind) bytes wanted before after = ⊥
IsStoreContentFault (error.IncorrectContent found expected) bytes wanted before after =
    (found ≡ sha256 bytes) × (wanted ≡ Some expected) × (found ≢ expected)
IsStoreContentFault error.Memory bytes wanted before after = Unit {0}

-- ---- calls that are to fail

-- the contents after a store of bytes, which may be to fail and leave this: what can't be read are the bytes without
-- the last one
abbrev pub AreContentsAfter : Option After → Contents → List ℕ → List ℕ → Contents → Type 0
AreContentsAfter None held digest bytes now = SameContents now (with_content held digest bytes)
AreContentsAfter (Some after.Old) held digest bytes now = SameContents now held
AreContentsAfter (Some after.New) held digest bytes now = SameContents now (with_content held digest bytes)
AreContentsAfter (Some after.Unreadable) held digest bytes now =
    SameContents now (with_content held digest (take (length bytes - 1) bytes))

-- the contents after a clearing, which may be to fail and leave this: no content becomes what can't be read
abbrev pub AreClearedAfter : Option After → Contents → Contents → Type 0
AreClearedAfter None held now = SameContents now (λ _. None)
AreClearedAfter (Some after.Old) held now = SameContents now held
AreClearedAfter (Some after.New) held now = SameContents now (λ _. None)
AreClearedAfter (Some after.Unreadable) held now = SameContents now held
