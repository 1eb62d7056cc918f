-- What is known of what is written. Only the crate's private clauses cite it.
use Rattle.std.specs.Prelude.{◌≡◌, List, ℕ, Some, Ok}
use Rattle.warg_hash.specs.Hash.{digest_of, hash_text}
use Rattle.warg_publish.specs.Publish.{PlainPublishEntry, IsPublishableEntry}
use Rattle.warg_publish_text.specs.PublishText.{entry_data, entry_in}

-- a digest's text names the digest
abbrev pub NamesItself : List ℕ → Type 0
NamesItself digest = digest_of (hash_text digest) ≡ Some digest

-- an entry that can be published is read as it was
abbrev pub ReadsBack : PlainPublishEntry → Type 0
ReadsBack e = IsPublishableEntry e → entry_in (entry_data e) ≡ Ok e
