-- What is known of the entries of a record that is made. Only the crate's private clauses cite it.
use Rattle.std.specs.Prelude.{ℕ, List}
use Rattle.warg_record.specs.Record.{IsEntry, Package}
use Rattle.warg_publish.specs.Publish.{PlainPublishEntry, IsPublishableEntry, record_entry}

-- where it can be published, its entry of a record has the form of such
abbrev pub IsFormed : List ℕ → PlainPublishEntry → Type 0
IsFormed signer e = IsPublishableEntry e → IsEntry Package (record_entry signer e)
