-- What the bytes of files mean in which a registry's replies, or signatures that were checked, are kept.
use Rattle.std.specs.Prelude.{ℕ, List}
use Rattle.serde_json.specs.Data.{Data}
use Rattle.warg_values.specs.Reading.{◌>>=◌}
use Rattle.warg_exchange.specs.declared.exchange.Reply.{Reply}
use Rattle.warg_exchange.specs.Body.{Meaning, required, list_in}
use Rattle.warg_exchange.specs.Replies.{json_of}
use Rattle.warg_json.specs.Recorded.{reply_in, checked_in}

-- the items of a JSON list (RFC 8259), by what each means
abbrev pub items_in : {X : Type 0} → (Data → Meaning X) → List ℕ → Meaning (List X)
items_in f bytes = required (json_of bytes) >>= list_in f

-- replies, in the order in which they came
abbrev pub replies_in : List ℕ → Meaning (List Reply)
replies_in = items_in reply_in

-- signatures that were checked: each with its key, and the digest of the text that was signed
abbrev pub signatures_in : List ℕ → Meaning (List (List ℕ × List ℕ × List ℕ))
signatures_in = items_in checked_in
