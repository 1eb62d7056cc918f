-- What a JSON value (RFC 8259) in the body of a reply means. Members are found by their names, so their order and the
-- white space around them play no part, and of members with one name the last counts. The first fault in the order in
-- which a definition asks is the one that is told.
use Rattle.std.specs.Prelude.{ℕ, List, [], ◌∷◌, if◌then◌else◌, bytes_eq, Bool, Option, Some, None, is_some, option_and_then, Result, Ok, Err}
use Rattle.std.specs.Result.{result_ok}
use Rattle.base64.specs.Engines.{standard}
use Rattle.base64.specs.GeneralPurpose.{decode_of}
use Rattle.indexmap.specs.IndexMap.{insert_entry}
use Rattle.serde_json.specs.Data.{Data, Items, no_items, item, Members, no_members, member as member_of}
use Rattle.serde_json.specs.Find.{get, as_null, as_number, as_u64, as_str, as_bool, as_array, as_object}
use Rattle.warg_values.specs.Reading.{◌>>=◌}
use Rattle.warg_hash.specs.Hash.{digest_of}

-- why a value has no meaning: something is missing or of another form, or a text that is to name a hash names none
pub data BodyFault : Type 0 where
  Unexpected : BodyFault
  NoHash : List ℕ → BodyFault

abbrev pub Meaning : Type 0 → Type 0
Meaning X = Result X BodyFault

-- what has to be there
abbrev pub required : {X : Type 0} → Option X → Meaning X
required (Some x) = Ok x
required None = Err Unexpected

-- ---- values

abbrev pub number_in : Data → Meaning ℕ
number_in d = required (option_and_then as_u64 (as_number d))

abbrev pub flag_in : Data → Meaning Bool
flag_in d = required (as_bool d)

abbrev pub text_in : Data → Meaning (List ℕ)
text_in d = required (as_str d)

-- a text of a form
abbrev pub formed_in : (List ℕ → Bool) → Data → Meaning (List ℕ)
formed_in is_form d = text_in d >>= λ t. if is_form t then Ok t else Err Unexpected

-- this text alone
abbrev pub word_in : List ℕ → Data → Meaning (List ℕ)
word_in word d = formed_in (λ t. bytes_eq t word) d

abbrev pub named_digest : List ℕ → Option (List ℕ) → Meaning (List ℕ)
named_digest text (Some digest) = Ok digest
named_digest text None = Err (NoHash text)

-- the digest that a text names
abbrev pub digest_in_text : List ℕ → Meaning (List ℕ)
digest_in_text text = named_digest text (digest_of text)

abbrev pub hash_in : Data → Meaning (List ℕ)
hash_in d = text_in d >>= digest_in_text

-- bytes in standard base64 with padding (RFC 4648, section 4)
abbrev pub bytes_in : Data → Meaning (List ℕ)
bytes_in d = text_in d >>= λ t. required (result_ok (decode_of standard t))

-- a value that may be null
abbrev pub nullable_in : {X : Type 0} → (Data → Meaning X) → Data → Meaning (Option X)
nullable_in f d = if is_some (as_null d) then Ok None else (f d >>= λ x. Ok (Some x))

-- ---- members

abbrev pub member : List ℕ → Data → Meaning Data
member name d = required (get name d)

-- what a member means
abbrev pub member_as : {X : Type 0} → List ℕ → (Data → Meaning X) → Data → Meaning X
member_as name f d = member name d >>= f

abbrev pub given_as : {X : Type 0} → (Data → Meaning X) → Option Data → Meaning (Option X)
given_as f (Some d) = nullable_in f d
given_as f None = Ok None

-- what a member means that may be missing or null
abbrev pub optional_as : {X : Type 0} → List ℕ → (Data → Meaning X) → Data → Meaning (Option X)
optional_as name f d = given_as f (get name d)

-- ---- lists and objects

-- each item
unfoldable pub each_item : {X : Type 0} → (Data → Meaning X) → Items → Meaning (List X)
each_item f no_items = Ok []
each_item f (item d ds) = do
  x ← f d
  xs ← each_item f ds
  Ok (x ∷ xs)

abbrev pub list_in : {X : Type 0} → (Data → Meaning X) → Data → Meaning (List X)
list_in f d = required (as_array d) >>= each_item f

-- what is found so far, and each member behind it, by what its name means, ascending by the names' texts
unfoldable pub each_member : {X : Type 0} → (List ℕ → Meaning (List ℕ)) → (Data → Meaning X) → List (List ℕ × X)
    → Members → Meaning (List (List ℕ × X))
each_member key f found no_members = Ok found
each_member key f found (member_of name d ms) = do
  k ← key name
  x ← f d
  each_member key f (insert_entry bytes_eq found k x) ms

-- an object whose members' names are hash texts
abbrev pub hashed_in : {X : Type 0} → (Data → Meaning X) → Data → Meaning (List (List ℕ × X))
hashed_in f d = required (as_object d) >>= each_member digest_in_text f []

-- an object whose members' names are texts
abbrev pub named_in : {X : Type 0} → (Data → Meaning X) → Data → Meaning (List (List ℕ × X))
named_in f d = required (as_object d) >>= each_member Ok f []
