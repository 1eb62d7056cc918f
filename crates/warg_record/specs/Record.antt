-- Records as plain values, the form that they have, and their bytes.
use Rattle.std.specs.Prelude.{◌≡◌, ℕ, ◌<◌, ◌^◌, Bool, List, [], ◌∷◌, ◌++◌, length, map, codes, bytes_eq, Option, IfSome, option_map, IsTrue, IsUtf8}
use Rattle.std.specs.List.{AllByRecursion, list_any}
use Rattle.warg_values.specs.declared.moment.Moment.{Moment}
use Rattle.semver.specs.Parse.{Parts}
use Rattle.semver.specs.Identifiers.{parts_text}
use Rattle.semver.specs.Grammar.{IsValid}
use Rattle.warg_hash.specs.Hash.{hash_text, IsDigest}
use Rattle.warg_record.specs.Key.{IsKeyText}
use Rattle.warg_record.specs.Wire.{field, fields, optional_field, number_field}

-- the two kinds of log: that of a package, and that of a registry's operator
pub data Kind : Type 0 where
  Package : Kind
  Operator : Kind

-- the permissions that a key can hold in a log of this kind
abbrev pub permissions_of : Kind → List (List ℕ)
permissions_of Package = codes "release" ∷ codes "yank" ∷ []
permissions_of Operator = codes "commit" ∷ codes "defineNamespace" ∷ codes "importNamespace" ∷ []

-- an entry of a record: keys and other texts as their bytes, ids and digests as their 32 bytes
pub data PlainEntry : Type 0 where
  Init : List ℕ → List ℕ → PlainEntry
  GrantFlat : List ℕ → List (List ℕ) → PlainEntry
  RevokeFlat : List ℕ → List (List ℕ) → PlainEntry
  Release : Parts → List ℕ → PlainEntry
  Yank : Parts → PlainEntry
  DefineNamespace : List ℕ → PlainEntry
  ImportNamespace : List ℕ → List ℕ → PlainEntry

-- a record: the id of the one before it, the version of its form, its time, and its entries
pub record PlainRecord : Type 0 where
  pub prev : Option (List ℕ)
  pub version : ℕ
  pub time : Moment
  pub entries : List PlainEntry

-- a text that is not empty
abbrev pub IsText : List ℕ → Type 0
IsText text = IsUtf8 text × (0 < length text)

-- whether keys of such a log can hold this permission
abbrev pub is_permission : Kind → List ℕ → Bool
is_permission kind permission = list_any (bytes_eq permission) (permissions_of kind)

-- one permission or more
abbrev pub ArePermissions : Kind → List (List ℕ) → Type 0
ArePermissions kind permissions = (0 < length permissions) × AllByRecursion (λ p. IsTrue (is_permission kind p)) permissions

-- the form of an entry of such a log
abbrev pub IsEntry : Kind → PlainEntry → Type 0
IsEntry kind (Init key algorithm) = IsKeyText key × IsText algorithm
IsEntry kind (GrantFlat key permissions) = IsKeyText key × ArePermissions kind permissions
IsEntry kind (RevokeFlat key_id permissions) = IsDigest key_id × ArePermissions kind permissions
IsEntry Package (Release version content) = IsValid version × IsDigest content
IsEntry Package (Yank version) = IsValid version
IsEntry Operator (DefineNamespace namespace) = IsText namespace
IsEntry Operator (ImportNamespace namespace registry) = IsText namespace × IsText registry
IsEntry Operator (Release version content) = ⊥
IsEntry Operator (Yank version) = ⊥
IsEntry Package (DefineNamespace namespace) = ⊥
IsEntry Package (ImportNamespace namespace registry) = ⊥

-- the form of a record of such a log
pub record IsRecord (kind : Kind) (r : PlainRecord) : Type 0 where
  pub prev : IfSome r.prev IsDigest
  pub version : r.version < 2 ^ 64
  pub seconds : r.time.seconds < 2 ^ 64
  pub nanos : r.time.nanos < 10 ^ 9
  pub some_entry : 0 < length r.entries
  pub entries : AllByRecursion (IsEntry kind) r.entries

-- an entry's message: the one field that says which entry it is
abbrev pub entry_text : PlainEntry → List ℕ
entry_text (Init key algorithm) = field 1 (field 1 key ++ field 2 algorithm)
entry_text (GrantFlat key permissions) = field 2 (field 1 key ++ fields 2 permissions)
entry_text (RevokeFlat key_id permissions) = field 3 (field 1 (hash_text key_id) ++ fields 2 permissions)
entry_text (Release version content) = field 4 (field 1 (parts_text version) ++ field 2 (hash_text content))
entry_text (Yank version) = field 5 (field 1 (parts_text version))
entry_text (DefineNamespace namespace) = field 4 (field 1 namespace)
entry_text (ImportNamespace namespace registry) = field 5 (field 1 namespace ++ field 2 registry)

-- the bytes are the message of this entry, which has the form of such a log's entries
pub record IsEntryMessageOf (kind : Kind) (bytes : List ℕ) (e : PlainEntry) : Type 0 where
  pub form : IsEntry kind e
  pub text : bytes ≡ entry_text e

-- a moment's message
abbrev pub moment_text : Moment → List ℕ
moment_text time = number_field 1 time.seconds ++ number_field 2 time.nanos

-- a record's message
abbrev pub record_text : PlainRecord → List ℕ
record_text r = optional_field 1 (option_map hash_text r.prev)
    ++ (number_field 2 r.version ++ (field 3 (moment_text r.time) ++ fields 4 (map entry_text r.entries)))
