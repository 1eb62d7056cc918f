-- What is kept of a log while it is judged: functions from ids and names, and the releases. The rules and
-- the effect of an entry, by what is kept.
use Rattle.std.specs.Prelude.{ℕ, ◌<◌, length, not, Bool, false, if◌then◌else◌, List, [], ◌∷◌, ◌++◌, bytes_eq, codes, is_some, Option, Some, None, option_map, option_and_then}
use Rattle.std.specs.Option.{option_or, option_map_or}
use Rattle.semver.specs.Parse.{Parts}
use Rattle.sha2.specs.Sha256.{sha256}
use Rattle.warg_record.specs.Record.{Kind, PlainEntry, Init, GrantFlat, RevokeFlat, Release, Yank, DefineNamespace, ImportNamespace}
use Rattle.warg_log.specs.declared.permissions.PermissionSet.{PermissionSet}
use Rattle.warg_log.specs.declared.keys.KeyFacts.{KeyFacts}
use Rattle.warg_log.specs.declared.facts.Facts.{Facts}
use Rattle.warg_log.specs.declared.facts.Undo.{Undo}
use Rattle.warg_log.specs.declared.facts.Undo.TheVariants as undo
use Rattle.warg_log.specs.Keys.{known, given, taken, restored}
use Rattle.warg_log.specs.Namespaces.{space}
use Rattle.warg_log.specs.Permissions.{has_permission, set_of, all_of}
use Rattle.warg_log.specs.Places.{content_at, place_of, versions_of, without_last, with_content}
use Rattle.warg_log.specs.Rules.{Breach, InitAgain, HashAlgorithm, Unpermitted, ReleaseAgain, YankUnreleased, YankYanked, NamespaceTaken, broken, opening_key}
use Rattle.warg_record.specs.Envelope.{Signed}
use Rattle.warg_log.specs.declared.head.Head.{Head}
use Rattle.warg_log.specs.History.{has_id}

-- what is kept of a log: each key by its id with the permissions that it holds, the releases in order, and what is known
-- of each namespace
pub record PlainFacts : Type 0 where
  pub keys : List ℕ → Option KeyFacts
  pub releases : List (Parts × Option (List ℕ))
  pub namespaces : List ℕ → Option (Option (List ℕ))

-- nothing is known
abbrev pub nothing : PlainFacts
nothing = record { keys = λ id. None; releases = []; namespaces = λ n. None }

-- what facts say
abbrev pub known_by : Facts → PlainFacts
known_by f = record { keys = λ id. known f.keys id; releases = f.releases; namespaces = λ n. space f.namespaces n }

-- whether the key with this id holds a permission
abbrev pub is_held : PlainFacts → List ℕ → List ℕ → Bool
is_held k id permission = option_map_or (λ (f : KeyFacts). has_permission f.permissions permission) (k.keys id) false

-- where a version stands among releases
abbrev pub place_among : Parts → List (Parts × Option (List ℕ)) → Option ℕ
place_among v rs = place_of v (versions_of rs)

-- ---- the rules

abbrev pub unheld : List ℕ → PlainFacts → List ℕ → Option Breach → Option Breach
unheld signer k permission next = broken (not (is_held k signer permission)) (Unpermitted signer permission) next

abbrev pub each_unheld : List ℕ → PlainFacts → List (List ℕ) → Option Breach
each_unheld signer k [] = None
each_unheld signer k (permission ∷ permissions) = unheld signer k permission (each_unheld signer k permissions)

-- a release that is to be yanked
abbrev pub yanked_breach : Parts → Option (List ℕ) → Option Breach
yanked_breach v None = Some (YankYanked v)
yanked_breach v (Some content) = None

abbrev pub yank_breach : Parts → List (Parts × Option (List ℕ)) → Option ℕ → Option Breach
yank_breach v rs None = Some (YankUnreleased v)
yank_breach v rs (Some i) = yanked_breach v (content_at rs i)

-- a namespace that is to be taken, by this permission
abbrev pub namespace_breach : List ℕ → List ℕ → PlainFacts → List ℕ → Option Breach
namespace_breach signer permission k namespace = unheld signer k permission (broken (is_some (k.namespaces namespace)) (NamespaceTaken namespace) None)

-- an Init with this hash algorithm
abbrev pub init_breach : Bool → List ℕ → Option Breach
init_breach opens algorithm = broken (not opens) InitAgain (broken (not (bytes_eq algorithm (codes "sha256"))) (HashAlgorithm algorithm) None)

abbrev pub known_breach : List ℕ → Bool → PlainFacts → PlainEntry → Option Breach
known_breach signer opens k (Init key algorithm) = init_breach opens algorithm
known_breach signer opens k (GrantFlat key permissions) = each_unheld signer k permissions
known_breach signer opens k (RevokeFlat key_id permissions) = each_unheld signer k permissions
known_breach signer opens k (Release version content) =
    unheld signer k (codes "release") (broken (is_some (place_among version k.releases)) (ReleaseAgain version) None)
known_breach signer opens k (Yank version) = unheld signer k (codes "yank") (yank_breach version k.releases (place_among version k.releases))
known_breach signer opens k (DefineNamespace namespace) = namespace_breach signer (codes "defineNamespace") k namespace
known_breach signer opens k (ImportNamespace namespace registry) = namespace_breach signer (codes "importNamespace") k namespace

-- ---- the key that signs

-- whether a log's first record does not begin with Init
abbrev pub lacks_opening : Option Head → Signed → Bool
lacks_opening None s = not (is_some (opening_key s.rec.entries))
lacks_opening (Some head) s = false

abbrev pub signer_by : Option Head → PlainFacts → Signed → Option (List ℕ)
signer_by None k s = option_and_then (λ key. if has_id s.key_id key then Some key else None) (opening_key s.rec.entries)
signer_by (Some head) k s = option_map (λ (f : KeyFacts). f.key) (k.keys s.key_id)

-- ---- the effects

-- a key that is given permissions
abbrev pub give : List ℕ → PermissionSet → PlainFacts → PlainFacts
give key gained k = record k { keys = λ id. if bytes_eq (sha256 key) id then Some (given (k.keys id) key gained) else k.keys id }

-- a key from which permissions are taken
abbrev pub take_from : List ℕ → PermissionSet → PlainFacts → PlainFacts
take_from key_id lost k = record k { keys = λ id. if bytes_eq key_id id then taken (k.keys id) lost else k.keys id }

-- releases of which the one at a place loses its content
abbrev pub yanked_at : Option ℕ → List (Parts × Option (List ℕ)) → List (Parts × Option (List ℕ))
yanked_at None rs = rs
yanked_at (Some i) rs = with_content rs i None

-- a namespace that is taken
abbrev pub name_taken : List ℕ → Option (List ℕ) → PlainFacts → PlainFacts
name_taken namespace state k = record k { namespaces = λ n. if bytes_eq namespace n then Some state else k.namespaces n }

-- a version that is released
abbrev pub released_in : Parts → List ℕ → PlainFacts → PlainFacts
released_in version content k = record k { releases = k.releases ++ (version, Some content) ∷ [] }

-- a version that is yanked
abbrev pub yanked_in : Parts → PlainFacts → PlainFacts
yanked_in version k = record k { releases = yanked_at (place_among version k.releases) k.releases }

abbrev pub known_step : Kind → PlainFacts → PlainEntry → PlainFacts
known_step kind k (Init key algorithm) = give key (all_of kind) k
known_step kind k (GrantFlat key permissions) = give key (set_of permissions) k
known_step kind k (RevokeFlat key_id permissions) = take_from key_id (set_of permissions) k
known_step kind k (Release version content) = released_in version content k
known_step kind k (Yank version) = yanked_in version k
known_step kind k (DefineNamespace namespace) = name_taken namespace None k
known_step kind k (ImportNamespace namespace registry) = name_taken namespace (Some registry) k

-- ---- an entry taken back

abbrev pub undone : Undo → PlainFacts → PlainFacts
undone (undo.Key id held) k = record k { keys = λ q. if bytes_eq id q then restored (k.keys q) held else k.keys q }
undone (undo.Revoked None id) k = k
undone (undo.Revoked (Some held) id) k = record k { keys = λ q. if bytes_eq id q then restored (k.keys q) (Some held) else k.keys q }
undone undo.Released k = record k { releases = without_last k.releases }
undone (undo.Yanked place content) k = record k { releases = with_content k.releases place (Some content) }
undone (undo.Named name) k = record k { namespaces = λ n. if bytes_eq name n then None else k.namespaces n }

-- a release that is to have its content again is there
abbrev pub CanUndo : Undo → PlainFacts → Type 0
CanUndo (undo.Key id held) k = Unit {0}
CanUndo (undo.Revoked held id) k = Unit {0}
CanUndo undo.Released k = Unit {0}
CanUndo (undo.Yanked place content) k = place < length k.releases
CanUndo (undo.Named name) k = Unit {0}

-- ---- the entries of a record

abbrev pub known_entries_breach : Kind → List ℕ → Bool → PlainFacts → List PlainEntry → Option Breach
known_entries_breach kind signer opens k [] = None
known_entries_breach kind signer opens k (e ∷ entries) =
    option_or (known_breach signer opens k e) (known_entries_breach kind signer false (known_step kind k e) entries)

abbrev pub known_steps : Kind → PlainFacts → List PlainEntry → PlainFacts
known_steps kind k [] = k
known_steps kind k (e ∷ entries) = known_steps kind (known_step kind k e) entries

-- entries taken back, the last first
abbrev pub undone_all : List Undo → PlainFacts → PlainFacts
undone_all [] k = k
undone_all (u ∷ undos) k = undone u (undone_all undos k)

abbrev pub CanUndoAll : List Undo → PlainFacts → Type 0
CanUndoAll [] k = Unit {0}
CanUndoAll (u ∷ undos) k = CanUndo u (undone_all undos k) × CanUndoAll undos k
