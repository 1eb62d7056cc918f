-- What a list of entries says, read off the whole list by filters: keys, permissions, releases, yanks
-- and namespaces.
use Rattle.std.specs.Prelude.{ℕ, ◌==◌, ◌&&◌, Bool, true, false, if◌then◌else◌, List, [], ◌∷◌, bytes_eq, codes, map, find, Option, Some, None, option_map}
use Rattle.std.specs.List.{list_any, filter_map}
use Rattle.semver.specs.Parse.{Parts}
use Rattle.sha2.specs.Sha256.{sha256}
use Rattle.warg_record.specs.Record.{Kind, PlainEntry, Init, GrantFlat, RevokeFlat, Release, Yank, DefineNamespace, ImportNamespace, is_permission}

-- ---- keys

-- the key that an entry brings
abbrev pub key_in : PlainEntry → Option (List ℕ)
key_in (Init key algorithm) = Some key
key_in (GrantFlat key permissions) = Some key
key_in (RevokeFlat key_id permissions) = None
key_in (Release version content) = None
key_in (Yank version) = None
key_in (DefineNamespace namespace) = None
key_in (ImportNamespace namespace registry) = None

-- whether a key has this id
abbrev pub has_id : List ℕ → List ℕ → Bool
has_id id key = bytes_eq (sha256 key) id

-- the key with this id: the first such key that an entry brings
abbrev pub key_with : List ℕ → List PlainEntry → Option (List ℕ)
key_with id past = find (has_id id) (filter_map key_in past)

-- ---- permissions

-- what an entry says of a permission of the key with this id: it gives it, takes it, or says nothing
abbrev pub word_on : Kind → List ℕ → List ℕ → PlainEntry → Option Bool
word_on kind id permission (Init key algorithm) = if has_id id key && is_permission kind permission then Some true else None
word_on kind id permission (GrantFlat key permissions) = if has_id id key && list_any (bytes_eq permission) permissions then Some true else None
word_on kind id permission (RevokeFlat key_id permissions) = if bytes_eq key_id id && list_any (bytes_eq permission) permissions then Some false else None
word_on kind id permission (Release version content) = None
word_on kind id permission (Yank version) = None
word_on kind id permission (DefineNamespace namespace) = None
word_on kind id permission (ImportNamespace namespace registry) = None

-- the last of a list, or d
abbrev pub last_or : {A : Type 0} → A → List A → A
last_or d [] = d
last_or d (x ∷ xs) = last_or x xs

-- the permissions of both kinds of log
abbrev pub known_permissions : List (List ℕ)
known_permissions = codes "release" ∷ codes "yank" ∷ codes "commit" ∷ codes "defineNamespace" ∷ codes "importNamespace" ∷ []

abbrev pub is_known_permission : List ℕ → Bool
is_known_permission permission = list_any (bytes_eq permission) known_permissions

-- whether the key with this id holds a permission: it is one, and the last word on it gives it
abbrev pub holds : Kind → List ℕ → List ℕ → List PlainEntry → Bool
holds kind id permission past = is_known_permission permission && last_or false (filter_map (word_on kind id permission) past)

-- ---- releases

-- whether two versions are the same, build metadata too
abbrev pub same_version : Parts → Parts → Bool
same_version v w = (v.0 == w.0) && ((v.1 == w.1) && ((v.2 == w.2) && (bytes_eq v.3 w.3 && bytes_eq v.4 w.4)))

-- the version that an entry releases, and the digest of its content
abbrev pub release_in : PlainEntry → Option (Parts × List ℕ)
release_in (Init key algorithm) = None
release_in (GrantFlat key permissions) = None
release_in (RevokeFlat key_id permissions) = None
release_in (Release version content) = Some (version, content)
release_in (Yank version) = None
release_in (DefineNamespace namespace) = None
release_in (ImportNamespace namespace registry) = None

-- the version that an entry yanks
abbrev pub yank_in : PlainEntry → Option Parts
yank_in (Init key algorithm) = None
yank_in (GrantFlat key permissions) = None
yank_in (RevokeFlat key_id permissions) = None
yank_in (Release version content) = None
yank_in (Yank version) = Some version
yank_in (DefineNamespace namespace) = None
yank_in (ImportNamespace namespace registry) = None

-- what was released, in order
abbrev pub released : List PlainEntry → List (Parts × List ℕ)
released past = filter_map release_in past

abbrev pub is_released : Parts → List PlainEntry → Bool
is_released version past = list_any (λ r. same_version version r.0) (released past)

abbrev pub is_yanked : Parts → List PlainEntry → Bool
is_yanked version past = list_any (same_version version) (filter_map yank_in past)

-- a release as it stands after these entries: without its content where it was yanked
abbrev pub standing : List PlainEntry → Parts × List ℕ → Parts × Option (List ℕ)
standing past r = (r.0, if is_yanked r.0 past then None else Some r.1)

-- the releases, in order
abbrev pub releases_of : List PlainEntry → List (Parts × Option (List ℕ))
releases_of past = map (standing past) (released past)

-- ---- namespaces

-- the namespace that an entry takes, and the registry from which it imports it, if it does
abbrev pub namespace_in : PlainEntry → Option (List ℕ × Option (List ℕ))
namespace_in (Init key algorithm) = None
namespace_in (GrantFlat key permissions) = None
namespace_in (RevokeFlat key_id permissions) = None
namespace_in (Release version content) = None
namespace_in (Yank version) = None
namespace_in (DefineNamespace namespace) = Some (namespace, None)
namespace_in (ImportNamespace namespace registry) = Some (namespace, Some registry)

-- what is known of a namespace: nothing, that it is defined here, or the registry that it is imported from
abbrev pub namespace_of : List ℕ → List PlainEntry → Option (Option (List ℕ))
namespace_of namespace past = option_map (λ n. n.1) (find (λ n. bytes_eq namespace n.0) (filter_map namespace_in past))
