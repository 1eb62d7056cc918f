-- What a configuration says, as JSON (RFC 8259): an object whose members may each be missing. Further members are
-- passed over, and of members with one name the last counts.
use Rattle.std.specs.Prelude.{ℕ, List, [], ◌∷◌, if◌then◌else◌, bytes_eq, codes, Bool, false, map, Option, Some, None, is_some, option_map, Result, Ok, Err}
use Rattle.std.specs.Option.{option_map_or}
use Rattle.std.specs.Result.{result_ok}
use Rattle.std.specs.Str.{is_utf8}
use Rattle.indexmap.specs.IndexSet.{insert_all}
use Rattle.json.specs.Layout.{pretty}
use Rattle.json.specs.Tree.{json_tokens}
use Rattle.serde_json.specs.Data.{Data, boolean, string, array, object, Items, no_items, item, Members, no_members, member}
use Rattle.serde_json.specs.Find.{get, as_null, as_str, as_bool, as_array, as_object}
use Rattle.serde_json.specs.Read.{read}
use Rattle.serde_json.specs.View.{items_of}
use Rattle.serde_json.specs.Written.{outline}
use Rattle.warg_values.specs.Reading.{◌>>=◌}

-- what a configuration says. Texts that are missing are none, keys that are missing are none, and flags that are
-- missing are false
pub record Settings : Type 0 where
  pub home_url : Option (List ℕ)
  pub registries_dir : Option (List ℕ)
  pub content_dir : Option (List ℕ)
  pub namespace_map_path : Option (List ℕ)
  pub keyring_backend : Option (List ℕ)
  pub keys : List (List ℕ)
  pub keyring_auth : Bool
  pub ignore_federation_hints : Bool
  pub disable_auto_accept_federation_hints : Bool
  pub disable_auto_package_init : Bool
  pub disable_interactive : Bool

-- those of which nothing is said
abbrev pub no_settings : Settings
no_settings = record {
  home_url = None;
  registries_dir = None;
  content_dir = None;
  namespace_map_path = None;
  keyring_backend = None;
  keys = [];
  keyring_auth = false;
  ignore_federation_hints = false;
  disable_auto_accept_federation_hints = false;
  disable_auto_package_init = false;
  disable_interactive = false;
}

-- the settings, with each of the three paths changed
abbrev pub with_paths : (List ℕ → List ℕ) → Settings → Settings
with_paths f s = record s {
  registries_dir = option_map f s.registries_dir;
  content_dir = option_map f s.content_dir;
  namespace_map_path = option_map f s.namespace_map_path;
}

-- ---- what is read

-- why JSON is no configuration: a member is of another kind, or the whole is no object
pub data Fault : Type 0 where
  Form : Fault

abbrev pub Meaning : Type 0 → Type 0
Meaning X = Result X Fault

abbrev pub required : {X : Type 0} → Option X → Meaning X
required (Some x) = Ok x
required None = Err Form

-- a text, which may be missing or null
abbrev pub text_in : Option Data → Meaning (Option (List ℕ))
text_in None = Ok None
text_in (Some d) = if is_some (as_null d) then Ok None else (required (as_str d) >>= λ text. Ok (Some text))

-- a flag, which may be missing
abbrev pub flag_in : Option Data → Meaning Bool
flag_in None = Ok false
flag_in (Some d) = required (as_bool d)

-- each item, which is a text
unfoldable pub texts_in : Items → Meaning (List (List ℕ))
texts_in no_items = Ok []
texts_in (item d ds) = do
  text ← required (as_str d)
  texts ← texts_in ds
  Ok (text ∷ texts)

-- the texts, of which one that comes twice counts once, at its first place
abbrev pub distinct_texts : Items → Meaning (List (List ℕ))
distinct_texts items = texts_in items >>= λ texts. Ok (insert_all bytes_eq [] texts)

-- a list of texts, which may be missing
abbrev pub keys_in : Option Data → Meaning (List (List ℕ))
keys_in None = Ok []
keys_in (Some d) = required (as_array d) >>= distinct_texts

-- what an object says
unfoldable pub object_settings : Data → Meaning Settings
object_settings d = do
  home_url ← text_in (get (codes "homeUrl") d)
  registries_dir ← text_in (get (codes "registriesDir") d)
  content_dir ← text_in (get (codes "contentDir") d)
  namespace_map_path ← text_in (get (codes "namespaceMapPath") d)
  keyring_backend ← text_in (get (codes "keyringBackend") d)
  keys ← keys_in (get (codes "keys") d)
  keyring_auth ← flag_in (get (codes "keyringAuth") d)
  ignore_federation_hints ← flag_in (get (codes "ignoreFederationHints") d)
  disable_auto_accept_federation_hints ← flag_in (get (codes "disableAutoAcceptFederationHints") d)
  disable_auto_package_init ← flag_in (get (codes "disableAutoPackageInit") d)
  disable_interactive ← flag_in (get (codes "disableInteractive") d)
  Ok (record {
    home_url = home_url;
    registries_dir = registries_dir;
    content_dir = content_dir;
    namespace_map_path = namespace_map_path;
    keyring_backend = keyring_backend;
    keys = keys;
    keyring_auth = keyring_auth;
    ignore_federation_hints = ignore_federation_hints;
    disable_auto_accept_federation_hints = disable_auto_accept_federation_hints;
    disable_auto_package_init = disable_auto_package_init;
    disable_interactive = disable_interactive;
  })

-- what JSON says, which has to be an object
abbrev pub settings_in : Data → Meaning Settings
settings_in d = if is_some (as_object d) then object_settings d else Err Form

-- what bytes say that are UTF-8 and JSON
abbrev pub meaning_of : List ℕ → Meaning Settings
meaning_of bytes = required (if is_utf8 bytes then read bytes else None) >>= settings_in

-- the settings that bytes are, and none where they are none
abbrev pub settings_of_bytes : List ℕ → Option Settings
settings_of_bytes bytes = result_ok (meaning_of bytes)

-- ---- what is written

-- the members of an object, by their names, of which some may be left out
unfoldable pub members_given : List (List ℕ × Option Data) → Members
members_given [] = no_members
members_given (g ∷ given) = option_map_or (λ d. member g.0 d (members_given given)) g.1 (members_given given)

abbrev pub text_data : Option (List ℕ) → Option Data
text_data text = option_map string text

abbrev pub flag_data : Bool → Option Data
flag_data flag = Some (boolean flag)

-- the keys, which are left out where there are none
abbrev pub keys_data : List (List ℕ) → Option Data
keys_data [] = None
keys_data (key ∷ keys) = Some (array (items_of (map string (key ∷ keys))))

-- each member by its name, ascending
abbrev pub given_of : Settings → List (List ℕ × Option Data)
given_of s =
    (codes "contentDir", text_data s.content_dir)
    ∷ (codes "disableAutoAcceptFederationHints", flag_data s.disable_auto_accept_federation_hints)
    ∷ (codes "disableAutoPackageInit", flag_data s.disable_auto_package_init)
    ∷ (codes "disableInteractive", flag_data s.disable_interactive)
    ∷ (codes "homeUrl", text_data s.home_url)
    ∷ (codes "ignoreFederationHints", flag_data s.ignore_federation_hints)
    ∷ (codes "keyringAuth", flag_data s.keyring_auth)
    ∷ (codes "keyringBackend", text_data s.keyring_backend)
    ∷ (codes "keys", keys_data s.keys)
    ∷ (codes "namespaceMapPath", text_data s.namespace_map_path)
    ∷ (codes "registriesDir", text_data s.registries_dir)
    ∷ []

abbrev pub settings_data : Settings → Data
settings_data s = object (members_given (given_of s))

-- the settings in lines
unfoldable pub settings_text : Settings → List ℕ
settings_text s = pretty (json_tokens (outline (settings_data s)))
