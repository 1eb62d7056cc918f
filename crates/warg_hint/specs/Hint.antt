-- What registries say of others: the header `warg-registry-hint`, whose value is `NAMESPACE=REGISTRY`, and what a client
-- does about it.
use Rattle.std.specs.Prelude.{◌≡◌, ◌≢◌, ◌⊎◌, ℕ, Bool, true, false, not, List, [], ◌++◌, codes, Option, Some, None, option_map}
use Rattle.std.specs.List.{before_first}
use Rattle.std.specs.Str.{IsUtf8}
use Rattle.std.specs.Str.Iter.{HasSubslice}
use Rattle.http_header.specs.FieldValue.{FieldValue}
use Rattle.warg_hash.specs.Name.{is_colon}
use Rattle.warg_hint.specs.declared.settings.HintSettings.{HintSettings}

-- ---- a hint

-- the value is a text, which its first `=` cuts into this namespace and this registry's name, neither of them empty
pub record IsHint (value namespace registry : List ℕ) : Type 0 where
  pub is_text : IsUtf8 value
  pub parts : value ≡ namespace ++ (codes "=" ++ registry)
  pub first : ¬ HasSubslice namespace (codes "=")
  pub has_namespace : namespace ≢ []
  pub has_registry : registry ≢ []

-- the bytes of a header's value
abbrev pub hint_value : Option FieldValue → Option (List ℕ)
hint_value value = option_map (λ v. v.bytes) value

-- a header, where there is one, gives this hint
abbrev pub Gives : Option (List ℕ) → List ℕ → List ℕ → Type 0
Gives None namespace registry = ⊥
Gives (Some value) namespace registry = IsHint value namespace registry

-- ---- what is done about it

-- whether two answers are the same
abbrev pub is_same : Bool → Bool → Bool
is_same true answer = answer
is_same false answer = not answer

-- the namespace of a package's name
abbrev pub namespace_of : List ℕ → List ℕ
namespace_of name = before_first is_colon name

-- hints are heeded, and this one is for the package's namespace
pub record IsFor (settings : HintSettings) (name namespace : List ℕ) : Type 0 where
  pub heeded : settings.ignore_federation_hints ≡ false
  pub same : namespace ≡ namespace_of name

-- nothing but a decision says whether a hint is followed
pub record MustAsk (settings : HintSettings) (name namespace : List ℕ) : Type 0 where
  pub may_ask : settings.disable_interactive ≡ false
  pub for_it : IsFor settings name namespace
  pub not_by_itself : settings.disable_auto_accept_federation_hints ≡ true

-- where the log of a package is not found, and a header may give a hint; a decision, where one is asked, says what `said`
-- tells of its answer:

-- the hint is reported
pub record IsReported (settings : HintSettings) (header : Option (List ℕ)) : Type 0 where
  pub namespace : List ℕ
  pub registry : List ℕ
  pub hint : Gives header namespace registry
  pub reports : settings.disable_interactive ≡ true

-- the hint is followed
pub record IsFollowed (settings : HintSettings) (said : Bool → Bool) (name : List ℕ) (header : Option (List ℕ)) :
    Type 0 where
  pub namespace : List ℕ
  pub registry : List ℕ
  pub hint : Gives header namespace registry
  pub may_ask : settings.disable_interactive ≡ false
  pub for_it : IsFor settings name namespace
  pub accepted : (settings.disable_auto_accept_federation_hints ≡ false) ⊎ (said true ≡ true)

-- no hint is given; or it is neither reported nor followed
pub record IsPassedOver (settings : HintSettings) (said : Bool → Bool) (name namespace : List ℕ) : Type 0 where
  pub may_ask : settings.disable_interactive ≡ false
  pub refused : (IsFor settings name namespace → ⊥) ⊎ (MustAsk settings name namespace × (said false ≡ true))

abbrev pub IsLeft : HintSettings → (Bool → Bool) → List ℕ → Option (List ℕ) → Type 0
IsLeft settings said name header =
    (namespace registry : List ℕ) → Gives header namespace registry → IsPassedOver settings said name namespace
