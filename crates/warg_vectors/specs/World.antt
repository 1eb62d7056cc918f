-- Registries in memory with the contents of their releases, and what calls make of them.
use Rattle.std.specs.Prelude.{ℕ, ◌+◌, List, [], ◌∷◌, ◌++◌, length, map, find, bytes_eq, if◌then◌else◌, Option, Some, None, is_some, option_map}
use Rattle.std.specs.List.{flat_map}
use Rattle.semver.specs.Parse.{Parts}
use Rattle.sha2.specs.Sha256.{sha256}
use Rattle.warg_model.specs.Held.{Held, opened, with_release, with_yank, with_checkpoint, signatures_of}
use Rattle.warg_model.specs.Growths.{IsGrowthOf}
use Rattle.warg_model.specs.declared.growth.Growth.{Growth}
use Rattle.warg_vectors.specs.Named.{key_of, same_name}

-- a registry: its name, and what it holds
pub record Named : Type 0 where
  pub name : Option (List ℕ)
  pub held : Held

-- the registries in the order of their numbers, and the contents, each with its digest
pub record World : Type 0 where
  pub registries : List Named
  pub contents : List (List ℕ × List ℕ)

-- the registry of a name
abbrev pub registry_in : List Named → Option (List ℕ) → Option Held
registry_in registries name = option_map (λ r. r.held) (find (λ r. same_name r.name name) registries)

-- the number of the registry of a name
unfoldable pub place_in : List Named → Option (List ℕ) → Option ℕ
place_in [] name = None
place_in (r ∷ registries) name =
    if same_name r.name name then Some 0 else option_map (λ place. place + 1) (place_in registries name)

-- the content of a digest
abbrev pub content_in : List (List ℕ × List ℕ) → List ℕ → Option (List ℕ)
content_in contents digest = option_map (λ c. c.1) (find (λ c. bytes_eq c.0 digest) contents)

-- ---- what calls make of it

-- with a registry of this name: a new one of the next number, where there is none yet
abbrev pub mentioned : List Named → Option (List ℕ) → List Named
mentioned registries name =
    if is_some (registry_in registries name) then registries
    else registries ++ (record { name = name; held = opened (key_of (length registries)) }) ∷ []

-- with the registry of a name changed
unfoldable pub changed : (Held → Held) → Option (List ℕ) → List Named → List Named
changed f name [] = []
changed f name (r ∷ registries) =
    if same_name r.name name then record r { held = f r.held } ∷ registries else r ∷ changed f name registries

-- with a content: of two of one digest the first stays
abbrev pub kept : List (List ℕ × List ℕ) → List ℕ → List (List ℕ × List ℕ)
kept contents content =
    if is_some (content_in contents (sha256 content)) then contents else contents ++ (sha256 content, content) ∷ []

-- with a release of a package in the registry of a name
abbrev pub published : World → Option (List ℕ) → List ℕ → Parts → List ℕ → World
published t registry name version content = record {
  registries =
      changed (λ h. with_release h name version (sha256 content)) registry (mentioned t.registries registry);
  contents = kept t.contents content;
}

-- with a yank of a package's version in the registry of a name
abbrev pub yanked : World → Option (List ℕ) → List ℕ → Parts → World
yanked t registry name version =
    record t { registries = changed (λ h. with_yank h name version) registry t.registries }

-- a registry with a checkpoint of its present list
abbrev pub grown_one : Named → Named
grown_one r = record r { held = with_checkpoint r.held }

-- with a checkpoint of the present list of each registry
abbrev pub grown : World → World
grown t = record t { registries = map grown_one t.registries }

-- these are the growths of the registries, in order
abbrev pub AreGrowthsOf : List Named → List Growth → Type 0
AreGrowthsOf [] [] = Unit {0}
AreGrowthsOf [] (g ∷ growths) = ⊥
AreGrowthsOf (r ∷ registries) [] = ⊥
AreGrowthsOf (r ∷ registries) (g ∷ growths) = IsGrowthOf r.held g × AreGrowthsOf registries growths

-- the signatures of all registries
abbrev pub signatures_in : World → List (List ℕ × List ℕ × List ℕ)
signatures_in t = flat_map (λ r. signatures_of r.held) t.registries
