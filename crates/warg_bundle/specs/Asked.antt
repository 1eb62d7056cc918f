-- The releases that the imports of a component ask for (Component Model, Explainer.md, "Import and Export Definitions").
use Rattle.std.specs.Prelude.{ℕ, Bool, true, false, if◌then◌else◌, List, [], ◌∷◌, Option, Some, None, option_and_then}
use Rattle.std.specs.List.{flat_map}
use Rattle.semver.specs.Parse.{Parts}
use Rattle.comp_format.specs.declared.types.TypeRef.{TypeRef}
use Rattle.comp_format.specs.declared.types.TypeRef.TheVariants as description
use Rattle.comp_format.specs.Items.{ItemTree, Import}
use Rattle.warg_names.specs.Import.{ImportTree, KindTree, Locked, import_of}

-- an import asks for a release: for one version, by the digest of its content
abbrev pub is_release : KindTree → Option Parts → Bool
is_release (Locked (Some mark)) (Some version) = true
is_release kind exact = false

abbrev pub of_release : ImportTree → Option ImportTree
of_release i = if is_release i.kind i.exact then Some i else None

-- what a name asks for, where it asks for a release, as `locked-dep=<a:b@1.0.0>,integrity=<sha256-..>` does
unfoldable pub release_asked : List ℕ → Option ImportTree
release_asked name = option_and_then of_release (import_of name)

-- a name, with what it asks for, where it asks for a release
abbrev pub with_asked : List ℕ → Option ImportTree → List (List ℕ × ImportTree)
with_asked name (Some i) = (name, i) ∷ []
with_asked name None = []

-- the same of the name of an import, where it is that of a component
abbrev pub asked_under : List ℕ → TypeRef → List (List ℕ × ImportTree)
asked_under name (description.Component t) = with_asked name (release_asked name)
asked_under name ty = []

abbrev pub asked_by : ItemTree → List (List ℕ × ImportTree)
asked_by (Import i) = asked_under i.name i.ty
asked_by item = []

-- the names under which items import components and that ask for releases, with what they ask for, in order
abbrev pub releases_asked : List ItemTree → List (List ℕ × ImportTree)
releases_asked items = flat_map asked_by items
