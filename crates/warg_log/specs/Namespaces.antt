-- The namespaces of a registry, as a function from names.
use Rattle.std.specs.Prelude.{ℕ, List, Option, Some, None, option_map}
use Rattle.std.specs.BTreeMap.{get_by_text}
use Rattle.warg_log.specs.declared.namespaces.NamespaceState.{NamespaceState}
use Rattle.warg_log.specs.declared.namespaces.NamespaceState.TheVariants.{Defined, Imported}
use Rattle.warg_log.specs.declared.namespaces.Namespaces.{Namespaces}

-- the registry that a namespace is imported from, if it is
abbrev pub namespace_view : NamespaceState → Option (List ℕ)
namespace_view Defined = None
namespace_view (Imported registry) = Some registry

-- what is known of a namespace
abbrev pub space : Namespaces → List ℕ → Option (Option (List ℕ))
space namespaces n = option_map namespace_view (get_by_text namespaces.map n)
