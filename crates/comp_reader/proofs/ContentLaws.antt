-- The content of a section, by its id.
use Rattle.std.proofs.Common.{◌≡◌, ℕ, List, true, Ok, refl}
use Rattle.std.specs.Prelude.{nat_eq}
use Rattle.std.specs.List.{starts_with}
use Rattle.comp_format.specs.declared.types.CoreInstance.{CoreInstance}
use Rattle.comp_format.specs.declared.types.InstanceItem.{InstanceItem}
use Rattle.comp_format.specs.declared.types.Alias.{Alias}
use Rattle.comp_format.specs.declared.types.Canon.{Canon}
use Rattle.comp_format.specs.Vectors.{any_name_at}
use Rattle.comp_format.specs.CoreTypes.{CoreTree, core_at}
use Rattle.comp_format.specs.Definitions.{TypeTree, definition_at}
use Rattle.comp_format.specs.Canons.{canon_at}
use Rattle.comp_format.specs.Parts.{core_instance_at, instance_at, alias_at}
use Rattle.comp_format.specs.Items.{ImportTree, ExportTree, import_at, export_at}
use Rattle.comp_format.specs.Sections.{Named, CoreModules, CoreInstances, CoreTypes, Instances, Aliases, Types, Canons, Imports, Exports, core_header, whole_at, behind_at, content_with, content_at}

module _ (scopes id : ℕ) (content : List ℕ) where
  pub custom_is : (name bytes : List ℕ) → id ≡ 0 → any_name_at content ≡ Ok (name, bytes) → content_at scopes id content ≡ Ok (Named name bytes)
  unfolding content_at content_with
  custom_is name bytes is read = rw (is, read) refl

  pub core_module_is : id ≡ 1 → starts_with nat_eq content core_header ≡ true → content_at scopes id content ≡ Ok (CoreModules content)
  unfolding content_at content_with behind_at
  core_module_is is front = rw (is, front) refl

  pub core_instances_are : (xs : List CoreInstance) → id ≡ 2 → whole_at core_instance_at content ≡ Ok xs → content_at scopes id content ≡ Ok (CoreInstances xs)
  unfolding content_at content_with
  core_instances_are xs is read = rw (is, read) refl

  pub core_types_are : (xs : List CoreTree) → id ≡ 3 → whole_at (core_at scopes) content ≡ Ok xs → content_at scopes id content ≡ Ok (CoreTypes xs)
  unfolding content_at content_with
  core_types_are xs is read = rw (is, read) refl

  pub instances_are : (xs : List InstanceItem) → id ≡ 5 → whole_at instance_at content ≡ Ok xs → content_at scopes id content ≡ Ok (Instances xs)
  unfolding content_at content_with
  instances_are xs is read = rw (is, read) refl

  pub aliases_are : (xs : List Alias) → id ≡ 6 → whole_at alias_at content ≡ Ok xs → content_at scopes id content ≡ Ok (Aliases xs)
  unfolding content_at content_with
  aliases_are xs is read = rw (is, read) refl

  pub types_are : (xs : List TypeTree) → id ≡ 7 → whole_at (definition_at scopes) content ≡ Ok xs → content_at scopes id content ≡ Ok (Types xs)
  unfolding content_at content_with
  types_are xs is read = rw (is, read) refl

  pub canons_are : (xs : List Canon) → id ≡ 8 → whole_at canon_at content ≡ Ok xs → content_at scopes id content ≡ Ok (Canons xs)
  unfolding content_at content_with
  canons_are xs is read = rw (is, read) refl

  pub imports_are : (xs : List ImportTree) → id ≡ 10 → whole_at import_at content ≡ Ok xs → content_at scopes id content ≡ Ok (Imports xs)
  unfolding content_at content_with
  imports_are xs is read = rw (is, read) refl

  pub exports_are : (xs : List ExportTree) → id ≡ 11 → whole_at export_at content ≡ Ok xs → content_at scopes id content ≡ Ok (Exports xs)
  unfolding content_at content_with
  exports_are xs is read = rw (is, read) refl
