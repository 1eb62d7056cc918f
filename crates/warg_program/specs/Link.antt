-- The command `link ROOT OUT`: what it makes, and why it makes nothing.
use Rattle.std.specs.Prelude.{◌≡◌, ℕ, true, false, codes, List, Some}
use Rattle.warg_values.specs.Faults.{Rose}
use Rattle.comp_entity.specs.Entity.{ShapeTree}
use Rattle.comp_shape.specs.Refusal.{IsRefused}
use Rattle.comp_shape.specs.Shape.{HasShape}
use Rattle.comp_shape.specs.declared.error.ShapeError.{ShapeError}
use Rattle.compose_check.specs.declared.error.CheckError.TheVariants as check
use Rattle.compose_encode.specs.Whole.{IsTooLargeIn}
use Rattle.compose_graph.specs.Composed.{composed}
use Rattle.compose_graph.specs.Encoding.{IsEncoding, IsRefusedBy, export_place}
use Rattle.compose_graph.specs.Graph.{GraphTree, no_graph, with_component, with_instance}
use Rattle.compose_graph.specs.declared.options.EncodeOptions.{EncodeOptions}
use Rattle.warg_program.specs.World.{SeenFiles, HasFile, HasNoFile}
use Rattle.warg_program.specs.Lines.{bytes_line}
use Rattle.warg_program.specs.declared.stop.Stop.{Stop}
use Rattle.warg_program.specs.declared.stop.Stop.TheVariants as stop
use Rattle.warg_program.specs.declared.stop.Access.TheVariants as access

-- The file ROOT has these bytes, and they are a component of this shape.
pub record IsRoot (files : SeenFiles) (root bytes : List ℕ) (tree : ShapeTree) : Type 0 where
  pub there : HasFile files root bytes
  pub has_shape : HasShape bytes tree

-- the graph of one instance of a component
abbrev pub root_graph : List ℕ → ShapeTree → GraphTree
root_graph bytes tree = with_instance (with_component no_graph (codes "root") bytes tree) 0

-- the component is defined, and the instance exported
abbrev pub root_options : EncodeOptions
root_options = record { define_components = true; export = Some (record { 0 = 0 }); validate = false }

-- The bytes are the graph of one instance of ROOT: they have exactly one reading, whose image nests ROOT, makes one instance
-- of it, imports what it imports, and exports what it exports. The line tells how many bytes there are, and their SHA-256.
pub record IsLink (root : List ℕ) (files : SeenFiles) (linked line : List ℕ) : Type 0 where
  pub bytes : List ℕ
  pub tree : ShapeTree
  pub is_root : IsRoot files root bytes tree
  pub encoded : IsEncoding (root_graph bytes tree) root_options linked
  pub line_is : line ≡ bytes_line linked

-- ROOT is no component, or has no shape, by the cause that the error names.
pub record IsNoComponent (files : SeenFiles) (root : List ℕ) (error : ShapeError) : Type 0 where
  pub bytes : List ℕ
  pub there : HasFile files root bytes
  pub refused : IsRefused error bytes
  pub no_shape : (tree : ShapeTree) → HasShape bytes tree → ⊥

-- ROOT has a shape, of which this holds.
pub record IsOfRoot (files : SeenFiles) (root : List ℕ) (Holds : List ℕ → ShapeTree → Type 0) : Type 0 where
  pub bytes : List ℕ
  pub tree : ShapeTree
  pub is_root : IsRoot files root bytes tree
  pub holds : Holds bytes tree

-- why the graph of one instance of a component is not encoded: what it imports or exports does not agree, or a number can't
-- be written
abbrev pub IsUnencoded : Stop → (root out : List ℕ) → (bytes : List ℕ) → ShapeTree → Type 0
IsUnencoded (stop.Incompatible path why) root out bytes tree =
    (path.now ≡ root) × IsRefusedBy (root_graph bytes tree) root_options (check.Incompatible why)
IsUnencoded (stop.TooLarge path number) root out bytes tree =
    (path.now ≡ out)
    × IsTooLargeIn (composed (root_graph bytes tree)) true (export_place (root_graph bytes tree) root_options) number
IsUnencoded stop.Memory root out bytes tree = Unit {0}
IsUnencoded _ root out bytes tree = ⊥

-- why ROOT was not linked
abbrev pub IsLinkCause : Stop → (root out : List ℕ) → (before after : SeenFiles) → Type 0
IsLinkCause (stop.Missing path) root out before after = (path.now ≡ root) × HasNoFile before root
IsLinkCause (stop.Fault (access.Read path)) root out before after = (path.now ≡ root) × Rose before.faults after.faults
IsLinkCause (stop.BadComponent path error) root out before after = (path.now ≡ root) × IsNoComponent before root error
IsLinkCause (stop.Incompatible path why) root out before after =
    IsOfRoot before root (IsUnencoded (stop.Incompatible path why) root out)
IsLinkCause (stop.TooLarge path number) root out before after =
    IsOfRoot before root (IsUnencoded (stop.TooLarge path number) root out)
IsLinkCause stop.Memory root out before after = Unit {0}
IsLinkCause _ root out before after = ⊥
