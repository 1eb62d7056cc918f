-- What code holds while a composition is written, as the definitions have it.
use Rattle.std.specs.Borrow.{Bor}
use Rattle.std.specs.Prelude.{◌≡◌, ℕ, ◌<◌, ◌^◌, true, List, [], ◌∷◌, ◌++◌, map, filter, find, length, Option, Some, None, is_some, option_map, slice_index, Vec, ◌==◌}
use Rattle.std.specs.BTreeMap.{BTreeMap, get}
use Rattle.std.specs.Global.{Global}
use Rattle.std.specs.List.{list_any}
use Rattle.std.specs.Option.{option_map_or}
use Rattle.std.specs.Ordering.{nat_cmp}
use Rattle.comp_entity.specs.Entity.{ShapeTree}
use Rattle.comp_entity.specs.declared.entity.Shape.{Shape}
use Rattle.comp_encoder.specs.Builder.{entries_of}
use Rattle.comp_encoder.specs.Writing.{numbered}
use Rattle.comp_format.specs.Items.{ItemTree, Component, Instance}
use Rattle.comp_format.specs.declared.types.Arg.{Arg}
use Rattle.comp_format.specs.declared.types.InstanceItem.TheVariants as instance
use Rattle.comp_format.specs.declared.types.Sort.TheVariants as sort
use Rattle.compose_left.specs.Wiring.{lent_shape, no_shape}
use Rattle.compose_left.specs.declared.wiring.Wire.{Wire}
use Rattle.compose_check.specs.Composition.{ComponentTree, CompositionTree, source_of}
use Rattle.compose_image.specs.Imports.{component_of, is_used, used}
use Rattle.compose_image.specs.Instances.{Part, Written, comes_from, first_ones, is_instance, is_part, rank}
use Rattle.compose_imports.specs.Imported.{singles}
use Rattle.compose_encode.specs.Numbers.{FitBehind}
use Rattle.compose_encode.specs.Parts.{part_cmp, part_of}
use Rattle.compose_encode.specs.declared.output.Output.{Output}
use Rattle.compose_encode.specs.declared.part.Part.{Part as PartOf}
use Rattle.compose_encode.specs.declared.used.Used.{Used}
use Rattle.compose_encode.specs.declared.wires.Sources.{Sources}

abbrev pub Items : Type 0
Items = List ItemTree

abbrev pub Wires : Type 0
Wires = List Wire

abbrev pub WrittenItems : Type 0
WrittenItems = Written

-- a shape that may be there
abbrev pub shape_in : Option (Bor Shape) → ShapeTree
shape_in s = option_map_or lent_shape s no_shape

-- the components of which instances are made, and how many of them stand in front of each
pub record AreUsed (u : Used) (c : CompositionTree) : Type 0 where
  pub numbers : u.numbers.items ≡ used c
  pub ranks : (n : ℕ) → n < length c.components → is_used c n ≡ true → slice_index u.ranks.items n ≡ rank n (used c)
  pub small : (n : ℕ) → slice_index u.ranks.items n < 2 ^ 63

-- ---- wires

abbrev pub wires_in : Option (Vec Wire Global) → List Wire
wires_in None = []
wires_in (Some wires) = wires.items

abbrev pub wires_at : BTreeMap ℕ (Vec Wire Global) → ℕ → List Wire
wires_at groups n = wires_in (get nat_cmp groups n)

-- the instances that wires come from, and the wires from each
pub record AreSources (s : Sources) (ws : List Wire) : Type 0 where
  pub firsts : s.firsts.items ≡ first_ones [] (map source_of ws)
  pub wires : (n : ℕ) → wires_at s.wires n ≡ filter (comes_from n) ws
  pub keys : (n : ℕ) → is_some (get nat_cmp s.wires n) ≡ list_any (λ m. m == n) (map source_of ws)

-- ---- what is written

-- items, before anything is made of them
abbrev pub begun : List ItemTree → Written
begun items = record { items = items; instances = []; parts = [] }

-- with the component of a number
abbrev pub component_item : ComponentTree → ItemTree
component_item k = Component k.bytes

abbrev pub with_component : CompositionTree → Written → ℕ → Written
with_component c w number = record w { items = w.items ++ map component_item (component_of c number) }

-- with an instance of the component of an index
abbrev pub with_made : Written → ℕ → ℕ → List Arg → Written
with_made w i component args = record w {
  items = w.items ++ Instance (instance.Instantiate component args) ∷ [];
  instances = w.instances ++ (i, numbered sort.Instance w.items) ∷ [];
}

-- the items, the indices of instances and of aliases, and the numbers behind the imports
pub record Holds (imports : List ItemTree) (o : Output) (w : Written) : Type 0 where
  pub entries : entries_of o.builder ≡ singles w.items
  pub instances : (i : ℕ)
      → get nat_cmp o.instances i ≡ option_map (λ (e : ℕ × ℕ). e.1) (find (is_instance i) w.instances)
  pub parts : (p : PartOf)
      → get part_cmp o.parts p ≡ option_map (λ (e : Part × ℕ). e.1) (find (is_part (part_of p)) w.parts)
  pub fit : FitBehind imports w.items
