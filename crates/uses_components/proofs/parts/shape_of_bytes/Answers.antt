use Rattle.std.proofs.Common.{◌≡◌, ℕ, List, map, sym, subst, refl}
use Rattle.comp_format.specs.declared.types.Item.{Item}
use Rattle.comp_format.specs.Items.{ItemTree, item_tree}
use Rattle.comp_format.specs.Sections.{Reads}
use Rattle.comp_scope.specs.Shape.{Expands, HasParts, Parts, parts_in}
use Rattle.uses_components.proofs.parts.shape_of_bytes.Goals as goal

-- Bytes that were read as items have parts, to which the items expand.
parts_of : (bytes : List ℕ) (items now : List Item) → now ≡ items
    → ((bytes : List ℕ) (parts : Parts) → HasParts bytes parts → (read : List ItemTree) × Reads bytes read × Expands read parts)
    → Reads bytes (map item_tree items) → ((read : List ItemTree) → Reads bytes read → map item_tree items ≡ read)
    → (parts : Parts) × HasParts bytes parts × Expands (map item_tree now) parts
parts_of bytes items now same law reads only =
    let has : HasParts bytes (parts_in reads.0) = (reads.0, refl, reads.2) in
    let as_items = law bytes (parts_in reads.0) has in (
      parts_in reads.0,
      has,
      subst (λ xs. Expands (map item_tree xs) (parts_in reads.0)) (sym same)
          (subst (λ xs. Expands xs (parts_in reads.0)) (sym (only as_items.0 as_items.1)) as_items.2),
    )

pub shape_of-requires : goal.shape_of-requires
shape_of-requires c =
    let parts = parts_of c.args.bytes.now c.in-Ok.items.items c.deref.result.now c.deref.ensures.value c.parts_are_items.ensures c.in-Ok.ensures.found c.in-Ok.ensures.only in
    (parts.0, parts.2)

pub returns : goal.returns
returns c =
    let parts = parts_of c.args.bytes.now c.in-Ok.items.items c.deref.result.now c.deref.ensures.value c.parts_are_items.ensures c.in-Ok.ensures.found c.in-Ok.ensures.only in
    (parts.0, parts.1, c.in-Ok-shape_of.ensures.found parts.0 parts.2)
