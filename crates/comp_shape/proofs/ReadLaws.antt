-- Items that were read have parts, and each fault that is told of the parts is one of the bytes.
use Rattle.std.proofs.Common.{◌≡◌, ℕ, zero, suc, ◌<◌, true, List, [], ◌∷◌, ◌++◌, length, length-append, map, Some, Err, sym, subst, ap, refl, arith}
use Rattle.std.proofs.lemmas.List.{length-map}
use Rattle.std.specs.Prelude.{IfSome}
use Rattle.comp_entity.specs.Bounds.{ShapeFault, bounded}
use Rattle.comp_format.specs.declared.types.Item.{Item}
use Rattle.comp_format.specs.Items.{ItemTree, item_tree}
use Rattle.comp_format.specs.Sections.{Reads}
use Rattle.comp_parts.specs.declared.error.PartError.{PartError}
use Rattle.comp_parts.specs.declared.error.ShapeError.TheVariants as errors
use Rattle.comp_parts.specs.Parts.{FaultAt, TellsItem}
use Rattle.comp_scope.specs.Shape.{Parts, nothing, then_part, Expands, HasParts, parts_in, after_part}
use Rattle.comp_scope.specs.Spaces.{Known, nothing_known}
use Rattle.comp_space.specs.Faults.{fault_of}
use Rattle.comp_space.specs.declared.error.ScopeError.{ScopeError}
use Rattle.comp_shape.specs.Shape.{FirstFault}

-- what the law `parts_are_items` says
abbrev pub PartsAreItems : Type 0
PartsAreItems = (bytes : List ℕ) (parts : Parts) → HasParts bytes parts → (items : List ItemTree) × Reads bytes items × Expands items parts

-- what the law `one_reading` says
abbrev pub OneReading : Type 0
OneReading = (bytes : List ℕ) (a b : List ItemTree) → Reads bytes a → Reads bytes b → a ≡ b

-- bytes that were read as items have parts, to which the items expand
pub parts_of : PartsAreItems → OneReading → (bytes : List ℕ) (items : List ItemTree) → Reads bytes items → (parts : Parts) × HasParts bytes parts × Expands items parts
parts_of law once bytes items reads =
    let has : HasParts bytes (parts_in reads.0) = (reads.0, refl, reads.2) in
    let as_items = law bytes (parts_in reads.0) has in
    (parts_in reads.0, has, subst (λ xs. Expands xs (parts_in reads.0)) (once bytes as_items.0 items as_items.1 reads) as_items.2)

-- the same of items as they lie in memory
pub parts_there : PartsAreItems → OneReading → (bytes : List ℕ) (items now : List Item) → now ≡ items → Reads bytes (map item_tree items) → (parts : Parts) × HasParts bytes parts × Expands (map item_tree now) parts
parts_there law once bytes items now same reads =
    let found = parts_of law once bytes (map item_tree items) reads in
    (found.0, found.1, subst (λ xs. Expands (map item_tree xs) found.0) (sym same) found.2)

-- the first item that is told is the first that has the fault
pub first_is : (error : ScopeError) (fault : ShapeFault) → fault_of error ≡ Some fault → (k : Known) (number : ℕ) (parts : Parts) → FaultAt k number error parts → FirstFault k number fault parts
first_is error fault e k number nothing h = h
first_is error fault e k zero (then_part p ps) h = subst (λ o. IfSome o (λ f. after_part bounded [] k p ≡ Err f)) e h
first_is error fault e k (suc number) (then_part p ps) h = (h.0, h.1, first_is error fault e h.0 number ps h.2)

-- and is there
pub is_there : (items : List ItemTree) (parts : Parts) (k : Known) (number : ℕ) (error : ScopeError) → Expands items parts → FaultAt k number error parts → number < length items
is_there items nothing k number error x h = absurd h
is_there [] (then_part p ps) k number error x h = absurd x
is_there (item ∷ items) (then_part p ps) k zero error x h = omega arith
is_there (item ∷ items) (then_part p ps) k (suc number) error x h = omega (arith, is_there items ps h.0 number error x.1 h.2)

pub item_is_there : (items : List Item) (parts : Parts) (part : PartError) → Expands (map item_tree items) parts → TellsItem (errors.Item part) parts → part.item < length items
item_is_there items parts part x h =
    let long = length-map items item_tree in
    omega (arith, is_there (map item_tree items) parts (nothing_known true) part.item part.error x h, long)

-- what stands behind a front is there
pub behind_front : (items : List Item) (front back : List ItemTree) (item : ItemTree) (number : ℕ) → map item_tree items ≡ front ++ item ∷ back → length front ≡ number → number < length items
behind_front items front back item number is count =
    let long = length-map items item_tree in
    let parted = ap length is in
    omega (arith, long, parted, length-append front (item ∷ back), count)
