-- What is known while numbers of a table are compared.
use Rattle.std.specs.Prelude.{◌≡◌, ℕ, ◌<◌, Bool, true, false, List, length, Option, Some, None}
use Rattle.std.specs.BTreeMap.{BTreeMap, get}
use Rattle.std.specs.Cmp.Lexicographic.{slice_cmp}
use Rattle.std.specs.Ordering.{nat_cmp, ordering_then}
use Rattle.std.specs.declared.cmp.Ordering.{Ordering}
use Rattle.comp_entity.specs.Entity.{EntityTree, Entries}
use Rattle.comp_entity.specs.Fits.{fits_with, same_name, under}
use Rattle.comp_table.specs.Changes.{tree_by}
use Rattle.comp_table.specs.declared.head.Head.{Head}
use Rattle.comp_table.specs.declared.head.Head.TheVariants as head
use Rattle.comp_table.specs.Plain.{plain_entity}
use Rattle.comp_table.specs.Shown.{IsShown}
use Rattle.comp_table.specs.Trees.{PlainTree, tree_at, Stands}
use Rattle.comp_fit.specs.Loose.{loose_tree, loosely}
use Rattle.comp_fit.specs.declared.pair.Pair.{Pair}

-- a number stands for an entity, and for one in which no core module of a component's own stands
abbrev pub IsEntity : List PlainTree → ℕ → Type 0
IsEntity ts n = (e : EntityTree) × Stands ts n (plain_entity e)

abbrev pub IsShownEntity : List PlainTree → ℕ → Type 0
IsShownEntity ts n = (e : EntityTree) × Stands ts n (plain_entity e) × IsShown e

-- the same of entities in which all resources are taken as one
abbrev pub IsLooseEntity : List PlainTree → ℕ → Type 0
IsLooseEntity ts n = (e : EntityTree) × Stands ts n (loose_tree (plain_entity e))

abbrev pub IsLooseShownEntity : List PlainTree → ℕ → Type 0
IsLooseShownEntity ts n = (e : EntityTree) × Stands ts n (loose_tree (plain_entity e)) × IsShown e

-- an answer is whether the entity of one number fits that of another, names being compared as they are
abbrev pub Answers : List PlainTree → Pair → Bool → Type 0
Answers ts p answer = (given asked : EntityTree) → Stands ts p.given (plain_entity given) → Stands ts p.asked (plain_entity asked) → IsShown asked → answer ≡ fits_with same_name given asked

abbrev pub pair_cmp : Pair → Pair → Ordering
pair_cmp a b = ordering_then (nat_cmp a.given b.given) (nat_cmp a.asked b.asked)

abbrev pub AreAnswers : List PlainTree → BTreeMap Pair Bool → Type 0
AreAnswers ts known = (p : Pair) (answer : Bool) → get pair_cmp known p ≡ Some answer → Answers ts p answer

-- the first entity under a name, by number
abbrev pub IsUnder : List PlainTree → Option ℕ → Option (EntityTree × Bool) → Type 0
IsUnder ts None None = Unit {0}
IsUnder ts (Some n) (Some e) = Stands ts n (plain_entity e.0)
IsUnder ts _ _ = ⊥

abbrev pub AreNames : List PlainTree → Entries → BTreeMap (List ℕ) ℕ → Type 0
AreNames ts es names = (name : List ℕ) → IsUnder ts (get (slice_cmp nat_cmp) names name) (under name es)

-- a number is that of another one's tree in which all resources are one
pub record IsLoosened (ts : List PlainTree) (m n : ℕ) : Type 0 where
  pub there : m < length ts
  pub loosened : (depth : ℕ) → Stands ts n (tree_by loosely depth (tree_at ts m))

abbrev pub AreLoosened : List PlainTree → BTreeMap ℕ ℕ → Type 0
AreLoosened ts known = (m n : ℕ) → get nat_cmp known m ≡ Some n → IsLoosened ts m n

-- an instance, and a core module
abbrev pub is_instance : Head → Bool
is_instance head.Instance = true
is_instance _ = false

abbrev pub is_module : Head → Bool
is_module head.Module = true
is_module _ = false
