-- Laws of trees without the places that named types.
use Rattle.std.specs.Prelude.{◌≡◌, ℕ, zero, suc, ◌<◌, Bool, true, false, List, [], ◌∷◌, ◌++◌, map, length, Option, Some, None, slice_index_or, refl, ◌↔◌}
use Rattle.std.proofs.Common.{sym, ◌∙◌, ap, subst, arith}
use Rattle.std.proofs.lemmas.List.{get_or_append_left}
use Rattle.comp_entity.specs.Entity.{Name, EntityTree}
use Rattle.comp_entity.specs.Fits.{equal}
use Rattle.comp_entity.specs.Names.{without_places, place_by, bare}
use Rattle.comp_table.specs.declared.head.Head.{Head}
use Rattle.comp_table.specs.declared.head.Head.TheVariants as head
use Rattle.comp_table.specs.Trees.{PlainTree, tree, PlainTrees, none, more, trees_of, tree_at, node_tree, Stands, AllStand, Extends, IsBelow}
use Rattle.comp_table.specs.Changes.{head_by, scopes_in, tree_by, trees_by, bare_tree}
use Rattle.comp_table.specs.Plain.{plain_entity}
use Rattle.comp_table.specs.Shown.{IsShown}
use Rattle.comp_table.specs.Table.{IsBare, IsBareOf, trees}
use Rattle.comp_table.proofs.ChangeLaws.{entity_changed}
use Rattle.comp_table.proofs.EntityEqualLaws.{equal_by_tree}
use Rattle.comp_table.specs.StandLaws.{all_kept}
use Rattle.comp_table.proofs.TableLaws.{trees_length}
use Rattle.comp_table.specs.declared.table.Node.{Node}

place_deep : (d e : ℕ) (p : Option Name) → place_by without_places d p ≡ place_by without_places e p
place_deep d e None = refl
place_deep d e (Some n) = refl

head_deep : (d e : ℕ) (h : Head) → head_by without_places d h ≡ head_by without_places e h
head_deep d e (head.RecordOf p) = ap head.RecordOf (place_deep d e p)
head_deep d e (head.VariantOf p) = ap head.VariantOf (place_deep d e p)
head_deep d e (head.FlagsOf p) = ap head.FlagsOf (place_deep d e p)
head_deep d e (head.EnumOf p) = ap head.EnumOf (place_deep d e p)
head_deep d e h = refl

mutual
  tree_deep : (d e : ℕ) (t : PlainTree) → tree_by without_places d t ≡ tree_by without_places e t
  tree_deep d e (tree h parts) = λ i. tree (head_deep d e h i) (trees_deep (scopes_in h d) (scopes_in h e) parts i)

  trees_deep : (d e : ℕ) (ts : PlainTrees) → trees_by without_places d ts ≡ trees_by without_places e ts
  trees_deep d e none = refl
  trees_deep d e (more t ts) = λ i. more (tree_deep d e t i) (trees_deep d e ts i)

place_twice : (d e : ℕ) (p : Option Name) → place_by without_places d (place_by without_places e p) ≡ place_by without_places e p
place_twice d e None = refl
place_twice d e (Some n) = refl

head_twice : (d e : ℕ) (h : Head) → head_by without_places d (head_by without_places e h) ≡ head_by without_places e h
head_twice d e (head.RecordOf p) = ap head.RecordOf (place_twice d e p)
head_twice d e (head.VariantOf p) = ap head.VariantOf (place_twice d e p)
head_twice d e (head.FlagsOf p) = ap head.FlagsOf (place_twice d e p)
head_twice d e (head.EnumOf p) = ap head.EnumOf (place_twice d e p)
head_twice d e h = refl

mutual
  tree_twice : (d e : ℕ) (t : PlainTree) → tree_by without_places d (tree_by without_places e t) ≡ tree_by without_places e t
  tree_twice d e (tree h parts) =
      λ i. tree (head_twice d e h i) (trees_twice (scopes_in (head_by without_places e h) d) (scopes_in h e) parts i)

  trees_twice : (d e : ℕ) (ts : PlainTrees) → trees_by without_places d (trees_by without_places e ts) ≡ trees_by without_places e ts
  trees_twice d e none = refl
  trees_twice d e (more t ts) = λ i. more (tree_twice d e t i) (trees_twice d e ts i)

parts_bare : (ts : List PlainTree) (d : ℕ) (ps : List ℕ) → trees_of (map (λ p. bare_tree (tree_at ts p)) ps) ≡ trees_by without_places d (trees_of (map (tree_at ts) ps))
parts_bare ts d [] = refl
parts_bare ts d (p ∷ ps) = λ i. more (tree_deep 0 d (tree_at ts p) i) (parts_bare ts d ps i)

-- a node of a bare head and of the bare numbers of parts
pub node_bare : (ts : List PlainTree) (h b : Head) (ps ns : List ℕ) → b ≡ head_by without_places 0 h → AllStand ts ns (map (λ p. bare_tree (tree_at ts p)) ps) → node_tree ts b ns ≡ bare_tree (node_tree ts h ps)
node_bare ts h b ps ns is all =
    (λ i. tree (is i) (trees_of (all.trees_are i))) ∙ ap (tree (head_by without_places 0 h)) (parts_bare ts (scopes_in h 0) ps)

last : (ts : List PlainTree) (t d : PlainTree) (k : ℕ) → k ≡ length ts → slice_index_or (ts ++ t ∷ []) k d ≡ t
last [] t d k e = rw e refl
last (x ∷ ts) t d zero e = absurd (omega (arith, e))
last (x ∷ ts) t d (suc k) e = last ts t d k (omega (arith, e))

-- the number of a bare node is its own bare number
pub bare_itself : (ts : List PlainTree) (t u : PlainTree) (k : ℕ) → k ≡ length ts → t ≡ bare_tree u → IsBareOf ts t k
bare_itself ts t u k at e = record {
  within = omega (arith, at);
  bare_is = last ts t (tree head.Absent none) k at ∙ e ∙ sym (tree_twice 0 0 u) ∙ ap bare_tree (sym e);
}

-- the number of a bare tree that stands in the table
pub bare_there : (ts : List PlainTree) (t : PlainTree) (b : ℕ) → Stands ts b (bare_tree t) → IsBareOf ts t b
bare_there ts t b s =
    let there = s.there in
    record { within = omega (arith, there); bare_is = get_or_append_left ts (t ∷ []) (tree head.Absent none) b there ∙ s.tree_is }

pub bare_stands : (nodes : List Node) (p b : ℕ) → p < length nodes → IsBare (trees nodes) p b → Stands (trees nodes) b (bare_tree (tree_at (trees nodes) p))
bare_stands nodes p b lt is =
    let within = is.within in
    let k = trees_length nodes in record { there = omega (arith, within, lt, k); tree_is = is.bare_is }

-- numbers of parts, in a table that has grown
pub node_kept : (old new : List Node) (ps : List ℕ) → Extends (trees old) (trees new) → IsBelow (length old) ps → AllStand (trees new) ps (map (tree_at (trees old)) ps)
node_kept old new ps grown below = all_kept (trees old) (trees new) grown ps (map (tree_at (trees old)) ps) (record { all_there = subst (λ k. IsBelow k ps) (sym (trees_length old)) below; trees_are = refl })

-- truth values that are true together
same_bool : (a b : Bool) → (a ≡ true → b ≡ true) → (b ≡ true → a ≡ true) → a ≡ b
same_bool true b f g = sym (f refl)
same_bool false true f g = g refl
same_bool false false f g = refl

-- two bare numbers stand for one tree exactly where the bare trees are one
pub one_bare : (ts : List PlainTree) (a b m n : ℕ) (r : Bool) → Stands ts m (bare_tree (tree_at ts a)) → Stands ts n (bare_tree (tree_at ts b)) → (r ≡ true ↔ (tree_at ts m ≡ tree_at ts n)) → (r ≡ true ↔ (bare_tree (tree_at ts a) ≡ bare_tree (tree_at ts b)))
one_bare ts a b m n r first second same = (
  λ t. sym first.tree_is ∙ same.0 t ∙ second.tree_is,
  λ e. same.1 (first.tree_is ∙ e ∙ sym second.tree_is),
)

-- entities are equal where their bare trees are one
pub equal_by_bare : (ts : List PlainTree) (a b : ℕ) (r : Bool) → (r ≡ true ↔ (bare_tree (tree_at ts a) ≡ bare_tree (tree_at ts b))) → (x y : EntityTree) → Stands ts a (plain_entity x) → Stands ts b (plain_entity y) → IsShown y → r ≡ equal x y
equal_by_bare ts a b r same x y is_x is_y shown =
    let law = equal_by_tree x y shown in
    let left : bare_tree (tree_at ts a) ≡ plain_entity (bare x) = ap bare_tree is_x.tree_is ∙ sym (entity_changed without_places 0 x) in
    let right : bare_tree (tree_at ts b) ≡ plain_entity (bare y) = ap bare_tree is_y.tree_is ∙ sym (entity_changed without_places 0 y) in
    same_bool r (equal x y) (λ t. law.1 (sym left ∙ same.0 t ∙ right)) (λ e. same.1 (left ∙ law.0 e ∙ sym right))
