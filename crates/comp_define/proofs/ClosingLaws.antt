-- Laws of imports and exports as trees, and of what they mention.
use Rattle.std.specs.Prelude.{◌≡◌, ℕ, cond, List, [], ◌∷◌, ◌++◌, map, refl}
use Rattle.std.proofs.Common.{sym, ◌∙◌, ap, append-nil}
use Rattle.std.proofs.lemmas.Bool.{eq-eqb}
use Rattle.comp_declare.specs.Scopes.{plain_entry}
use Rattle.comp_define.specs.Sides.{plain_side, place_in}
use Rattle.comp_entity.specs.Entity.{Name, made, EntityTree, IsInstance, Entries}
use Rattle.comp_entity.specs.Names.{Change, entity_by, entries_by, in_entity, in_entries}
use Rattle.comp_entity.specs.Views.{Sides}
use Rattle.comp_mention.specs.Mentions.{mentions_at, tree_mentions}
use Rattle.comp_scope.specs.Closing.{mentions_in, renumbered}
use Rattle.comp_scope.specs.Spaces as scope
use Rattle.comp_scope.specs.Spaces.{entries_in}
use Rattle.comp_table.specs.Changes.{tree_by}
use Rattle.comp_table.specs.declared.head.Head.TheVariants as head
use Rattle.comp_table.specs.Plain.{plain_entity, plain_entries}
use Rattle.comp_table.specs.Trees.{PlainTree, tree, more, trees_of, below_root, Stands}

-- entries as parts of one tree
pub entries_are : (es : List (List ℕ × scope.Standing)) → trees_of (map plain_entry es) ≡ plain_entries (entries_in es)
entries_are [] = refl
entries_are (e ∷ es) = ap (more (plain_entry e)) (entries_are es)

-- ---- the place of a number in an order

pub made_renumbered : (order : List ℕ) (n : Name) (out place : ℕ) → out ≡ n.out → out ≡ 0 → place ≡ place_in order n.number → made place ≡ renumbered order n
made_renumbered order n out place is zero placed =
    ap made placed ∙ ap (λ b. cond b (made (place_in order n.number)) n) (sym (eq-eqb n.out 0 (sym is ∙ zero)))

-- ---- other names

pub side_renamed : (c : Change) (es : Entries) → ((e : EntityTree) → plain_entity (entity_by c 0 e) ≡ tree_by c 0 (plain_entity e)) → tree_by c 0 (plain_side es) ≡ plain_side (entries_by c 0 es)
side_renamed c es law = ap (λ t. tree head.Entries (below_root t)) (sym (law (IsInstance es)))

-- ---- mentions

side_mentions : (es : Entries) → ((e : EntityTree) → tree_mentions 0 (plain_entity e) ≡ in_entity 0 e) → tree_mentions 0 (plain_side es) ≡ in_entries 0 es
side_mentions es law = law (IsInstance es)

pub sides_mention : (ts : List PlainTree) (imports exports : ℕ) (s : Sides) → ((e : EntityTree) → tree_mentions 0 (plain_entity e) ≡ in_entity 0 e) → Stands ts imports (plain_side s.imports) → Stands ts exports (plain_side s.exports) → mentions_at ts (exports ∷ imports ∷ []) ≡ mentions_in s
sides_mention ts imports exports s law is es =
    (λ i. tree_mentions 0 (es.tree_is i) ++ (tree_mentions 0 (is.tree_is i) ++ []))
    ∙ (λ i. side_mentions s.exports law i ++ append-nil (side_mentions s.imports law i) i)
