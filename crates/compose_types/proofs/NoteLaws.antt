-- What entities bring, as it is noted.
use Rattle.std.proofs.Common.{◌≡◌, ℕ, suc, ◌+◌, ◌<◌, ◌≤◌, length, drop, drop-cons, get_or, arith, List, [], ◌∷◌, ◌++◌, map, refl, sym, ap, ◌∙◌, append_assoc, append-nil}
use Rattle.std.specs.Prelude.{All}
use Rattle.std.specs.List.{AllByRecursion}
use Rattle.std.proofs.lemmas.List.Elements.{All-from_recursion, recursion_from_All}
use Rattle.std.proofs.lemmas.List.{drop_all}
use Rattle.comp_entity.specs.declared.entity.InstanceShape.{InstanceShape, fold-roll-InstanceShape}
use Rattle.comp_entity.specs.declared.entity.Entity.{Entity, fold-roll-Entity}
use Rattle.comp_entity.specs.declared.entity.Entity.TheOpen as layer
use Rattle.comp_entity.specs.declared.entity.Entity.TheVariants as entity
use Rattle.comp_entity.specs.Entity.{TypeShapeTree, EntityTree, IsInstance, Entries}
use Rattle.comp_entity.specs.Names.{Mention}
use Rattle.comp_entity.specs.Places.{Path, leaves_of, leaves_in, names_itself}
use Rattle.comp_entity.specs.Views.{entries_of, named_entities, Sides, entity_step, type_step, component_step, instance_step, entity_tree, instance_entries}
use Rattle.compose_writing.specs.Conditions.{KeepsForm, KeepsEntries}
use Rattle.compose_writing.specs.Keys.{InInstance, KnownThings}
use Rattle.compose_writing.specs.Scopes.{WrittenScope}
use Rattle.compose_writing.specs.WriteEntities.{note_new, note_all}
use Rattle.compose_writing.specs.WriteEntities.{leaf_known, leaves_known}

pub instance_is : (t : InstanceShape) → instance_entries t ≡ entries_of (named_entities t.exports.items)
instance_is t = fold-roll-InstanceShape EntityTree TypeShapeTree Sides Entries entity_step type_step component_step instance_step (record { exports = t.exports })

pub entity_instance : (t : InstanceShape) → entity_tree (entity.Instance t) ≡ IsInstance (entries_of (named_entities t.exports.items))
entity_instance t = ap entity_tree (sym (entity.rolls-Instance t)) ∙ fold-roll-Entity EntityTree TypeShapeTree Sides Entries entity_step type_step component_step instance_step (layer.«Entity::Instance» t) ∙ ap IsInstance (instance_is t)

pub instance_leaves : (e : Entity) (t : InstanceShape) (path : Path) → e ≡ entity.Instance t → leaves_of path (entity_tree e) ≡ leaves_in path (entries_of (named_entities t.exports.items))
instance_leaves e t path is = ap (leaves_of path) (ap entity_tree is ∙ entity_instance t)

pub instance_keeps : (e : Entity) (t : InstanceShape) → e ≡ entity.Instance t → KeepsForm (entity_tree e) → KeepsEntries (entries_of (named_entities t.exports.items))
instance_keeps e t is k = rw (is, entity_instance t) at k

pub leaf_alone : (index : ℕ) (leaf : Path × EntityTree) → leaves_known index (leaf ∷ []) ≡ leaf_known index leaf
leaf_alone index leaf = append-nil (leaf_known index leaf)

pub leaf_none : (index : ℕ) (path : Path) (e : EntityTree) (ms : List WrittenScope) → names_itself e ≡ [] → note_all (leaf_known index (path, e)) ms ≡ ms
unfolding note_all
leaf_none index path e ms is = ap (λ ks. note_all (map (λ key. (key, InInstance index path)) ks) ms) is

pub leaf_some : (index : ℕ) (path : Path) (e : EntityTree) (key : Mention) (ms : List WrittenScope) → names_itself e ≡ key ∷ [] → note_all (leaf_known index (path, e)) ms ≡ note_new key (InInstance index path) ms
unfolding note_all
leaf_some index path e key ms is = ap (λ ks. note_all (map (λ key. (key, InInstance index path)) ks) ms) is

pub note_append : (a b : KnownThings) (ms : List WrittenScope) → note_all (a ++ b) ms ≡ note_all b (note_all a ms)
unfolding note_all
note_append [] b ms = refl
note_append (k ∷ a) b ms = note_append a b (note_new k.0 k.1 ms)

leaves_append : (index : ℕ) (a b : List (Path × EntityTree)) → leaves_known index (a ++ b) ≡ leaves_known index a ++ leaves_known index b
leaves_append index [] b = refl
leaves_append index (l ∷ a) b = ap (λ ks. leaf_known index l ++ ks) (leaves_append index a b) ∙ sym (append_assoc (leaf_known index l) (leaves_known index a) (leaves_known index b))

pub exports_end : (index : ℕ) (path : Path) (xs : List (List ℕ × Entity)) (i : ℕ) (ms all : List WrittenScope) → length xs ≤ i → note_all (leaves_known index (leaves_in path (entries_of (named_entities (drop i xs))))) ms ≡ all → ms ≡ all
unfolding note_all
exports_end index path xs i ms all le h =
    let none : drop i xs ≡ [] = rw drop_all refl in
    sym (ap (λ ys. note_all (leaves_known index (leaves_in path (entries_of (named_entities ys)))) ms) none) ∙ h

pub exports_step : (index : ℕ) (path : Path) (xs : List (List ℕ × Entity)) (i : ℕ) (x : List ℕ × Entity) (ms next : List WrittenScope) → i < length xs → x ≡ get_or xs i x → next ≡ note_all (leaves_known index (leaves_of (path ++ x.0 ∷ []) (entity_tree x.1))) ms
    → note_all (leaves_known index (leaves_in path (entries_of (named_entities (drop (i + 1) xs))))) next ≡ note_all (leaves_known index (leaves_in path (entries_of (named_entities (drop i xs))))) ms
exports_step index path xs i x ms next lt is h =
    let more_by_one : suc i ≡ i + 1 = omega arith in
    let cut : drop i xs ≡ x ∷ drop (i + 1) xs = drop-cons xs i x lt ∙ ap (λ z. z ∷ drop (suc i) xs) (sym is) ∙ ap (λ n. x ∷ drop n xs) more_by_one in
    let first = leaves_of (path ++ x.0 ∷ []) (entity_tree x.1) in
    let rest = leaves_in path (entries_of (named_entities (drop (i + 1) xs))) in
    ap (note_all (leaves_known index rest)) h ∙ sym (note_append (leaves_known index first) (leaves_known index rest) ms)
    ∙ ap (λ ks. note_all ks ms) (sym (leaves_append index first rest))
    ∙ sym (ap (λ ys. note_all (leaves_known index (leaves_in path (entries_of (named_entities ys)))) ms) cut)

entries_all : (xs : List (List ℕ × Entity)) → KeepsEntries (entries_of (named_entities xs)) → AllByRecursion (λ x. (0 < length x.0) × KeepsForm (entity_tree x.1)) xs
entries_all [] k = tt
entries_all (x ∷ xs) k = ((k.0, k.1), entries_all xs k.2)

pub entry_keeps : (xs : List (List ℕ × Entity)) (i : ℕ) (x : List ℕ × Entity) → KeepsEntries (entries_of (named_entities xs)) → i < length xs → x ≡ get_or xs i x → (0 < length x.0) × KeepsForm (entity_tree x.1)
entry_keeps xs i x k lt is = rw is (All-from_recursion (λ x. (0 < length x.0) × KeepsForm (entity_tree x.1)) xs (entries_all xs k) i x lt)

path_all : (path : Path) (name : List ℕ) → AllByRecursion (λ n. 0 < length n) path → 0 < length name → AllByRecursion (λ n. 0 < length n) (path ++ name ∷ [])
path_all [] name k h = (h, tt)
path_all (n ∷ path) name k h = (k.0, path_all path name k.1 h)

pub path_keeps : (path : Path) (name : List ℕ) → All (λ n. 0 < length n) path → 0 < length name → All (λ n. 0 < length n) (path ++ name ∷ [])
path_keeps path name k h = All-from_recursion (λ n. 0 < length n) (path ++ name ∷ []) (path_all path name (recursion_from_All (λ n. 0 < length n) path k) h)
