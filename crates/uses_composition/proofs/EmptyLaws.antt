-- What is written for an instance without exports.
use Rattle.std.proofs.Common.{◌≡◌, ℕ, List, [], ◌∷◌, ◌++◌, map, Option, Some, None, refl, sym, ap, ◌∙◌}
use Rattle.std.specs.Prelude.{reverse}
use Rattle.comp_format.specs.Definitions as tree
use Rattle.comp_format.specs.declared.types.TypeRef.{TypeRef}
use Rattle.comp_format.specs.declared.types.TypeRef.TheVariants as description
use Rattle.comp_entity.specs.Entity.{EntityTree, IsInstance, no_entry}
use Rattle.comp_encoder.specs.Writing.{described_sort, next_index}
use Rattle.compose_writing.specs.Scopes.{WrittenScope, outermost, closed, on_top}
use Rattle.compose_writing.specs.WriteEntities.{write_entity, write_import, with_named, note_all}
use Rattle.compose_types.specs.Bodies.{entries_for}
use Rattle.compose_types.specs.declared.open.Open.{Open}
use Rattle.compose_types.specs.Scopes.{scope_of, scopes}

-- the outermost scope with the type of the instance
abbrev pub with_type : WrittenScope
with_type = record { width = 2; decls = tree.more (tree.Ty (tree.Instance tree.none)) tree.none; types = 1; instances = 0; core_types = 0; known = [] }

abbrev pub with_import : List ℕ → WrittenScope
with_import name = record {
  width = 2;
  decls = tree.more (tree.Ty (tree.Instance tree.none)) (tree.more (tree.Import name (description.Instance 0)) tree.none);
  types = 1;
  instances = 1;
  core_types = 0;
  known = [];
}

empty_written : write_entity (IsInstance no_entry) (outermost ∷ []) ≡ Some (with_type ∷ [], description.Instance 0)
unfolding write_entity closed on_top
empty_written = refl

import_written : (name : List ℕ) → write_import name (IsInstance no_entry) (description.Instance 0) (with_type ∷ []) ≡ with_import name ∷ []
unfolding with_named note_all
import_written name = refl

abbrev some_or : {A : Type 0} → A → Option A → A
some_or d None = d
some_or d (Some x) = x

pub described : (e : EntityTree) (before after : List WrittenScope) (ty : TypeRef) → e ≡ IsInstance no_entry → before ≡ outermost ∷ [] → write_entity e before ≡ Some (after, ty) → (after ≡ with_type ∷ []) × (ty ≡ description.Instance 0)
described e before after ty is new h =
    let all = ap (some_or (after, ty)) (sym h ∙ (λ i. write_entity (is i) (new i)) ∙ empty_written) in
    (ap (λ x. x.0) all, ap (λ x. x.1) all)

pub imported : (name : List ℕ) (e : EntityTree) (ty : TypeRef) (before after : List WrittenScope) → e ≡ IsInstance no_entry → before ≡ with_type ∷ [] → ty ≡ description.Instance 0 → after ≡ write_import name e ty before → after ≡ with_import name ∷ []
imported name e ty before after is was described h = h ∙ (λ i. write_import name (is i) (described i) (was i)) ∙ import_written name

abbrev last_of : WrittenScope → List WrittenScope → WrittenScope
last_of d [] = d
last_of d (m ∷ ms) = last_of m ms

last_behind : (d m : WrittenScope) (ms : List WrittenScope) → last_of d (ms ++ m ∷ []) ≡ m
last_behind d m [] = refl
last_behind d m (x ∷ ms) = last_behind x m ms

-- the outermost of the scopes of a state
pub outermost_is : (s : Open × List Open) (m : WrittenScope) → scopes s ≡ m ∷ [] → scope_of s.0 ≡ m
outermost_is s m h = sym (last_behind m (scope_of s.0) (reverse (map scope_of s.1))) ∙ ap (last_of m) h

pub first_index : (s : Open × List Open) (ty : TypeRef) (i : ℕ) → scopes s ≡ with_type ∷ [] → ty ≡ description.Instance 0 → i ≡ next_index (described_sort ty) (entries_for (scope_of s.0).decls) → i ≡ 0
first_index s ty i is at h = h ∙ ap (λ t. next_index (described_sort t) (entries_for (scope_of s.0).decls)) at ∙ ap (λ (m : WrittenScope). next_index (described_sort (description.Instance 0)) (entries_for m.decls)) (outermost_is s with_type is)
