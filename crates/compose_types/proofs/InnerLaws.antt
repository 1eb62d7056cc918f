-- Scopes within the component that is built, by their kinds.
use Rattle.std.proofs.Common.{◌≡◌, ◌<◌, ℕ, Bool, true, false, List, [], ◌∷◌, ◌++◌, map, length, Option, Some, None, refl, sym, ap, subst, ◌∙◌, arith}
use Rattle.std.specs.Prelude.{◌≢◌, IsSomeAnd, nat_lt, reverse, if◌then◌else◌}
use Rattle.std.proofs.lemmas.Bool.{lt-ltb}
use Rattle.comp_format.specs.Definitions.{DeclTree}
use Rattle.comp_format.specs.declared.types.TypeRef.{TypeRef}
use Rattle.comp_entity.specs.Entity.{EntityTree, Entries}
use Rattle.compose_writing.specs.Scopes.{WrittenScope, opened}
use Rattle.compose_writing.specs.WriteEntities.{with_named, write_entity, write_entries}
use Rattle.compose_types.specs.Bodies.{kind_in}
use Rattle.compose_types.specs.Scopes.{IsInner, State, Takes, inner_kind, kind_of, scope_of, scopes, scopes_in}
use Rattle.compose_types.specs.declared.body.Scope.{Scope}
use Rattle.compose_types.specs.declared.body.Scope.TheVariants as kind
use Rattle.compose_types.specs.declared.body.Side.{Side}
use Rattle.compose_types.specs.declared.body.Side.TheVariants as side
use Rattle.compose_types.specs.declared.open.Open.{Open}
use Rattle.compose_types.proofs.GrowLaws.{GrowAll, named_grows}
use Rattle.compose_types.proofs.ScopeLaws.{scopes_push}
use Rattle.compose_types.proofs.WriteGrowLaws.{EntriesGrow, Growing, entity_grows, entries_grow}

-- ---- a scope that is taken out, and put back

pub taken : (old rest : List Open) (x o : Open) → old ≡ rest ++ x ∷ [] → o ≡ x → old ≡ rest ++ o ∷ []
taken old rest x o was is = was ∙ ap (λ y. rest ++ y ∷ []) (sym is)

pub put_back : (new rest : List Open) (x later : Open) → new ≡ rest ++ x ∷ [] → x ≡ later → new ≡ rest ++ later ∷ []
put_back new rest x later was is = was ∙ ap (λ y. rest ++ y ∷ []) is

-- some scope is open
pub some_scope : (s : State) → 0 < length (scopes s)
some_scope s = one (reverse (map scope_of s.1))
  where
    one : (ms : List WrittenScope) → 0 < length (ms ++ scope_of s.0 ∷ [])
    one [] = omega arith
    one (m ∷ ms) = omega arith

-- ---- the kind of the innermost scope

innermost_kind : (old rest : List Open) (o outermost : Open) → old ≡ rest ++ o ∷ [] → inner_kind (scopes_in old outermost) ≡ Some (kind_of o.width)
innermost_kind old rest o outermost was = rw (was, scopes_push rest o outermost) (one (reverse (map scope_of rest)))
  where
    one : (ms : List WrittenScope) → inner_kind (scope_of o ∷ (ms ++ scope_of outermost ∷ [])) ≡ Some (kind_of o.width)
    one [] = refl
    one (m ∷ ms) = refl

some_is : (a b : Scope) → Some a ≡ Some b → a ≡ b
some_is a b h = cc

module _ (s : State) (old : List Open) (outermost : Open) (is : (outermost, old) ≡ s) where
  kind_there : (rest : List Open) (o : Open) → old ≡ rest ++ o ∷ [] → inner_kind (scopes s) ≡ Some (kind_of o.width)
  kind_there rest o was = ap (λ (s : State). inner_kind (scopes s)) (sym is) ∙ innermost_kind old rest o outermost was

  none_there : old ≡ [] → inner_kind (scopes s) ≡ None
  none_there none = ap (λ (s : State). inner_kind (scopes s)) (sym is) ∙ ap (λ xs. inner_kind (scopes_in xs outermost)) none

  -- where it lies within another, some scope is open
  pub not_alone : (k : Scope) → old ≡ [] → inner_kind (scopes s) ≡ Some k → ⊥
  not_alone k none h = let n = none_there none in absurd cc

  pub takes_within : (to : Side) → old ≡ [] → IsSomeAnd (inner_kind (scopes s)) (Takes to) → ⊥
  takes_within to none h = subst (λ k. IsSomeAnd k (Takes to)) (none_there none) h

  -- and it has that kind
  pub kind_is : (rest : List Open) (o : Open) (k : Scope) → old ≡ rest ++ o ∷ [] → IsInner o → inner_kind (scopes s) ≡ Some k → kind_in o.declared.body ≡ k
  kind_is rest o k was inner h = inner ∙ some_is (kind_of o.width) k (sym (kind_there rest o was) ∙ h)

  pub takes_side : (rest : List Open) (o : Open) (to : Side) → old ≡ rest ++ o ∷ [] → IsInner o → IsSomeAnd (inner_kind (scopes s)) (Takes to) → Takes to (kind_in o.declared.body)
  takes_side rest o to was inner h = subst (Takes to) (sym inner) (subst (λ k. IsSomeAnd k (Takes to)) (kind_there rest o was) h)

-- ---- the kind stays where something is written

kind_stays : (ms ns : List WrittenScope) → GrowAll ms ns → inner_kind ms ≡ inner_kind ns
kind_stays [] [] g = refl
kind_stays [] (n ∷ ns) g = elim g [ ]
kind_stays (m ∷ ms) [] g = elim g [ ]
kind_stays (m ∷ []) (n ∷ []) g = refl
kind_stays (m ∷ []) (n ∷ b ∷ ns) g = elim g.1 [ ]
kind_stays (m ∷ a ∷ ms) (n ∷ []) g = elim g.1 [ ]
kind_stays (m ∷ a ∷ ms) (n ∷ b ∷ ns) g = ap (λ w. Some (kind_of w)) g.0.width

pub entity_stays : (e : EntityTree) (ms next : List WrittenScope) (ty : TypeRef) → write_entity e ms ≡ Some (next, ty) → inner_kind ms ≡ inner_kind next
entity_stays e ms next ty is = kind_stays ms next (subst (λ w. Growing ms w) is (entity_grows e ms))

pub entries_stay : (item : List ℕ → TypeRef → DeclTree) (es : Entries) (ms next : List WrittenScope) → write_entries item es ms ≡ Some next → inner_kind ms ≡ inner_kind next
entries_stay item es ms next is = kind_stays ms next (subst (λ w. EntriesGrow ms w) is (entries_grow item es ms))

pub entry_stays : (item : List ℕ → TypeRef → DeclTree) (name : List ℕ) (e : EntityTree) (ty : TypeRef) (ms mid next : List WrittenScope) → write_entity e ms ≡ Some (mid, ty) → next ≡ with_named item name e ty mid → inner_kind ms ≡ inner_kind next
entry_stays item name e ty ms mid next first named =
    entity_stays e ms mid ty first ∙ kind_stays mid (with_named item name e ty mid) (named_grows item name e ty mid) ∙ ap inner_kind (sym named)

pub takes_still : (to : Side) (k l : Option Scope) → k ≡ l → IsSomeAnd k (Takes to) → IsSomeAnd l (Takes to)
takes_still to k l is h = subst (λ k. IsSomeAnd k (Takes to)) is h

-- ---- scopes that open and close

module _ (width : ℕ) (s : State) (inner : List WrittenScope) (is : inner ≡ opened width ∷ scopes s) where
  opened_kind : inner_kind inner ≡ Some (kind_of width)
  opened_kind = ap inner_kind is ∙ one (reverse (map scope_of s.1))
    where
      one : (ms : List WrittenScope) → inner_kind (opened width ∷ (ms ++ scope_of s.0 ∷ [])) ≡ Some (kind_of width)
      one [] = refl
      one (m ∷ ms) = refl

  no_builder : (b : Bool) → (if b then kind.Instance else kind.Component) ≢ kind.Builder
  no_builder true e = absurd cc
  no_builder false e = absurd cc

  pub exports_taken : IsSomeAnd (inner_kind inner) (Takes side.Exports)
  exports_taken = takes_still side.Exports (Some (kind_of width)) (inner_kind inner) (sym opened_kind) (no_builder (nat_lt width 2))

  pub instance_ends : (item : List ℕ → TypeRef → DeclTree) (es : Entries) (last : List WrittenScope) → width < 2 → write_entries item es inner ≡ Some last → inner_kind last ≡ Some kind.Instance
  instance_ends item es last few written =
      sym (entries_stay item es inner last written) ∙ opened_kind ∙ ap (λ b. Some (if b then kind.Instance else kind.Component)) (lt-ltb width 2 few)

module _ (s : State) (inner : List WrittenScope) (is : inner ≡ opened 2 ∷ scopes s) where
  pub imports_taken : IsSomeAnd (inner_kind inner) (Takes side.Imports)
  imports_taken = takes_still side.Imports (Some (kind_of 2)) (inner_kind inner) (sym (opened_kind 2 s inner is)) refl

  pub exports_taken_behind : (item : List ℕ → TypeRef → DeclTree) (es : Entries) (mid : List WrittenScope) → write_entries item es inner ≡ Some mid → IsSomeAnd (inner_kind mid) (Takes side.Exports)
  exports_taken_behind item es mid written = takes_still side.Exports (inner_kind inner) (inner_kind mid) (entries_stay item es inner mid written) (exports_taken 2 s inner is)

  pub component_ends : (import export : List ℕ → TypeRef → DeclTree) (imports es : Entries) (mid last : List WrittenScope) → write_entries import imports inner ≡ Some mid → write_entries export es mid ≡ Some last → inner_kind last ≡ Some kind.Component
  component_ends import export imports es mid last first second =
      sym (entries_stay import imports inner mid first ∙ entries_stay export es mid last second) ∙ opened_kind 2 s inner is
