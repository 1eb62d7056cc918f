-- Laws of exports of a component.
use Rattle.std.specs.Prelude.{◌≡◌, ℕ, ◌+◌, Bool, true, false, cond, not, List, map, Option, Result, Ok, Err, refl}
use Rattle.std.proofs.Common.{sym, ◌∙◌, ap, subst, arith}
use Rattle.warg_values.specs.Reading.{◌>>=◌}
use Rattle.comp_declare.specs.declared.entries.Entries.{Entries}
use Rattle.comp_declare.specs.declared.scope.Scope.{Scope}
use Rattle.comp_declare.specs.Scopes.{ShowsEntries, ShowsScope, plain_entry}
use Rattle.comp_entity.specs.Bounds.{ShapeFault, Index, DoesNotFit, bounded}
use Rattle.comp_entity.specs.Entity.{made, Value, Resource, Func, Instance, Component, EntityTree, IsType, IsFunc, IsInstance, IsComponent, IsModule, IsOwnModule}
use Rattle.comp_entity.specs.Fits.{Stands, fits_with, same_name, stands}
use Rattle.comp_entity.specs.Names.{changing, entity_by}
use Rattle.comp_format.specs.declared.types.Sort.{Sort}
use Rattle.comp_format.specs.declared.types.Sort.TheVariants as sort
use Rattle.comp_format.specs.declared.types.TypeRef.{TypeRef}
use Rattle.comp_instance.specs.declared.instantiating.Describing.{Describing}
use Rattle.comp_instance.specs.declared.own_modules.Within.TheVariants as within
use Rattle.comp_instance.specs.Exports.{ShowsDescribing, exported_item, if_typed, plain_item, with_exported}
use Rattle.comp_instance.specs.OwnModules.{holds}
use Rattle.comp_instance.specs.Renamed.{description_place, description_resource, fitted}
use Rattle.comp_instance.proofs.OwnLaws.{typed_is}
use Rattle.comp_scope.specs.Descriptions.{Described, described_type, named_by, names_a_place, new_made}
use Rattle.comp_scope.specs.Exports.{exported, exported_as, fitted_place, fitted_resource, fitting, is_typed, plain_export}
use Rattle.comp_scope.specs.Spaces as scope
use Rattle.comp_scope.specs.Spaces.{Known, Spaces, if_new, is_taken, sort_of, standing}
use Rattle.comp_space.specs.declared.error.ScopeError.{ScopeError}
use Rattle.comp_space.specs.Faults.{Fails}
use Rattle.comp_space.specs.StandingLaws.{fails_same, same_fault, shows_kept, then_first}
use Rattle.comp_space.specs.Descriptions.{ShowsDescribed}
use Rattle.comp_space.specs.declared.descriptions.Described as described
use Rattle.comp_space.specs.SpaceLaws.{space_kept}
use Rattle.comp_table.specs.declared.head.Head.TheVariants as head
use Rattle.comp_table.specs.Plain.{around, plain_entity}
use Rattle.comp_table.specs.StandLaws.{all_kept}
use Rattle.comp_table.specs.Trees.{Extends, PlainTree}
use Rattle.comp_table.specs.Trees as table

-- an export without a description
pub type_export : (s : Spaces) (e : EntityTree) (b : Bool) → sort_of e ≡ sort.Ty → described_type (new_made s) (e, b) ≡ plain_export s (e, b)
type_export s (IsType (Value v)) b is = let none : s.made.places + 0 ≡ s.made.places = omega arith in
    ap (λ n. Ok (record { standing = (IsType (named_by (made n) (Value v)), b); brings = record { resources = 0; places = names_a_place (Value v) } })) none
type_export s (IsType (Resource r)) b is = refl
type_export s (IsType (Func f)) b is = refl
type_export s (IsType (Instance es)) b is = refl
type_export s (IsType (Component is' es)) b is = refl
type_export s (IsFunc f) b is = absurd cc
type_export s (IsInstance es) b is = absurd cc
type_export s (IsComponent is' es) b is = absurd cc
type_export s (IsModule m) b is = absurd cc
type_export s IsOwnModule b is = absurd cc

pub item_export : (s : Spaces) (e : EntityTree) (b : Bool) → (sort_of e ≡ sort.Ty → ⊥) → plain_item (e, b) ≡ plain_export s (e, b)
item_export s (IsType t) b other = absurd (other refl)
item_export s (IsFunc f) b other = refl
item_export s (IsInstance es) b other = refl
item_export s (IsComponent is es) b other = refl
item_export s (IsModule m) b other = refl
item_export s IsOwnModule b other = refl

-- an export as described
pub description_is : (r : Describing) (s : Spaces) (there : List Stands) → ShowsDescribing r s there → changing (description_resource r) (description_place r) ≡ changing (fitted_resource s there) (fitted_place s there)
description_is r s there names = λ i. changing (λ n. names.resources n i) (λ n. names.places n i)

pub fitting_is : (s : Spaces) (e : EntityTree) (b : Bool) (d : Described) → fitting s (e, b) d ≡ (fitted (changing (fitted_resource s (stands e d.standing.0)) (fitted_place s (stands e d.standing.0))) e d.standing.0 >>= λ a. Ok (record d { standing = (a, d.standing.1) }))
fitting_is s e b d = by (fits_with same_name e (entity_by (changing (fitted_resource s (stands e d.standing.0)) (fitted_place s (stands e d.standing.0))) 0 d.standing.0)) (entity_by (changing (fitted_resource s (stands e d.standing.0)) (fitted_place s (stands e d.standing.0))) 0 d.standing.0)
  where
    by : (c : Bool) (a : EntityTree) → cond c (Ok (record d { standing = (a, d.standing.1) })) (Err DoesNotFit) ≡ (cond c (Ok a) (Err DoesNotFit) >>= λ a. Ok (record d { standing = (a, d.standing.1) }))
    by true a = refl
    by false a = refl

-- what has a type
module _ (ts : List PlainTree) (n : ℕ) (e : EntityTree) (s : table.Stands ts n (plain_entity e)) where
  typed_by : (b : Bool) → holds within.Instances (table.tree_at ts n) ≡ b → is_typed e ≡ not b
  typed_by b h = typed_is e ∙ ap not (sym (ap (holds within.Instances) s.tree_is) ∙ h)

  pub untyped : {X : Type 0} (x : X) → holds within.Instances (table.tree_at ts n) ≡ true → if_typed e x ≡ Err Index
  untyped x h = ap (λ b. cond b (Ok x) (Err Index)) (typed_by true h)

  pub typed : {X : Type 0} (x : X) → holds within.Instances (table.tree_at ts n) ≡ false → if_typed e x ≡ Ok x
  typed x h = ap (λ b. cond b (Ok x) (Err Index)) (typed_by false h)

module _ {X Y : Type 0} (e : EntityTree) (x : X) (y : Y) where
  pub typed_fails : (error : ScopeError) → Fails error (if_typed e x) → Fails error (if_typed e y)
  typed_fails error h = fails_same (if_typed e x) (if_typed e y) error (λ fault. by (is_typed e) fault) h
    where
      by : (b : Bool) (fault : ShapeFault) → cond b (Ok x) (Err Index) ≡ Err fault → cond b (Ok y) (Err Index) ≡ Err fault
      by true fault h = absurd cc
      by false fault h = ap Err (same_fault Index fault h)

  pub typed_goes : if_typed e x ≡ Ok x → if_typed e y ≡ Ok y
  typed_goes h = by (is_typed e) h
    where
      by : (b : Bool) → cond b (Ok x) (Err Index) ≡ Ok x → cond b (Ok y) (Err Index) ≡ Ok y
      by true h = refl
      by false h = absurd cc

-- an export is put behind the others
abbrev export_rest : Known → List ℕ → Sort → ℕ → Option TypeRef → Result Known ShapeFault
export_rest k name kind index ty =
    standing k.spaces kind index >>= λ item. cond (is_typed item.0) (exported_as k.spaces item ty) (Err Index) >>= λ d. with_exported k name d

pub export_free : (k : Known) (name : List ℕ) (kind : Sort) (index : ℕ) (ty : Option TypeRef) → is_taken name k.exports ≡ false → exported bounded k (record { name = name; sort = kind; index = index; ty = ty }) ≡ (exported_item k.spaces kind index ty >>= λ d. with_exported k name d)
unfolding exported
export_free k name kind index ty free =
    ap (λ b. cond b (Err Index) (export_rest k name kind index ty)) free
    ∙ then_first (standing k.spaces kind index) _ (λ item. if_typed item.0 item >>= λ item. exported_as k.spaces item ty) (λ d. with_exported k name d) (λ item. by item (is_typed item.0))
  where
    by : (item : scope.Standing) (b : Bool) → (cond b (exported_as k.spaces item ty) (Err Index) >>= λ d. with_exported k name d) ≡ ((cond b (Ok item) (Err Index) >>= λ item. exported_as k.spaces item ty) >>= λ d. with_exported k name d)
    by item true = refl
    by item false = refl

pub export_taken : (k : Known) (name : List ℕ) (kind : Sort) (index : ℕ) (ty : Option TypeRef) → is_taken name k.exports ≡ true → exported bounded k (record { name = name; sort = kind; index = index; ty = ty }) ≡ Err Index
unfolding exported
export_taken k name kind index ty taken = ap (λ b. cond b (Err Index) (export_rest k name kind index ty)) taken

-- a table that grows shows the same
entries_kept : (ts us : List PlainTree) → Extends ts us → (part : Entries) (entries : List (List ℕ × scope.Standing)) → ShowsEntries ts part entries → ShowsEntries us part entries
entries_kept ts us grown part entries shows = record { stand = all_kept ts us grown part.numbers.items (map plain_entry entries) shows.stand; names_are = shows.names_are }

pub scope_kept : (ts us : List PlainTree) → Extends ts us → (part : Scope) (k : Known) → ShowsScope ts part k → ShowsScope us part k
scope_kept ts us grown part k shows = record {
  spaces = space_kept ts us grown part.space k.spaces shows.spaces;
  imports = entries_kept ts us grown part.imports k.imports shows.imports;
  exports = entries_kept ts us grown part.exports k.exports shows.exports;
}

pub described_kept : (ts us : List PlainTree) → Extends ts us → (x : described.Described) (d : Described) → ShowsDescribed ts x d → ShowsDescribed us x d
described_kept ts us grown x d shows = record { standing = shows_kept plain_entity ts us grown x.standing d.standing shows.standing; brings = shows.brings }

pub entry_as_shown : (ts : List PlainTree) (n : ℕ) (name : List ℕ) (b : Bool) (e : scope.Standing) → b ≡ e.1 → table.Stands ts n (plain_entry (name, (e.0, b))) → table.Stands ts n (plain_entry (name, e))
entry_as_shown ts n name b e is s = subst (λ c. table.Stands ts n (around (head.Entry c name) (plain_entity e.0))) is s
