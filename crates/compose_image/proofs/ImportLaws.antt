-- The items of imports: of each import the types and aliases that it needs, and then the import.
use Rattle.std.proofs.Common.{◌≡◌, ◌∙◌, ℕ, Bool, true, false, cond, List, [], ◌∷◌, ◌++◌, Option, Some, None, option_and_then, option_map, refl, sym, ap, subst}
use Rattle.std.specs.List.{AllByRecursion}
use Rattle.std.proofs.lemmas.List.{append-nil, append_assoc}
use Rattle.comp_format.specs.declared.types.TypeRef.{TypeRef}
use Rattle.comp_format.specs.declared.types.TypeRef.TheVariants as description
use Rattle.comp_format.specs.Definitions as tree
use Rattle.comp_format.specs.Items.{ItemTree, Import}
use Rattle.comp_encoder.specs.Writing.{described_sort}
use Rattle.comp_entity.specs.Entity.{Value, Resource, Func, Instance, Component, EntityTree, IsType, IsFunc, IsInstance, IsComponent, IsModule, IsOwnModule}
use Rattle.comp_scope.specs.Spaces.{sort_of}
use Rattle.compose_left.specs.declared.spots.Spot.{Spot}
use Rattle.compose_order.specs.Needs.{LeftTree}
use Rattle.compose_writing.specs.Scopes.{WrittenScope, Wrote, wrote_as, declared, knows, outermost}
use Rattle.compose_writing.specs.WriteEntities.{write_entity, write_type, write_import, write_resource, with_named, write_also, counted}
use Rattle.comp_entity.specs.Names.{OfResource}
use Rattle.compose_meaning.specs.Items.{items_for}
use Rattle.compose_naming.specs.Settled.{name_in}
use Rattle.compose_image.specs.Imports.{write_left, write_lefts, all_called, called_too, place_in, import_items, items_in}
use Rattle.compose_image.proofs.QuietLaws.{IsQuiet, Adds, QuietTo, Quietly, quiet_entity, Knowing, knowing_here, knowing_on, knowing_new, knowing_noted, counted_decls, one_behind}

-- ---- sorts

-- what is written for an entity describes one of its sort
abbrev IsOfSort : EntityTree → Wrote TypeRef → Type 0
IsOfSort e None = Unit {0}
IsOfSort e (Some x) = described_sort x.1 ≡ sort_of e

of_sort_as : {X : Type 0} (e : EntityTree) (f : X → TypeRef) (w : Wrote X)
    → ((x : X) → described_sort (f x) ≡ sort_of e) → IsOfSort e (wrote_as f w)
of_sort_as e f None h = tt
of_sort_as e f (Some x) h = h x.1

of_sort : (e : EntityTree) (ms : List WrittenScope) → IsOfSort e (write_entity e ms)
unfolding write_entity write_type
of_sort (IsType (Value t)) ms = of_sort_as (IsType (Value t)) description.TyEqual _ (λ i. refl)
of_sort (IsType (Resource r)) ms = by (knows ms (OfResource r))
  where
    by : (is_known : Bool) → IsOfSort (IsType (Resource r)) (write_resource r is_known ms)
    by true = of_sort_as (IsType (Resource r)) description.TyEqual _ (λ i. refl)
    by false = refl
of_sort (IsType (Func f)) ms = of_sort_as (IsType (Func f)) description.TyEqual _ (λ i. refl)
of_sort (IsType (Instance es)) ms = of_sort_as (IsType (Instance es)) description.TyEqual _ (λ i. refl)
of_sort (IsType (Component is es)) ms = of_sort_as (IsType (Component is es)) description.TyEqual _ (λ i. refl)
of_sort (IsFunc f) ms = of_sort_as (IsFunc f) description.Func _ (λ i. refl)
of_sort (IsInstance es) ms = of_sort_as (IsInstance es) description.Instance _ (λ i. refl)
of_sort (IsComponent is es) ms = of_sort_as (IsComponent is es) description.Component _ (λ i. refl)
of_sort (IsModule m) ms = of_sort_as (IsModule m) description.Module _ (λ i. refl)
of_sort IsOwnModule ms = tt

-- ---- one import

-- what is written for an import: types and aliases, and its item
pub record Taken (l : LeftTree) : Type 0 where
  pub front : List ItemTree
  pub ty : TypeRef
  pub quiet : AllByRecursion IsQuiet front
  pub kind : described_sort ty ≡ sort_of l.entity

abbrev pub import_item : (l : LeftTree) → Taken l → ItemTree
import_item l t = Import (record { name = l.name; ty = t.ty })

abbrev pub taken_items : (l : LeftTree) → Taken l → List ItemTree
taken_items l t = t.front ++ import_item l t ∷ []

record IsTaken (l : LeftTree) (m : WrittenScope) (ns : List WrittenScope) : Type 0 where
  taken : Taken l
  n : WrittenScope
  alone : ns ≡ n ∷ []
  items : items_for n.decls ≡ items_for m.decls ++ taken_items l taken

pub knowing_called : (index : ℕ) (ss : List Spot) (ms : List WrittenScope) → Knowing ms (all_called index ss ms)
unfolding all_called
knowing_called index [] ms = knowing_here ms
knowing_called index (s ∷ ss) ms =
    knowing_on ms (called_too index s ms) _ (by s.what.is_type) (knowing_called index ss (called_too index s ms))
  where
    by : (b : Bool) → Knowing ms (cond b (write_also (name_in s.what) index s.path ms) ms)
    by true = knowing_new _ _ ms
    by false = knowing_here ms

-- the import behind what it needs
module _ (l : LeftTree) (m n : WrittenScope) (ty : TypeRef) (adds : Adds m n)
    (kind : described_sort ty ≡ sort_of l.entity) where
  named : WrittenScope
  named = counted ty (declared (tree.Import l.name ty) n)

  of_known : (ns : List WrittenScope) → Knowing (named ∷ []) ns → IsTaken l m ns
  unfolding named
  of_known [] h = absurd h
  of_known (k ∷ ks) h = record {
    taken = record { front = adds.items; ty = ty; quiet = adds.quiet; kind = kind };
    n = k;
    alone = ap (λ rest. k ∷ rest) h.1;
    items =
        ap items_for (h.0 ∙ counted_decls ty (declared (tree.Import l.name ty) n))
        ∙ one_behind n.decls (tree.Import l.name ty)
        ∙ ap (λ items. items ++ Import (record { name = l.name; ty = ty }) ∷ []) adds.added
        ∙ append_assoc (items_for m.decls) adds.items _;
  }

  import_taken : (index : ℕ) → IsTaken l m (all_called index l.calls (write_import l.name l.entity ty (n ∷ [])))
  unfolding named with_named
  import_taken index =
      of_known _
      (knowing_on (named ∷ []) (write_import l.name l.entity ty (n ∷ [])) _ (knowing_noted l.entity n (named ∷ []))
      (knowing_called index l.calls (write_import l.name l.entity ty (n ∷ []))))

left_taken : (l : LeftTree) (m : WrittenScope) (ns : List WrittenScope) → write_left l (m ∷ []) ≡ Some ns
    → IsTaken l m ns
left_taken l m ns e = by (write_entity l.entity (m ∷ [])) (quiet_entity l.entity (m ∷ [])) (of_sort l.entity (m ∷ [])) e
  where
    written : List WrittenScope × TypeRef → List WrittenScope
    written x = all_called (place_in l.entity x.0) l.calls (write_import l.name l.entity x.1 x.0)

    one : (ks : List WrittenScope) (ty : TypeRef) → Quietly (m ∷ []) ks → described_sort ty ≡ sort_of l.entity
        → written (ks, ty) ≡ ns → IsTaken l m ns
    one [] ty q s f = absurd q
    one (k ∷ []) ty q s f = subst (IsTaken l m) f (import_taken l m k ty q.0 s (place_in l.entity (k ∷ [])))
    one (k ∷ j ∷ ks) ty q s f = absurd q.1

    by : (w : Wrote TypeRef) → QuietTo (m ∷ []) w → IsOfSort l.entity w → option_map written w ≡ Some ns
        → IsTaken l m ns
    by None q s f = absurd cc
    by (Some x) q s f = let g : written x ≡ ns = cc in one x.0 x.1 q s g

-- ---- all imports

-- what is written for imports, one behind the other
abbrev pub AreTaken : List LeftTree → List ItemTree → Type 0
AreTaken [] items = items ≡ []
AreTaken (l ∷ ls) items = (t : Taken l) × (rest : List ItemTree) × (items ≡ taken_items l t ++ rest) × AreTaken ls rest

record HasTaken (ls : List LeftTree) (m : WrittenScope) (ns : List WrittenScope) : Type 0 where
  n : WrittenScope
  alone : ns ≡ n ∷ []
  rest : List ItemTree
  items : items_for n.decls ≡ items_for m.decls ++ rest
  taken : AreTaken ls rest

lefts_taken : (ls : List LeftTree) (m : WrittenScope) (ns : List WrittenScope) → write_lefts ls (m ∷ []) ≡ Some ns
    → HasTaken ls m ns
unfolding write_lefts
lefts_taken [] m ns e = record {
  n = m;
  alone = let h : ns ≡ m ∷ [] = cc in h;
  rest = [];
  items = sym (append-nil (items_for m.decls));
  taken = refl;
}
lefts_taken (l ∷ ls) m ns e = by (write_left l (m ∷ [])) (left_taken l m) e (λ n h. lefts_taken ls n ns h)
  where
    behind : (n : WrittenScope) (t : Taken l) → items_for n.decls ≡ items_for m.decls ++ taken_items l t
        → HasTaken ls n ns → HasTaken (l ∷ ls) m ns
    behind n t items h = record {
      n = h.n;
      alone = h.alone;
      rest = taken_items l t ++ h.rest;
      items = h.items ∙ ap (λ xs. xs ++ h.rest) items ∙ append_assoc (items_for m.decls) (taken_items l t) h.rest;
      taken = (t, h.rest, refl, h.taken);
    }

    by : (w : Option (List WrittenScope)) → ((ks : List WrittenScope) → w ≡ Some ks → IsTaken l m ks)
        → option_and_then (write_lefts ls) w ≡ Some ns
        → ((n : WrittenScope) → write_lefts ls (n ∷ []) ≡ Some ns → HasTaken ls n ns) → HasTaken (l ∷ ls) m ns
    by None h f more = absurd cc
    by (Some ks) h f more =
        let t = h ks refl in behind t.n t.taken t.items (more t.n (ap (write_lefts ls) (sym t.alone) ∙ f))

pub imports_taken : (ls : List LeftTree) (items : List ItemTree) → import_items ls ≡ Some items → AreTaken ls items
imports_taken ls items e = by (write_lefts ls (outermost ∷ [])) (lefts_taken ls outermost) e
  where
    by : (w : Option (List WrittenScope)) → ((ns : List WrittenScope) → w ≡ Some ns → HasTaken ls outermost ns)
        → option_and_then items_in w ≡ Some items → AreTaken ls items
    by None h f = absurd cc
    by (Some ns) h f =
        let t = h ns refl in
        let g : Some (items_for t.n.decls) ≡ Some items = ap items_in (sym t.alone) ∙ f in
        let same : items_for t.n.decls ≡ items = cc in
        subst (AreTaken ls) (sym t.items ∙ same) t.taken
