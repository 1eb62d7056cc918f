-- What is written for an import, as items of the outermost scope.
use Rattle.std.proofs.Common.{◌≡◌, ◌∙◌, ℕ, Bool, true, false, cond, List, [], ◌∷◌, ◌++◌, Option, Some, None, refl, sym, ap, subst}
use Rattle.std.specs.List.{AllByRecursion}
use Rattle.std.proofs.lemmas.List.{append-nil}
use Rattle.comp_format.specs.declared.types.TypeRef.{TypeRef}
use Rattle.comp_format.specs.Definitions as tree
use Rattle.comp_format.specs.Items.{ItemTree, Custom, CoreModule, CoreMade, CoreTy, Component, Instance, Aliased, Ty, Canonical, Import, Export}
use Rattle.comp_entity.specs.Entity.{EntityTree}
use Rattle.compose_left.specs.declared.spots.Spot.{Spot}
use Rattle.compose_writing.specs.Scopes.{WrittenScope, Wrote, declared}
use Rattle.compose_writing.specs.WriteEntities.{write_entity, write_import, with_named, counted}
use Rattle.compose_meaning.specs.Items.{items_for}
use Rattle.compose_image.specs.Additions.{Gains, GainsNoImport, IsNoImport}
use Rattle.compose_image.specs.Imports.{all_called}
use Rattle.compose_image.proofs.ImportLaws.{knowing_called}
use Rattle.compose_image.proofs.QuietLaws.{Adds, IsQuiet, Knowing, Quietly, QuietTo, counted_decls, knowing_noted, one_behind, quiet_entity}

quiet_imports_nothing : (item : ItemTree) → IsQuiet item → IsNoImport item
quiet_imports_nothing (Import i) h = h
quiet_imports_nothing (Custom name bytes) h = tt
quiet_imports_nothing (CoreModule bytes) h = tt
quiet_imports_nothing (CoreMade x) h = tt
quiet_imports_nothing (CoreTy x) h = tt
quiet_imports_nothing (Component bytes) h = tt
quiet_imports_nothing (Instance x) h = tt
quiet_imports_nothing (Aliased x) h = tt
quiet_imports_nothing (Ty x) h = tt
quiet_imports_nothing (Canonical x) h = tt
quiet_imports_nothing (Export x) h = tt

import_nothing : (items : List ItemTree) → AllByRecursion IsQuiet items → AllByRecursion IsNoImport items
import_nothing [] h = tt
import_nothing (item ∷ items) h = (quiet_imports_nothing item h.0, import_nothing items h.1)

gains_front : (m : WrittenScope) (next : List WrittenScope) → Quietly (m ∷ []) next → GainsNoImport m next
gains_front m [] q = absurd q
gains_front m (n ∷ []) q = record {
  items = q.0.items;
  no_import = import_nothing q.0.items q.0.quiet;
  gains = record { scope = n; alone = refl; gained = q.0.added };
}
gains_front m (n ∷ k ∷ next) q = absurd q.1

pub needs_gained : (e : EntityTree) (m : WrittenScope) (next : List WrittenScope) (ty : TypeRef)
    → write_entity e (m ∷ []) ≡ Some (next, ty) → GainsNoImport m next
needs_gained e m next ty is =
    gains_front m next (subst (λ (w : Wrote TypeRef). QuietTo (m ∷ []) w) is (quiet_entity e (m ∷ [])))

gains_known : (m k : WrittenScope) (next : List WrittenScope) (items : List ItemTree)
    → items_for k.decls ≡ items_for m.decls ++ items → Knowing (k ∷ []) next → Gains m next items
gains_known m k [] items h q = absurd q
gains_known m k (n ∷ next) items h q =
    record { scope = n; alone = ap (λ rest. n ∷ rest) q.1; gained = ap items_for q.0 ∙ h }

pub item_gained : (name : List ℕ) (e : EntityTree) (ty : TypeRef) (m : WrittenScope)
    → Gains m (write_import name e ty (m ∷ [])) (Import (record { name = name; ty = ty }) ∷ [])
unfolding with_named
item_gained name e ty m =
    let named = counted ty (declared (tree.Import name ty) m) in
    gains_known m named _ _
    (ap items_for (counted_decls ty (declared (tree.Import name ty) m)) ∙ one_behind m.decls (tree.Import name ty))
    (knowing_noted e m (named ∷ []))

pub calls_gained : (index : ℕ) (calls : List Spot) (m : WrittenScope) → Gains m (all_called index calls (m ∷ [])) []
calls_gained index calls m =
    gains_known m m _ [] (sym (append-nil (items_for m.decls))) (knowing_called index calls (m ∷ []))
