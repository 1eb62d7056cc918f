-- The link image depends on the names of components only where components are imported.
use Rattle.std.proofs.Common.{◌≡◌, ◌∙◌, ℕ, Bool, cond, List, [], ◌∷◌, Option, Some, None, Contains, refl, ap, arith}
use Rattle.std.specs.Prelude.{option_map, option_and_then}
use Rattle.std.proofs.lemmas.List.Elements.{Contains-append_right}
use Rattle.comp_format.specs.declared.types.Sort.TheVariants as sort
use Rattle.comp_format.specs.declared.types.TypeRef.{TypeRef}
use Rattle.comp_format.specs.declared.types.TypeRef.TheVariants as description
use Rattle.comp_format.specs.declared.types.InstanceItem.TheVariants as instance
use Rattle.comp_format.specs.declared.types.Alias.TheVariants as alias
use Rattle.comp_format.specs.Items.{ItemTree, ImportTree, Custom, CoreModule, CoreMade, CoreTy, Component, Instance, Aliased, Ty, Canonical, Import, Export}
use Rattle.comp_entity.specs.Entity.{EntityTree}
use Rattle.comp_scope.specs.Image.{Imported, Left, Progress, image, imported, nothing_seen, numbering, seen, seen_all, with_component}

module _ (one other : List ℕ → Bool) where
  import_alike : (p : Progress) (i : ImportTree) (ty : TypeRef) → one i.name ≡ other i.name
      → imported one p i ty ≡ imported other p i ty
  import_alike p i (description.Component t) e =
      ap (λ b. cond b (with_component p (Imported i.name)) (numbering p sort.Component (Left i.name))) e
  import_alike p i (description.Module t) e = refl
  import_alike p i (description.Func t) e = refl
  import_alike p i (description.TyEqual t) e = refl
  import_alike p i description.TyFresh e = refl
  import_alike p i (description.Instance t) e = refl

  item_alike : (p : Progress) (item : ItemTree) → ((i : ImportTree) → item ≡ Import i → one i.name ≡ other i.name)
      → seen one p item ≡ seen other p item
  unfolding seen
  item_alike p (Import i) e = ap Some (import_alike p i i.ty (e i refl))
  item_alike p (Custom name bytes) e = refl
  item_alike p (CoreModule bytes) e = refl
  item_alike p (CoreMade item) e = refl
  item_alike p (CoreTy item) e = refl
  item_alike p (Component bytes) e = refl
  item_alike p (Instance (instance.Instantiate component args)) e = refl
  item_alike p (Instance (instance.Exports args)) e = refl
  item_alike p (Aliased (alias.Export kind from name)) e = refl
  item_alike p (Aliased (alias.CoreExport kind from name)) e = refl
  item_alike p (Aliased (alias.Outer kind count index)) e = refl
  item_alike p (Ty d) e = refl
  item_alike p (Canonical c) e = refl
  item_alike p (Export x) e = refl

  rest_alike : (items : List ItemTree) (now next : Option Progress) → now ≡ next
      → ((p : Progress) → seen_all one p items ≡ seen_all other p items)
      → option_and_then (λ p. seen_all one p items) now ≡ option_and_then (λ p. seen_all other p items) next
  rest_alike items None next is later = ap (option_and_then (λ p. seen_all other p items)) is
  rest_alike items (Some p) next is later =
      later p ∙ ap (option_and_then (λ p. seen_all other p items)) is

  all_alike : (items : List ItemTree) → ((i : ImportTree) → Contains items (Import i) → one i.name ≡ other i.name)
      → (p : Progress)
      → seen_all one p items ≡ seen_all other p items
  unfolding seen_all
  all_alike [] e p = refl
  all_alike (item ∷ items) e p =
      rest_alike items (seen one p item) (seen other p item)
      (item_alike p item (λ i is. e i (0, omega arith, is)))
      (all_alike items (λ i there. e i (Contains-append_right (item ∷ []) items (Import i) there)))

-- items have one image by two tests that say the same of each name that they import
pub image_alike : (one other : List ℕ → Bool) (shown : List (List ℕ × EntityTree)) (items : List ItemTree)
    → ((i : ImportTree) → Contains items (Import i) → one i.name ≡ other i.name)
    → image one shown items ≡ image other shown items
image_alike one other shown items e =
    ap (option_map (λ (p : Progress). p.image)) (all_alike one other items e (nothing_seen shown))
