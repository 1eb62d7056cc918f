-- The image of bundled items is that of the items, with components defined.
use Rattle.std.proofs.Common.{◌≡◌, ◌∙◌, ℕ, Bool, false, cond, List, [], ◌∷◌, Option, Some, None, refl, sym, ap}
use Rattle.std.specs.Prelude.{option_map, option_and_then, is_some}
use Rattle.std.specs.Option.{option_map_or}
use Rattle.std.proofs.lemmas.List.{map-append, length-map}
use Rattle.comp_format.specs.declared.types.Sort.TheVariants as sort
use Rattle.comp_format.specs.declared.types.TypeRef.{TypeRef}
use Rattle.comp_format.specs.declared.types.TypeRef.TheVariants as description
use Rattle.comp_format.specs.declared.types.InstanceItem.TheVariants as instance
use Rattle.comp_format.specs.declared.types.Alias.TheVariants as alias
use Rattle.comp_format.specs.Items.{ItemTree, ImportTree, ExportTree, Custom, CoreModule, CoreMade, CoreTy, Component, Instance, Aliased, Ty, Canonical, Import, Export}
use Rattle.comp_entity.specs.Entity.{EntityTree}
use Rattle.comp_scope.specs.Image.{ArgOf, ComponentOf, Defined, Imported, Left, Progress, arguments, as_component, as_part, exported, image, imported, indexed, nothing_seen, numbering, seen, seen_all, with_component, with_export, with_instance}
use Rattle.compose_bundle.specs.Bundled.{bundled, bundled_import, bundled_item, in_place}
use Rattle.compose_bundle.specs.Defined.{defined, defined_component, has_content}

map_then : {A B C D : Type 0} (f : A → B) (g : C → D) (h : A → Option C) (k : B → Option D) (o : Option A)
    → ((a : A) → k (f a) ≡ option_map g (h a))
    → option_and_then k (option_map f o) ≡ option_map g (option_and_then h o)
map_then f g h k None e = refl
map_then f g h k (Some a) e = e a

module _ (content : List ℕ → Option (List ℕ)) (shown : List (List ℕ × EntityTree)) where
  abbrev none_is : List ℕ → Bool
  none_is name = false

  -- what is seen, with its image's components defined
  abbrev turned : Progress → Progress
  turned p = record p { image = defined content shown p.image }

  component_turned : (p : Progress) (of : ComponentOf)
      → turned (with_component p of) ≡ with_component (turned p) (defined_component content of)
  component_turned p of =
      simp (map-append (defined_component content) p.image.components (of ∷ []), length-map p.image.components (defined_component content))

  placed_turned : (p : Progress) (i : ImportTree) (t : ℕ) (bytes : Option (List ℕ))
      → i.ty ≡ description.Component t
      → content i.name ≡ bytes
      → seen none_is (turned p) (in_place (Import i) bytes)
      ≡ Some (turned (cond (is_some bytes) (with_component p (Imported i.name)) (numbering p sort.Component (Left i.name))))
  unfolding seen
  placed_turned p i t (Some bytes) ty is =
      ap Some (ap (λ of. with_component (turned p) (option_map_or Defined of (Imported i.name))) (sym is)
      ∙ sym (component_turned p (Imported i.name)))
  placed_turned p i t None ty is = ap (λ ty. Some (imported none_is (turned p) i ty)) ty

  import_turned : (p : Progress) (i : ImportTree) (ty : TypeRef) → i.ty ≡ ty
      → seen none_is (turned p) (bundled_import content i ty) ≡ Some (turned (imported (has_content content) p i ty))
  unfolding seen
  import_turned p i (description.Component t) is = placed_turned p i t (content i.name) is refl
  import_turned p i (description.Module t) is = ap (λ ty. Some (imported none_is (turned p) i ty)) is
  import_turned p i (description.Func t) is = ap (λ ty. Some (imported none_is (turned p) i ty)) is
  import_turned p i (description.TyEqual t) is = ap (λ ty. Some (imported none_is (turned p) i ty)) is
  import_turned p i description.TyFresh is = ap (λ ty. Some (imported none_is (turned p) i ty)) is
  import_turned p i (description.Instance t) is = ap (λ ty. Some (imported none_is (turned p) i ty)) is

  instance_turned : (p : Progress) (n : Option ℕ) (given : Option (List (List ℕ × ArgOf)))
      → option_and_then (λ n. option_map (with_instance (turned p) n) given) n
      ≡ option_map turned (option_and_then (λ n. option_map (with_instance p n) given) n)
  instance_turned p None given = refl
  instance_turned p (Some n) None = refl
  instance_turned p (Some n) (Some given) = refl

  part_turned : (p : Progress) (e : ExportTree) (of : Option (ℕ × List ℕ))
      → option_map (with_export (turned p) e) of ≡ option_map turned (option_map (with_export p e) of)
  part_turned p e None = refl
  part_turned p e (Some of) = refl

  export_turned : (p : Progress) (e : ExportTree) (ty : Option TypeRef)
      → exported (turned p) e ty ≡ option_map turned (exported p e ty)
  export_turned p e (Some ty) = refl
  export_turned p e None = part_turned p e (as_part (indexed p e.sort e.index))

  item_turned : (p : Progress) (item : ItemTree)
      → seen none_is (turned p) (bundled_item content item) ≡ option_map turned (seen (has_content content) p item)
  unfolding seen
  item_turned p (Custom name bytes) = refl
  item_turned p (CoreModule bytes) = refl
  item_turned p (CoreMade item) = refl
  item_turned p (CoreTy item) = refl
  item_turned p (Component bytes) = ap Some (sym (component_turned p (Defined bytes)))
  item_turned p (Instance (instance.Instantiate component args)) =
      instance_turned p (as_component (indexed p sort.Component component)) (arguments p args)
  item_turned p (Instance (instance.Exports args)) = refl
  item_turned p (Aliased (alias.Export kind from name)) = refl
  item_turned p (Aliased (alias.CoreExport kind from name)) = refl
  item_turned p (Aliased (alias.Outer kind count index)) = refl
  item_turned p (Ty d) = refl
  item_turned p (Canonical c) = refl
  item_turned p (Import i) = import_turned p i i.ty refl
  item_turned p (Export e) = export_turned p e e.ty

  rest_turned : (items : List ItemTree) (now : Option Progress) (next : Option Progress)
      → ((p : Progress) → seen_all none_is (turned p) (bundled content items)
      ≡ option_map turned (seen_all (has_content content) p items))
      → next ≡ option_map turned now
      → option_and_then (λ p. seen_all none_is p (bundled content items)) next
      ≡ option_map turned (option_and_then (λ p. seen_all (has_content content) p items) now)
  rest_turned items None next later is = ap (option_and_then (λ p. seen_all none_is p (bundled content items))) is
  rest_turned items (Some p) next later is =
      ap (option_and_then (λ p. seen_all none_is p (bundled content items))) is ∙ later p

  all_turned : (items : List ItemTree) (p : Progress)
      → seen_all none_is (turned p) (bundled content items) ≡ option_map turned (seen_all (has_content content) p items)
  unfolding seen_all
  all_turned [] p = refl
  all_turned (item ∷ items) p =
      rest_turned items (seen (has_content content) p item) (seen none_is (turned p) (bundled_item content item))
      (all_turned items) (item_turned p item)

  image_turned : (o : Option Progress) (next : Option Progress) → next ≡ option_map turned o
      → option_map (λ (p : Progress). p.image) next
      ≡ option_map (defined content shown) (option_map (λ (p : Progress). p.image) o)
  image_turned None next is = ap (option_map (λ (p : Progress). p.image)) is
  image_turned (Some p) next is = ap (option_map (λ (p : Progress). p.image)) is

pub image_bundled : (content : List ℕ → Option (List ℕ)) (all shown : List (List ℕ × EntityTree)) (items : List ItemTree)
    → image (λ name. false) shown (bundled content items)
    ≡ option_map (defined content shown) (image (has_content content) all items)
image_bundled content all shown items =
    image_turned content shown (seen_all (has_content content) (nothing_seen all) items)
    (seen_all (λ name. false) (nothing_seen shown) (bundled content items))
    (all_turned content shown items (nothing_seen all))
