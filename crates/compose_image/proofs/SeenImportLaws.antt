-- The items of imports are seen: components of which instances are made, and what is left open.
use Rattle.std.proofs.Common.{◌≡◌, ◌∙◌, ℕ, Bool, true, false, cond, List, [], ◌∷◌, ◌++◌, length, map, Some, refl, sym, ap, subst}
use Rattle.std.specs.Prelude.{bytes_eq}
use Rattle.std.specs.List.{AllByRecursion}
use Rattle.std.proofs.lemmas.Bool.{false_from_ne_true, false≢true}
use Rattle.std.proofs.lemmas.List.{append-nil, append_assoc}
use Rattle.std.proofs.lemmas.Slice.Eq.{bytes_eq-Decides}
use Rattle.comp_format.specs.declared.types.Sort.TheVariants as sort
use Rattle.comp_format.specs.declared.types.TypeRef.{TypeRef}
use Rattle.comp_format.specs.declared.types.TypeRef.TheVariants as description
use Rattle.comp_format.specs.Items.{ItemTree, Import, Component}
use Rattle.comp_encoder.specs.Writing.{described_sort, numbered}
use Rattle.comp_scope.specs.Image.{Defined, Imported, Left, OfComponent, Progress, imported, numbering, seen, with_component}
use Rattle.comp_scope.specs.Spaces.{sort_of}
use Rattle.compose_order.specs.Needs.{LeftTree}
use Rattle.compose_check.specs.Composition.{ComponentTree}
use Rattle.compose_image.specs.Imports.{component_import}
use Rattle.compose_image.specs.Instances.{import_index}
use Rattle.compose_image.specs.Writable.{HaveOwnNames, is_of}
use Rattle.compose_image.specs.CompositionImage.{component_image}
use Rattle.compose_image.proofs.ListLaws.{all_after, all_append, none_found}
use Rattle.compose_image.proofs.QuietLaws.{IsQuiet}
use Rattle.compose_image.proofs.SpaceLaws.{Counts, Stands}
use Rattle.compose_image.proofs.ImportLaws.{AreTaken, Taken, import_item, taken_items}
use Rattle.compose_image.proofs.PassLaws.{HoldsComponents, Passes, PassesComponents, Steps, no_components, one_component, passes_none, passes_on, passes_one, quiet_passes, stands_last}

-- ---- the index of the import of a name

-- no import of this name
abbrev pub IsOther : List ℕ → ItemTree → Type 0
IsOther name (Import i) = bytes_eq name i.name ≡ false
IsOther name _ = Unit {0}

quiet_other : (name : List ℕ) (item : ItemTree) → IsQuiet item → IsOther name item
quiet_other name (Import i) h = absurd h
quiet_other name _ h = tt

pub index_past : (name : List ℕ) (before items rest : List ItemTree) → AllByRecursion (IsOther name) items
    → import_index name before (items ++ rest) ≡ import_index name (before ++ items) rest
unfolding import_index
index_past name before [] rest a = ap (λ front. import_index name front rest) (sym (append-nil before))
index_past name before (Import i ∷ items) rest a =
    ap
    (λ b. cond b (numbered (described_sort i.ty) before) (import_index name (before ++ Import i ∷ []) (items ++ rest)))
    a.0
    ∙ index_past name (before ++ Import i ∷ []) items rest a.1
    ∙ ap (λ front. import_index name front rest) (append_assoc before (Import i ∷ []) items)
index_past name before (item ∷ items) rest a =
    index_past name (before ++ item ∷ []) items rest a.1
    ∙ ap (λ front. import_index name front rest) (append_assoc before (item ∷ []) items)

index_here : (l : LeftTree) (t : Taken l) (before rest : List ItemTree)
    → import_index l.name before (taken_items l t ++ rest) ≡ numbered (sort_of l.entity) (before ++ t.front)
unfolding import_index
index_here l t before rest =
    ap (import_index l.name before) (append_assoc t.front (import_item l t ∷ []) rest)
    ∙ index_past l.name before t.front (import_item l t ∷ rest)
    (all_after IsQuiet (IsOther l.name) t.front (quiet_other l.name) t.quiet)
    ∙ ap
    (λ b. cond b (numbered (described_sort t.ty) (before ++ t.front))
    (import_index l.name ((before ++ t.front) ++ import_item l t ∷ []) rest))
    ((bytes_eq-Decides l.name l.name).1 refl)
    ∙ ap (λ kind. numbered kind (before ++ t.front)) t.kind

taken_other : (name : List ℕ) (l : LeftTree) (t : Taken l) → bytes_eq name l.name ≡ false
    → AllByRecursion (IsOther name) (taken_items l t)
taken_other name l t e =
    all_append (IsOther name) t.front (import_item l t ∷ [])
    (all_after IsQuiet (IsOther name) t.front (quiet_other name) t.quiet) (e, tt)

pub all_other : (name : List ℕ) (ls : List LeftTree) (items : List ItemTree)
    → AllByRecursion (λ (l : LeftTree). bytes_eq name l.name ≡ false) ls → AreTaken ls items
    → AllByRecursion (IsOther name) items
all_other name [] items a t = subst (AllByRecursion (IsOther name)) (sym t) tt
all_other name (l ∷ ls) items a t =
    subst (AllByRecursion (IsOther name)) (sym t.2)
    (all_append (IsOther name) (taken_items l t.0) t.1 (taken_other name l t.0 a.0) (all_other name ls t.1 a.1 t.3))

-- two imports in two parts
pub record TakenInTwo (xs ys : List LeftTree) (items : List ItemTree) : Type 0 where
  pub first : List ItemTree
  pub second : List ItemTree
  pub both : items ≡ first ++ second
  pub of_first : AreTaken xs first
  pub of_second : AreTaken ys second

pub taken_in_two : (xs ys : List LeftTree) (items : List ItemTree) → AreTaken (xs ++ ys) items → TakenInTwo xs ys items
taken_in_two [] ys items t = record { first = []; second = items; both = refl; of_first = refl; of_second = t }
taken_in_two (x ∷ xs) ys items t =
    let later = taken_in_two xs ys t.1 t.3 in
    record {
      first = taken_items x t.0 ++ later.first;
      second = later.second;
      both =
          t.2 ∙ ap (λ rest. taken_items x t.0 ++ rest) later.both
          ∙ sym (append_assoc (taken_items x t.0) later.first later.second);
      of_first = (t.0, later.first, refl, later.of_first);
      of_second = later.of_second;
    }

-- what is not the name of an earlier one
pub other_name : (x y : List ℕ) → bytes_eq x y ≡ false → bytes_eq y x ≡ false
other_name x y e =
    false_from_ne_true (bytes_eq y x)
    (λ h. false≢true (sym e ∙ (bytes_eq-Decides x y).1 (sym ((bytes_eq-Decides y x).0 h))))

module _ (is_component : List ℕ → Bool) where
  -- ---- what is left open

  left_steps : (p : Progress) (l : LeftTree) (t : Taken l) → is_component l.name ≡ false
      → Steps is_component p (import_item l t) (sort_of l.entity) (Left l.name)
      (numbering p (sort_of l.entity) (Left l.name))
  unfolding seen
  left_steps p l t e = record {
    next = ap Some (by t.ty ∙ ap (λ kind. numbering p kind (Left l.name)) t.kind);
    more = refl;
    sort = ap Some t.kind;
  }
    where
      by : (ty : TypeRef)
          → imported is_component p (record { name = l.name; ty = t.ty }) ty
          ≡ numbering p (described_sort ty) (Left l.name)
      by (description.Component i) =
          ap (λ b. cond b (with_component p (Imported l.name)) (numbering p sort.Component (Left l.name))) e
      by (description.Module i) = refl
      by (description.Func i) = refl
      by (description.TyEqual i) = refl
      by description.TyFresh = refl
      by (description.Instance i) = refl

  abbrev pub StandsLeft : Progress → List ItemTree → List ItemTree → LeftTree → Type 0
  StandsLeft q before items l = Stands q.numbered (sort_of l.entity) (import_index l.name before items) (Left l.name)

  -- What is left open stands where the import of its name is, and has no part in the image yet.
  pub record PassesLefts (p : Progress) (before items : List ItemTree) (ls : List LeftTree) : Type 0 where
    pub q : Progress
    pub passes : Passes is_component p before items q
    pub image : q.image ≡ p.image
    pub lefts : AllByRecursion (StandsLeft q before items) ls

  later_lefts : (q : Progress) (l : LeftTree) (t : Taken l) (before items : List ItemTree) (ls : List LeftTree)
      → AllByRecursion (λ m. is_of l.name m ≡ false) ls
      → AllByRecursion (StandsLeft q (before ++ taken_items l t) items) ls
      → AllByRecursion (StandsLeft q before (taken_items l t ++ items)) ls
  later_lefts q l t before items [] a b = tt
  later_lefts q l t before items (m ∷ ls) a b = (
    subst (λ n. Stands q.numbered (sort_of m.entity) n (Left m.name))
        (sym (index_past m.name before (taken_items l t) items (taken_other m.name l t (other_name l.name m.name a.0))))
        b.0,
    later_lefts q l t before items ls a.1 b.1,
  )

  pub lefts_pass : (p : Progress) (before items : List ItemTree) (ls : List LeftTree) → Counts before p.numbered
      → AreTaken ls items → HaveOwnNames ls → AllByRecursion (λ (l : LeftTree). is_component l.name ≡ false) ls
      → PassesLefts p before items ls
  lefts_pass p before items [] h t own others = record {
    q = p;
    passes = subst (λ xs. Passes is_component p before xs p) (sym t) (passes_none is_component p before h);
    image = refl;
    lefts = tt;
  }
  lefts_pass p before items (l ∷ ls) h t own others =
      let quietly = quiet_passes is_component p before t.0.front h t.0.quiet in
      let steps = left_steps quietly.q l t.0 others.0 in
      let next = numbering quietly.q (sort_of l.entity) (Left l.name) in
      let one = passes_one is_component quietly.q next (before ++ t.0.front) (import_item l t.0) (sort_of l.entity)
      (Left l.name) quietly.passes.counts steps in
      let first = passes_on is_component p quietly.q next before t.0.front (import_item l t.0 ∷ []) quietly.passes
      one in
      let later = lefts_pass next (before ++ taken_items l t.0) t.1 ls first.counts t.3 own.1 others.1 in
      let here = later.passes.stays.still (sort_of l.entity) (numbered (sort_of l.entity) (before ++ t.0.front))
      (Left l.name)
      (stands_last is_component quietly.q next (before ++ t.0.front) (import_item l t.0) (sort_of l.entity)
      (Left l.name) quietly.passes.counts steps) in
      subst (λ xs. PassesLefts p before xs (l ∷ ls)) (sym t.2) (record {
        q = later.q;
        passes = passes_on is_component p next later.q before (taken_items l t.0) t.1 first later.passes;
        image = later.image ∙ quietly.image;
        lefts = (
          subst (λ n. Stands later.q.numbered (sort_of l.entity) n (Left l.name)) (sym (index_here l t.0 before t.1))
              here,
          later_lefts later.q l t.0 before t.1 ls (none_found (is_of l.name) ls own.0) later.lefts,
        );
      })

  -- ---- components

  component_steps : (p : Progress) (k : ComponentTree) (t : Taken (component_import k)) → is_component k.name ≡ true
      → Steps is_component p (import_item (component_import k) t) sort.Component
      (OfComponent (length p.image.components)) (with_component p (Imported k.name))
  unfolding seen
  component_steps p k t e = record { next = ap Some (by t.ty t.kind); more = refl; sort = ap Some t.kind }
    where
      by : (ty : TypeRef) → described_sort ty ≡ sort.Component
          → imported is_component p (record { name = k.name; ty = t.ty }) ty ≡ with_component p (Imported k.name)
      by (description.Component i) h =
          ap (λ b. cond b (with_component p (Imported k.name)) (numbering p sort.Component (Left k.name))) e
      by (description.Module i) h = absurd cc
      by (description.Func i) h = absurd cc
      by (description.TyEqual i) h = absurd cc
      by description.TyFresh h = absurd cc
      by (description.Instance i) h = absurd cc

  pub components_pass : (base : ℕ) (p : Progress) (before items : List ItemTree) (ks : List ComponentTree)
      → HoldsComponents is_component base p before → AreTaken (map component_import ks) items
      → AllByRecursion (λ (k : ComponentTree). is_component k.name ≡ true) ks
      → PassesComponents is_component base p before items (map (component_image false) ks)
  components_pass base p before items [] h t all =
      subst (λ xs. PassesComponents is_component base p before xs []) (sym t)
      (no_components is_component base p before h)
  components_pass base p before items (k ∷ ks) h t all =
      let quietly = quiet_passes is_component p before t.0.front h.counts t.0.quiet in
      subst (λ xs. PassesComponents is_component base p before xs (map (component_image false) (k ∷ ks))) (sym t.2)
      (one_component is_component base p before t.0.front t.1 (import_item (component_import k) t.0) (Imported k.name)
      (map (component_image false) ks) h quietly (component_steps quietly.q k t.0 all.0)
      (λ next. components_pass base (with_component quietly.q (Imported k.name))
      ((before ++ t.0.front) ++ import_item (component_import k) t.0 ∷ []) t.1 ks next t.3 all.1))

  defined_steps : (p : Progress) (bytes : List ℕ)
      → Steps is_component p (Component bytes) sort.Component (OfComponent (length p.image.components))
      (with_component p (Defined bytes))
  unfolding seen
  defined_steps p bytes = record { next = refl; more = refl; sort = refl }

  pub defined_pass : (base : ℕ) (p : Progress) (before : List ItemTree) (ks : List ComponentTree)
      → HoldsComponents is_component base p before
      → PassesComponents is_component base p before (map (λ (k : ComponentTree). Component k.bytes) ks)
      (map (component_image true) ks)
  defined_pass base p before [] h = no_components is_component base p before h
  defined_pass base p before (k ∷ ks) h =
      let quietly = quiet_passes is_component p before [] h.counts tt in
      one_component is_component base p before [] (map (λ (k : ComponentTree). Component k.bytes) ks)
      (Component k.bytes) (Defined k.bytes) (map (component_image true) ks) h quietly (defined_steps quietly.q k.bytes)
      (λ next. defined_pass base (with_component quietly.q (Defined k.bytes)) ((before ++ []) ++ Component k.bytes ∷ [])
      ks next)
