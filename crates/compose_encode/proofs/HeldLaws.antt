-- What code holds while a composition is written, one item more each time.
use Rattle.std.proofs.Common.{◌≡◌, ◌∙◌, ℕ, ◌+◌, ◌<◌, ◌≤◌, ◌^◌, ◌⊎◌, ◌||◌, inl, inr, Bool, true, false, cond, List, [], ◌∷◌, ◌++◌, length, map, take, drop, get_or, Option, Some, None, refl, sym, ap, subst}
use Rattle.std.specs.Prelude.{◌==◌, ◌&&◌, find, flat_map, is_some, option_map}
use Rattle.std.specs.BTreeMap.{BTreeMap, get, Updates}
use Rattle.std.specs.Cmp.{both_tied, unsigned_ties}
use Rattle.std.specs.List.{AllByRecursion, fold, list_any}
use Rattle.std.specs.Option.{option_or}
use Rattle.std.specs.Ordering.{is_eq, nat_cmp}
use Rattle.std.specs.declared.cmp.Ordering.{Ordering}
use Rattle.std.proofs.lemmas.Bool.{and_parts, eqb-true}
use Rattle.std.proofs.lemmas.List.{append-nil, append_assoc, map-append, take-append-drop, take_all, take_more}
use Rattle.std.proofs.lemmas.Grind.{fold-append}
use Rattle.std.proofs.lemmas.List.Folds.{find-append}
use Rattle.comp_encoder.specs.Builder.{entries_of}
use Rattle.comp_encoder.specs.Writing.{Entry, Single, items_of, next_index, numbered}
use Rattle.comp_encoder.specs.declared.builder.ComponentBuilder.{ComponentBuilder}
use Rattle.comp_format.specs.Items.{ItemTree, Aliased, Component, Export, Instance}
use Rattle.comp_format.specs.declared.types.Arg.{Arg}
use Rattle.comp_format.specs.declared.types.InstanceItem.TheVariants as instance
use Rattle.comp_format.specs.declared.types.Sort.TheVariants as sort
use Rattle.comp_encoder.specs.Largest.{arg_largest, vector_largest}
use Rattle.comp_format.specs.declared.types.Alias.TheVariants as alias
use Rattle.comp_scope.specs.Spaces.{sort_of}
use Rattle.compose_check.specs.Composition.{ComponentTree, CompositionTree}
use Rattle.compose_left.specs.declared.wiring.Wire.{Wire}
use Rattle.comp_format.specs.declared.types.Sort.{Sort}
use Rattle.compose_image.specs.Imports.{component_of}
use Rattle.compose_image.specs.Instances.{Part, Written, args_of, component_index, component_items, export_of, exported_parts, has_part, instance_index, is_instance, is_part, part_index, part_of_wire, wires_of, with_export, with_instance, with_part, with_parts, written}
use Rattle.compose_encode.specs.Held.{Holds, begun, component_item, with_component, with_made}
use Rattle.compose_encode.specs.declared.output.Output.{Output}
use Rattle.compose_imports.specs.Imported.{singles}
use Rattle.compose_encode.specs.Numbers.{FitBehind, IsOfItems, IsOneOf, IsTooLarge, ItemsFit, numbers_of}
use Rattle.compose_encode.specs.Parts.{part_cmp, part_of}
use Rattle.compose_encode.specs.declared.part.Part.{Part as PartOf}

-- ---- items that are added one by one

pub items_single : (items : List ItemTree) → items_of (singles items) ≡ items
items_single [] = refl
items_single (item ∷ items) = ap (λ (l : List ItemTree). item ∷ l) (items_single items)

pub next_is : (kind : Sort) (entries : List Entry) (items : List ItemTree) → entries ≡ singles items → next_index kind entries ≡ numbered kind items
next_is kind entries items e = ap (next_index kind) e ∙ ap (numbered kind) (items_single items)

pub single_more : (old new : List Entry) (items : List ItemTree) (item : ItemTree) → old ≡ singles items → new ≡ old ++ Single item ∷ [] → new ≡ singles (items ++ item ∷ [])
single_more old new items item is more = more ∙ ap (λ es. es ++ Single item ∷ []) is ∙ sym (map-append Single items (item ∷ []))

-- ---- numbers

fits_append : (front xs ys : List ItemTree) → ItemsFit front xs → ItemsFit (front ++ xs) ys → ItemsFit front (xs ++ ys)
fits_append front [] ys h k = subst (λ f. ItemsFit f ys) (append-nil front) k
fits_append front (x ∷ xs) ys h k = (h.0, fits_append (front ++ x ∷ []) xs ys h.1 (subst (λ f. ItemsFit f ys) (sym (append_assoc front (x ∷ []) xs)) k))

among_append : (n : ℕ) (front xs ys : List ItemTree) → IsOfItems n front xs → IsOfItems n front (xs ++ ys)
among_append n front [] ys h = absurd h
among_append n front (x ∷ xs) ys (inl h) = inl h
among_append n front (x ∷ xs) ys (inr h) = inr (among_append n (front ++ x ∷ []) xs ys h)

among_behind : (n : ℕ) (front xs ys : List ItemTree) → IsOfItems n (front ++ xs) ys → IsOfItems n front (xs ++ ys)
among_behind n front [] ys h = subst (λ f. IsOfItems n f ys) (append-nil front) h
among_behind n front (x ∷ xs) ys h = inr (among_behind n (front ++ x ∷ []) xs ys (subst (λ f. IsOfItems n f ys) (sym (append_assoc front (x ∷ []) xs)) h))

pub nothing_behind : (imports : List ItemTree) → FitBehind imports imports
nothing_behind imports = record { behind = []; items_are = sym (append-nil imports); fit = tt }

pub fit_more : (imports items : List ItemTree) (item : ItemTree) → FitBehind imports items → AllByRecursion (λ n. n < 2 ^ 32) (numbers_of items item) → FitBehind imports (items ++ item ∷ [])
fit_more imports items item h k = record {
  behind = h.behind ++ item ∷ [];
  items_are = ap (λ xs. xs ++ item ∷ []) h.items_are ∙ append_assoc imports h.behind (item ∷ []);
  fit = fits_append imports h.behind (item ∷ []) h.fit (subst (λ xs. ItemsFit xs (item ∷ [])) h.items_are (k, tt));
}

pub too_large_here : (n : ℕ) (imports items : List ItemTree) (item : ItemTree) → FitBehind imports items → 2 ^ 32 ≤ n → IsOneOf n (numbers_of items item) → IsTooLarge n imports (items ++ item ∷ [])
too_large_here n imports items item h large one = record {
  behind = h.behind ++ item ∷ [];
  items_are = ap (λ xs. xs ++ item ∷ []) h.items_are ∙ append_assoc imports h.behind (item ∷ []);
  large = large;
  among = among_behind n imports h.behind (item ∷ []) (subst (λ xs. IsOfItems n xs (item ∷ [])) h.items_are (inl one));
}

pub too_large_more : (n : ℕ) (imports items more : List ItemTree) → IsTooLarge n imports items → IsTooLarge n imports (items ++ more)
too_large_more n imports items more h = record {
  behind = h.behind ++ more;
  items_are = ap (λ xs. xs ++ more) h.items_are ∙ append_assoc imports h.behind more;
  large = h.large;
  among = among_append n imports h.behind more h.among;
}

-- ---- maps

or_none : (o : Option ℕ) → o ≡ option_or o None
or_none None = refl
or_none (Some v) = refl

module _ {K : Type 0} (cmp : K → K → Ordering) (same : K → K → Bool) (ties : (a b : K) → same a b ≡ is_eq (cmp a b)) (equal : (a b : K) → same a b ≡ true → a ≡ b) where
  key_added : (m n : BTreeMap K ℕ) (x : K) (v : ℕ) → get cmp m x ≡ None → Updates cmp m n x (Some v) → (q : K) → get cmp n q ≡ option_or (get cmp m q) (cond (same x q) (Some v) None)
  key_added m n x v none u q = u.0 q ∙ (λ i. cond (sym (ties x q) i) (Some v) (get cmp m q)) ∙ one (same x q) refl
    where
      one : (b : Bool) → same x q ≡ b → cond b (Some v) (get cmp m q) ≡ option_or (get cmp m q) (cond b (Some v) None)
      one true e = ap (λ o. option_or o (Some v)) (sym none ∙ ap (λ y. get cmp m y) (equal x q e))
      one false e = or_none (get cmp m q)

  key_there : (m : BTreeMap K ℕ) (x : K) (v : ℕ) → is_some (get cmp m x) ≡ true → (q : K) → get cmp m q ≡ option_or (get cmp m q) (cond (same x q) (Some v) None)
  key_there m x v there q = one (get cmp m q) refl (same x q) refl
    where
      one : (o : Option ℕ) → get cmp m q ≡ o → (b : Bool) → same x q ≡ b → o ≡ option_or o (cond b (Some v) None)
      one (Some k) h b e = refl
      one None h false e = refl
      one None h true e = absurd (let bad : is_some (get cmp m x) ≡ false = ap (λ y. is_some (get cmp m y)) (equal x q e) ∙ ap (λ (o : Option ℕ). is_some o) h in (let worse : true ≡ false = sym there ∙ bad in cc))

pub same_part : PartOf → PartOf → Bool
same_part a b = (a.instance == b.instance) && (a.export == b.export)

part_ties : (a b : PartOf) → same_part a b ≡ is_eq (part_cmp a b)
unfolding same_part
part_ties a b = both_tied _ _ (nat_cmp a.instance b.instance) (nat_cmp a.export b.export) (unsigned_ties a.instance b.instance) (unsigned_ties a.export b.export)

part_equal : (a b : PartOf) → same_part a b ≡ true → a ≡ b
unfolding same_part
part_equal a b e =
    let parts = and_parts (a.instance == b.instance) (a.export == b.export) e in
    λ i. record { instance = eqb-true a.instance b.instance parts.0 i; export = eqb-true a.export b.export parts.1 i }

pub part_noted : (m n : BTreeMap PartOf ℕ) (x : PartOf) (v : ℕ) → get part_cmp m x ≡ None → Updates part_cmp m n x (Some v) → (q : PartOf) → get part_cmp n q ≡ option_or (get part_cmp m q) (cond (same_part x q) (Some v) None)
part_noted = key_added part_cmp same_part part_ties part_equal

pub number_noted : (m n : BTreeMap ℕ ℕ) (x v : ℕ) → get nat_cmp m x ≡ None → Updates nat_cmp m n x (Some v) → (q : ℕ) → get nat_cmp n q ≡ option_or (get nat_cmp m q) (cond (x == q) (Some v) None)
number_noted = key_added nat_cmp (λ a b. a == b) unsigned_ties eqb-true

pub number_there : (m : BTreeMap ℕ ℕ) (x v : ℕ) → is_some (get nat_cmp m x) ≡ true → (q : ℕ) → get nat_cmp m q ≡ option_or (get nat_cmp m q) (cond (x == q) (Some v) None)
number_there = key_there nat_cmp (λ a b. a == b) unsigned_ties eqb-true

found_or : {X : Type 0} (a b : Option (X × ℕ)) → option_map (λ (e : X × ℕ). e.1) (option_or a b) ≡ option_or (option_map (λ (e : X × ℕ). e.1) a) (option_map (λ (e : X × ℕ). e.1) b)
found_or None b = refl
found_or (Some x) b = refl

-- what is found in a list that has one pair more
pub found_more : {X : Type 0} (test : X × ℕ → Bool) (xs : List (X × ℕ)) (e : X × ℕ)
    → option_map (λ (e : X × ℕ). e.1) (find test (xs ++ e ∷ [])) ≡ option_or (option_map (λ (e : X × ℕ). e.1) (find test xs)) (cond (test e) (Some e.1) None)
found_more test xs e = ap (option_map (λ e. e.1)) (find-append test xs (e ∷ [])) ∙ found_or (find test xs) (find test (e ∷ [])) ∙ ap (λ o. option_or (option_map (λ e. e.1) (find test xs)) o) (one (test e))
  where
    one : (b : Bool) → option_map (λ (e : _ × ℕ). e.1) (cond b (Some e) None) ≡ cond b (Some e.1) None
    one true = refl
    one false = refl

-- what is found, and whether something is
pub any_found : {X : Type 0} (test : X × ℕ → Bool) (xs : List (X × ℕ)) → list_any test xs ≡ is_some (option_map (λ (e : X × ℕ). e.1) (find test xs))
any_found test [] = refl
any_found test (x ∷ xs) = one (test x) (any_found test xs)
  where
    one : (b : Bool) → list_any test xs ≡ is_some (option_map (λ (e : _ × ℕ). e.1) (find test xs)) → (b || list_any test xs) ≡ is_some (option_map (λ (e : _ × ℕ). e.1) (cond b (Some x) (find test xs)))
    one true h = refl
    one false h = h

-- ---- aliases

part_at : (imports : List ItemTree) (o : Output) (w : Written) (p : PartOf) → Holds imports o w → has_part w (part_of p) ≡ is_some (get part_cmp o.parts p)
part_at imports o w p h = any_found (is_part (part_of p)) w.parts ∙ ap (λ (o : Option ℕ). is_some o) (sym (h.parts p))

-- the index of an alias
aliased : Sort → ℕ → List ℕ → ItemTree
aliased kind from name = Aliased (alias.Export kind from name)

with_alias : Written → Part → Sort → ℕ → List ℕ → Written
with_alias w part kind from name = record w { items = w.items ++ aliased kind from name ∷ []; parts = w.parts ++ (part, numbered kind w.items) ∷ [] }

count_fits : (kind : Sort) (entries : List Entry) (items : List ItemTree) → entries ≡ singles items → next_index kind entries + 1 < 2 ^ 32 → numbered kind items + 1 < 2 ^ 32
count_fits kind entries items is lt = subst (λ n. n + 1 < 2 ^ 32) (next_is kind entries items is) lt

module _ (c : CompositionTree) (imports : List ItemTree) (old : Output) (w : Written) (p : PartOf) (h : Holds imports old w) where
  alias_holds : (kind : Sort) (from idx : ℕ) (name : List ℕ) (b : ComponentBuilder) (parts : BTreeMap PartOf ℕ) → get part_cmp old.parts p ≡ None → idx ≡ next_index kind (entries_of old.builder)
      → entries_of b ≡ entries_of old.builder ++ Single (Aliased (alias.Export kind from name)) ∷ [] → (length name < 2 ^ 32) × (next_index kind (entries_of old.builder) + 1 < 2 ^ 32)
      → Updates part_cmp old.parts parts p (Some idx) → Holds imports (record { builder = b; instances = old.instances; parts = parts }) (with_alias w (part_of p) kind from name)
  unfolding with_alias aliased same_part
  alias_holds kind from idx name b parts none at added fits u = record {
    entries = single_more (entries_of old.builder) (entries_of b) w.items (Aliased (alias.Export kind from name)) h.entries added;
    instances = h.instances;
    parts = λ q.
        part_noted old.parts parts p idx none u q ∙ (λ i. option_or (h.parts q i) (cond (same_part p q) (Some ((at ∙ next_is kind (entries_of old.builder) w.items h.entries) i)) None))
        ∙ sym (found_more (is_part (part_of q)) w.parts (part_of p, numbered kind w.items));
    fit = fit_more imports w.items (Aliased (alias.Export kind from name)) h.fit (count_fits kind (entries_of old.builder) w.items h.entries fits.1, (fits.0, tt));
  }

  fresh_part : get part_cmp old.parts p ≡ None → has_part w (part_of p) ≡ false
  fresh_part none = part_at imports old w p h ∙ ap (λ (o : Option ℕ). is_some o) none

  pub part_added : (kind : Sort) (from idx : ℕ) (name : List ℕ) (b : ComponentBuilder) (parts : BTreeMap PartOf ℕ) → get part_cmp old.parts p ≡ None → name ≡ (export_of c (part_of p)).0 → kind ≡ sort_of (export_of c (part_of p)).1
      → from ≡ instance_index w p.instance → idx ≡ next_index kind (entries_of old.builder)
      → entries_of b ≡ entries_of old.builder ++ Single (Aliased (alias.Export kind from name)) ∷ [] → (length name < 2 ^ 32) × (next_index kind (entries_of old.builder) + 1 < 2 ^ 32)
      → Updates part_cmp old.parts parts p (Some idx) → Holds imports (record { builder = b; instances = old.instances; parts = parts }) (with_part c w (part_of p))
  unfolding with_alias aliased
  part_added kind from idx name b parts none name_is kind_is from_is at added fits u =
      let new : Output = record { builder = b; instances = old.instances; parts = parts } in
      let P : Sort × ℕ × List ℕ → Type 0 = λ x. Holds imports new (with_alias w (part_of p) x.0 x.1 x.2) in
      let full = subst P (λ i. (kind_is i, from_is i, name_is i)) (alias_holds kind from idx name b parts none at added fits u) in
      subst (λ b. Holds imports new (cond b w (with_alias w (part_of p) (sort_of (export_of c (part_of p)).1) (instance_index w p.instance) (export_of c (part_of p)).0))) (sym (fresh_part none)) full

  pub part_large : (n : ℕ) (kind : Sort) (from : ℕ) (name : List ℕ) → get part_cmp old.parts p ≡ None → name ≡ (export_of c (part_of p)).0 → kind ≡ sort_of (export_of c (part_of p)).1
      → (2 ^ 32 ≤ n) × ((n ≡ length name) ⊎ (n ≡ next_index kind (entries_of old.builder) + 1)) → IsTooLarge n imports (with_part c w (part_of p)).items
  unfolding with_alias aliased
  part_large n kind from name none name_is kind_is large =
      let e = export_of c (part_of p) in
      let item : ItemTree = Aliased (alias.Export (sort_of e.1) (instance_index w p.instance) e.0) in
      let here = too_large_here n imports w.items item h.fit large.0 (either large.1) in
      subst (λ b. IsTooLarge n imports (cond b w (with_alias w (part_of p) (sort_of e.1) (instance_index w p.instance) e.0)).items) (sym (fresh_part none)) here
    where
      either : (n ≡ length name) ⊎ (n ≡ next_index kind (entries_of old.builder) + 1) → (n ≡ numbered (sort_of (export_of c (part_of p)).1) w.items + 1) ⊎ ((n ≡ length (export_of c (part_of p)).0) ⊎ ⊥)
      either (inl is) = inr (inl (is ∙ ap length name_is))
      either (inr is) = inl (is ∙ ap (λ m. m + 1) (next_is kind (entries_of old.builder) w.items h.entries) ∙ ap (λ k. numbered k w.items + 1) kind_is)

  pub part_kept : is_some (get part_cmp old.parts p) ≡ true → Holds imports old (with_part c w (part_of p))
  part_kept there =
      subst (λ b. Holds imports old (cond b w (record w {
        items = w.items ++ Aliased (alias.Export (sort_of (export_of c (part_of p)).1) (instance_index w p.instance) (export_of c (part_of p)).0) ∷ [];
        parts = w.parts ++ (part_of p, numbered (sort_of (export_of c (part_of p)).1) w.items) ∷ [];
      }))) (sym (part_at imports old w p h ∙ there)) h

-- ---- one item behind the others

pub item_added : (imports : List ItemTree) (old : Output) (w : Written) (item : ItemTree) (b : ComponentBuilder) → Holds imports old w → entries_of b ≡ entries_of old.builder ++ Single item ∷ [] → AllByRecursion (λ n. n < 2 ^ 32) (numbers_of w.items item)
    → Holds imports (record { builder = b; instances = old.instances; parts = old.parts }) (record w { items = w.items ++ item ∷ [] })
item_added imports old w item b h added fits = record {
  entries = single_more (entries_of old.builder) (entries_of b) w.items item h.entries added;
  instances = h.instances;
  parts = h.parts;
  fit = fit_more imports w.items item h.fit fits;
}

-- ---- what is written grows at its end

pub record Extends (w v : Written) : Type 0 where
  pub more : List ItemTree
  pub items_are : v.items ≡ w.items ++ more

pub extends_same : (w : Written) → Extends w w
extends_same w = record { more = []; items_are = sym (append-nil w.items) }

pub extends_then : (u v w : Written) → Extends u v → Extends v w → Extends u w
extends_then u v w h k = record { more = h.more ++ k.more; items_are = k.items_are ∙ ap (λ xs. xs ++ k.more) h.items_are ∙ append_assoc u.items h.more k.more }

pub extends_fold : {X : Type 0} (f : Written → X → Written) → ((w : Written) (x : X) → Extends w (f w x)) → (xs : List X) (w : Written) → Extends w (fold f w xs)
extends_fold f ext [] w = extends_same w
extends_fold f ext (x ∷ xs) w = extends_then w (f w x) (fold f (f w x) xs) (ext w x) (extends_fold f ext xs (f w x))

pub large_still : (n : ℕ) (imports : List ItemTree) (w v : Written) → Extends w v → IsTooLarge n imports w.items → IsTooLarge n imports v.items
large_still n imports w v h t = subst (λ xs. IsTooLarge n imports xs) (sym h.items_are) (too_large_more n imports w.items h.more t)

-- the things of a list so far, and one more
pub fold_step : {X : Type 0} (f : Written → X → Written) (xs : List X) (i : ℕ) (x : X) (w : Written) → take (i + 1) xs ≡ take i xs ++ x ∷ [] → fold f w (take (i + 1) xs) ≡ f (fold f w (take i xs)) x
fold_step f xs i x w is = ap (fold f w) is ∙ fold-append f w (take i xs) (x ∷ [])

pub fold_front : {X : Type 0} (f : Written → X → Written) → ((w : Written) (x : X) → Extends w (f w x)) → (xs : List X) (i : ℕ) (w : Written) → Extends (fold f w (take i xs)) (fold f w xs)
fold_front f ext xs i w =
    subst (λ v. Extends (fold f w (take i xs)) v) (sym (fold-append f w (take i xs) (drop i xs)) ∙ ap (fold f w) (take-append-drop i xs)) (extends_fold f ext (drop i xs) (fold f w (take i xs)))

pub part_extends : (c : CompositionTree) (w : Written) (part : Part) → Extends w (with_part c w part)
part_extends c w part = one (has_part w part)
  where
    one : (b : Bool) → Extends w (cond b w (record w {
      items = w.items ++ Aliased (alias.Export (sort_of (export_of c part).1) (instance_index w part.0) (export_of c part).0) ∷ [];
      parts = w.parts ++ (part, numbered (sort_of (export_of c part).1) w.items) ∷ [];
    }))
    one true = extends_same w
    one false = record { more = Aliased (alias.Export (sort_of (export_of c part).1) (instance_index w part.0) (export_of c part).0) ∷ []; items_are = refl }

abbrev export_item : CompositionTree → Written → Part → ItemTree
export_item c w part = Export (record { name = (export_of c part).0; sort = sort_of (export_of c part).1; index = part_index w part; ty = None })

pub export_behind : (c : CompositionTree) (w : Written) (part : Part) → Extends (with_part c w part) (with_export c w part)
export_behind c w part = record { more = export_item c (with_part c w part) part ∷ []; items_are = refl }

exported : Sort → ℕ → List ℕ → ItemTree
exported kind index name = Export (record { name = name; sort = kind; index = index; ty = None })

-- an export of an alias, behind that
module _ (c : CompositionTree) (imports : List ItemTree) (old : Output) (w : Written) (p : PartOf) (h : Holds imports old (with_part c w (part_of p))) where
  pub export_added : (kind : Sort) (index : ℕ) (name : List ℕ) (b : ComponentBuilder) → name ≡ (export_of c (part_of p)).0 → kind ≡ sort_of (export_of c (part_of p)).1 → index ≡ part_index (with_part c w (part_of p)) (part_of p)
      → entries_of b ≡ entries_of old.builder ++ Single (Export (record { name = name; sort = kind; index = index; ty = None })) ∷ [] → (length name < 2 ^ 32) × (next_index kind (entries_of old.builder) + 1 < 2 ^ 32)
      → Holds imports (record { builder = b; instances = old.instances; parts = old.parts }) (with_export c w (part_of p))
  unfolding exported
  export_added kind index name b name_is kind_is index_is added fits =
      let given = with_part c w (part_of p) in
      let new : Output = record { builder = b; instances = old.instances; parts = old.parts } in
      let P : Sort × ℕ × List ℕ → Type 0 = λ x. Holds imports new (record given { items = given.items ++ exported x.0 x.1 x.2 ∷ [] }) in
      subst P (λ i. (kind_is i, index_is i, name_is i)) (item_added imports old given (exported kind index name) b h added (count_fits kind (entries_of old.builder) given.items h.entries fits.1, (fits.0, tt)))

  pub export_large : (n : ℕ) (kind : Sort) (index : ℕ) (name : List ℕ) → name ≡ (export_of c (part_of p)).0 → kind ≡ sort_of (export_of c (part_of p)).1
      → (2 ^ 32 ≤ n) × ((n ≡ length name) ⊎ (n ≡ next_index kind (entries_of old.builder) + 1)) → IsTooLarge n imports (with_export c w (part_of p)).items
  export_large n kind index name name_is kind_is large =
      too_large_here n imports (with_part c w (part_of p)).items (export_item c (with_part c w (part_of p)) (part_of p)) h.fit large.0 (either large.1)
    where
      either : (n ≡ length name) ⊎ (n ≡ next_index kind (entries_of old.builder) + 1) → (n ≡ numbered (sort_of (export_of c (part_of p)).1) (with_part c w (part_of p)).items + 1) ⊎ ((n ≡ length (export_of c (part_of p)).0) ⊎ ⊥)
      either (inl is) = inr (inl (is ∙ ap length name_is))
      either (inr is) = inl (is ∙ ap (λ m. m + 1) (next_is kind (entries_of old.builder) (with_part c w (part_of p)).items h.entries) ∙ ap (λ k. numbered k (with_part c w (part_of p)).items + 1) kind_is)

pub export_extends : (c : CompositionTree) (w : Written) (part : Part) → Extends w (with_export c w part)
export_extends c w part =
    extends_then w (with_part c w part) (with_export c w part) (part_extends c w part) (export_behind c w part)

abbrev pub wire_step : CompositionTree → Written → Wire → Written
wire_step c w wire = with_parts c w (wire ∷ [])

pub wire_extends : (c : CompositionTree) (w : Written) (wire : Wire) → Extends w (wire_step c w wire)
wire_extends c w wire = extends_fold (with_part c) (part_extends c) (flat_map part_of_wire (wire ∷ [])) w

pub parts_fold : (c : CompositionTree) (ws : List Wire) (w : Written) → fold (wire_step c) w ws ≡ with_parts c w ws
parts_fold c [] w = refl
parts_fold c (wire ∷ ws) w =
    parts_fold c ws (with_parts c w (wire ∷ []))
    ∙ ap (λ xs. fold (with_part c) (fold (with_part c) w xs) (flat_map part_of_wire ws)) (append-nil (part_of_wire wire))
    ∙ sym (fold-append (with_part c) w (part_of_wire wire) (flat_map part_of_wire ws))

pub parts_extend : (c : CompositionTree) (ws : List Wire) (w : Written) → Extends w (with_parts c w ws)
parts_extend c ws w = extends_fold (with_part c) (part_extends c) (flat_map part_of_wire ws) w

-- ---- loops

module _ {X : Type 0} (f : Written → X → Written) (ext : (w : Written) (x : X) → Extends w (f w x)) (xs : List X) (imports : List ItemTree) (w : Written) where
  pub loop_large : (n i : ℕ) (d : X) → i < length xs → IsTooLarge n imports (f (fold f w (take i xs)) (get_or xs i d)).items → IsTooLarge n imports (fold f w xs).items
  loop_large n i d lt t =
      large_still n imports (fold f w (take (i + 1) xs)) (fold f w xs) (fold_front f ext xs (i + 1) w)
      (subst (λ v. IsTooLarge n imports v.items) (sym (fold_step f xs i (get_or xs i d) w (take_more xs i d lt))) t)

  pub loop_more : (o : Output) (i : ℕ) (d : X) → i < length xs → Holds imports o (f (fold f w (take i xs)) (get_or xs i d)) → Holds imports o (fold f w (take (i + 1) xs))
  loop_more o i d lt h = subst (λ v. Holds imports o v) (sym (fold_step f xs i (get_or xs i d) w (take_more xs i d lt))) h

  pub loop_end : (o : Output) (i : ℕ) → length xs ≤ i → Holds imports o (fold f w (take i xs)) → Holds imports o (fold f w xs)
  loop_end o i le h = subst (λ ys. Holds imports o (fold f w ys)) (take_all i xs le) h

-- ---- components

module _ (c : CompositionTree) (imports : List ItemTree) (old : Output) (w : Written) (number : ℕ) (h : Holds imports old w) where
  pub component_holds : (k : ComponentTree) (bytes : List ℕ) (b : ComponentBuilder) → component_of c number ≡ k ∷ [] → bytes ≡ k.bytes → entries_of b ≡ entries_of old.builder ++ Single (Component bytes) ∷ []
      → (length bytes < 2 ^ 32) × (next_index sort.Component (entries_of old.builder) + 1 < 2 ^ 32) → Holds imports (record { builder = b; instances = old.instances; parts = old.parts }) (with_component c w number)
  component_holds k bytes b is bytes_are added fits =
      let new : Output = record { builder = b; instances = old.instances; parts = old.parts } in
      let full : Holds imports new (record w { items = w.items ++ Component bytes ∷ [] }) = item_added imports old w (Component bytes) b h added (count_fits sort.Component (entries_of old.builder) w.items h.entries fits.1, (fits.0, tt)) in
      subst (λ ks. Holds imports new (record w { items = w.items ++ map component_item ks })) (sym is) (subst (λ bs. Holds imports new (record w { items = w.items ++ Component bs ∷ [] })) bytes_are full)

  pub component_large : (n : ℕ) (k : ComponentTree) (bytes : List ℕ) → component_of c number ≡ k ∷ [] → bytes ≡ k.bytes → (2 ^ 32 ≤ n) × ((n ≡ length bytes) ⊎ (n ≡ next_index sort.Component (entries_of old.builder) + 1))
      → IsTooLarge n imports (with_component c w number).items
  component_large n k bytes is bytes_are large =
      subst (λ ks. IsTooLarge n imports (w.items ++ map component_item ks)) (sym is) (too_large_here n imports w.items (Component k.bytes) h.fit large.0 (either large.1))
    where
      either : (n ≡ length bytes) ⊎ (n ≡ next_index sort.Component (entries_of old.builder) + 1) → (n ≡ numbered sort.Component w.items + 1) ⊎ ((n ≡ length k.bytes) ⊎ ⊥)
      either (inl e) = inr (inl (e ∙ ap length bytes_are))
      either (inr e) = inl (e ∙ ap (λ m. m + 1) (next_is sort.Component (entries_of old.builder) w.items h.entries))

pub component_missing : (c : CompositionTree) (imports : List ItemTree) (o : Output) (w : Written) (number : ℕ) → component_of c number ≡ [] → Holds imports o w → Holds imports o (with_component c w number)
component_missing c imports o w number is h =
    subst (λ ks. Holds imports o (record w { items = w.items ++ map component_item ks })) (sym is)
    (subst (λ xs. Holds imports o (record w { items = xs })) (sym (append-nil w.items)) h)

pub component_extends : (c : CompositionTree) (w : Written) (number : ℕ) → Extends w (with_component c w number)
component_extends c w number = record { more = map component_item (component_of c number); items_are = refl }

pub components_fold : (c : CompositionTree) (ns : List ℕ) (items : List ItemTree) → fold (with_component c) (begun items) ns ≡ begun (items ++ map component_item (flat_map (component_of c) ns))
components_fold c [] items = ap begun (sym (append-nil items))
components_fold c (n ∷ ns) items =
    components_fold c ns (items ++ map component_item (component_of c n))
    ∙ ap begun (append_assoc items (map component_item (component_of c n)) (map component_item (flat_map (component_of c) ns)) ∙ ap (λ xs. items ++ xs) (sym (map-append component_item (component_of c n) (flat_map (component_of c) ns))))

-- ---- instances

module _ (imports : List ItemTree) (old new : Output) (w : Written) (i component : ℕ) (args : List Arg) (h : Holds imports old w) where
  pub instance_made : (index : ℕ) (b : ComponentBuilder) → index ≡ next_index sort.Instance (entries_of old.builder) → entries_of b ≡ entries_of old.builder ++ Single (Instance (instance.Instantiate component args)) ∷ []
      → component < 2 ^ 32 → (vector_largest arg_largest args < 2 ^ 32) × (next_index sort.Instance (entries_of old.builder) + 1 < 2 ^ 32)
      → ((q : ℕ) → get nat_cmp new.instances q ≡ option_or (get nat_cmp old.instances q) (cond (i == q) (Some index) None)) → new.builder ≡ b → new.parts ≡ old.parts → Holds imports new (with_made w i component args)
  instance_made index b at added small fits noted builder parts =
      let item : ItemTree = Instance (instance.Instantiate component args) in
      record {
        entries = ap (λ x. entries_of x) builder ∙ single_more (entries_of old.builder) (entries_of b) w.items item h.entries added;
        instances = λ q.
            noted q ∙ (λ k. option_or (h.instances q k) (cond (i == q) (Some ((at ∙ next_is sort.Instance (entries_of old.builder) w.items h.entries) k)) None))
            ∙ sym (found_more (is_instance q) w.instances (i, numbered sort.Instance w.items));
        parts = λ q. ap (λ m. get part_cmp m q) parts ∙ h.parts q;
        fit = fit_more imports w.items item h.fit (count_fits sort.Instance (entries_of old.builder) w.items h.entries fits.1, (small, (fits.0, tt)));
      }

  pub instance_large : (n : ℕ) → (2 ^ 32 ≤ n) × ((n ≡ vector_largest arg_largest args) ⊎ (n ≡ next_index sort.Instance (entries_of old.builder) + 1)) → IsTooLarge n imports (with_made w i component args).items
  instance_large n large = too_large_here n imports w.items (Instance (instance.Instantiate component args)) h.fit large.0 (either large.1)
    where
      either : (n ≡ vector_largest arg_largest args) ⊎ (n ≡ next_index sort.Instance (entries_of old.builder) + 1)
          → (n ≡ numbered sort.Instance w.items + 1) ⊎ ((n ≡ component) ⊎ ((n ≡ vector_largest arg_largest args) ⊎ ⊥))
      either (inl e) = inr (inr (inl e))
      either (inr e) = inl (e ∙ ap (λ m. m + 1) (next_is sort.Instance (entries_of old.builder) w.items h.entries))

  -- the index of a component that can't be written
  pub index_large : (n : ℕ) → 2 ^ 32 ≤ n → n ≡ component → IsTooLarge n imports (with_made w i component args).items
  index_large n large is = too_large_here n imports w.items (Instance (instance.Instantiate component args)) h.fit large (inr (inl is))

pub large_first : {X : Type 0} (f : Written → X → Written) → ((w : Written) (x : X) → Extends w (f w x)) → (xs : List X) (x : X) (rest : List X) (n : ℕ) (imports : List ItemTree) (w : Written) → xs ≡ x ∷ rest
    → IsTooLarge n imports (f w x).items → IsTooLarge n imports (fold f w xs).items
large_first f ext xs x rest n imports w is t = subst (λ ys. IsTooLarge n imports (fold f w ys).items) (sym is) (large_still n imports (f w x) (fold f (f w x) rest) (extends_fold f ext rest (f w x)) t)

pub instance_behind : (c : CompositionTree) (define : Bool) (imports : List ItemTree) (w : Written) (i : ℕ) → Extends (with_parts c w (wires_of c i)) (with_instance c define imports w i)
instance_behind c define imports w i = record {
  more = Instance (instance.Instantiate (component_index c define imports i) (args_of c imports (with_parts c w (wires_of c i)) i)) ∷ [];
  items_are = refl;
}

pub instance_extends : (c : CompositionTree) (define : Bool) (imports : List ItemTree) (w : Written) (i : ℕ) → Extends w (with_instance c define imports w i)
instance_extends c define imports w i =
    extends_then w (with_parts c w (wires_of c i)) (with_instance c define imports w i) (parts_extend c (wires_of c i) w) (instance_behind c define imports w i)

pub written_extends : (c : CompositionTree) (define : Bool) (export : Option ℕ) (order : List ℕ) (imports : List ItemTree) → Extends (begun (imports ++ component_items c define)) (written c define export order imports)
written_extends c define export order imports =
    let begin = begun (imports ++ component_items c define) in
    let made = fold (with_instance c define imports) begin order in
    extends_then begin made (fold (with_export c) made (exported_parts c export)) (extends_fold (with_instance c define imports) (instance_extends c define imports) order begin)
    (extends_fold (with_export c) (export_extends c) (exported_parts c export) made)
