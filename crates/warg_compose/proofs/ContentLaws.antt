-- The contents of a plan's releases, by the names of these.
use Rattle.std.proofs.Common.{◌≡◌, ◌∙◌, sym, ap, subst, refl, arith, ℕ, zero, suc, Bool, true, false, true≢false, cond, ◌||◌, ◌⊎◌, ◌<◌, List, [], ◌∷◌, ◌++◌, length, map, Option, Some, None, Bor, Contains, inl, inr}
use Rattle.std.specs.Prelude.{bytes_eq, option_map, option_to_list, slice_get, slice_index_or}
use Rattle.std.specs.List.{AllByRecursion, flat_map, list_any}
use Rattle.std.specs.Map.{lookup}
use Rattle.std.proofs.lemmas.Option.{same_Some}
use Rattle.comp_entity.specs.Entity.{ShapeTree}
use Rattle.comp_format.specs.Fits.{IsComponent}
use Rattle.comp_format.specs.Items.{Import, ImportTree, ItemTree}
use Rattle.comp_format.specs.Sections.{Reads, items_in}
use Rattle.comp_format.specs.declared.types.Sort.{Sort}
use Rattle.comp_shape.specs.Shape.{HasShape}
use Rattle.compose_bundle.specs.Bundled.{AreComponents, content_in}
use Rattle.compose_bundle.specs.Whole.{AreContentsOf, HasItsContent}
use Rattle.compose_check.specs.Composition.{ComponentTree, CompositionTree}
use Rattle.compose_image.specs.CompositionImage.{is_component, is_named}
use Rattle.compose_image.specs.Imports.{component_import, component_of, import_in, imports_in, imports_of, name_and_sort, used, used_components}
use Rattle.compose_naming.specs.Settled.{settled}
use Rattle.compose_order.specs.Needs.{LeftTree}
use Rattle.warg_plan.specs.Walk.{Entry}
use Rattle.warg_compose.specs.Composed.{AreComponentsOf, content_of, named_content, release_name, releases}
use Rattle.warg_compose.specs.Held.{AreReleases, lent_content}
use Rattle.warg_compose.specs.Left.{is_release}
use Rattle.warg_compose.specs.declared.releases.Releases.{Releases}
use Rattle.warg_compose.proofs.ComponentLaws.{name_of}
use Rattle.warg_compose.proofs.NameLaws.{AreOwn, differs_back, has, itself, same_bytes}
use Rattle.warg_compose.proofs.OwnNameLaws.{unnamed}
use Rattle.warg_compose.proofs.ReleaseLaws.{is_release_name}

-- ---- what a map lends

looked : (test : List ℕ → Bool) (cs : List (List ℕ × Bor (List ℕ))) → option_map (λ (b : Bor (List ℕ)). b.now) (lookup test cs) ≡ lookup test (map lent_content cs)
looked test [] = refl
looked test (c ∷ cs) = by (test c.0) (looked test cs)
  where
    by : (b : Bool) → option_map (λ (x : Bor (List ℕ)). x.now) (lookup test cs) ≡ lookup test (map lent_content cs)
        → option_map (λ (x : Bor (List ℕ)). x.now) (cond b (Some c.1) (lookup test cs)) ≡ cond b (Some c.1.now) (lookup test (map lent_content cs))
    by true rest = refl
    by false rest = rest

pub contents_are : (r : Releases) (es : List Entry) → AreReleases r es → content_in r.contents ≡ content_of es
contents_are r es are = λ i name. at name i
  where
    at : (name : List ℕ) → content_in r.contents name ≡ content_of es name
    at name = looked (bytes_eq name) r.contents.entries ∙ ap (lookup (bytes_eq name)) are.contents

-- ---- each is a component

shaped : (rs : List Entry) (cs : List ComponentTree) → AreComponentsOf rs cs → (name bytes : List ℕ) → lookup (bytes_eq name) (map named_content rs) ≡ Some bytes → (s : ShapeTree) × HasShape bytes s
shaped [] [] are name bytes found = absurd cc
shaped [] (c ∷ cs) are name bytes found = absurd are
shaped (r ∷ rs) [] are name bytes found = absurd are
shaped (r ∷ rs) (c ∷ cs) are name bytes found = by (bytes_eq name (release_name r)) found (shaped rs cs are.1 name bytes)
  where
    by : (b : Bool) → cond b (Some r.content) (lookup (bytes_eq name) (map named_content rs)) ≡ Some bytes → (lookup (bytes_eq name) (map named_content rs) ≡ Some bytes → (s : ShapeTree) × HasShape bytes s)
        → (s : ShapeTree) × HasShape bytes s
    by true e later = (c.shape, subst (λ bs. HasShape bs c.shape) (same_Some r.content bytes e) are.0.has_shape)
    by false e later = later e

read : (bytes : List ℕ) (s : ShapeTree) → HasShape bytes s → IsComponent bytes
read bytes s shape = (items_in shape.has_parts.0, (shape.has_parts.0, refl, shape.has_parts.2))

pub are_components : (r : Releases) (es : List Entry) (cs : List ComponentTree) → AreReleases r es → AreComponentsOf (releases es) cs → AreComponents (content_in r.contents)
are_components r es cs are components = λ name bytes found.
    let has_shape = shaped (releases es) cs components name bytes (sym (λ i. contents_are r es are i name) ∙ found) in
    read bytes has_shape.0 has_shape.1

-- ---- the components of a composition have theirs

its_content : (rs : List Entry) (cs : List ComponentTree) → AreComponentsOf rs cs → AreOwn (map name_of cs) → (n : ℕ) (k : ComponentTree) → slice_get cs n ≡ Some k → lookup (bytes_eq k.name) (map named_content rs) ≡ Some k.bytes
its_content [] [] are own n k at = absurd cc
its_content [] (c ∷ cs) are own n k at = absurd are
its_content (r ∷ rs) [] are own n k at = absurd are
its_content (r ∷ rs) (c ∷ cs) are own zero k at =
    let same : c ≡ k = same_Some c k at in
    let name : k.name ≡ release_name r = ap name_of (sym same) ∙ are.0.named in
    ap (λ b. cond b (Some r.content) (lookup (bytes_eq k.name) (map named_content rs))) (ap (bytes_eq k.name) (sym name) ∙ itself k.name)
    ∙ ap Some (sym are.0.bytes ∙ ap (λ (x : ComponentTree). x.bytes) same)
its_content (r ∷ rs) (c ∷ cs) are own (suc n) k at =
    let differs : bytes_eq k.name (release_name r) ≡ false = ap (bytes_eq k.name) (sym are.0.named) ∙ differs_back c.name k.name (unnamed cs c.name n k own.0 at) in
    ap (λ b. cond b (Some r.content) (lookup (bytes_eq k.name) (map named_content rs))) differs ∙ its_content rs cs are.1 own.1 n k at

module _ (c : CompositionTree) (rs : List Entry) (are : AreComponentsOf rs c.components) (own : AreOwn (map name_of c.components)) where
  abbrev content : List ℕ → Option (List ℕ)
  content name = lookup (bytes_eq name) (map named_content rs)

  have_theirs : (ns : List ℕ) → AllByRecursion (HasItsContent content) (flat_map (component_of c) ns)
  have_theirs [] = tt
  have_theirs (n ∷ ns) = by (slice_get c.components n) refl (have_theirs ns)
    where
      by : (o : Option ComponentTree) → slice_get c.components n ≡ o → AllByRecursion (HasItsContent content) (flat_map (component_of c) ns) → AllByRecursion (HasItsContent content) (option_to_list o ++ flat_map (component_of c) ns)
      by None at rest = rest
      by (Some k) at rest = (its_content rs c.components are own n k at, rest)

-- ---- and no other import has one

none_unreleased : (rs : List Entry) (name : List ℕ) → is_release name ≡ false → lookup (bytes_eq name) (map named_content rs) ≡ None
none_unreleased [] name unreleased = refl
none_unreleased (r ∷ rs) name unreleased = by (bytes_eq name (release_name r)) refl (none_unreleased rs name unreleased)
  where
    by : (b : Bool) → bytes_eq name (release_name r) ≡ b → lookup (bytes_eq name) (map named_content rs) ≡ None → cond b (Some r.content) (lookup (bytes_eq name) (map named_content rs)) ≡ None
    by true e rest = absurd (true≢false (sym (ap is_release (same_bytes name (release_name r) e) ∙ is_release_name r) ∙ unreleased))
    by false e rest = rest

abbrev imports_name : List (List ℕ × Sort) → List ℕ → Bool
imports_name es name = list_any (λ e. bytes_eq name e.0) es

or_right : (a b : Bool) → b ≡ true → (a || b) ≡ true
or_right true b h = refl
or_right false b h = h

any_both : (es fs : List (List ℕ × Sort)) (name : List ℕ) → imports_name fs name ≡ true → imports_name (es ++ fs) name ≡ true
any_both [] fs name h = h
any_both (e ∷ es) fs name h = or_right (bytes_eq name e.0) (imports_name (es ++ fs) name) (any_both es fs name h)

-- what stands among items is among their imports
imported : (items : List ItemTree) (i : ImportTree) (k : ℕ) → k < length items → slice_index_or items k (Import i) ≡ Import i → imports_name (imports_in items) i.name ≡ true
imported [] i k lt at = absurd (omega (arith, lt))
imported (x ∷ items) i zero lt at =
    ap (λ (y : ItemTree). imports_name (import_in y ++ imports_in items) i.name) at ∙ ap (λ b. b || imports_name (imports_in items) i.name) (itself i.name)
imported (x ∷ items) i (suc k) lt at = any_both (import_in x) (imports_in items) i.name (imported items i k (omega (arith, lt)) at)

-- each is a component, or is left open
of_component : (ks : List ComponentTree) (rest : List LeftTree) (name : List ℕ) → imports_name (map name_and_sort (map component_import ks ++ rest)) name ≡ true
    → (list_any (is_named name) ks ≡ true) ⊎ (imports_name (map name_and_sort rest) name ≡ true)
of_component [] rest name h = inr h
of_component (k ∷ ks) rest name h = by (bytes_eq name k.name) h (of_component ks rest name)
  where
    by : (b : Bool) → (b || imports_name (map name_and_sort (map component_import ks ++ rest)) name) ≡ true
        → (imports_name (map name_and_sort (map component_import ks ++ rest)) name ≡ true → (list_any (is_named name) ks ≡ true) ⊎ (imports_name (map name_and_sort rest) name ≡ true))
        → ((b || list_any (is_named name) ks) ≡ true) ⊎ (imports_name (map name_and_sort rest) name ≡ true)
    by true h later = inl refl
    by false h later = later h

unreleased_name : (ls : List LeftTree) → AllByRecursion (λ (l : LeftTree). is_release l.name ≡ false) ls → (name : List ℕ) → imports_name (map name_and_sort (map settled ls)) name ≡ true → is_release name ≡ false
unreleased_name [] all name h = absurd (true≢false (sym h))
unreleased_name (l ∷ ls) all name h = by (bytes_eq name l.name) refl h (unreleased_name ls all.1 name)
  where
    by : (b : Bool) → bytes_eq name l.name ≡ b → (b || imports_name (map name_and_sort (map settled ls)) name) ≡ true
        → (imports_name (map name_and_sort (map settled ls)) name ≡ true → is_release name ≡ false) → is_release name ≡ false
    by true e h later = ap is_release (same_bytes name l.name e) ∙ all.0
    by false e h later = later h

-- ---- the contents of a lock

module _ (es : List Entry) (c : CompositionTree) (lefts : List LeftTree) (bytes : List ℕ)
    (are : AreComponentsOf (releases es) c.components) (own : AreOwn (map name_of c.components))
    (unreleased : AllByRecursion (λ (l : LeftTree). is_release l.name ≡ false) lefts)
    (imports : (items : List ItemTree) → Reads bytes items → imports_in items ≡ map name_and_sort (imports_of c false lefts)) where
  no_other : (items : List ItemTree) (i : ImportTree) → Reads bytes items → Contains items (Import i) → is_component c false i.name ≡ false → content_of es i.name ≡ None
  no_other items i reads there none =
      let named : imports_name (map name_and_sort (imports_of c false lefts)) i.name ≡ true =
      ap (λ xs. imports_name xs i.name) (sym (imports items reads)) ∙ imported items i there.0 there.1 there.2 in
      elim (of_component (used_components c) (map settled lefts) i.name named) [
        | inl component ↦ absurd (true≢false (sym component ∙ none))
        | inr left ↦ none_unreleased (releases es) i.name (unreleased_name lefts unreleased i.name left)
      ]

  pub are_contents : AreContentsOf c (content_of es) bytes
  are_contents = record { components = have_theirs c (releases es) are own (used c); no_others = no_other }
