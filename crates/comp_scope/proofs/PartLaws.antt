-- Laws of the parts of a component: they are its items, with the parts of nested components in their places, and no
-- bytes have two lists of parts.
use Rattle.std.proofs.Common.{◌≡◌, ℕ, List, [], ◌∷◌, ◌++◌, map, refl, sym, ◌∙◌, ap, subst}
use Rattle.comp_format.specs.Items.{ItemTree, CoreMade, CoreTy, Component, Instance, Aliased, Ty, Canonical, Import, Export}
use Rattle.comp_format.specs.Sections.{Section, Named, CoreModules, CoreInstances, CoreTypes, Nested, Instances, Aliases, Types, Canons, Imports, Exports, Sections, none, more, section_items, items_in, ContentForm, SectionsForm, ComponentForm, Reads}
use Rattle.comp_scope.specs.Shape.{Part, Plain, Inner, Parts, nothing, then_part, in_front_of, parts_of_section, parts_in, HasParts, IsPart, Expands}

-- items of one kind
module _ {X : Type 0} (kind : X → ItemTree) (is : (x : X) → IsPart (kind x) (Plain (kind x))) where
  many_expand : (xs : List X) (items : List ItemTree) (ps : Parts) → Expands items ps → Expands (map kind xs ++ items) (in_front_of (map kind xs) ps)
  many_expand [] items ps e = e
  many_expand (x ∷ xs) items ps e = (is x, many_expand xs items ps e)

section_expands : (s : Section) (content : List ℕ) (items : List ItemTree) (ps : Parts) → ContentForm s content → Expands items ps → Expands (section_items s ++ items) (parts_of_section s ps)
section_expands (Named name bytes) content items ps form e = (refl, e)
section_expands (CoreModules bytes) content items ps form e = (refl, e)
section_expands (CoreInstances xs) content items ps form e = many_expand CoreMade (λ x. refl) xs items ps e
section_expands (CoreTypes xs) content items ps form e = many_expand CoreTy (λ x. refl) xs items ps e
section_expands (Nested bytes inner) content items ps form e =
    ((refl, (inner, refl, subst (λ b. ComponentForm inner b) form.0 form.1)), e)
section_expands (Instances xs) content items ps form e = many_expand Instance (λ x. refl) xs items ps e
section_expands (Aliases xs) content items ps form e = many_expand Aliased (λ x. refl) xs items ps e
section_expands (Types xs) content items ps form e = many_expand Ty (λ x. refl) xs items ps e
section_expands (Canons xs) content items ps form e = many_expand Canonical (λ x. refl) xs items ps e
section_expands (Imports xs) content items ps form e = many_expand Import (λ x. refl) xs items ps e
section_expands (Exports xs) content items ps form e = many_expand Export (λ x. refl) xs items ps e

sections_expand : (ss : Sections) (bytes : List ℕ) → SectionsForm ss bytes → Expands (items_in ss) (parts_in ss)
sections_expand none bytes form = tt
sections_expand (more s ss) bytes form = section_expands s form.0 (items_in ss) (parts_in ss) form.3 (sections_expand ss form.1 form.4)

-- the items of a component
abbrev pub items_of : (bytes : List ℕ) (parts : Parts) → HasParts bytes parts → List ItemTree
items_of bytes parts has = items_in has.0

pub reads_items : (bytes : List ℕ) (parts : Parts) (has : HasParts bytes parts) → Reads bytes (items_of bytes parts has)
reads_items bytes parts has = (has.0, refl, has.2)

pub expands_items : (bytes : List ℕ) (parts : Parts) (has : HasParts bytes parts) → Expands (items_of bytes parts has) parts
expands_items bytes parts has = subst (λ ps. Expands (items_in has.0) ps) (sym has.1) (sections_expand has.0 has.2.0 has.2.2)

module _ (one : (bytes : List ℕ) (a b : List ItemTree) → Reads bytes a → Reads bytes b → a ≡ b) where
  -- the second list of parts, as one of the items of the first
  other_expands : (bytes : List ℕ) (p q : Parts) (a : HasParts bytes p) (b : HasParts bytes q) → Expands (items_of bytes p a) q
  other_expands bytes p q a b =
      subst (λ items. Expands items q) (one bytes _ _ (reads_items bytes q b) (reads_items bytes p a)) (expands_items bytes q b)

  mutual
    same_part : (item : ItemTree) (p q : Part) → IsPart item p → IsPart item q → p ≡ q
    same_part (Component bytes) (Inner within ps) (Inner other qs) a b =
        let bytes_are = sym a.0 ∙ b.0 in
        let parts = same_parts (items_of bytes ps a.1) ps qs (expands_items bytes ps a.1) (other_expands bytes ps qs a.1 b.1) in
        λ i. Inner (bytes_are i) (parts i)
    same_part (Component bytes) (Inner within ps) (Plain item) a b = absurd b
    same_part (Component bytes) (Plain item) q a b = absurd a
    same_part item (Plain one) (Plain other) a b = ap Plain (sym a ∙ b)
    same_part item (Plain one) (Inner within qs) a b = absurd b
    same_part item (Inner within ps) q a b = absurd a

    same_parts : (items : List ItemTree) (ps qs : Parts) → Expands items ps → Expands items qs → ps ≡ qs
    same_parts [] nothing nothing a b = refl
    same_parts [] nothing (then_part q qs) a b = absurd b
    same_parts [] (then_part p ps) qs a b = absurd a
    same_parts (item ∷ items) nothing qs a b = absurd a
    same_parts (item ∷ items) (then_part p ps) nothing a b = absurd b
    same_parts (item ∷ items) (then_part p ps) (then_part q qs) a b =
        λ i. then_part (same_part item p q a.0 b.0 i) (same_parts items ps qs a.1 b.1 i)

  pub one_list : (bytes : List ℕ) (p q : Parts) → HasParts bytes p → HasParts bytes q → p ≡ q
  one_list bytes p q a b = same_parts (items_of bytes p a) p q (expands_items bytes p a) (other_expands bytes p q a b)
