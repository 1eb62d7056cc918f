-- Resources that are known are told apart by what they are called.
use Rattle.std.proofs.Common.{◌≡◌, ℕ, ◌+◌, ◌-◌, Bool, true, false, ◌&&◌, ◌||◌, List, [], ◌∷◌, ◌++◌, Option, Some, None, refl, sym, ap, subst, ◌∙◌, arith, true≢false}
use Rattle.std.specs.Prelude.{nat_le, ◌==◌}
use Rattle.std.specs.List.{list_any}
use Rattle.comp_entity.specs.Entity.{Name, Value, Resource, Func, Instance, Component, EntityTree, IsType, IsFunc, IsInstance, IsComponent, IsModule, IsOwnModule, Entries, no_entry, entry}
use Rattle.comp_entity.specs.Names.{deeper, Mention, OfResource, OfPlace, in_entries}
use Rattle.comp_entity.specs.Fits.{place_of}
use Rattle.comp_entity.specs.Places.{same_mention, named_value}
use Rattle.compose_meaning.specs.Meaning.{Meaning, placing, placed_entries}
use Rattle.compose_meaning.specs.Readable.{SpotKind, Importing, Exporting, new_name, Spot, is_new, inside, within, first_spot, brought_keys, keys_among, new_resources, behind, behind_all, IsOlder, AreApart, HasMeaning, HaveMeaning}
use Rattle.compose_meaning.proofs.ListLaws.{or_none, or_both}
use Rattle.compose_meaning.proofs.NoteLaws.{mention_is}
use Rattle.compose_meaning.proofs.ShowsLaws.{IsOrderly}
use Rattle.compose_meaning.proofs.OlderLaws.{KeyEach, below, beyond_all, brought_each, each_any, either_known, more_old, resource_behind, instance_old, inside_old, within_mention}
use Rattle.compose_meaning.proofs.EntityLaws.{entity_orderly}

-- resources that are known are older than what is new
abbrev pub OlderResources : Meaning → Spot → Type 0
OlderResources mean p = (r : Name) → p.known (OfResource r) ≡ true → is_new p (mean.resource r) ≡ false

pub record Told (mean : Meaning) (p : Spot) : Type 0 where
  pub older : OlderResources mean p
  pub apart : AreApart mean p.known

-- ---- what an entity brings

abbrev any_is : Mention → List Mention → Bool
any_is key keys = list_any (λ k. same_mention k key) keys

any_both : (key : Mention) (xs ys : List Mention) → any_is key (xs ++ ys) ≡ (any_is key xs || any_is key ys)
any_both key [] ys = refl
any_both key (x ∷ xs) ys = ap (λ b. same_mention x key || b) (any_both key xs ys) ∙ sym (or_both (same_mention x key) (any_is key xs) (any_is key ys))

-- behind entities just what they bring is known, beside what was
pub known_behind : (mean : Meaning) (p : Spot) (es : Entries) (key : Mention) → (behind_all mean p es).known key ≡ (p.known key || any_is key (keys_among es))
unfolding behind_all
known_behind mean p no_entry key = or_none (p.known key)
known_behind mean p (entry name e mark es) key = known_behind mean (behind mean p name e) es key
    ∙ or_both (p.known key) (any_is key (brought_keys e)) (any_is key (keys_among es))
    ∙ ap (λ b. p.known key || b) (sym (any_both key (brought_keys e) (keys_among es)))

-- ---- one more

-- a place is no resource
pub no_resource : (o : Option Name) (r : Name) → any_is (OfResource r) (named_value o) ≡ false
no_resource None r = refl
no_resource (Some n) r = refl

pub or_false : (a b : Bool) → b ≡ false → (a || b) ≡ true → a ≡ true
or_false true b h g = refl
or_false false b h g = sym h ∙ g

-- what brings no resource
told_on : (mean : Meaning) (p : Spot) (name : List ℕ) (e : EntityTree) → Told mean p → ((r : Name) → any_is (OfResource r) (brought_keys e) ≡ false) → Told mean (behind mean p name e)
told_on mean p name e told none = record {
  older = λ r h. more_old (new_name p.side 0).out p.resources (new_resources mean p e) (mean.resource r) (told.older r (or_false (p.known (OfResource r)) (any_is (OfResource r) (brought_keys e)) (none r) h));
  apart = λ r s hr hs same. told.apart r s (or_false (p.known (OfResource r)) (any_is (OfResource r) (brought_keys e)) (none r) hr) (or_false (p.known (OfResource s)) (any_is (OfResource s) (brought_keys e)) (none s) hs) same;
}

-- a resource
is_new_name : (side : SpotKind) (n : ℕ) → (((new_name side n).out == (new_name side 0).out) && nat_le n (new_name side n).number) ≡ true
is_new_name Importing n = grind arith
is_new_name Exporting n = grind arith

resource_told : (mean : Meaning) (p : Spot) (name : List ℕ) (r : Name) → Told mean p → (p.known (OfResource r) ≡ false → mean.resource r ≡ new_name p.side p.resources) → Told mean (behind mean p name (IsType (Resource r)))
resource_told mean p name r told fresh = record {
  older = λ s h. either_known (p.known (OfResource s)) (any_is (OfResource s) (OfResource r ∷ [])) h
      (λ known. more_old (new_name p.side 0).out p.resources (new_resources mean p (IsType (Resource r))) (mean.resource s) (told.older s known))
      (λ new. subst (λ s. is_new (behind mean p name (IsType (Resource r))) (mean.resource s) ≡ false) (this s new) (resource_behind mean p name r (told.older r) fresh));
  apart = λ s t hs ht same. either_known (p.known (OfResource s)) (any_is (OfResource s) (OfResource r ∷ [])) hs
      (λ s_known. either_known (p.known (OfResource t)) (any_is (OfResource t) (OfResource r ∷ [])) ht
      (λ t_known. told.apart s t s_known t_known same)
      (λ t_new. known_and_new s t s_known (this t t_new) same (p.known (OfResource r)) refl))
      (λ s_new. either_known (p.known (OfResource t)) (any_is (OfResource t) (OfResource r ∷ [])) ht
      (λ t_known. sym (known_and_new t s t_known (this s s_new) (sym same) (p.known (OfResource r)) refl))
      (λ t_new. sym (this s s_new) ∙ this t t_new));
}
  where
    this : (s : Name) → any_is (OfResource s) (OfResource r ∷ []) ≡ true → r ≡ s
    this s h = name_of (mention_is (OfResource r) (OfResource s) (or_none (same_mention (OfResource r) (OfResource s)) ∙ h))
      where
        name_in : Mention → Name
        name_in (OfResource n) = n
        name_in (OfPlace n) = n

        name_of : OfResource r ≡ OfResource s → r ≡ s
        name_of e = ap name_in e

    known_and_new : (s t : Name) → p.known (OfResource s) ≡ true → r ≡ t → mean.resource s ≡ mean.resource t → (b : Bool) → p.known (OfResource r) ≡ b → s ≡ t
    known_and_new s t known is same true old = told.apart s t known (subst (λ t. p.known (OfResource t) ≡ true) is old) same
    known_and_new s t known is same false new =
        let called : mean.resource s ≡ new_name p.side p.resources = same ∙ ap mean.resource (sym is) ∙ fresh new in
        absurd (true≢false (sym (is_new_name p.side p.resources) ∙ ap (is_new p) (sym called) ∙ told.older s known))

deeper_same : (m n : Name) → deeper 1 m ≡ deeper 1 n → m ≡ n
deeper_same m n h = sym (back m) ∙ ap (λ (x : Name). record { out = x.out - 1; number = x.number }) h ∙ back n
  where
    back : (x : Name) → record { out = x.out + 1 - 1; number = x.number } ≡ x
    back x = let one_less : x.out + 1 - 1 ≡ x.out = omega arith in ap (λ o. record { out = o; number = x.number }) one_less

-- within an instance, at its begin
pub told_within : (mean : Meaning) (p : Spot) → Told mean p → Told (within p mean) (first_spot Exporting p.known)
told_within mean p told = record {
  older = λ r h. within_mention mean p (0, OfResource r) (told.older r h);
  apart = λ r s hr hs same. told.apart r s hr hs (deeper_same (mean.resource r) (mean.resource s) (sym (inside_old p (mean.resource r) (told.older r hr)) ∙ same ∙ inside_old p (mean.resource s) (told.older s hs)));
}

-- behind an instance
instance_told : (mean : Meaning) (p : Spot) (name : List ℕ) (es : Entries) → Told mean p → IsOrderly mean.may_mention mean.tree (IsInstance es) → Told (within p mean) (behind_all (within p mean) (first_spot Exporting p.known) es) → Told mean (behind mean p name (IsInstance es))
instance_told mean p name es told orderly inner = record {
  older = λ r h. either_known (p.known (OfResource r)) (any_is (OfResource r) (brought_keys (IsInstance es))) h
      (λ known. more_old (new_name p.side 0).out p.resources (new_resources mean p (IsInstance es)) (mean.resource r) (told.older r known))
      (λ new. (each_any (KeyEach mean (IsOlder mean (behind mean p name (IsInstance es)))) (brought_keys (IsInstance es)) (OfResource r)
      (brought_each mean (placing (within p mean).resource) (below (new_resources mean p (IsInstance es))) (IsOlder mean (behind mean p name (IsInstance es))) (instance_old mean p name es) (λ n. tt) (IsInstance es) (beyond_all (in_entries 0 (placed_entries (within p mean) es))) orderly) new).0);
  apart = λ r s hr hs same. inner.apart r s (in_end (OfResource r) hr) (in_end (OfResource s) hs) (ap (inside p) same);
}
  where
    in_end : (key : Mention) → (behind mean p name (IsInstance es)).known key ≡ true → (behind_all (within p mean) (first_spot Exporting p.known) es).known key ≡ true
    in_end key h = known_behind (within p mean) (first_spot Exporting p.known) es key ∙ h

mutual
  unfolding behind_all

  pub told_behind : (mean : Meaning) (p : Spot) (name : List ℕ) (e : EntityTree) → Told mean p → HasMeaning mean p e → Told mean (behind mean p name e)
  told_behind mean p name (IsType (Value t)) told has = told_on mean p name (IsType (Value t)) told (no_resource (place_of t))
  told_behind mean p name (IsType (Resource r)) told has = resource_told mean p name r told has.1
  told_behind mean p name (IsType (Func f)) told has = told_on mean p name (IsType (Func f)) told (λ r. refl)
  told_behind mean p name (IsType (Instance es)) told has = told_on mean p name (IsType (Instance es)) told (λ r. refl)
  told_behind mean p name (IsType (Component is es)) told has = told_on mean p name (IsType (Component is es)) told (λ r. refl)
  told_behind mean p name (IsFunc f) told has = told_on mean p name (IsFunc f) told (λ r. refl)
  told_behind mean p name (IsInstance es) told has = instance_told mean p name es told (entity_orderly mean p (IsInstance es) has) (all_told (within p mean) (first_spot Exporting p.known) es (told_within mean p told) has)
  told_behind mean p name (IsComponent is es) told has = told_on mean p name (IsComponent is es) told (λ r. refl)
  told_behind mean p name (IsModule m) told has = told_on mean p name (IsModule m) told (λ r. refl)
  told_behind mean p name IsOwnModule told has = told_on mean p name IsOwnModule told (λ r. refl)

  pub all_told : (mean : Meaning) (p : Spot) (es : Entries) → Told mean p → HaveMeaning mean p es → Told mean (behind_all mean p es)
  all_told mean p no_entry told have = told
  all_told mean p (entry name e mark es) told have = all_told mean (behind mean p name e) es (told_behind mean p name e told have.1) have.2
