-- What an entity of an instance mentions and names, with the numbers of origins in place.
use Rattle.std.proofs.Common.{◌≡◌, ◌⊎◌, inl, inr, Bool, true, false, List, [], ◌∷◌, ◌++◌, map, ℕ, Option, Some, None, refl, sym, ap, ◌∙◌}
use Rattle.std.specs.Prelude.{flat_map, option_to_list, if◌then◌else◌}
use Rattle.std.proofs.lemmas.Grind.{flat_map-append}
use Rattle.comp_entity.specs.Entity.{Name, EntityTree, IsType, IsFunc, IsInstance, IsComponent, IsModule, IsOwnModule, Entries, no_entry, entry}
use Rattle.comp_entity.specs.Names.{entity_by}
use Rattle.comp_entity.specs.Places.{Path, leaves_of, leaves_in}
use Rattle.compose_left.specs.declared.spots.Thing.{Thing}
use Rattle.compose_left.specs.Origins.{number_of, of_resource, of_type, placed}
use Rattle.compose_left.specs.Spots.{resource, named_type, named_by}
use Rattle.compose_left.specs.Wiring.{Wiring}
use Rattle.compose_needs.specs.Mentioned.{has, mentioned}
use Rattle.compose_known.proofs.ChangedLaws.{change, changed, changed_mentions, leaf_by, leaves_changed, named_here}
use Rattle.compose_known.proofs.MentionLaws.{has_either, has_first, has_then, has_one, has_itself}
use Rattle.compose_known.proofs.OriginLaws.{numbered}

-- ---- what is named

-- what stands in an entity as a type, instances gone into
abbrev mutual
  pub things_of : EntityTree → List Thing
  things_of (IsInstance es) = things_among es
  things_of e = option_to_list (named_by e)

  pub things_among : Entries → List Thing
  things_among no_entry = []
  things_among (entry name e mark es) = things_of e ++ things_among es

abbrev pub leaf_things : List (Path × EntityTree) → List Thing
leaf_things ls = flat_map (λ (l : Path × EntityTree). option_to_list (named_by l.1)) ls

one_thing : (o : Option Thing) → option_to_list o ++ [] ≡ option_to_list o
one_thing None = refl
one_thing (Some t) = refl

mutual
  pub leaf_things_are : (path : Path) (e : EntityTree) → leaf_things (leaves_of path e) ≡ things_of e
  leaf_things_are path (IsType t) = one_thing (named_by (IsType t))
  leaf_things_are path (IsFunc f) = refl
  leaf_things_are path (IsInstance es) = among_things_are path es
  leaf_things_are path (IsComponent is es) = refl
  leaf_things_are path (IsModule m) = refl
  leaf_things_are path IsOwnModule = refl

  among_things_are : (path : Path) (es : Entries) → leaf_things (leaves_in path es) ≡ things_among es
  among_things_are path no_entry = refl
  among_things_are path (entry name e mark es) =
      flat_map-append (λ (l : Path × EntityTree). option_to_list (named_by l.1)) (leaves_of (path ++ name ∷ []) e)
      (leaves_in path es)
      ∙ (λ i. leaf_things_are (path ++ name ∷ []) e i ++ among_things_are path es i)

module _ (r p : Name → Name) where
  leaves_named : (ls : List (Path × EntityTree)) (t : Thing) → has (leaf_things ls) t ≡ true
      → has (leaf_things (map (leaf_by r p 0) ls)) (changed r p t) ≡ true
  leaves_named [] t h = absurd cc
  leaves_named (l ∷ ls) t h =
      go (named_by l.1) refl (has_either (option_to_list (named_by l.1)) (leaf_things ls) t h) (leaves_named ls t)
    where
      next : List Thing
      next = option_to_list (named_by (entity_by (change r p) 0 l.1))

      go : (o : Option Thing) → named_by l.1 ≡ o
          → (has (option_to_list (named_by l.1)) t ≡ true) ⊎ (has (leaf_things ls) t ≡ true)
          → (has (leaf_things ls) t ≡ true → has (leaf_things (map (leaf_by r p 0) ls)) (changed r p t) ≡ true)
          → has (next ++ leaf_things (map (leaf_by r p 0) ls)) (changed r p t) ≡ true
      go o is (inr k) rest = has_then next (leaf_things (map (leaf_by r p 0) ls)) (changed r p t) (rest k)
      go None is (inl k) rest = absurd (no (sym (ap (λ o. has (option_to_list o) t) is) ∙ k))
        where
          no : false ≡ true → ⊥
          no e = absurd cc
      go (Some s) is (inl k) rest =
          has_first next (leaf_things (map (leaf_by r p 0) ls)) (changed r p t)
          (ap (λ o. has (option_to_list o) (changed r p t)) (named_here r p l.1 s is)
          ∙ ap (λ y. has (y ∷ []) (changed r p t))
          (ap (changed r p) (has_one s t (sym (ap (λ o. has (option_to_list o) t) is) ∙ k)))
          ∙ has_itself (changed r p t) [])

  -- what stands in an entity stands in it by its other name
  pub changed_things : (e : EntityTree) (t : Thing) → has (things_of e) t ≡ true
      → has (things_of (entity_by (change r p) 0 e)) (changed r p t) ≡ true
  changed_things e t h =
      ap (λ ts. has ts (changed r p t)) (sym (leaf_things_are [] (entity_by (change r p) 0 e))
      ∙ ap leaf_things (leaves_changed r p 0 [] e))
      ∙ leaves_named (leaves_of [] e) t (ap (λ ts. has ts t) (leaf_things_are [] e) ∙ h)

-- ---- with the numbers of origins in place

module _ (w : Wiring) (i : ℕ) where
  changed_number : (t : Thing) → changed (of_resource w i) (of_type w i) t ≡ numbered w i t
  changed_number t = one t.is_type refl
    where
      n : Name
      n = record { out = t.out; number = t.number }

      one : (b : Bool) → t.is_type ≡ b
          → (if b then named_type (of_type w i n) else resource (of_resource w i n)) ≡ numbered w i t
      one true is =
          λ j. record {
            is_type = sym is j;
            out = 0;
            number = number_of w
                (record { instance = i; thing = record { is_type = sym is j; out = t.out; number = t.number } });
          }
      one false is =
          λ j. record {
            is_type = sym is j;
            out = 0;
            number = number_of w
                (record { instance = i; thing = record { is_type = sym is j; out = t.out; number = t.number } });
          }

  pub placed_mentions : (e : EntityTree) (t : Thing) → has (mentioned (placed w i e)) t ≡ true
      → (x : Thing) × (t ≡ numbered w i x)
  placed_mentions e t h =
      let m = changed_mentions (of_resource w i) (of_type w i) e t h in (m.before, m.is ∙ changed_number m.before)

  pub placed_things : (e : EntityTree) (x : Thing) → has (things_of e) x ≡ true
      → has (things_of (placed w i e)) (numbered w i x) ≡ true
  placed_things e x h =
      ap (has (things_of (placed w i e))) (sym (changed_number x))
      ∙ changed_things (of_resource w i) (of_type w i) e x h
