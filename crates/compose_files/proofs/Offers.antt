-- What definitions have for imports, with what one more export adds.
use Rattle.std.proofs.Common.{◌≡◌, ◌<◌, ◌+◌, ℕ, Bool, true, false, ◌&&◌, cond, List, [], ◌∷◌, ◌++◌, length, drop, get_or, Option, Some, None, option_map, is_some, refl, sym, ap, ◌∙◌, bytes_eq}
use Rattle.std.specs.List.{position_from}
use Rattle.std.specs.Map.{lookup}
use Rattle.std.specs.Option.{option_or}
use Rattle.std.proofs.lemmas.Slice.Eq.{bytes_eq-Decides}
use Rattle.indexmap.specs.IndexMap.{insert_entry}
use Rattle.comp_entity.specs.Entity.{EntityTree}
use Rattle.comp_entity.specs.Views.{entity_tree, named_entities}
use Rattle.comp_entity.specs.declared.entity.Entity.{Entity}
use Rattle.compose_files.specs.Choice.{is_instance, is_instance_named}
use Rattle.compose_files.specs.declared.offer.Offer.{Offer}
use Rattle.compose_config.specs.MapLaws.{bytes_turned, insert_absent, lookup_behind}
use Rattle.compose_files.proofs.PlaceSteps.{at_place}

module _ {A : Type 0} (offer : ℕ → A) (there : Option A) (place : ℕ) (later : Option ℕ) where
  -- an export of another name, or that is no instance, or for whose name something is there
  pub offer_kept : (same inst : Bool) → (same ≡ true → inst ≡ true → is_some there ≡ true) → option_or there (option_map offer later) ≡ option_or there (option_map offer (cond (same && inst) (Some place) later))
  offer_kept false inst some = refl
  offer_kept true false some = refl
  offer_kept true true some = by there (some refl refl)
    where
      by : (o : Option A) → is_some o ≡ true → option_or o (option_map offer later) ≡ option_or o (Some (offer place))
      by None h = absurd cc
      by (Some a) h = refl

  -- an instance for whose name nothing is there
  pub offer_added : (same : Bool) → (same ≡ true → there ≡ None) → option_or (option_or there (cond same (Some (offer place)) None)) (option_map offer later) ≡ option_or there (option_map offer (cond (same && true) (Some place) later))
  offer_added true none = by there (none refl)
    where
      by : (o : Option A) → o ≡ None → option_or (option_or o (Some (offer place))) (option_map offer later) ≡ option_or o (Some (offer place))
      by None h = refl
      by (Some a) h = absurd cc
  offer_added false none = by there
    where
      by : (o : Option A) → option_or (option_or o None) (option_map offer later) ≡ option_or o (option_map offer later)
      by None = refl
      by (Some a) = refl

-- ---- over the exports of a definition

abbrev pub made_offer : ℕ → ℕ → Offer
made_offer id export = record { component = id; export = export }

abbrev pub seen : List ℕ × Entity → List ℕ × EntityTree
seen e = (e.0, entity_tree e.1)

-- what is there for a name, or else what the exports from a place on have for it
abbrev pub offered_from : ℕ → List (List ℕ × Entity) → List (List ℕ × Offer) → List ℕ → ℕ → Option Offer
offered_from id xs es name place = option_or (lookup (bytes_eq name) es) (option_map (made_offer id) (position_from (is_instance_named name) place (named_entities (drop place xs))))

same_name : (name key : List ℕ) → bytes_eq key name ≡ true → name ≡ key
same_name name key is = sym ((bytes_eq-Decides key name).0 is)

-- an export for which nothing is put there
pub kept_next : (id place : ℕ) (xs : List (List ℕ × Entity)) (x : List ℕ × Entity) (es : List (List ℕ × Offer)) (name : List ℕ) → place < length xs → x ≡ get_or xs place x
    → (is_instance (entity_tree x.1) ≡ true → is_some (lookup (bytes_eq x.0) es) ≡ true) → offered_from id xs es name (place + 1) ≡ offered_from id xs es name place
kept_next id place xs x es name less is some =
    offer_kept (made_offer id) (lookup (bytes_eq name) es) place (position_from (is_instance_named name) (place + 1) (named_entities (drop (place + 1) xs))) (bytes_eq x.0 name) (is_instance (entity_tree x.1))
    (λ same instance. ap (λ n. is_some (lookup (bytes_eq n) es)) (same_name name x.0 same) ∙ some instance)
    ∙ ap (λ o. option_or (lookup (bytes_eq name) es) (option_map (made_offer id) o)) (sym (at_place seen (is_instance_named name) xs place x less is))

-- an export that is put there, since nothing was
pub added_next : (id place : ℕ) (xs : List (List ℕ × Entity)) (x : List ℕ × Entity) (es new : List (List ℕ × Offer)) (key name : List ℕ) → place < length xs → x ≡ get_or xs place x
    → is_instance (entity_tree x.1) ≡ true → is_some (lookup (bytes_eq x.0) es) ≡ false → key ≡ x.0 → new ≡ insert_entry bytes_eq es key (made_offer id place)
    → offered_from id xs new name (place + 1) ≡ offered_from id xs es name place
added_next id place xs x es new key name less is instance absent key_is new_is =
    let none : lookup (bytes_eq x.0) es ≡ None = is_none (lookup (bytes_eq x.0) es) absent in
    let later = position_from (is_instance_named name) (place + 1) (named_entities (drop (place + 1) xs)) in
    let last : new ≡ es ++ (x.0, made_offer id place) ∷ [] = new_is ∙ ap (λ k. insert_entry bytes_eq es k (made_offer id place)) key_is ∙ insert_absent bytes_eq es x.0 (made_offer id place) none in
    ap (λ l. option_or (lookup (bytes_eq name) l) (option_map (made_offer id) later)) last
    ∙ ap (λ o. option_or o (option_map (made_offer id) later)) (lookup_behind (bytes_eq name) es x.0 (made_offer id place) ∙ ap (λ b. option_or (lookup (bytes_eq name) es) (cond b (Some (made_offer id place)) None)) (bytes_turned name x.0))
    ∙ offer_added (made_offer id) (lookup (bytes_eq name) es) place later (bytes_eq x.0 name) (λ same. ap (λ n. lookup (bytes_eq n) es) (same_name name x.0 same) ∙ none)
    ∙ ap (λ b. option_or (lookup (bytes_eq name) es) (option_map (made_offer id) (cond (bytes_eq x.0 name && b) (Some place) later))) (sym instance)
    ∙ ap (λ o. option_or (lookup (bytes_eq name) es) (option_map (made_offer id) o)) (sym (at_place seen (is_instance_named name) xs place x less is))
  where
    is_none : (o : Option Offer) → is_some o ≡ false → o ≡ None
    is_none None h = refl
    is_none (Some a) h = absurd cc
