-- A component that hides nothing of what it mentions can be imported, whatever is known.
use Rattle.std.proofs.Common.{◌≡◌, ℕ, Bool, true, false, List, [], ◌∷◌, ◌++◌, map, Some, None, refl, sym, ap, ◌∙◌, append_assoc}
use Rattle.std.specs.Prelude.{flat_map, is_some, if◌then◌else◌}
use Rattle.std.specs.List.{AllByRecursion, list_all}
use Rattle.std.proofs.lemmas.Bool.{and_from, and_parts}
use Rattle.std.proofs.lemmas.Grind.{flat_map-append}
use Rattle.std.proofs.lemmas.List.{map-append, append-nil}
use Rattle.comp_entity.specs.Entity.{EntityTree, IsType, IsFunc, IsInstance, IsComponent, IsModule, IsOwnModule, Entries, no_entry, entry, ShapeTree}
use Rattle.comp_entity.specs.Names.{Mention}
use Rattle.comp_entity.specs.Places.{Path, leaves_of, leaves_in}
use Rattle.comp_entity.specs.Views.{entries_of}
use Rattle.compose_left.specs.declared.spots.Thing.{Thing}
use Rattle.compose_needs.specs.declared.place.Place.{Place}
use Rattle.compose_needs.specs.Exports.{component_hides, is_side_tied, own_places, side_hides}
use Rattle.compose_needs.specs.Leaves.{leaf_of, leaves_among}
use Rattle.compose_needs.specs.Mentioned.{has, mentioned}
use Rattle.compose_needs.specs.Tied.{are_tied, entity_holds_tied, named_in, near_place}
use Rattle.compose_writing.specs.Conditions.{KeepsEntries, is_known}
use Rattle.compose_known.specs.InOrder.{AreInOrder}
use Rattle.compose_known.specs.Whole.{IsWhole, component_of}
use Rattle.compose_known.proofs.BehindLaws.{AllStand, all_split, entity_goes}
use Rattle.compose_known.proofs.TopLaws.{entity_stands}

abbrev NamedEntities : Type 0
NamedEntities = List (List ℕ × EntityTree)

-- ---- places, wherever an entity stands

joined : (xs ys : List (Path × EntityTree))
    → map near_place (map leaf_of (xs ++ ys)) ≡ map near_place (map leaf_of xs) ++ map near_place (map leaf_of ys)
joined xs ys = ap (map near_place) (map-append leaf_of xs ys) ∙ map-append near_place (map leaf_of xs) (map leaf_of ys)

mutual
  places_same : (path other : Path) (e : EntityTree)
      → map near_place (map leaf_of (leaves_of path e)) ≡ map near_place (map leaf_of (leaves_of other e))
  places_same path other (IsType t) = refl
  places_same path other (IsFunc f) = refl
  places_same path other (IsInstance es) = among_same path other es
  places_same path other (IsComponent is es) = refl
  places_same path other (IsModule m) = refl
  places_same path other IsOwnModule = refl

  among_same : (path other : Path) (es : Entries)
      → map near_place (map leaf_of (leaves_in path es)) ≡ map near_place (map leaf_of (leaves_in other es))
  among_same path other no_entry = refl
  among_same path other (entry name e mark es) =
      joined (leaves_of (path ++ name ∷ []) e) (leaves_in path es)
      ∙ (λ i. places_same (path ++ name ∷ []) (other ++ name ∷ []) e i ++ among_same path other es i)
      ∙ sym (joined (leaves_of (other ++ name ∷ []) e) (leaves_in other es))

side_places_are : (es : NamedEntities)
    → map near_place (leaves_among [] (entries_of es)) ≡ flat_map (λ (e : List ℕ × EntityTree). own_places e.1) es
side_places_are [] = refl
side_places_are (e ∷ es) =
    joined (leaves_of (e.0 ∷ []) e.1) (leaves_in [] (entries_of es))
    ∙ (λ i. places_same (e.0 ∷ []) [] e.1 i ++ side_places_are es i)

-- ---- one side behind another

tied_both : (seen : List Thing) (ps qs : List Place) → are_tied seen ps ≡ true
    → are_tied (seen ++ named_in ps) qs ≡ true → are_tied seen (ps ++ qs) ≡ true
tied_both seen [] qs a b = ap (λ ts. are_tied ts qs) (sym (append-nil seen)) ∙ b
tied_both seen (p ∷ ps) qs a b =
    let parts = and_parts (list_all (has (seen ++ p.named)) p.asked) (are_tied (seen ++ p.named) ps) a in
    and_from (list_all (has (seen ++ p.named)) p.asked) (are_tied (seen ++ p.named) (ps ++ qs)) parts.0
    (tied_both (seen ++ p.named) ps qs parts.1
    (ap (λ ts. are_tied ts qs) (append_assoc seen p.named (named_in ps)) ∙ b))

record SidesTied (seen : List Thing) (es : NamedEntities) : Type 0 where
  tied : are_tied seen (flat_map (λ (e : List ℕ × EntityTree). own_places e.1) es) ≡ true
  within : AllByRecursion (λ (e : List ℕ × EntityTree). entity_holds_tied e.1 ≡ true) es

sides_tied : (seen : List Thing) (es : NamedEntities) → side_hides seen es ≡ None → SidesTied seen es
sides_tied seen [] h = record { tied = refl; within = tt }
sides_tied seen (e ∷ es) h = one (is_side_tied seen e.1) refl h (sides_tied (seen ++ named_in (own_places e.1)) es)
  where
    one : (b : Bool) → is_side_tied seen e.1 ≡ b
        → (if b then side_hides (seen ++ named_in (own_places e.1)) es else Some e.0) ≡ None
        → (side_hides (seen ++ named_in (own_places e.1)) es ≡ None → SidesTied (seen ++ named_in (own_places e.1)) es)
        → SidesTied seen (e ∷ es)
    one true t h rest =
        let parts = and_parts (are_tied seen (own_places e.1)) (entity_holds_tied e.1) t in
        let r = rest h in
        record {
          tied =
              tied_both seen (own_places e.1) (flat_map (λ (e : List ℕ × EntityTree). own_places e.1) es) parts.0
              r.tied;
          within = (parts.1, r.within);
        }
    one false t h rest = absurd cc

side_stands : (es : NamedEntities) → AreInOrder (entries_of es) → KeepsEntries (entries_of es)
    → AllByRecursion (λ (e : List ℕ × EntityTree). entity_holds_tied e.1 ≡ true) es → AllStand (entries_of es)
side_stands [] o k t = tt
side_stands (e ∷ es) o k t = (entity_stands e.1 o.0 k.1 t.0, side_stands es o.1 k.2 t.1)

-- nothing is mentioned
nothing_has : (ts : List Thing) (t : Thing) → ts ≡ [] → has ts t ≡ true → ⊥
nothing_has ts t e h = no (sym (ap (λ ts. has ts t) e) ∙ h)
  where
    no : false ≡ true → ⊥
    no h = absurd cc

pub component_known : (s : ShapeTree) (f : Mention → Bool) → IsWhole s → KeepsEntries (entries_of s.imports)
    → KeepsEntries (entries_of s.exports) → component_hides s ≡ None → is_known f (component_of s) ≡ true
component_known s f whole imports exports hides =
    let sides = sides_tied [] (s.imports ++ s.exports) hides in
    let within = all_split (λ (e : List ℕ × EntityTree). entity_holds_tied e.1 ≡ true) s.imports s.exports
    sides.within in
    let places : map near_place (leaves_among [] (entries_of s.imports) ++ leaves_among [] (entries_of s.exports))
    ≡ flat_map (λ (e : List ℕ × EntityTree). own_places e.1) (s.imports ++ s.exports) =
    map-append near_place (leaves_among [] (entries_of s.imports)) (leaves_among [] (entries_of s.exports))
    ∙ (λ i. side_places_are s.imports i ++ side_places_are s.exports i)
    ∙ sym (flat_map-append (λ (e : List ℕ × EntityTree). own_places e.1) s.imports s.exports) in
    let goes = entity_goes (component_of s) f (λ t. ⊥) [] (λ t h. absurd h)
    ((λ t h. nothing_has (mentioned (component_of s)) t whole.nothing_around h), tt) (
      ap (are_tied []) places ∙ sides.tied,
      side_stands s.imports whole.imports imports within.0,
      side_stands s.exports
          whole.exports exports within.1,
    ) in
    ap is_some goes.is
