-- What is read into a scope mentions what may be mentioned there, and names stand in order in it.
use Rattle.std.proofs.Common.{◌≡◌, ◌+◌, ℕ, Bool, true, false, List, [], ◌∷◌, ◌++◌, Ok, refl, sym, ap, subst, ◌∙◌}
use Rattle.std.specs.Prelude.{IfOk}
use Rattle.std.specs.List.{AllByRecursion}
use Rattle.comp_format.specs.declared.types.TypeRef.{TypeRef}
use Rattle.comp_entity.specs.Bounds.{Bounds, Index}
use Rattle.comp_entity.specs.Entity.{made, EntityTree, Entries}
use Rattle.comp_entity.specs.Names.{in_entries}
use Rattle.comp_scope.specs.Descriptions.{new_brought, new_made, Described, described, with_brought, with_made, imported, declared_export}
use Rattle.comp_scope.specs.Spaces.{Standing, Spaces, Known, nothing_known, if_below, is_taken, entries_in}
use Rattle.comp_scope.specs.Types.{with_spaces}
use Rattle.compose_left.specs.declared.spots.Thing.{Thing}
use Rattle.compose_needs.specs.Mentioned.{mentioned, outwards}
use Rattle.compose_known.specs.Placed.{HasPlaces, HavePlaces}
use Rattle.compose_shapes.proofs.Known.{AllGood, Beyond, Good, IsKnown, Scope, is_own, scope}
use Rattle.compose_shapes.proofs.Mentions.{called}
use Rattle.compose_shapes.proofs.Scopes.{Listed, brought_beyond, made_here, mentions_more, names_more, ordered_more, placed_more, tied_more}
use Rattle.compose_shapes.proofs.Standing.{SpacesGood, added_good, described_has, described_tied, entity_of, recounted, spaces_later, tied_named}
use Rattle.compose_shapes.proofs.Things.{has_first, of_both, weaker}
use Rattle.compose_shapes.proofs.Tied.{AllTied, IfOwn, Ordered, Tied, is_near, names_among, names_of}
use Rattle.compose_shapes.proofs.Values.{both_ok, passed_ok, refused_ok, then_ok}

-- what the imports of a component, and the exports of a type of instances, name so far
abbrev pub seen_of : Bool → Known → List Thing
seen_of true k = names_among (entries_in k.imports)
seen_of false k = names_among (entries_in k.exports)

-- what is known of a scope
pub record KnownGood (c : Bool) (ss : List Scope) (k : Known) : Type 0 where
  pub seen : List Thing
  pub seen_is : seen_of c k ≡ seen
  pub spaces : SpacesGood c seen ss k.spaces
  pub imports : AllGood (scope c seen ∷ ss) (entries_in k.imports)
  pub exports : AllGood (scope c seen ∷ ss) (entries_in k.exports)
  pub tied : c ≡ false → AllTied is_near [] (entries_in k.exports)
  pub imports_placed : HavePlaces (entries_in k.imports)
  pub exports_placed : c ≡ false → HavePlaces (entries_in k.exports)

pub nothing_good : (c : Bool) (ss : List Scope) → KnownGood c ss (nothing_known c)
nothing_good c ss = record {
  seen = [];
  seen_is = none c;
  spaces = record { closed = refl; modules = tt; funcs = tt; types = tt; components = tt; instances = tt };
  imports = (tt, tt);
  exports = (tt, tt);
  tied = λ e. tt;
  imports_placed = tt;
  exports_placed = λ e. tt;
}
  where
    none : (c : Bool) → seen_of c (nothing_known c) ≡ []
    none true = refl
    none false = refl

pub below_ok : {X : Type 0} (P : X → Type 0) (count i : ℕ) (x : X) → P x → IfOk (if_below count i x) P
below_ok P count i x h = passed_ok P _ Index (Ok x) h

-- ---- the same, where other things stand in the index spaces

module _ (c : Bool) (ss : List Scope) where
  pub spaces_too : (k : Known) (h : KnownGood c ss k) (s : Spaces) → SpacesGood c h.seen ss s
      → KnownGood c ss (with_spaces k s)
  spaces_too k h s l =
      record {
        seen = h.seen;
        seen_is = same c h.seen_is;
        spaces = l;
        imports = h.imports;
        exports = h.exports;
        tied = h.tied;
        imports_placed = h.imports_placed;
        exports_placed = h.exports_placed;
      }
    where
      same : (c : Bool) → seen_of c k ≡ h.seen → seen_of c (with_spaces k s) ≡ h.seen
      same true e = e
      same false e = e

all_later : (c : Bool) (seen more : List Thing) (ss : List Scope) (es : Entries) → AllGood (scope c seen ∷ ss) es
    → AllGood (scope c (seen ++ more) ∷ ss) es
all_later c seen more ss es h = (
  weaker (IsKnown (scope c seen ∷ ss)) (IsKnown (scope c (seen ++ more) ∷ ss))
      (λ t k. ((λ o. has_first seen more t (k.0 o)), k.1)) (outwards (in_entries 0 es)) h.0,
  h.1,
)

-- what is tied, and mentions beyond the scope what may be mentioned there, may be mentioned behind what it names
tied_known : (c : Bool) (seen : List Thing) (ss : List Scope) (e : EntityTree) → Tied (is_own c) seen e
    → AllByRecursion (Beyond c (IsKnown ss)) (mentioned e)
    → AllByRecursion (IsKnown (scope c (seen ++ names_of e) ∷ ss)) (mentioned e)
tied_known c seen ss e tied beyond =
    of_both (IfOwn (is_own c) (seen ++ names_of e)) (Beyond c (IsKnown ss))
    (IsKnown (scope c (seen ++ names_of e) ∷ ss)) (λ t a b. (a, b)) (mentioned e) (tied_named (is_own c) seen e tied)
    beyond

made_near : (ss : List Scope) (b : Bool) (n : ℕ) → Beyond false (IsKnown ss) (called b (made n))
made_near ss b n = λ k e. absurd cc

-- one import, or one export, more
pub all_more : (ss : List Scope) (xs : Listed) (name : List ℕ) (st : Standing) → is_taken name xs ≡ false
    → AllGood ss (entries_in xs) → Good ss st.0 → AllGood ss (entries_in (xs ++ (name, st) ∷ []))
all_more ss xs name st free h k =
    (mentions_more (IsKnown ss) xs (name, st) h.0 k.0, ordered_more xs (name, st) free h.1 k.1)

module _ (b : Bounds) where
  -- ---- imports and exports by descriptions

  abbrev NewGood : (c : Bool) → List Thing → List Scope → Described → Type 0
  NewGood c seen ss d =
      ((AllByRecursion (Beyond c (IsKnown ss)) (mentioned (entity_of d))) × Ordered (entity_of d))
      × (Tied (is_own c) seen (entity_of d) × HasPlaces (entity_of d))

  pub imported_good : (ss : List Scope) (k : Known) (name : List ℕ) (ref : TypeRef) → KnownGood true ss k
      → IfOk (imported b k name ref) (KnownGood true ss)
  unfolding imported
  imported_good ss k name ref h = refused_ok (KnownGood true ss) (is_taken name k.imports) Index _ (λ free.
      then_ok (NewGood true h.seen ss) (KnownGood true ss) (described k.spaces (new_brought k.spaces) ref) _
      (both_ok _ _ (described k.spaces (new_brought k.spaces) ref)
      (described_has true h.seen ss (new_brought k.spaces) (Beyond true (IsKnown ss)) (λ t l. l.1)
      (λ n. brought_beyond h.seen ss true (k.spaces.brought.places + n))
      (λ n. brought_beyond h.seen ss false (k.spaces.brought.resources + n)) k.spaces ref h.spaces)
      (described_tied true h.seen ss (new_brought k.spaces) k.spaces ref h.spaces)) (λ d l.
      let here = tied_known true h.seen ss (entity_of d) l.1.0 l.0.0 in
      let later = spaces_later true h.seen ss (names_of (entity_of d)) k.spaces h.spaces in
      then_ok (SpacesGood true (h.seen ++ names_of (entity_of d)) ss) (KnownGood true ss) (with_brought b k.spaces d) _
      (added_good true (h.seen ++ names_of (entity_of d)) ss b _ (entity_of d) d.standing.1
      (recounted true (h.seen ++ names_of (entity_of d)) ss k.spaces _ _ _ later) (here, l.0.1)) (λ s m. record {
        seen = h.seen ++ names_of (entity_of d);
        seen_is = names_more k.imports (name, d.standing) ∙ (ap (λ ns. ns ++ names_of (entity_of d)) h.seen_is);
        spaces = m;
        imports =
            all_more (scope true (h.seen ++ names_of (entity_of d)) ∷ ss) k.imports name d.standing free
            (all_later true h.seen (names_of (entity_of d)) ss (entries_in k.imports) h.imports) (here, l.0.1);
        exports = all_later true h.seen (names_of (entity_of d)) ss (entries_in k.exports) h.exports;
        tied = λ e. absurd cc;
        imports_placed = placed_more k.imports (name, d.standing) h.imports_placed l.1.1;
        exports_placed = λ e. absurd cc;
      })))

  -- in a component, and in a type of components
  closed_export : (ss : List Scope) (k : Known) (name : List ℕ) (ref : TypeRef) → KnownGood true ss k
      → IfOk (declared_export b k name ref) (KnownGood true ss)
  unfolding declared_export
  closed_export ss k name ref h = refused_ok (KnownGood true ss) (is_taken name k.exports) Index _ (λ free.
      then_ok (λ d. Good (scope true h.seen ∷ ss) (entity_of d)) (KnownGood true ss)
      (described k.spaces (new_made k.spaces) ref) _
      (described_has true h.seen ss (new_made k.spaces) (IsKnown (scope true h.seen ∷ ss)) (λ t l. l)
      (λ n. made_here h.seen ss true (k.spaces.made.places + n))
      (λ n. made_here h.seen ss false (k.spaces.made.resources + n)) k.spaces ref h.spaces) (λ d l.
      then_ok (SpacesGood true h.seen ss) (KnownGood true ss) (with_made b k.spaces d) _
      (added_good true h.seen ss b _ (entity_of d) d.standing.1 (recounted true h.seen ss k.spaces _ _ _ h.spaces) l)
      (λ s m. record {
        seen = h.seen;
        seen_is = h.seen_is;
        spaces = m;
        imports = h.imports;
        exports = all_more (scope true h.seen ∷ ss) k.exports name d.standing free h.exports l;
        tied = λ e. absurd cc;
        imports_placed = h.imports_placed;
        exports_placed = λ e. absurd cc;
      })))

  -- in a type of instances
  open_export : (ss : List Scope) (k : Known) (name : List ℕ) (ref : TypeRef) → KnownGood false ss k
      → IfOk (declared_export b k name ref) (KnownGood false ss)
  unfolding declared_export
  open_export ss k name ref h = refused_ok (KnownGood false ss) (is_taken name k.exports) Index _ (λ free.
      then_ok (NewGood false h.seen ss) (KnownGood false ss) (described k.spaces (new_made k.spaces) ref) _
      (both_ok _ _ (described k.spaces (new_made k.spaces) ref)
      (described_has false h.seen ss (new_made k.spaces) (Beyond false (IsKnown ss)) (λ t l. l.1)
      (λ n. made_near ss true (k.spaces.made.places + n)) (λ n. made_near ss false (k.spaces.made.resources + n))
      k.spaces ref h.spaces)
      (described_tied false h.seen ss (new_made k.spaces) k.spaces ref h.spaces)) (λ d l.
      let here = tied_known false h.seen ss (entity_of d) l.1.0 l.0.0 in
      let later = spaces_later false h.seen ss (names_of (entity_of d)) k.spaces h.spaces in
      then_ok (SpacesGood false (h.seen ++ names_of (entity_of d)) ss) (KnownGood false ss) (with_made b k.spaces d) _
      (added_good false (h.seen ++ names_of (entity_of d)) ss b _ (entity_of d) d.standing.1
      (recounted false (h.seen ++ names_of (entity_of d)) ss k.spaces _ _ _ later) (here, l.0.1)) (λ s m. record {
        seen = h.seen ++ names_of (entity_of d);
        seen_is = names_more k.exports (name, d.standing) ∙ (ap (λ ns. ns ++ names_of (entity_of d)) h.seen_is);
        spaces = m;
        imports = all_later false h.seen (names_of (entity_of d)) ss (entries_in k.imports) h.imports;
        exports =
            all_more (scope false (h.seen ++ names_of (entity_of d)) ∷ ss) k.exports name d.standing free
            (all_later false h.seen (names_of (entity_of d)) ss (entries_in k.exports) h.exports) (here, l.0.1);
        tied =
            λ e. tied_more is_near [] k.exports (name, d.standing) (h.tied refl)
            (subst (λ ns. Tied is_near ns (entity_of d)) (sym h.seen_is) l.1.0);
        imports_placed = h.imports_placed;
        exports_placed = λ e. placed_more k.exports (name, d.standing) (h.exports_placed refl) l.1.1;
      })))

  pub export_good : (c : Bool) (ss : List Scope) (k : Known) (name : List ℕ) (ref : TypeRef) → KnownGood c ss k
      → IfOk (declared_export b k name ref) (KnownGood c ss)
  export_good true ss k name ref h = closed_export ss k name ref h
  export_good false ss k name ref h = open_export ss k name ref h
