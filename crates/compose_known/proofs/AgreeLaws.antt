-- Each resource that is called in a left import stands in it, as it is written too.
use Rattle.std.proofs.Common.{◌≡◌, ◌⊎◌, inl, inr, ◌++◌, ℕ, Bool, true, false, List, [], ◌∷◌, map, Option, Some, None, refl, sym, ap, ◌∙◌}
use Rattle.std.specs.Prelude.{bytes_eq, option_map, option_to_list, if◌then◌else◌}
use Rattle.std.specs.List.{AllByRecursion, list_any}
use Rattle.std.proofs.lemmas.List.{map-append}
use Rattle.std.proofs.lemmas.Option.{same_Some}
use Rattle.std.proofs.lemmas.Bool.{or_left, or_right}
use Rattle.comp_entity.specs.Entity.{Name, Value, Resource, Func, Instance, Component, EntityTree, IsType, IsFunc, IsInstance, IsComponent, IsModule, IsOwnModule, Entries, no_entry, entry}
use Rattle.comp_entity.specs.Fits.{place_of, under}
use Rattle.comp_entity.specs.Places.{Path, leaves_of, names_itself, named_value, same_mention}
use Rattle.compose_left.specs.declared.spots.Spot.{Spot}
use Rattle.compose_left.specs.declared.spots.Thing.{Thing}
use Rattle.compose_left.specs.Spots.{named_by, named_type}
use Rattle.compose_needs.specs.Lefts.{Lefts}
use Rattle.compose_needs.specs.Mentioned.{has}
use Rattle.compose_order.specs.Needs.{LeftTree, thing_of}
use Rattle.compose_naming.specs.Settled.{names_of, settled, written_as}
use Rattle.compose_known.proofs.BehindLaws.{key_of}
use Rattle.compose_known.proofs.CalledLaws.{CallsWhatStands}
use Rattle.compose_known.proofs.KnowLaws.{leaf_keys, mention_itself}
use Rattle.compose_known.proofs.MentionLaws.{has_either, has_first, has_itself, has_then, has_one}
use Rattle.compose_known.proofs.PlacedLaws.{changed_things, leaf_things, leaf_things_are, things_among, things_of}
use Rattle.compose_known.proofs.SettledLaws.{resource_now, same}
use Rattle.compose_known.proofs.StandingLaws.{StandsAt, standing_at, within}

-- ---- what stands at a path

under_among : (name : List ℕ) (es : Entries) (x : EntityTree × Bool) (t : Thing) → under name es ≡ Some x
    → has (things_of x.0) t ≡ true → has (things_among es) t ≡ true
under_among name no_entry x t u h = absurd cc
under_among name (entry n e mark es) x t u h = one (bytes_eq name n) u (λ k. under_among name es x t k h)
  where
    one : (b : Bool) → (if b then Some (e, mark) else under name es) ≡ Some x
        → (under name es ≡ Some x → has (things_among es) t ≡ true) → has (things_of e ++ things_among es) t ≡ true
    one true u rest =
        has_first (things_of e) (things_among es) t
        (ap (λ (y : EntityTree × Bool). has (things_of y.0) t) (same_Some (e, mark) x u) ∙ h)
    one false u rest = has_then (things_of e) (things_among es) t (rest u)

standing_thing : (path : Path) (e y : EntityTree) (t : Thing) → standing_at path e ≡ Some y → named_by y ≡ Some t
    → has (things_of e) t ≡ true
standing_thing [] (IsType x) y t there h =
    ap (λ o. has (option_to_list o) t) (ap named_by (same_Some (IsType x) y there) ∙ h) ∙ has_itself t []
standing_thing [] (IsInstance es) y t there h = absurd (nothing (ap named_by (same_Some (IsInstance es) y there) ∙ h))
  where
    nothing : None ≡ Some t → ⊥
    nothing e = absurd cc
standing_thing [] (IsFunc f) y t there h =
    ap (λ o. has (option_to_list o) t) (ap named_by (same_Some (IsFunc f) y there) ∙ h) ∙ has_itself t []
standing_thing [] (IsComponent is es) y t there h =
    ap (λ o. has (option_to_list o) t) (ap named_by (same_Some (IsComponent is es) y there) ∙ h) ∙ has_itself t []
standing_thing [] (IsModule m) y t there h =
    ap (λ o. has (option_to_list o) t) (ap named_by (same_Some (IsModule m) y there) ∙ h) ∙ has_itself t []
standing_thing [] IsOwnModule y t there h =
    ap (λ o. has (option_to_list o) t) (ap named_by (same_Some IsOwnModule y there) ∙ h) ∙ has_itself t []
standing_thing (n ∷ path) (IsInstance es) y t there h =
    let x = within path (under n es) y there in
    under_among n es x.0 t x.1 (standing_thing path x.0.0 y t x.2 h)
standing_thing (n ∷ path) (IsType x) y t there h = absurd cc
standing_thing (n ∷ path) (IsFunc f) y t there h = absurd cc
standing_thing (n ∷ path) (IsComponent is es) y t there h = absurd cc
standing_thing (n ∷ path) (IsModule m) y t there h = absurd cc
standing_thing (n ∷ path) IsOwnModule y t there h = absurd cc

-- ---- resources that are called

stands_called : (e : EntityTree) (spots : List Spot) (t : Thing)
    → AllByRecursion (λ (s : Spot). StandsAt e s.path s.what) spots → has (map thing_of spots) t ≡ true
    → t.is_type ≡ false → has (things_of e) t ≡ true
stands_called e [] t a h is = absurd cc
stands_called e (s ∷ ss) t a h is =
    go (has_either (s.what ∷ []) (map thing_of ss) t h) (λ k. stands_called e ss t a.1 k is)
  where
    go : (has (s.what ∷ []) t ≡ true) ⊎ (has (map thing_of ss) t ≡ true)
        → (has (map thing_of ss) t ≡ true → has (things_of e) t ≡ true) → has (things_of e) t ≡ true
    go (inr k) rest = rest k
    go (inl k) rest =
        let called = has_one s.what t k in
        let itself : a.0.called.thing ≡ t = a.0.called.resource_is (ap (λ (x : Thing). x.is_type) called ∙ is)
        ∙ called in
        standing_thing s.path e a.0.entity t a.0.there (a.0.called.is ∙ ap Some itself)

-- ---- by the names of leaves

value_keys : (p : Option Name) → named_value p ≡ map key_of (option_to_list (option_map named_type p))
value_keys None = refl
value_keys (Some n) = refl

leaf_names : (e : EntityTree) → names_itself e ≡ map key_of (option_to_list (named_by e))
leaf_names (IsType (Value v)) = value_keys (place_of v)
leaf_names (IsType (Resource r)) = refl
leaf_names (IsType (Func f)) = refl
leaf_names (IsType (Instance es)) = refl
leaf_names (IsType (Component is es)) = refl
leaf_names (IsFunc f) = refl
leaf_names (IsInstance es) = refl
leaf_names (IsComponent is es) = refl
leaf_names (IsModule m) = refl
leaf_names IsOwnModule = refl

keys_of_leaves : (ls : List (Path × EntityTree)) → leaf_keys ls ≡ map key_of (leaf_things ls)
keys_of_leaves [] = refl
keys_of_leaves (l ∷ ls) =
    (λ i. leaf_names l.1 i ++ keys_of_leaves ls i)
    ∙ sym (map-append key_of (option_to_list (named_by l.1)) (leaf_things ls))

key_has : (ts : List Thing) (t : Thing) → has ts t ≡ true → list_any (same_mention (key_of t)) (map key_of ts) ≡ true
key_has [] t h = absurd cc
key_has (x ∷ xs) t h = go (has_either (x ∷ []) xs t h) (key_has xs t)
  where
    go : (has (x ∷ []) t ≡ true) ⊎ (has xs t ≡ true)
        → (has xs t ≡ true → list_any (same_mention (key_of t)) (map key_of xs) ≡ true)
        → list_any (same_mention (key_of t)) (map key_of (x ∷ xs)) ≡ true
    go (inl k) rest =
        or_left (same_mention (key_of t) (key_of x)) (list_any (same_mention (key_of t)) (map key_of xs))
        (ap (λ y. same_mention (key_of t) (key_of y)) (has_one x t k) ∙ mention_itself (key_of t))
    go (inr k) rest =
        or_right (same_mention (key_of t) (key_of x)) (list_any (same_mention (key_of t)) (map key_of xs)) (rest k)

-- each resource that is called in an import is a key of what is written for it
pub stands_keyed : (left : Lefts) (l : LeftTree) → CallsWhatStands l → (t : Thing) → has (map thing_of l.calls) t ≡ true
    → t.is_type ≡ false → list_any (same_mention (key_of t)) (leaf_keys (leaves_of [] (settled l).entity)) ≡ true
stands_keyed left l c t h is =
    let there = changed_things same (written_as (names_of l)) l.entity t
    (stands_called l.entity l.calls t c.spots h is) in
    ap (list_any (same_mention (key_of t))) (keys_of_leaves (leaves_of [] (settled l).entity)
    ∙ ap (map key_of) (leaf_things_are [] (settled l).entity))
    ∙ key_has (things_of (settled l).entity) t
    (ap (has (things_of (settled l).entity)) (sym (resource_now left l t is)) ∙ there)
