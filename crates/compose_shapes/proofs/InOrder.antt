-- Names stand in order in shapes that are read.
use Rattle.std.proofs.Common.{◌≡◌, ℕ, Bool, true, false, List, [], ◌∷◌, ◌++◌, map, refl, sym, ap, ◌∙◌, arith}
use Rattle.std.specs.Prelude.{◌&&◌, filter, option_to_list, ◌==◌, if◌then◌else◌}
use Rattle.std.specs.List.{AllByRecursion, list_all}
use Rattle.std.proofs.lemmas.List.{append_assoc, append-nil, map-append}
use Rattle.comp_entity.specs.Entity.{ValueTree, Value, Resource, Func, Instance, Component, EntityTree, IsType, IsFunc, IsInstance, IsComponent, IsModule, IsOwnModule, Entries, no_entry, entry}
use Rattle.comp_entity.specs.Places.{Path, leaves_of, leaves_in}
use Rattle.comp_entity.specs.Views.{entries_of}
use Rattle.compose_left.specs.declared.spots.Thing.{Thing}
use Rattle.compose_left.specs.Origins.{names}
use Rattle.compose_left.specs.Spots.{named_by}
use Rattle.compose_needs.specs.Leaves.{leaf_of, leaves_among}
use Rattle.compose_needs.specs.Mentioned.{has, mentioned}
use Rattle.compose_needs.specs.Tied.{are_tied, Places as PlacesInTurn}
use Rattle.comp_coherence.specs.Coherence.{Names, OneTree, Coheres, AllCohere, EachCoheres, inside_component, inside_instances}
use Rattle.compose_known.specs.InOrder.{AreInOrder, IsApart, IsInOrder, is_instance_tied, is_of_scope, scope_place}
use Rattle.compose_shapes.proofs.Tied.{AllTied, AreOrdered, IfOwn, Ordered, Tied, is_near, names_among, names_of}

-- ---- types of instances name what they mention of their own scope

list_all_of : (p : Thing → Bool) (q : Thing → Bool) (ts : List Thing) → AllByRecursion (λ t. q t ≡ true → p t ≡ true) ts
    → list_all p (filter q ts) ≡ true
list_all_of p q [] h = refl
list_all_of p q (t ∷ ts) h = one (q t) refl (list_all_of p q ts h.1)
  where
    one : (b : Bool) → q t ≡ b → list_all p (filter q ts) ≡ true
        → list_all p (if b then t ∷ filter q ts else filter q ts) ≡ true
    one true e rest = and_both (p t) (list_all p (filter q ts)) (h.0 e) rest
      where
        and_both : (a b : Bool) → a ≡ true → b ≡ true → (a && b) ≡ true
        and_both true b x y = y
        and_both false b x y = absurd cc
    one false e rest = rest

near_is : (t : Thing) → is_of_scope t ≡ true → is_near t ≡ true
near_is t h = let near : (t.out == 0) ≡ true = grind arith in near

abbrev places_among : Path → Entries → PlacesInTurn
places_among path es = map scope_place (leaves_among path es)

abbrev places_of : Path → EntityTree → PlacesInTurn
places_of path e = map scope_place (map leaf_of (leaves_of path e))

leaf_tied : (seen : List Thing) (path : Path) (e : EntityTree) (ps : PlacesInTurn)
    → AllByRecursion (IfOwn is_near (seen ++ option_to_list (named_by e))) (mentioned e)
    → are_tied (seen ++ option_to_list (named_by e)) ps ≡ true
    → are_tied seen (scope_place (leaf_of (path, e)) ∷ ps) ≡ true
leaf_tied seen path e ps h rest =
    let here = list_all_of (has (seen ++ option_to_list (named_by e))) is_of_scope (mentioned e) (go (mentioned e) h) in
    ap (λ b. b && are_tied (seen ++ option_to_list (named_by e)) ps) here ∙ rest
  where
    go : (ts : List Thing) → AllByRecursion (IfOwn is_near (seen ++ option_to_list (named_by e))) ts
        → AllByRecursion (λ t. is_of_scope t ≡ true → has (seen ++ option_to_list (named_by e)) t ≡ true) ts
    go [] k = tt
    go (t ∷ ts) k = ((λ o. k.0 (near_is t o)), go ts k.1)

mutual
  entity_tied : (seen : List Thing) (path : Path) (e : EntityTree) (ps : PlacesInTurn) → Tied is_near seen e
      → are_tied (seen ++ names_of e) ps ≡ true → are_tied seen (places_of path e ++ ps) ≡ true
  entity_tied seen path (IsType t) ps h rest = leaf_tied seen path (IsType t) ps h rest
  entity_tied seen path (IsFunc f) ps h rest = leaf_tied seen path (IsFunc f) ps h rest
  entity_tied seen path (IsInstance es) ps h rest = all_tied seen path es ps h rest
  entity_tied seen path (IsComponent is es) ps h rest = leaf_tied seen path (IsComponent is es) ps h rest
  entity_tied seen path (IsModule m) ps h rest = leaf_tied seen path (IsModule m) ps h rest
  entity_tied seen path IsOwnModule ps h rest = leaf_tied seen path IsOwnModule ps h rest

  all_tied : (seen : List Thing) (path : Path) (es : Entries) (ps : PlacesInTurn) → AllTied is_near seen es
      → are_tied (seen ++ names_among es) ps ≡ true → are_tied seen (places_among path es ++ ps) ≡ true
  all_tied seen path no_entry ps h rest = ap (λ ns. are_tied ns ps) (sym (append-nil seen)) ∙ rest
  all_tied seen path (entry name e mark es) ps h rest =
      let inner = all_tied (seen ++ names_of e) path es ps h.1
      (ap (λ ns. are_tied ns ps) (append_assoc seen (names_of e) (names_among es)) ∙ rest) in
      let whole = entity_tied seen (path ++ name ∷ []) e (places_among path es ++ ps) h.0 inner in
      ap (are_tied seen) (ap (λ xs. map scope_place xs ++ ps)
      (map-append leaf_of (leaves_of (path ++ name ∷ []) e) (leaves_in path es))
      ∙ ap (λ xs. xs ++ ps) (map-append scope_place (map leaf_of (leaves_of (path ++ name ∷ []) e))
      (leaves_among path es))
      ∙ append_assoc (places_of (path ++ name ∷ []) e) (places_among path es) ps) ∙ whole

instance_tied : (es : Entries) → AllTied is_near [] es → is_instance_tied es ≡ true
instance_tied es h = ap (are_tied []) (sym (append-nil (places_among [] es))) ∙ all_tied [] [] es [] h refl

-- ---- names stand in order, where each type coheres

module _ (apart : (names : Names) (t : ValueTree) → OneTree names t → IsApart t) where
  mutual
    pub in_order : (names : Names) (e : EntityTree) → Coheres names e → Ordered e → IsInOrder e
    in_order names (IsType (Value t)) c h = apart names t c
    in_order names (IsType (Resource r)) c h = tt
    in_order names (IsType (Func f)) c h = tt
    in_order names (IsType (Instance es)) c h =
        (instance_tied es h.0, all_in_order (inside_instances c.0 names) es c.1 h.1)
    in_order names (IsType (Component is es)) c h =
        (all_in_order (inside_component c.0 names) is c.1 h.0, all_in_order (inside_component c.0 names) es c.2 h.1)
    in_order names (IsFunc f) c h = tt
    in_order names (IsInstance es) c h = all_in_order names es c h
    in_order names (IsComponent is es) c h =
        (all_in_order (inside_component c.0 names) is c.1 h.0, all_in_order (inside_component c.0 names) es c.2 h.1)
    in_order names (IsModule m) c h = tt
    in_order names IsOwnModule c h = tt

    pub all_in_order : (names : Names) (es : Entries) → AllCohere names es → AreOrdered es → AreInOrder es
    all_in_order names no_entry c h = tt
    all_in_order names (entry name e mark es) c h = (in_order names e c.0 h.1, all_in_order names es c.1 h.2)

  pub each_in_order : (names : Names) (es : List (List ℕ × EntityTree)) → EachCoheres names es
      → AreOrdered (entries_of es) → AreInOrder (entries_of es)
  each_in_order names [] c h = tt
  each_in_order names (e ∷ es) c h = (in_order names e.1 c.0 h.1, each_in_order names es c.1 h.2)
