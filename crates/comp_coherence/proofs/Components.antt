-- Components keep one name for one type, and so do shapes.
use Rattle.std.proofs.Common.{◌≡◌, ℕ, suc, ◌+◌, Bool, true, List, [], ◌∷◌, ◌++◌, length, Ok, refl, subst, ◌∙◌}
use Rattle.warg_values.specs.Reading.{◌>>=◌}
use Rattle.warg_values.specs.ReadingLaws.{bind_ok, ok_is, never, wanted_ok}
use Rattle.comp_format.specs.declared.types.Canon.{Canon}
use Rattle.comp_format.specs.declared.types.Canon.TheVariants as canon
use Rattle.comp_format.specs.declared.types.CanonOption.{CanonOption}
use Rattle.comp_format.specs.declared.types.CanonOption.TheVariants as option
use Rattle.comp_format.specs.declared.types.CoreInstance.{CoreInstance}
use Rattle.comp_format.specs.declared.types.CoreInstance.TheVariants as core_instance
use Rattle.comp_format.specs.declared.types.CoreSort.{CoreSort}
use Rattle.comp_format.specs.declared.types.CoreSort.TheVariants as core
use Rattle.comp_format.specs.Items.{ItemTree, Custom, CoreModule, CoreMade, CoreTy, Component, Instance, Aliased, Ty, Canonical, Import, Export}
use Rattle.comp_entity.specs.Bounds.{ShapeFault, TooDeep, TooBig, Bounds, is_within, entries_nodes}
use Rattle.comp_entity.specs.Entity.{Func, IsType, IsFunc, IsComponent, IsOwnModule, ShapeTree}
use Rattle.comp_entity.specs.Views.{Sides}
use Rattle.comp_scope.specs.Aliases.{core_scopes}
use Rattle.comp_scope.specs.Canons.{with_option, with_options, with_one_core_func, lifted, with_canon}
use Rattle.comp_scope.specs.Closing.{closed}
use Rattle.comp_scope.specs.CoreScopes.{core_type_of}
use Rattle.comp_scope.specs.Instances.{all_below, core_member, core_members, with_one_core_instance, with_core_instance}
use Rattle.comp_scope.specs.Shape.{Part, Plain, Inner, Parts, nothing, then_part, HasParts, spaces_after, after, with_component, after_part, after_parts, listed, shape_within}
use Rattle.comp_scope.specs.Spaces.{Spaces, Known, Standing, nothing_known, at_index, if_below, added, with_core_type}
use Rattle.comp_scope.specs.Types.{with_spaces}
use Rattle.comp_scope.specs.Values.{resource_of}
use Rattle.comp_coherence.specs.Coherence.{Names, nowhere, Coheres, IsCoherent}
use Rattle.comp_coherence.proofs.Scopes.{Holds, HoldsAll, Further, FurtherAll, no_further, at_kept, module_kept, added_holds}
use Rattle.comp_coherence.proofs.Imports.{import_kept}
use Rattle.comp_coherence.proofs.Aliases.{AllHold, holds_itself, with_core, below_is, aliased_kept}
use Rattle.comp_coherence.proofs.Exports.{exported_kept}
use Rattle.comp_coherence.proofs.Instances.{with_instance_kept}
use Rattle.comp_coherence.proofs.Closed.{closes, listed_kept}
use Rattle.comp_coherence.proofs.Defined.{answer}
use Rattle.comp_coherence.proofs.Formed.{ItemFormed, PartFormed, PartsFormed, parts_formed}
use Rattle.comp_coherence.proofs.Types.{spaces_further, further_on, none_further, first_names, first_holds, type_kept}

-- ---- core items, of which nothing is known

all_below_is : (count : ℕ) (args : List (List ℕ × ℕ)) (s after : Spaces) → all_below count args s ≡ Ok after → s ≡ after
unfolding all_below
all_below_is count [] s after e = ok_is {F = ShapeFault} s after e
all_below_is count (a ∷ args) s after e =
    let t = bind_ok (if_below count a.1 s) _ after e in
    below_is count a.1 s t.0 t.1 ∙ all_below_is count args t.0 after t.2

core_member_is : (s : Spaces) (kind : CoreSort) (i : ℕ) (after : Spaces) → core_member s kind i ≡ Ok after → s ≡ after
unfolding core_member
core_member_is s core.Func i after e = below_is s.core.funcs i s after e
core_member_is s core.Table i after e = below_is s.core.tables i s after e
core_member_is s core.Memory i after e = below_is s.core.memories i s after e
core_member_is s core.Global i after e = below_is s.core.globals i s after e
core_member_is s core.Ty i after e = let t = bind_ok (at_index s.core_types i) _ after e in ok_is {F = ShapeFault} s after t.2
core_member_is s core.Module i after e = let t = bind_ok (at_index s.modules i) _ after e in ok_is {F = ShapeFault} s after t.2
core_member_is s core.Instance i after e = below_is s.core.instances i s after e

core_members_are : (s : Spaces) (ms : List (List ℕ × CoreSort × ℕ)) (after : Spaces) → core_members s ms ≡ Ok after → s ≡ after
unfolding core_members
core_members_are s [] after e = ok_is {F = ShapeFault} s after e
core_members_are s (m ∷ ms) after e =
    let t = bind_ok (core_member s m.1 m.2) _ after e in
    core_member_is s m.1 m.2 t.0 t.1 ∙ core_members_are t.0 ms after t.2

option_is : (s : Spaces) (o : CanonOption) (after : Spaces) → with_option s o ≡ Ok after → s ≡ after
unfolding with_option
option_is s (option.Encoding code) after e = ok_is {F = ShapeFault} s after e
option_is s (option.Memory i) after e = below_is s.core.memories i s after e
option_is s (option.Realloc i) after e = below_is s.core.funcs i s after e
option_is s (option.PostReturn i) after e = below_is s.core.funcs i s after e

options_are : (s : Spaces) (os : List CanonOption) (after : Spaces) → with_options s os ≡ Ok after → s ≡ after
unfolding with_options
options_are s [] after e = ok_is {F = ShapeFault} s after e
options_are s (o ∷ os) after e =
    let t = bind_ok (with_option s o) _ after e in
    option_is s o t.0 t.1 ∙ options_are t.0 os after t.2

module _ (is_closed : Bool) (names around : Names) where
  abbrev StillHolds : Spaces → Type 0
  StillHolds s = Holds is_closed s names around

  core_instance_kept : (s : Spaces) → StillHolds s → (i : CoreInstance) (after : Spaces) → with_core_instance s i ≡ Ok after → StillHolds after
  unfolding with_core_instance
  core_instance_kept s h (core_instance.Instantiate m args) after e =
      let t = bind_ok (at_index s.modules m) _ after e in
      let u = bind_ok (all_below s.core.instances args s) _ after t.2 in
      subst StillHolds (ok_is {F = ShapeFault} (with_one_core_instance u.0) after u.2)
      (with_core is_closed u.0 names around _ u.0.core_types (subst StillHolds (all_below_is s.core.instances args s u.0 u.1) h))
  core_instance_kept s h (core_instance.Exports ms) after e =
      let u = bind_ok (core_members s ms) _ after e in
      subst StillHolds (ok_is {F = ShapeFault} (with_one_core_instance u.0) after u.2)
      (with_core is_closed u.0 names around _ u.0.core_types (subst StillHolds (core_members_are s ms u.0 u.1) h))

  lifted_kept : (b : Bounds) (s : Spaces) → StillHolds s → (e : Standing) (after : Spaces) → Coheres names e.0 → lifted b s e ≡ Ok after → StillHolds after
  lifted_kept b s h (IsType (Func f), named) after k e = added_holds names is_closed around s h b (IsFunc f) named after k e
  lifted_kept b s h _ after k e = never _ _ e

  one_more_func : (s after : Spaces) → StillHolds s → answer (with_one_core_func s) ≡ Ok after → StillHolds after
  one_more_func s after h e = subst StillHolds (ok_is {F = ShapeFault} (with_one_core_func s) after e) (with_core is_closed s names around _ s.core_types h)

  canon_kept : (b : Bounds) (s : Spaces) → StillHolds s → (c : Canon) (after : Spaces) → with_canon b s c ≡ Ok after → StillHolds after
  unfolding with_canon
  canon_kept b s h (canon.Lift f options t) after e =
      let u = bind_ok (if_below s.core.funcs f s) _ after e in
      let v = bind_ok (with_options u.0 options) _ after u.2 in
      let w = bind_ok (at_index v.0.types t) (lifted b v.0) after v.2 in
      let holds : StillHolds v.0 = subst StillHolds (below_is s.core.funcs f s u.0 u.1 ∙ options_are u.0 options v.0 v.1) h in
      lifted_kept b v.0 holds w.0 after (at_kept names v.0.types t w.0 holds.kept.types w.1) w.2
  canon_kept b s h (canon.Lower f options) after e =
      let u = bind_ok (at_index s.funcs f) _ after e in
      let v = bind_ok (with_options s options) _ after u.2 in
      one_more_func v.0 after (subst StillHolds (options_are s options v.0 v.1) h) v.2
  canon_kept b s h (canon.ResourceNew t) after e = let r = bind_ok (resource_of s t) _ after e in one_more_func s after h r.2
  canon_kept b s h (canon.ResourceDrop t) after e = let r = bind_ok (resource_of s t) _ after e in one_more_func s after h r.2
  canon_kept b s h (canon.ResourceRep t) after e = let r = bind_ok (resource_of s t) _ after e in one_more_func s after h r.2

-- ---- items and parts

module _ (b : Bounds) where
  module _ (is_closed : Bool) (ss : List Spaces) (names around : Names) (hs : AllHold ss around) where
    spaces_kept : (s : Spaces) → Holds is_closed s names around → (item : ItemTree) → ItemFormed item → (next : Spaces) → spaces_after b ss s item ≡ Ok next → Further is_closed next names around
    unfolding spaces_after
    spaces_kept s h (Custom name bytes) formed next e = no_further is_closed next names around (subst (StillHolds is_closed names around) (ok_is {F = ShapeFault} s next e) h)
    spaces_kept s h (CoreModule bytes) formed next e =
        no_further is_closed next names around
        (subst (StillHolds is_closed names around) (ok_is {F = ShapeFault} (record s { modules = s.modules ++ (IsOwnModule, true) ∷ [] }) next e)
        (record { closed = h.closed; scope = h.scope; kept = module_kept names s (IsOwnModule, true) h.kept tt refl }))
    spaces_kept s h (CoreMade item) formed next e = no_further is_closed next names around (core_instance_kept is_closed names around s h item next e)
    spaces_kept s h (CoreTy t) formed next e =
        let known = bind_ok (core_type_of b (core_scopes (s ∷ ss)) t) _ next e in
        no_further is_closed next names around
        (subst (StillHolds is_closed names around) (ok_is {F = ShapeFault} (with_core_type s known.0) next known.2) (with_core is_closed s names around s.core (s.core_types ++ known.0 ∷ []) h))
    spaces_kept s h (Component bytes) formed next e = never _ _ e
    spaces_kept s h (Instance item) formed next e = with_instance_kept b is_closed names around s h item next e
    spaces_kept s h (Aliased a) formed next e = no_further is_closed next names around (aliased_kept b is_closed ss s names around h hs a formed next e)
    spaces_kept s h (Ty t) formed next e = type_kept b is_closed ss s names around h hs t formed next e
    spaces_kept s h (Canonical c) formed next e = no_further is_closed next names around (canon_kept is_closed names around b s h c next e)
    spaces_kept s h (Import i) formed next e = never _ _ e
    spaces_kept s h (Export x) formed next e = never _ _ e

    module _ (k : Known) (h : HoldsAll is_closed k names around) where
      spaces_item : (item : ItemTree) → ItemFormed item → (next : Known) → (spaces_after b ss k.spaces item >>= λ s. Ok (with_spaces k s)) ≡ Ok next → FurtherAll is_closed next names around
      spaces_item item formed next e =
          let s = bind_ok (spaces_after b ss k.spaces item) _ next e in
          subst (λ k. FurtherAll is_closed k names around) (ok_is {F = ShapeFault} (with_spaces k s.0) next s.2)
          (spaces_further is_closed k names around h s.0 (spaces_kept k.spaces h.spaces item formed s.0 s.1))

      item_kept : is_closed ≡ true → (item : ItemTree) → ItemFormed item → (next : Known) → after b ss k item ≡ Ok next → FurtherAll is_closed next names around
      unfolding after
      item_kept closed (Import i) formed next e = import_kept b is_closed names around k h closed i.name i.ty next e
      item_kept closed (Export x) formed next e = exported_kept b is_closed names around k h x next e
      item_kept closed (Custom name bytes) formed next e = spaces_item (Custom name bytes) formed next e
      item_kept closed (CoreModule bytes) formed next e = spaces_item (CoreModule bytes) formed next e
      item_kept closed (CoreMade item) formed next e = spaces_item (CoreMade item) formed next e
      item_kept closed (CoreTy t) formed next e = spaces_item (CoreTy t) formed next e
      item_kept closed (Component bytes) formed next e = spaces_item (Component bytes) formed next e
      item_kept closed (Instance item) formed next e = spaces_item (Instance item) formed next e
      item_kept closed (Aliased a) formed next e = spaces_item (Aliased a) formed next e
      item_kept closed (Ty t) formed next e = spaces_item (Ty t) formed next e
      item_kept closed (Canonical c) formed next e = spaces_item (Canonical c) formed next e

  mutual
    unfolding after_part after_parts

    part_kept : (ss : List Spaces) (k : Known) (names around : Names) → HoldsAll true k names around → AllHold ss around → (p : Part) → PartFormed p → (next : Known) → after_part b ss k p ≡ Ok next → FurtherAll true next names around
    part_kept ss k names around h hs (Plain item) formed next e = item_kept true ss names around hs k h refl item formed next e
    part_kept ss k names around h hs (Inner bytes parts) formed next e =
        let open_ok = wanted_ok (is_within b.scopes (suc (length (k.spaces ∷ ss)))) TooDeep _ next e in
        let i = bind_ok (after_parts b (k.spaces ∷ ss) (nothing_known true) parts) (with_component b k) next open_ok.1 in
        let f = parts_kept (k.spaces ∷ ss) (nothing_known true) (first_names true names) names (first_holds true names) (around, holds_itself true k.spaces names around h.spaces, hs) parts formed i.0 i.1 in
        let c = closes f.later names i.0 f.holds in
        let s = bind_ok (added b k.spaces (IsComponent (closed i.0).imports (closed i.0).exports) true) _ next i.2 in
        subst (λ k. FurtherAll true k names around) (ok_is {F = ShapeFault} (with_spaces k s.0) next s.2)
        (spaces_further true k names around h s.0
        (no_further true s.0 names around
        (added_holds names true around k.spaces h.spaces b (IsComponent (closed i.0).imports (closed i.0).exports) true s.0 (c.own, c.imports, c.exports) s.1)))

    parts_kept : (ss : List Spaces) (k : Known) (names around : Names) → HoldsAll true k names around → AllHold ss around → (ps : Parts) → PartsFormed ps → (next : Known) → after_parts b ss k ps ≡ Ok next → FurtherAll true next names around
    parts_kept ss k names around h hs nothing formed next e =
        subst (λ k. FurtherAll true k names around) (ok_is {F = ShapeFault} k next e) (none_further true k names around h)
    parts_kept ss k names around h hs (then_part p ps) formed next e =
        let after_one = bind_ok (after_part b ss k p) _ next e in
        let f = part_kept ss k names around h hs p formed.0 after_one.0 after_one.1 in
        further_on true after_one.0 next names around f (parts_kept ss after_one.0 f.later around f.holds hs ps formed.1 next after_one.2)

-- ---- shapes

pub shape_coherent : (bytes : List ℕ) (parts : Parts) → HasParts bytes parts → (b : Bounds) (s : ShapeTree) → shape_within b parts ≡ Ok s → IsCoherent s
unfolding shape_within
shape_coherent bytes parts has b s e =
    let k = bind_ok (after_parts b [] (nothing_known true) parts) _ s e in
    let f = parts_kept b [] (nothing_known true) (first_names true nowhere) nowhere (first_holds true nowhere) tt parts (parts_formed bytes parts has) k.0 k.1 in
    let c = closes f.later nowhere k.0 f.holds in
    let sides : Sides = closed k.0 in
    let read : ShapeTree = record { imports = listed sides.imports; exports = listed sides.exports } in
    let big = wanted_ok (is_within b.nodes (entries_nodes sides.imports + entries_nodes sides.exports)) TooBig (Ok read) s k.2 in
    subst IsCoherent (ok_is {F = ShapeFault} read s big.1)
    (record { tree = c.own; imports = listed_kept _ sides.imports c.imports; exports = listed_kept _ sides.exports c.exports })
