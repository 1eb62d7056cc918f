-- Scopes only grow where imports are written into them, so that a number that is refused stands in what would be written.
use Rattle.std.proofs.Common.{◌≡◌, ◌∙◌, ◌<◌, ◌≤◌, ℕ, length, Bool, true, false, List, [], ◌∷◌, ◌++◌, Option, Some, None, option_and_then, option_map, refl, sym, ap, subst, arith}
use Rattle.std.specs.Prelude.{if◌then◌else◌}
use Rattle.comp_format.specs.declared.types.TypeRef.{TypeRef}
use Rattle.comp_format.specs.Items.{Import}
use Rattle.comp_entity.specs.Entity.{EntityTree, Name}
use Rattle.comp_entity.specs.Places.{Path}
use Rattle.compose_left.specs.declared.spots.Spot.{Spot}
use Rattle.compose_naming.specs.Settled.{name_in}
use Rattle.compose_order.specs.Needs.{LeftTree}
use Rattle.compose_writing.specs.Scopes.{WrittenScope, knows}
use Rattle.compose_writing.specs.WriteEntities.{write_also, write_entity, write_import}
use Rattle.compose_types.specs.Largest.{scopes_size, written_size}
use Rattle.compose_writing.specs.Conditions.{KeepsForm, is_known}
use Rattle.compose_image.specs.Additions.{Gains, GainsNoImport}
use Rattle.compose_image.specs.Writable.{AreWritable, IsWritable}
use Rattle.compose_image.specs.Imports.{all_called, called_too, place_in, write_left, write_lefts}

-- what is written for one import, from what is written for its entity
abbrev behind_entity : LeftTree → List WrittenScope × TypeRef → List WrittenScope
behind_entity l x = all_called (place_in l.entity x.0) l.calls (write_import l.name l.entity x.1 x.0)

module _ (also : (number : Name) (from : ℕ) (path : Path) (ms : List WrittenScope)
    → scopes_size ms ≤ scopes_size (write_also number from path ms)) where
  called_grows : (index : ℕ) (s : Spot) (ms : List WrittenScope) → scopes_size ms ≤ scopes_size (called_too index s ms)
  called_grows index s ms = by s.what.is_type (also (name_in s.what) index s.path ms)
    where
      by : (b : Bool) → scopes_size ms ≤ scopes_size (write_also (name_in s.what) index s.path ms)
          → scopes_size ms ≤ scopes_size (if b then write_also (name_in s.what) index s.path ms else ms)
      by true h = h
      by false h = omega arith

  all_grow : (index : ℕ) (ss : List Spot) (ms : List WrittenScope) → scopes_size ms ≤ scopes_size (all_called index ss ms)
  unfolding all_called
  all_grow index [] ms = omega arith
  all_grow index (s ∷ ss) ms =
      let one = called_grows index s ms in
      let rest = all_grow index ss (called_too index s ms) in
      omega (arith, one, rest)

  -- a number that is refused at the import itself
  pub import_refused : (n : ℕ) (l : LeftTree) (ms mid next : List WrittenScope) (ty : TypeRef)
      → write_entity l.entity ms ≡ Some (mid, ty) → n ≤ scopes_size (write_import l.name l.entity ty mid)
      → write_left l ms ≡ Some next → n ≤ scopes_size next
  import_refused n l ms mid next ty entity le e =
      let calls = all_grow (place_in l.entity mid) l.calls (write_import l.name l.entity ty mid) in
      let ends : Some (behind_entity l (mid, ty)) ≡ Some next = ap (option_map (behind_entity l)) (sym entity) ∙ e in
      let same : behind_entity l (mid, ty) ≡ next = cc in
      subst (λ ns. n ≤ scopes_size ns) same (omega (arith, calls, le))

  module _ (import : (name : List ℕ) (e : EntityTree) (ty : TypeRef) (ms : List WrittenScope)
      → scopes_size ms ≤ scopes_size (write_import name e ty ms)) where
    -- a number that is refused at what the import needs
    pub entity_refused : (n : ℕ) (l : LeftTree) (ms next : List WrittenScope)
        → ((x : List WrittenScope × TypeRef) → write_entity l.entity ms ≡ Some x → n ≤ written_size x)
        → write_left l ms ≡ Some next → n ≤ scopes_size next
    entity_refused n l ms next h e = one (write_entity l.entity ms) refl e
      where
        one : (w : Option (List WrittenScope × TypeRef)) → write_entity l.entity ms ≡ w
            → option_map (behind_entity l) w ≡ Some next → n ≤ scopes_size next
        one None is f = absurd cc
        one (Some x) is f =
            let le = h x is in
            let grown = import l.name l.entity x.1 x.0 in
            import_refused n l ms x.0 next x.1 is (omega (arith, le, grown)) e

    pub left_grows : ((e : EntityTree) (ms : List WrittenScope) (x : List WrittenScope × TypeRef)
        → write_entity e ms ≡ Some x → scopes_size ms ≤ written_size x)
        → (l : LeftTree) (ms next : List WrittenScope) → write_left l ms ≡ Some next → scopes_size ms ≤ scopes_size next
    left_grows entity l ms next e = entity_refused (scopes_size ms) l ms next (entity l.entity ms) e

pub lefts_grow : ((l : LeftTree) (ms next : List WrittenScope) → write_left l ms ≡ Some next → scopes_size ms ≤ scopes_size next)
    → (ls : List LeftTree) (ms next : List WrittenScope) → write_lefts ls ms ≡ Some next → scopes_size ms ≤ scopes_size next
unfolding write_lefts
lefts_grow left [] ms next e =
    let same : ms ≡ next = cc in subst (λ ns. scopes_size ms ≤ scopes_size ns) same (omega arith)
lefts_grow left (l ∷ ls) ms next e = one (write_left l ms) refl e (λ ns f. lefts_grow left ls ns next f)
  where
    one : (w : Option (List WrittenScope)) → write_left l ms ≡ w → option_and_then (write_lefts ls) w ≡ Some next
        → ((ns : List WrittenScope) → write_lefts ls ns ≡ Some next → scopes_size ns ≤ scopes_size next)
        → scopes_size ms ≤ scopes_size next
    one None is f more = absurd cc
    one (Some ns) is f more =
        let here = left l ms ns is in
        let rest = more ns f in
        omega (arith, here, rest)

-- ---- imports that can be written

module _ (entity : (e : EntityTree) (ms : List WrittenScope) → 0 < length ms → is_known (knows ms) e ≡ true → KeepsForm e
    → (x : List WrittenScope × TypeRef) × (write_entity e ms ≡ Some x))
    (needs : (e : EntityTree) (m : WrittenScope) (next : List WrittenScope) (ty : TypeRef)
    → write_entity e (m ∷ []) ≡ Some (next, ty) → GainsNoImport m next)
    (item : (name : List ℕ) (e : EntityTree) (ty : TypeRef) (m : WrittenScope)
    → Gains m (write_import name e ty (m ∷ [])) (Import (record { name = name; ty = ty }) ∷ []))
    (calls : (index : ℕ) (ss : List Spot) (m : WrittenScope) → Gains m (all_called index ss (m ∷ [])) []) where
  left_possible : (l : LeftTree) (m : WrittenScope) → IsWritable l (m ∷ [])
      → (scope : WrittenScope) × (write_left l (m ∷ []) ≡ Some (scope ∷ []))
  left_possible l m h =
      let x = entity l.entity (m ∷ []) (omega arith) h.known h.form in
      let before = (needs l.entity m x.0.0 x.0.1 x.1).gains in
      let import = item l.name l.entity x.0.1 before.scope in
      let place = place_in l.entity x.0.0 in
      let behind = calls place l.calls import.scope in (
        behind.scope,
        ap (option_map (behind_entity l)) x.1
            ∙ ap (λ ms. Some (all_called place l.calls (write_import l.name l.entity x.0.1 ms))) before.alone
            ∙ ap (λ ms. Some (all_called place l.calls ms)) import.alone
            ∙ ap (λ (ms : List WrittenScope). Some ms) behind.alone,
      )

  pub lefts_possible : (ls : List LeftTree) (m : WrittenScope) → AreWritable ls (m ∷ [])
      → (scope : WrittenScope) × (write_lefts ls (m ∷ []) ≡ Some (scope ∷ []))
  unfolding write_lefts
  lefts_possible [] m h = (m, refl)
  lefts_possible (l ∷ ls) m h =
      let here = left_possible l m h.0 in
      let rest = lefts_possible ls here.0 (h.1 (here.0 ∷ []) here.1) in
      (rest.0, ap (option_and_then (write_lefts ls)) here.1 ∙ rest.1)

-- ---- some imports, and others behind them

pub lefts_split : (xs ys : List LeftTree) (ms : List WrittenScope)
    → write_lefts (xs ++ ys) ms ≡ option_and_then (write_lefts ys) (write_lefts xs ms)
unfolding write_lefts
lefts_split [] ys ms = refl
lefts_split (x ∷ xs) ys ms = one (write_left x ms) (λ ns. lefts_split xs ys ns)
  where
    one : (w : Option (List WrittenScope))
        → ((ns : List WrittenScope) → write_lefts (xs ++ ys) ns ≡ option_and_then (write_lefts ys) (write_lefts xs ns))
        → option_and_then (write_lefts (xs ++ ys)) w
        ≡ option_and_then (write_lefts ys) (option_and_then (write_lefts xs) w)
    one None more = refl
    one (Some ns) more = more ns

-- a number that is refused at the first of them
pub first_refused : ((ls : List LeftTree) (ms next : List WrittenScope) → write_lefts ls ms ≡ Some next
    → scopes_size ms ≤ scopes_size next)
    → (n : ℕ) (xs ys : List LeftTree) (ms next : List WrittenScope)
    → ((ns : List WrittenScope) → write_lefts xs ms ≡ Some ns → n ≤ scopes_size ns)
    → write_lefts (xs ++ ys) ms ≡ Some next → n ≤ scopes_size next
first_refused grow n xs ys ms next h e = one (write_lefts xs ms) refl (sym (lefts_split xs ys ms) ∙ e)
  where
    one : (w : Option (List WrittenScope)) → write_lefts xs ms ≡ w → option_and_then (write_lefts ys) w ≡ Some next
        → n ≤ scopes_size next
    one None is f = absurd cc
    one (Some ns) is f =
        let here = h ns is in
        let rest = grow ys ns next f in
        omega (arith, here, rest)
