-- What is neither imported nor exported does not see the names of imports and exports.
use Rattle.std.proofs.Common.{◌≡◌, ℕ, Bool, true, false, cond, List, ◌∷◌, Result, Ok, Err, refl}
use Rattle.warg_values.specs.Reading.{◌>>=◌}
use Rattle.comp_format.specs.Items.{ItemTree, Custom, CoreModule, CoreMade, CoreTy, Component, Instance, Aliased, Ty, Canonical, Import, Export}
use Rattle.comp_entity.specs.Entity.{IsComponent}
use Rattle.comp_entity.specs.Bounds.{ShapeFault, TooDeep, Bounds}
use Rattle.comp_scope.specs.Spaces.{Spaces, Known, Standing, nothing_known, added}
use Rattle.comp_scope.specs.Closing.{closed}
use Rattle.comp_scope.specs.Types.{with_spaces}
use Rattle.comp_scope.specs.Shape.{Part, Plain, Inner, is_inner, beside, answer_beside, spaces_after, after, with_component, after_part, after_parts}

module _ (b : Bounds) (around : List Spaces) (k : Known) (imports exports : List (List ℕ × Standing)) where
  -- what is known, beside these imports and exports
  abbrev Beside : Result Known ShapeFault → Result Known ShapeFault
  Beside r = answer_beside imports exports r

  spaces_beside : (r : Result Spaces ShapeFault) → (r >>= λ s. Ok (with_spaces (beside imports exports k) s)) ≡ Beside (r >>= λ s. Ok (with_spaces k s))
  spaces_beside (Ok s) = refl
  spaces_beside (Err fault) = refl

  component_beside : (r : Result Known ShapeFault) → (r >>= with_component b (beside imports exports k)) ≡ Beside (r >>= with_component b k)
  component_beside (Ok inner) = spaces_beside (added b k.spaces (IsComponent (closed inner).imports (closed inner).exports) true)
  component_beside (Err fault) = refl

  bounded_beside : (q : Bool) (r s : Result Known ShapeFault) → r ≡ Beside s → cond q r (Err TooDeep) ≡ Beside (cond q s (Err TooDeep))
  bounded_beside true r s e = e
  bounded_beside false r s e = refl

  item_beside : (item : ItemTree) → is_inner (Plain item) ≡ true → after b around (beside imports exports k) item ≡ Beside (after b around k item)
  unfolding after
  item_beside (Import i) inner = absurd cc
  item_beside (Export e) inner = absurd cc
  item_beside (Custom name bytes) inner = spaces_beside (spaces_after b around k.spaces (Custom name bytes))
  item_beside (CoreModule bytes) inner = spaces_beside (spaces_after b around k.spaces (CoreModule bytes))
  item_beside (CoreMade item) inner = spaces_beside (spaces_after b around k.spaces (CoreMade item))
  item_beside (CoreTy t) inner = spaces_beside (spaces_after b around k.spaces (CoreTy t))
  item_beside (Component bytes) inner = spaces_beside (spaces_after b around k.spaces (Component bytes))
  item_beside (Instance item) inner = spaces_beside (spaces_after b around k.spaces (Instance item))
  item_beside (Aliased a) inner = spaces_beside (spaces_after b around k.spaces (Aliased a))
  item_beside (Ty t) inner = spaces_beside (spaces_after b around k.spaces (Ty t))
  item_beside (Canonical c) inner = spaces_beside (spaces_after b around k.spaces (Canonical c))

  pub part_beside : (p : Part) → is_inner p ≡ true → after_part b around (beside imports exports k) p ≡ Beside (after_part b around k p)
  unfolding after_part
  part_beside (Plain item) inner = item_beside item inner
  part_beside (Inner bytes parts) inner =
      bounded_beside _ _ _ (component_beside (after_parts b (k.spaces ∷ around) (nothing_known true) parts))
