-- What the leaves of an entity name is what it brings.
use Rattle.std.proofs.Common.{◌≡◌, List, [], ◌∷◌, ◌++◌, refl, sym, ap, ◌∙◌, append_assoc, append-nil}
use Rattle.std.specs.Prelude.{flat_map}
use Rattle.comp_entity.specs.Entity.{EntityTree, IsType, IsFunc, IsInstance, IsComponent, IsModule, IsOwnModule, Entries, no_entry, entry}
use Rattle.comp_entity.specs.Names.{Mention}
use Rattle.comp_entity.specs.Places.{Path, names_itself, leaves_of, leaves_in}
use Rattle.compose_meaning.specs.Readable.{brought_keys, keys_among}

abbrev leaf_keys : List (Path × EntityTree) → List Mention
leaf_keys ls = flat_map (λ (leaf : Path × EntityTree). names_itself leaf.1) ls

leaf_both : (xs ys : List (Path × EntityTree)) → leaf_keys (xs ++ ys) ≡ leaf_keys xs ++ leaf_keys ys
leaf_both [] ys = refl
leaf_both (x ∷ xs) ys = ap (λ keys. names_itself x.1 ++ keys) (leaf_both xs ys) ∙ sym (append_assoc (names_itself x.1) (leaf_keys xs) (leaf_keys ys))

mutual
  keys_are : (e : EntityTree) (path : Path) → leaf_keys (leaves_of path e) ≡ brought_keys e
  keys_are (IsType t) path = append-nil (names_itself (IsType t))
  keys_are (IsFunc f) path = refl
  keys_are (IsInstance es) path = all_keys_are es path
  keys_are (IsComponent is es) path = refl
  keys_are (IsModule m) path = refl
  keys_are IsOwnModule path = refl

  pub all_keys_are : (es : Entries) (path : Path) → leaf_keys (leaves_in path es) ≡ keys_among es
  all_keys_are no_entry path = refl
  all_keys_are (entry name e mark es) path = leaf_both (leaves_of (path ++ name ∷ []) e) (leaves_in path es) ∙ (λ i. keys_are e (path ++ name ∷ []) i ++ all_keys_are es path i)
