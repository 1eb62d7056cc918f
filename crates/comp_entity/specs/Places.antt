-- The place of a resource, or of a named type, in a shape: the import or export, and the path of names in it, where it
-- first stands as a type.
use Rattle.std.specs.Prelude.{ℕ, Bool, false, List, [], ◌∷◌, ◌++◌, flat_map, find, Option, Some, None, option_map, if◌then◌else◌, ◌==◌}
use Rattle.std.specs.List.{list_any}
use Rattle.comp_entity.specs.Entity.{Name, Value, Resource, EntityTree, IsType, IsInstance, Entries, no_entry, entry, ShapeTree}
use Rattle.comp_entity.specs.Names.{Mention, OfResource, OfPlace}
use Rattle.comp_entity.specs.Fits.{place_of, same_name}

-- from the name of an import or export inwards
abbrev pub Path : Type 0
Path = List (List ℕ)

-- what stands in an entity, instances gone into, each with its path
abbrev mutual
  pub leaves_of : Path → EntityTree → List (Path × EntityTree)
  leaves_of path (IsInstance exports) = leaves_in path exports
  leaves_of path e = (path, e) ∷ []

  pub leaves_in : Path → Entries → List (Path × EntityTree)
  leaves_in path no_entry = []
  leaves_in path (entry name e mark es) = leaves_of (path ++ name ∷ []) e ++ leaves_in path es

abbrev pub named_value : Option Name → List Mention
named_value (Some place) = OfPlace place ∷ []
named_value None = []

-- what an entity brings or names as a type
abbrev pub names_itself : EntityTree → List Mention
names_itself (IsType (Resource r)) = OfResource r ∷ []
names_itself (IsType (Value t)) = named_value (place_of t)
names_itself _ = []

abbrev pub same_mention : Mention → Mention → Bool
same_mention (OfResource a) (OfResource b) = same_name a b
same_mention (OfPlace a) (OfPlace b) = same_name a b
same_mention _ _ = false

abbrev pub leaves : List (List ℕ × EntityTree) → List (Path × EntityTree)
leaves es = flat_map (λ e. leaves_of (e.0 ∷ []) e.1) es

abbrev pub first_at : Mention → List (Path × EntityTree) → Option Path
first_at m ls = option_map (λ l. l.0) (find (λ l. list_any (same_mention m) (names_itself l.1)) ls)

abbrev pub is_brought : Mention → Bool
is_brought (OfResource n) = n.out == 1
is_brought (OfPlace n) = n.out == 1

-- What the imports bring has its place there, and what the component makes has its place among the exports. What is not
-- exported as a type has none.
abbrev pub place_in_shape : ShapeTree → Mention → Option Path
place_in_shape s m = first_at m (leaves (if is_brought m then s.imports else s.exports))
