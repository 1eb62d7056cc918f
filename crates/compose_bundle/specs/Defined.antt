-- The link image of a component whose imported components are defined.
use Rattle.std.specs.Prelude.{ℕ, Bool, List, map, Option, is_some}
use Rattle.std.specs.Option.{option_map_or}
use Rattle.comp_entity.specs.Entity.{EntityTree}
use Rattle.comp_scope.specs.Image.{ComponentOf, Defined, Image, Imported}

-- whether a name has a content
abbrev pub has_content : (List ℕ → Option (List ℕ)) → List ℕ → Bool
has_content content name = is_some (content name)

-- a component that is imported under a name with a content is that content
abbrev pub defined_component : (List ℕ → Option (List ℕ)) → ComponentOf → ComponentOf
defined_component content (Defined bytes) = Defined bytes
defined_component content (Imported name) = option_map_or Defined (content name) (Imported name)

-- an image with its components defined, and with these imports
abbrev pub defined : (List ℕ → Option (List ℕ)) → List (List ℕ × EntityTree) → Image → Image
defined content imports i =
    record i { components = map (defined_component content) i.components; imports = imports }
