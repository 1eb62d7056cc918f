-- What may be known while types are written: resources, and types that a place named, as they are called in the scope
-- in which they are mentioned; and where a scope has them.
use Rattle.std.specs.Prelude.{ℕ, ◌-◌, Bool, false, List, [], ◌∷◌, Option, Some, None, option_map, nat_lt, if◌then◌else◌}
use Rattle.comp_entity.specs.Entity.{Name}
use Rattle.comp_entity.specs.Names.{Mention, OfResource, OfPlace}
use Rattle.comp_entity.specs.Places.{Path, same_mention}

-- Where a scope has a type: at an index of its types, or as the export at the end of a path of names in the instance of
-- an index.
pub data At : Type 0 where
  Index : ℕ → At
  InInstance : ℕ → Path → At

-- things that are known, each once, with the place where a scope has it
abbrev pub KnownThings : Type 0
KnownThings = List (Mention × At)

abbrev pub known_at : KnownThings → Mention → Option At
known_at [] m = None
known_at (k ∷ ks) m = if same_mention k.0 m then Some k.1 else known_at ks m

-- a name of so many scopes further out, as it is called there: `None` where it is of a scope on the way
abbrev pub name_outside : ℕ → Name → Option Name
name_outside width n = if nat_lt n.out width then None else Some (record { out = n.out - width; number = n.number })

abbrev pub mention_outside : ℕ → Mention → Option Mention
mention_outside width (OfResource n) = option_map OfResource (name_outside width n)
mention_outside width (OfPlace n) = option_map OfPlace (name_outside width n)

-- what is known further out, as it is called so many scopes within
abbrev pub holds_there : (Mention → Bool) → Option Mention → Bool
holds_there known None = false
holds_there known (Some m) = known m

abbrev pub from_within : ℕ → (Mention → Bool) → Mention → Bool
from_within width known m = holds_there known (mention_outside width m)
