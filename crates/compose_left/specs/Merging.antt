-- Imports agree, first part: what several instances ask under one name of a left import is merged.
use Rattle.std.specs.Prelude.{ℕ, Bool, true, ◌&&◌, not, List, Option, Some, None, is_some, if◌then◌else◌}
use Rattle.comp_entity.specs.Entity.{EntityTree, IsInstance, Entries, no_entry, entry}
use Rattle.comp_entity.specs.Fits.{equal, under}

abbrev pub is_absent : List ℕ → Entries → Bool
is_absent name es = not (is_some (under name es))

-- some exports, and others behind them
abbrev pub followed_by : Entries → Entries → Entries
followed_by no_entry rest = rest
followed_by (entry name e mark es) rest = entry name e mark (followed_by es rest)

-- those exports that others have not
abbrev pub new_in : Entries → Entries → Entries
new_in es no_entry = no_entry
new_in es (entry name f mark fs) = if is_absent name es then entry name f mark (new_in es fs) else new_in es fs

-- Two instances make one with the exports of both, those of the first in front. All else is as the first.
abbrev pub union : EntityTree → EntityTree → EntityTree
union (IsInstance es) (IsInstance fs) = IsInstance (followed_by es (new_in es fs))
union e f = e

abbrev pub equal_or_absent : EntityTree → Option (EntityTree × Bool) → Bool
equal_or_absent f None = true
equal_or_absent f (Some e) = equal e.0 f

-- two instances are equal on the names that both have
abbrev pub equal_on_both : Entries → Entries → Bool
equal_on_both es no_entry = true
equal_on_both es (entry name f mark fs) = equal_or_absent f (under name es) && equal_on_both es fs

-- whether two needs of one import merge: instances that are equal on the names that both have, or equal entities
abbrev pub agree : EntityTree → EntityTree → Bool
agree (IsInstance es) (IsInstance fs) = equal_on_both es fs
agree e f = equal e f
