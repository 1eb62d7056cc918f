-- The keys of a log, as a function from ids.
use Rattle.std.specs.Prelude.{ℕ, List, Option, Some, None, option_map}
use Rattle.std.specs.BTreeMap.{get_by}
use Rattle.std.specs.Cmp.Lexicographic.{slice_cmp}
use Rattle.std.specs.Ordering.{nat_cmp}
use Rattle.warg_log.specs.declared.permissions.PermissionSet.{PermissionSet}
use Rattle.warg_log.specs.declared.keys.KeyFacts.{KeyFacts}
use Rattle.warg_log.specs.declared.keys.Keys.{Keys}
use Rattle.warg_log.specs.Permissions.{union, without}

-- what is known of the key with this id
abbrev pub known : Keys → List ℕ → Option KeyFacts
known keys id = get_by (λ k. slice_cmp nat_cmp id k) keys.map

-- a key that is given permissions, and may have been known
abbrev pub given : Option KeyFacts → List ℕ → PermissionSet → KeyFacts
given None key gained = record { key = key; permissions = gained }
given (Some facts) key gained = record { key = facts.key; permissions = union facts.permissions gained }

-- a key from which permissions are taken, where it is known
abbrev pub taken : Option KeyFacts → PermissionSet → Option KeyFacts
taken facts lost = option_map (λ (f : KeyFacts). record { key = f.key; permissions = without f.permissions lost }) facts

-- a key as it was, with the permissions that it held before it was changed
abbrev pub restored : Option KeyFacts → Option PermissionSet → Option KeyFacts
restored facts None = None
restored facts (Some held) = option_map (λ (f : KeyFacts). record { key = f.key; permissions = held }) facts
