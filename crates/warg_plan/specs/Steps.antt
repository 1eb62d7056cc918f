-- What clauses see of the walk's own values, and the steps that are functions of their own.
use Rattle.std.specs.Prelude.{ℕ, List, map, Option, Some, None, Result, Ok, if◌then◌else◌}
use Rattle.std.specs.Borrow.{Bor}
use Rattle.semver.specs.Identifiers.{parts_of}
use Rattle.warg_values.specs.Reading.{◌>>=◌}
use Rattle.warg_hash.specs.Name.{is_package_name}
use Rattle.warg_names.specs.Import.{ImportTree, import_of}
use Rattle.compose_config.specs.Plan.{Settings, Argument}
use Rattle.warg_plan.specs.declared.node.Wire.{Wire}
use Rattle.warg_plan.specs.declared.node.Wire.TheVariants as made
use Rattle.warg_plan.specs.declared.node.Node.{Node}
use Rattle.warg_plan.specs.Keys.{Key, choice_for}
use Rattle.warg_plan.specs.View.{key_view}
use Rattle.warg_plan.specs.Walk as walk

abbrev pub wire_view : Wire → walk.Wire
wire_view made.Open = walk.Open
wire_view (made.To key) = walk.To (key_view key)

abbrev pub wires_view : List (Bor (List ℕ) × Wire) → List (List ℕ × walk.Wire)
wires_view ws = map (λ (w : Bor (List ℕ) × Wire). (w.0.now, wire_view w.1)) ws

abbrev pub node_view : Node → walk.Node
node_view x = record { name = x.«package»; version = parts_of x.version.now; digest = x.digest; content = x.content.now; wires = wires_view x.wires.items }

-- the wire of an import, by its name
abbrev pub wire_at : List (List ℕ × Argument) → List ℕ → Result walk.Wire walk.Stop
wire_at args name = walk.or_stop (walk.BadImportName name) (import_of name) >>= λ i. Ok (walk.wire_of args name i)

-- the name of the package that the import of a key asks for
abbrev pub package_at : Key → ImportTree → Result (List ℕ) walk.Stop
package_at k i = walk.or_stop (walk.NoPackage k) (if is_package_name i.name then Some i.name else None)

-- the entry of a key, by what it asks for
abbrev pub node_from : Settings → walk.Facts → Key → Option ImportTree → Result walk.Node walk.Stop
node_from s f k asked =
    walk.or_stop (walk.NoPackage k) asked >>= λ i.
    walk.or_stop (walk.NeedsLog i.name) (walk.log_in f i.name) >>= λ log.
    walk.or_stop (walk.NoRelease i.name) (choice_for i log) >>= λ r.
    walk.or_stop (walk.NeedsContent i.name r.1) (walk.content_in f r.1) >>= λ c.
    walk.wires_at s k c.imports >>= λ ws. Ok (walk.node_with i.name r c ws)
