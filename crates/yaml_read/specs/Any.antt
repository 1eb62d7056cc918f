-- Values of any kind, and values that are passed over.
use Rattle.std.specs.Prelude.{ℕ, zero, suc, List, [], Option, Some, None, option_map, option_and_then, Result, Ok, Err, bytes_eq}
use Rattle.indexmap.specs.IndexMap.{insert_entry}
use Rattle.warg_values.specs.Reading.{◌>>=◌}
use Rattle.yaml_small.specs.declared.event.Event.{Event}
use Rattle.yaml_small.specs.declared.event.Event.TheVariants as events
use Rattle.yaml_small.specs.declared.schema.Resolved.{Resolved}
use Rattle.yaml_small.specs.declared.schema.Resolved.TheVariants as kinds
use Rattle.yaml_small.specs.Schema.{resolved}
use Rattle.yaml_small.specs.Data.{Data, integer, text, boolean, array, hash, null, items_of, members_of}
use Rattle.yaml_small.specs.Trees.{Tree, Leaf, Seq, Map, Trees, none, more, Pairs, no_pairs, pair}
use Rattle.yaml_read.specs.Source.{Source, Refusal, WrongEvent, RealForm, TooManyEvents, front, Refused, refused}
use Rattle.yaml_read.specs.Scalar.{any_at}
use Rattle.yaml_read.specs.Collections.{seq_at, map_at, mapped_at, checked_at, pushed}
use Rattle.yaml_read.specs.Nodes.{value_of}

-- what a scalar's text stands for, whatever its style
abbrev pub kind_data : Resolved → List ℕ → Result Data Refusal
kind_data (kinds.Integer n) content = Ok (integer n)
kind_data (kinds.Boolean b) content = Ok (boolean b)
kind_data kinds.Null content = Ok null
kind_data kinds.RealForm content = Err RealForm
kind_data kinds.Text content = Ok (text content)

abbrev pub scalar_data : List ℕ → Result Data Refusal
scalar_data content = kind_data (resolved content) content

abbrev pub listed : List Data → Data
listed values = array (items_of values)

abbrev pub mapped : List (List ℕ × Data) → Data
mapped entries = hash (members_of entries)

-- The value of a tree: a scalar's, a list of its items' values, and a map in which a repeated key keeps its first
-- place and takes its last value. Nothing where a scalar has the form of a real number.
abbrev mutual
  pub data_of : Tree → Option Data
  data_of (Leaf s) = value_of (scalar_data s.text)
  data_of (Seq ts) = option_map listed (items_from [] ts)
  data_of (Map ps) = option_map mapped (entries_from [] ps)

  pub items_from : List Data → Trees → Option (List Data)
  items_from values none = Some values
  items_from values (more t ts) = option_and_then (λ v. items_from (pushed values v) ts) (data_of t)

  pub entries_from : List (List ℕ × Data) → Pairs → Option (List (List ℕ × Data))
  entries_from entries no_pairs = Some entries
  entries_from entries (pair key t ps) = option_and_then (λ v. entries_from (insert_entry bytes_eq entries key.text v) ps) (data_of t)

abbrev pub data_node : Option Tree → Option Data
data_node None = None
data_node (Some t) = data_of t

-- one value of any kind, which is passed over
abbrev pub ignored_node : Option Tree → Option (Unit {0})
ignored_node None = None
ignored_node (Some t) = Some tt

-- a scalar, a list or a map, by the event that stands there
abbrev pub by_kind : {X : Type 0} → (Source → Result (X × Source) Refused) → (Source → Result (X × Source) Refused) → (Source → Result (X × Source) Refused) → Event
    → Source → Result (X × Source) Refused
by_kind scalar list entries (events.Scalar content style) s = scalar s
by_kind scalar list entries events.SequenceStart s = list s
by_kind scalar list entries events.MappingStart s = entries s
by_kind scalar list entries event s = refused s (WrongEvent event)

abbrev pub scalar_at : Source → Result (Data × Source) Refused
scalar_at = checked_at scalar_data any_at

-- an item put behind those before it, and a value put under its key
unfoldable pub item_takes : (Source → Result (Data × Source) Refused) → List Data → ℕ → Source → Result (List Data × Source) Refused
item_takes read values at = mapped_at (pushed values) read

unfoldable pub entry_takes : (Source → Result (Data × Source) Refused) → List (List ℕ × Data) → List ℕ → Source → Result (List (List ℕ × Data) × Source) Refused
entry_takes read entries key = mapped_at (insert_entry bytes_eq entries key) read

abbrev pub nested_in : (Source → Result (Data × Source) Refused) → Source → Result (Data × Source) Refused
nested_in read = mapped_at listed (seq_at (item_takes read) [])

abbrev pub nested_under : (Source → Result (Data × Source) Refused) → Source → Result (Data × Source) Refused
nested_under read = mapped_at mapped (map_at (entry_takes read) [])

-- A value, so many levels deep at most. The parser emits lists and maps of 64 levels, and scalars within.
unfoldable pub data_at : ℕ → Source → Result (Data × Source) Refused
data_at zero s = refused s TooManyEvents
data_at (suc levels) s = front s >>= λ event. by_kind scalar_at (nested_in (data_at levels)) (nested_under (data_at levels)) event s

abbrev pub nothing_of : {X : Type 0} → X → Unit {0}
nothing_of _ = tt

abbrev pub passed_scalar : Source → Result (Unit {0} × Source) Refused
passed_scalar = mapped_at nothing_of any_at

unfoldable pub item_passed : (Source → Result (Unit {0} × Source) Refused) → Unit {0} → ℕ → Source → Result (Unit {0} × Source) Refused
item_passed read _ at = read

unfoldable pub value_passed : (Source → Result (Unit {0} × Source) Refused) → Unit {0} → List ℕ → Source → Result (Unit {0} × Source) Refused
value_passed read _ key = read

-- the same for a value that is passed over
unfoldable pub ignored_at : ℕ → Source → Result (Unit {0} × Source) Refused
ignored_at zero s = refused s TooManyEvents
ignored_at (suc levels) s =
    front s >>= λ event. by_kind passed_scalar (seq_at (item_passed (ignored_at levels)) tt) (map_at (value_passed (ignored_at levels)) tt) event s
