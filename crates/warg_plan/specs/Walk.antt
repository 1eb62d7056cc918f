-- The walk over what a plan needs: what it has found, or why it stops.
use Rattle.std.specs.Prelude.{ℕ, zero, suc, Bool, if◌then◌else◌, List, [], ◌∷◌, ◌++◌, map, bytes_eq, Option, Some, None, Result, Ok, Err}
use Rattle.std.specs.List.{list_any}
use Rattle.std.specs.Map.{lookup}
use Rattle.semver.specs.Parse.{Parts}
use Rattle.warg_values.specs.Reading.{◌>>=◌}
use Rattle.compose_config.specs.Arguments.{arguments_of, stray}
use Rattle.compose_config.specs.Plan.{Settings, Argument}
use Rattle.warg_names.specs.Import.{ImportTree, import_of}
use Rattle.warg_plan.specs.Keys.{Key, Named, Parsed, is_interface, same_key, asked, Release, choice_for}

-- A content: its bytes, and the names of what it imports and exports, in order.
pub record Content : Type 0 where
  pub bytes : List ℕ
  pub imports : List (List ℕ)
  pub exports : List (List ℕ)

-- What is known: the releases in the logs of packages, and contents by their digests.
pub record Facts : Type 0 where
  pub logs : List (List ℕ × List Release)
  pub contents : List (List ℕ × Content)

abbrev pub nothing_known : Facts
nothing_known = record { logs = []; contents = [] }

-- the releases in the log of a package
abbrev pub log_in : Facts → List ℕ → Option (List Release)
log_in f name = lookup (λ p. bytes_eq name p) f.logs

-- the content of a digest
abbrev pub content_in : Facts → List ℕ → Option Content
content_in f digest = lookup (λ d. bytes_eq digest d) f.contents

-- Why the walk goes no further: something has to be asked for first, or there is no plan.
pub data Stop : Type 0 where
  NeedsLog : List ℕ → Stop
  NeedsContent : List ℕ → List ℕ → Stop
  NoPackage : Key → Stop
  NoRelease : List ℕ → Stop
  BadImportName : List ℕ → Stop
  NoSuchImport : Key → List ℕ → Stop
  Cycle : Key → Stop
  TooDeep : Stop

-- what an import is wired to: nothing, so that it is left open, or the entry of a key
pub data Wire : Type 0 where
  Open : Wire
  To : Key → Wire

-- an entry, before its arguments have numbers
pub record Node : Type 0 where
  pub name : List ℕ
  pub version : Parts
  pub digest : List ℕ
  pub content : List ℕ
  pub wires : List (List ℕ × Wire)

abbrev pub or_stop : {X : Type 0} → Stop → Option X → Result X Stop
or_stop stop (Some x) = Ok x
or_stop stop None = Err stop

-- ---- the entry of a key

-- the arguments that the text gives to a key
abbrev pub given : Settings → Key → List (List ℕ × Argument)
given s (Named name) = arguments_of s name
given s (Parsed i) = []

-- the wire of an import: to the instance that the text gives it, else to the package that its name asks for
abbrev pub wire_by : ImportTree → Option Argument → Wire
wire_by i (Some a) = To (Named a.instance)
wire_by i None = if is_interface i.kind then Open else To (Parsed i)

abbrev pub wire_of : List (List ℕ × Argument) → List ℕ → ImportTree → Wire
wire_of args name i = wire_by i (lookup (λ k. bytes_eq name k) args)

-- the wires of imports, in order
unfoldable pub wires_of : List (List ℕ × Argument) → List (List ℕ) → Result (List (List ℕ × Wire)) Stop
wires_of args [] = Ok []
wires_of args (name ∷ names) = or_stop (BadImportName name) (import_of name) >>= λ i. wires_of args names >>= λ ws. Ok ((name, wire_of args name i) ∷ ws)

abbrev pub if_none : {X : Type 0} → Key → Option (List ℕ) → X → Result X Stop
if_none k None x = Ok x
if_none k (Some name) x = Err (NoSuchImport k name)

-- the wires of a key's content, by the names of its imports
unfoldable pub wires_at : Settings → Key → List (List ℕ) → Result (List (List ℕ × Wire)) Stop
wires_at s k names = wires_of (given s k) names >>= λ ws. if_none k (stray (given s k) names) ws

abbrev pub node_with : List ℕ → Parts × List ℕ → Content → List (List ℕ × Wire) → Node
node_with name r c ws = record { name = name; version = r.0; digest = r.1; content = c.bytes; wires = ws }

-- The entry of a key: by its package's log a release, by the release a content, and by the content its wires.
unfoldable pub node_of : Settings → Facts → Key → Result Node Stop
node_of s f k =
    or_stop (NoPackage k) (asked s k) >>= λ i.
    or_stop (NeedsLog i.name) (log_in f i.name) >>= λ log.
    or_stop (NoRelease i.name) (choice_for i log) >>= λ r.
    or_stop (NeedsContent i.name r.1) (content_in f r.1) >>= λ c.
    wires_at s k c.imports >>= λ ws. Ok (node_with i.name r c ws)

-- ---- entries

-- An argument of an entry: left open, or another entry, by its place in the plan.
pub data Arg : Type 0 where
  Left : Arg
  OfEntry : ℕ → Arg

-- An entry of a plan: its key, the package and its release, the content, and an argument for each import, with the import's name.
pub record Entry : Type 0 where
  pub key : Key
  pub name : List ℕ
  pub version : Parts
  pub digest : List ℕ
  pub content : List ℕ
  pub arguments : List (List ℕ × Arg)

abbrev pub keys : List Entry → List Key
keys es = map (λ e. e.key) es

abbrev pub has_key : List Key → Key → Bool
has_key ks k = list_any (λ j. same_key k j) ks

-- the place of a key among keys, or their number
abbrev pub place_of : List Key → Key → ℕ
place_of [] k = 0
place_of (j ∷ js) k = if same_key k j then 0 else suc (place_of js k)

abbrev pub argument : List Key → Wire → Arg
argument ks Open = Left
argument ks (To k) = OfEntry (place_of ks k)

abbrev pub arguments : List Key → List (List ℕ × Wire) → List (List ℕ × Arg)
arguments ks ws = map (λ (w : List ℕ × Wire). (w.0, argument ks w.1)) ws

-- the entry of a node, behind others
abbrev pub entry_of : Key → Node → List Entry → Entry
entry_of k x es = record {
  key = k;
  name = x.name;
  version = x.version;
  digest = x.digest;
  content = x.content;
  arguments = arguments (keys es) x.wires;
}

-- ---- the walk

abbrev pub along_one : (List Entry → Key → Result (List Entry) Stop) → List Entry → Wire → Result (List Entry) Stop
along_one visit_one es Open = Ok es
along_one visit_one es (To k) = visit_one es k

unfoldable pub along : (List Entry → Key → Result (List Entry) Stop) → List Entry → List (List ℕ × Wire) → Result (List Entry) Stop
along visit_one es [] = Ok es
along visit_one es (w ∷ ws) = along_one visit_one es w.1 >>= λ more. along visit_one more ws

-- A visit of a key, where `path` are the keys that are being visited: those that its imports are wired to are visited first, in the
-- order of the imports, and then its entry is appended. At most so many keys are open at one place.
unfoldable pub visit : (Key → Result Node Stop) → ℕ → List Key → List Entry → Key → Result (List Entry) Stop
visit node zero path es k = Err TooDeep
visit node (suc n) path es k =
    if has_key (keys es) k then Ok es
    else if has_key path k then Err (Cycle k)
    else (node k >>= λ x. along (visit node n (k ∷ path)) es x.wires >>= λ more. Ok (more ++ entry_of k x more ∷ []))

-- how many keys are open at one place at most, where a plan is asked for
abbrev pub most_open : ℕ
most_open = 1000

-- the walk from a root
abbrev pub walk : (Key → Result Node Stop) → ℕ → Key → Result (List Entry) Stop
walk node n root = visit node n [] [] root
