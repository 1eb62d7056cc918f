-- A plan: its entries in order, what each of them is made of, and why there may be none.
use Rattle.std.specs.Prelude.{◌≡◌, ◌⊎◌, ℕ, zero, suc, true, false, List, [], ◌∷◌, ◌++◌, length, Option, Some, None, if◌then◌else◌, slice_get}
use Rattle.std.specs.List.{flat_map, AllByRecursion}
use Rattle.semver.specs.Parse.{Parts}
use Rattle.warg_names.specs.Import.{ImportTree, import_of}
use Rattle.compose_config.specs.Arguments.{is_among}
use Rattle.compose_config.specs.Plan.{Settings, Argument}
use Rattle.warg_plan.specs.Keys.{Key, Release, same_key, asked, choice_for}
use Rattle.warg_plan.specs.Walk.{Facts, Content, log_in, content_in, Wire, Open, To, Node, Arg, Left, OfEntry, Entry, keys, has_key, given, wire_of}

-- ---- entries

-- an argument behind other entries: left open where nothing is wired, and else the entry of the key
abbrev pub IsFilled : List Entry → Wire → Arg → Type 0
IsFilled before Open Left = Unit {0}
IsFilled before (To k) (OfEntry n) = (e : Entry) × (slice_get before n ≡ Some e) × (e.key ≡ k)
IsFilled before _ _ = ⊥

-- one argument for each import, in order, with its name
unfoldable pub AreFilled : List Entry → List (List ℕ × Argument) → List (List ℕ) → List (List ℕ × Arg) → Type 0
AreFilled before given [] [] = Unit {0}
AreFilled before given (name ∷ names) (a ∷ args) =
    (a.0 ≡ name) × ((i : ImportTree) × (import_of name ≡ Some i) × IsFilled before (wire_of given name i) a.1) × AreFilled before given names args
AreFilled before given _ _ = ⊥

-- a key asks for a package, by this import, and the package has this log
pub record HasLog (s : Settings) (f : Facts) (k : Key) (name : List ℕ) (import : ImportTree) (log : List Release) : Type 0 where
  pub asks : asked s k ≡ Some import
  pub named : import.name ≡ name
  pub known : log_in f name ≡ Some log

-- of the log of the package that a key asks for, this release is chosen
pub record Chooses (s : Settings) (f : Facts) (k : Key) (name : List ℕ) (version : Parts) (digest : List ℕ) : Type 0 where
  pub import : ImportTree
  pub log : List Release
  pub has_log : HasLog s f k name import log
  pub chosen : choice_for import log ≡ Some (version, digest)

-- An entry behind those before it: its key stands nowhere before it; of the log of the package that its key asks for, its release is
-- chosen; its content is that of the release's digest; each import of it has an argument, an entry before it or nothing; and each
-- argument in the text names an import.
pub record IsEntry (s : Settings) (f : Facts) (before : List Entry) (e : Entry) : Type 0 where
  pub new : has_key (keys before) e.key ≡ false
  pub chooses : Chooses s f e.key e.name e.version e.digest
  pub made_of : Content
  pub known : content_in f e.digest ≡ Some made_of
  pub bytes : e.content ≡ made_of.bytes
  pub filled : AreFilled before (given s e.key) made_of.imports e.arguments
  pub name_imports : AllByRecursion (λ a. is_among made_of.imports a.0 ≡ true) (given s e.key)

-- entries one after the other, each good behind those before it
unfoldable pub EachAfter : (List Entry → Entry → Type 0) → List Entry → List Entry → Type 0
EachAfter Good before [] = Unit {0}
EachAfter Good before (e ∷ es) = Good before e × EachAfter Good (before ++ e ∷ []) es

-- ---- the order

-- the key of the entry that an argument is
abbrev pub key_in : Option Entry → List Key
key_in None = []
key_in (Some e) = e.key ∷ []

abbrev pub at_arg : List Entry → Arg → List Key
at_arg es Left = []
at_arg es (OfEntry i) = key_in (slice_get es i)

abbrev pub arg_keys : List Entry → List (List ℕ × Arg) → List Key
arg_keys es args = flat_map (λ (a : List ℕ × Arg). at_arg es a.1) args

-- the keys that the entry of a key takes, in the order of its imports
abbrev pub taken_by : List Entry → List Entry → Key → List Key
taken_by all [] k = []
taken_by all (e ∷ es) k = if same_key k e.key then arg_keys all e.arguments else taken_by all es k

abbrev pub post_all : (Key → List Key → List Key) → List Key → List Key → List Key
post_all one [] done = done
post_all one (k ∷ ks) done = post_all one ks (one k done)

-- the keys behind those that are done: those that a key takes, in turn, and then the key itself; none twice
unfoldable pub post : (Key → List Key) → ℕ → Key → List Key → List Key
post takes zero k done = done
post takes (suc n) k done = if has_key done k then done else post_all (post takes n) (takes k) done ++ k ∷ []

-- A plan from a root: each of its entries is good behind those before it, and they come in the order in which the root needs them.
pub record IsPlan (s : Settings) (f : Facts) (root : Key) (es : List Entry) : Type 0 where
  pub each : EachAfter (IsEntry s f) [] es
  pub in_order : keys es ≡ post (taken_by es es) (suc (length es)) root []

-- ---- needs

-- the keys that wires lead to
abbrev pub wired_by : Wire → List Key
wired_by Open = []
wired_by (To k) = k ∷ []

abbrev pub wired : List (List ℕ × Wire) → List Key
wired ws = flat_map (λ (w : List ℕ × Wire). wired_by w.1) ws

abbrev pub IsIn : Key → List Key → Type 0
IsIn k [] = ⊥
IsIn k (j ∷ js) = (j ≡ k) ⊎ IsIn k js

-- an import of a key's entry is wired to another key
abbrev pub NeedsNext : (Key → Node → Type 0) → Key → Key → Type 0
NeedsNext node j k = (x : Node) × node j x × IsIn k (wired x.wires)

-- a trail of wires to a key, by the keys on the way, the last one first
abbrev pub IsTrail : (Key → Node → Type 0) → Key → List Key → Key → Type 0
IsTrail node start [] k = start ≡ k
IsTrail node start (j ∷ path) k = NeedsNext node j k × IsTrail node start path j

-- the walk comes to a key
abbrev pub Needs : (Key → Node → Type 0) → Key → Key → Type 0
Needs node root k = (path : List Key) × IsTrail node root path k

-- a key needs itself, by one wire or more
abbrev pub NeedsItself : (Key → Node → Type 0) → Key → Type 0
NeedsItself node k = (j : Key) × (path : List Key) × IsTrail node k (j ∷ path) k
