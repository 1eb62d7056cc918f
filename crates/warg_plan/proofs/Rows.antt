-- Worked walks over what is known, computed from the definitions, against what was written by hand.
use Rattle.std.proofs.Common.{◌≡◌, ℕ, List, [], ◌∷◌, ◌++◌, Option, Some, None, Ok, Err, refl, codes}
use Rattle.semver.specs.Parse.{Parts}
use Rattle.compose_config.specs.Arguments.{stray}
use Rattle.compose_config.specs.Plan.{Settings, Argument, no_settings}
use Rattle.warg_names.specs.Import.{ImportTree, Unlocked, import_of, unlocked_of, dependency_of, other_of, interface_of, package_of}
use Rattle.warg_names.specs.Cut.{behind, cut_first, cut_last, closed_by}
use Rattle.warg_names.specs.Same.{same_import}
use Rattle.warg_plan.specs.Keys.{Key, Named, Parsed, asked, choice_for}
use Rattle.warg_plan.specs.Walk.{Content, Facts, nothing_known, NeedsLog, NeedsContent, Cycle, NoSuchImport, NoRelease, NoPackage, BadImportName, TooDeep, Arg, Left, OfEntry, Entry, walk, node_of, wires_at, visit, along, wires_of, keys}
use Rattle.warg_plan.specs.Plan.{post, taken_by}

plain : List ℕ → ImportTree
plain name = record { name = name; requirement = []; kind = Unlocked; exact = None }

-- the name of an import of a package
need : List ℕ → List ℕ
need name = codes "unlocked-dep=<" ++ name ++ codes ">"

settings : List (List ℕ × Argument) → Settings
settings args = record no_settings {
  instantiations =
      (codes "root", record { dependency = Some (codes "d:app"); arguments = args }) ∷ (codes "log", record { dependency = Some (codes "d:log"); arguments = [] }) ∷ [];
}

to_log : List (List ℕ × Argument)
to_log = (codes "sink", record { instance = codes "log"; export = None }) ∷ []

one : Parts
one = (1, 0, 0, [], [])

log : List ℕ → ℕ → List ℕ × List (Parts × Option (List ℕ))
log name digest = (name, (one, Some (digest ∷ [])) ∷ [])

content : ℕ → List (List ℕ) → List ℕ × Content
content digest imports = (digest ∷ [], record { bytes = digest ∷ []; imports = imports; exports = [] })

root : Key
root = Named (codes "root")

-- the import of a package's name, and that of an interface's
reads : import_of (need (codes "d:t")) ≡ Some (plain (codes "d:t"))
unfolding import_of unlocked_of dependency_of package_of behind cut_first cut_last closed_by need plain
reads = refl

entry : Key → List ℕ → ℕ → List (List ℕ × Arg) → Entry
entry key name digest arguments = record { key = key; name = name; version = one; digest = digest ∷ []; content = digest ∷ []; arguments = arguments }

known : Facts
known = record {
  logs = log (codes "d:app") 1 ∷ log (codes "d:t") 2 ∷ log (codes "d:a") 3 ∷ log (codes "d:b") 4 ∷ log (codes "d:log") 5 ∷ [];
  contents =
      content 1 (need (codes "d:t") ∷ need (codes "d:a") ∷ need (codes "d:b") ∷ codes "sink" ∷ []) ∷ content 2 [] ∷ content 3 (need (codes "d:t") ∷ codes "poll" ∷ []) ∷ content 4 (need (codes "d:t") ∷ codes "poll" ∷ []) ∷ content 5 [] ∷ [];
}

-- one package without imports: its log, its content, and then the plan
first_log : walk (node_of (settings []) nothing_known) 5 root ≡ Err (NeedsLog (codes "d:app"))
unfolding visit along node_of asked choice_for wires_at wires_of stray import_of unlocked_of dependency_of package_of other_of interface_of behind cut_first cut_last closed_by same_import settings root plain need one log content known to_log entry
first_log = refl

then_content : walk (node_of (settings []) (record { logs = log (codes "d:app") 1 ∷ []; contents = [] })) 5 root ≡ Err (NeedsContent (codes "d:app") (1 ∷ []))
unfolding visit along node_of asked choice_for wires_at wires_of stray import_of unlocked_of dependency_of package_of other_of interface_of behind cut_first cut_last closed_by same_import settings root plain need one log content known to_log entry
then_content = refl

only_root : walk (node_of (settings []) (record { logs = log (codes "d:app") 1 ∷ []; contents = content 1 [] ∷ [] })) 5 root ≡ Ok (entry root (codes "d:app") 1 [] ∷ [])
unfolding visit along node_of asked choice_for wires_at wires_of stray import_of unlocked_of dependency_of package_of other_of interface_of behind cut_first cut_last closed_by same_import settings root plain need one log content known to_log entry
only_root = refl

-- types, a, b, log, root
plan : List Entry
plan =
    entry (Parsed (plain (codes "d:t"))) (codes "d:t") 2 [] ∷
    entry (Parsed (plain (codes "d:a"))) (codes "d:a") 3 ((need (codes "d:t"), OfEntry 0) ∷ (codes "poll", Left) ∷ []) ∷
    entry (Parsed (plain (codes "d:b"))) (codes "d:b") 4 ((need (codes "d:t"), OfEntry 0) ∷ (codes "poll", Left) ∷ []) ∷
    entry (Named (codes "log")) (codes "d:log") 5 [] ∷
    entry root (codes "d:app") 1 ((need (codes "d:t"), OfEntry 0) ∷ (need (codes "d:a"), OfEntry 1) ∷ (need (codes "d:b"), OfEntry 2) ∷ (codes "sink", OfEntry 3) ∷ []) ∷ []

five_entries : walk (node_of (settings to_log) known) 5 root ≡ Ok plan
unfolding visit along node_of asked choice_for wires_at wires_of stray import_of unlocked_of dependency_of package_of other_of interface_of behind cut_first cut_last closed_by same_import settings root plain need one log content known to_log entry plan
five_entries = refl

five_keys : keys plan ≡ post (taken_by plan plan) 6 root []
unfolding post same_import plan entry root one plain need
five_keys = refl

-- an argument whose instance is the root
to_itself : walk (node_of (settings ((codes "sink", record { instance = codes "root"; export = None }) ∷ [])) known) 5 root ≡ Err (Cycle root)
unfolding visit along node_of asked choice_for wires_at wires_of stray import_of unlocked_of dependency_of package_of other_of interface_of behind cut_first cut_last closed_by same_import settings root plain need one log content known to_log entry
to_itself = refl

-- two packages that need each other
each_other : walk (node_of (settings []) (record { logs = log (codes "d:app") 1 ∷ log (codes "d:a") 3 ∷ log (codes "d:b") 4 ∷ []; contents = content 1 (need (codes "d:a") ∷ []) ∷ content 3 (need (codes "d:b") ∷ []) ∷ content 4 (need (codes "d:a") ∷ []) ∷ [] })) 5 root
    ≡ Err (Cycle (Parsed (plain (codes "d:a"))))
unfolding visit along node_of asked choice_for wires_at wires_of stray import_of unlocked_of dependency_of package_of other_of interface_of behind cut_first cut_last closed_by same_import settings root plain need one log content known to_log entry
each_other = refl

-- an argument that names no import
no_import : walk (node_of (settings to_log) (record { logs = log (codes "d:app") 1 ∷ []; contents = content 1 [] ∷ [] })) 5 root ≡ Err (NoSuchImport root (codes "sink"))
unfolding visit along node_of asked choice_for wires_at wires_of stray import_of unlocked_of dependency_of package_of other_of interface_of behind cut_first cut_last closed_by same_import settings root plain need one log content known to_log entry
no_import = refl

-- a yanked release
yanked : walk (node_of (settings []) (record { logs = (codes "d:app", (one, None) ∷ []) ∷ []; contents = [] })) 5 root ≡ Err (NoRelease (codes "d:app"))
unfolding visit along node_of asked choice_for wires_at wires_of stray import_of unlocked_of dependency_of package_of other_of interface_of behind cut_first cut_last closed_by same_import settings root plain need one log content known to_log entry
yanked = refl

-- an instance whose dependency is no package, an import whose name is none, and a chain that is too deep
no_package : walk (node_of no_settings known) 5 root ≡ Err (NoPackage root)
unfolding visit along node_of asked choice_for wires_at wires_of stray import_of unlocked_of dependency_of package_of other_of interface_of behind cut_first cut_last closed_by same_import settings root plain need one log content known to_log entry
no_package = refl

bad_name : walk (node_of (settings []) (record { logs = log (codes "d:app") 1 ∷ []; contents = content 1 (codes "unlocked-dep=<x>" ∷ []) ∷ [] })) 5 root ≡ Err (BadImportName (codes "unlocked-dep=<x>"))
unfolding visit along node_of asked choice_for wires_at wires_of stray import_of unlocked_of dependency_of package_of other_of interface_of behind cut_first cut_last closed_by same_import settings root plain need one log content known to_log entry
bad_name = refl

too_deep : walk (node_of (settings to_log) known) 2 root ≡ Err TooDeep
unfolding visit along node_of asked choice_for wires_at wires_of stray import_of unlocked_of dependency_of package_of other_of interface_of behind cut_first cut_last closed_by same_import settings root plain need one log content known to_log entry
too_deep = refl
