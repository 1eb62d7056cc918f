-- What clauses see of a walk that is under way.
use Rattle.std.specs.Prelude.{ℕ, List, [], ◌∷◌, ◌++◌, map, reverse, Result, Ok, Err, IfSome}
use Rattle.semver.specs.Identifiers.{parts_of}
use Rattle.warg_values.specs.Reading.{◌>>=◌}
use Rattle.compose_config.specs.View.{settings_of}
use Rattle.warg_plan.specs.declared.key.PlanKey.{PlanKey}
use Rattle.warg_plan.specs.declared.node.Question.{Question}
use Rattle.warg_plan.specs.declared.stop.Stop.{Stop as CodeStop}
use Rattle.warg_plan.specs.declared.walk.Found.{Found}
use Rattle.warg_plan.specs.declared.walk.Walk.{Walk}
use Rattle.warg_plan.specs.Keys.{Key}
use Rattle.warg_plan.specs.View.{key_view, named_view, facts_view, stop_view}
use Rattle.warg_plan.specs.Walk.{Entry, Node, Stop, along, entry_of, node_of, visit}

-- the entry of a key, by what a question knows
abbrev pub nodes : Question → Key → Result Node Stop
nodes question = node_of (settings_of question.config.now) (facts_view question.facts.now)

-- an entry that is found, with its key
abbrev pub found_view : PlanKey × Found → Entry
found_view e = record {
  key = key_view e.0;
  name = e.1.«package»;
  version = parts_of e.1.version;
  digest = e.1.digest;
  content = e.1.content.items;
  arguments = map named_view e.1.arguments.items;
}

-- the keys of entries
abbrev pub found_keys : List (PlanKey × Found) → List Key
found_keys es = map (λ (e : PlanKey × Found). key_view e.0) es

-- the entries that a walk has found
abbrev pub found_entries : Walk → List Entry
found_entries walk = map found_view walk.entries.entries

-- the keys that a walk visits, the innermost first
abbrev pub open_keys : Walk → List Key
open_keys walk = reverse (map key_view walk.open.keys)

-- the visit of a key whose entry is this one, before its arguments have places: those that its imports are wired to are
-- visited first, and then its entry is appended
abbrev pub opened : (Key → Result Node Stop) → ℕ → List Key → List Entry → Key → Node → Result (List Entry) Stop
opened node n path es k x = along (visit node n (k ∷ path)) es x.wires >>= λ more. Ok (more ++ entry_of k x more ∷ [])

-- what holds where a walk stops. Want of memory tells nothing
abbrev pub OnStop : {X : Type 0} → Result X CodeStop → Type 0 → Type 0
OnStop (Ok x) P = Unit {0}
OnStop (Err e) P = IfSome (stop_view e) (λ s. P)
