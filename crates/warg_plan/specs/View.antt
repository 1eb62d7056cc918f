-- What clauses see of plans, and of what is known.
use Rattle.std.specs.Prelude.{ℕ, List, map, Option, Some, None, Vec}
use Rattle.std.specs.Global.{Global}
use Rattle.semver.specs.Identifiers.{parts_of}
use Rattle.semver.specs.Parse.{Parts}
use Rattle.warg_log.specs.Places.{release_views}
use Rattle.warg_log.specs.declared.release.Release.{Release}
use Rattle.warg_names.specs.View.{import_tree}
use Rattle.warg_plan.specs.declared.facts.Content.{Content}
use Rattle.warg_plan.specs.declared.facts.Facts.{Facts}
use Rattle.warg_plan.specs.declared.key.PlanKey.{PlanKey}
use Rattle.warg_plan.specs.declared.key.PlanKey.TheVariants as made
use Rattle.warg_plan.specs.declared.plan.PlanArg.{PlanArg}
use Rattle.warg_plan.specs.declared.plan.PlanArg.TheVariants as arg
use Rattle.warg_plan.specs.declared.plan.PlanEntry.{PlanEntry}
use Rattle.warg_plan.specs.declared.plan.Plan.{Plan}
use Rattle.warg_plan.specs.declared.stop.Stop.{Stop}
use Rattle.warg_plan.specs.declared.stop.Stop.TheVariants as stop
use Rattle.warg_plan.specs.Keys.{Key, Named, Parsed}
use Rattle.warg_plan.specs.Walk as walk

abbrev pub key_view : PlanKey → Key
key_view (made.Named name) = Named name
key_view (made.Parsed import) = Parsed (import_tree import)

abbrev pub arg_view : PlanArg → walk.Arg
arg_view (arg.Entry place) = walk.OfEntry place
arg_view arg.Left = walk.Left

-- what an import is given, with its name
abbrev pub named_view : List ℕ × PlanArg → List ℕ × walk.Arg
named_view a = (a.0, arg_view a.1)

abbrev pub entry_view : PlanEntry → walk.Entry
entry_view e = record {
  key = key_view e.key;
  name = e.«package»;
  version = parts_of e.version;
  digest = e.digest;
  content = e.content.items;
  arguments = map named_view e.arguments.items;
}

abbrev pub plan_view : Plan → List walk.Entry
plan_view p = map entry_view p.entries.items

abbrev pub content_view : Content → walk.Content
content_view c = record { bytes = c.bytes.items; imports = c.imports.items; exports = c.exports.items }

-- the releases that a vector holds
abbrev pub log_view : Vec Release Global → List (Parts × Option (List ℕ))
log_view releases = release_views releases.items

abbrev pub facts_view : Facts → walk.Facts
facts_view f = record {
  logs = map (λ e. (e.0, log_view e.1)) f.logs.entries;
  contents = map (λ e. (e.0, content_view e.1)) f.contents.entries;
}

-- what a stop says; want of memory says nothing
abbrev pub stop_view : Stop → Option walk.Stop
stop_view (stop.NeedsLog name) = Some (walk.NeedsLog name)
stop_view (stop.NeedsContent name digest) = Some (walk.NeedsContent name digest)
stop_view (stop.NoPackage key) = Some (walk.NoPackage (key_view key))
stop_view (stop.NoRelease name) = Some (walk.NoRelease name)
stop_view (stop.BadImportName name) = Some (walk.BadImportName name)
stop_view (stop.NoSuchImport key name) = Some (walk.NoSuchImport (key_view key) name)
stop_view (stop.Cycle key) = Some (walk.Cycle (key_view key))
stop_view stop.TooDeep = Some walk.TooDeep
stop_view stop.Memory = None
