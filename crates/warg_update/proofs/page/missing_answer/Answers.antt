use Rattle.std.proofs.Common.{List, ℕ, Option, map, subst, option_copied}
use Rattle.warg_update.specs.declared.error.UpdateError.TheVariants as update
use Rattle.warg_update.specs.Errors.{call_wants_memory}
use Rattle.warg_hint.specs.Hint.{Gives, hint_value}
use Rattle.warg_info.specs.Info.{package_log}
use Rattle.warg_page.specs.Views.{package_view}
use Rattle.warg_update.specs.NotFound.{IsNoPageFault}
use Rattle.warg_update.proofs.MissingLaws.{is-not-found, answered-fault, told-fault}
use Rattle.warg_update.proofs.ToldLaws.{told}
use Rattle.warg_update.proofs.page.missing_answer.Goals as goal

pub returns-in_default-clause-other : goal.returns-in_default-clause-other
returns-in_default-clause-other g c reply ids fault =
    let packages = map package_view c.args.packages.now in
    let said = g.D.Decide.said c.args.decide.now c.args.decide.now in
    let e = c.args.error.now in
    told (λ x. IsNoPageFault x c.args.settings.now said packages reply) (call_wants_memory e) update.Memory (update.Api e) (λ memory. tt)
    (λ other. told-fault e c.args.settings.now said packages reply fault (λ p hint has is. c.in_default.ensures.other ids p hint has is) other)

pub returns-clause-fault : goal.returns-clause-fault
returns-clause-fault g c reply ids fault =
    let packages = map package_view c.args.packages.now in
    let missing = c.in-Some.missing in
    let info = missing.info.now in
    let said = g.D.Decide.said c.args.decide.now c.not_found.new.decide in
    let found = is-not-found c.args.error.now info.name (package_log info) packages (option_copied missing.hint) reply c.in-Some.ensures.there (c.in-Some.ensures.found ids) fault in
    answered-fault c.not_found.result c.args.settings.now said info.name (hint_value (option_copied missing.hint)) packages reply found.0 found.1 c.not_found.ensures.answer

pub returns-clause-unasked : goal.returns-clause-unasked
returns-clause-unasked g c reply ids fault none =
    let packages = map package_view c.args.packages.now in
    let missing = c.in-Some.missing in
    let info = missing.info.now in
    let found = is-not-found c.args.error.now info.name (package_log info) packages (option_copied missing.hint) reply c.in-Some.ensures.there (c.in-Some.ensures.found ids) fault in
    c.not_found.ensures.unasked (λ namespace registry gives must. none info.name namespace registry found.0 (subst (λ (h : Option (List ℕ)). Gives h namespace registry) found.1 gives) must)
