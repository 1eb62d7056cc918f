use Rattle.std.proofs.Common.{rules, ◌≡◌, [], map, reverse, subst}
use Rattle.compose_config.specs.View.{settings_of}
use Rattle.warg_values.specs.Answers.{Gives}
use Rattle.warg_plan.specs.FactLaws.{extends_itself}
use Rattle.warg_plan.specs.Found.{OnStop, found_entries, nodes}
use Rattle.warg_plan.specs.Onward.{GoesOn}
use Rattle.warg_plan.specs.OnwardLaws.{goes_further}
use Rattle.warg_plan.specs.View.{facts_view, key_view, stop_view}
use Rattle.warg_plan.specs.Walk.{most_open, visit}
use Rattle.warg_plan.proofs.VisitSteps.{on_stop}
use Rattle.warg_plan.proofs.walk.Walk.go_on.Goals as goal

pub returns-clause-gives : goal.returns-clause-gives
returns-clause-gives c = λ way.
    let facts = facts_view c.args.question.now.facts.now in
    let none : reverse (map key_view c.new.result.keys) ≡ [] = search rules in
    let gives = subst (λ path. Gives stop_view (λ x. found_entries c.visit.new.walk) c.visit.result (visit (nodes c.args.question.now) most_open path (found_entries c.args.self.now) (key_view c.args.root.now))) none c.visit.ensures.gives in
    subst (Gives stop_view (λ x. found_entries c.visit.new.walk) c.visit.result) (way facts (extends_itself facts)) gives

pub returns-clause-goes_on : goal.returns-clause-goes_on
returns-clause-goes_on c = λ way.
    let node = nodes c.args.question.now in
    let root = key_view c.args.root.now in
    let es = found_entries c.args.self.now in
    let later = found_entries c.visit.new.walk in
    let none : reverse (map key_view c.new.result.keys) ≡ [] = search rules in
    let goes_on = subst (λ path. OnStop c.visit.result (GoesOn node most_open path es later root)) none c.visit.ensures.goes_on in
    on_stop c.visit.result (goes_further (settings_of c.args.question.now.config.now) (facts_view c.args.question.now.facts.now) most_open root es later way) goes_on
