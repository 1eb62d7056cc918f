use Rattle.std.proofs.Common.{◌≡◌, ◌<◌, ◌+◌, ◌∷◌, [], List, length, map, rules, Some, sym, ◌∙◌, ap, subst}
use Rattle.std.specs.Prelude.{get_or}
use Rattle.std.proofs.lemmas.List.{map-append}
use Rattle.comp_image.specs.Progress.{Fails, arguments_in, given_in}
use Rattle.comp_format.specs.declared.types.Arg.{Arg}
use Rattle.comp_image.specs.Views.{given_of}
use Rattle.comp_image.proofs.ArgumentLaws.{Behind, Given, next_behind, fails_behind, handed_on}
use Rattle.comp_image.proofs.arguments.arguments_of.Goals as goal

pub returns-in_err-argument : goal.returns-in_err-argument
returns-in_err-argument c = λ es shows.
    let args = c.args.args.now in
    let i = c.loop-arg.arg-index in
    let there : i < length args = search rules in
    handed_on _ c.from_residual.result c.in_err-argument.field-0.0 (arguments_in es args) c.from_residual.ensures.1
    (fails_behind es (map given_of c.loop-arg.given.items) args i c.arg-item.result c.in_err-argument.field-0.0 there
    (subst (λ (a : Arg). Fails c.in_err-argument.field-0.0 (given_in es a)) c.arg-item.is (c.in_err-argument.ensures es shows)) (c.loop-arg.invariant es shows))

pub loop-arg-preserved : goal.loop-arg-preserved
loop-arg-preserved c = λ es shows.
    let args = c.args.args.now in
    let i = c.loop-arg.arg-index in
    let there : i < length args = search rules in
    let x = given_of c.in_ok-argument.argument in
    let is : given_in es (get_or args i c.arg-item.result) ≡ Some x = ap (given_in es) (sym c.arg-item.is) ∙ c.in_ok-argument.ensures es shows in
    subst (λ (done : List Given). Behind es done args (i + 1)) (sym (ap (map given_of) c.in_ok-push.ensures.items ∙ map-append given_of c.loop-arg.given.items (c.in_ok-argument.argument ∷ [])))
    (next_behind es (map given_of c.loop-arg.given.items) args i c.arg-item.result x there is (c.loop-arg.invariant es shows))
