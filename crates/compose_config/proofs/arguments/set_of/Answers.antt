use Rattle.std.proofs.Common.{ap, sym, ◌∙◌, take, ◌||◌, ◌++◌, ◌∷◌, [], bytes_eq}
use Rattle.std.proofs.lemmas.List.{take_more}
use Rattle.compose_config.specs.Arguments.{is_among, is_in_set}
use Rattle.compose_config.proofs.ArgumentSteps.{set_step, among_step}
use Rattle.compose_config.proofs.arguments.set_of.Goals as goal

pub loop-name-preserved : goal.loop-name-preserved
loop-name-preserved c = λ name.
    let imports = c.args.names.now in
    let i = c.loop-name.name-index in
    let item = c.name-item.result in
    let front = take_more imports i item c.loop-name-test.true ∙ ap (λ n. take i imports ++ n ∷ []) (sym c.name-item.is) in
    ap (λ ks. is_in_set ks name) c.in_ok-insert.ensures.keys
    ∙ set_step c.loop-name.set.keys _ name
    ∙ ap (λ b. b || bytes_eq name item) (c.loop-name.invariant name)
    ∙ sym (among_step (take i imports) item name)
    ∙ ap (λ l. is_among l name) (sym front)
