use Rattle.std.proofs.Common.{map, refl}
use Rattle.std.proofs.lemmas.Result.{err_from_is_err_and}
use Rattle.warg_page.specs.Steps.{id_of}
use Rattle.warg_api.specs.Asking.{asker}
use Rattle.warg_update.specs.Standing.{asker_of}
use Rattle.warg_session.specs.Recording.{transcript}
use Rattle.warg_session.specs.Updating.{start_view}
use Rattle.warg_session.proofs.TakenReplies.{proved_when_taken}
use Rattle.warg_session.proofs.RunSteps.{starts, ends, began, leaves, refused}
use Rattle.warg_session.proofs.update.run_update.Goals as goal

pub returns-in_err-go_on-clause-begun : goal.returns-in_err-go_on-clause-begun
returns-in_err-go_on-clause-begun g c = λ good.
    let accepts = g.V.Verifier.good c.args.verifier.now in
    let start = start_view c.args.start in
    let now = transcript g.L.Link.told c.args.link.now in
    let next = transcript g.L.Link.told c.go_on.new.link in
    let a = asker_of c.args.client.now c.in_ok-step.step in
    let b = asker c.args.client.now c.args.start.registry in
    let ids = map id_of c.args.start.packages.items in
    let under = starts accepts start g.L.Link.Steps a c.args.settings.round_limit now c.in_ok-step.step c.in_ok-step.ensures.pages (c.in_ok-step.ensures.stands accepts a good.operator good.packages) in
    let last = c.in_err-go_on.ensures.refused ids c.args.settings.round_limit start now under in
    (refused accepts start g.L.Link.Steps (g.D.Decide.said c.args.decide.now c.go_on.new.decide) c.args.settings.round_limit a b c.in_err-go_on.field-0.0 ids now next (c.in_ok-step.ensures.asker c.args.client.now) last).is_begun

pub returns-in_err-go_on-clause-cause : goal.returns-in_err-go_on-clause-cause
returns-in_err-go_on-clause-cause g c =
    let accepts = g.V.Verifier.good c.args.verifier.now in
    let start = start_view c.args.start in
    let now = transcript g.L.Link.told c.args.link.now in
    let next = transcript g.L.Link.told c.go_on.new.link in
    let a = asker_of c.args.client.now c.in_ok-step.step in
    let b = asker c.args.client.now c.args.start.registry in
    let ids = map id_of c.args.start.packages.items in
    let q = err_from_is_err_and c.from_residual-in_err-go_on.result c.from_residual-in_err-go_on.ensures.1 in
    rw (q.1, q.2) (λ good.
    let under = starts accepts start g.L.Link.Steps a c.args.settings.round_limit now c.in_ok-step.step c.in_ok-step.ensures.pages (c.in_ok-step.ensures.stands accepts a good.operator good.packages) in
    let last = c.in_err-go_on.ensures.refused ids c.args.settings.round_limit start now under in
    (refused accepts start g.L.Link.Steps (g.D.Decide.said c.args.decide.now c.go_on.new.decide) c.args.settings.round_limit a b c.in_err-go_on.field-0.0 ids now next (c.in_ok-step.ensures.asker c.args.client.now) last).cause)

pub returns-in-Some-clause-proves : goal.returns-in-Some-clause-proves
returns-in-Some-clause-proves g c = λ good.
    let accepts = g.V.Verifier.good c.args.verifier.now in
    let start = start_view c.args.start in
    let now = transcript g.L.Link.told c.args.link.now in
    let next = transcript g.L.Link.told c.go_on.new.link in
    let a = asker_of c.args.client.now c.in_ok-step.step in
    let b = asker c.args.client.now c.args.start.registry in
    let under = starts accepts start g.L.Link.Steps a c.args.settings.round_limit now c.in_ok-step.step c.in_ok-step.ensures.pages (c.in_ok-step.ensures.stands accepts a good.operator good.packages) in
    let w = (c.in_ok-go_on.ensures.over c.args.settings.round_limit start now under).0 in
    ends accepts start g.L.Link.Steps a b c.args.settings.round_limit now next c.go_on.new.step _ _ (c.in_ok-step.ensures.asker c.args.client.now) w (c.in-Some.ensures.proves accepts a start w.0 w.1.stands)

pub returns-in-Some-clause-good : goal.returns-in-Some-clause-good
returns-in-Some-clause-good g c = λ good.
    let accepts = g.V.Verifier.good c.args.verifier.now in
    let start = start_view c.args.start in
    let now = transcript g.L.Link.told c.args.link.now in
    let a = asker_of c.args.client.now c.in_ok-step.step in
    let under = starts accepts start g.L.Link.Steps a c.args.settings.round_limit now c.in_ok-step.step c.in_ok-step.ensures.pages (c.in_ok-step.ensures.stands accepts a good.operator good.packages) in
    let w = (c.in_ok-go_on.ensures.over c.args.settings.round_limit start now under).0 in
    c.in-Some.ensures.good accepts a start w.0 w.1.stands

pub returns-in-Some-clause-begun : goal.returns-in-Some-clause-begun
returns-in-Some-clause-begun g c = λ good.
    let accepts = g.V.Verifier.good c.args.verifier.now in
    let start = start_view c.args.start in
    let now = transcript g.L.Link.told c.args.link.now in
    let next = transcript g.L.Link.told c.go_on.new.link in
    let a = asker_of c.args.client.now c.in_ok-step.step in
    let b = asker c.args.client.now c.args.start.registry in
    let under = starts accepts start g.L.Link.Steps a c.args.settings.round_limit now c.in_ok-step.step c.in_ok-step.ensures.pages (c.in_ok-step.ensures.stands accepts a good.operator good.packages) in
    began accepts start g.L.Link.Steps a b c.args.settings.round_limit now next c.go_on.new.step (c.in_ok-step.ensures.asker c.args.client.now) (c.in_ok-go_on.ensures.over c.args.settings.round_limit start now under).0

pub returns-in-None-clause-begun : goal.returns-in-None-clause-begun
returns-in-None-clause-begun g c = λ good.
    let accepts = g.V.Verifier.good c.args.verifier.now in
    let start = start_view c.args.start in
    let now = transcript g.L.Link.told c.args.link.now in
    let next = transcript g.L.Link.told c.go_on.new.link in
    let a = asker_of c.args.client.now c.in_ok-step.step in
    let b = asker c.args.client.now c.args.start.registry in
    let under = starts accepts start g.L.Link.Steps a c.args.settings.round_limit now c.in_ok-step.step c.in_ok-step.ensures.pages (c.in_ok-step.ensures.stands accepts a good.operator good.packages) in
    began accepts start g.L.Link.Steps a b c.args.settings.round_limit now next c.go_on.new.step (c.in_ok-step.ensures.asker c.args.client.now) (c.in_ok-go_on.ensures.over c.args.settings.round_limit start now under).0

pub returns-in-Some-clause-pages : goal.returns-in-Some-clause-pages
returns-in-Some-clause-pages g c = λ good.
    let accepts = g.V.Verifier.good c.args.verifier.now in
    let start = start_view c.args.start in
    let now = transcript g.L.Link.told c.args.link.now in
    let next = transcript g.L.Link.told c.go_on.new.link in
    let a = asker_of c.args.client.now c.in_ok-step.step in
    let b = asker c.args.client.now c.args.start.registry in
    let limit = c.args.settings.round_limit in
    let under = starts accepts start g.L.Link.Steps a limit now c.in_ok-step.step c.in_ok-step.ensures.pages (c.in_ok-step.ensures.stands accepts a good.operator good.packages) in
    leaves accepts start g.L.Link.Steps a b limit _ now next c.go_on.new.step (c.in_ok-step.ensures.asker c.args.client.now) c.pages_left-pages_left.ensures (c.in_ok-go_on.ensures.over limit start now under).0

pub returns-in-Some-clause-unasked : goal.returns-in-Some-clause-unasked
returns-in-Some-clause-unasked g c = λ good.
    let accepts = g.V.Verifier.good c.args.verifier.now in
    let start = start_view c.args.start in
    let now = transcript g.L.Link.told c.args.link.now in
    let a = asker_of c.args.client.now c.in_ok-step.step in
    let under = starts accepts start g.L.Link.Steps a c.args.settings.round_limit now c.in_ok-step.step c.in_ok-step.ensures.pages (c.in_ok-step.ensures.stands accepts a good.operator good.packages) in
    let w = (c.in_ok-go_on.ensures.over c.args.settings.round_limit start now under).0 in
    let proved = (c.in-Some.ensures.given accepts a start w.0 w.1.stands).0 refl in
    c.in_ok-go_on.ensures.unasked c.args.settings.round_limit start now under (proved_when_taken c.go_on.new.step proved)
