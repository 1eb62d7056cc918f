use Rattle.std.proofs.Common.{◌≡◌, ◌∷◌, ◌+◌, List, Err, drop, rules, arith, ap, subst}
use Rattle.std.proofs.lemmas.List.{drop_more}
use Rattle.std.proofs.lemmas.Result.{err_from_is_err_and}
use Rattle.warg_body.specs.declared.error.LinkError.TheVariants.{Memory as WantsMemory}
use Rattle.warg_exchange.specs.declared.content.ContentSource.{ContentSource}
use Rattle.warg_api.specs.Download.{source_url, urls}
use Rattle.warg_api.specs.Streams.{OpensTo, Passed, none_yet}
use Rattle.warg_api.proofs.StreamLaws.{one_opened, none_opened, opening_lost}
use Rattle.warg_api.proofs.streams.open_first.Goals as goal

pub loop-source-init : goal.loop-source-init
loop-source-init g c = (omega arith, none_yet)

pub loop-source-preserved : goal.loop-source-preserved
loop-source-preserved g c =
    let sources = c.args.sources.now in
    let i = c.loop-source.source-index in
    let s = c.source-item.result in
    let old = g.L.Link.told c.args.link.now in
    let last = g.L.Link.told c.loop-source.link in
    let new = g.L.Link.told c.open_source.new.link in
    let e : drop i sources ≡ s ∷ drop (i + 1) sources = search (rules, drop_more) in
    let passed = subst (λ (l : List ContentSource). Passed g.L.Link.Opens (urls sources) old (urls l) last) e c.loop-source.invariant.1 in
    let turn = subst (λ o. OpensTo g.L.Link.Opens last (source_url s) new o) c.in-None.is c.in_ok-body.ensures.ok in
    (omega (arith, c.loop-source.invariant.0, c.in_ok-body.ensures.never_falls), none_opened g.L.Link.Steps g.L.Link.Opens old last new (urls sources) s (drop (i + 1) sources) passed turn)

pub returns-in-Some-clause-ok : goal.returns-in-Some-clause-ok
returns-in-Some-clause-ok g c =
    let sources = c.args.sources.now in
    let i = c.loop-source.source-index in
    let s = c.source-item.result in
    let old = g.L.Link.told c.args.link.now in
    let last = g.L.Link.told c.loop-source.link in
    let new = g.L.Link.told c.open_source.new.link in
    let e : drop i sources ≡ s ∷ drop (i + 1) sources = search (rules, drop_more) in
    let passed = subst (λ (l : List ContentSource). Passed g.L.Link.Opens (urls sources) old (urls l) last) e c.loop-source.invariant.1 in
    let turn = subst (λ o. OpensTo g.L.Link.Opens last (source_url s) new o) c.in-Some.is c.in_ok-body.ensures.ok in
    one_opened g.L.Link.Steps g.L.Link.Opens old last new (urls sources) s (drop (i + 1) sources) passed c.in-Some.body turn

pub returns-in_err-body-clause-memory : goal.returns-in_err-body-clause-memory
returns-in_err-body-clause-memory g c = λ is.
    let sources = c.args.sources.now in
    let i = c.loop-source.source-index in
    let s = c.source-item.result in
    let old = g.L.Link.told c.args.link.now in
    let last = g.L.Link.told c.loop-source.link in
    let new = g.L.Link.told c.open_source.new.link in
    let e : drop i sources ≡ s ∷ drop (i + 1) sources = search (rules, drop_more) in
    let passed = subst (λ (l : List ContentSource). Passed g.L.Link.Opens (urls sources) old (urls l) last) e c.loop-source.invariant.1 in
    let p = err_from_is_err_and c.from_residual.result c.from_residual.ensures.1 in
    let f : c.in_err-body.field-0.0 ≡ WantsMemory = cc (p.1, p.2, is) in
    opening_lost g.L.Link.Steps g.L.Link.Opens old last new (urls sources) s (drop (i + 1) sources) passed (c.in_err-body.ensures.memory (ap Err f))
