use Rattle.std.proofs.Common.{Some, None, sym, ap, ◌∙◌, arith}
use Rattle.semver.specs.Identifiers.{parts_of}
use Rattle.warg_log.specs.Places.{with_content}
use Rattle.warg_log.specs.Facts.{PlainFacts, known_by}
use Rattle.warg_log.proofs.FactsLaws.{place_among-within, content_back, length-with_content}
use Rattle.warg_log.proofs.facts.Facts.enter_yank.Goals as goal

pub content-requires : goal.content-requires
content-requires c = place_among-within (parts_of c.args.version.now) c.args.self.now.releases c.in-Some.place (sym c.in-Some.ensures)

pub set_content-requires : goal.set_content-requires
set_content-requires c = place_among-within (parts_of c.args.version.now) c.args.self.now.releases c.in-Some.place (sym c.in-Some.ensures)

pub returns-clause-undo : goal.returns-clause-undo
returns-clause-undo c =
    let was = known_by c.args.self.now in
    let made : PlainFacts = was in
    ap (λ rs. record made { releases = rs })
    (ap (λ rs. with_content rs c.in-Some.place (Some c.in-Some-content.content)) c.set_content.ensures
    ∙ content_back c.args.self.now.releases c.in-Some.place c.in-Some-content.content (sym c.in-Some-content.ensures))

pub returns-clause-can : goal.returns-clause-can
returns-clause-can c =
    let within = place_among-within (parts_of c.args.version.now) c.args.self.now.releases c.in-Some.place (sym c.in-Some.ensures) in
    rw c.set_content.ensures (omega (arith, length-with_content c.args.self.now.releases c.in-Some.place None))
