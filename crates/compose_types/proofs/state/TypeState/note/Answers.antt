use Rattle.std.proofs.Common.{rules, ◌≡◌, [], ap, ◌∙◌}
use Rattle.compose_writing.specs.Scopes.{change_top, with_known}
use Rattle.compose_types.specs.Scopes.{scopes}
use Rattle.compose_types.specs.Views.{mention_of, at_of}
use Rattle.compose_types.proofs.ScopeLaws.{known_more, top_noted, outermost_noted}
use Rattle.compose_types.proofs.InnerLaws.{put_back, taken}
use Rattle.compose_types.proofs.state.TypeState.note.Goals as goal

pub returns-in_ok-push-in-Some-clause-noted : goal.returns-in_ok-push-in-Some-clause-noted
returns-in_ok-push-in-Some-clause-noted c =
    let f = with_known (mention_of c.args.key) (at_of c.args.at) in
    let o = c.into_open-scope.result in
    let later = record o { known = c.note.new.self } in
    top_noted f c.self.inside.inner.items c.pop.new.self.items c.push.new.self.items o later c.self.inside.outermost (taken c.self.inside.inner.items c.pop.new.self.items c.in-Some.scope o c.in-Some.ensures.items c.into_open-scope.ensures.scope)
    (put_back c.push.new.self.items c.pop.new.self.items c.of.result later c.in_ok-push-in-Some.ensures.items c.of.ensures)
    (known_more o.width o.declared o.known c.note.new.self (mention_of c.args.key) (at_of c.args.at) c.in_ok-note-in-Some.ensures)
    ∙ ap (λ s. change_top f (scopes s)) c.self.view_is

pub returns-in_ok-note-in-None-clause-noted : goal.returns-in_ok-note-in-None-clause-noted
returns-in_ok-note-in-None-clause-noted c =
    let none : c.self.inside.inner.items ≡ [] = search rules in
    let rest : c.pop.new.self.items ≡ [] = search rules in
    let f = with_known (mention_of c.args.key) (at_of c.args.at) in
    let o = c.self.inside.outermost in
    outermost_noted f c.self.inside.inner.items c.pop.new.self.items o (record o { known = c.note-in-None.new.self }) none rest
    (known_more o.width o.declared o.known c.note-in-None.new.self (mention_of c.args.key) (at_of c.args.at) c.in_ok-note-in-None.ensures)
    ∙ ap (λ s. change_top f (scopes s)) c.self.view_is
