use Rattle.std.proofs.Common.{rules, Some, sym, ap, ◌∙◌}
use Rattle.compose_writing.specs.Scopes.{closed}
use Rattle.compose_types.specs.Scopes.{scopes}
use Rattle.compose_types.specs.declared.body.Scope.TheVariants as kind
use Rattle.compose_types.proofs.InnerLaws.{kind_is, not_alone, taken}
use Rattle.compose_types.proofs.ScopeLaws.{closed_in}
use Rattle.compose_types.proofs.state.TypeState.close_instance.Goals as goal

pub unreachable-requires : goal.unreachable-requires
unreachable-requires c = not_alone c.args.self.now c.self.inside.inner.items c.self.inside.outermost c.self.view_is kind.Instance (search rules) c.requires

pub into_instance-requires : goal.into_instance-requires
into_instance-requires c =
    let o = c.into_open-scope.result in
    kind_is c.args.self.now c.self.inside.inner.items c.self.inside.outermost c.self.view_is c.pop.new.self.items o kind.Instance (taken c.self.inside.inner.items c.pop.new.self.items c.in-Some.scope o c.in-Some.ensures.items c.into_open-scope.ensures.scope) c.into_open-scope.ensures.kind c.requires

pub returns-clause-closed : goal.returns-clause-closed
returns-clause-closed c =
    let o = c.into_open-scope.result in
    ap (λ s. closed (scopes s)) (sym c.self.view_is)
    ∙ closed_in c.self.inside.inner.items c.pop.new.self.items o c.self.inside.outermost (taken c.self.inside.inner.items c.pop.new.self.items c.in-Some.scope o c.in-Some.ensures.items c.into_open-scope.ensures.scope)
    ∙ ap (λ ds. Some (scopes (c.self.inside.outermost, c.pop.new.self.items), ds)) (sym c.into_instance.ensures.decls)
