use Rattle.std.proofs.Common.{rules, ◌≤◌, ◌∷◌, refl, sym, ap, subst, ◌∙◌}
use Rattle.compose_writing.specs.Scopes.{change_top, declared as declare}
use Rattle.compose_writing.specs.WriteEntities.{counted}
use Rattle.compose_types.specs.Largest.{scopes_size}
use Rattle.compose_types.specs.Scopes.{State, item_of, scope_of, scopes, scopes_in}
use Rattle.compose_types.proofs.LargestLaws.{top_not_named}
use Rattle.compose_types.proofs.ScopeLaws.{scopes_push}
use Rattle.compose_types.proofs.RefusalLaws.{told}
use Rattle.compose_types.proofs.InnerLaws.{put_back, takes_side, takes_within, taken}
use Rattle.compose_types.proofs.state.TypeState.name.Goals as goal

pub unreachable-requires : goal.unreachable-requires
unreachable-requires c = takes_within c.args.self.now c.self.inside.inner.items c.self.inside.outermost c.self.view_is c.args.side (search rules) c.requires.kind

pub name-requires-clause-kind : goal.name-requires-clause-kind
name-requires-clause-kind c =
    let o = c.into_open-scope.result in
    takes_side c.args.self.now c.self.inside.inner.items c.self.inside.outermost c.self.view_is c.pop.new.self.items o c.args.side (taken c.self.inside.inner.items c.pop.new.self.items c.in-Some.scope o c.in-Some.ensures.items c.into_open-scope.ensures.scope) c.into_open-scope.ensures.kind c.requires.kind

pub returns-in_err-name-clause-among : goal.returns-in_err-name-clause-among
returns-in_err-name-clause-among c = λ n e.
    let o = c.into_open-scope.result in
    subst (λ (s : State). n ≤ scopes_size (change_top (λ m. counted c.args.ty (declare (item_of c.args.side c.args.name.now c.args.ty) m)) (scopes s))) c.self.view_is
    (top_not_named n (λ m. counted c.args.ty (declare (item_of c.args.side c.args.name.now c.args.ty) m)) c.self.inside.inner.items c.pop.new.self.items o c.self.inside.outermost (taken c.self.inside.inner.items c.pop.new.self.items c.in-Some.scope o c.in-Some.ensures.items c.into_open-scope.ensures.scope)
    (c.in_err-name.ensures.among o.width o.known n (told c.from_residual.result _ n c.from_residual.ensures.1 e)))

pub returns-clause-named : goal.returns-clause-named
returns-clause-named c =
    let o = c.into_open-scope.result in
    let around = scopes_in c.pop.new.self.items c.self.inside.outermost in
    let later = record o { declared = c.name.new.self } in
    record {
      top = scope_of o;
      around = around;
      was = ap scopes (sym c.self.view_is) ∙ ap (λ xs. scopes_in xs c.self.inside.outermost) (taken c.self.inside.inner.items c.pop.new.self.items c.in-Some.scope o c.in-Some.ensures.items c.into_open-scope.ensures.scope) ∙ scopes_push c.pop.new.self.items o c.self.inside.outermost;
      is = ap (λ xs. scopes_in xs c.self.inside.outermost) (put_back c.push.new.self.items c.pop.new.self.items c.of.result later c.in_ok-push.ensures.items c.of.ensures) ∙ scopes_push c.pop.new.self.items later c.self.inside.outermost ∙ ap (λ m. m ∷ around) (sym (c.in_ok-name.ensures.named o.width o.known));
      types_are = refl;
      instances_are = refl;
    }
