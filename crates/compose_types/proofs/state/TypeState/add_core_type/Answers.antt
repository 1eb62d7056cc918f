use Rattle.std.proofs.Common.{rules, ◌≡◌, [], sym, ap, ◌∙◌, subst}
use Rattle.comp_format.specs.CoreTypes as core
use Rattle.comp_format.specs.Views.{module_tree}
use Rattle.compose_writing.specs.Scopes.{add_core_type}
use Rattle.compose_writing.specs.Scopes.{on_top}
use Rattle.compose_types.specs.Scopes.{scopes, State}
use Rattle.compose_types.proofs.ScopeLaws.{top_changed, outermost_changed}
use Rattle.compose_types.specs.Largest.{IsWithin, written_size}
use Rattle.compose_types.proofs.LargestLaws.{outermost_refused, top_refused}
use Rattle.compose_types.proofs.RefusalLaws.{told}
use Rattle.compose_types.proofs.InnerLaws.{put_back, taken}
use Rattle.compose_types.proofs.state.TypeState.add_core_type.Goals as goal

pub returns-in_ok-push-in-Some-clause-added : goal.returns-in_ok-push-in-Some-clause-added
returns-in_ok-push-in-Some-clause-added c =
    let o = c.into_open-scope.result in
    let later = record o { declared = c.add_core_type.new.self } in
    ap (λ s. on_top (add_core_type (core.Module (module_tree c.args.ty))) (scopes s)) (sym c.self.view_is)
    ∙ top_changed (add_core_type (core.Module (module_tree c.args.ty))) c.self.inside.inner.items c.pop.new.self.items c.push.new.self.items o later c.self.inside.outermost c.in_ok-index-in-Some.index
    (taken c.self.inside.inner.items c.pop.new.self.items c.in-Some.scope o c.in-Some.ensures.items c.into_open-scope.ensures.scope)
    (put_back c.push.new.self.items c.pop.new.self.items c.of.result later c.in_ok-push-in-Some.ensures.items c.of.ensures) (c.in_ok-index-in-Some.ensures.added o.width o.known)

pub returns-in_ok-index-in-None-clause-added : goal.returns-in_ok-index-in-None-clause-added
returns-in_ok-index-in-None-clause-added c =
    let none : c.self.inside.inner.items ≡ [] = search rules in
    let rest : c.pop.new.self.items ≡ [] = search rules in
    let o = c.self.inside.outermost in
    ap (λ s. on_top (add_core_type (core.Module (module_tree c.args.ty))) (scopes s)) (sym c.self.view_is)
    ∙ outermost_changed (add_core_type (core.Module (module_tree c.args.ty))) c.self.inside.inner.items c.pop.new.self.items o (record o { declared = c.add_core_type-in-None.new.self }) c.in_ok-index-in-None.index none rest (c.in_ok-index-in-None.ensures.added o.width o.known)

pub returns-in_err-index-in-Some-clause-among : goal.returns-in_err-index-in-Some-clause-among
returns-in_err-index-in-Some-clause-among c = λ n e.
    let o = c.into_open-scope.result in
    subst (λ (s : State). IsWithin n written_size (on_top (add_core_type (core.Module (module_tree c.args.ty))) (scopes s))) c.self.view_is
    (top_refused n (add_core_type (core.Module (module_tree c.args.ty))) c.self.inside.inner.items c.pop.new.self.items o c.self.inside.outermost (taken c.self.inside.inner.items c.pop.new.self.items c.in-Some.scope o c.in-Some.ensures.items c.into_open-scope.ensures.scope)
    (c.in_err-index-in-Some.ensures.among o.width o.known n (told c.from_residual.result _ n c.from_residual.ensures.1 e)))

pub returns-in_err-index-in-None-clause-among : goal.returns-in_err-index-in-None-clause-among
returns-in_err-index-in-None-clause-among c = λ n e.
    let none : c.self.inside.inner.items ≡ [] = search rules in
    let o = c.self.inside.outermost in
    subst (λ (s : State). IsWithin n written_size (on_top (add_core_type (core.Module (module_tree c.args.ty))) (scopes s))) c.self.view_is
    (outermost_refused n (add_core_type (core.Module (module_tree c.args.ty))) c.self.inside.inner.items o none
    (c.in_err-index-in-None.ensures.among o.width o.known n (told c.from_residual-in_err-index-in-None.result _ n c.from_residual-in_err-index-in-None.ensures.1 e)))
