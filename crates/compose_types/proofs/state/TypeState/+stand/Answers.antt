use Rattle.std.proofs.Common.{rules, ◌≡◌, [], Some, sym, ap, ◌∙◌, subst}
use Rattle.compose_writing.specs.Scopes.{standing}
use Rattle.compose_types.specs.Scopes.{scopes, State}
use Rattle.compose_types.specs.Views.{mention_of}
use Rattle.compose_types.proofs.ScopeLaws.{stand_outermost, stand_in, stand_around}
use Rattle.compose_types.specs.Largest.{IsWithin, standing_size}
use Rattle.compose_types.proofs.LargestLaws.{stand_around_refused, stand_outermost_refused, stand_refused, stand_up_refused}
use Rattle.compose_types.proofs.RefusalLaws.{told}
use Rattle.compose_types.proofs.InnerLaws.{put_back, taken}
use Rattle.compose_types.proofs.PossibleLaws.{known_alone, known_around, known_further}
use Rattle.compose_types.proofs.state.TypeState.+stand.Goals as goal

pub returns-in_default-clause-stood : goal.returns-in_default-clause-stood
returns-in_default-clause-stood t c =
    let none : c.self.inside.inner.items ≡ [] = search rules in
    let rest : c.pop.new.self.items ≡ [] = search rules in
    let key = mention_of c.args.key in
    ap (λ s. standing (scopes s) key) (sym c.self.view_is)
    ∙ stand_outermost c.self.inside.inner.items c.pop.new.self.items c.self.inside.outermost c.index_of.new.self key c.in-Some-2.index none rest (rw c.in-Some-2.is at c.in_ok-index.ensures.found)

pub returns-in_ok-push-in-Some-3-clause-stood : goal.returns-in_ok-push-in-Some-3-clause-stood
returns-in_ok-push-in-Some-3-clause-stood t c =
    let o = c.into_open-scope.result in
    let key = mention_of c.args.key in
    ap (λ s. standing (scopes s) key) (sym c.self.view_is)
    ∙ stand_in c.self.inside.inner.items c.pop.new.self.items c.push.new.self.items o c.index_of-2.new.self c.self.inside.outermost key c.in-Some-3.index
    (taken c.self.inside.inner.items c.pop.new.self.items c.in-Some.scope o c.in-Some.ensures.items c.into_open-scope.ensures.scope) (put_back c.push.new.self.items c.pop.new.self.items c.of.result c.index_of-2.new.self c.in_ok-push-in-Some-3.ensures.items c.of.ensures) (rw c.in-Some-3.is at c.in_ok-index-2.ensures.found)

pub returns-in_ok-push-in-None-clause-stood : goal.returns-in_ok-push-in-None-clause-stood
returns-in_ok-push-in-None-clause-stood t c =
    let o = c.into_open-scope.result in
    let key = mention_of c.args.key in
    let further = c.self-in-None.inside in
    ap (λ s. standing (scopes s) key) (sym c.self.view_is)
    ∙ stand_around c.self.inside.inner.items c.pop.new.self.items further.inner.items c.push-in-None.new.self.items o c.index_of-2.new.self c.self.inside.outermost further.outermost key (mention_of c.in-Some-outside.further) c.in_ok-up-in-None.up c.in_ok-up-in-None.index
    (taken c.self.inside.inner.items c.pop.new.self.items c.in-Some.scope o c.in-Some.ensures.items c.into_open-scope.ensures.scope) (put_back c.push-in-None.new.self.items further.inner.items c.of-in-None.result c.index_of-2.new.self c.in_ok-push-in-None.ensures.items c.of-in-None.ensures) (c.in_ok-index-2.ensures.same c.in-None.is) (rw c.in-None.is at c.in_ok-index-2.ensures.found) c.in-Some-outside.ensures
    (c.in_ok-up-in-None.ensures.stood ∙ ap (λ s. Some (scopes s, (c.in_ok-up-in-None.up, c.in_ok-up-in-None.index))) (sym c.self-in-None.view_is))
    ∙ ap (λ n. Some (scopes (further.outermost, c.push-in-None.new.self.items), (n, c.in_ok-up-in-None.index))) (sym c.in_ok-up-in-None-2.ensures.value)

pub returns-in_err-index-clause-among : goal.returns-in_err-index-clause-among
returns-in_err-index-clause-among t c = λ n e.
    let none : c.self.inside.inner.items ≡ [] = search rules in
    let key = mention_of c.args.key in
    subst (λ (s : State). IsWithin n standing_size (standing (scopes s) key)) c.self.view_is
    (stand_outermost_refused n c.self.inside.inner.items c.self.inside.outermost key none
    (c.in_err-index.ensures.among n (told c.from_residual.result _ n c.from_residual.ensures.1 e)))

pub returns-in_err-index-2-clause-among : goal.returns-in_err-index-2-clause-among
returns-in_err-index-2-clause-among t c = λ n e.
    let o = c.into_open-scope.result in
    let key = mention_of c.args.key in
    subst (λ (s : State). IsWithin n standing_size (standing (scopes s) key)) c.self.view_is
    (stand_refused n c.self.inside.inner.items c.pop.new.self.items o c.self.inside.outermost key (taken c.self.inside.inner.items c.pop.new.self.items c.in-Some.scope o c.in-Some.ensures.items c.into_open-scope.ensures.scope)
    (c.in_err-index-2.ensures.among n (told c.from_residual-in_err-index-2.result _ n c.from_residual-in_err-index-2.ensures.1 e)))

pub returns-in_err-up-in-None-clause-among : goal.returns-in_err-up-in-None-clause-among
returns-in_err-up-in-None-clause-among t c = λ n e.
    let o = c.into_open-scope.result in
    let key = mention_of c.args.key in
    subst (λ (s : State). IsWithin n standing_size (standing (scopes s) key)) c.self.view_is
    (stand_around_refused n c.self.inside.inner.items c.pop.new.self.items o c.index_of-2.new.self c.self.inside.outermost key (mention_of c.in-Some-outside.further) (taken c.self.inside.inner.items c.pop.new.self.items c.in-Some.scope o c.in-Some.ensures.items c.into_open-scope.ensures.scope) (c.in_ok-index-2.ensures.same c.in-None.is) (rw c.in-None.is at c.in_ok-index-2.ensures.found) c.in-Some-outside.ensures
    (c.in_err-up-in-None.ensures.among n (told c.from_residual-in_err-up-in-None.result _ n c.from_residual-in_err-up-in-None.ensures.1 e)))

pub returns-in_err-up-in-None-2-clause-among : goal.returns-in_err-up-in-None-2-clause-among
returns-in_err-up-in-None-2-clause-among t c = λ n e.
    let o = c.into_open-scope.result in
    let key = mention_of c.args.key in
    subst (λ (s : State). IsWithin n standing_size (standing (scopes s) key)) c.self.view_is
    (stand_up_refused n c.in_ok-up-in-None.up c.in_ok-up-in-None.index c.self.inside.inner.items c.pop.new.self.items o c.index_of-2.new.self c.self.inside.outermost (scopes c.stand.new.self) key (mention_of c.in-Some-outside.further) (taken c.self.inside.inner.items c.pop.new.self.items c.in-Some.scope o c.in-Some.ensures.items c.into_open-scope.ensures.scope) (c.in_ok-index-2.ensures.same c.in-None.is) (rw c.in-None.is at c.in_ok-index-2.ensures.found) c.in-Some-outside.ensures
    c.in_ok-up-in-None.ensures.stood (c.in_err-up-in-None-2.ensures.number n (told c.from_residual-in_err-up-in-None-2.result _ n c.from_residual-in_err-up-in-None-2.ensures.1 e)))

pub unreachable-requires : goal.unreachable-requires
unreachable-requires t c =
    let none : c.self.inside.inner.items ≡ [] = search rules in
    known_alone c.args.self.now c.self.inside.inner.items c.self.inside.outermost (mention_of c.args.key) c.self.view_is none (rw c.in_default-2.is at c.in_ok-index.ensures.found) c.requires

pub unreachable-requires-in_default-outside : goal.unreachable-requires-in_default-outside
unreachable-requires-in_default-outside t c =
    let o = c.into_open-scope.result in
    known_around c.args.self.now c.self.inside.inner.items c.pop.new.self.items o c.index_of-2.new.self c.self.inside.outermost (mention_of c.args.key) c.self.view_is (taken c.self.inside.inner.items c.pop.new.self.items c.in-Some.scope o c.in-Some.ensures.items c.into_open-scope.ensures.scope)
    (c.in_ok-index-2.ensures.same c.in-None.is) (rw c.in-None.is at c.in_ok-index-2.ensures.found) c.in_default-outside.ensures c.requires

pub stand-requires : goal.stand-requires
stand-requires t c =
    let o = c.into_open-scope.result in (
      search rules,
      known_further c.args.self.now c.self.inside.inner.items c.pop.new.self.items o c.index_of-2.new.self c.self.inside.outermost (mention_of c.args.key) (mention_of c.in-Some-outside.further) c.self.view_is (taken c.self.inside.inner.items c.pop.new.self.items c.in-Some.scope o c.in-Some.ensures.items c.into_open-scope.ensures.scope)
          (c.in_ok-index-2.ensures.same c.in-None.is) (rw c.in-None.is at c.in_ok-index-2.ensures.found) c.in-Some-outside.ensures c.requires,
    )
