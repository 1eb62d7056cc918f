use Rattle.std.proofs.Common.{◌≡◌, ℕ, ◌<◌, true, length, sym, subst}
use Rattle.std.specs.Option.{MatchOption}
use Rattle.compose_agree.specs.Order.{has, needs_at, needs_of}
use Rattle.compose_check.specs.Circles.{IsLastOnCircle, IsOnCircle}
use Rattle.compose_check.specs.Composition.{composition_tree}
use Rattle.compose_check.proofs.InstanceLaws.{given_below, on_circle_below}
use Rattle.compose_check.proofs.WaitLaws.{stuck_has_circle}
use Rattle.compose_check.proofs.instances.last_of_circle.Goals as goal

pub unreachable-requires : goal.unreachable-requires
unreachable-requires c =
    let needs = needs_of c.args.given.now in
    let there : (n m : ℕ) → has (needs_at needs n) m ≡ true → m < length needs =
    λ n m. subst (λ ns. has (needs_at ns n) m ≡ true → m < length ns) (sym c.requires.given) (given_below (composition_tree c.args.composition.now) c.requires.made n m) in
    let circle = stuck_has_circle needs c.requires.stuck.0 there c.requires.stuck.1 in
    let none : (n : ℕ) → IsOnCircle needs n → ⊥ = subst (λ o. MatchOption o ((n : ℕ) → IsOnCircle needs n → ⊥) (IsLastOnCircle needs)) c.in_default.is c.in_ok-instance.ensures in
    none circle.0 circle.1

pub component_name-requires-clause-there : goal.component_name-requires-clause-there
component_name-requires-clause-there c =
    let needs = needs_of c.args.given.now in
    let last : IsLastOnCircle needs c.in-Some.instance = subst (λ o. MatchOption o ((n : ℕ) → IsOnCircle needs n → ⊥) (IsLastOnCircle needs)) c.in-Some.is c.in_ok-instance.ensures in
    on_circle_below (composition_tree c.args.composition.now) c.in-Some.instance (subst (λ ns. IsOnCircle ns c.in-Some.instance) c.requires.given last.on)
