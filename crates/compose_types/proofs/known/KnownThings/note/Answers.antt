use Rattle.std.proofs.Common.{rules, ◌≡◌, ◌++◌, ◌∷◌, [], length, sym, subst, ◌∙◌}
use Rattle.compose_types.specs.Views.{AreFound}
use Rattle.compose_types.proofs.KnownLaws.{found_push, not_found}
use Rattle.compose_types.proofs.known.KnownThings.note.Goals as goal

pub invariant_of-self-2 : goal.invariant_of-self-2
invariant_of-self-2 c =
    let same : c.reserve.new.self.items ≡ c.self.inside.places.items = search rules in
    let pushed : c.push.new.self.items ≡ c.self.inside.places.items ++ (c.args.key, c.args.at) ∷ [] = search rules in
    let at : c.len-place.result ≡ length c.self.inside.places.items = search rules in
    subst (λ ks. AreFound c.insert.new.self ks) (sym pushed)
    (found_push c.self.inside.first c.insert.new.self c.self.inside.places.items c.args.key c.args.at c.len-place.result c.self.invariant
    (not_found c.self.inside.first c.self.inside.places.items c.args.key c.self.invariant.found _ (sym c.self.view_is) (sym c.knows.ensures ∙ c.if-knows.false)) at c.in_ok-insert.ensures.updates c.requires)
