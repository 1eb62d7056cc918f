use Rattle.std.proofs.Common.{rules, ◌≡◌, Some, None, sym, ap, ◌∙◌, option_map, slice_get}
use Rattle.std.specs.BTreeMap.{get}
use Rattle.compose_writing.specs.Keys.{known_at}
use Rattle.compose_types.specs.Views.{IsNamed, at_of, at_there, key_cmp, known_of, mention_of}
use Rattle.compose_types.proofs.KnownLaws.{found_there, known_found, mapped, named_at}
use Rattle.compose_types.proofs.known.KnownThings.find.Goals as goal

pub returns-in-Some-clause-found : goal.returns-in-Some-clause-found
returns-in-Some-clause-found c =
    let there : get key_cmp c.self.inside.first c.args.key ≡ Some c.in-Some.place.now = search rules in
    c.at_place.ensures ∙ (λ i. option_map at_there (slice_get (sym c.self.view_is i) c.in-Some.place.now))
    ∙ sym (ap (λ ks. known_at ks (mention_of c.args.key)) (sym c.self.view_is) ∙ known_found c.self.inside.places.items c.args.key
    ∙ ap (found_there c.self.inside.places.items) (sym (c.self.invariant.found c.args.key) ∙ there))

pub returns-in-Some-clause-named : goal.returns-in-Some-clause-named
returns-in-Some-clause-named c =
    let there : get key_cmp c.self.inside.first c.args.key ≡ Some c.in-Some.place.now = search rules in
    let known = known_of c.self.inside.places.items in
    mapped (λ at. at_of at.now) IsNamed c.at_place.result (known_at known (mention_of c.args.key))
    (c.at_place.ensures ∙ (λ i. option_map at_there (slice_get (sym c.self.view_is i) c.in-Some.place.now))
    ∙ sym (known_found c.self.inside.places.items c.args.key ∙ ap (found_there c.self.inside.places.items) (sym (c.self.invariant.found c.args.key) ∙ there)))
    (named_at known (mention_of c.args.key) c.self.invariant.named)

pub returns-in-None-clause-found : goal.returns-in-None-clause-found
returns-in-None-clause-found c =
    let gone : get key_cmp c.self.inside.first c.args.key ≡ None = search rules in
    sym (ap (λ ks. known_at ks (mention_of c.args.key)) (sym c.self.view_is) ∙ known_found c.self.inside.places.items c.args.key
    ∙ ap (found_there c.self.inside.places.items) (sym (c.self.invariant.found c.args.key) ∙ gone))
