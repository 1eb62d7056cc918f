use Rattle.std.proofs.Common.{◌≡◌, ◌+◌, ◌∷◌, [], List, ℕ, true, false, rules, refl, ap, subst, map, drop}
use Rattle.std.specs.Prelude.{option_map, option_copied}
use Rattle.std.proofs.lemmas.List.{drop_more, drop_all}
use Rattle.warg_vectors.specs.Named.{same_name}
use Rattle.warg_vectors.specs.World.{place_in}
use Rattle.warg_vectors.specs.State.{named_view}
use Rattle.warg_vectors.specs.declared.registry.NamedRegistry.{NamedRegistry}
use Rattle.warg_vectors.proofs.PlaceLaws.{from-start, goes-on, stands-here}
use Rattle.warg_vectors.proofs.registry.place_of.Goals as goal

pub loop-named-init : goal.loop-named-init
loop-named-init c = record { place = refl; known = from-start (place_in (map named_view c.args.registries.now) (option_copied c.args.name)) }

pub loop-named-preserved : goal.loop-named-preserved
loop-named-preserved c =
    let rs = c.args.registries.now in
    let name = option_copied c.args.name in
    let i = c.loop-named.named-index in
    let x = c.named-item.result in
    let e : drop i rs ≡ x ∷ drop (i + 1) rs = search (rules, drop_more) in
    let whole = place_in (map named_view rs) name in
    let no : same_name x.name name ≡ false = search rules in
    let known = subst (λ (l : List NamedRegistry). option_map (λ (p : ℕ). p + c.loop-named.place) (place_in (map named_view l) name) ≡ whole) e c.loop-named.invariant.known in
    record {
      place = ap (λ (n : ℕ). n + 1) c.loop-named.invariant.place;
      known = goes-on name (named_view x) (map named_view (drop (i + 1) rs)) c.loop-named.place whole no known;
    }

pub returns-then-has_name : goal.returns-then-has_name
returns-then-has_name c =
    let rs = c.args.registries.now in
    let name = option_copied c.args.name in
    let i = c.loop-named.named-index in
    let x = c.named-item.result in
    let e : drop i rs ≡ x ∷ drop (i + 1) rs = search (rules, drop_more) in
    let whole = place_in (map named_view rs) name in
    let same : same_name x.name name ≡ true = search rules in
    let known = subst (λ (l : List NamedRegistry). option_map (λ (p : ℕ). p + c.loop-named.place) (place_in (map named_view l) name) ≡ whole) e c.loop-named.invariant.known in
    stands-here name (named_view x) (map named_view (drop (i + 1) rs)) c.loop-named.place whole same known

pub returns : goal.returns
unfolding place_in
returns c =
    let rs = c.args.registries.now in
    let name = option_copied c.args.name in
    let whole = place_in (map named_view rs) name in
    let e : drop c.loop-named.named-index rs ≡ [] = search (rules, drop_all) in
    subst (λ (l : List NamedRegistry). option_map (λ (p : ℕ). p + c.loop-named.place) (place_in (map named_view l) name) ≡ whole) e c.loop-named.invariant.known
