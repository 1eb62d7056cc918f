use Rattle.std.proofs.Common.{◌≡◌, ◌++◌, ◌∷◌, [], List, ℕ, Some, sym, ◌∙◌, ap, length, map, arith}
use Rattle.std.specs.Prelude.{option_copied}
use Rattle.std.proofs.lemmas.List.{map_push, length-map}
use Rattle.warg_model.specs.Held.{opened}
use Rattle.warg_vectors.specs.Named.{key_of}
use Rattle.warg_vectors.specs.State.{named_view}
use Rattle.warg_vectors.specs.World.{Named, place_in}
use Rattle.warg_vectors.proofs.PlaceLaws.{place-stands, place-none, place-behind}
use Rattle.warg_vectors.proofs.MentionLaws.{called, mentioned-there, mentioned-new}
use Rattle.warg_vectors.proofs.registry.mention.Goals as goal

pub returns-in-Some-clause-mentioned : goal.returns-in-Some-clause-mentioned
returns-in-Some-clause-mentioned c =
    let name = option_copied c.args.name in
    let rs = map named_view c.args.registries.now.items in
    let s = place-stands name rs c.in-Some.place (called c.in-Some.ensures c.as_slice.ensures.value c.bytes_of.ensures) in
    sym (mentioned-there name rs s.named.held s.is)

pub returns-clause-mentioned : goal.returns-clause-mentioned
returns-clause-mentioned c =
    let name = option_copied c.args.name in
    let olds = c.args.registries.now.items in
    let rs = map named_view olds in
    let none = called (sym c.in_default.is ∙ c.place_of.ensures) c.as_slice.ensures.value c.bytes_of.ensures in
    let number : c.len-place.result ≡ length rs = omega (arith, c.len-place.ensures, c.args.registries.now.ok.0, length-map olds named_view) in
    ap (map named_view) c.in_ok-push.ensures.items ∙ map_push named_view olds c.in_ok-named.named
    ∙ ap (λ (r : Named). rs ++ r ∷ []) (c.in_ok-named.ensures.view ∙ ap (λ (n : ℕ). record { name = name; held = opened (key_of n) }) number)
    ∙ sym (mentioned-new name rs (place-none name rs none))

pub returns-clause-place : goal.returns-clause-place
returns-clause-place c =
    let name = option_copied c.args.name in
    let olds = c.args.registries.now.items in
    let rs = map named_view olds in
    let none = called (sym c.in_default.is ∙ c.place_of.ensures) c.as_slice.ensures.value c.bytes_of.ensures in
    let number : c.len-place.result ≡ length rs = omega (arith, c.len-place.ensures, c.args.registries.now.ok.0, length-map olds named_view) in
    ap (λ (l : List Named). place_in l name) (ap (map named_view) c.in_ok-push.ensures.items ∙ map_push named_view olds c.in_ok-named.named)
    ∙ place-behind name rs (named_view c.in_ok-named.named) none (ap (λ (r : Named). r.name) c.in_ok-named.ensures.view)
    ∙ ap (λ (n : ℕ). Some n) (sym number)
