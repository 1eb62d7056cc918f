use Rattle.std.proofs.Common.{◌≡◌, ◌+◌, ◌∷◌, ◌++◌, [], List, rules, sym, ◌∙◌, ap, subst, map, take}
use Rattle.std.proofs.lemmas.List.{take_more, map_push}
use Rattle.warg_model.specs.declared.growth.Growth.{Growth}
use Rattle.warg_vectors.specs.State.{named_view}
use Rattle.warg_vectors.specs.World.{Named, AreGrowthsOf}
use Rattle.warg_vectors.proofs.GrowthLaws.{growths-more}
use Rattle.warg_vectors.proofs.registry.growths_of.Goals as goal

pub loop-named-preserved : goal.loop-named-preserved
loop-named-preserved c =
    let rs = c.args.registries.now in
    let i = c.loop-named.named-index in
    let x = c.named-item.result in
    let before = map named_view (take i rs) in
    let seen : map named_view (take (i + 1) rs) ≡ before ++ named_view x ∷ [] = ap (map named_view) (search (rules, take_more)) ∙ map_push named_view (take i rs) x in
    let more = growths-more before c.loop-named.growths.items (named_view x) c.in_ok-growth.growth c.loop-named.invariant c.in_ok-growth.ensures in
    subst (λ (l : List Named). AreGrowthsOf l c.push.new.self.items) (sym seen) (subst (λ (l : List Growth). AreGrowthsOf (before ++ named_view x ∷ []) l) (sym c.in_ok-push.ensures.items) more)
