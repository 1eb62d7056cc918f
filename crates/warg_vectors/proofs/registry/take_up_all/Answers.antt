use Rattle.std.proofs.Common.{◌≡◌, [], ℕ, slice_index_or, rules, refl, sym, subst, length, set, arith}
use Rattle.std.proofs.lemmas.Grind.{common_steps}
use Rattle.std.proofs.lemmas.Option.{slice_get_read}
use Rattle.warg_model.specs.Growths.{IsGrowthOf}
use Rattle.warg_vectors.specs.State.{named_view, IsSoundNamed}
use Rattle.warg_vectors.specs.World.{grown_one}
use Rattle.warg_vectors.specs.declared.registry.NamedRegistry.{NamedRegistry}
use Rattle.warg_vectors.proofs.GrowthLaws.{AreTakenUp, one-more-taken-up, taken-up-below, next-below, all-taken-up}
use Rattle.warg_vectors.proofs.registry.take_up_all.Goals as goal

pub loop-growth-preserved-then-place-registries : goal.loop-growth-preserved-then-place-registries
loop-growth-preserved-then-place-registries c all =
    let old = c.args.registries.now in
    let rs = c.loop-growth.registries in
    let gs = c.pop.new.self.items in
    let p = c.index-registries-place.result in
    let t = subst (AreTakenUp old rs) c.in-Some.ensures.items (c.loop-growth.invariant all) in
    let at : c.len-place.result ≡ length gs = omega (arith, c.len-place.ensures, c.pop.new.self.ok.0) in
    let is : p ≡ slice_index_or rs c.len-place.result p = search rules in
    let there = slice_get_read rs (length rs) (length gs) p refl (taken-up-below old rs gs c.in-Some.growth t) (subst (λ (n : ℕ). p ≡ slice_index_or rs n p) at is) in
    let q = c.take_up_in.new.named in
    let g = c.in-Some.growth in
    let grown = subst (λ (x : NamedRegistry). IsGrowthOf (named_view x).held g → named_view q ≡ grown_one (named_view x)) (sym is) c.take_up_in.ensures.grown in
    let sound = subst (λ (x : NamedRegistry). IsGrowthOf (named_view x).held g → IsSoundNamed x → IsSoundNamed q) (sym is) c.take_up_in.ensures.sound in
    subst (λ (n : ℕ). AreTakenUp old (set rs n q) gs) (sym at) (one-more-taken-up old rs gs g p q t there grown sound)

pub loop-growth-preserved-else-place-registries : goal.loop-growth-preserved-else-place-registries
loop-growth-preserved-else-place-registries c all =
    let below = next-below c.args.registries.now c.loop-growth.registries _ c.pop.new.self.items c.in-Some.growth c.in-Some.ensures.items (c.loop-growth.invariant all) in
    absurd (omega (arith, below, c.if-place-registries.false, c.len-place.ensures, c.pop.new.self.ok.0))

pub loop-growth-preserved-else-place-registries-2 : goal.loop-growth-preserved-else-place-registries-2
loop-growth-preserved-else-place-registries-2 c all =
    let below = next-below c.args.registries.now c.loop-growth.registries _ c.pop.new.self.items c.in-Some.growth c.in-Some.ensures.items (c.loop-growth.invariant all) in
    absurd (omega (arith, below, c.if-place-registries.false, c.len-place.ensures, c.pop.new.self.ok.0))

pub loop-growth-preserved : goal.loop-growth-preserved
loop-growth-preserved c all =
    let below = next-below c.args.registries.now c.loop-growth.registries _ c.pop.new.self.items c.in-Some.growth c.in-Some.ensures.items (c.loop-growth.invariant all) in
    absurd (omega (arith, below, c.if-place-registries.false, c.len-place.ensures, c.pop.new.self.ok.0))

pub returns-clause-grown : goal.returns-clause-grown
returns-clause-grown c all =
    let none : c.loop-growth.growths.items ≡ [] = grind (arith, common_steps) in
    all-taken-up c.args.registries.now c.loop-growth.registries (subst (AreTakenUp c.args.registries.now c.loop-growth.registries) none (c.loop-growth.invariant all))
