use Rattle.std.proofs.Common.{rules, subst, ◌≡◌, false}
use Rattle.std.specs.List.{All}
use Rattle.std.proofs.lemmas.List.{take_all}
use Rattle.std.proofs.lemmas.List.Elements.{All-more}
use Rattle.std.specs.Prelude.{ℕ, List}
use Rattle.std.specs.Str.{bytes_eq}
use Rattle.test_types.proofs.form.differs.Goals as goal

pub loop-other-preserved : goal.loop-other-preserved
loop-other-preserved c =
    let P = λ (other : List ℕ). bytes_eq c.args.label.now other ≡ false in
    All-more P c.args.later.now c.loop-other.other-index c.other-item.result c.loop-other-test.true c.loop-other.invariant (subst P c.other-item.is (search rules))

pub returns : goal.returns
returns c = λ t. subst (All (λ (other : List ℕ). bytes_eq c.args.label.now other ≡ false)) (take_all c.loop-other.other-index c.args.later.now c.loop-other-test.false) c.loop-other.invariant
