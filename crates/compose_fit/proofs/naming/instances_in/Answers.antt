use Rattle.std.proofs.Common.{rules, ◌≡◌, ◌+◌, ◌++◌, ◌∷◌, [], ◌∙◌, ap, sym, subst, arith, length, length-append, take}
use Rattle.comp_table.specs.StandLaws.{grows_on}
use Rattle.compose_fit.specs.Seen.{IsNumbered, AreSeen, changes}
use Rattle.compose_fit.specs.KeptLaws.{numbered_kept}
use Rattle.compose_fit.proofs.SeenLaws.{all_seen_kept, seen_push, instance_at, all_taken}
use Rattle.compose_fit.proofs.naming.instances_in.Goals as goal

pub numbers_at-numbers-requires : goal.numbers_at-numbers-requires
numbers_at-numbers-requires c =
    let known = c.requires in
    (instance_at c.args.table.now c.args.components.now c.args.instances.now known.0 c.loop-at.at 0 known.1 c.loop-at-test.true).below

pub shape_in-requires : goal.shape_in-requires
shape_in-requires c =
    let known = c.requires in
    let x = instance_at c.args.table.now c.args.components.now c.args.instances.now known.0 c.loop-at.at 0 known.1 c.loop-at-test.true in (
      x.shape,
      numbered_kept c.args.table.now c.loop-at.table c.loop-at.invariant.kept c.numbers_at-numbers.result x.shape
          (subst (λ n. IsNumbered c.args.table.now n x.shape) (sym c.numbers_at-numbers.ensures) (x.numbered (record { imports = 0; exports = 0 }))),
    )

pub loop-at-preserved : goal.loop-at-preserved
loop-at-preserved c =
    record {
      kept = grows_on _ _ _ c.loop-at.invariant.kept c.in_ok-shape_in.ensures.kept;
      many = ap length c.in_ok-push.ensures.items ∙ length-append c.loop-at.seen.items (c.in_ok-shape_in.field-0 ∷ []) ∙ ap (λ k. k + 1) c.loop-at.invariant.many;
      seen = λ shapes a.
          let x = instance_at c.args.table.now c.args.components.now c.args.instances.now shapes c.loop-at.at 0 a c.loop-at-test.true in
          let known = c.loop-at.invariant.many in
          let many : 0 + length c.loop-at.seen.items ≡ c.loop-at.at = omega (arith, known) in
          let numbered = numbered_kept c.args.table.now c.loop-at.table c.loop-at.invariant.kept c.numbers_at-numbers.result x.shape
          (subst (λ n. IsNumbered c.args.table.now n x.shape) (sym c.numbers_at-numbers.ensures) (x.numbered (record { imports = 0; exports = 0 }))) in
          subst (AreSeen c.shape_in.new.table (changes c.args.naming) 0 c.push.new.self.items) (sym x.upto)
          (subst (λ ns. AreSeen c.shape_in.new.table (changes c.args.naming) 0 ns (take c.loop-at.at shapes ++ x.shape ∷ [])) (sym c.in_ok-push.ensures.items)
          (seen_push c.shape_in.new.table (changes c.args.naming) 0 c.loop-at.at c.loop-at.seen.items (take c.loop-at.at shapes) c.in_ok-shape_in.field-0 x.shape
          (all_seen_kept c.loop-at.table c.shape_in.new.table c.in_ok-shape_in.ensures.kept (changes c.args.naming) 0 c.loop-at.seen.items (take c.loop-at.at shapes) (c.loop-at.invariant.seen shapes a))
          many (c.in_ok-shape_in.ensures.seen x.shape numbered)));
    }

pub returns-clause-seen : goal.returns-clause-seen
returns-clause-seen c = λ shapes a.
    let end : c.loop-at.at ≡ length c.args.instances.now = search rules in
    subst (AreSeen c.loop-at.table (changes c.args.naming) 0 c.loop-at.seen.items) (ap (λ k. take k shapes) end ∙ all_taken c.args.table.now c.args.components.now c.args.instances.now shapes a) (c.loop-at.invariant.seen shapes a)
