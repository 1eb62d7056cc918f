use Rattle.std.proofs.Common.{ℕ, sym, ◌∙◌, subst, rules, add-one}
use Rattle.compose_files.specs.Built.{AfterSteps}
use Rattle.compose_files.specs.Composed.{ServesAt}
use Rattle.compose_files.specs.View.{built_of, sources}
use Rattle.compose_files.proofs.RefusalSteps.{handed_on}
use Rattle.compose_files.proofs.Searches.{entry_at}
use Rattle.compose_files.proofs.serve.serve_each.Goals as goal

pub returns-in_err-serve-clause-refused : goal.returns-in_err-serve-clause-refused
returns-in_err-serve-clause-refused g c =
    handed_on c.from_residual.result c.in_err-serve.field-0.0 _ c.from_residual.ensures.1
    (λ held told. record {
      number = c.loop-place.place;
      before = built_of c.loop-place.builder;
      served = c.loop-place.invariant.served held told;
      name = c.index-names-place.result;
      there = entry_at c.args.names.now c.loop-place.place c.index-names-place.result c.loop-place-test.true c.index-names-place.is;
      refused = c.in_err-serve.ensures.refused held (c.loop-place.invariant.kept ∙ told);
    })

pub loop-place-preserved : goal.loop-place-preserved
loop-place-preserved g c = record {
  never_falls = search rules;
  kept = search rules;
  served = λ held told.
      subst (λ (n : ℕ). AfterSteps (ServesAt (sources c.args.config.now held) c.args.instance.now c.args.target.0 c.args.names.now) (built_of c.args.builder.now) n (built_of c.serve.new.builder)) (sym (add-one c.loop-place.place)) (
        built_of c.loop-place.builder,
        c.loop-place.invariant.served held told,
        record {
          name = c.index-names-place.result;
          there = entry_at c.args.names.now c.loop-place.place c.index-names-place.result c.loop-place-test.true c.index-names-place.is;
          serves = c.in_ok-serve.ensures.served held (c.loop-place.invariant.kept ∙ told);
        },
      );
}
