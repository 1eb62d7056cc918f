use Rattle.std.proofs.Common.{ℕ, List, slice_get, ap, sym, ◌∙◌, subst, rules, add-one}
use Rattle.compose_files.specs.Built.{AfterSteps, DefinesAt}
use Rattle.compose_files.specs.View.{built_of, sources}
use Rattle.compose_files.proofs.RefusalSteps.{handed_on}
use Rattle.compose_files.proofs.Searches.{entry_at}
use Rattle.compose_files.proofs.define.define_all.Goals as goal

pub returns-in_err-define-clause-refused : goal.returns-in_err-define-clause-refused
returns-in_err-define-clause-refused g c =
    handed_on c.from_residual.result c.in_err-define.field-0.0 _ c.from_residual.ensures.1
    (λ held told. record {
      number = c.loop-path.path-index;
      before = built_of c.loop-path.builder;
      defines = c.loop-path.invariant.defines held told;
      path = c.path-item.result;
      there = ap (λ (xs : List (List ℕ)). slice_get xs c.loop-path.path-index) (sym c.deref-path-items.ensures.value) ∙ entry_at c.deref-path-items.result.now c.loop-path.path-index c.path-item.result c.loop-path-test.true c.path-item.is;
      refused = c.in_err-define.ensures.refused held (c.loop-path.invariant.kept ∙ told);
    })

pub loop-path-preserved : goal.loop-path-preserved
loop-path-preserved g c = record {
  never_falls = search rules;
  kept = search rules;
  named = search rules;
  defines = λ held told.
      subst (λ (n : ℕ). AfterSteps (DefinesAt (sources c.args.config.now held)) (built_of c.args.builder.now) n (built_of c.define.new.builder)) (sym (add-one c.loop-path.path-index)) (
        built_of c.loop-path.builder,
        c.loop-path.invariant.defines held told,
        record {
          path = c.path-item.result;
          there = ap (λ (xs : List (List ℕ)). slice_get xs c.loop-path.path-index) (sym c.deref-path-items.ensures.value) ∙ entry_at c.deref-path-items.result.now c.loop-path.path-index c.path-item.result c.loop-path-test.true c.path-item.is;
          defined = c.in_ok-define.ensures.defined held (c.loop-path.invariant.kept ∙ told);
        },
      );
}
