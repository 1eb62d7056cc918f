use Rattle.std.proofs.Common.{[], ◌∷◌, ◌++◌, ℕ, List, Bor, sym, ap, subst, ◌∙◌}
use Rattle.std.proofs.lemmas.Result.{err_from_is_err_and}
use Rattle.comp_format.specs.Vectors.{labelled_at}
use Rattle.comp_reader.specs.Refusal.{Fails}
use Rattle.comp_reader.proofs.LabelLaws.{begins, goes_on, no_label, again, no_value, is_done}
use Rattle.comp_reader.proofs.TextSets.{no_texts, more_texts, was_there, was_missing}
use Rattle.comp_reader.proofs.read.labelled_many_of.Goals as goal

pub returns-in_err-label : goal.returns-in_err-label
returns-in_err-label g c =
    let p = err_from_is_err_and c.from_residual.result c.from_residual.ensures.1 in
    rw (p.1, p.2) (no_label g.T.Labelled.behind_at c.in_err-label.field-0.0 c.loop.values.items c.loop.invariant.0 c.args.count c.loop.counter c.loop.rest.now (labelled_at g.T.Labelled.behind_at [] c.args.count c.args.bytes.now) c.loop-test.true c.in_err-label.ensures c.loop.invariant.2)

pub returns-then-not-added : goal.returns-then-not-added
returns-then-not-added g c =
    let old = was_there (λ (label : Bor (List ℕ)). label.now) c.loop.invariant.0 c.loop.seen c.in_ok-label.label c.in_ok-added.added c.loop.invariant.1 c.in_ok-added.ensures.added c.if-not-added.true in
    again g.T.Labelled.behind_at c.loop.values.items c.loop.invariant.0 c.args.count c.loop.counter c.loop.rest.now c.in_ok-label.label.now c.in_ok-label.behind.now (labelled_at g.T.Labelled.behind_at [] c.args.count c.args.bytes.now) c.loop-test.true c.in_ok-label.ensures old c.loop.invariant.2

pub returns-in_err-value : goal.returns-in_err-value
returns-in_err-value g c =
    let p = err_from_is_err_and c.from_residual-in_err-value.result c.from_residual-in_err-value.ensures.1 in
    let new = was_missing (λ (label : Bor (List ℕ)). label.now) c.loop.invariant.0 c.loop.seen c.in_ok-label.label c.in_ok-added.added c.loop.invariant.1 c.in_ok-added.ensures.added c.if-not-added.false in
    let failed = subst (λ (l : List ℕ). Fails c.in_err-value.field-0.0 (g.T.Labelled.behind_at l c.in_ok-label.behind.now)) c.in_ok-label-2.ensures c.in_err-value.ensures in
    rw (p.1, p.2) (no_value g.T.Labelled.behind_at c.in_err-value.field-0.0 c.loop.values.items c.loop.invariant.0 c.args.count c.loop.counter c.loop.rest.now c.in_ok-label.label.now c.in_ok-label.behind.now (labelled_at g.T.Labelled.behind_at [] c.args.count c.args.bytes.now) c.loop-test.true c.in_ok-label.ensures new failed c.loop.invariant.2)

pub loop-preserved : goal.loop-preserved
loop-preserved g c =
    let new = was_missing (λ (label : Bor (List ℕ)). label.now) c.loop.invariant.0 c.loop.seen c.in_ok-label.label c.in_ok-added.added c.loop.invariant.1 c.in_ok-added.ensures.added c.if-not-added.false in
    let read = ap (λ (l : List ℕ). g.T.Labelled.behind_at l c.in_ok-label.behind.now) (sym c.in_ok-label-2.ensures) ∙ c.in_ok-value.ensures in (
      c.loop.invariant.0 ++ c.in_ok-label.label.now ∷ [],
      more_texts (λ (label : Bor (List ℕ)). label.now) c.loop.invariant.0 c.loop.seen c.insert.new.self c.in_ok-label.label c.loop.invariant.1 c.in_ok-added.ensures.updates,
      rw c.in_ok-push.ensures.items (goes_on g.T.Labelled.behind_at c.loop.values.items c.loop.invariant.0 c.args.count c.loop.counter c.loop.rest.now c.in_ok-label.label.now c.in_ok-label.behind.now c.in_ok-value.value c.in_ok-value.after.now (labelled_at g.T.Labelled.behind_at [] c.args.count c.args.bytes.now) c.loop-test.true c.in_ok-label.ensures new read c.loop.invariant.2),
    )

pub loop-init : goal.loop-init
loop-init g c = (
  [],
  no_texts (λ (label : Bor (List ℕ)). label.now) c.new-seen.result c.new-seen.ensures.empty,
  begins g.T.Labelled.behind_at c.new-values.result.items c.args.count c.args.bytes.now c.new-values.ensures.items,
)

pub returns : goal.returns
returns g c = is_done g.T.Labelled.behind_at c.loop.values.items c.loop.invariant.0 c.args.count c.loop.counter c.loop.rest.now (labelled_at g.T.Labelled.behind_at [] c.args.count c.args.bytes.now) c.loop-test.false c.loop.invariant.2
