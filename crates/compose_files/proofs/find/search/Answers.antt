use Rattle.std.proofs.Common.{◌≡◌, ℕ, ap, sym, ◌∙◌, suc, refl, rules, add-one, find, take, subst, Some, None}
use Rattle.compose_files.specs.Built.{is_there}
use Rattle.compose_files.specs.Paths.{joined, wasm_in}
use Rattle.compose_files.specs.Refusals.{candidates}
use Rattle.compose_files.specs.View.{sources}
use Rattle.compose_files.proofs.RefusalSteps.{handed_on, looked}
use Rattle.compose_files.proofs.Searches.{candidate_at, find_here, find_past}
use Rattle.compose_files.proofs.find.search.Goals as goal

pub returns-in_err-is_there-clause-refused : goal.returns-in_err-is_there-clause-refused
returns-in_err-is_there-clause-refused g c =
    let file_is = c.in_ok-file.ensures ∙ ap (wasm_in c.args.name.now) c.as_str-dir.ensures in
    handed_on c.from_residual-in_err-is_there.result c.in_err-is_there.field-0.0 _ c.from_residual-in_err-is_there.ensures.1
    (λ held told. looked (sources c.args.config.now held) c.args.name.now c.in_ok-file.file
    (record { number = 0; there = ap (λ p. Some p) (sym file_is); absent = refl }) c.in_err-is_there.field-0.0 c.in_err-is_there.ensures.refused)

pub returns-in_err-is_there-2-clause-refused : goal.returns-in_err-is_there-2-clause-refused
returns-in_err-is_there-2-clause-refused g c =
    let file_is = c.in_ok-file-2.ensures ∙ ap (wasm_in c.args.name.now) (c.as_str-in-loop-folder.ensures ∙ c.in_ok-folder.ensures ∙ (λ k. joined (c.as_str-dir.ensures k) (c.as_str.ensures k))) in
    handed_on c.from_residual-in_err-is_there-2.result c.in_err-is_there-2.field-0.0 _ c.from_residual-in_err-is_there-2.ensures.1
    (λ held told.
    let s = sources c.args.config.now held in
    looked s c.args.name.now c.in_ok-file-2.file
    (record {
      number = suc c.loop-folder.folder-index;
      there = candidate_at s c.args.name.now c.folder-item.result c.in_ok-file-2.file c.deref-folder-items.result.now c.loop-folder.folder-index c.deref-folder-items.ensures.value c.loop-folder-test.true c.folder-item.is file_is;
      absent = c.loop-folder.invariant.absent held told;
    })
    c.in_err-is_there-2.field-0.0 c.in_err-is_there-2.ensures.refused)

pub returns-then-branch-2-clause-first : goal.returns-then-branch-2-clause-first
returns-then-branch-2-clause-first g c = λ held told.
    let s = sources c.args.config.now held in
    let file_is = c.in_ok-file-2.ensures ∙ ap (wasm_in c.args.name.now) (c.as_str-in-loop-folder.ensures ∙ c.in_ok-folder.ensures ∙ (λ k. joined (c.as_str-dir.ensures k) (c.as_str.ensures k))) in
    sym (find_here (is_there held) (candidates s c.args.name.now) (suc c.loop-folder.folder-index) c.in_ok-file-2.file (c.loop-folder.invariant.absent held told)
    (candidate_at s c.args.name.now c.folder-item.result c.in_ok-file-2.file c.deref-folder-items.result.now c.loop-folder.folder-index c.deref-folder-items.ensures.value c.loop-folder-test.true c.folder-item.is file_is)
    (sym (c.in_ok-is_there-2.ensures.answer held (c.loop-folder.invariant.kept ∙ told)) ∙ c.if-branch-2.true))

pub loop-folder-preserved : goal.loop-folder-preserved
loop-folder-preserved g c = record {
  never_falls = search rules;
  kept = search rules;
  absent = λ held told.
      let s = sources c.args.config.now held in
      let file_is = c.in_ok-file-2.ensures ∙ ap (wasm_in c.args.name.now) (c.as_str-in-loop-folder.ensures ∙ c.in_ok-folder.ensures ∙ (λ k. joined (c.as_str-dir.ensures k) (c.as_str.ensures k))) in
      subst (λ (n : ℕ). find (is_there held) (take (suc n) (candidates s c.args.name.now)) ≡ None) (sym (add-one c.loop-folder.folder-index))
      (find_past (is_there held) (candidates s c.args.name.now) (suc c.loop-folder.folder-index) c.in_ok-file-2.file (c.loop-folder.invariant.absent held told)
      (candidate_at s c.args.name.now c.folder-item.result c.in_ok-file-2.file c.deref-folder-items.result.now c.loop-folder.folder-index c.deref-folder-items.ensures.value c.loop-folder-test.true c.folder-item.is file_is)
      (sym (c.in_ok-is_there-2.ensures.answer held (c.loop-folder.invariant.kept ∙ told)) ∙ c.if-branch-2.false));
}
