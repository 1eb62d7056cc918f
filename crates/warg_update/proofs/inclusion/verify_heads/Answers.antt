use Rattle.std.proofs.Common.{List, ℕ, ◌∙◌, subst}
use Rattle.std.proofs.lemmas.Result.{on_ok_weaker, IfErr-weaker}
use Rattle.warg_proof.specs.declared.leaf.LogLeaf.{LogLeaf}
use Rattle.warg_verify.specs.Shown.{Includes}
use Rattle.warg_verify.specs.Faults.{IsInclusionFault}
use Rattle.warg_page.specs.Logs.{indices_of, leafs_of}
use Rattle.warg_page.specs.Views.{logs_view, AreSound}
use Rattle.warg_update.proofs.inclusion.verify_heads.Goals as goal

pub returns-clause-ok : goal.returns-clause-ok
returns-clause-ok c =
    let k = c.args.checkpoint.now in
    let b = c.args.bundles.now in
    let infos = AreSound c.args.operator.now c.args.packages.now in
    let logs = logs_view c.args.operator.now c.args.packages.now in
    let is = c.as_slice-indices.result.now in
    let ls = c.as_slice-leafs.result.now in
    on_ok_weaker {P = Includes k is ls b} {Q = infos → Includes k (indices_of logs) (leafs_of logs) b} c.verify_inclusion.result
    (λ includes s. subst (λ (l : List LogLeaf). Includes k (indices_of logs) l b) (c.as_slice-leafs.ensures.value ∙ c.in-Ok.ensures.leafs s)
    (subst (λ (l : List ℕ). Includes k l ls b) (c.as_slice-indices.ensures.value ∙ c.in-Ok.ensures.indices s) includes))
    c.verify_inclusion.ensures.ok

pub returns-clause-err : goal.returns-clause-err
returns-clause-err c =
    let k = c.args.checkpoint.now in
    let b = c.args.bundles.now in
    let infos = AreSound c.args.operator.now c.args.packages.now in
    let logs = logs_view c.args.operator.now c.args.packages.now in
    let is = c.as_slice-indices.result.now in
    let ls = c.as_slice-leafs.result.now in
    IfErr-weaker c.verify_inclusion.result (λ fault. IsInclusionFault k is ls b fault) (λ fault. infos → IsInclusionFault k (indices_of logs) (leafs_of logs) b fault)
    (λ fault refused s. subst (λ (l : List LogLeaf). IsInclusionFault k (indices_of logs) l b fault) (c.as_slice-leafs.ensures.value ∙ c.in-Ok.ensures.leafs s)
    (subst (λ (l : List ℕ). IsInclusionFault k l ls b fault) (c.as_slice-indices.ensures.value ∙ c.in-Ok.ensures.indices s) refused))
    c.verify_inclusion.ensures.err
