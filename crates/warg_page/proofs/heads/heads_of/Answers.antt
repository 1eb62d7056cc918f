use Rattle.std.proofs.Common.{◌≡◌, ◌++◌, ◌∷◌, [], ◌+◌, List, ℕ, take, map, rules, sym, ◌∙◌, ap, subst}
use Rattle.std.proofs.lemmas.List.{take_more, map_push}
use Rattle.std.specs.List.{filter_map}
use Rattle.warg_hash.specs.Hash.{package_log_id}
use Rattle.warg_proof.specs.declared.leaf.LogLeaf.{LogLeaf}
use Rattle.warg_info.specs.Kept.{Kept}
use Rattle.warg_info.specs.Info.{operator_log, package_log, IsSoundPackage}
use Rattle.warg_page.specs.Logs.{indices_of, leafs_of, index_in, leaf_in, head_in}
use Rattle.warg_page.specs.Views.{AreSound, package_view}
use Rattle.warg_page.proofs.HeadLaws.{indices-push, leafs-push}
use Rattle.warg_page.proofs.heads.heads_of.Goals as goal

pub loop-package-preserved : goal.loop-package-preserved
loop-package-preserved c =
    let i = c.loop-package.package-index in
    let ps = c.args.packages.now in
    let p = c.package-item.result in
    let log = operator_log c.args.operator.now in
    let before = map package_view (take i ps) in
    let more : map package_view (take (i + 1) ps) ≡ before ++ package_view p ∷ [] =
    ap (map package_view) (search (rules, take_more)) ∙ map_push package_view (take i ps) p in
    let sound_one : AreSound c.args.operator.now ps → IsSoundPackage p = λ s. subst IsSoundPackage (sym c.package-item.is) (s.packages i p c.loop-package-test.true) in
    let one : List ℕ → List (List ℕ × Kept) = λ id. filter_map head_in ((id, package_log p) ∷ []) in
    record {
      indices = λ s. c.in_ok-push-2.ensures.indices (sound_one s)
          ∙ ap (λ (id : List ℕ). c.loop-package.heads.indices.items ++ map index_in (one id)) c.package_log.ensures
          ∙ ap (λ (l : List ℕ). l ++ map index_in (one (package_log_id p.name))) (c.loop-package.invariant.indices s)
          ∙ sym (indices-push log before (package_view p)) ∙ ap (λ (l : List (List ℕ × List Kept)). indices_of (record { operator = log; packages = l })) (sym more);
      leafs = λ s. c.in_ok-push-2.ensures.leafs (sound_one s)
          ∙ ap (λ (id : List ℕ). c.loop-package.heads.leafs.items ++ map leaf_in (one id)) c.package_log.ensures
          ∙ ap (λ (l : List LogLeaf). l ++ map leaf_in (one (package_log_id p.name))) (c.loop-package.invariant.leafs s)
          ∙ sym (leafs-push log before (package_view p)) ∙ ap (λ (l : List (List ℕ × List Kept)). leafs_of (record { operator = log; packages = l })) (sym more);
    }
