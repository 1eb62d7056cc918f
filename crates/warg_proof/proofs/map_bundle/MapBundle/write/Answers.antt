use Rattle.std.proofs.Common.{◌∷◌, ◌++◌, [], ℕ, List, ap, ◌∙◌}
use Rattle.warg_proof.specs.LogProofs.{counted}
use Rattle.warg_proof.specs.MapProofs.{path_text, map_text}
use Rattle.warg_proof.specs.declared.map_bundle.SiblingPath.{SiblingPath}
use Rattle.warg_proof.proofs.MapVerdicts.{seen}
use Rattle.warg_proof.proofs.WrittenLaws.{counted_seen}
use Rattle.warg_proof.proofs.map_bundle.MapBundle.write.Goals as goal

pub returns : goal.returns
returns c =
    let text : SiblingPath → List ℕ = λ path. path_text (seen path) in
    c.in_ok-push_counted.ensures
    ∙ ap (λ (b : List ℕ). b ++ counted text c.args.paths.now) (c.in_ok-push.ensures.items ∙ ap (λ (b : List ℕ). b ++ 0 ∷ []) c.new-bytes.ensures.items)
    ∙ ap (λ (t : List ℕ). 0 ∷ t) (counted_seen seen path_text c.args.paths.now)
