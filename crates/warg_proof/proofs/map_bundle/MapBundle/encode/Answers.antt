use Rattle.std.proofs.Common.{List, map, ap, ◌∙◌}
use Rattle.std.proofs.lemmas.Result.{IfOk-weaker}
use Rattle.std.specs.Prelude.{ℕ, ◌≡◌}
use Rattle.warg_proof.specs.MapProofs.{MapPath, map_text}
use Rattle.warg_proof.specs.declared.map_bundle.SiblingPath.{SiblingPath}
use Rattle.warg_proof.proofs.MapVerdicts.{seen}
use Rattle.warg_proof.proofs.map_bundle.MapBundle.encode.Goals as goal

pub returns : goal.returns
returns c = IfOk-weaker c.write.result _ _
    (λ bytes e. e ∙ ap (λ (ps : List SiblingPath). map_text (map seen ps)) c.as_slice.ensures.value ∙ ap map_text c.self.view_is)
    c.write.ensures
