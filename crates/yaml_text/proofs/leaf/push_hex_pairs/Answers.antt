use Rattle.std.proofs.lemmas.Result.{err_from_is_err_and}
use Rattle.yaml_text.proofs.Fronts.{front_before}
use Rattle.yaml_text.proofs.leaf.push_hex_pairs.Goals as goal

pub returns-in_err-push_hex_pair : goal.returns-in_err-push_hex_pair
returns-in_err-push_hex_pair c =
    let p = err_from_is_err_and c.from_residual.result c.from_residual.ensures.1 in
    rw p.1 (front_before _ _ _ _ c.in_err-push_hex_pair.ensures)
