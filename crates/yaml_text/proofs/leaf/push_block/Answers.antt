use Rattle.std.proofs.lemmas.Result.{err_from_is_err_and}
use Rattle.yaml_text.proofs.Fronts.{front_before, writes_after}
use Rattle.yaml_text.proofs.BlockText.{block_is}
use Rattle.yaml_text.proofs.leaf.push_block.Goals as goal

pub returns-in_err-push_line_start : goal.returns-in_err-push_line_start
returns-in_err-push_line_start c =
    let p = err_from_is_err_and c.from_residual-in_err-push_line_start.result c.from_residual-in_err-push_line_start.ensures.1 in
    rw (block_is c.args.level c.args.text.now c.utf8.text c.requires)
    (writes_after c.from_residual-in_err-push_line_start.result _ _ _ _ _ c.in_ok-push_str.ensures.bytes (rw p.1 (front_before _ _ _ _ c.in_err-push_line_start.ensures)))

pub returns : goal.returns
returns c =
    rw (block_is c.args.level c.args.text.now c.utf8.text c.requires)
    (writes_after c.push_block_chars.result _ _ _ _ _ c.in_ok-push_str.ensures.bytes (writes_after c.push_block_chars.result _ _ _ _ _ c.in_ok-push_line_start.ensures c.push_block_chars.ensures))
