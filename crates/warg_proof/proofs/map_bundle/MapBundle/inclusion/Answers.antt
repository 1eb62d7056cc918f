use Rattle.warg_proof.proofs.MapVerdicts.{map-ok, map-wrong_count, map-other_root, map-judged}
use Rattle.warg_proof.proofs.map_bundle.MapBundle.inclusion.Goals as goal

pub returns-clause-ok : goal.returns-clause-ok
returns-clause-ok c = map-ok c.args.self.now c.judge_inclusion.ensures.formed c.args.at c.args.log_id.now c.args.value.now c.args.root.now c.judge_inclusion.result c.judge_inclusion.ensures.verdict

pub returns-clause-wrong_count : goal.returns-clause-wrong_count
returns-clause-wrong_count c = map-wrong_count c.args.self.now c.judge_inclusion.ensures.formed c.args.at c.args.log_id.now c.args.value.now c.args.root.now c.judge_inclusion.result c.judge_inclusion.ensures.verdict

pub returns-clause-other_root : goal.returns-clause-other_root
returns-clause-other_root c = map-other_root c.args.self.now c.judge_inclusion.ensures.formed c.args.at c.args.log_id.now c.args.value.now c.args.root.now c.judge_inclusion.result c.judge_inclusion.ensures.verdict

pub returns-clause-judged : goal.returns-clause-judged
returns-clause-judged c = map-judged c.args.self.now c.judge_inclusion.ensures.formed c.args.at c.args.log_id.now c.args.value.now c.args.root.now c.judge_inclusion.result c.judge_inclusion.ensures.verdict
