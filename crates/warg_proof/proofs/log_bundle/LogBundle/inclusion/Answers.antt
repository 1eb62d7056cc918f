use Rattle.warg_proof.proofs.Verdicts.{inclusion-ok, inclusion-wrong_count, inclusion-wrong_length, inclusion-wrong_leaf, inclusion-missing_hash, inclusion-other_root, inclusion-judged}
use Rattle.warg_proof.proofs.log_bundle.LogBundle.inclusion.Goals as goal

pub returns-clause-ok : goal.returns-clause-ok
returns-clause-ok c = inclusion-ok c.args.self.now c.judge_inclusion.ensures.formed c.args.at c.args.length c.args.index c.args.entry.now c.args.root.now c.judge_inclusion.result c.judge_inclusion.ensures.verdict

pub returns-clause-wrong_count : goal.returns-clause-wrong_count
returns-clause-wrong_count c = inclusion-wrong_count c.args.self.now c.judge_inclusion.ensures.formed c.args.at c.args.length c.args.index c.args.entry.now c.args.root.now c.judge_inclusion.result c.judge_inclusion.ensures.verdict

pub returns-clause-wrong_length : goal.returns-clause-wrong_length
returns-clause-wrong_length c = inclusion-wrong_length c.args.self.now c.judge_inclusion.ensures.formed c.args.at c.args.length c.args.index c.args.entry.now c.args.root.now c.judge_inclusion.result c.judge_inclusion.ensures.verdict

pub returns-clause-wrong_leaf : goal.returns-clause-wrong_leaf
returns-clause-wrong_leaf c = inclusion-wrong_leaf c.args.self.now c.judge_inclusion.ensures.formed c.args.at c.args.length c.args.index c.args.entry.now c.args.root.now c.judge_inclusion.result c.judge_inclusion.ensures.verdict

pub returns-clause-missing_hash : goal.returns-clause-missing_hash
returns-clause-missing_hash c = inclusion-missing_hash c.args.self.now c.judge_inclusion.ensures.formed c.args.at c.args.length c.args.index c.args.entry.now c.args.root.now c.judge_inclusion.result c.judge_inclusion.ensures.verdict

pub returns-clause-other_root : goal.returns-clause-other_root
returns-clause-other_root c = inclusion-other_root c.args.self.now c.judge_inclusion.ensures.formed c.args.at c.args.length c.args.index c.args.entry.now c.args.root.now c.judge_inclusion.result c.judge_inclusion.ensures.verdict

pub returns-clause-judged : goal.returns-clause-judged
returns-clause-judged c = inclusion-judged c.args.self.now c.judge_inclusion.ensures.formed c.args.at c.args.length c.args.index c.args.entry.now c.args.root.now c.judge_inclusion.result c.judge_inclusion.ensures.verdict
