use Rattle.warg_proof.proofs.Verdicts.{consistency-ok, consistency-wrong_count, consistency-wrong_length, consistency-missing_hash, consistency-other_root, consistency-judged}
use Rattle.warg_proof.proofs.log_bundle.LogBundle.consistency.Goals as goal

pub returns-clause-ok : goal.returns-clause-ok
returns-clause-ok c = consistency-ok c.args.self.now c.judge_consistency.ensures.formed c.args.from c.args.to c.args.from_root.now c.args.to_root.now c.judge_consistency.result c.judge_consistency.ensures.verdict

pub returns-clause-wrong_count : goal.returns-clause-wrong_count
returns-clause-wrong_count c = consistency-wrong_count c.args.self.now c.judge_consistency.ensures.formed c.args.from c.args.to c.args.from_root.now c.args.to_root.now c.judge_consistency.result c.judge_consistency.ensures.verdict

pub returns-clause-wrong_length : goal.returns-clause-wrong_length
returns-clause-wrong_length c = consistency-wrong_length c.args.self.now c.judge_consistency.ensures.formed c.args.from c.args.to c.args.from_root.now c.args.to_root.now c.judge_consistency.result c.judge_consistency.ensures.verdict

pub returns-clause-missing_hash : goal.returns-clause-missing_hash
returns-clause-missing_hash c = consistency-missing_hash c.args.self.now c.judge_consistency.ensures.formed c.args.from c.args.to c.args.from_root.now c.args.to_root.now c.judge_consistency.result c.judge_consistency.ensures.verdict

pub returns-clause-other_root : goal.returns-clause-other_root
returns-clause-other_root c = consistency-other_root c.args.self.now c.judge_consistency.ensures.formed c.args.from c.args.to c.args.from_root.now c.args.to_root.now c.judge_consistency.result c.judge_consistency.ensures.verdict

pub returns-clause-judged : goal.returns-clause-judged
returns-clause-judged c = consistency-judged c.args.self.now c.judge_consistency.ensures.formed c.args.from c.args.to c.args.from_root.now c.args.to_root.now c.judge_consistency.result c.judge_consistency.ensures.verdict
