use Rattle.std.proofs.Common.{length}
use Rattle.test_types.proofs.form.+are_labelled.Given as goal

abbrev pub decreases-are_labelled : goal.decreases-are_labelled
decreases-are_labelled g l = length l.entries.now
