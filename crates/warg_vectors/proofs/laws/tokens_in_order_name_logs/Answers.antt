use Rattle.std.proofs.Common.{refl}
use Rattle.warg_page.specs.Logs.{tokens_of}
use Rattle.warg_vectors.proofs.OrderLaws.{is-listed, was-listed}
use Rattle.warg_vectors.proofs.laws.tokens_in_order_name_logs.Goals as goal

pub returns : goal.returns
returns c w n logs operator packages named distinct = record {
  operator_begins = operator;
  packages_begin = packages;
  operator_token = refl;
  package_tokens = λ a. (is-listed (tokens_of logs.packages) a named distinct, was-listed (tokens_of logs.packages) a named distinct);
}
