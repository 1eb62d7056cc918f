-- The length of a log, as a checkpoint in JSON tells it.
use Rattle.std.specs.Prelude.{ℕ, Ok}
use Rattle.serde_json.specs.Data.{Data}
use Rattle.warg_values.specs.Reading.{◌>>=◌}
use Rattle.warg_exchange.specs.Body.{Meaning}
use Rattle.warg_exchange.specs.Replies.{checkpoint_in}

abbrev pub length_in : Data → Meaning ℕ
length_in d = checkpoint_in d >>= λ c. Ok c.contents.log_length
