-- what is read of the values that are left, behind the texts so far, is what is meant
use Rattle.std.proofs.Common.{◌≡◌, bytes_eq, drop}
use Rattle.std.specs.Prelude.{Ok}
use Rattle.indexmap.specs.IndexSet.{insert_all}
use Rattle.serde_json.specs.View.{items_view}
use Rattle.warg_values.specs.Reading.{◌>>=◌}
use Rattle.warg_config.specs.Settings.{distinct_texts, texts_in}
use Rattle.warg_config.proofs.reading.texts_of.Given as goal

abbrev pub invariant-loop-value : goal.invariant-loop-value
invariant-loop-value l =
    (texts_in (items_view (drop l.value-index l.values)) >>= λ texts. Ok (insert_all bytes_eq l.texts.keys texts))
    ≡ distinct_texts (items_view l.values)
