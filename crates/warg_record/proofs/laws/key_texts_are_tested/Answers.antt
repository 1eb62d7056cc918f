use Rattle.warg_record.specs.KeyLaws.{is_key_text-sound, is_key_text-complete}
use Rattle.warg_record.proofs.laws.key_texts_are_tested.Goals as goal

pub returns : goal.returns
returns c = λ text is_text. (is_key_text-sound text is_text, is_key_text-complete text)
