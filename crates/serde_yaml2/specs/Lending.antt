-- What a serializer is where the serializer of a list or map was refused.
use Rattle.std.specs.Prelude.{Result, List, ℕ}
use Rattle.std.specs.Borrow.{RestsIfErr, MutBor, Fml}
use Rattle.serde_yaml2.specs.declared.error.Errors.{Errors}
use Rattle.serde_yaml2.specs.declared.serializer.YamlSerializer.{YamlSerializer}
use Rattle.serde_yaml2.specs.declared.collection.SequenceSerializer.{SequenceSerializer}
use Rattle.serde_yaml2.specs.declared.collection.MapSerializer.{MapSerializer}
use Rattle.serde_yaml2.specs.contracts.serializer.YamlSerializer.{the_row}
use Rattle.serde_yaml2.specs.Output.{output_of, list_name, map_name, IsCut}

-- Where no list was begun, a front of a piece was appended.
abbrev pub ListRests : MutBor YamlSerializer → List ℕ → Result SequenceSerializer Errors → Fml
ListRests ser piece result = RestsIfErr the_row ser list_name result (λ last. IsCut (output_of ser.now) piece (output_of last))

-- the same for a map
abbrev pub MapRests : MutBor YamlSerializer → List ℕ → Result MapSerializer Errors → Fml
MapRests ser piece result = RestsIfErr the_row ser map_name result (λ last. IsCut (output_of ser.now) piece (output_of last))
