-- Errors of calls below as errors of encoding.
use Rattle.comp_format.specs.declared.error.EncodeError.{EncodeError}
use Rattle.comp_format.specs.declared.error.EncodeError.TheVariants as encode
use Rattle.compose_check.specs.declared.error.CheckError.{CheckError}
use Rattle.compose_check.specs.declared.error.CheckError.TheVariants as check
use Rattle.compose_encode.specs.declared.refused.CompositionError.{CompositionError}
use Rattle.compose_encode.specs.declared.refused.CompositionError.TheVariants as error

abbrev pub as_composition : EncodeError → CompositionError
as_composition (encode.TooLarge n) = error.TooLarge n
as_composition encode.Memory = error.Memory

abbrev pub of_check : CheckError → CompositionError
of_check check.Memory = error.Memory
of_check e = error.Refused e
