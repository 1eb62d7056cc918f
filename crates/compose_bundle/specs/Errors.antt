-- Errors of calls below as errors of bundling.
use Rattle.comp_format.specs.declared.error.EncodeError.{EncodeError}
use Rattle.comp_format.specs.declared.error.EncodeError.TheVariants as encode
use Rattle.comp_shape.specs.declared.error.ShapeError.{ShapeError}
use Rattle.comp_shape.specs.declared.error.ShapeError.TheVariants as shape
use Rattle.compose_bundle.specs.declared.error.BundleError.{BundleError}
use Rattle.compose_bundle.specs.declared.error.BundleError.TheVariants as error

abbrev pub of_encode : EncodeError → BundleError
of_encode (encode.TooLarge n) = error.TooLarge n
of_encode encode.Memory = error.Memory

abbrev pub of_shape : ShapeError → BundleError
of_shape shape.Memory = error.Memory
of_shape e = error.BadComponent e
