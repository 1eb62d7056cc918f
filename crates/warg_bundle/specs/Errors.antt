-- What the errors of parts are told as.
use Rattle.comp_shape.specs.declared.error.ShapeError.{ShapeError}
use Rattle.comp_shape.specs.declared.error.ShapeError.TheVariants as shape
use Rattle.warg_bundle.specs.declared.error.BundleError.{BundleError}
use Rattle.warg_bundle.specs.declared.error.BundleError.TheVariants as told

abbrev pub of_shape : {E : Type 0} → ShapeError → BundleError E
of_shape shape.Memory = told.Memory
of_shape e = told.BadComponent e
