-- Which answers are faults.
use Rattle.std.specs.Prelude.{Bool, true, false, Result, Ok, Err}
use Rattle.warg_base.specs.declared.files.FileError.{FileError}
use Rattle.warg_base.specs.declared.files.FileError.TheVariants as file
use Rattle.warg_base.specs.declared.out.OutError.{OutError}
use Rattle.warg_base.specs.declared.out.OutError.TheVariants as out

-- whether a call of files failed
abbrev pub has_file_failed : {X : Type 0} → Result X FileError → Bool
has_file_failed (Ok x) = false
has_file_failed (Err file.Missing) = false
has_file_failed (Err file.Failed) = true
has_file_failed (Err file.Memory) = false

-- whether a call of an output failed
abbrev pub has_out_failed : {X : Type 0} → Result X OutError → Bool
has_out_failed (Ok x) = false
has_out_failed (Err out.Failed) = true
has_out_failed (Err out.Memory) = false
