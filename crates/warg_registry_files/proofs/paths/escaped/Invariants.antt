-- what is written, with what is left, is the whole
use Rattle.std.proofs.Common.{◌≡◌, ◌++◌, true, drop}
use Rattle.std.specs.Prelude.{string_bytes}
use Rattle.warg_registry_files.specs.Paths.{escaped_bytes}
use Rattle.warg_registry_files.proofs.paths.escaped.Given as goal

abbrev pub invariant-loop-byte : goal.invariant-loop-byte
invariant-loop-byte l =
    string_bytes l.name ++ escaped_bytes l.first (drop l.byte-index l.byte-items) ≡ escaped_bytes true l.byte-items
