use Rattle.std.proofs.Common.{◌≡◌, ◌++◌, take}
use Rattle.std.specs.Prelude.{string_bytes}
use Rattle.std.specs.List.{flat_map}
use Rattle.warg_url.specs.Label.{host_byte}
use Rattle.warg_url.proofs.label.push_host_bytes.Given as goal

abbrev pub invariant-loop-b : goal.invariant-loop-b
invariant-loop-b l = string_bytes l.out ≡ string_bytes l.fn.out ++ flat_map host_byte (take l.b-index l.text)
