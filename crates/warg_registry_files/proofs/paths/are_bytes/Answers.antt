use Rattle.std.proofs.Common.{arith}
use Rattle.warg_registry_files.proofs.FolderLaws.{bytes_pass}
use Rattle.warg_registry_files.proofs.paths.are_bytes.Goals as goal

pub returns : goal.returns
returns c = bytes_pass c.args.bytes.now (λ i. omega (arith, c.type_inv.bytes i))
