use Rattle.std.proofs.Common.{IfErr, string_bytes, subst, sym}
use Rattle.std.specs.Prelude.{option_map}
use Rattle.warg_program.specs.Delivery.{IsUndelivered}
use Rattle.warg_program.specs.World.{seen_files, seen_output, world}
use Rattle.warg_program.proofs.delivery.deliver.Goals as goal

pub returns-in-None-clause-stopped : goal.returns-in-None-clause-stopped
returns-in-None-clause-stopped g c =
    let files = seen_files (g.F.Files.told c.args.files.now) (g.F.Files.faults c.args.files.now) in
    let before = world files (seen_output (g.O.Out.told c.args.output.now) (g.O.Out.faults c.args.output.now)) in
    let after = world files (seen_output (g.O.Out.told c.tell.new.output) (g.O.Out.faults c.tell.new.output)) in
    subst (λ out. IfErr c.tell.result (λ stop. IsUndelivered stop (option_map (λ path. path.now) out) c.args.made.now.bytes.items (string_bytes c.args.made.now.lines) before after)) (sym c.in-None.is) (c.tell.ensures.stopped files)
