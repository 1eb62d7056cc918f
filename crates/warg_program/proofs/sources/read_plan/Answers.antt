use Rattle.std.proofs.Common.{◌≡◌, Some, IfSome, subst, sym}
use Rattle.std.proofs.lemmas.Str.{IsUtf8-string_bytes}
use Rattle.warg_base.specs.Files.{file_at}
use Rattle.warg_program.proofs.sources.read_plan.Goals as goal

pub returns-in-Ok-clause-found : goal.returns-in-Ok-clause-found
returns-in-Ok-clause-found g c = record {
  there = subst (λ v. IfSome (g.F.Files.told c.args.files.now) (λ files. file_at files c.args.path.now ≡ Some v.items)) (sym c.in-Ok.ensures.ok) c.in_ok-bytes.ensures.found;
  is_text = IsUtf8-string_bytes c.in-Ok.text;
}
