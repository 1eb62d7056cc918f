use Rattle.std.proofs.Common.{sym, ap, ◌∙◌}
use Rattle.std.specs.Str.{is_utf8}
use Rattle.std.proofs.lemmas.Str.{is_utf8-from_IsUtf8}
use Rattle.warg_registry_files.specs.Paths.{are_bytes}
use Rattle.warg_registry_files.proofs.BackLaws.{both}
use Rattle.warg_registry_files.proofs.paths.are_text.Goals as goal

pub returns : goal.returns
returns c =
    both (are_bytes c.args.text.now) (is_utf8 c.args.text.now) (ap are_bytes (sym c.as_bytes.ensures.value) ∙ c.are_bytes.ensures) (is_utf8-from_IsUtf8 c.args.text.now c.utf8.text)
