use Rattle.std.proofs.Common.{◌≡◌, ◌∙◌, Some, IfSome, subst, sym}
use Rattle.std.proofs.lemmas.Option.{same_Some}
use Rattle.std.specs.Str.{IsUtf8}
use Rattle.warg_base.specs.Files.{file_at}
use Rattle.compose_config.specs.Plan.{settings_at, settings_node}
use Rattle.yaml_read.specs.Answers.{ReadFails}
use Rattle.yaml_read.specs.Whole.{Holds, whole_at}
use Rattle.compose_files.proofs.ReadLaws.{refused_short, refused_text}
use Rattle.compose_files.proofs.from_file.read_config.Goals as goal

pub returns-in-Err-from_text-clause-only : goal.returns-in-Err-from_text-clause-only
returns-in-Err-from_text-clause-only g c = λ held told settings says.
    let there : file_at held c.args.path.now ≡ Some c.in-Ok.bytes.items = subst (λ t. IfSome t (λ files. file_at files c.args.path.now ≡ Some c.in-Ok.bytes.items)) told c.in-Ok.ensures.found in
    let same : says.text ≡ c.in-Ok-from_utf8.text.now = same_Some says.text c.in-Ok.bytes.items (sym says.found ∙ there) ∙ sym (c.in-Ok-from_utf8.ensures.cases.0 ∙ c.deref.ensures.value) in
    rw (c.refused.ensures) (refused_short c.in-Err-from_text.error settings (c.in-Err-from_text.ensures.only settings (subst (λ t. Holds settings_node t settings) same says.holds)))

pub returns-in-Err-from_text-clause-refused : goal.returns-in-Err-from_text-clause-refused
returns-in-Err-from_text-clause-refused g c = λ held told.
    let there : file_at held c.args.path.now ≡ Some c.in-Ok.bytes.items = subst (λ t. IfSome t (λ files. file_at files c.args.path.now ≡ Some c.in-Ok.bytes.items)) told c.in-Ok.ensures.found in
    let same : c.in-Ok-from_utf8.text.now ≡ c.in-Ok.bytes.items = c.in-Ok-from_utf8.ensures.cases.0 ∙ c.deref.ensures.value in
    let is_text : IsUtf8 c.in-Ok.bytes.items = subst IsUtf8 c.deref.ensures.value c.in-Ok-from_utf8.ensures.cases.1 in
    rw (c.refused.ensures) (refused_text held c.args.path.now c.in-Ok.bytes.items c.in-Err-from_text.error there is_text (subst (λ t. ReadFails c.in-Err-from_text.error (whole_at settings_at t)) same c.in-Err-from_text.ensures.exact))
