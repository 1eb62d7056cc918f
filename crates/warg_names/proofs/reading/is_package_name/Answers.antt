use Rattle.std.proofs.Common.{sym, ap, Err, ◌∙◌}
use Rattle.std.proofs.lemmas.Bool.{false_from_ne_true}
use Rattle.warg_hash.specs.NameLaws.{is_package_name-name, is_package_name-complete}
use Rattle.warg_names.proofs.reading.is_package_name.Goals.{in-Ok, in-Err-Form, in-Err-Memory}
use Rattle.warg_names.proofs.reading.is_package_name.Goals as goal

pub returns : goal.returns
returns c = elim c.match-new.branch [
  | in-Ok w ↦ rw w.result-is (sym (is_package_name-complete c.args.text.now w.in-Ok.ensures.ok.1))
  | in-Err-Form w ↦ rw w.result-is (sym (false_from_ne_true _ (λ t.
      c.new.ensures.form (w.in-Err-Form.is ∙ ap (λ e. Err e) w.in-Err-Form.field-0-is) (is_package_name-name c.args.text.now t))))
  | in-Err-Memory w ↦ rw w.result-is tt
]
