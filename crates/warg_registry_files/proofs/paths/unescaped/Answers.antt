-- What an escaped name decodes to is the name.
use Rattle.std.proofs.Common.{◌∷◌, ◌++◌, [], List, ℕ, Some, true≢false, sym, ap, subst, ◌∙◌}
use Rattle.std.specs.Str.{IsUtf8}
use Rattle.std.proofs.lemmas.Slice.Eq.{bytes_eq-Decides}
use Rattle.percent_encoding.specs.Iter.{decoded_bytes}
use Rattle.percent_encoding.specs.Percent.{percent_decode}
use Rattle.warg_registry_files.proofs.BackLaws.{empty_name, name_decodes, text_utf8}
use Rattle.warg_registry_files.proofs.KeyLaws.{differ}
use Rattle.warg_registry_files.proofs.paths.unescaped.Goals as goal

pub returns-then-eq : goal.returns-then-eq
returns-then-eq c = λ name text is.
    let only = (bytes_eq-Decides c.args.folder.now (37 ∷ [])).0 (sym c.eq.ensures ∙ c.if-eq.true) in
    ap Some (c.new.ensures.bytes ∙ sym (empty_name name text (sym is ∙ only)))

pub returns-in-Ok : goal.returns-in-Ok
returns-in-Ok c = λ name text is.
    ap Some
    (ap (λ v. v.items) c.in-Ok.ensures.ok ∙ c.in_ok-append_to.ensures.ok ∙ ap (λ (l : List ℕ). l ++ decoded_bytes c.percent_decode.result) c.new-bytes.ensures.items
    ∙ c.percent_decode.ensures.bytes ∙ ap percent_decode (c.as_bytes.ensures.value ∙ is) ∙ name_decodes name text (λ e. differ c.args.folder.now (37 ∷ []) (sym c.eq.ensures ∙ c.if-eq.false) (is ∙ e)))

pub returns : goal.returns
returns c = λ name text is.
    let all =
    c.in_ok-append_to.ensures.ok ∙ ap (λ (l : List ℕ). l ++ decoded_bytes c.percent_decode.result) c.new-bytes.ensures.items ∙ c.percent_decode.ensures.bytes ∙ ap percent_decode (c.as_bytes.ensures.value ∙ is)
    ∙ name_decodes name text (λ e. differ c.args.folder.now (37 ∷ []) (sym c.eq.ensures ∙ c.if-eq.false) (is ∙ e)) in
    absurd (true≢false (sym (c.in-Err.ensures.succeeds (subst IsUtf8 (sym all) (text_utf8 name text)))))
