use Rattle.std.proofs.Common.{◌==◌, ℕ, List, length, ap, sym, ◌∙◌, subst, Some, option_map, bytes_eq}
use Rattle.std.proofs.lemmas.Result.{IfOk-weaker, IfErr-weaker}
use Rattle.compose_config.specs.View.{path_of}
use Rattle.compose_files.specs.Built.{first_file}
use Rattle.compose_files.specs.Paths.{joined}
use Rattle.compose_files.specs.Refusals.{IsLookRefusal}
use Rattle.compose_files.specs.View.{sources}
use Rattle.compose_files.proofs.Added.{file_named, file_searched}
use Rattle.compose_config.specs.MapLaws.{lookup_mapped}
use Rattle.compose_files.proofs.RefusalSteps.{searched}
use Rattle.compose_files.proofs.find.file_for.Goals as goal

pub returns-in_ok-path-in-Some-clause-found : goal.returns-in_ok-path-in-Some-clause-found
returns-in_ok-path-in-Some-clause-found g c = λ held told.
    let named = lookup_mapped path_of (bytes_eq c.args.name.now) c.args.config.now.dependencies.entries ∙ ap (option_map path_of) (sym c.in-Some.ensures.value) in
    let called = ap (λ (t : List ℕ). length t == 0) (sym c.as_str.ensures) ∙ sym c.is_empty.ensures ∙ c.if-is_empty.false in
    ap (λ p. Some p) (c.in_ok-path-in-Some.ensures ∙ (λ k. joined (c.as_str-in-Some.ensures k) (c.as_str-in-Some-2.ensures k)))
    ∙ sym (file_named (sources c.args.config.now held) c.args.name.now c.in-Some.dependency.now.path called named)

pub returns-in-None-clause-found : goal.returns-in-None-clause-found
returns-in-None-clause-found g c =
    let named = lookup_mapped path_of (bytes_eq c.args.name.now) c.args.config.now.dependencies.entries ∙ ap (option_map path_of) (sym c.in-None.ensures.value) in
    let called = ap (λ (t : List ℕ). length t == 0) (sym c.as_str.ensures) ∙ sym c.is_empty.ensures ∙ c.if-is_empty.false in
    IfOk-weaker c.search.result _ _
    (λ path first held told.
    let s = sources c.args.config.now held in
    first held told ∙ ap (first_file s) c.as_str-in-None.ensures ∙ sym (file_searched s c.args.name.now called named))
    c.search.ensures.first

pub returns-in-None-clause-refused : goal.returns-in-None-clause-refused
returns-in-None-clause-refused g c =
    let named = lookup_mapped path_of (bytes_eq c.args.name.now) c.args.config.now.dependencies.entries ∙ ap (option_map path_of) (sym c.in-None.ensures.value) in
    let called = ap (λ (t : List ℕ). length t == 0) (sym c.as_str.ensures) ∙ sym c.is_empty.ensures ∙ c.if-is_empty.false in
    IfErr-weaker c.search.result _ _
    (λ e refused held told.
    let s = sources c.args.config.now held in
    searched s c.args.name.now (record { called = called; not_named = named }) e (subst (λ (n : List ℕ). IsLookRefusal s n e) c.as_str-in-None.ensures (refused held told)))
    c.search.ensures.refused
