-- The registry that a folder's name may be of is tried.
use Rattle.std.proofs.Common.{List, ℕ, Some, None, refl, sym, ap, ◌∙◌}
use Rattle.std.specs.Prelude.{bytes_eq, string_bytes}
use Rattle.std.proofs.lemmas.Slice.Eq.{bytes_eq-Decides}
use Rattle.warg_registry_files.specs.Paths.{folder_name}
use Rattle.warg_registry_files.proofs.BackLaws.{no_registry, none_some}
use Rattle.warg_registry_files.proofs.KeyLaws.{differ}
use Rattle.warg_registry_files.proofs.paths.Place.registry_of.Goals as goal

pub returns-then-eq : goal.returns-then-eq
returns-then-eq c = (refl, (bytes_eq-Decides c.args.folder.now c.as_str.result.now).0 (sym c.eq.ensures ∙ c.if-eq.true) ∙ c.as_str.ensures)

pub returns-in_default : goal.returns-in_default
returns-in_default c =
    no_registry c.args.self.now.own c.args.folder.now c.without_mark.result.now None (ap (bytes_eq c.args.folder.now) (sym c.as_str.ensures) ∙ sym c.eq.ensures ∙ c.if-eq.false) c.without_mark.ensures
    (rw c.in_default.is at c.in_ok-name.ensures) (λ name is e. none_some name is)

pub returns-then-eq-2 : goal.returns-then-eq-2
returns-then-eq-2 c = (c.in_ok-known.ensures.named, sym ((bytes_eq-Decides c.as_str-2.result.now c.args.folder.now).0 (sym c.eq-2.ensures ∙ c.if-eq-2.true)) ∙ c.as_str-2.ensures.value ∙ c.in_ok-known.ensures.name)

pub returns : goal.returns
returns c =
    no_registry c.args.self.now.own c.args.folder.now c.without_mark.result.now (Some (string_bytes c.in-Some.name)) (ap (bytes_eq c.args.folder.now) (sym c.as_str.ensures) ∙ sym c.eq.ensures ∙ c.if-eq.false) c.without_mark.ensures
    (rw c.in-Some.is at c.in_ok-name.ensures)
    (λ name is e. differ c.as_str-2.result.now c.args.folder.now (sym c.eq-2.ensures ∙ c.if-eq-2.false) (c.as_str-2.ensures.value ∙ c.in_ok-known.ensures.name ∙ ap (λ (n : List ℕ). folder_name c.args.self.now.own (Some n)) (c.new-registry.ensures ∙ c.new.ensures) ∙ ap (folder_name c.args.self.now.own) is ∙ sym e))
