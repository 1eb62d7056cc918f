-- A package is read whose log has the id.
use Rattle.std.proofs.Common.{sym, ◌∙◌}
use Rattle.std.proofs.lemmas.Slice.Eq.{bytes_eq-Decides}
use Rattle.warg_store.specs.Held.{package_info}
use Rattle.warg_registry_files.proofs.NamedLaws.{named_front, named_other, named_with}
use Rattle.warg_registry_files.proofs.storage.read_with_id.Goals as goal

pub returns-in_default-clause-found : goal.returns-in_default-clause-found
returns-in_default-clause-found c = sym (named_front c.args.id.now c.args.bytes.now (sym (rw c.in_default.is at c.in_ok-info.ensures.found)))

pub returns-then-has_id-clause-found : goal.returns-then-has_id-clause-found
returns-then-has_id-clause-found c =
    let info = c.in-Some.info in
    named_with c.args.id.now info.name c.args.bytes.now (package_info info) (sym (rw c.in-Some.is at c.in_ok-info.ensures.found)) ((bytes_eq-Decides _ _).0 (sym c.has_id.ensures ∙ c.if-has_id.true))

pub returns-then-has_id-clause-id : goal.returns-then-has_id-clause-id
returns-then-has_id-clause-id c = sym ((bytes_eq-Decides _ _).0 (sym c.has_id.ensures ∙ c.if-has_id.true))

pub returns-clause-found : goal.returns-clause-found
returns-clause-found c =
    let info = c.in-Some.info in
    sym (named_other c.args.id.now info.name c.args.bytes.now (package_info info) (sym (rw c.in-Some.is at c.in_ok-info.ensures.found)) (sym c.has_id.ensures ∙ c.if-has_id.false))
