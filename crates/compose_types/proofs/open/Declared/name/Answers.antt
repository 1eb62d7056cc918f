use Rattle.std.specs.Prelude.{[]}
use Rattle.compose_types.proofs.RefusalLaws.{told}
use Rattle.std.proofs.Common.{◌≡◌, ◌≤◌, sym, ap, subst, ◌∙◌}
use Rattle.compose_writing.specs.WriteEntities.{counted}
use Rattle.compose_types.specs.Scopes.{with_names, item_of}
use Rattle.compose_types.proofs.open.Declared.name.Goals.{in-Imports+in_ok-import-in-Imports, in-Exports+in_ok-export-in-Exports}
use Rattle.compose_writing.specs.Scopes.{WrittenScope}
use Rattle.compose_writing.specs.Scopes.{declared as declare}
use Rattle.compose_types.specs.Largest.{scope_size}
use Rattle.compose_types.proofs.open.Declared.name.Goals as goal

pub returns-clause-named : goal.returns-clause-named
returns-clause-named c = λ width known.
    elim c.match-side.branch [
      | in-Imports+in_ok-import-in-Imports w ↦
          rw w.in-Imports.is (ap (λ ds. counted c.args.ty (record (with_names width known c.args.self.now) { decls = ds })) (sym w.in_ok-import-in-Imports.ensures.added))
          ∙ ap (λ d. counted c.args.ty (with_names width known d)) (sym w.self-is) ∙ c.in_ok-count.ensures.counted width known
      | in-Exports+in_ok-export-in-Exports w ↦
          rw w.in-Exports.is (ap (λ ds. counted c.args.ty (record (with_names width known c.args.self.now) { decls = ds })) (sym w.in_ok-export-in-Exports.ensures.added))
          ∙ ap (λ d. counted c.args.ty (with_names width known d)) (sym w.self-is) ∙ c.in_ok-count.ensures.counted width known
    ]

pub returns-in_err-count-clause-too_large : goal.returns-in_err-count-clause-too_large
returns-in_err-count-clause-too_large c = λ n e.
    (c.in_err-count.ensures.too_large 0 [] n (told c.from_residual-in_err-count.result _ n c.from_residual-in_err-count.ensures.1 e)).large

pub returns-in_err-count-clause-among : goal.returns-in_err-count-clause-among
returns-in_err-count-clause-among c = λ width known n e.
    let among = (c.in_err-count.ensures.too_large width known n (told c.from_residual-in_err-count.result _ n c.from_residual-in_err-count.ensures.1 e)).among in
    let named = counted c.args.ty (declare (item_of c.args.side c.args.name.now c.args.ty) (with_names width known c.args.self.now)) in
    let same : named ≡ counted c.args.ty (with_names width known c.match-side.self) = elim c.match-side.branch [
      | in-Imports+in_ok-import-in-Imports w ↦
          (rw w.in-Imports.is (ap (λ ds. counted c.args.ty (record (with_names width known c.args.self.now) { decls = ds })) (sym w.in_ok-import-in-Imports.ensures.added))
          ∙ ap (λ d. counted c.args.ty (with_names width known d)) (sym w.self-is))
      | in-Exports+in_ok-export-in-Exports w ↦
          (rw w.in-Exports.is (ap (λ ds. counted c.args.ty (record (with_names width known c.args.self.now) { decls = ds })) (sym w.in_ok-export-in-Exports.ensures.added))
          ∙ ap (λ d. counted c.args.ty (with_names width known d)) (sym w.self-is))
    ] in
    subst (λ (m : WrittenScope). n ≤ scope_size m) (sym same) among

pub import-requires-clause-kind : goal.import-requires-clause-kind
import-requires-clause-kind c = rw c.in-Imports.is at c.requires.kind

pub export-requires-clause-kind : goal.export-requires-clause-kind
export-requires-clause-kind c = rw c.in-Exports.is at c.requires.kind
