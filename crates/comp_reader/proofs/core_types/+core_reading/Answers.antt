use Rattle.std.proofs.Common.{◌≡◌, ◌++◌, ◌∷◌, [], map, Ok, sym, ap, ◌∙◌}
use Rattle.std.proofs.lemmas.Result.{err_from_is_err_and}
use Rattle.std.proofs.lemmas.List.{map_push}
use Rattle.comp_format.specs.Vectors.{many_at}
use Rattle.comp_format.specs.CoreTypes.{CoreTree, module_decl_at, core_at}
use Rattle.comp_format.specs.Views.{module_decl_tree}
use Rattle.comp_reader.proofs.ManyLaws.{goes_on, ends, is_done}
use Rattle.comp_reader.proofs.NestedLaws.{core_module}
use Rattle.comp_reader.proofs.ViewLaws.{tree_module}
use Rattle.comp_reader.proofs.core_types.+core_reading.Goals as goal

pub core_of-returns-in_ok-decls-in-80 : goal.core_of-returns-in_ok-decls-in-80
core_of-returns-in_ok-decls-in-80 t c =
    let v = c.in_ok-decls-in-80.decls in
    core_module c.args.scopes c.args.bytes.now c.in_ok-byte.byte c.in_ok-byte.rest.now (map module_decl_tree v.items) c.in_ok-decls-in-80.rest.now c.in_ok-byte.ensures c.in-80.is c.in_ok-decls-in-80.ensures
    ∙ ap (λ (t : CoreTree). Ok (t, c.in_ok-decls-in-80.rest.now)) (sym (tree_module v))

pub many_module_decls_of-returns-in_err-decl : goal.many_module_decls_of-returns-in_err-decl
many_module_decls_of-returns-in_err-decl t c =
    let p = err_from_is_err_and c.from_residual.result c.from_residual.ensures.1 in
    rw (p.1, p.2) (ends (module_decl_at (core_at c.args.scopes)) c.in_err-decl.field-0.0 (map module_decl_tree c.loop.decls.items) c.args.count c.loop.counter c.loop.rest.now (many_at (module_decl_at (core_at c.args.scopes)) c.args.count c.args.bytes.now) c.loop-test.true c.in_err-decl.ensures c.loop.invariant)

pub many_module_decls_of-loop-preserved : goal.many_module_decls_of-loop-preserved
many_module_decls_of-loop-preserved t c =
    let v = c.in_ok-decl.decl in
    let e : map module_decl_tree c.push.new.self.items ≡ map module_decl_tree c.loop.decls.items ++ module_decl_tree v ∷ [] = rw c.in_ok-push.ensures.items (map_push _ c.loop.decls.items v) in
    rw e (goes_on (module_decl_at (core_at c.args.scopes)) (map module_decl_tree c.loop.decls.items) c.args.count c.loop.counter c.loop.rest.now (module_decl_tree v) c.in_ok-decl.after.now (many_at (module_decl_at (core_at c.args.scopes)) c.args.count c.args.bytes.now) c.loop-test.true c.in_ok-decl.ensures c.loop.invariant)

pub many_module_decls_of-returns : goal.many_module_decls_of-returns
many_module_decls_of-returns t c = is_done (module_decl_at (core_at c.args.scopes)) (map module_decl_tree c.loop.decls.items) c.args.count c.loop.counter c.loop.rest.now (many_at (module_decl_at (core_at c.args.scopes)) c.args.count c.args.bytes.now) c.loop-test.false c.loop.invariant
