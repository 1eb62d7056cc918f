use Rattle.std.proofs.Common.{◌≡◌, ◌++◌, ◌∷◌, [], map, Ok, sym, ap, ◌∙◌}
use Rattle.std.proofs.lemmas.Result.{err_from_is_err_and}
use Rattle.std.proofs.lemmas.List.{map_push}
use Rattle.comp_format.specs.Vectors.{ReaderOf, many_at}
use Rattle.comp_format.specs.CoreTypes.{core_at}
use Rattle.comp_format.specs.Definitions.{TypeTree, DeclTree, decl_at, definition_at}
use Rattle.comp_format.specs.Views.{decl_tree}
use Rattle.comp_reader.proofs.ManyLaws.{goes_on, ends, is_done}
use Rattle.comp_reader.proofs.NestedLaws.{type_func, type_component, type_instance}
use Rattle.comp_reader.proofs.ViewLaws.{tree_func, tree_component, tree_instance}
use Rattle.comp_reader.proofs.definitions.+reading.Goals as goal

pub type_of-returns-in_ok-func-in-64 : goal.type_of-returns-in_ok-func-in-64
type_of-returns-in_ok-func-in-64 t c =
    type_func c.args.scopes c.args.bytes.now c.in_ok-byte.byte c.in_ok-byte.rest.now c.in_ok-func-in-64.func c.in_ok-func-in-64.rest.now c.in_ok-byte.ensures c.in-64.is c.in_ok-func-in-64.ensures
    ∙ ap (λ (t : TypeTree). Ok (t, c.in_ok-func-in-64.rest.now)) (sym (tree_func c.in_ok-func-in-64.func))

pub type_of-returns-in_ok-decls-in-65 : goal.type_of-returns-in_ok-decls-in-65
type_of-returns-in_ok-decls-in-65 t c =
    let v = c.in_ok-decls-in-65.decls in
    type_component c.args.scopes c.args.bytes.now c.in_ok-byte.byte c.in_ok-byte.rest.now (map decl_tree v.items) c.in_ok-decls-in-65.rest.now c.in_ok-byte.ensures c.in-65.is c.in_ok-decls-in-65.ensures
    ∙ ap (λ (t : TypeTree). Ok (t, c.in_ok-decls-in-65.rest.now)) (sym (tree_component v))

pub type_of-returns-in_ok-decls-in-66 : goal.type_of-returns-in_ok-decls-in-66
type_of-returns-in_ok-decls-in-66 t c =
    let v = c.in_ok-decls-in-66.decls in
    type_instance c.args.scopes c.args.bytes.now c.in_ok-byte.byte c.in_ok-byte.rest.now (map decl_tree v.items) c.in_ok-decls-in-66.rest.now c.in_ok-byte.ensures c.in-66.is c.in_ok-decls-in-66.ensures
    ∙ ap (λ (t : TypeTree). Ok (t, c.in_ok-decls-in-66.rest.now)) (sym (tree_instance v))

pub many_decls_of-returns-in_err-decl : goal.many_decls_of-returns-in_err-decl
many_decls_of-returns-in_err-decl t c =
    let p = err_from_is_err_and c.from_residual.result c.from_residual.ensures.1 in
    let one : ReaderOf DeclTree = decl_at c.args.imports (core_at c.args.scopes) (definition_at c.args.scopes) in
    rw (p.1, p.2) (ends one c.in_err-decl.field-0.0 (map decl_tree c.loop.decls.items) c.args.count c.loop.counter c.loop.rest.now (many_at one c.args.count c.args.bytes.now) c.loop-test.true c.in_err-decl.ensures c.loop.invariant)

pub many_decls_of-loop-preserved : goal.many_decls_of-loop-preserved
many_decls_of-loop-preserved t c =
    let v = c.in_ok-decl.decl in
    let one : ReaderOf DeclTree = decl_at c.args.imports (core_at c.args.scopes) (definition_at c.args.scopes) in
    let e : map decl_tree c.push.new.self.items ≡ map decl_tree c.loop.decls.items ++ decl_tree v ∷ [] = rw c.in_ok-push.ensures.items (map_push _ c.loop.decls.items v) in
    rw e (goes_on one (map decl_tree c.loop.decls.items) c.args.count c.loop.counter c.loop.rest.now (decl_tree v) c.in_ok-decl.after.now (many_at one c.args.count c.args.bytes.now) c.loop-test.true c.in_ok-decl.ensures c.loop.invariant)

pub many_decls_of-returns : goal.many_decls_of-returns
many_decls_of-returns t c =
    let one : ReaderOf DeclTree = decl_at c.args.imports (core_at c.args.scopes) (definition_at c.args.scopes) in
    is_done one (map decl_tree c.loop.decls.items) c.args.count c.loop.counter c.loop.rest.now (many_at one c.args.count c.args.bytes.now) c.loop-test.false c.loop.invariant
