use Rattle.std.proofs.Common.{◌≡◌, ◌+◌, ◌∷◌, ◌++◌, [], map, take, refl, sym, ap, ◌∙◌, append_assoc, arith}
use Rattle.std.proofs.lemmas.List.{take_more, map_push}
use Rattle.comp_format.specs.Views.{module_decl_tree}
use Rattle.comp_encoder.proofs.DeclLaws.{module_text_is, module_text_push, module_largest_push, module_texts_push}
use Rattle.comp_encoder.proofs.core_types.+core_writing.Goals as goal

pub write_module_decls-loop-decl-preserved : goal.write_module_decls-loop-decl-preserved
write_module_decls-loop-decl-preserved t c =
    let decls = c.args.decls.now in
    let i = c.loop-decl.decl-index in
    let decl = c.decl-item.result in
    let before = c.loop-decl.invariant in
    let here = c.in_ok-write_module_decl.ensures in
    let front : map module_decl_tree (take (i + 1) decls) ≡ map module_decl_tree (take i decls) ++ module_decl_tree decl ∷ [] =
    ap (map module_decl_tree) (take_more decls i decl c.loop-decl-test.true ∙ ap (λ d. take i decls ++ d ∷ []) (sym c.decl-item.is)) ∙ map_push module_decl_tree (take i decls) decl in record {
      text = rw (front, here.text, before.text, module_text_push) (simp append_assoc refl);
      largest = rw (front, here.largest, before.largest, module_largest_push) (omega arith);
      texts = rw front (module_texts_push (map module_decl_tree (take i decls)) (module_decl_tree decl) before.texts here.texts);
    }

pub write_module-returns-clause-text : goal.write_module-returns-clause-text
write_module-returns-clause-text t c = rw (module_text_is, c.in_ok-write_module_decls.ensures.text, c.in_ok-write.ensures.text, c.deref.ensures.value) (simp append_assoc refl)
