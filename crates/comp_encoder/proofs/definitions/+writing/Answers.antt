use Rattle.std.proofs.Common.{◌≡◌, ◌+◌, ◌∷◌, ◌++◌, [], map, take, refl, sym, ap, ◌∙◌, append_assoc, arith}
use Rattle.std.proofs.lemmas.List.{take_more, map_push}
use Rattle.comp_format.specs.Definitions.{definition_text}
use Rattle.comp_format.specs.Views.{decl_tree}
use Rattle.comp_format.specs.ViewLaws.{type_resource}
use Rattle.comp_encoder.proofs.DeclLaws.{component_text_is, instance_text_is, decls_text_push, decls_largest_push, decls_texts_push}
use Rattle.comp_encoder.proofs.definitions.+writing.Goals as goal

pub write_decls-loop-decl-preserved : goal.write_decls-loop-decl-preserved
write_decls-loop-decl-preserved t c =
    let decls = c.args.decls.now in
    let i = c.loop-decl.decl-index in
    let decl = c.decl-item.result in
    let before = c.loop-decl.invariant in
    let here = c.in_ok-write_decl.ensures in
    let front : map decl_tree (take (i + 1) decls) ≡ map decl_tree (take i decls) ++ decl_tree decl ∷ [] =
    ap (map decl_tree) (take_more decls i decl c.loop-decl-test.true ∙ ap (λ d. take i decls ++ d ∷ []) (sym c.decl-item.is)) ∙ map_push decl_tree (take i decls) decl in record {
      text = rw (front, here.text, before.text, decls_text_push) (simp append_assoc refl);
      largest = rw (front, here.largest, before.largest, decls_largest_push) (omega arith);
      texts = rw front (decls_texts_push (map decl_tree (take i decls)) (decl_tree decl) before.texts here.texts);
    }

pub write_component-returns-clause-text : goal.write_component-returns-clause-text
write_component-returns-clause-text t c = rw (component_text_is, c.in_ok-write_decls.ensures.text, c.in_ok-write.ensures.text, c.deref.ensures.value) (simp append_assoc refl)

pub write_instance-returns-clause-text : goal.write_instance-returns-clause-text
write_instance-returns-clause-text t c = rw (instance_text_is, c.in_ok-write_decls.ensures.text, c.in_ok-write.ensures.text, c.deref.ensures.value) (simp append_assoc refl)

pub write_type-returns-in_ok-write_optional-in-Resource-clause-text : goal.write_type-returns-in_ok-write_optional-in-Resource-clause-text
unfolding definition_text
write_type-returns-in_ok-write_optional-in-Resource-clause-text t c =
    rw (c.in-Resource.is, type_resource, c.in_ok-write_optional-in-Resource.ensures.text, c.in_ok-write-in-Resource.ensures.text) (simp append_assoc refl)
