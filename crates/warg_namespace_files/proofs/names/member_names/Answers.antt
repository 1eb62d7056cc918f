-- One member more is read.
use Rattle.std.proofs.Common.{◌≡◌, ◌+◌, ◌∷◌, drop, bytes_eq, option_map, sym, ap, ◌∙◌, arith}
use Rattle.std.proofs.lemmas.List.{drop_more}
use Rattle.indexmap.specs.IndexMap.{insert_all}
use Rattle.json.specs.Value.{value_view, members_view}
use Rattle.warg_store.specs.Namespaces.{Names}
use Rattle.warg_namespace_files.specs.NamespaceFile.{texts_of}
use Rattle.warg_namespace_files.proofs.NameLaws.{one_member}
use Rattle.warg_namespace_files.proofs.names.member_names.Goals as goal

pub loop-member-preserved : goal.loop-member-preserved
loop-member-preserved c =
    let l = c.loop-member in
    let xs = c.deref-member-items.result.now in
    let x = c.member-item.result in
    let later = members_view (drop (l.member-index + 1) xs) in
    let here : drop l.member-index xs ≡ x ∷ drop (l.member-index + 1) xs =
    drop_more xs l.member-index x (omega arith) ∙ ap (λ y. y ∷ drop (l.member-index + 1) xs) (sym c.member-item.is) in
    ap (λ (es : Names). option_map (insert_all bytes_eq es) (texts_of later)) c.in_ok-add_name.ensures
    ∙ sym (one_member l.names.entries x.0.now later (value_view x.1) c.in-Some.registry.now c.in-Some.ensures)
    ∙ ap (λ ms. option_map (insert_all bytes_eq l.names.entries) (texts_of (members_view ms))) (sym here) ∙ l.invariant
