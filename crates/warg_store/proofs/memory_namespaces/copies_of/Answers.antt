use Rattle.std.proofs.Common.{ap, ◌∙◌}
use Rattle.std.specs.Prelude.{bytes_eq}
use Rattle.std.specs.Cmp.Lexicographic.{nat_list_eq_equiv}
use Rattle.std.specs.Map.Iter.{deref_pair}
use Rattle.std.proofs.lemmas.Map.Iter.{rest_more}
use Rattle.indexmap.specs.IndexMap.{insert_entry}
use Rattle.warg_store.proofs.CopyLaws.{copied_more}
use Rattle.warg_store.proofs.memory_namespaces.copies_of.Goals as goal

pub loop-namespace-preserved : goal.loop-namespace-preserved
loop-namespace-preserved c =
    let es = c.loop-namespace.copies.entries in
    let left = rest_more deref_pair c.loop-namespace.namespace-iterator c.next.new.self c.next.result (c.in-Some.namespace, c.in-Some.registry) c.in-Some.is c.next.ensures.steps in
    copied_more nat_list_eq_equiv es _ _ _ _ c.in-Some.namespace.now c.in-Some.registry.now c.loop-namespace.invariant left
    (c.in_ok-add_name.ensures.added ∙ ap (λ n. insert_entry bytes_eq es n c.in-Some.registry.now) c.as_str.ensures)
