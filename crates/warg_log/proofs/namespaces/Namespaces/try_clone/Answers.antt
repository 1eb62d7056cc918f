use Rattle.std.proofs.Common.{ℕ, List, Option, Some, refl, sym, ap, subst, ◌∙◌, cond}
use Rattle.std.specs.Global.{Global}
use Rattle.std.specs.Prelude.{bytes_eq, string_bytes, String}
use Rattle.std.specs.String.{string_cmp}
use Rattle.std.specs.Map.{keys_of}
use Rattle.std.specs.Map.Iter.{deref_pair}
use Rattle.std.proofs.lemmas.Map.Iter.{rest_more}
use Rattle.std.proofs.lemmas.Map.Keys.{IsDistinct-from_sorted}
use Rattle.warg_log.specs.declared.namespaces.NamespaceState.{NamespaceState}
use Rattle.warg_log.specs.Namespaces.{space, namespace_view}
use Rattle.warg_log.proofs.Copying.{IsCopying, copying-none, copying-more}
use Rattle.warg_log.proofs.namespaces.Namespaces.try_clone.Goals as goal

pub loop-name-init : goal.loop-name-init
loop-name-init c =
    let gives = c.into_iter-name-iterator.ensures.into_iter_gives in
    let entries = c.args.self.now.map.entries in
    subst (λ (rest : List (String Global × NamespaceState)). IsCopying string_bytes namespace_view (space c.new-copies.result) (space c.args.self.now) rest) (sym gives.0)
    (copying-none string_bytes namespace_view (space c.new-copies.result) (space c.args.self.now) entries c.new-copies.ensures (λ q. refl)
    (IsDistinct-from_sorted string_cmp (keys_of entries) gives.5))

pub loop-name-preserved : goal.loop-name-preserved
loop-name-preserved c =
    let name = c.in-Some.name.now in
    let state = c.in-Some.state.now in
    let old = space c.loop-name.copies in
    let left = rest_more deref_pair c.loop-name.name-iterator c.next.new.self c.next.result (c.in-Some.name, c.in-Some.state) c.in-Some.is c.next.ensures.steps in
    let before = subst (λ (rest : List (String Global × NamespaceState)). IsCopying string_bytes namespace_view old (space c.args.self.now) rest) left c.loop-name.invariant in
    copying-more string_bytes namespace_view old (space c.insert.new.self) (space c.args.self.now) name state c.next.new.self before
    (λ q. c.in_ok-insert.ensures.ok q
    ∙ ap (λ (bs : List ℕ). cond (bytes_eq bs q) (Some (namespace_view c.in_ok-try_clone.field-0)) (old q)) c.as_str.ensures.value
    ∙ ap (λ (s : Option (List ℕ)). cond (bytes_eq (string_bytes name) q) (Some s) (old q)) c.in_ok-try_clone.ensures)
