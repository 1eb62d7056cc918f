-- The writer's bytes are UTF-8, and its tokens those of the names.
use Rattle.std.proofs.Common.{◌≡◌, true, List, ◌++◌, sym, ap, subst, ◌∙◌}
use Rattle.std.specs.Map.Iter.{deref_pair}
use Rattle.std.specs.Str.{is_utf8}
use Rattle.std.proofs.lemmas.Map.Iter.{rest_all}
use Rattle.std.proofs.lemmas.Str.{is_utf8-from_IsUtf8}
use Rattle.json.specs.Json.{object}
use Rattle.json.specs.Print.{print}
use Rattle.json.specs.Token.{Token}
use Rattle.json.specs.Tree.{json_tokens, members_tokens}
use Rattle.warg_namespace_files.specs.NamespaceFile.{members_of}
use Rattle.warg_namespace_files.proofs.names.write_names.Goals as goal

pub returns-clause-utf8 : goal.returns-clause-utf8
returns-clause-utf8 c =
    let l = c.loop-namespace in
    let none = rest_all deref_pair l.namespace-iterator c.next.new.self c.next.result c.in-None.is c.next.ensures.steps in
    let tokens : c.end_object.new.self.tokens ≡ json_tokens (object (members_of c.args.names.now.entries)) =
    c.in_ok-end_object.ensures.ok ∙ ap (λ rest. l.writer.tokens ++ members_tokens (members_of rest)) (sym none) ∙ l.invariant.0 in
    subst (λ (ts : List Token). is_utf8 (print ts) ≡ true) tokens (is_utf8-from_IsUtf8 _ c.into_inner.ensures.utf8)
