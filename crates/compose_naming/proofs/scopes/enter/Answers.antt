use Rattle.std.proofs.Common.{rules, ◌≡◌, ◌++◌, ◌∷◌, [], ap, ◌∙◌}
use Rattle.compose_naming.specs.Scopes.{scopes_in}
use Rattle.compose_naming.proofs.ScopeLaws.{scopes_push}
use Rattle.compose_naming.proofs.scopes.enter.Goals as goal

pub returns : goal.returns
returns c =
    let pushed : c.push.new.self.items ≡ c.args.scopes.now.items ++ c.new.result ∷ [] = search rules in
    ap scopes_in pushed ∙ scopes_push c.args.scopes.now.items c.new.result ∙ ap (λ s. s ∷ scopes_in c.args.scopes.now.items) c.new.ensures
