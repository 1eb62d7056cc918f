use Rattle.std.proofs.Common.{rules, ◌≡◌, ◌++◌, ◌∷◌, [], ap, ◌∙◌}
use Rattle.compose_naming.proofs.PathLaws.{calls_more}
use Rattle.compose_naming.proofs.paths.add_call.Goals as goal

pub returns : goal.returns
returns c = λ calls h.
    let pushed : c.push.new.self.items ≡ c.take_things-things.result.items ++ c.args.call.now.what ∷ [] = search rules in
    calls_more c.args.paths.now c.take_things-things.new.paths c.insert.new.self calls c.args.call.now _ c.push.new.self
    c.in_ok-try_clone.ensures c.take_things-things.ensures.others
    (pushed ∙ ap (λ ts. ts ++ c.args.call.now.what ∷ []) c.take_things-things.ensures.taken)
    c.in_ok-insert.ensures.updates h
