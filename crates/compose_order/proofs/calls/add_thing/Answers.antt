use Rattle.std.proofs.Common.{rules, ◌≡◌, ◌++◌, ◌∷◌, [], ap, ◌∙◌}
use Rattle.compose_order.proofs.CallLaws.{put_more}
use Rattle.compose_order.proofs.calls.add_thing.Goals as goal

pub returns : goal.returns
returns c =
    let pushed : c.push.new.self.items ≡ c.take_things-things.result.items ++ c.args.thing ∷ [] = search rules in
    put_more c.args.paths.now c.take_things-things.new.paths c.insert.new.self _ c.args.path.now c.push.new.self c.args.thing c.in_ok-try_clone.ensures c.take_things-things.ensures.others
    (pushed ∙ ap (λ ts. ts ++ c.args.thing ∷ []) c.take_things-things.ensures.taken) c.in_ok-insert.ensures.updates
