use Rattle.std.proofs.Common.{rules, ◌≡◌, None, ap, sym, ◌∙◌, [], ◌∷◌, ◌++◌}
use Rattle.std.specs.BTreeMap.{get}
use Rattle.comp_entity.specs.Views.{entity_tree, named_entities}
use Rattle.compose_left.specs.Merged.{name_cmp, if_absent}
use Rattle.compose_left.proofs.MergeLaws.{copied, named_push}
use Rattle.compose_left.proofs.merge.push_if_new.Goals as goal

pub returns-in_ok-push-in-None : goal.returns-in_ok-push-in-None
returns-in_ok-push-in-None c =
    let none : get name_cmp c.args.names.now c.args.name.now ≡ None = search rules in
    let pushed : c.push.new.self.items ≡ c.args.exports.now.items ++ (c.in_ok-name-in-None.name, c.in_ok-entity-in-None.entity) ∷ [] = search rules in
    named_push c.args.exports.now.items c.push.new.self.items (c.in_ok-name-in-None.name, c.in_ok-entity-in-None.entity) c.args.name.now (entity_tree c.args.entity.now) pushed c.in_ok-name-in-None.ensures (c.in_ok-entity-in-None.ensures ∙ copied (entity_tree c.args.entity.now))
    ∙ ap (λ o. named_entities c.args.exports.now.items ++ if_absent o (c.args.name.now, entity_tree c.args.entity.now)) (sym none)
