use Rattle.std.proofs.Common.{◌≡◌, ℕ, ◌<◌, List, [], ◌∷◌, ◌++◌, length, map, Result, Vec, Global, sym, ap, subst, ◌∙◌, arith}
use Rattle.std.proofs.lemmas.Grind.{common_steps}
use Rattle.std.proofs.lemmas.Result.{err_from_is_err_and}
use Rattle.std.proofs.lemmas.List.{map_push, nil_from_length}
use Rattle.comp_format.specs.declared.types.Item.{Item}
use Rattle.comp_format.specs.Fault.{Fault}
use Rattle.comp_format.specs.Items.{ItemTree, Component, item_tree}
use Rattle.comp_format.specs.Sections.{content_at}
use Rattle.comp_reader.specs.Refusal.{Gives}
use Rattle.comp_reader.proofs.ItemLaws.{goes_on, no_section, no_content, is_done, same_fails, section_shorter, nested_adds, component_items_are}
use Rattle.comp_reader.proofs.items.+reading_items.Goals as goal

pub any_section-returns : goal.any_section-returns
any_section-returns t c =
    let n = nested_adds c.args.scopes c.args.content.now _ c.in_ok-_inner.ensures in
    let is : c.args.id ≡ 4 = omega (arith, c.if-id-ne-COMPONENT.false) in
    let added : map item_tree c.push.new.self.items ≡ map item_tree c.args.items.now.items ++ Component c.args.content.now ∷ [] = rw c.in_ok-push.ensures.items (map_push item_tree c.args.items.now.items _) in
    (n.0, ap (λ (i : ℕ). content_at c.args.scopes i c.args.content.now) is ∙ n.1, added ∙ ap (λ (l : List ItemTree). map item_tree c.args.items.now.items ++ l) (sym n.2))

pub items_of-returns : goal.items_of-returns
items_of-returns t c =
    let is = component_items_are c.args.scopes c.args.bytes.now c.if-scopes-eq0.false (sym c.starts_with.ensures.value ∙ c.if-not-starts_with.false) in
    subst (λ (r : Result (List ItemTree) Fault). Gives (λ (v : Vec Item Global). map item_tree v.items) c.sections_of.result r) (sym is) c.sections_of.ensures

pub sections_of-returns-in_err-id : goal.sections_of-returns-in_err-id
sections_of-returns-in_err-id t c =
    let p = err_from_is_err_and c.from_residual.result c.from_residual.ensures.1 in
    let some : 0 < length c.loop-rest.rest.now = grind (arith, common_steps) in
    rw (p.1, p.2) (no_section (content_at c.args.scopes) c.in_err-id.field-0.0 c.args.bytes.now (map item_tree c.loop-rest.items.items) c.loop-rest.rest.now some c.in_err-id.ensures c.loop-rest.invariant)

pub sections_of-returns-in-Err : goal.sections_of-returns-in-Err
sections_of-returns-in-Err t c =
    let some : 0 < length c.loop-rest.rest.now = grind (arith, common_steps) in
    same_fails c.in-Err.error c.before-in-Err.result _ c.before-in-Err.ensures
    (no_content (content_at c.args.scopes) c.in-Err.error c.args.bytes.now (map item_tree c.loop-rest.items.items) c.loop-rest.rest.now c.in_ok-id.id c.in_ok-id.content.now c.in_ok-id.after.now some c.in_ok-id.ensures c.in-Err.ensures c.loop-rest.invariant)

pub sections_of-loop-rest-smaller : goal.sections_of-loop-rest-smaller
sections_of-loop-rest-smaller t c = section_shorter c.loop-rest.rest.now ((c.in_ok-id.id, c.in_ok-id.content.now), c.in_ok-id.after.now) c.in_ok-id.ensures

pub sections_of-loop-rest-preserved : goal.sections_of-loop-rest-preserved
sections_of-loop-rest-preserved t c =
    let some : 0 < length c.loop-rest.rest.now = grind (arith, common_steps) in
    let s = c.in-Ok.ensures in
    goes_on (content_at c.args.scopes) c.args.bytes.now (map item_tree c.loop-rest.items.items) (map item_tree c.any_section.new.items.items) c.loop-rest.rest.now c.in_ok-id.id c.in_ok-id.content.now c.in_ok-id.after.now some c.in_ok-id.ensures s.0 s.1 s.2 c.loop-rest.invariant

pub sections_of-returns : goal.sections_of-returns
sections_of-returns t c =
    let nothing : length c.loop-rest.rest.now ≡ 0 = grind (arith, common_steps) in
    is_done (content_at c.args.scopes) c.args.bytes.now (map item_tree c.loop-rest.items.items) c.loop-rest.rest.now (nil_from_length c.loop-rest.rest.now nothing) c.loop-rest.invariant
