use Rattle.std.proofs.Common.{rules, ap, sym, ◌∙◌, ◌≡◌, ◌<◌, ◌+◌, ◌&&◌, subst, length, Some, true, false, drop, slice_index_or}
use Rattle.std.proofs.lemmas.Result.{IfOk-weaker}
use Rattle.std.specs.BTreeMap.{get}
use Rattle.std.specs.Cmp.Lexicographic.{slice_cmp}
use Rattle.std.specs.Ordering.{nat_cmp}
use Rattle.comp_entity.specs.Fits.{fits_with, same_name, under}
use Rattle.comp_fit.specs.Known.{IsUnder, pair_cmp, is_instance, is_module}
use Rattle.comp_table.specs.Plain.{plain_entity, plain_module}
use Rattle.comp_table.specs.Shown.{IsShown}
use Rattle.comp_table.specs.StandLaws.{same_stands}
use Rattle.comp_table.specs.Trees.{below_root, root, tree_at}
use Rattle.comp_fit.proofs.ExportLaws.{IsLeft, asked_here, dropped, fits_all, fits_not, found_fits, found_is, left_later, nothing_left}
use Rattle.comp_fit.proofs.KindLaws.{answer_more, both, instance_at, module_at, others_fit}
use Rattle.comp_fit.proofs.LooseLaws.{below_at, below_wider}
use Rattle.comp_fit.proofs.fit.+fit.Goals as goal

pub entity_fits-modules_fit-requires-clause-given : goal.entity_fits-modules_fit-requires-clause-given
entity_fits-modules_fit-requires-clause-given t c =
    let heads = both (is_module (root (tree_at c.args.table.now c.args.pair.given))) (is_module (root (tree_at c.args.table.now c.args.pair.asked))) (sym c.are_modules.ensures ∙ c.if-are_modules.true) in
    let given = c.requires.given in
    let m = module_at c.args.table.now c.args.pair.given given.0 given.1 heads.0 in
    (m.0, same_stands c.args.table.now c.args.pair.given (plain_entity given.0) (plain_module m.0) (ap plain_entity m.1) given.1)

pub entity_fits-modules_fit-requires-clause-asked : goal.entity_fits-modules_fit-requires-clause-asked
entity_fits-modules_fit-requires-clause-asked t c =
    let heads = both (is_module (root (tree_at c.args.table.now c.args.pair.given))) (is_module (root (tree_at c.args.table.now c.args.pair.asked))) (sym c.are_modules.ensures ∙ c.if-are_modules.true) in
    let asked = c.requires.asked in
    let m = module_at c.args.table.now c.args.pair.asked asked.0 asked.1 heads.1 in
    (m.0, same_stands c.args.table.now c.args.pair.asked (plain_entity asked.0) (plain_module m.0) (ap plain_entity m.1) asked.1)

pub entity_fits-returns-then-are_modules-clause-fits : goal.entity_fits-returns-then-are_modules-clause-fits
entity_fits-returns-then-are_modules-clause-fits t c = λ given asked s u shown.
    let heads = both (is_module (root (tree_at c.args.table.now c.args.pair.given))) (is_module (root (tree_at c.args.table.now c.args.pair.asked))) (sym c.are_modules.ensures ∙ c.if-are_modules.true) in
    let m = module_at c.args.table.now c.args.pair.given given s heads.0 in
    let n = module_at c.args.table.now c.args.pair.asked asked u heads.1 in
    c.in_ok-answer.ensures m.0 n.0
    (same_stands c.args.table.now c.args.pair.given (plain_entity given) (plain_module m.0) (ap plain_entity m.1) s)
    (same_stands c.args.table.now c.args.pair.asked (plain_entity asked) (plain_module n.0) (ap plain_entity n.1) u)
    ∙ (λ i. fits_with same_name (sym m.1 i) (sym n.1 i))

pub entity_fits-returns-clause-fits : goal.entity_fits-returns-clause-fits
entity_fits-returns-clause-fits t c = λ given asked s u shown.
    c.equal.ensures.equal given asked s u shown
    ∙ others_fit given asked
    ((λ i. is_instance (root (sym s.tree_is i)) && is_instance (root (sym u.tree_is i))) ∙ sym c.are_instances.ensures ∙ c.if-are_instances.false)
    ((λ i. is_module (root (sym s.tree_is i)) && is_module (root (sym u.tree_is i))) ∙ sym c.are_modules.ensures ∙ c.if-are_modules.false)

pub export_fits-entity_fits-requires : goal.export_fits-entity_fits-requires
export_fits-entity_fits-requires t c =
    let found : get (slice_cmp nat_cmp) c.args.names.now c.entry_at-asked.result.0.now ≡ Some c.in-Some.found.now = search rules in
    let names = c.requires.names in
    let asked = c.requires.asked in
    let item = c.entry_at-asked.ensures asked.0 asked.1 (plain_entity asked.2) asked.3 in
    let here = subst (λ o. IsUnder c.args.table.now o (under c.entry_at-asked.result.0.now names.0)) found (names.1 c.entry_at-asked.result.0.now) in
    (search rules, (found_is c.args.table.now c.in-Some.found.now (under c.entry_at-asked.result.0.now names.0) here, ((asked.2, item.1, asked.4), c.requires.known)))

pub export_fits-returns-in-Some-clause-fits : goal.export_fits-returns-in-Some-clause-fits
export_fits-returns-in-Some-clause-fits t c =
    let found : get (slice_cmp nat_cmp) c.args.names.now c.entry_at-asked.result.0.now ≡ Some c.in-Some.found.now = search rules in
    IfOk-weaker c.entity_fits.result _ _ (λ answer fits given name mark asked names is shown.
    let item = c.entry_at-asked.ensures name mark (plain_entity asked) is in
    let here = subst (λ o. IsUnder c.args.table.now o (under name given)) (ap (get (slice_cmp nat_cmp) c.args.names.now) (sym item.0) ∙ found) (names name) in
    found_fits c.args.table.now c.in-Some.found.now (under name given) asked answer here (λ x s. fits x asked s item.1 shown)) c.entity_fits.ensures.fits

pub exports_fit-export_fits-requires : goal.exports_fit-export_fits-requires
exports_fit-export_fits-requires t c =
    let lt : c.loop-part.part-index < length c.args.parts.now = search rules in
    let names = c.requires.names in
    let asked = c.requires.asked in
    let left = subst (λ ps. IsLeft c.args.table.now ps names.0 asked.0) (dropped c.args.parts.now c.loop-part.part-index 0 lt) (c.loop-part.invariant.left names.0 asked.0 names.1 asked.1 asked.2) in
    (search rules, (below_at (length c.args.table.now) c.args.parts.now c.loop-part.part-index 0 c.requires.below lt, (names, (asked_here c.args.table.now (slice_index_or c.args.parts.now c.loop-part.part-index 0) (drop (c.loop-part.part-index + 1) c.args.parts.now) names.0 asked.0 left, c.loop-part.invariant.known))))

pub exports_fit-loop-part-preserved : goal.exports_fit-loop-part-preserved
exports_fit-loop-part-preserved t c =
    let lt : c.loop-part.part-index < length c.args.parts.now = search rules in
    let is : c.in_ok-fits.fits ≡ true = search rules in
    record {
      known = c.in_ok-fits.ensures.known;
      left = λ given asked names trees shown.
          let left = subst (λ ps. IsLeft c.args.table.now ps given asked) (dropped c.args.parts.now c.loop-part.part-index 0 lt) (c.loop-part.invariant.left given asked names trees shown) in
          left_later c.args.table.now (slice_index_or c.args.parts.now c.loop-part.part-index 0) (drop (c.loop-part.part-index + 1) c.args.parts.now) given asked left
          (λ name mark item here s. sym is ∙ c.in_ok-fits.ensures.fits given name mark item names here s);
    }

pub exports_fit-returns-clause-fits : goal.exports_fit-returns-clause-fits
exports_fit-returns-clause-fits t c = λ given asked names trees shown.
    let end : c.loop-part.part-index ≡ length c.args.parts.now = search rules in
    fits_all c.args.table.now given asked (subst (λ ps. IsLeft c.args.table.now ps given asked) (nothing_left c.args.parts.now c.loop-part.part-index end) (c.loop-part.invariant.left given asked names trees shown))

pub instance_fits-returns-in-Some-clause-fits : goal.instance_fits-returns-in-Some-clause-fits
instance_fits-returns-in-Some-clause-fits t c =
    let found : get pair_cmp c.args.known.now c.args.pair ≡ Some c.in-Some.answer.now = search rules in c.requires.known c.args.pair c.in-Some.answer.now found

pub instance_fits-names_of-requires-clause-below : goal.instance_fits-names_of-requires-clause-below
instance_fits-names_of-requires-clause-below t c = let given = c.requires.given in
    below_wider c.args.pair.given (length c.args.table.now) c.parts.result.now given.1.there c.parts.ensures.below

pub instance_fits-names_of-requires-clause-entries : goal.instance_fits-names_of-requires-clause-entries
instance_fits-names_of-requires-clause-entries t c =
    let heads = both (is_instance (root (tree_at c.args.table.now c.args.pair.given))) (is_instance (root (tree_at c.args.table.now c.args.pair.asked))) c.requires.instances in
    let given = c.requires.given in
    let es = instance_at c.args.table.now c.args.pair.given given.0 given.1 heads.0 in
    (es.0, c.parts.ensures.parts ∙ ap below_root (given.1.tree_is ∙ ap plain_entity es.1))

pub instance_fits-exports_fit-requires : goal.instance_fits-exports_fit-requires
instance_fits-exports_fit-requires t c =
    let fewer : c.in_ok-levels.levels < c.args.levels = c.in_ok-levels.ensures in
    let heads = both (is_instance (root (tree_at c.args.table.now c.args.pair.given))) (is_instance (root (tree_at c.args.table.now c.args.pair.asked))) c.requires.instances in
    let given = c.requires.given in
    let asked = c.requires.asked in
    let es = instance_at c.args.table.now c.args.pair.given given.0 given.1 heads.0 in
    let fs = instance_at c.args.table.now c.args.pair.asked asked.0 asked.1 heads.1 in
    let names = c.in_ok-names.ensures es.0 (c.parts.ensures.parts ∙ ap below_root (given.1.tree_is ∙ ap plain_entity es.1)) in
    (search (rules, fewer), (below_wider c.args.pair.asked (length c.args.table.now) c.parts-2.result.now asked.1.there c.parts-2.ensures.below, ((es.0, names), ((fs.0, c.parts-2.ensures.parts ∙ ap below_root (asked.1.tree_is ∙ ap plain_entity fs.1), subst IsShown fs.1 asked.2), c.requires.known))))

pub instance_fits-returns-in-Ok-clause-fits : goal.instance_fits-returns-in-Ok-clause-fits
instance_fits-returns-in-Ok-clause-fits t c = λ given asked s u shown.
    let heads = both (is_instance (root (tree_at c.args.table.now c.args.pair.given))) (is_instance (root (tree_at c.args.table.now c.args.pair.asked))) c.requires.instances in
    let es = instance_at c.args.table.now c.args.pair.given given s heads.0 in
    let fs = instance_at c.args.table.now c.args.pair.asked asked u heads.1 in
    c.in_ok-answer.ensures.fits es.0 fs.0
    (c.in_ok-names.ensures es.0 (c.parts.ensures.parts ∙ ap below_root (s.tree_is ∙ ap plain_entity es.1)))
    (c.parts-2.ensures.parts ∙ ap below_root (u.tree_is ∙ ap plain_entity fs.1)) (subst IsShown fs.1 shown)
    ∙ (λ i. fits_with same_name (sym es.1 i) (sym fs.1 i))

pub instance_fits-returns-in-Ok-clause-known : goal.instance_fits-returns-in-Ok-clause-known
instance_fits-returns-in-Ok-clause-known t c =
    answer_more c.args.table.now c.exports_fit.new.known c.insert.new.self c.args.pair c.in_ok-answer.answer c.in_ok-answer.ensures.known (instance_fits-returns-in-Ok-clause-fits t c) c.in-Ok.ensures.updates

pub exports_fit-returns-then-not-fits-clause-fits : goal.exports_fit-returns-then-not-fits-clause-fits
exports_fit-returns-then-not-fits-clause-fits t c =
    let lt : c.loop-part.part-index < length c.args.parts.now = search rules in
    let is : c.in_ok-fits.fits ≡ false = search rules in
    λ given asked names trees shown.
    let left = subst (λ ps. IsLeft c.args.table.now ps given asked) (dropped c.args.parts.now c.loop-part.part-index 0 lt) (c.loop-part.invariant.left given asked names trees shown) in
    fits_not c.args.table.now (slice_index_or c.args.parts.now c.loop-part.part-index 0) (drop (c.loop-part.part-index + 1) c.args.parts.now) given asked left
    (λ name mark item here s. sym is ∙ c.in_ok-fits.ensures.fits given name mark item names here s)
