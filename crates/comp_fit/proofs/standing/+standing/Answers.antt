use Rattle.std.proofs.Common.{rules, ap, sym, ◌∙◌, ◌≡◌, ◌<◌, ◌+◌, ◌&&◌, subst, length, Some, true, false, drop, slice_index_or}
use Rattle.std.specs.BTreeMap.{get}
use Rattle.std.specs.BTreeSet.{contains}
use Rattle.std.specs.Cmp.Lexicographic.{slice_cmp}
use Rattle.std.specs.Ordering.{nat_cmp}
use Rattle.comp_entity.specs.Fits.{stands, under}
use Rattle.comp_fit.specs.Known.{IsUnder, is_instance, pair_cmp}
use Rattle.comp_fit.specs.Standing.{Adds, head_stands}
use Rattle.comp_table.specs.Plain.{plain_entity}
use Rattle.comp_table.specs.Trees.{below_root, root}
use Rattle.comp_fit.proofs.ExportLaws.{dropped, found_is, nothing_left}
use Rattle.comp_fit.proofs.LooseLaws.{below_at, below_wider}
use Rattle.comp_fit.proofs.StandingLaws.{IsAdded, added_all, added_here, added_later, adds_covered, covered_here, covered_more, entity_stands, found_adds, instances_at}
use Rattle.comp_fit.proofs.standing.+standing.Goals as goal

pub note_entity-returns-clause-adds : goal.note_entity-returns-clause-adds
note_entity-returns-clause-adds t c = λ given asked s u.
    let heads : (is_instance (root (plain_entity given)) && is_instance (root (plain_entity asked))) ≡ false =
    (λ i. is_instance (root (sym s.tree_is i)) && is_instance (root (sym u.tree_is i))) ∙ sym c.are_instances.ensures ∙ c.if-are_instances.false in
    subst (Adds c.args.found.now c.note_type.new.found)
    ((λ i. head_stands ((c.head.ensures ∙ ap root s.tree_is) i) ((c.head-2.ensures ∙ ap root u.tree_is) i)) ∙ entity_stands given asked heads)
    c.in_ok-note_type.ensures

pub note_export-note_entity-requires : goal.note_export-note_entity-requires
note_export-note_entity-requires t c =
    let found : get (slice_cmp nat_cmp) c.args.names.now c.entry_at-asked.result.0.now ≡ Some c.in-Some.given.now = search rules in
    let names = c.requires.names in
    let asked = c.requires.asked in
    let item = c.entry_at-asked.ensures asked.0 asked.1 (plain_entity asked.2) asked.3 in
    let here = subst (λ o. IsUnder c.args.table.now o (under c.entry_at-asked.result.0.now names.0)) found (names.1 c.entry_at-asked.result.0.now) in
    (search rules, (found_is c.args.table.now c.in-Some.given.now (under c.entry_at-asked.result.0.now names.0) here, ((asked.2, item.1), c.requires.covered)))

pub note_export-returns-clause-adds : goal.note_export-returns-clause-adds
note_export-returns-clause-adds t c =
    let found : get (slice_cmp nat_cmp) c.args.names.now c.entry_at-asked.result.0.now ≡ Some c.in-Some.given.now = search rules in
    λ given name mark asked names is.
    let item = c.entry_at-asked.ensures name mark (plain_entity asked) is in
    let here = subst (λ o. IsUnder c.args.table.now o (under name given)) (ap (get (slice_cmp nat_cmp) c.args.names.now) (sym item.0) ∙ found) (names name) in
    found_adds c.args.table.now c.in-Some.given.now (under name given) asked c.args.found.now c.note_entity.new.found here (λ e s. c.in_ok-note_entity.ensures.adds e asked s item.1)

pub note_exports-note_export-requires : goal.note_exports-note_export-requires
note_exports-note_export-requires t c =
    let lt : c.loop-part.part-index < length c.args.parts.now = search rules in
    let names = c.requires.names in
    let asked = c.requires.asked in
    let left = subst (λ ps. IsAdded c.args.table.now ps names.0 asked.0 c.args.found.now c.loop-part.found) (dropped c.args.parts.now c.loop-part.part-index 0 lt) (c.loop-part.invariant.added names.0 asked.0 names.1 asked.1) in
    (search rules, (below_at (length c.args.table.now) c.args.parts.now c.loop-part.part-index 0 c.requires.below lt, (names, (added_here c.args.table.now (slice_index_or c.args.parts.now c.loop-part.part-index 0) (drop (c.loop-part.part-index + 1) c.args.parts.now) names.0 asked.0 c.args.found.now c.loop-part.found left, c.loop-part.invariant.covered))))

pub note_exports-loop-part-preserved : goal.note_exports-loop-part-preserved
note_exports-loop-part-preserved t c =
    let lt : c.loop-part.part-index < length c.args.parts.now = search rules in
    record {
      covered = c.in_ok-note_export.ensures.covered;
      added = λ given asked names trees.
          let left = subst (λ ps. IsAdded c.args.table.now ps given asked c.args.found.now c.loop-part.found) (dropped c.args.parts.now c.loop-part.part-index 0 lt) (c.loop-part.invariant.added given asked names trees) in
          added_later c.args.table.now (slice_index_or c.args.parts.now c.loop-part.part-index 0) (drop (c.loop-part.part-index + 1) c.args.parts.now) given asked c.args.found.now c.loop-part.found left c.note_export.new.found
          (λ name mark item here. c.in_ok-note_export.ensures.adds given name mark item names here);
    }

pub note_exports-returns-clause-adds : goal.note_exports-returns-clause-adds
note_exports-returns-clause-adds t c =
    let end : c.loop-part.part-index ≡ length c.args.parts.now = search rules in
    λ given asked names trees. added_all c.args.table.now given asked c.args.found.now c.loop-part.found
    (subst (λ ps. IsAdded c.args.table.now ps given asked c.args.found.now c.loop-part.found) (nothing_left c.args.parts.now c.loop-part.part-index end) (c.loop-part.invariant.added given asked names trees))

pub note_instance-returns-then-contains-clause-adds : goal.note_instance-returns-then-contains-clause-adds
note_instance-returns-then-contains-clause-adds t c =
    let is : contains pair_cmp c.args.seen.now c.args.pair ≡ true = search rules in
    adds_covered c.args.table.now c.args.found.now c.args.pair (c.requires.covered c.args.pair is)

pub note_instance-names_of-requires-clause-below : goal.note_instance-names_of-requires-clause-below
note_instance-names_of-requires-clause-below t c = let given = c.requires.given in
    below_wider c.args.pair.given (length c.args.table.now) c.parts.result.now given.1.there c.parts.ensures.below

pub note_instance-names_of-requires-clause-entries : goal.note_instance-names_of-requires-clause-entries
note_instance-names_of-requires-clause-entries t c =
    let given = c.requires.given in
    let asked = c.requires.asked in
    let both = instances_at c.args.table.now c.args.pair given.0 asked.0 given.1 asked.1 c.requires.instances in
    (both.0.0, c.parts.ensures.parts ∙ ap below_root (given.1.tree_is ∙ ap plain_entity both.0.1))

pub note_instance-note_exports-requires : goal.note_instance-note_exports-requires
note_instance-note_exports-requires t c =
    let fewer : c.in_ok-levels.levels < c.args.levels = c.in_ok-levels.ensures in
    let given = c.requires.given in
    let asked = c.requires.asked in
    let both = instances_at c.args.table.now c.args.pair given.0 asked.0 given.1 asked.1 c.requires.instances in
    let names = c.in_ok-names.ensures both.0.0 (c.parts.ensures.parts ∙ ap below_root (given.1.tree_is ∙ ap plain_entity both.0.1)) in
    (search (rules, fewer), (below_wider c.args.pair.asked (length c.args.table.now) c.parts-2.result.now asked.1.there c.parts-2.ensures.below, ((both.0.0, names), ((both.1.0, c.parts-2.ensures.parts ∙ ap below_root (asked.1.tree_is ∙ ap plain_entity both.1.1)), c.requires.covered))))

pub note_instance-returns-clause-adds : goal.note_instance-returns-clause-adds
note_instance-returns-clause-adds t c = λ given asked s u.
    let both = instances_at c.args.table.now c.args.pair given asked s u c.requires.instances in
    subst (Adds c.args.found.now c.note_exports.new.found) (λ i. stands (sym both.0.1 i) (sym both.1.1 i))
    (c.in_ok-note_exports.ensures.adds both.0.0 both.1.0
    (c.in_ok-names.ensures both.0.0 (c.parts.ensures.parts ∙ ap below_root (s.tree_is ∙ ap plain_entity both.0.1)))
    (c.parts-2.ensures.parts ∙ ap below_root (u.tree_is ∙ ap plain_entity both.1.1)))

pub note_instance-returns-clause-covered : goal.note_instance-returns-clause-covered
note_instance-returns-clause-covered t c =
    covered_more c.args.table.now c.note_exports.new.found c.note_exports.new.seen c.insert.new.self c.args.pair c.in_ok-note_exports.ensures.covered
    (covered_here c.args.table.now c.args.found.now c.note_exports.new.found c.args.pair (note_instance-returns-clause-adds t c)) c.in_ok-insert.ensures.updates
