use Rattle.std.proofs.Common.{rules, ap, ◌∙◌}
use Rattle.comp_entity.specs.declared.entity.Entity.{the_lemmas}
use Rattle.comp_entity.specs.Places.{leaves_of}
use Rattle.comp_entity.specs.Views.{entity_tree}
use Rattle.compose_writing.specs.WriteEntities.{note_all}
use Rattle.compose_writing.specs.WriteEntities.{leaves_known}
use Rattle.compose_types.specs.Scopes.{scopes}
use Rattle.compose_types.proofs.NoteLaws.{entry_keeps, path_keeps, exports_step, exports_end}
use Rattle.compose_types.proofs.notes.+walking.Goals as goal

pub note_exports-note_leaves-requires : goal.note_exports-note_leaves-requires
note_exports-note_leaves-requires t c = (
  search (rules, the_lemmas),
  (
    rw (c.as_slice.ensures, c.in_ok-inner.ensures.value) (path_keeps c.args.path.now c.export-item.result.0 c.requires.0 (entry_keeps c.args.exports.now c.loop-export.export-index c.export-item.result c.requires.1 c.loop-export-test.true c.export-item.is).0),
    (entry_keeps c.args.exports.now c.loop-export.export-index c.export-item.result c.requires.1 c.loop-export-test.true c.export-item.is).1,
  ),
)

pub note_exports-loop-export-preserved : goal.note_exports-loop-export-preserved
note_exports-loop-export-preserved t c =
    let x = c.export-item.result in
    let before = scopes c.loop-export.state in
    exports_step c.args.index c.args.path.now c.args.exports.now c.loop-export.export-index x before (scopes c.note_leaves.new.state) c.loop-export-test.true c.export-item.is
    (c.in_ok-note_leaves.ensures.noted ∙ ap (λ path. note_all (leaves_known c.args.index (leaves_of path (entity_tree x.1))) before) (c.as_slice.ensures ∙ c.in_ok-inner.ensures.value))
    ∙ c.loop-export.invariant

pub note_exports-returns-clause-noted : goal.note_exports-returns-clause-noted
note_exports-returns-clause-noted t c = exports_end c.args.index c.args.path.now c.args.exports.now c.loop-export.export-index (scopes c.loop-export.state) _ c.loop-export-test.false c.loop-export.invariant
