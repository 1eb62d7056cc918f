use Rattle.comp_define.specs.Sides.{plain_side}
use Rattle.comp_entity.specs.Names.{changing, entries_by}
use Rattle.comp_scope.specs.Closing.{renumbered}
use Rattle.comp_table.specs.StandLaws.{same_stands, stands_kept}
use Rattle.comp_define.proofs.closing.with_numbers.Goals as goal

pub renumbered-requires : goal.renumbered-requires
renumbered-requires c = c.requires.1.imports.there

pub renumbered-requires-2 : goal.renumbered-requires-2
renumbered-requires-2 c = (stands_kept c.args.table.now c.renumbered.new.table c.in_ok-imports.ensures.extends c.args.sides.exports _ c.requires.1.exports).there

pub returns-clause-found : goal.returns-clause-found
returns-clause-found c = λ s order shows.
    let exports = stands_kept c.args.table.now c.renumbered.new.table c.in_ok-imports.ensures.extends c.args.sides.exports (plain_side s.exports) shows.exports in
    record {
      imports = same_stands c.renumbered-2.new.table c.in_ok-imports.imports _ _ (λ i. plain_side (entries_by (changing (renumbered (order.resources i)) (renumbered (order.places i))) 0 s.imports))
          (stands_kept c.renumbered.new.table c.renumbered-2.new.table c.in_ok-exports.ensures.extends c.in_ok-imports.imports _ (c.in_ok-imports.ensures.number s.imports shows.imports));
      exports = same_stands c.renumbered-2.new.table c.in_ok-exports.exports _ _ (λ i. plain_side (entries_by (changing (renumbered (order.resources i)) (renumbered (order.places i))) 0 s.exports))
          (c.in_ok-exports.ensures.number s.exports exports);
    }
