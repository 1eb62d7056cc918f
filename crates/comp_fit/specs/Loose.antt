-- Entities in which all resources are one.
use Rattle.std.specs.Prelude.{None, true}
use Rattle.comp_entity.specs.Entity.{EntityTree, made}
use Rattle.comp_entity.specs.Names.{Change, entity_by}
use Rattle.comp_table.specs.Changes.{tree_by}
use Rattle.comp_table.specs.Trees.{PlainTree}

-- the change that takes all resources as one, and sets aside the places that named types, and the naming bits
abbrev pub loosely : Change
loosely = record { resource = λ depth n. made 0; place = λ depth n. None; mark = λ m. true }

abbrev pub loose : EntityTree → EntityTree
loose e = entity_by loosely 0 e

abbrev pub loose_tree : PlainTree → PlainTree
loose_tree t = tree_by loosely 0 t
