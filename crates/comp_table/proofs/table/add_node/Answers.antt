use Rattle.std.proofs.Common.{rules, ◌≡◌, subst, Some, None}
use Rattle.std.specs.BTreeMap.{Updates, get}
use Rattle.comp_table.specs.declared.key.Key.{Key}
use Rattle.comp_table.specs.Table.{key_cmp}
use Rattle.comp_table.proofs.TableLaws.{same_table, table_with, extends_with, extends_same, stands, stands_last}
use Rattle.comp_table.proofs.table.add_node.Goals as goal
use Rattle.comp_table.proofs.table.add_node.Goals.{in-Ok, in-Err}

pub returns-clause-table : goal.returns-clause-table
returns-clause-table c = elim c.match-insert.branch [
  | in-Ok w ↦ table_with c.args.nodes.now.items c.match-insert.nodes.items c.args.numbers.now c.insert.new.self c.args.node c.len-number.result (search rules)
      c.requires.table c.requires.below (subst (λ (k : Key). get key_cmp c.args.numbers.now k ≡ None) c.requires.key c.requires.absent) (search rules) c.requires.measured c.requires.bare
      (subst (λ (k : Key). Updates key_cmp c.args.numbers.now c.insert.new.self k (Some c.len-number.result)) c.requires.key w.in-Ok.ensures.updates)
  | in-Err w ↦ same_table c.args.nodes.now.items c.match-insert.nodes.items c.args.numbers.now c.insert.new.self c.requires.table (search (rules, w.drop_last.ensures)) (search rules)
]

pub returns-clause-extends : goal.returns-clause-extends
returns-clause-extends c = elim c.match-insert.branch [
  | in-Ok w ↦ extends_with c.args.nodes.now.items c.match-insert.nodes.items c.args.node (search rules)
  | in-Err w ↦ extends_same c.args.nodes.now.items c.match-insert.nodes.items (search (rules, w.drop_last.ensures))
]

pub returns-clause-number : goal.returns-clause-number
returns-clause-number c = elim c.match-insert.branch [
  | in-Ok w ↦ rw w.result-is (stands _ _ _ (stands_last c.args.nodes.now.items c.match-insert.nodes.items c.args.node c.len-number.result (search rules) (search rules)))
  | in-Err w ↦ search rules
]
