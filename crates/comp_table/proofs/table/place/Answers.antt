use Rattle.std.proofs.Common.{rules, ◌≡◌, subst, Some}
use Rattle.std.specs.BTreeMap.{get}
use Rattle.comp_table.specs.declared.key.Key.{Key}
use Rattle.comp_table.specs.Table.{key_cmp}
use Rattle.comp_table.proofs.TableLaws.{stands, stands_found}
use Rattle.comp_table.proofs.table.place.Goals as goal

pub returns-in-Some-clause-number : goal.returns-in-Some-clause-number
returns-in-Some-clause-number c =
    let found : get key_cmp c.args.numbers.now c.in_ok-key.key ≡ Some c.in-Some.number.now = search rules in
    let at = subst (λ (k : Key). get key_cmp c.args.numbers.now k ≡ Some c.in-Some.number.now) c.in_ok-key.ensures found in
    stands _ _ _ (stands_found c.args.nodes.now.items c.args.numbers.now c.in-Some.number.now c.args.head c.args.parts c.requires.table at)
