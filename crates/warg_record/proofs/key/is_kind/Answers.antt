use Rattle.std.proofs.Common.{◌≡◌, true, nat_lt, length, sym, ◌∙◌, rules, tests, arith}
use Rattle.std.proofs.lemmas.Bool.{lt-ltb, eqb-false}
use Rattle.std.proofs.lemmas.Iterator.{YieldsList-from_slice}
use Rattle.std.proofs.lemmas.Iterator.Search.{all_from_yields_List}
use Rattle.warg_record.specs.Key.{is_kind_byte}
use Rattle.warg_record.proofs.key.is_kind.Goals as goal

pub returns-then-not-is_empty : goal.returns-then-not-is_empty
returns-then-not-is_empty c =
    let all = all_from_yields_List is_kind_byte _ _ c.all.result c.all.ensures.ran (YieldsList-from_slice c.args.text.now cc) (λ x b q k. search (rules, tests)) in
    let some = eqb-false (length c.args.text.now) 0 (sym c.is_empty.ensures ∙ c.if-not-is_empty.true) in
    let there : nat_lt 0 (length c.args.text.now) ≡ true = lt-ltb 0 (length c.args.text.now) (omega arith) in
    rw there all
