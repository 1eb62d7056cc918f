use Rattle.std.proofs.Common.{◌≡◌, List, ◌∷◌, [], Some, sym, ap, ◌∙◌, arith, map}
use Rattle.compose_order.specs.Known.{left_tree}
use Rattle.compose_naming.specs.Bits.{Scope, behind_lefts, opened, outermost}
use Rattle.compose_naming.specs.Scopes.{scopes_in, where_passed}
use Rattle.compose_naming.proofs.LeftLaws.{all_taken, left_passed, mapped_more, mapped_there}
use Rattle.compose_naming.proofs.lefts.first_without_bit.Goals as goal

pub loop-number-init : goal.loop-number-init
loop-number-init c =
    let none : scopes_in c.new-scopes.result.items ≡ [] = ap scopes_in c.new-scopes.ensures.items in
    ap (λ s. Some s) (sym (c.in_ok-enter.ensures ∙ ap (λ (s : List Scope). opened 2 ∷ s) none))

pub returns-then-not-branch : goal.returns-then-not-branch
returns-then-not-branch c = record {
  import = left_tree c.index-imports-number.result;
  there =
      mapped_there left_tree c.args.imports.now c.loop-number.number c.index-imports-number.result c.loop-number-test.true
      c.index-imports-number.is;
  scopes = scopes_in c.loop-number.scopes.items;
  before = c.loop-number.invariant;
  fails =
      c.in_ok-pass_left.ensures
      ∙ ap (λ passes. where_passed passes (scopes_in c.pass_left.new.scopes.items)) c.if-not-branch.true;
}

pub loop-number-preserved : goal.loop-number-preserved
loop-number-preserved c =
    left_passed (map left_tree c.args.imports.now) c.loop-number.number (left_tree c.index-imports-number.result)
    (scopes_in c.loop-number.scopes.items) (scopes_in c.pass_left.new.scopes.items)
    (mapped_more left_tree c.args.imports.now c.loop-number.number c.index-imports-number.result c.loop-number-test.true
    c.index-imports-number.is)
    c.loop-number.invariant
    (c.in_ok-pass_left.ensures
    ∙ ap (λ passes. where_passed passes (scopes_in c.pass_left.new.scopes.items)) c.if-not-branch.false)

pub returns : goal.returns
returns c = record {
  scopes = scopes_in c.loop-number.scopes.items;
  are =
      ap (λ ls. behind_lefts ls outermost)
      (sym (all_taken left_tree c.args.imports.now c.loop-number.number (let e = c.loop-number-test.false in omega (arith, e))))
      ∙ c.loop-number.invariant;
}
