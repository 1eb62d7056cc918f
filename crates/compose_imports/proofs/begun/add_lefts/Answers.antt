use Rattle.std.proofs.Common.{◌≡◌, ◌++◌, Some, ap, arith, subst, sym, ◌∙◌}
use Rattle.compose_order.specs.Known.{left_tree}
use Rattle.compose_order.specs.declared.left.LeftImport.{LeftImport}
use Rattle.compose_types.specs.Scopes.{scopes}
use Rattle.compose_image.specs.Imports.{write_lefts}
use Rattle.compose_image.specs.Writable.{AreWritable, IsWritable}
use Rattle.compose_imports.specs.Begun.{HasWritten}
use Rattle.compose_imports.specs.Calls.{HasNamedCalls}
use Rattle.compose_imports.proofs.AddedLaws.{added_next, added_none, all_mapped, all_written, next_refused, next_writable}
use Rattle.compose_imports.proofs.LeftLaws.{alone_of, left_alone, left_only, map_flat}
use Rattle.compose_imports.proofs.RefusalLaws.{told}
use Rattle.compose_imports.proofs.begun.add_lefts.Goals as goal

pub loop-left-init : goal.loop-left-init
loop-left-init c =
    added_none (alone_of left_tree) c.args.lefts.now c.args.begun.now
    (subst (λ ls. AreWritable ls (scopes c.args.begun.now.state)) (sym (map_flat left_tree c.args.lefts.now))
    c.requires.writable)

pub add_left-requires-clause-writable : goal.add_left-requires-clause-writable
add_left-requires-clause-writable c =
    subst (λ (x : LeftImport). IsWritable (left_tree x) (scopes c.loop-left.begun.state)) (sym c.left-item.is)
    (next_writable (alone_of left_tree) c.args.lefts.now c.loop-left.left-index c.left-item.result c.args.begun.now
    c.loop-left.begun c.loop-left-test.true c.loop-left.invariant).0

pub add_left-requires-clause-called : goal.add_left-requires-clause-called
add_left-requires-clause-called c =
    subst (λ (x : LeftImport). HasNamedCalls (left_tree x)) (sym c.left-item.is)
    (all_mapped HasNamedCalls left_tree c.args.lefts.now c.loop-left.left-index c.left-item.result c.requires.called
    c.loop-left-test.true)

pub loop-left-preserved : goal.loop-left-preserved
loop-left-preserved c =
    let x = c.left-item.result in
    let mid = c.loop-left.begun in
    let new = c.add_left.new.begun in
    added_next (alone_of left_tree) c.args.lefts.now c.loop-left.left-index x c.args.begun.now mid new
    c.loop-left-test.true c.loop-left.invariant
    (subst (λ (y : LeftImport). write_lefts (alone_of left_tree y) (scopes mid.state) ≡ Some (scopes new.state))
    c.left-item.is (left_alone (left_tree x) (scopes mid.state) (scopes new.state) c.in_ok-add_left.ensures.next))
    (λ ls h. subst (λ (y : LeftImport). HasWritten new (ls ++ alone_of left_tree y)) c.left-item.is
    (c.in_ok-add_left.ensures.written ls h))

pub returns-in_err-add_left-clause-among : goal.returns-in_err-add_left-clause-among
returns-in_err-add_left-clause-among c = λ n next e is.
    let x = c.left-item.result in
    let mid = c.loop-left.begun in
    next_refused (alone_of left_tree) c.args.lefts.now c.what_is_written_for_imports_only_grows.ensures.lefts n
    c.loop-left.left-index x c.args.begun.now mid next c.loop-left-test.true c.loop-left.invariant
    (λ ms h. c.in_err-add_left.ensures.among n ms (told c.from_residual.result _ n c.from_residual.ensures.1 e)
    (left_only (left_tree x) (scopes mid.state) ms
    (subst (λ (y : LeftImport). write_lefts (alone_of left_tree y) (scopes mid.state) ≡ Some ms) (sym c.left-item.is) h)))
    (ap (λ ls. write_lefts ls (scopes c.args.begun.now.state)) (map_flat left_tree c.args.lefts.now) ∙ is)

pub returns-clause-written : goal.returns-clause-written
returns-clause-written c = λ ls h.
    subst (λ xs. HasWritten c.loop-left.begun (ls ++ xs)) (map_flat left_tree c.args.lefts.now)
    (all_written (alone_of left_tree) c.args.lefts.now c.loop-left.left-index c.args.begun.now c.loop-left.begun
    (omega arith) c.loop-left.invariant ls h)
