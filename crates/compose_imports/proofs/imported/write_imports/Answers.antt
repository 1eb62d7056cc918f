use Rattle.std.proofs.Common.{◌≡◌, ◌∙◌, ℕ, List, ◌∷◌, ◌++◌, [], None, rules, ap, subst, sym}
use Rattle.std.specs.Prelude.{option_and_then, map}
use Rattle.std.specs.BTreeMap.{get}
use Rattle.compose_left.specs.Merged.{name_cmp}
use Rattle.compose_check.specs.Composition.{composition_tree}
use Rattle.compose_image.specs.Imports.{items_in, write_lefts}
use Rattle.compose_image.specs.Writable.{AreWritable}
use Rattle.compose_meaning.specs.Items.{items_for}
use Rattle.compose_order.specs.Known.{left_tree}
use Rattle.compose_types.specs.Bodies.{entries_for}
use Rattle.compose_types.specs.Scopes.{scopes}
use Rattle.compose_writing.specs.Scopes.{WrittenScope, outermost}
use Rattle.compose_imports.specs.Begun.{HasWritten, imports_numbered}
use Rattle.compose_imports.proofs.AddedLaws.{outermost_is}
use Rattle.compose_imports.proofs.GrownLaws.{first_refused}
use Rattle.compose_imports.proofs.RefusalLaws.{told}
use Rattle.compose_imports.proofs.LeftLaws.{begun_none, entries_are, lefts_join, nothing_written, writable_behind, writable_front}
use Rattle.compose_imports.proofs.imported.write_imports.Goals as goal

pub add_components-requires : goal.add_components-requires
add_components-requires c =
    let xs = imports_numbered (composition_tree c.args.composition.now) c.args.numbers.now in
    subst (AreWritable xs) (sym c.new.ensures)
    (writable_front xs (map left_tree c.args.lefts.now) (outermost ∷ []) c.requires.writable)

pub add_lefts-requires-clause-writable : goal.add_lefts-requires-clause-writable
add_lefts-requires-clause-writable c =
    let xs = imports_numbered (composition_tree c.args.composition.now) c.args.numbers.now in
    writable_behind xs (map left_tree c.args.lefts.now) (scopes c.new.result) _
    (subst (λ ms. AreWritable (xs ++ map left_tree c.args.lefts.now) ms) (sym c.new.ensures) c.requires.writable)
    c.in_ok-add_components.ensures.next

pub returns-in_err-add_components-clause-among : goal.returns-in_err-add_components-clause-among
returns-in_err-add_components-clause-among c = λ n next e is.
    let xs = imports_numbered (composition_tree c.args.composition.now) c.args.numbers.now in
    first_refused c.what_is_written_for_imports_only_grows.ensures.lefts n xs (map left_tree c.args.lefts.now)
    (outermost ∷ []) next
    (λ ms h. c.in_err-add_components.ensures.among n ms (told c.from_residual.result _ n c.from_residual.ensures.1 e)
    (ap (write_lefts xs) c.new.ensures ∙ h)) is

pub returns-in_err-add_lefts-clause-among : goal.returns-in_err-add_lefts-clause-among
returns-in_err-add_lefts-clause-among c = λ n next e is.
    let xs = imports_numbered (composition_tree c.args.composition.now) c.args.numbers.now in
    let ys = map left_tree c.args.lefts.now in
    c.in_err-add_lefts.ensures.among n next
    (told c.from_residual-in_err-add_lefts.result _ n c.from_residual-in_err-add_lefts.ensures.1 e)
    (sym (lefts_join xs ys (scopes c.new.result) (scopes c.add_components.new.begun.state) c.in_ok-add_components.ensures.next)
    ∙ ap (write_lefts (xs ++ ys)) c.new.ensures ∙ is)

pub returns-clause-written : goal.returns-clause-written
returns-clause-written c =
    let empty : (name : List ℕ) → get name_cmp c.new-2.result name ≡ None = search rules in
    let none : HasWritten (record { state = c.new.result; names = c.new-2.result }) [] = record {
      scope = outermost;
      alone = c.new.ensures;
      written = nothing_written (outermost ∷ []);
      names = begun_none c.new-2.result empty;
    } in
    let h = c.in_ok-add_lefts.ensures.written _ (c.in_ok-add_components.ensures.written [] none) in (
      items_for h.scope.decls,
      ap (option_and_then items_in) h.written,
      record {
        entries =
            c.into_builder.ensures
            ∙ ap (λ (m : WrittenScope). entries_for m.decls) (outermost_is c.add_lefts.new.begun.state h.scope (c.the_outermost_is_last.ensures c.add_lefts.new.begun.state) h.alone)
            ∙ entries_are h.scope.decls;
        names = h.names;
      },
    )
