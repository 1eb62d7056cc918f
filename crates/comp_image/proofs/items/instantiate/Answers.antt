use Rattle.std.proofs.Common.{sym, ◌∙◌, ap}
use Rattle.std.specs.Prelude.{Some, option_map}
use Rattle.comp_image.specs.declared.numbered.Indexed.{Indexed}
use Rattle.comp_image.specs.Numbered.{indexed_of}
use Rattle.comp_image.specs.Progress.{instantiated}
use Rattle.comp_image.proofs.ItemLaws.{instance_is, instance_fails, handed_on}
use Rattle.comp_image.proofs.items.instantiate.Goals as goal

pub returns-in_err-arguments : goal.returns-in_err-arguments
returns-in_err-arguments c = λ imports p shows.
    let is = sym (c.get.ensures p.numbered shows.numbered) ∙ ap (option_map indexed_of) c.in-Some-Component.is ∙ ap (λ (x : Indexed). Some (indexed_of x)) c.in-Some-Component.field-0-is in
    handed_on imports c.args.progress.now c.from_residual.result c.in_err-arguments.field-0.0 (instantiated p c.args.component c.args.args.now) c.from_residual.ensures.1
    (instance_fails p c.args.component c.in-Some-Component.component c.args.args.now c.in_err-arguments.field-0.0 is (c.in_err-arguments.ensures p.numbered shows.numbered))

pub returns : goal.returns
returns c = λ imports p shows.
    let is = sym (c.get.ensures p.numbered shows.numbered) ∙ ap (option_map indexed_of) c.in-Some-Component.is ∙ ap (λ (x : Indexed). Some (indexed_of x)) c.in-Some-Component.field-0-is in
    record {
      next = _;
      given_is = instance_is p c.args.component c.in-Some-Component.component c.args.args.now _ is (c.in_ok-arguments.ensures p.numbered shows.numbered);
      shown = c.in_ok-add_instance.ensures imports p shows;
    }
