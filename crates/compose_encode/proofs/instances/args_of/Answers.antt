use Rattle.std.proofs.Common.{◌∙◌, ◌++◌, map, sym, ap}
use Rattle.std.proofs.lemmas.List.{append-nil}
use Rattle.comp_entity.specs.Entity.{ShapeTree}
use Rattle.comp_entity.specs.Views.{named_entities}
use Rattle.comp_format.specs.declared.types.Arg.{Arg}
use Rattle.compose_left.specs.declared.wiring.Wire.{Wire}
use Rattle.compose_image.specs.Instances.{given_arg, given_args, open_arg, open_from}
use Rattle.compose_encode.specs.Looked.{lent_tree}
use Rattle.compose_encode.proofs.instances.args_of.Goals as goal

pub returns-in_ok-push_all_open-in-Some : goal.returns-in_ok-push_all_open-in-Some
returns-in_ok-push_all_open-in-Some c = λ define imports w t h.
    let k = lent_tree c.args.tables.now in
    let f : Wire → Arg = λ wire. given_arg k w wire wire.export in
    let given = c.in_ok-args.ensures imports w h ∙ ap (map f) c.requires in
    let shape = ap named_entities c.deref.ensures.value ∙ ap (λ (s : ShapeTree). s.imports) c.in-Some.ensures.value in
    c.in_ok-push_all_open-in-Some.ensures define imports t ∙ (λ i. given i ++ map (open_arg imports) (open_from k c.args.instance 0 (shape i)))

pub returns-in-None : goal.returns-in-None
returns-in-None c = λ define imports w t h.
    let k = lent_tree c.args.tables.now in
    let f : Wire → Arg = λ wire. given_arg k w wire wire.export in
    c.in_ok-args.ensures imports w h ∙ ap (map f) c.requires ∙ sym (append-nil (given_args k w c.args.instance))
    ∙ ap (λ (s : ShapeTree). given_args k w c.args.instance ++ map (open_arg imports) (open_from k c.args.instance 0 s.imports)) c.in-None.ensures.value
