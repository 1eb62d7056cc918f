use Rattle.std.proofs.Common.{Err, ◌∙◌, ap, refl, subst, sym}
use Rattle.comp_shape.specs.Refusal.{IsRefused}
use Rattle.compose_component.specs.declared.error.ComponentError.TheVariants.{BadComponent}
use Rattle.compose_component.specs.Component.{bytes_of, shape_of}
use Rattle.warg_program.specs.Lines.{bytes_line}
use Rattle.warg_program.proofs.RootLaws.{unencoded_cause}
use Rattle.warg_program.proofs.link.linked.Goals as goal

pub returns-in-Err-BadComponent-clause-stopped : goal.returns-in-Err-BadComponent-clause-stopped
returns-in-Err-BadComponent-clause-stopped g c =
    let at = c.in-Err-BadComponent in
    let why = at.ensures.bad_component at.error (ap (λ e. Err e) at.field-0-is) in (
      refl,
      record {
        bytes = why.0;
        there = why.1;
        refused = subst (λ e. IsRefused e why.0) (sym at.error-is) why.2;
        no_shape = λ tree h. at.ensures.not_for_memory (ap (λ e. Err e) (at.field-0-is ∙ ap BadComponent (c.shapes_are_read.ensures at.error why.0 tree why.2 h)));
      },
    )

pub returns-in-Err-encoded-clause-stopped : goal.returns-in-Err-encoded-clause-stopped
returns-in-Err-encoded-clause-stopped g c =
    let root = c.in-Ok.component in
    unencoded_cause c.in-Err-encoded.stop c.args.root.now c.args.out.now _ _ (bytes_of root) (shape_of root)
    (record { there = c.in-Ok.ensures.found; has_shape = c.in-Ok.ensures.read.shown.has_shape })
    (c.in-Err-encoded.ensures.stopped (bytes_of root) (shape_of root) c.in-Ok-root_graph.ensures)

pub returns-in-Ok-bytes_line-clause-made : goal.returns-in-Ok-bytes_line-clause-made
returns-in-Ok-bytes_line-clause-made g c =
    let root = c.in-Ok.component in
    record {
      bytes = bytes_of root;
      tree = shape_of root;
      is_root = record { there = c.in-Ok.ensures.found; has_shape = c.in-Ok.ensures.read.shown.has_shape };
      encoded = c.in-Ok-encoded.ensures.encoded (bytes_of root) (shape_of root) c.in-Ok-root_graph.ensures;
      line_is = c.in-Ok-bytes_line.ensures ∙ ap bytes_line c.deref.ensures.value;
    }
