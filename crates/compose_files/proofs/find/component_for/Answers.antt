use Rattle.std.proofs.Common.{ℕ, List, ap, sym, ◌∙◌, subst, inr}
use Rattle.warg_base.specs.Files.{file_at}
use Rattle.compose_graph.specs.Graph.{component_named}
use Rattle.compose_graph.specs.Refusal.{IsAddRefusal}
use Rattle.compose_graph.specs.Listed.{graph_of}
use Rattle.compose_component.specs.Component.{bytes_of, shape_of}
use Rattle.compose_files.specs.Refusals.{IsGraphRefusal}
use Rattle.compose_files.proofs.RefusalSteps.{handed_on}
use Rattle.compose_files.proofs.find.component_for.Goals as goal

pub returns-in_err-id-clause-refused : goal.returns-in_err-id-clause-refused
returns-in_err-id-clause-refused g c =
    handed_on c.from_residual-in_err-id.result c.in_err-id.field-0.0 _ c.from_residual-in_err-id.ensures.1
    (λ held told. record {
      absent = ap (component_named (graph_of c.args.graph.now).components) (sym c.as_str.ensures) ∙ sym c.in_default.ensures;
      refused = inr (record {
        path = c.in-Some-2.path;
        file_is = sym (c.in_ok-path.ensures.found held told) ∙ c.in-Some-2.is;
        refused = inr (record {
          bytes = bytes_of c.in_ok-component.component;
          found = ap (file_at held) (sym c.as_str-3.ensures) ∙ c.in_ok-component.ensures.found held (c.in_ok-path.ensures.kept ∙ told);
          shape = shape_of c.in_ok-component.component;
          shaped = c.in_ok-component.ensures.shaped;
          refused = subst (λ (n : List ℕ). IsGraphRefusal (IsAddRefusal (graph_of c.args.graph.now) n) c.in_err-id.field-0.0) (c.in_ok-component.ensures.named ∙ c.as_str-2.ensures) c.in_err-id.ensures.refused;
        });
      });
    })
