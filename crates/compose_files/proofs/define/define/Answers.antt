use Rattle.std.proofs.Common.{◌≡◌, ℕ, List, ap, sym, ◌∙◌, subst, inl, inr, refl, Some, bytes_eq}
use Rattle.std.specs.Map.{lookup}
use Rattle.std.specs.Option.{option_or}
use Rattle.warg_base.specs.Files.{file_at}
use Rattle.compose_graph.specs.Graph.{ComponentEntry, component_named, with_component}
use Rattle.compose_graph.specs.Refusal.{IsAddRefusal}
use Rattle.compose_graph.specs.Listed.{entry_of, graph_of}
use Rattle.compose_component.specs.Component.{bytes_of, shape_of}
use Rattle.compose_files.specs.Built.{offer}
use Rattle.compose_files.specs.Paths.{joined, stem}
use Rattle.compose_files.specs.Refusals.{IsGraphRefusal, IsReadRefusal}
use Rattle.compose_files.proofs.Apart.{none_some}
use Rattle.compose_files.proofs.RefusalSteps.{handed_on}
use Rattle.compose_files.proofs.define.define.Goals as goal

pub returns-in_err-component-clause-refused : goal.returns-in_err-component-clause-refused
returns-in_err-component-clause-refused g c =
    let path_is = c.as_str-4.ensures ∙ c.in_ok-file.ensures ∙ (λ k. joined (c.as_str-2.ensures k) (c.as_str-3.ensures k)) in
    handed_on c.from_residual-in_err-component.result c.in_err-component.field-0.0 _ c.from_residual-in_err-component.ensures.1
    (λ held told. inr (record {
      name = c.in-Some.name.now;
      stem_is = ap stem (sym c.as_str.ensures) ∙ sym c.in-Some.ensures.stem;
      refused = inl (subst (λ (p : List ℕ). IsReadRefusal held p c.in_err-component.field-0.0) path_is (c.in_err-component.ensures.refused held told));
    }))

pub returns-in_err-id-clause-refused : goal.returns-in_err-id-clause-refused
returns-in_err-id-clause-refused g c =
    let path_is = c.as_str-4.ensures ∙ c.in_ok-file.ensures ∙ (λ k. joined (c.as_str-2.ensures k) (c.as_str-3.ensures k)) in
    handed_on c.from_residual-in_err-id.result c.in_err-id.field-0.0 _ c.from_residual-in_err-id.ensures.1
    (λ held told. inr (record {
      name = c.in-Some.name.now;
      stem_is = ap stem (sym c.as_str.ensures) ∙ sym c.in-Some.ensures.stem;
      refused = inr (record {
        bytes = bytes_of c.in_ok-component.component;
        found = ap (file_at held) (sym path_is) ∙ c.in_ok-component.ensures.found held told;
        shape = shape_of c.in_ok-component.component;
        shaped = c.in_ok-component.ensures.shaped;
        refused = subst (λ (n : List ℕ). IsGraphRefusal (IsAddRefusal (graph_of c.args.builder.now.graph) n) c.in_err-id.field-0.0) c.in_ok-component.ensures.named c.in_err-id.ensures.refused;
      });
    }))

pub unreachable-requires : goal.unreachable-requires
unreachable-requires g c = none_some _ (sym c.in_ok-id.ensures.there ∙ sym c.in_default-get_component.ensures)

pub returns-clause-defined : goal.returns-clause-defined
returns-clause-defined g c = λ held told.
    let path_is = c.as_str-4.ensures ∙ c.in_ok-file.ensures ∙ (λ k. joined (c.as_str-2.ensures k) (c.as_str-3.ensures k)) in
    let component = c.in_ok-component.component in
    let found : Some (entry_of c.in_ok-id.id.0 c.in-Some-get_component.added.now) ≡ Some (entry_of c.in_ok-id.id.0 component) = c.in-Some-get_component.ensures ∙ c.in_ok-id.ensures.there in
    let same : entry_of c.in_ok-id.id.0 c.in-Some-get_component.added.now ≡ entry_of c.in_ok-id.id.0 component = some_is found in
    let shape : shape_of c.in-Some-get_component.added.now ≡ shape_of component = ap (λ (e : ComponentEntry). e.shape) same in
    record {
      name = c.in-Some.name.now;
      stem_is = ap stem (sym c.as_str.ensures) ∙ sym c.in-Some.ensures.stem;
      shape = shape_of component;
      added = record {
        bytes = bytes_of component;
        found = ap (file_at held) (sym path_is) ∙ c.in_ok-component.ensures.found held told;
        shaped = c.in_ok-component.ensures.shaped;
        free = ap (component_named (graph_of c.args.builder.now.graph).components) (sym c.in_ok-component.ensures.named) ∙ c.in_ok-id.ensures.free;
        added = c.in_ok-id.ensures.added ∙ ap (λ n. with_component (graph_of c.args.builder.now.graph) n (bytes_of component) (shape_of component)) c.in_ok-component.ensures.named;
      };
      named = refl;
      made = refl;
      offers = λ import. c.in_ok-add_offers.ensures import
          ∙ (λ k. option_or (lookup (bytes_eq import) c.args.builder.now.offers.entries) (offer (c.in_ok-id.ensures.id k) (shape k) import));
    }
  where
    some_is : {a b : ComponentEntry} → Some a ≡ Some b → a ≡ b
    some_is h = cc
