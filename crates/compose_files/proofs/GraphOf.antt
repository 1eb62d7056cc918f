-- What is built of a configuration and files is their graph.
use Rattle.std.proofs.Common.{◌≡◌, ℕ, List, [], ◌∷◌, length, take, refl, ap, ◌∙◌, subst, arith}
use Rattle.std.proofs.lemmas.List.{take_all}
use Rattle.std.specs.Prelude.{flat_map}
use Rattle.std.specs.List.{AllZip}
use Rattle.compose_files.specs.Built.{AfterSteps, Built, HasGoodArguments, Sources, with_named}
use Rattle.compose_files.specs.Composed.{HasTurn, ImportsSome, IsBuilt, root_name}
use Rattle.compose_files.specs.Graph.{IsGraphOf, IsOfDefinition, Named, named_of, needs_of}
use Rattle.compose_files.proofs.Drawn.{IsWired}
use Rattle.compose_files.proofs.GraphStart.{IsBegun, first_of, has_begun, start_drawn, start_wired}
use Rattle.compose_files.proofs.Turns.{IsTurned, turns_stepped}

module _ (root : List ℕ) (s : Sources) where
  graph_by : (n : ℕ) (d b : Built) (h : IsBegun root s n d) → take n s.settings.definitions ≡ s.settings.definitions → ImportsSome (with_named d root_name 0).graph d.graph.next_instance
      → IsTurned s (first_of root s n d h) (with_named d root_name 0) (Named root_name ∷ []) (length b.named) b → IsGraphOf root s b.graph
  graph_by n d b h all imports t = record {
    origins = t.after;
    first = first_of root s n d h;
    components = record {
      of_root = h.of_root;
      defined = h.defined;
      found = t.found;
      first_are = refl;
      all = t.drawn.parts.all;
      root_named = h.root_named;
      root_file = h.root_file;
      definitions = subst (λ l. AllZip (IsOfDefinition s) l h.defined) all h.definitions;
      files = t.drawn.parts.files;
      order = t.drawn.names;
      numbers = t.drawn.parts.numbers;
      next = t.drawn.parts.next;
    };
    instances = record {
      order = wired.order;
      reached = wired.reached;
      components = t.drawn.instances.components;
      numbers = t.drawn.instances.numbers;
      next = t.drawn.instances.next;
    };
    connections = record { given = wired.given; each = wired.each; connections = wired.connections };
    arguments_good = wired.arguments_good;
    root_imports =
        let kept = t.keeps d.graph.next_instance imports.component imports.made_from in
        subst (ImportsSome b.graph) h.next_instance (record { component = imports.component; made_from = kept; some = imports.some });
  }
    where
      every : take (length b.named) (named_of t.after) ≡ named_of t.after
      every = ap (λ l. take (length l) (named_of t.after)) t.drawn.named ∙ take_all (length (named_of t.after)) (named_of t.after) (omega arith)

      wired : IsWired s (first_of root s n d h) b t.after (flat_map (needs_of b.graph) (named_of t.after))
      wired = subst (λ l. IsWired s (first_of root s n d h) b t.after (flat_map (needs_of b.graph) l)) every t.wired

  pub built_is_graph : (b : Built) → IsBuilt root s b → IsGraphOf root s b.graph
  built_is_graph b h = by h.start h.started.instantiated h.started.arguments_good h.started.imports_some h.turns
    where
      by : (start : Built) → start ≡ with_named h.started.defined root_name 0 → HasGoodArguments s.settings start.graph root_name h.started.defined.graph.next_instance
          → ImportsSome start.graph h.started.defined.graph.next_instance → AfterSteps (HasTurn s) start (length b.named) b → IsGraphOf root s b.graph
      by start is good some turns =
          let begun = has_begun root s (length s.settings.definitions) h.started.defined h.started.has_defined in
          let first = first_of root s (length s.settings.definitions) h.started.defined begun in
          graph_by (length s.settings.definitions) h.started.defined b begun (take_all (length s.settings.definitions) s.settings.definitions (omega arith))
          (subst (λ (x : Built). ImportsSome x.graph h.started.defined.graph.next_instance) is some)
          (turns_stepped s first (with_named h.started.defined root_name 0) (Named root_name ∷ []) []
          (start_drawn root s (length s.settings.definitions) h.started.defined begun)
          (start_wired root s (length s.settings.definitions) h.started.defined begun (subst (λ (x : Built). HasGoodArguments s.settings x.graph root_name h.started.defined.graph.next_instance) is good))
          (length b.named) b (subst (λ x. AfterSteps (HasTurn s) x (length b.named) b) is turns))
