-- A node that is not read as a configuration says why.
use Rattle.std.proofs.Common.{◌≡◌, [], Bool, true, false, inl, Option, Some, None, Result, Ok, Err, refl, sym, ap, ◌∙◌, bytes_eq, codes}
use Rattle.indexmap.specs.IndexMap.{insert_entry}
use Rattle.warg_values.specs.Reading.{◌>>=◌}
use Rattle.yaml_small.specs.declared.event.Event.{Event}
use Rattle.yaml_small.specs.Trees.{Tree, Leaf, Seq, Map}
use Rattle.yaml_small.specs.Stream.{State}
use Rattle.yaml_read.specs.Source.{Source, Refusal, Refused, front}
use Rattle.yaml_read.specs.Scalar.{truth, any_at}
use Rattle.yaml_read.specs.Collections.{is_scalar, scalar_front, option_at, pushed}
use Rattle.yaml_read.specs.Nodes.{any_node}
use Rattle.yaml_read.specs.Emitted.{Emits, Reads}
use Rattle.yaml_read.specs.Laws.{any_reads}
use Rattle.yaml_read.specs.CollectionLaws.{true_false, false_true, map_reads}
use Rattle.yaml_read.specs.PartLaws.{mapped_reads}
use Rattle.compose_config.specs.Plan
use Rattle.compose_config.specs.PlanLaws as plans
use Rattle.yaml_causes.specs.Causes.{OrUncounted, first_event, RefusesAny, RefusesOption}
use Rattle.yaml_causes.specs.PlanCauses.{RefusesValue, RefusesIndex, RefusesPath, RefusesDependency, RefusesPart, RefusesArgument, RefusesPlace, RefusesInstance, RefusesNames, RefusesInstances, RefusesSetting, RefusesSettings}
use Rattle.yaml_causes.specs.TreeLaws.{emits_first}
use Rattle.yaml_causes.specs.CauseLaws.{Tells, steps, front_told, front_event, no_ok, any_tells, plain_tells, list_tells, map_tells, option_tells, mapped_tells, tested_tells, tested_told, unknown_tells, if_tells}

-- a scalar that is a text, or what the type reads
value_told : {X : Type 0} (of_text : Plan.Name → Option X) (Refuses : Option Tree → Refusal → Type 0) (read : Source → Result (X × Source) Refused) → Tells Refuses read
    → (s : Source) (node : Option Tree) (z : State) (r : Refused) → Emits s.state node z → Plan.value_at of_text read s ≡ Err r → OrUncounted (RefusesValue of_text Refuses node) r.refusal
unfolding Plan.value_at scalar_front
value_told {X} of_text Refuses read tells s node z r run h =
    let f = emits_first s.state node z run in
    steps (scalar_front s) _ r h
    (λ no. inl (steps (front s) _ r no (λ nothing. front_told s (first_event node) f.0 r f.1 nothing) (λ c. no_ok r c.then)))
    (λ c. by node run c.value (scalar_is c.value c.is) c.then)
  where
    is_one : (b : Bool) (e : Event) (p : Result Event Refused) → front s ≡ p → (p >>= λ event. Ok (is_scalar event)) ≡ Ok b → is_scalar (first_event node) ≡ b
    is_one b e (Err x) is h = absurd cc
    is_one b e (Ok d) is h =
        let f = emits_first s.state node z run in
        ap is_scalar (sym (front_event s (first_event node) f.0 d f.1 is)) ∙ same d b h
      where
        scalars : Event → Result Bool Refused
        scalars event = Ok (is_scalar event)

        same : (d : Event) (b : Bool) → scalars d ≡ Ok b → is_scalar d ≡ b
        same d b h = cc

    scalar_is : (b : Bool) → scalar_front s ≡ Ok b → is_scalar (first_event node) ≡ b
    scalar_is b h = is_one b (first_event node) (front s) refl h

    by : (n : Option Tree) → Emits s.state n z → (b : Bool) → is_scalar (first_event n) ≡ b → Plan.chosen b of_text read s ≡ Err r → OrUncounted (RefusesValue of_text Refuses n) r.refusal
    by (Some (Leaf a)) run true is h = tested_told (Plan.text_value of_text) (any_node Ok) RefusesAny any_at any_reads any_tells s (Some (Leaf a)) z r run h
    by (Some (Leaf a)) run false is h = absurd (true_false is)
    by None run true is h = absurd (false_true is)
    by (Some (Seq ts)) run true is h = absurd (false_true is)
    by (Some (Map ps)) run true is h = absurd (false_true is)
    by None run false is h = tells.told s None z r run h
    by (Some (Seq ts)) run false is h = tells.told s (Some (Seq ts)) z r run h
    by (Some (Map ps)) run false is h = tells.told s (Some (Map ps)) z r run h

value_tells : {X : Type 0} (of_text : Plan.Name → Option X) (Refuses : Option Tree → Refusal → Type 0) (read : Source → Result (X × Source) Refused) → Tells Refuses read → Tells (RefusesValue of_text Refuses) (Plan.value_at of_text read)
value_tells of_text Refuses read tells = record { told = value_told of_text Refuses read tells }

index_tells : {X : Type 0} (of_text : Plan.Name → Option X) (of_node : Option Tree → Option X) (Refuses : Option Tree → Refusal → Type 0) (read : Source → Result (X × Source) Refused) → Reads of_node read → Tells Refuses read
    → Tells (RefusesIndex of_text of_node Refuses) (Plan.index_at of_text read)
index_tells of_text of_node Refuses read law tells =
    map_tells _ _ _ (plans.index_entry of_text of_node read law) (λ es key. mapped_tells (insert_entry bytes_eq es key) _ _ (value_tells of_text Refuses read tells)) []

path_tells : (x : Option Plan.Name) (key : Plan.Name) → Tells (RefusesPath x key) (Plan.path_fills x key)
path_tells x key = if_tells (Plan.is_name key (codes "path")) _ _ _ _ (mapped_tells Some _ _ any_tells) (unknown_tells key)

dependency_tells : Tells RefusesDependency Plan.dependency_at
dependency_tells =
    tested_tells (Plan.required (codes "path")) _ _ _ (map_reads Plan.path_takes Plan.path_fills plans.path_reads None) (map_tells Plan.path_takes RefusesPath Plan.path_fills plans.path_reads path_tells None)

optional_tells : Tells (RefusesOption RefusesAny) (option_at any_at)
optional_tells = option_tells RefusesAny any_at any_tells

part_tells : (p : Plan.Parts) (key : Plan.Name) → Tells (RefusesPart p key) (Plan.part_fills p key)
part_tells p key =
    if_tells (Plan.is_name key (codes "instance")) _ _ _ _ (mapped_tells (Plan.with_instance p) _ _ any_tells)
    (if_tells (Plan.is_name key (codes "export")) _ _ _ _ (mapped_tells (Plan.with_export p) _ _ optional_tells) (unknown_tells key))

argument_tells : Tells RefusesArgument Plan.argument_at
argument_tells =
    tested_tells Plan.argument_of _ _ _ (map_reads Plan.part_takes Plan.part_fills plans.part_reads Plan.no_parts) (map_tells Plan.part_takes RefusesPart Plan.part_fills plans.part_reads part_tells Plan.no_parts)

place_tells : (i : Plan.Instance) (key : Plan.Name) → Tells (RefusesPlace i key) (Plan.instance_fills i key)
place_tells i key =
    if_tells (Plan.is_name key (codes "dependency")) _ _ _ _ (mapped_tells (Plan.with_dependency i) _ _ optional_tells)
    (if_tells (Plan.is_name key (codes "arguments")) _ _ _ _
    (mapped_tells (Plan.with_arguments i) _ _ (index_tells Plan.plain_argument Plan.argument_node RefusesArgument Plan.argument_at plans.argument_reads argument_tells)) (unknown_tells key))

instance_tells : Tells RefusesInstance Plan.instance_at
instance_tells = map_tells Plan.instance_takes RefusesPlace Plan.instance_fills plans.instance_entry place_tells Plan.no_instance

names_tells : Tells RefusesNames Plan.names_at
names_tells = list_tells _ _ _ (λ xs at. mapped_reads (pushed xs) (any_node Ok) any_at any_reads) (λ xs at. mapped_tells (pushed xs) _ _ any_tells) []

instances_tells : Tells RefusesInstances Plan.instances_at
instances_tells =
    map_tells _ _ _ (λ es key. mapped_reads (insert_entry bytes_eq es key) Plan.instance_node Plan.instance_at plans.instance_reads) (λ es key. mapped_tells (insert_entry bytes_eq es key) _ _ instance_tells) []

setting_tells : (s : Plan.Settings) (key : Plan.Name) → Tells (RefusesSetting s key) (Plan.setting_fills s key)
setting_tells s key =
    if_tells (Plan.is_name key (codes "definitions")) _ _ _ _ (mapped_tells (Plan.with_definitions s) _ _ names_tells)
    (if_tells (Plan.is_name key (codes "search-paths")) _ _ _ _ (mapped_tells (Plan.with_search_paths s) _ _ names_tells)
    (if_tells (Plan.is_name key (codes "skip-validation")) _ _ _ _ (mapped_tells (Plan.with_skip_validation s) _ _ (plain_tells truth))
    (if_tells (Plan.is_name key (codes "import-components")) _ _ _ _ (mapped_tells (Plan.with_import_components s) _ _ (plain_tells truth))
    (if_tells (Plan.is_name key (codes "disallow-imports")) _ _ _ _ (mapped_tells (Plan.with_disallow_imports s) _ _ (plain_tells truth))
    (if_tells (Plan.is_name key (codes "dependencies")) _ _ _ _
    (mapped_tells (Plan.with_dependencies s) _ _ (index_tells Plan.plain_path Plan.dependency_node RefusesDependency Plan.dependency_at plans.dependency_reads dependency_tells))
    (if_tells (Plan.is_name key (codes "instantiations")) _ _ _ _ (mapped_tells (Plan.with_instantiations s) _ _ instances_tells) (unknown_tells key)))))))

pub settings_tells : Tells RefusesSettings Plan.settings_at
settings_tells = map_tells Plan.setting_takes RefusesSetting Plan.setting_fills plans.setting_reads setting_tells Plan.no_settings
