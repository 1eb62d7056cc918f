-- Each read of a configuration takes what the node that is emitted there stands for.
use Rattle.std.proofs.Common.{◌≡◌, List, [], Bool, true, false, Option, Some, None, Result, Ok, Err, refl, sym, ap, ◌∙◌, bytes_eq, codes}
use Rattle.indexmap.specs.IndexMap.{insert_entry}
use Rattle.warg_values.specs.Reading.{◌>>=◌}
use Rattle.warg_values.specs.ReadingLaws.{bind_ok, ok_is}
use Rattle.yaml_small.specs.declared.event.Event.{Event}
use Rattle.yaml_small.specs.declared.event.Event.TheVariants as events
use Rattle.yaml_small.specs.Trees.{Tree, Leaf, Seq, Map, scalar_event}
use Rattle.yaml_small.specs.Stream.{State, next}
use Rattle.yaml_read.specs.Source.{Source, UnknownField, front, Refused}
use Rattle.yaml_read.specs.Scalar.{truth, any_at}
use Rattle.yaml_read.specs.Collections.{is_scalar, scalar_front, option_at, pushed, mapped_at, checked_at}
use Rattle.yaml_read.specs.Nodes.{any_node, option_node, mapped_node, checked_node}
use Rattle.yaml_read.specs.Emitted.{Emits, Found, Gets, Reads}
use Rattle.yaml_read.specs.TakingLaws.{pull_is, front_is, fronts}
use Rattle.yaml_read.specs.Laws.{plain_reads, any_reads}
use Rattle.yaml_read.specs.CollectionLaws.{emitted_once, seq_reads, map_reads}
use Rattle.yaml_read.specs.PartLaws.{option_reads, mapped_reads, checked_reads, choice_reads, refused_reads}
use Rattle.compose_config.specs.Plan

bind_twice : {A B C : Type 0} (r : Result A Refused) (g : A → Result B Refused) (h : B → Result C Refused) → ((r >>= g) >>= h) ≡ (r >>= λ a. g a >>= h)
bind_twice (Ok a) g h = refl
bind_twice (Err refusal) g h = refl

true_false : true ≡ false → ⊥
true_false h = cc

some_apart : {A : Type 0} (x : A) → None ≡ Some x → ⊥
some_apart x h = cc

text_reads : {X : Type 0} (of_text : Plan.Name → Option X) → Reads (checked_node (Plan.text_value of_text) (any_node Ok)) (checked_at (Plan.text_value of_text) any_at)
text_reads of_text = checked_reads (Plan.text_value of_text) (any_node Ok) any_at any_reads

-- a value is a scalar that is a text, or what its type reads
value_found : {X : Type 0} (of_text : Plan.Name → Option X) (of_node : Option Tree → Option X) (read : Source → Result (X × Source) Refused) → Reads of_node read
    → (s : Source) (x : X) (m : Source) → Plan.value_at of_text read s ≡ Ok (x, m) → Found (Plan.value_node of_text of_node) s x m
unfolding Plan.value_at scalar_front
value_found {X} of_text of_node read law s x m h =
    let a = bind_ok (scalar_front s) _ _ h in
    let b = bind_ok (front s) _ _ a.1 in
    let f = front_is s b.0 b.1 in
    by_event b.0 f.0.state (pull_is s b.0 f.0 f.1) (is_scalar b.0) refl (ap (λ (v : Bool). Plan.chosen v of_text read s) (ok_is {F = Refused} (is_scalar b.0) a.0 b.2) ∙ a.2)
  where
    leaf : (node : Option Tree) → checked_node (Plan.text_value of_text) (any_node Ok) node ≡ Some x → Plan.value_node of_text of_node node ≡ Some x
    leaf None is = absurd (some_apart x is)
    leaf (Some (Leaf sc)) is = is
    leaf (Some (Seq ts)) is = absurd (some_apart x is)
    leaf (Some (Map ps)) is = absurd (some_apart x is)

    other : (e : Event) (z : State) → next s.state ≡ Ok (e, z) → is_scalar e ≡ false → (node : Option Tree) → Emits s.state node m.state → of_node node ≡ Some x → Plan.value_node of_text of_node node ≡ Some x
    other e z here unlike None telling is = is
    other e z here unlike (Some (Leaf sc)) telling is = emitted_once s.state e (scalar_event sc) z telling.0 here telling.1 (λ same there. absurd (true_false (ap is_scalar (sym same) ∙ unlike)))
    other e z here unlike (Some (Seq ts)) telling is = is
    other e z here unlike (Some (Map ps)) telling is = is

    by_event : (e : Event) (z : State) → next s.state ≡ Ok (e, z) → (b : Bool) → is_scalar e ≡ b → Plan.chosen b of_text read s ≡ Ok (x, m) → Found (Plan.value_node of_text of_node) s x m
    by_event e z here true is h = let f = (text_reads of_text).sound s x m h in record { node = f.node; emitted = f.emitted; read = leaf f.node f.read }
    by_event e z here false is h = let f = law.sound s x m h in record { node = f.node; emitted = f.emitted; read = other e z here is f.node f.emitted f.read }

value_gets : {X : Type 0} (of_text : Plan.Name → Option X) (of_node : Option Tree → Option X) (read : Source → Result (X × Source) Refused) → Reads of_node read
    → (s : Source) (node : Option Tree) (z : State) (x : X) → Emits s.state node z → Plan.value_node of_text of_node node ≡ Some x → Gets s.left x z (Plan.value_at of_text read s)
unfolding Plan.value_at scalar_front
value_gets {X} of_text of_node read law s node z x run is =
    rw (bind_twice (front s) (λ event. Ok (is_scalar event)) (λ is_one. Plan.chosen is_one of_text read s)) (by_node node run is)
  where
    by_node : (node : Option Tree) → Emits s.state node z → Plan.value_node of_text of_node node ≡ Some x → Gets s.left x z (front s >>= λ event. Plan.chosen (is_scalar event) of_text read s)
    by_node None run is = fronts s.left s events.StreamEnd z x z _ run (law.complete s None z x run is)
    by_node (Some (Leaf sc)) run is = fronts s.left s (scalar_event sc) run.0 x z _ run.1 ((text_reads of_text).complete s (Some (Leaf sc)) z x run is)
    by_node (Some (Seq ts)) run is = fronts s.left s events.SequenceStart run.0 x z _ run.1 (law.complete s (Some (Seq ts)) z x run is)
    by_node (Some (Map ps)) run is = fronts s.left s events.MappingStart run.0 x z _ run.1 (law.complete s (Some (Map ps)) z x run is)

pub value_reads : {X : Type 0} (of_text : Plan.Name → Option X) (of_node : Option Tree → Option X) (read : Source → Result (X × Source) Refused) → Reads of_node read → Reads (Plan.value_node of_text of_node) (Plan.value_at of_text read)
value_reads of_text of_node read law = record { sound = value_found of_text of_node read law; complete = value_gets of_text of_node read law }

pub index_entry : {X : Type 0} (of_text : Plan.Name → Option X) (of_node : Option Tree → Option X) (read : Source → Result (X × Source) Refused) → Reads of_node read → (es : List (Plan.Name × X)) (key : Plan.Name)
    → Reads (mapped_node (insert_entry bytes_eq es key) (Plan.value_node of_text of_node)) (mapped_at (insert_entry bytes_eq es key) (Plan.value_at of_text read))
index_entry of_text of_node read law es key = mapped_reads (insert_entry bytes_eq es key) _ _ (value_reads of_text of_node read law)

pub index_reads : {X : Type 0} (of_text : Plan.Name → Option X) (of_node : Option Tree → Option X) (read : Source → Result (X × Source) Refused) → Reads of_node read → Reads (Plan.index_node of_text of_node) (Plan.index_at of_text read)
index_reads of_text of_node read law = map_reads _ _ (index_entry of_text of_node read law) []

pub path_reads : (x : Option Plan.Name) (key : Plan.Name) → Reads (Plan.path_takes x key) (Plan.path_fills x key)
path_reads x key = choice_reads (Plan.is_name key (codes "path")) _ _ _ _ (mapped_reads Some _ _ any_reads) (refused_reads (UnknownField key))

pub dependency_reads : Reads Plan.dependency_node Plan.dependency_at
dependency_reads = checked_reads (Plan.required (codes "path")) _ _ (map_reads Plan.path_takes Plan.path_fills path_reads None)

optional_reads : Reads (option_node (any_node Ok)) (option_at any_at)
optional_reads = option_reads (any_node Ok) any_at any_reads

pub part_reads : (p : Plan.Parts) (key : Plan.Name) → Reads (Plan.part_takes p key) (Plan.part_fills p key)
part_reads p key =
    choice_reads (Plan.is_name key (codes "instance")) _ _ _ _ (mapped_reads (Plan.with_instance p) _ _ any_reads)
    (choice_reads (Plan.is_name key (codes "export")) _ _ _ _ (mapped_reads (Plan.with_export p) _ _ optional_reads) (refused_reads (UnknownField key)))

pub argument_reads : Reads Plan.argument_node Plan.argument_at
argument_reads = checked_reads Plan.argument_of _ _ (map_reads Plan.part_takes Plan.part_fills part_reads Plan.no_parts)

pub instance_entry : (i : Plan.Instance) (key : Plan.Name) → Reads (Plan.instance_takes i key) (Plan.instance_fills i key)
instance_entry i key =
    choice_reads (Plan.is_name key (codes "dependency")) _ _ _ _ (mapped_reads (Plan.with_dependency i) _ _ optional_reads)
    (choice_reads (Plan.is_name key (codes "arguments")) _ _ _ _ (mapped_reads (Plan.with_arguments i) _ _ (index_reads Plan.plain_argument Plan.argument_node Plan.argument_at argument_reads)) (refused_reads (UnknownField key)))

pub instance_reads : Reads Plan.instance_node Plan.instance_at
instance_reads = map_reads Plan.instance_takes Plan.instance_fills instance_entry Plan.no_instance

names_reads : Reads Plan.names_node Plan.names_at
names_reads = seq_reads _ _ (λ xs at. mapped_reads (pushed xs) (any_node Ok) any_at any_reads) []

instances_reads : Reads Plan.instances_node Plan.instances_at
instances_reads = map_reads _ _ (λ es key. mapped_reads (insert_entry bytes_eq es key) Plan.instance_node Plan.instance_at instance_reads) []

pub setting_reads : (s : Plan.Settings) (key : Plan.Name) → Reads (Plan.setting_takes s key) (Plan.setting_fills s key)
setting_reads s key =
    choice_reads (Plan.is_name key (codes "definitions")) _ _ _ _ (mapped_reads (Plan.with_definitions s) _ _ names_reads)
    (choice_reads (Plan.is_name key (codes "search-paths")) _ _ _ _ (mapped_reads (Plan.with_search_paths s) _ _ names_reads)
    (choice_reads (Plan.is_name key (codes "skip-validation")) _ _ _ _ (mapped_reads (Plan.with_skip_validation s) _ _ (plain_reads truth))
    (choice_reads (Plan.is_name key (codes "import-components")) _ _ _ _ (mapped_reads (Plan.with_import_components s) _ _ (plain_reads truth))
    (choice_reads (Plan.is_name key (codes "disallow-imports")) _ _ _ _ (mapped_reads (Plan.with_disallow_imports s) _ _ (plain_reads truth))
    (choice_reads (Plan.is_name key (codes "dependencies")) _ _ _ _ (mapped_reads (Plan.with_dependencies s) _ _ (index_reads Plan.plain_path Plan.dependency_node Plan.dependency_at dependency_reads))
    (choice_reads (Plan.is_name key (codes "instantiations")) _ _ _ _ (mapped_reads (Plan.with_instantiations s) _ _ instances_reads) (refused_reads (UnknownField key))))))))

pub settings_reads : Reads Plan.settings_node Plan.settings_at
settings_reads = map_reads Plan.setting_takes Plan.setting_fills setting_reads Plan.no_settings
