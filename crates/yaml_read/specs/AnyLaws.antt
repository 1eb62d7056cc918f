-- Reads of values of any kind, against the nodes that are emitted.
use Rattle.std.proofs.Common.{◌≡◌, ℕ, zero, suc, ◌+◌, List, [], Option, Some, None, option_map, option_and_then, Result, Ok, refl, sym, ap, ◌∙◌, bytes_eq}
use Rattle.indexmap.specs.IndexMap.{insert_entry}
use Rattle.warg_values.specs.Reading.{◌>>=◌}
use Rattle.warg_values.specs.ReadingLaws.{bind_ok}
use Rattle.yaml_small.specs.declared.event.Event.{Event}
use Rattle.yaml_small.specs.declared.event.Event.TheVariants as events
use Rattle.yaml_small.specs.declared.event.Style.{Style}
use Rattle.yaml_small.specs.Data.{Data}
use Rattle.yaml_small.specs.Trees.{Tree, Leaf, Seq, Map, Trees, none, more, Pairs, no_pairs, pair, scalar_event}
use Rattle.yaml_small.specs.Stream.{State, next}
use Rattle.yaml_read.specs.Source.{Source, TooManyEvents, front, Refused, refused}
use Rattle.yaml_read.specs.Scalar.{any_at}
use Rattle.yaml_read.specs.Collections.{pushed, refused_at, seq_at, map_at}
use Rattle.yaml_read.specs.Nodes.{any_node, mapped_node, checked_node, seq_as, seq_node, map_as, map_node}
use Rattle.yaml_read.specs.Any.{scalar_data, listed, mapped, data_of, items_from, entries_from, data_node, ignored_node, by_kind, scalar_at, item_takes, entry_takes, nested_in, nested_under, data_at, nothing_of, passed_scalar, item_passed, value_passed, ignored_at}
use Rattle.yaml_read.specs.Emitted.{Emits, Found, Gets, Reads}
use Rattle.yaml_read.specs.TakingLaws.{pull_is, front_is, fronts}
use Rattle.yaml_read.specs.Laws.{any_reads}
use Rattle.yaml_read.specs.CollectionLaws.{emitted_once, some_apart, seq_reads, map_reads}
use Rattle.yaml_read.specs.PartLaws.{mapped_reads, checked_reads}

-- a node by its kind
abbrev kind_node : {X : Type 0} → (Option Tree → Option X) → (Option Tree → Option X) → (Option Tree → Option X) → Option Tree → Option X
kind_node scalar list entries None = None
kind_node scalar list entries (Some (Leaf s)) = scalar (Some (Leaf s))
kind_node scalar list entries (Some (Seq ts)) = list (Some (Seq ts))
kind_node scalar list entries (Some (Map ps)) = entries (Some (Map ps))

abbrev kind_at : {X : Type 0} → (Source → Result (X × Source) Refused) → (Source → Result (X × Source) Refused) → (Source → Result (X × Source) Refused)
    → Source → Result (X × Source) Refused
kind_at scalar list entries s = front s >>= λ event. by_kind scalar list entries event s

-- what was read by its kind is that node
scalar_emitted : {X : Type 0} (scalar list entries : Option Tree → Option X) (s : State) (content : List ℕ) (style : Style) (w : State) → next s ≡ Ok (events.Scalar content style, w)
    → (node : Option Tree) (z : State) (x : X) → Emits s node z → scalar node ≡ Some x → kind_node scalar list entries node ≡ Some x
scalar_emitted scalar list entries s content style w here None z x telling is = emitted_once s (events.Scalar content style) events.StreamEnd w z here telling (λ same _. absurd cc)
scalar_emitted scalar list entries s content style w here (Some (Leaf sc)) z x telling is = is
scalar_emitted scalar list entries s content style w here (Some (Seq ts)) z x telling is =
    emitted_once s (events.Scalar content style) events.SequenceStart w telling.0 here telling.1 (λ same _. absurd cc)
scalar_emitted scalar list entries s content style w here (Some (Map ps)) z x telling is =
    emitted_once s (events.Scalar content style) events.MappingStart w telling.0 here telling.1 (λ same _. absurd cc)

list_emitted : {X : Type 0} (scalar list entries : Option Tree → Option X) (s w : State) → next s ≡ Ok (events.SequenceStart, w)
    → (node : Option Tree) (z : State) (x : X) → Emits s node z → list node ≡ Some x → kind_node scalar list entries node ≡ Some x
list_emitted scalar list entries s w here None z x telling is = emitted_once s events.SequenceStart events.StreamEnd w z here telling (λ same _. absurd cc)
list_emitted scalar list entries s w here (Some (Leaf sc)) z x telling is = emitted_once s events.SequenceStart (scalar_event sc) w telling.0 here telling.1 (λ same _. absurd cc)
list_emitted scalar list entries s w here (Some (Seq ts)) z x telling is = is
list_emitted scalar list entries s w here (Some (Map ps)) z x telling is = emitted_once s events.SequenceStart events.MappingStart w telling.0 here telling.1 (λ same _. absurd cc)

entries_emitted : {X : Type 0} (scalar list entries : Option Tree → Option X) (s w : State) → next s ≡ Ok (events.MappingStart, w)
    → (node : Option Tree) (z : State) (x : X) → Emits s node z → entries node ≡ Some x → kind_node scalar list entries node ≡ Some x
entries_emitted scalar list entries s w here None z x telling is = emitted_once s events.MappingStart events.StreamEnd w z here telling (λ same _. absurd cc)
entries_emitted scalar list entries s w here (Some (Leaf sc)) z x telling is = emitted_once s events.MappingStart (scalar_event sc) w telling.0 here telling.1 (λ same _. absurd cc)
entries_emitted scalar list entries s w here (Some (Seq ts)) z x telling is = emitted_once s events.MappingStart events.SequenceStart w telling.0 here telling.1 (λ same _. absurd cc)
entries_emitted scalar list entries s w here (Some (Map ps)) z x telling is = is

kind_found : {X : Type 0} (scalar list entries : Option Tree → Option X) (read each all : Source → Result (X × Source) Refused) → Reads scalar read → Reads list each → Reads entries all
    → (s : Source) (x : X) (m : Source) → kind_at read each all s ≡ Ok (x, m) → Found (kind_node scalar list entries) s x m
kind_found {X} scalar list entries read each all law rule norm s x m h =
    let a = bind_ok (front s) _ _ h in
    let at = front_is s a.0 a.1 in
    by_event a.0 at.0.state (pull_is s a.0 at.0 at.1) a.2
  where
    by_event : (e : Event) (w : State) → next s.state ≡ Ok (e, w) → by_kind read each all e s ≡ Ok (x, m) → Found (kind_node scalar list entries) s x m
    by_event (events.Scalar content style) w here h =
        let f = law.sound s x m h in
        record { node = f.node; emitted = f.emitted; read = scalar_emitted scalar list entries s.state content style w here f.node m.state x f.emitted f.read }
    by_event events.SequenceStart w here h =
        let f = rule.sound s x m h in record { node = f.node; emitted = f.emitted; read = list_emitted scalar list entries s.state w here f.node m.state x f.emitted f.read }
    by_event events.MappingStart w here h =
        let f = norm.sound s x m h in record { node = f.node; emitted = f.emitted; read = entries_emitted scalar list entries s.state w here f.node m.state x f.emitted f.read }
    by_event e w here h = absurd cc

kind_gets : {X : Type 0} (scalar list entries : Option Tree → Option X) (read each all : Source → Result (X × Source) Refused) → Reads scalar read → Reads list each → Reads entries all
    → (s : Source) (node : Option Tree) (z : State) (x : X) → Emits s.state node z → kind_node scalar list entries node ≡ Some x → Gets s.left x z (kind_at read each all s)
kind_gets scalar list entries read each all law rule norm s None z x run is = absurd (some_apart x is)
kind_gets scalar list entries read each all law rule norm s (Some (Leaf sc)) z x run is = fronts s.left s (scalar_event sc) run.0 x z _ run.1 (law.complete s (Some (Leaf sc)) z x run is)
kind_gets scalar list entries read each all law rule norm s (Some (Seq ts)) z x run is = fronts s.left s events.SequenceStart run.0 x z _ run.1 (rule.complete s (Some (Seq ts)) z x run is)
kind_gets scalar list entries read each all law rule norm s (Some (Map ps)) z x run is = fronts s.left s events.MappingStart run.0 x z _ run.1 (norm.complete s (Some (Map ps)) z x run is)

kind_reads : {X : Type 0} (scalar list entries : Option Tree → Option X) (read each all : Source → Result (X × Source) Refused) → Reads scalar read → Reads list each → Reads entries all
    → Reads (kind_node scalar list entries) (kind_at read each all)
kind_reads scalar list entries read each all law rule norm =
    record { sound = kind_found scalar list entries read each all law rule norm; complete = kind_gets scalar list entries read each all law rule norm }

-- a read that counts no further
err_apart : {A : Type 0} (s : Source) (x : A) → refused s TooManyEvents ≡ Ok x → ⊥
err_apart s x h = cc

too_many_reads : {X : Type 0} (of_node : Option Tree → Option X) → Reads of_node (refused_at TooManyEvents)
too_many_reads of_node = record { sound = λ s x m h. absurd (err_apart s (x, m) h); complete = λ s node z x run is. refl }

-- two names for the same nodes
reads_as : {X : Type 0} (of_node other : Option Tree → Option X) (read : Source → Result (X × Source) Refused) → ((node : Option Tree) → of_node node ≡ other node) → Reads of_node read → Reads other read
reads_as of_node other read same law = record {
  sound = λ s x m h. let f = law.sound s x m h in record { node = f.node; emitted = f.emitted; read = sym (same f.node) ∙ f.read };
  complete = λ s node z x run is. law.complete s node z x run (same node ∙ is);
}

items_are : (ts : Trees) (at : ℕ) (values : List Data) → seq_as (λ values at. mapped_node (pushed values) data_node) at values ts ≡ items_from values ts
items_are none at values = refl
items_are (more t ts) at values = by_value (λ v. items_are ts (at + 1) (pushed values v)) (data_of t)
  where
    by_value : ((v : Data) → seq_as (λ values at. mapped_node (pushed values) data_node) (at + 1) (pushed values v) ts ≡ items_from (pushed values v) ts)
        → (o : Option Data) → option_and_then (λ vs. seq_as (λ values at. mapped_node (pushed values) data_node) (at + 1) vs ts) (option_map (pushed values) o) ≡ option_and_then (λ v. items_from (pushed values v) ts) o
    by_value others None = refl
    by_value others (Some v) = others v

entries_are : (ps : Pairs) (entries : List (List ℕ × Data)) → map_as (λ entries key. mapped_node (insert_entry bytes_eq entries key) data_node) entries ps ≡ entries_from entries ps
entries_are no_pairs entries = refl
entries_are (pair key t ps) entries = by_value (λ v. entries_are ps (insert_entry bytes_eq entries key.text v)) (data_of t)
  where
    by_value : ((v : Data) → map_as (λ entries key. mapped_node (insert_entry bytes_eq entries key) data_node) (insert_entry bytes_eq entries key.text v) ps ≡ entries_from (insert_entry bytes_eq entries key.text v) ps)
        → (o : Option Data) → option_and_then (λ es. map_as (λ entries key. mapped_node (insert_entry bytes_eq entries key) data_node) es ps) (option_map (insert_entry bytes_eq entries key.text) o)
        ≡ option_and_then (λ v. entries_from (insert_entry bytes_eq entries key.text v) ps) o
    by_value others None = refl
    by_value others (Some v) = others v

abbrev scalar_of : Option Tree → Option Data
scalar_of = checked_node scalar_data (any_node Ok)

scalar_reads : Reads scalar_of scalar_at
scalar_reads = checked_reads scalar_data (any_node Ok) any_at any_reads

abbrev list_of : Option Tree → Option Data
list_of = mapped_node listed (seq_node (λ values at. mapped_node (pushed values) data_node) [])

list_reads : (read : Source → Result (Data × Source) Refused) → Reads data_node read → Reads list_of (nested_in read)
unfolding item_takes
list_reads read law =
    mapped_reads listed _ _
    (seq_reads (λ values at. mapped_node (pushed values) data_node) (item_takes read) (λ values at. mapped_reads (pushed values) data_node read law) [])

abbrev entries_of : Option Tree → Option Data
entries_of = mapped_node mapped (map_node (λ entries key. mapped_node (insert_entry bytes_eq entries key) data_node) [])

map_of_reads : (read : Source → Result (Data × Source) Refused) → Reads data_node read → Reads entries_of (nested_under read)
unfolding entry_takes
map_of_reads read law =
    mapped_reads mapped _ _
    (map_reads (λ entries key. mapped_node (insert_entry bytes_eq entries key) data_node) (entry_takes read)
    (λ entries key. mapped_reads (insert_entry bytes_eq entries key) data_node read law) [])

by_kinds : (node : Option Tree) → kind_node scalar_of list_of entries_of node ≡ data_node node
by_kinds None = refl
by_kinds (Some (Leaf s)) = refl
by_kinds (Some (Seq ts)) = ap (option_map listed) (items_are ts 0 [])
by_kinds (Some (Map ps)) = ap (option_map mapped) (entries_are ps [])

-- the read of a value takes what the node of it is
pub data_reads : (levels : ℕ) → Reads data_node (data_at levels)
unfolding data_at
data_reads zero = too_many_reads data_node
data_reads (suc levels) =
    reads_as (kind_node scalar_of list_of entries_of) data_node _ by_kinds
    (kind_reads scalar_of list_of entries_of scalar_at (nested_in (data_at levels)) (nested_under (data_at levels)) scalar_reads
    (list_reads (data_at levels) (data_reads levels)) (map_of_reads (data_at levels) (data_reads levels)))

passed_items : (ts : Trees) (at : ℕ) → seq_as (λ _ at. ignored_node) at tt ts ≡ Some tt
passed_items none at = refl
passed_items (more t ts) at = passed_items ts (at + 1)

passed_entries : (ps : Pairs) → map_as (λ _ key. ignored_node) tt ps ≡ Some tt
passed_entries no_pairs = refl
passed_entries (pair key t ps) = passed_entries ps

abbrev passed_scalar_of : Option Tree → Option (Unit {0})
passed_scalar_of = mapped_node nothing_of (any_node Ok)

abbrev passed_list : Option Tree → Option (Unit {0})
passed_list = seq_node (λ _ at. ignored_node) tt

abbrev passed_map : Option Tree → Option (Unit {0})
passed_map = map_node (λ _ key. ignored_node) tt

passed_kinds : (node : Option Tree) → kind_node passed_scalar_of passed_list passed_map node ≡ ignored_node node
passed_kinds None = refl
passed_kinds (Some (Leaf s)) = refl
passed_kinds (Some (Seq ts)) = passed_items ts 0
passed_kinds (Some (Map ps)) = passed_entries ps

passed_reads : Reads passed_scalar_of passed_scalar
passed_reads = mapped_reads nothing_of (any_node Ok) any_at any_reads

-- what is passed over is one value
pub ignored_reads : (levels : ℕ) → Reads ignored_node (ignored_at levels)
unfolding ignored_at item_passed value_passed
ignored_reads zero = too_many_reads ignored_node
ignored_reads (suc levels) =
    reads_as (kind_node passed_scalar_of passed_list passed_map) ignored_node _ passed_kinds
    (kind_reads passed_scalar_of passed_list passed_map passed_scalar (seq_at (item_passed (ignored_at levels)) tt) (map_at (value_passed (ignored_at levels)) tt) passed_reads
    (seq_reads (λ _ at. ignored_node) (item_passed (ignored_at levels)) (λ _ at. ignored_reads levels) tt)
    (map_reads (λ _ key. ignored_node) (value_passed (ignored_at levels)) (λ _ key. ignored_reads levels) tt))
