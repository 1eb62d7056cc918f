-- Which nodes are read, and as which value. A node is a tree, or none: the end of an empty document.
use Rattle.std.specs.Prelude.{ℕ, ◌+◌, List, if◌then◌else◌, Option, Some, None, option_map, option_and_then, Result, Ok, Err}
use Rattle.yaml_small.specs.Trees.{Tree, Leaf, Seq, Map, Trees, none, more, Pairs, no_pairs, pair}
use Rattle.yaml_small.specs.Scalars.{is_plain}
use Rattle.yaml_read.specs.Source.{Refusal}
use Rattle.yaml_read.specs.Scalar.{is_null}

abbrev pub value_of : {X : Type 0} → Result X Refusal → Option X
value_of (Ok x) = Some x
value_of (Err refusal) = None

-- what a scalar's text is taken for, of any style, and plain alone; a list, a map and no node are nothing
abbrev pub any_node : {X : Type 0} → (List ℕ → Result X Refusal) → Option Tree → Option X
any_node f None = None
any_node f (Some (Leaf s)) = value_of (f s.text)
any_node f (Some (Seq ts)) = None
any_node f (Some (Map ps)) = None

abbrev pub plain_node : {X : Type 0} → (List ℕ → Result X Refusal) → Option Tree → Option X
plain_node f None = None
plain_node f (Some (Leaf s)) = if is_plain s.style then value_of (f s.text) else None
plain_node f (Some (Seq ts)) = None
plain_node f (Some (Map ps)) = None

-- `null` or `~`, or an empty document
abbrev pub unit_node : Option Tree → Option (Unit {0})
unit_node None = Some tt
unit_node (Some (Leaf s)) = if is_null s.text then Some tt else None
unit_node (Some (Seq ts)) = None
unit_node (Some (Map ps)) = None

-- `null` or `~` is no value, anything else is what the type reads
abbrev pub option_node : {X : Type 0} → (Option Tree → Option X) → Option Tree → Option (Option X)
option_node of_node None = option_map Some (of_node None)
option_node of_node (Some (Leaf s)) = if is_null s.text then Some None else option_map Some (of_node (Some (Leaf s)))
option_node of_node (Some (Seq ts)) = option_map Some (of_node (Some (Seq ts)))
option_node of_node (Some (Map ps)) = option_map Some (of_node (Some (Map ps)))

-- a list's items, each put to what was read before
abbrev pub seq_as : {X : Type 0} → (X → ℕ → Option Tree → Option X) → ℕ → X → Trees → Option X
seq_as takes at x none = Some x
seq_as takes at x (more t ts) = option_and_then (λ y. seq_as takes (at + 1) y ts) (takes x at (Some t))

abbrev pub seq_node : {X : Type 0} → (X → ℕ → Option Tree → Option X) → X → Option Tree → Option X
seq_node takes x None = None
seq_node takes x (Some (Leaf s)) = None
seq_node takes x (Some (Seq ts)) = seq_as takes 0 x ts
seq_node takes x (Some (Map ps)) = None

-- a map's entries, each put to what was read before
abbrev pub map_as : {X : Type 0} → (X → List ℕ → Option Tree → Option X) → X → Pairs → Option X
map_as takes x no_pairs = Some x
map_as takes x (pair key t ps) = option_and_then (λ y. map_as takes y ps) (takes x key.text (Some t))

abbrev pub map_node : {X : Type 0} → (X → List ℕ → Option Tree → Option X) → X → Option Tree → Option X
map_node takes x None = None
map_node takes x (Some (Leaf s)) = None
map_node takes x (Some (Seq ts)) = None
map_node takes x (Some (Map ps)) = map_as takes x ps

-- a map of one entry
abbrev pub enum_node : {X : Type 0} → (X → List ℕ → Option Tree → Option X) → X → Option Tree → Option X
enum_node takes x None = None
enum_node takes x (Some (Leaf s)) = None
enum_node takes x (Some (Seq ts)) = None
enum_node takes x (Some (Map no_pairs)) = None
enum_node takes x (Some (Map (pair key t no_pairs))) = takes x key.text (Some t)
enum_node takes x (Some (Map (pair key t (pair other u ps)))) = None

-- a list of two and of three
abbrev pub pair_node : {X Y : Type 0} → (Option Tree → Option X) → (Option Tree → Option Y) → Option Tree → Option (X × Y)
pair_node first second None = None
pair_node first second (Some (Leaf s)) = None
pair_node first second (Some (Map ps)) = None
pair_node first second (Some (Seq none)) = None
pair_node first second (Some (Seq (more t none))) = None
pair_node first second (Some (Seq (more t (more u none)))) = option_and_then (λ x. option_map (λ y. (x, y)) (second (Some u))) (first (Some t))
pair_node first second (Some (Seq (more t (more u (more v ts))))) = None

abbrev pub triple_node : {X Y Z : Type 0} → (Option Tree → Option X) → (Option Tree → Option Y) → (Option Tree → Option Z) → Option Tree → Option (X × Y × Z)
triple_node first second third None = None
triple_node first second third (Some (Leaf s)) = None
triple_node first second third (Some (Map ps)) = None
triple_node first second third (Some (Seq none)) = None
triple_node first second third (Some (Seq (more t none))) = None
triple_node first second third (Some (Seq (more t (more u none)))) = None
triple_node first second third (Some (Seq (more t (more u (more v none))))) =
    option_and_then (λ x. option_and_then (λ y. option_map (λ z. (x, y, z)) (third (Some v))) (second (Some u))) (first (Some t))
triple_node first second third (Some (Seq (more t (more u (more v (more w ts)))))) = None

-- what is read in a node, put to something
abbrev pub mapped_node : {X Y : Type 0} → (X → Y) → (Option Tree → Option X) → Option Tree → Option Y
mapped_node f of_node node = option_map f (of_node node)

-- what is read in a node, put to a test
abbrev pub checked_node : {X Y : Type 0} → (X → Result Y Refusal) → (Option Tree → Option X) → Option Tree → Option Y
checked_node f of_node node = option_and_then (λ x. value_of (f x)) (of_node node)

abbrev pub refused_node : {X : Type 0} → Option Tree → Option X
refused_node _ = None
