-- Nothing, a number, or a number and a text: what they are read from, and what is written for them.
use Rattle.std.specs.Prelude.{ℕ, ◌≤◌, List, if◌then◌else◌, Option, Result, Ok, ℤ, pos, bytes_eq, codes}
use Rattle.std.specs.Str.{IsUtf8}
use Rattle.yaml_small.specs.Trees.{Tree}
use Rattle.yaml_text.specs.Written as spec
use Rattle.yaml_text.specs.Written.{Written}
use Rattle.yaml_read.specs.Source.{Source, Refused, UnknownField}
use Rattle.yaml_read.specs.Scalar.{unsigned, unsigned_at, signed, signed_at, any_at, unit_at}
use Rattle.yaml_read.specs.Collections.{enum_at, pair_at, mapped_at, refused_at}
use Rattle.yaml_read.specs.Nodes.{plain_node, any_node, unit_node, pair_node, enum_node, mapped_node, refused_node}
use Rattle.serde_yaml2.specs.Returns.{IsBetween}
use Rattle.serde_yaml2.specs.Values.{pair_of}
use Rattle.yaml_example.specs.Fields.{Seen, least, most, sample_node, sample_at, written_sample, SampleReturns}

pub data Kind : Type 0 where
  nothing : Kind
  count : ℕ → Kind
  tuple : ℤ → List ℕ → Kind
  both : ℤ → List ℕ → Kind

abbrev pub as_nothing : Unit {0} → Kind
as_nothing _ = nothing

abbrev pub as_tuple : ℤ × List ℕ → Kind
as_tuple p = tuple p.0 p.1

abbrev pub as_both : Seen → Kind
as_both s = both s.x s.y

abbrev pub tuple_node : Option Tree → Option (ℤ × List ℕ)
tuple_node = pair_node (plain_node (signed least most)) (any_node Ok)

abbrev pub tuple_at : Source → Result ((ℤ × List ℕ) × Source) Refused
tuple_at = pair_at (signed_at least most) any_at

-- a variant by its name
abbrev pub takes : Kind → List ℕ → Option Tree → Option Kind
takes _ key =
    if bytes_eq key (codes "Nothing") then mapped_node as_nothing unit_node
    else if bytes_eq key (codes "Number") then mapped_node count (plain_node (unsigned 18446744073709551615))
    else if bytes_eq key (codes "VariantC") then mapped_node as_tuple tuple_node
    else if bytes_eq key (codes "Both") then mapped_node as_both sample_node
    else refused_node

abbrev pub fills : Kind → List ℕ → Source → Result (Kind × Source) Refused
fills _ key =
    if bytes_eq key (codes "Nothing") then mapped_at as_nothing unit_at
    else if bytes_eq key (codes "Number") then mapped_at count (unsigned_at 18446744073709551615)
    else if bytes_eq key (codes "VariantC") then mapped_at as_tuple tuple_at
    else if bytes_eq key (codes "Both") then mapped_at as_both sample_at
    else refused_at (UnknownField key)

abbrev pub choice_node : Option Tree → Option Kind
choice_node = enum_node takes nothing

abbrev pub choice_at : Source → Result (Kind × Source) Refused
choice_at = enum_at fills nothing

-- a variant of that name
abbrev pub written_choice : Kind → Written
written_choice nothing = spec.unit_variant (codes "Nothing")
written_choice (count n) = spec.variant (codes "Number") (spec.number (pos n))
written_choice (tuple x y) = spec.variant (codes "VariantC") (pair_of (spec.number x) (spec.text y))
written_choice (both x y) = spec.variant (codes "Both") (written_sample x y)

-- numbers of 64 bits and texts
abbrev pub ChoiceReturns : Kind → Type 0
ChoiceReturns nothing = Unit {0}
ChoiceReturns (count n) = n ≤ 18446744073709551615
ChoiceReturns (tuple x y) = IsBetween least most x × IsUtf8 y
ChoiceReturns (both x y) = SampleReturns x y
