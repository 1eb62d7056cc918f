-- A number and a text: what they are read from, and what is written for them.
use Rattle.std.specs.Prelude.{ℕ, List, if◌then◌else◌, Option, Some, None, Result, Ok, Err, ℤ, pos, negsuc, bytes_eq, codes}
use Rattle.std.specs.Str.{IsUtf8}
use Rattle.yaml_small.specs.Trees.{Tree}
use Rattle.yaml_text.specs.Written as spec
use Rattle.yaml_text.specs.Written.{Written, member, no_members}
use Rattle.yaml_read.specs.Source.{Source, Refusal, Refused, UnknownField, MissingField}
use Rattle.yaml_read.specs.Scalar.{signed, signed_at, any_at}
use Rattle.yaml_read.specs.Collections.{map_at, mapped_at, checked_at, refused_at}
use Rattle.yaml_read.specs.Nodes.{plain_node, any_node, map_node, mapped_node, checked_node, refused_node}
use Rattle.serde_yaml2.specs.Returns.{IsBetween}

-- the fields so far, and both of them
pub record Parts : Type 0 where
  pub x : Option ℤ
  pub y : Option (List ℕ)

pub record Seen : Type 0 where
  pub x : ℤ
  pub y : List ℕ

abbrev pub seen_sample : ℤ → List ℕ → Seen
seen_sample x y = record { x = x; y = y }

abbrev pub no_parts : Parts
no_parts = record { x = None; y = None }

abbrev pub with_x : Parts → ℤ → Parts
with_x p x = record p { x = Some x }

abbrev pub with_y : Parts → List ℕ → Parts
with_y p y = record p { y = Some y }

abbrev pub least : ℤ
least = negsuc 9223372036854775807

abbrev pub most : ℤ
most = pos 9223372036854775807

abbrev pub takes : Parts → List ℕ → Option Tree → Option Parts
takes p key =
    if bytes_eq key (codes "x") then mapped_node (with_x p) (plain_node (signed least most))
    else if bytes_eq key (codes "y") then mapped_node (with_y p) (any_node Ok)
    else refused_node

abbrev pub fills : Parts → List ℕ → Source → Result (Parts × Source) Refused
fills p key =
    if bytes_eq key (codes "x") then mapped_at (with_x p) (signed_at least most)
    else if bytes_eq key (codes "y") then mapped_at (with_y p) any_at
    else refused_at (UnknownField key)

-- neither field may be missing
abbrev pub with_both : ℤ → Option (List ℕ) → Result Seen Refusal
with_both x None = Err (MissingField (codes "y"))
with_both x (Some y) = Ok (seen_sample x y)

abbrev pub of_parts : Option ℤ → Option (List ℕ) → Result Seen Refusal
of_parts None y = Err (MissingField (codes "x"))
of_parts (Some x) y = with_both x y

abbrev pub sample_of : Parts → Result Seen Refusal
sample_of p = of_parts p.x p.y

abbrev pub sample_node : Option Tree → Option Seen
sample_node = checked_node sample_of (map_node takes no_parts)

abbrev pub sample_at : Source → Result (Seen × Source) Refused
sample_at = checked_at sample_of (map_at fills no_parts)

-- a map of both
abbrev pub written_sample : ℤ → List ℕ → Written
written_sample x y = spec.map (member (codes "x") (spec.number x) (member (codes "y") (spec.text y) no_members))

-- a number of 64 bits and a text
abbrev pub SampleReturns : ℤ → List ℕ → Type 0
SampleReturns x y = IsBetween least most x × IsUtf8 y
