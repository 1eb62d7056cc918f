-- Which values of any kind come back.
use Rattle.std.specs.Prelude.{◌≡◌, ℕ, List, [], ◌∷◌, pos, negsuc, bytes_eq}
use Rattle.std.specs.List.{IsDistinct}
use Rattle.std.specs.Map.{keys_of}
use Rattle.std.specs.Str.{IsUtf8}
use Rattle.yaml_small.specs.declared.schema.Resolved.TheVariants as kinds
use Rattle.yaml_small.specs.Data as tree
use Rattle.yaml_small.specs.Data.{Data, Items, Members}
use Rattle.yaml_small.specs.Schema.{resolved}
use Rattle.serde_yaml2.specs.Returns.{IsBetween}

-- a map's keys with their values
abbrev pub entries_in : Members → List (List ℕ × Data)
entries_in tree.no_members = []
entries_in (tree.member key d ms) = (key, d) ∷ entries_in ms

-- Integers of 64 bits, truth values and nothing come back. A text comes back where the core schema takes it for a text,
-- since it is read so in any style. A list and a map come back where their values do; a map's keys are texts, and none
-- stands twice.
abbrev mutual
  pub DataReturns : Data → Type 0
  DataReturns (tree.integer n) = IsBetween (negsuc 9223372036854775807) (pos 9223372036854775807) n
  DataReturns (tree.text t) = IsUtf8 t × (resolved t ≡ kinds.Text)
  DataReturns (tree.boolean b) = Unit {0}
  DataReturns (tree.array ds) = ItemsReturn ds
  DataReturns (tree.hash ms) = IsDistinct bytes_eq (keys_of (entries_in ms)) × MembersReturn ms
  DataReturns tree.null = Unit {0}

  pub ItemsReturn : Items → Type 0
  ItemsReturn tree.no_items = Unit {0}
  ItemsReturn (tree.item d ds) = DataReturns d × ItemsReturn ds

  pub MembersReturn : Members → Type 0
  MembersReturn tree.no_members = Unit {0}
  MembersReturn (tree.member key d ms) = IsUtf8 key × DataReturns d × MembersReturn ms
