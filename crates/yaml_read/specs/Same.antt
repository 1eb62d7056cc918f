-- Values that are the same: of one kind, with the same contents, and those of lists and maps in the same order.
use Rattle.std.specs.Prelude.{Bool, true, false, ◌&&◌, bytes_eq}
use Rattle.std.specs.Ordering.{int_eq}
use mathlib.Core.Bool.{beq}
use Rattle.yaml_small.specs.Data.{Data, Items, Members, integer, text, boolean, array, hash, null, no_items, item, no_members, member}

abbrev mutual
  pub same_data : Data → Data → Bool
  same_data (integer n) (integer m) = int_eq n m
  same_data (text t) (text u) = bytes_eq t u
  same_data (boolean a) (boolean b) = beq a b
  same_data (array ds) (array es) = same_items ds es
  same_data (hash ms) (hash ns) = same_members ms ns
  same_data null null = true
  same_data d e = false

  pub same_items : Items → Items → Bool
  same_items no_items no_items = true
  same_items (item d ds) (item e es) = same_data d e && same_items ds es
  same_items ds es = false

  pub same_members : Members → Members → Bool
  same_members no_members no_members = true
  same_members (member key d ms) (member name e ns) = bytes_eq key name && (same_data d e && same_members ms ns)
  same_members ms ns = false
