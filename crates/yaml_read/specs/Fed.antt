-- What a hasher is fed of a value: its kind, and what it holds. In lists and maps 1 stands in front of each entry, and
-- 0 behind them all.
use Rattle.std.specs.Prelude.{◌++◌}
use Rattle.std.specs.Hash as fed
use Rattle.std.specs.Hash.{HashWrites}
use Rattle.yaml_small.specs.Data.{Data, Items, Members, integer, text, boolean, array, hash, null, no_items, item, no_members, member}

abbrev mutual
  pub fed_data : Data → HashWrites
  fed_data (integer n) = fed.u8 0 ++ fed.i64 n
  fed_data (text t) = fed.u8 1 ++ fed.str t
  fed_data (boolean b) = fed.u8 2 ++ fed.bool b
  fed_data (array ds) = fed.u8 3 ++ fed_items ds
  fed_data (hash ms) = fed.u8 4 ++ fed_members ms
  fed_data null = fed.u8 5

  pub fed_items : Items → HashWrites
  fed_items no_items = fed.u8 0
  fed_items (item d ds) = fed.u8 1 ++ fed_data d ++ fed_items ds

  pub fed_members : Members → HashWrites
  fed_members no_members = fed.u8 0
  fed_members (member key d ms) = fed.u8 1 ++ fed.str key ++ fed_data d ++ fed_members ms
