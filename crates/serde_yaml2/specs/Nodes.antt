-- What is written for values of any kind.
use Rattle.yaml_small.specs.declared.yaml.Yaml.{Yaml}
use Rattle.yaml_small.specs.Data as tree
use Rattle.yaml_small.specs.Data.{Data, Items, Members}
use Rattle.yaml_small.specs.View.{view}
use Rattle.yaml_text.specs.Written as spec
use Rattle.yaml_text.specs.Written.{Written, Elements}

-- each value by its kind
abbrev mutual
  pub data_written : Data → Written
  data_written (tree.integer n) = spec.number n
  data_written (tree.text t) = spec.text t
  data_written (tree.boolean b) = spec.boolean b
  data_written (tree.array ds) = spec.list (items_written ds)
  data_written (tree.hash ms) = spec.map (members_written ms)
  data_written tree.null = spec.null

  pub items_written : Items → Elements
  items_written tree.no_items = spec.no_elements
  items_written (tree.item d ds) = spec.element (data_written d) (items_written ds)

  pub members_written : Members → spec.Members
  members_written tree.no_members = spec.no_members
  members_written (tree.member key d ms) = spec.member key (data_written d) (members_written ms)

abbrev pub node_written : Yaml → Written
node_written node = data_written (view node)
