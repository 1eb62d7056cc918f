-- The value that a wrapper holds.
use Rattle.yaml_small.specs.declared.yaml.Yaml.{Yaml}
use Rattle.yaml_read.specs.declared.wrapper.YamlNodeWrapper.{YamlNodeWrapper}

abbrev pub wrapped : YamlNodeWrapper → Yaml
wrapped w = w.node
