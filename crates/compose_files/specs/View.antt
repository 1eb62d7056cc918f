-- What the calls hold, as the definitions see it.
use Rattle.std.specs.Prelude.{ℕ, List, nat_eq, bytes_eq}
use Rattle.std.specs.Map.{lookup}
use Rattle.warg_base.specs.Files.{FileMap}
use Rattle.compose_config.specs.View.{settings_of}
use Rattle.compose_config.specs.declared.config.Config.{Config}
use Rattle.compose_graph.specs.Listed.{graph_of}
use Rattle.compose_files.specs.Built.{Built, Sources}
use Rattle.compose_files.specs.declared.builder.Builder.{Builder}
use Rattle.compose_files.specs.declared.composer.ComponentComposer.{ComponentComposer}

-- what a composition by a configuration is made from, where the files hold this
abbrev pub sources : Config → FileMap → Sources
sources config files = record { dir = config.dir; settings = settings_of config; files = files }

abbrev pub root_of : ComponentComposer → List ℕ
root_of composer = composer.component.now

abbrev pub config_of : ComponentComposer → Config
config_of composer = composer.config.now

abbrev pub built_of : Builder → Built
built_of b = record {
  graph = graph_of b.graph;
  named = b.named.entries;
  made = λ component. lookup (nat_eq component) b.made.entries;
  offers = λ name. lookup (bytes_eq name) b.offers.entries;
}
