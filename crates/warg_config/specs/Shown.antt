-- What a configuration shows.
use Rattle.std.specs.Prelude.{}
use Rattle.warg_config.specs.Settings.{Settings}
use Rattle.warg_config.specs.declared.config.Config.{Config}

abbrev pub settings_of : Config → Settings
settings_of config = record {
  home_url = config.home_url;
  registries_dir = config.registries_dir;
  content_dir = config.content_dir;
  namespace_map_path = config.namespace_map_path;
  keyring_backend = config.keyring_backend;
  keys = config.keys.keys;
  keyring_auth = config.keyring_auth;
  ignore_federation_hints = config.ignore_federation_hints;
  disable_auto_accept_federation_hints = config.disable_auto_accept_federation_hints;
  disable_auto_package_init = config.disable_auto_package_init;
  disable_interactive = config.disable_interactive;
}
