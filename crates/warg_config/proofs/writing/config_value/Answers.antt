-- Each member goes before those that are there.
use Rattle.std.proofs.Common.{◌≡◌, [], ap, codes, refl, rules, sym, ◌∙◌}
use Rattle.serde_json.specs.Data.{no_members, object}
use Rattle.serde_json.specs.View.{members_view}
use Rattle.serde_json.proofs.Views.{view-Object}
use Rattle.warg_config.specs.Paths.{relative_to}
use Rattle.warg_config.specs.Settings.{flag_data, keys_data, text_data, with_paths}
use Rattle.warg_config.specs.Shown.{settings_of}
use Rattle.warg_config.proofs.JsonLaws.{none_given, put_one}
use Rattle.warg_config.proofs.writing.config_value.Goals as goal

pub returns-clause-value : goal.returns-clause-value
returns-clause-value c =
    let s = with_paths (relative_to c.args.folder.now) (settings_of c.args.config.now) in
    let none : members_view c.new-members.result.entries ≡ no_members = search rules in
    let a = put_one (codes "registriesDir") (text_data s.registries_dir) (text_data s.registries_dir) [] _ _ refl refl c.in_ok-put_path.ensures (none ∙ sym none_given) in
    let b = put_one (codes "namespaceMapPath") (text_data s.namespace_map_path) (text_data s.namespace_map_path) _ _ _ refl refl c.in_ok-put_path-2.ensures a in
    let d = put_one (codes "keys") (keys_data s.keys) _ _ _ _ refl c.in_ok-keys.ensures.value c.in_ok-put_member.ensures b in
    let e = put_one (codes "keyringBackend") (text_data s.keyring_backend) (text_data s.keyring_backend) _ _ _ refl refl c.in_ok-put_text.ensures d in
    let f = put_one (codes "keyringAuth") (flag_data s.keyring_auth) (flag_data s.keyring_auth) _ _ _ refl refl c.in_ok-put_flag.ensures e in
    let h = put_one (codes "ignoreFederationHints") (flag_data s.ignore_federation_hints) (flag_data s.ignore_federation_hints) _ _ _ refl refl c.in_ok-put_flag-2.ensures f in
    let i = put_one (codes "homeUrl") (text_data s.home_url) (text_data s.home_url) _ _ _ refl refl c.in_ok-put_text-2.ensures h in
    let j = put_one (codes "disableInteractive") (flag_data s.disable_interactive) (flag_data s.disable_interactive) _ _ _ refl refl c.in_ok-put_flag-3.ensures i in
    let k = put_one (codes "disableAutoPackageInit") (flag_data s.disable_auto_package_init) (flag_data s.disable_auto_package_init) _ _ _ refl refl c.in_ok-put_flag-4.ensures j in
    let l = put_one (codes "disableAutoAcceptFederationHints") (flag_data s.disable_auto_accept_federation_hints) (flag_data s.disable_auto_accept_federation_hints) _ _ _ refl refl c.in_ok-put_flag-5.ensures k in
    let m = put_one (codes "contentDir") (text_data s.content_dir) (text_data s.content_dir) _ _ _ refl refl c.in_ok-put_path-3.ensures l in
    view-Object _ ∙ ap object m
