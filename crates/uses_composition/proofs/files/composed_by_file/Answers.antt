-- The file holds the settings of which the component is composed.
use Rattle.std.proofs.Common.{◌∙◌, subst}
use Rattle.compose_config.specs.View.{settings_of}
use Rattle.compose_files.specs.Composed.{IsComposed}
use Rattle.compose_files.specs.View.{config_of, sources}
use Rattle.uses_composition.proofs.files.composed_by_file.Goals as goal

pub returns-in-Ok-compose : goal.returns-in-Ok-compose
returns-in-Ok-compose g c = λ held told.
    let config = c.in-Ok.config in
    let root = c.args.root.now in
    let bytes = c.in-Ok-compose.bytes.items in
    let composed = c.in-Ok-compose.ensures.composed held (c.in-Ok.ensures.kept ∙ told) in
    let of_root = subst (λ r. IsComposed r (sources (config_of c.new.result) held) bytes) c.new.ensures.root composed in
    let of_config = subst (λ conf. IsComposed root (sources conf held) bytes) c.new.ensures.config of_root in
    let in_folder = subst (λ dir. IsComposed root (record { dir = dir; settings = settings_of config; files = held }) bytes) c.in-Ok.ensures.dir of_config in
    (settings_of config, c.in-Ok.ensures.read held told, in_folder)
