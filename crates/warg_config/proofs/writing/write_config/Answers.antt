-- What is written is the settings' text, which reads as they are.
use Rattle.serde_json.specs.View.{view}
use Rattle.warg_config.specs.Paths.{relative_to}
use Rattle.warg_config.specs.Settings.{with_paths}
use Rattle.warg_config.specs.Shown.{settings_of}
use Rattle.warg_config.proofs.JsonLaws.{text_is, text_reads}
use Rattle.warg_config.proofs.writing.write_config.Goals as goal

pub returns-clause-text : goal.returns-clause-text
returns-clause-text c =
    text_is c.in_ok-to_vec_pretty.field-0.items (view c.in_ok-value.value) (with_paths (relative_to c.args.folder.now) (settings_of c.args.config.now))
    c.in_ok-value.ensures.value c.in_ok-to_vec_pretty.ensures.layout c.in_ok-to_vec_pretty.ensures.order

pub returns-clause-reads : goal.returns-clause-reads
returns-clause-reads c =
    let s = with_paths (relative_to c.args.folder.now) (settings_of c.args.config.now) in
    let text = c.in_ok-to_vec_pretty.field-0.items in
    let d = view c.in_ok-value.value in
    text_reads text d s c.in_ok-value.ensures.value
    (text_is text d s c.in_ok-value.ensures.value c.in_ok-to_vec_pretty.ensures.layout c.in_ok-to_vec_pretty.ensures.order)
    c.in_ok-to_vec_pretty.ensures.utf8 c.in_ok-to_vec_pretty.ensures.reads_back c.in_ok-value.ensures.distinct
