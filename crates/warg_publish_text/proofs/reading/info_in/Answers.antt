-- What is read can be published.
use Rattle.serde_json.specs.View.{view}
use Rattle.warg_publish.specs.Shown.{info_view}
use Rattle.warg_publish_text.proofs.ReadLaws.{info_can}
use Rattle.warg_publish_text.proofs.reading.info_in.Goals as goal

pub returns-in-Ok-clause-publishable : goal.returns-in-Ok-clause-publishable
returns-in-Ok-clause-publishable c = info_can (view c.args.value.now) (info_view c.in-Ok.field-0.info) c.in-Ok.ensures
