use Rattle.std.proofs.Common.{rules}
use Rattle.warg_publish.specs.Publish.{is_init}
use Rattle.warg_publish.specs.Shown.{entry_view}
use Rattle.warg_publish.proofs.FormedLaws.{any_seen}
use Rattle.warg_publish.proofs.info.PublishInfo.initializing.Goals as goal

pub returns : goal.returns
returns c = search (rules, any_seen entry_view is_init c.args.self.now.entries.items)
