use Rattle.std.proofs.Common.{◌∙◌, ap, sym}
use Rattle.std.specs.Prelude.{option_to_list}
use Rattle.comp_mention.specs.Mentions.{picked_in, head_mentions}
use Rattle.comp_mention.proofs.WalkLaws.{one_noted}
use Rattle.comp_mention.proofs.walk.note_head.Goals as goal

pub returns-in_ok-insert-in-Some : goal.returns-in_ok-insert-in-Some
returns-in_ok-insert-in-Some c =
    one_noted c.args.seen.now.keys c.insert.new.self.keys c.in-Some.number (picked_in c.args.what c.args.out (head_mentions c.args.depth c.args.head.now)) c.in_ok-insert-in-Some.ensures.keys (ap option_to_list (sym c.in-Some.is) ∙ c.mentioned_by.ensures)
