use Rattle.std.proofs.Common.{◌≡◌, ◌∙◌, ap, subst}
use Rattle.std.specs.Option.{IfSome}
use Rattle.comp_define.proofs.ClosingLaws.{made_renumbered}
use Rattle.comp_define.specs.Sides.{place_in}
use Rattle.comp_define.proofs.closing.FirstMentionsRenaming.resource.Goals as goal

pub returns-then-out-eq0 : goal.returns-then-out-eq0
returns-then-out-eq0 c =
    subst (λ x. IfSome c.new.result (λ r. r ≡ x)) (made_renumbered c.args.self.now.resources.keys c.args.resource c.out.result c.place_in.result c.out.ensures c.if-out-eq0.true (c.place_in.ensures ∙ ap (place_in c.args.self.now.resources.keys) c.number.ensures))
    c.new.ensures.some
