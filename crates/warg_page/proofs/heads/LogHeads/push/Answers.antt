use Rattle.std.proofs.Common.{◌++◌, sym, ◌∙◌, ap, List}
use Rattle.std.specs.Prelude.{option_copied}
use Rattle.warg_proof.specs.declared.leaf.LogLeaf.{LogLeaf}
use Rattle.warg_info.specs.Kept.{signed_log}
use Rattle.warg_info.specs.Info.{kept_of}
use Rattle.warg_page.proofs.HeadLaws.{leaf-there}
use Rattle.warg_page.proofs.heads.LogHeads.push.Goals as goal

pub returns-clause-leafs : goal.returns-clause-leafs
returns-clause-leafs g c sound =
    let log = kept_of g.E.LogEntry.plain c.args.log.now in
    let there = leaf-there c.args.id log c.in-Some-Some.head.now (ap option_copied (sym c.in-Some-Some.is-1) ∙ c.head.ensures (signed_log log) (c.state.ensures sound)) in
    rw c.in_ok-push-2.ensures.items (ap (λ (l : List LogLeaf). c.args.self.now.leafs.items ++ l) (sym there))
