use Rattle.std.proofs.Common.{subst, sym}
use Rattle.comp_declare.specs.Exported.{exported_at}
use Rattle.comp_declare.proofs.AliasLaws.{alias_is}
use Rattle.comp_entity.specs.Bounds.{bounded}
use Rattle.comp_scope.specs.Spaces.{added}
use Rattle.comp_space.specs.Faults.{Fails, Finds}
use Rattle.comp_space.specs.SpaceViews.{ShowsSpaces}
use Rattle.comp_space.specs.Standings.{Shows}
use Rattle.comp_space.specs.StandingLaws.{fails_bind, found_bind, passed_on}
use Rattle.comp_table.specs.Plain.{plain_entity}
use Rattle.comp_declare.proofs.aliases.add_export_alias.Goals as goal

pub returns-in_err-item-clause-found : goal.returns-in_err-item-clause-found
returns-in_err-item-clause-found c = λ s shows.
    passed_on _ c.from_residual.result c.in_err-item.field-0.0 _ c.from_residual.ensures.1
    (subst (Fails c.in_err-item.field-0.0) (sym (alias_is s c.args.sort c.args.instance c.args.name.now))
    (fails_bind (exported_at s c.args.sort c.args.instance c.args.name.now) _ _ (c.in_err-item.ensures s shows)))

pub returns-clause-found : goal.returns-clause-found
returns-clause-found c = λ s shows.
    let f = c.in_ok-item.ensures s shows in
    subst (Finds (λ u. ShowsSpaces c.args.table.now c.add.new.self) c.add.result) (sym (alias_is s c.args.sort c.args.instance c.args.name.now))
    (found_bind (Shows plain_entity c.args.table.now) (λ u. ShowsSpaces c.args.table.now c.add.new.self) c.in_ok-item.item (exported_at s c.args.sort c.args.instance c.args.name.now) (λ e. added bounded s e.0 e.1) c.add.result f
    (subst (λ b. Finds (λ u. ShowsSpaces c.args.table.now c.add.new.self) c.add.result (added bounded s f.value.0 b)) f.shown.named_is (c.add.ensures.found s f.value.0 shows f.shown.stands)))
