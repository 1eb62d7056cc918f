use Rattle.std.proofs.Common.{ap, sym, subst}
use Rattle.warg_values.specs.Reading.{◌>>=◌}
use Rattle.comp_instance.specs.Exports.{if_typed}
use Rattle.comp_instance.proofs.ExportLaws.{typed_fails, typed_goes}
use Rattle.comp_scope.specs.Exports.{exported_as}
use Rattle.comp_scope.specs.Spaces as scope
use Rattle.comp_scope.specs.Spaces.{standing}
use Rattle.comp_space.specs.Descriptions.{ShowsDescribed}
use Rattle.comp_space.specs.Faults.{Finds}
use Rattle.comp_space.specs.StandingLaws.{fails_bind, found_bind, passed_on}
use Rattle.comp_space.specs.Standings.{Shows}
use Rattle.comp_table.specs.Plain.{plain_entity}
use Rattle.comp_instance.proofs.exports.exported_item.Goals as goal

pub returns-in_err-item-clause-found : goal.returns-in_err-item-clause-found
returns-in_err-item-clause-found c = λ s shows.
    passed_on _ c.from_residual.result c.in_err-item.field-0.0 _ c.from_residual.ensures.1
    (fails_bind (standing s c.args.sort c.args.index) (λ item. if_typed item.0 item >>= λ item. exported_as s item c.args.ty) c.in_err-item.field-0.0 (c.in_err-item.ensures c.args.table.now s shows))

pub check_typed-requires : goal.check_typed-requires
check_typed-requires c = (c.in_ok-item.ensures c.args.table.now c.requires.0 c.requires.1).shown.stands.there

pub returns-in_err-check_typed-clause-found : goal.returns-in_err-check_typed-clause-found
returns-in_err-check_typed-clause-found c = λ s shows.
    let f = c.in_ok-item.ensures c.args.table.now s shows in
    found_bind (Shows plain_entity c.args.table.now) (ShowsDescribed c.args.table.now) c.in_ok-item.item (standing s c.args.sort c.args.index) (λ item. if_typed item.0 item >>= λ item. exported_as s item c.args.ty) c.from_residual-in_err-check_typed.result f
    (passed_on (ShowsDescribed c.args.table.now) c.from_residual-in_err-check_typed.result c.in_err-check_typed.field-0.0 _ c.from_residual-in_err-check_typed.ensures.1
    (fails_bind (if_typed f.value.0 f.value) (λ item. exported_as s item c.args.ty) c.in_err-check_typed.field-0.0 (typed_fails f.value.0 tt f.value c.in_err-check_typed.field-0.0 (c.in_err-check_typed.ensures f.value.0 f.shown.stands))))

pub exported_as-requires-clause-item : goal.exported_as-requires-clause-item
exported_as-requires-clause-item c = let f = c.in_ok-item.ensures c.args.table.now c.requires.0 c.requires.1 in (f.value.0, f.shown.stands)

pub returns-clause-found : goal.returns-clause-found
returns-clause-found c = λ s shows.
    let f = c.in_ok-item.ensures c.args.table.now s shows in
    let goes = typed_goes f.value.0 tt f.value (c.in_ok-check_typed.ensures f.value.0 f.shown.stands) in
    found_bind (Shows plain_entity c.args.table.now) (ShowsDescribed c.exported_as.new.table) c.in_ok-item.item (standing s c.args.sort c.args.index) (λ item. if_typed item.0 item >>= λ item. exported_as s item c.args.ty) c.exported_as.result f
    (subst (Finds (ShowsDescribed c.exported_as.new.table) c.exported_as.result) (sym (ap (λ r. r >>= λ (item : scope.Standing). exported_as s item c.args.ty) goes))
    (subst (λ b. Finds (ShowsDescribed c.exported_as.new.table) c.exported_as.result (exported_as s (f.value.0, b) c.args.ty)) f.shown.named_is (c.exported_as.ensures.found s f.value.0 shows f.shown.stands)))
