use Rattle.std.proofs.Common.{inl, inr, List, map, sym, subst}
use Rattle.std.proofs.lemmas.Result.{err_from_is_err_and}
use Rattle.warg_exchange.specs.Views.{page_view}
use Rattle.warg_info.specs.declared.package.PackageInfo.{PackageInfo}
use Rattle.warg_update.specs.declared.error.UpdateError.TheVariants as update
use Rattle.warg_update.specs.Errors.{page_wants_memory, presence_wants_memory, signature_wants_memory}
use Rattle.warg_update.specs.FeedFaults.{IsTurnFault}
use Rattle.warg_page.specs.Presence.{IsPresenceFault, IsListedEmpty}
use Rattle.warg_page.specs.Logs.{AreLawful, LeavesNoneEmpty}
use Rattle.warg_page.specs.Steps.{AreGood}
use Rattle.warg_page.specs.Views.{logs_view, package_view}
use Rattle.warg_update.proofs.KeptLaws.{lawful-kept}
use Rattle.warg_update.proofs.ToldLaws.{told}
use Rattle.warg_update.proofs.turn.turn_page.Goals as goal

pub returns-in_err-take_page-clause-fault : goal.returns-in_err-take_page-clause-fault
returns-in_err-take_page-clause-fault g c =
    let accepts = g.V.Verifier.good c.args.verifier.now in
    let x = c.in_err-take_page.field-0.0 in
    let q = err_from_is_err_and c.from_residual.result c.from_residual.ensures.1 in
    rw (q.1, q.2) (λ ids operator packages.
    told (λ e. IsTurnFault e accepts (logs_view c.args.operator.now c.args.packages.now.items) c.args.checkpoint.now (page_view c.args.page.now)) (page_wants_memory x) update.Memory (update.Page x) (λ memory. tt)
    (λ other. (other, c.in_err-take_page.ensures.fault ids operator packages)))

pub returns-in_err-check_listed-clause-fault : goal.returns-in_err-check_listed-clause-fault
returns-in_err-check_listed-clause-fault g c =
    let accepts = g.V.Verifier.good c.args.verifier.now in
    let x = c.in_err-check_listed.field-0.0 in
    let grown = c.take_page.new.operator in
    let page = page_view c.args.page.now in
    let q = err_from_is_err_and c.from_residual-in_err-check_listed.result c.from_residual-in_err-check_listed.ensures.1 in
    rw (q.1, q.2) (λ ids operator packages.
    told (λ e. IsTurnFault e accepts (logs_view c.args.operator.now c.args.packages.now.items) c.args.checkpoint.now (page_view c.args.page.now)) (presence_wants_memory x) update.Memory (update.Presence x) (λ memory. tt)
    (λ other. (
      other,
      logs_view grown c.take_page.new.packages.items,
      c.in_ok-take_page.ensures.brings ids operator packages,
      inl (
        c.if-page.true,
        subst (λ (l : List PackageInfo). IsListedEmpty x (map package_view l) page.packages) c.as_slice-kept.ensures.value c.in_err-check_listed.ensures.err,
      ),
    )))

pub returns-in_err-check_presence-clause-fault : goal.returns-in_err-check_presence-clause-fault
returns-in_err-check_presence-clause-fault g c =
    let accepts = g.V.Verifier.good c.args.verifier.now in
    let x = c.in_err-check_presence.field-0.0 in
    let grown = c.take_page.new.operator in
    let q = err_from_is_err_and c.from_residual-in_err-check_presence.result c.from_residual-in_err-check_presence.ensures.1 in
    rw (q.1, q.2) (λ ids operator packages.
    told (λ e. IsTurnFault e accepts (logs_view c.args.operator.now c.args.packages.now.items) c.args.checkpoint.now (page_view c.args.page.now)) (presence_wants_memory x) update.Memory (update.Presence x) (λ memory. tt)
    (λ other. (
      other,
      logs_view grown c.take_page.new.packages.items,
      c.in_ok-take_page.ensures.brings ids operator packages,
      inr (
        c.if-page.false,
        subst (λ (l : List PackageInfo). IsPresenceFault x (logs_view grown l)) c.as_slice-kept.ensures.value c.in_err-check_presence.ensures.err,
      ),
    )))

pub returns-in_err-check_signature-clause-fault : goal.returns-in_err-check_signature-clause-fault
returns-in_err-check_signature-clause-fault g c =
    let accepts = g.V.Verifier.good c.args.verifier.now in
    let x = c.in_err-check_signature.field-0.0 in
    let grown = c.take_page.new.operator in
    let q = err_from_is_err_and c.from_residual-in_err-check_signature.result c.from_residual-in_err-check_signature.ensures.1 in
    rw (q.1, q.2) (λ ids operator packages.
    let good = c.take_page.ensures.operator operator in
    let all_good : AreGood accepts c.as_slice-kept.result.now = subst (AreGood accepts) (sym c.as_slice-kept.ensures.value) (c.take_page.ensures.packages packages) in
    told (λ e. IsTurnFault e accepts (logs_view c.args.operator.now c.args.packages.now.items) c.args.checkpoint.now (page_view c.args.page.now)) (signature_wants_memory x) update.Memory (update.Signature x) (λ memory. tt)
    (λ other. (
      other,
      logs_view grown c.take_page.new.packages.items,
      c.in_ok-take_page.ensures.brings ids operator packages,
      record {
        last = c.if-page.false;
        lawful = subst (λ (l : List PackageInfo). AreLawful accepts (logs_view grown l)) c.as_slice-kept.ensures.value (c.in_ok-check_presence.ensures.ok accepts good all_good);
        fault = c.in_err-check_signature.ensures.fault good.sound;
      },
    )))

pub returns-clause-turned : goal.returns-clause-turned
returns-clause-turned g c ids operator packages =
    let accepts = g.V.Verifier.good c.args.verifier.now in
    let grown = c.take_page.new.operator in
    let good = c.take_page.ensures.operator operator in
    let all_good : AreGood accepts c.as_slice-kept.result.now = subst (AreGood accepts) (sym c.as_slice-kept.ensures.value) (c.take_page.ensures.packages packages) in
    let lawful : AreLawful accepts (logs_view grown c.take_page.new.packages.items) = subst (λ (l : List PackageInfo). AreLawful accepts (logs_view grown l)) c.as_slice-kept.ensures.value (c.in_ok-check_presence.ensures.ok accepts good all_good) in
    record {
      brings = c.in_ok-take_page.ensures.brings ids operator packages;
      kept = lawful-kept accepts (logs_view grown c.take_page.new.packages.items) (page_view c.args.page.now).packages lawful;
      follows = (
        c.if-page.false,
        record {
          lawful = lawful;
          signed = c.in_ok-check_signature.ensures.ok good.sound;
        },
      );
    }

-- more is to come
pub returns-then-page-clause-turned : goal.returns-then-page-clause-turned
returns-then-page-clause-turned g c ids operator packages =
    let page = page_view c.args.page.now in
    record {
      brings = c.in_ok-take_page.ensures.brings ids operator packages;
      kept = subst (λ (l : List PackageInfo). LeavesNoneEmpty (map package_view l) page.packages) c.as_slice-kept.ensures.value c.in_ok-check_listed.ensures.ok;
      follows = c.if-page.true;
    }
