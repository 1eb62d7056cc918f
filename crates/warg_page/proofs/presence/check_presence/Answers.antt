use Rattle.std.proofs.Common.{◌≡◌, ◌≢◌, ◌==◌, [], ℕ, length, take, rules, sym, ◌∙◌, ap, subst}
use Rattle.std.specs.List.{All}
use Rattle.std.proofs.lemmas.Bool.{false≢true}
use Rattle.std.proofs.lemmas.List.{take_all}
use Rattle.warg_record.specs.View.{operator_entry_view}
use Rattle.warg_info.specs.declared.package.PackageInfo.{PackageInfo}
use Rattle.warg_info.specs.Info.{kept_view, package_log}
use Rattle.warg_page.proofs.PresenceLaws.{none-of, all-lawful}
use Rattle.warg_page.proofs.presence.check_presence.Goals as goal

pub returns-clause-ok : goal.returns-clause-ok
returns-clause-ok c accepts operator packages =
    let items = c.records.result.now in
    let some : length items ≡ 0 → ⊥ = λ e. false≢true (sym (sym c.is_empty.ensures ∙ c.if-is_empty.false) ∙ ap (λ (n : ℕ). n == 0) e) in
    let whole : take c.loop-info.info-index c.args.packages.now ≡ c.args.packages.now = search (rules, take_all) in
    record {
      operator = (λ e. some (none-of (kept_view operator_entry_view) items (c.records.ensures ∙ e)), operator.lawful);
      packages = all-lawful accepts c.args.packages.now (subst (All (λ (info : PackageInfo). package_log info ≢ [])) whole c.loop-info.invariant) packages;
    }
