use Rattle.std.proofs.Common.{rules, ◌≡◌, true, sym, subst}
use Rattle.std.specs.Prelude.{is_some, option_and_then, find}
use Rattle.std.proofs.lemmas.List.Elements.{recursion_from_All}
use Rattle.std.specs.Prelude.{IfSome}
use Rattle.semver.specs.Grammar.{IsValid}
use Rattle.semver.specs.Identifiers.{parts_of}
use Rattle.warg_hash.specs.Hash.{IsDigest, package_log_id}
use Rattle.warg_record.specs.Record.{Package}
use Rattle.warg_log.specs.History.{releases_of, same_version}
use Rattle.warg_log.specs.Lawful.{IsRead}
use Rattle.warg_log.specs.Rules.{entries_of}
use Rattle.warg_model.specs.Held.{package_records}
use Rattle.warg_model.specs.State.{held}
use Rattle.warg_model.proofs.RecordLaws.{records-all}
use Rattle.warg_model.proofs.SignatureLaws.{all-weaker}
use Rattle.warg_model.proofs.ReleaseLaws.{valid-standing}
use Rattle.warg_model.proofs.registry.ModelRegistry.yank.Goals as goal

pub returns-clause-sound : goal.returns-clause-sound
returns-clause-sound c sound =
    let h = held c.args.self.now in
    let log = package_records h c.args.name.now in
    let version = parts_of c.args.version.now in
    let releases = releases_of (entries_of log) in
    let forms = recursion_from_All (λ r. IsValid r.0 × IfSome r.1 IsDigest) releases (c.releases_have_the_form.ensures Package log (records-all (IsRead Package) (package_log_id c.args.name.now) h.published sound.each_is_read)) in
    let stands : is_some (option_and_then (λ r. r.1) (find (λ r. same_version version r.0) releases)) ≡ true = search (rules, c.stands.ensures log c.in_ok-log.ensures) in
    let valid : IsValid version = valid-standing version releases (all-weaker (λ r. IsValid r.0 × IfSome r.1 IsDigest) (λ r. IsValid r.0) (λ r h. h.0) releases forms) stands in
    c.in_ok-add.ensures.sound c.in_ok-log.ensures (subst IsValid (sym c.in_ok-copy_of.ensures) valid) sound
