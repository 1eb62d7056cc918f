use Rattle.std.proofs.Common.{rules, ◌≡◌, sym, ◌∙◌, ap, subst, map, length}
use Rattle.std.proofs.lemmas.List.{length-map, take-map}
use Rattle.semver.specs.Grammar.{IsValid}
use Rattle.semver.specs.Identifiers.{parts_of}
use Rattle.warg_model.specs.Held.{IsModel}
use Rattle.warg_model.specs.State.{held, logged_view}
use Rattle.warg_model.proofs.ModelLaws.{truncated}
use Rattle.warg_model.proofs.registry.ModelRegistry.publish.Goals as goal

pub returns-in-Ok-clause-sound : goal.returns-in-Ok-clause-sound
returns-in-Ok-clause-sound c sound =
    let valid : IsValid (parts_of c.args.version.now) = search rules in
    c.in-Ok.ensures.sound c.in_ok-log.ensures (subst IsValid (sym c.in_ok-copy.ensures) valid) sound

pub returns-clause-same : goal.returns-clause-same
returns-clause-same c =
    let h = held c.args.self.now in
    let starts = c.in-Err.ensures.front c.in_ok-log.ensures in
    let all : c.len-count.result ≡ length h.published = search (rules, length-map) in
    truncated h (held c.add_release.new.self) (map logged_view c.truncate.new.self.items) c.len-count.result starts.0 starts.1 all
    (ap (map logged_view) c.truncate.ensures.items ∙ sym (take-map logged_view c.len-count.result c.add_release.new.self.records.items))

pub returns-clause-sound : goal.returns-clause-sound
returns-clause-sound c sound = subst IsModel (sym (returns-clause-same c)) sound
