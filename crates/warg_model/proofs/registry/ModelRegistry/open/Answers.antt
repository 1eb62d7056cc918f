use Rattle.std.proofs.Common.{rules, ◌≡◌, true}
use Rattle.std.proofs.lemmas.Result.{on_ok_weaker}
use Rattle.warg_log.specs.Rules.{is_first}
use Rattle.warg_model.specs.Held.{package_records}
use Rattle.warg_model.specs.State.{held}
use Rattle.warg_model.proofs.ModelLaws.{first-of, init-form, log-opened}
use Rattle.warg_model.proofs.registry.ModelRegistry.open.Goals as goal

pub returns-clause-opened : goal.returns-clause-opened
returns-clause-opened c =
    let h = held c.args.self.now in
    let name = c.args.name.now in
    on_ok_weaker c.add.result
    (λ added follows.
    let first : is_first (package_records h name) ≡ true = search (rules, first-of, c.head.ensures (package_records h name) follows) in
    log-opened h (held c.add.new.self) name c.in_ok-try_clone.field-0 c.in_ok-algorithm.field-0 first c.in_ok-try_clone.ensures c.in_ok-algorithm.ensures (added follows))
    c.add.ensures.added

pub returns-clause-sound : goal.returns-clause-sound
returns-clause-sound c =
    on_ok_weaker c.add.result
    (λ added follows sound. added follows (init-form c.args.self.now.key c.in_ok-try_clone.field-0 c.in_ok-algorithm.field-0 c.in_ok-try_clone.ensures c.in_ok-algorithm.ensures c.have_form.ensures.key) sound)
    c.add.ensures.sound
