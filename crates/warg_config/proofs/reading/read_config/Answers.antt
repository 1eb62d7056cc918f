-- The bytes are JSON that says a configuration, or they say nothing.
use Rattle.std.proofs.Common.{◌∙◌, subst, sym, true≢false}
use Rattle.serde_json.specs.View.{view}
use Rattle.warg_config.specs.Answers.{Gives}
use Rattle.warg_config.specs.Shown.{settings_of}
use Rattle.warg_config.proofs.JsonLaws.{says, says_nothing}
use Rattle.warg_config.proofs.reading.read_config.Goals as goal

pub returns-in-Ok : goal.returns-in-Ok
returns-in-Ok c =
    subst (Gives settings_of c.config_of.result) (says c.args.bytes.now (view c.in-Ok.value) c.in-Ok.ensures.ok.0 c.in-Ok.ensures.ok.1)
    c.config_of.ensures

pub returns-else-is_memory : goal.returns-else-is_memory
returns-else-is_memory c =
    says_nothing c.args.bytes.now (c.in-Err.ensures.err (λ yes. true≢false (sym (c.is_memory.ensures.1 yes) ∙ c.if-is_memory.false)))
