-- Calls in whose way nothing stands.
use Rattle.std.specs.Prelude.{ℕ, List}
use Rattle.compose_config.specs.Plan.{Settings}
use Rattle.warg_api.specs.Link.{Asked}
use Rattle.warg_plan.specs.Walk.{Entry, nothing_known}
use Rattle.warg_assemble.specs.Known.{Known}
use Rattle.warg_assemble.specs.Parts.{Part}
use Rattle.warg_learn.specs.Seen.{Seen}
use Rattle.warg_compose.specs.Linked.{IsLinkable}
use Rattle.warg_complete.specs.Sessions.{ProvesSession}
use Rattle.warg_complete.specs.Undisturbed.{IsUndisturbed}
use Rattle.warg_complete.specs.Text.{IsPlanText}
use Rattle.warg_client.specs.Assembled.{wanted}

module _ {T D : Type 0} (Steps : T → Asked → T → Type 0) (old new : Seen T D) where
  -- A text is that of a plan that can be linked, which a session finds by what is known when the call begins. Asked the
  -- requests of the session in turn, the link gives its replies, wherever it gives any. And no call of a store failed,
  -- what they hold can be read, the token and the names of registries are values of headers, and at least as many pages
  -- may be asked for as the session asks for.
  pub record IsValidCall (text : List ℕ) : Type 0 where
    pub settings : Settings
    pub reads : IsPlanText text settings
    pub known : Known
    pub parts : List Part
    pub entries : List Entry
    pub proves : ProvesSession Steps old.accepts old.asker (wanted settings) known nothing_known parts entries old
    pub undisturbed : IsUndisturbed parts old new
    pub linkable : IsLinkable settings.disallow_imports entries
