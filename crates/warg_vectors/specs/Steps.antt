-- How registries are asked as a link: they stay as they are, and answer.
use Rattle.std.specs.Prelude.{◌≡◌, ℕ, List, Option, Some}
use Rattle.warg_exchange.specs.declared.exchange.Request.{Request}
use Rattle.warg_exchange.specs.declared.exchange.Reply.{Reply}
use Rattle.warg_api.specs.Link.{Asked, answered}
use Rattle.warg_vectors.specs.declared.registry.ModelRegistry.{ModelRegistry}
use Rattle.warg_vectors.specs.Answers.{IsReplyTo}
use Rattle.warg_vectors.specs.State.{IsSound, world}

-- nothing changes, and a reply comes, which sound registries give to the request
pub record IsStep (old : ModelRegistry) (asked : Asked) (new : ModelRegistry) : Type 0 where
  pub same : new ≡ old
  pub reply : Reply
  pub came : asked.reply ≡ Some reply
  pub is : IsSound old → IsReplyTo (world old) asked.request reply

-- the same, where the reply's status comes, and its body as one piece
abbrev pub IsOpening : ModelRegistry → Request → ℕ → Option (List ℕ) → ModelRegistry → Type 0
IsOpening old request status body new =
    (reply : Reply) × IsStep old (answered request reply) new × (reply.status ≡ status) × (body ≡ Some reply.body)
