use Rattle.std.proofs.Common.{◌≡◌}
use Rattle.std.specs.Prelude.{fold}
use Rattle.serde_json.specs.Data.{no_members, put}
use Rattle.serde_json.specs.View.{members_view}
use Rattle.warg_hash.specs.Hash.{hash_text}
use Rattle.warg_exchange.specs.Requests.{token_data}
use Rattle.warg_request.proofs.bodies.tokens_value.Given as goal

abbrev pub invariant-loop-id : goal.invariant-loop-id
invariant-loop-id l =
    fold (λ ms t. put (hash_text t.0) (token_data t.1) ms) (members_view l.map.entries) l.id-iterator
    ≡ fold (λ ms t. put (hash_text t.0) (token_data t.1) ms) no_members l.packages.entries
