use Rattle.std.proofs.Common.{◌≡◌, List, ℕ, map, take}
use Rattle.serde_json.specs.Data.{string}
use Rattle.serde_json.specs.View.{view}
use Rattle.warg_hash.specs.Hash.{hash_text}
use Rattle.warg_request.proofs.bodies.names_value.Given as goal

abbrev pub invariant-loop-id : goal.invariant-loop-id
invariant-loop-id l = map view l.texts.items ≡ map (λ (id : List ℕ). string (hash_text id)) (take l.id-index l.ids)
