-- Who asks, by a client.
use Rattle.std.specs.Prelude.{ℕ, List, Option}
use Rattle.url.specs.Parts.{serialize}
use Rattle.warg_exchange.specs.Requests.{Asker}
use Rattle.warg_api.specs.declared.client.Client.{Client}

-- the client asks the registry of this name, or the one at its URL
abbrev pub asker : Client → Option (List ℕ) → Asker
asker client registry = record { base = serialize client.url; token = client.auth_token; registry = registry }
