-- Who asks, by an asker's parts.
use Rattle.std.specs.Prelude.{Option, IfSome, option_copied}
use Rattle.http_header.specs.FieldValue.{IsFieldValue}
use Rattle.url.specs.Parts.{serialize}
use Rattle.warg_exchange.specs.Requests.{Asker, bearer}
use Rattle.warg_request.specs.declared.asker.Asker.{Asker as Parts}

-- who asks which registry, as the definitions of requests see it
abbrev pub asker_view : Parts → Asker
asker_view a = record { base = serialize a.url.now; token = a.token.now; registry = option_copied a.registry }

-- the registry's name and the token can be sent in headers
abbrev pub CanAsk : Asker → Type 0
CanAsk a = IfSome a.registry IsFieldValue × IfSome (bearer a.token) IsFieldValue
