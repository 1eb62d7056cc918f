-- The URL that a configuration gives is that of no registry.
use Rattle.std.proofs.Common.{◌≡◌, ◌≢◌, ℕ, List, inl, inr, refl, Ok, Err, Some}
use Rattle.std.specs.Prelude.{codes}
use Rattle.url.specs.declared.error.ParseError.{ParseError}
use Rattle.url.specs.Parts.{Parts, nonempty_host}
use Rattle.warg_url.specs.RegistryUrl.{ReadsAs, IsLocal}
use Rattle.warg_url.specs.declared.error.UrlError.{UrlError}
use Rattle.warg_url.specs.declared.error.UrlError.TheVariants.{NotUrl, NotHttps, Insecure, Memory}
use Rattle.warg_exchange.specs.declared.exchange.Reply.{Reply}
use Rattle.warg_exchange.specs.Replies.{well_known_says}
use Rattle.warg_api.specs.Errors.{url_error}
use Rattle.warg_api.specs.Uploads.{IsNoConfig}

pub no_config : (base : Parts) (reply : Reply) (text : List ℕ) → well_known_says reply ≡ Ok (Some text) → (e : UrlError)
    → (e ≡ NotUrl → (f : ParseError) × ReadsAs text (Err f))
    → (e ≡ NotHttps → (read : Parts) × ReadsAs text (Ok read) × (read.scheme ≢ codes "https") × (read.scheme ≢ codes "http"))
    → (e ≡ Insecure → (read : Parts) × ReadsAs text (Ok read) × (read.scheme ≡ codes "http") × (IsLocal (nonempty_host read) → ⊥))
    → IsNoConfig base (url_error e) reply
no_config base reply text said NotUrl a b c = (text, said, inl (a refl))
no_config base reply text said NotHttps a b c = (text, said, inr (inl (b refl)))
no_config base reply text said Insecure a b c = (text, said, inr (inr (c refl)))
no_config base reply text said Memory a b c = tt
