-- URLs of registries: what a text names by the URL Standard, which schemes and hosts are taken, and the form in which a
-- URL is kept.
use Rattle.std.specs.Prelude.{◌≡◌, ℕ, ◌-◌, ◌==◌, ◌⊎◌, if◌then◌else◌, List, [], ◌∷◌, ◌++◌, length, slice_index, codes, Option, Some, None}
use Rattle.std.specs.Str.Iter.{HasSubslice}
use Rattle.std.specs.Net.Addr.{IsLoopbackV4, IsLoopbackV6}
use Rattle.url.specs.declared.host.Host.{Host}
use Rattle.url.specs.declared.host.Host.TheVariants.{Domain, Ipv4, Ipv6}
use Rattle.url.specs.Parser.{Parsed, parse_url}
use Rattle.url.specs.Parts.{Parts, nonempty_host}
use Rattle.url.specs.Setters.{set_path, set_query, set_fragment}

-- a text as a whole URL's: one that holds no `://` has `https://` put before it
abbrev pub IsWhole : List ℕ → List ℕ → Type 0
IsWhole text whole =
    (HasSubslice text (codes "://") × (whole ≡ text))
    ⊎ (¬ (HasSubslice text (codes "://")) × (whole ≡ codes "https://" ++ text))

-- what the URL Standard reads of the text as a whole URL's
abbrev pub ReadsAs : List ℕ → Parsed Parts → Type 0
ReadsAs text read = (whole : List ℕ) × IsWhole text whole × (parse_url None whole ≡ read)

-- the host is this machine
abbrev pub IsLocal : Option (Host (List ℕ)) → Type 0
IsLocal (Some (Domain domain)) = domain ≡ codes "localhost"
IsLocal (Some (Ipv4 address)) = IsLoopbackV4 address
IsLocal (Some (Ipv6 address)) = IsLoopbackV6 address
IsLocal None = ⊥

-- what is sent there is encrypted, or stays on this machine
abbrev pub IsSafe : Parts → Type 0
IsSafe url = (url.scheme ≡ codes "https") ⊎ ((url.scheme ≡ codes "http") × IsLocal (nonempty_host url))

-- the path made to end with a slash
abbrev pub with_slash : Parts → Parts
with_slash url = if slice_index url.path (length url.path - 1) == 47 then url else set_path url (url.path ++ 47 ∷ [])

-- the form in which a URL is kept: without query and fragment, and with a path that ends with a slash, so that a
-- request's URL is its text and a path behind it
abbrev pub base_of : Parts → Parts
base_of url = with_slash (set_fragment (set_query url None) None)
