-- A client's requests are read as what they ask.
use Rattle.std.proofs.Common.{◌≡◌, ◌++◌, [], ℕ, List, Option, Some, None, refl, ◌∙◌, ap}
use Rattle.std.specs.Prelude.{codes}
use Rattle.hex.specs.Hex.{encode_lower}
use Rattle.serde_json.specs.Data.{Data}
use Rattle.warg_hash.specs.Hash.{digest_of, hash_text}
use Rattle.warg_exchange.specs.declared.exchange.Method.TheVariants.{Get}
use Rattle.warg_exchange.specs.Requests.{Asker, checkpoint_request, post_request, sources_request, plain_get}
use Rattle.warg_vectors.specs.Asked.{Checkpoint, OfRegistry, Sources, Content, home, content_url, asked_at, asked_by, path_asked, content_asked, sources_asked, registry_of_request}
use Rattle.warg_names.specs.Cut.{behind}
use Rattle.warg_names.specs.CutLaws.{behind-append}

-- a request without a body, for a path behind the registries' URL
get-read : (base path : List ℕ) → base ≡ home → asked_at Get (behind home (base ++ path)) [] ≡ path_asked path
get-read base path at =
    ap (λ (b : List ℕ). asked_at Get (behind home (b ++ path)) []) at ∙ ap (λ (o : Option (List ℕ)). asked_at Get o []) (behind-append home path)

pub checkpoint-read : (a : Asker) → a.base ≡ home → asked_by (checkpoint_request a) ≡ OfRegistry Checkpoint
checkpoint-read a at = get-read a.base (codes "v1/fetch/checkpoint") at

pub header-read : (registry token : Option (List ℕ)) → registry_of_request (checkpoint_request (record { base = []; token = token; registry = registry })) ≡ registry
header-read (Some name) token = refl
header-read None (Some t) = refl
header-read None None = refl

pub posted-read : (registry token : Option (List ℕ)) (path : List ℕ) (d : Data) → registry_of_request (post_request (record { base = []; token = token; registry = registry }) path d) ≡ registry
posted-read (Some name) token path d = refl
posted-read None (Some t) path d = refl
posted-read None None path d = refl

sources-at : (text digest : List ℕ) → digest_of text ≡ Some digest → path_asked (codes "v1/content/" ++ text) ≡ Sources digest
unfolding behind
sources-at text digest named = ap sources_asked named

pub sources-read : (a : Asker) (digest : List ℕ) → a.base ≡ home → digest_of (hash_text digest) ≡ Some digest → asked_by (sources_request a digest) ≡ Sources digest
sources-read a digest at named = get-read a.base (codes "v1/content/" ++ hash_text digest) at ∙ sources-at (hash_text digest) digest named

content-at : (digits digest : List ℕ) → digest_of (codes "sha256:" ++ digits) ≡ Some digest → path_asked (codes "content/sha256/" ++ digits) ≡ Content digest
unfolding behind
content-at digits digest named = ap content_asked named

pub content-read : (digest : List ℕ) → digest_of (hash_text digest) ≡ Some digest → asked_by (plain_get (content_url digest)) ≡ Content digest
content-read digest named = get-read home (codes "content/sha256/" ++ encode_lower digest) refl ∙ content-at (encode_lower digest) digest named
