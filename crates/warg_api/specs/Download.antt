-- Downloads of contents: where a content is, by a registry's reply, and the exchanges that get it from there.
use Rattle.std.specs.Prelude.{◌≡◌, ◌⊎◌, ℕ, Bool, true, false, List, [], ◌∷◌, ◌++◌, map, filter, Option, Some, None, Ok, bytes_eq}
use Rattle.std.specs.Option.{option_map_or}
use Rattle.std.specs.Result.{is_ok}
use Rattle.warg_api.specs.Link.{Asked, answered, unanswered, Exchanges}
use Rattle.warg_api.specs.Calls.{IsCallFault}
use Rattle.warg_api.specs.Errors.{content_error}
use Rattle.warg_api.specs.declared.error.ClientError.{ClientError}
use Rattle.warg_api.specs.declared.error.ClientError.TheVariants as error
use Rattle.std.specs.Map.{lookup}
use Rattle.url.specs.Parser.{parse_url}
use Rattle.warg_exchange.specs.declared.content.ContentSource.{ContentSource}
use Rattle.warg_exchange.specs.declared.content.ContentSource.TheVariants.{HttpGet}
use Rattle.warg_exchange.specs.declared.exchange.Request.{Request}
use Rattle.warg_exchange.specs.declared.exchange.Reply.{Reply}
use Rattle.warg_exchange.specs.declared.exchange.Exchange.{Exchange}
use Rattle.warg_exchange.specs.Replies.{is_success, says, sources_in}
use Rattle.warg_exchange.specs.Requests.{Asker, plain_get, sources_request}
use Rattle.warg_exchange.specs.Views.{Sources}

abbrev pub source_url : ContentSource → List ℕ
source_url (HttpGet url) = url

-- whether a text is a URL by itself (the URL Standard, section 4.4)
abbrev pub is_url : List ℕ → Bool
is_url text = is_ok (parse_url None text)

-- the URLs among sources, in order
abbrev pub urls : List ContentSource → List (List ℕ)
urls sources = filter is_url (map source_url sources)

-- those at which a content is, by what a registry lists for its digest
abbrev pub urls_of : List ℕ → Sources → List (List ℕ)
urls_of digest sources = option_map_or urls (lookup (λ known. bytes_eq digest known) sources) []

-- a link gives this reply to a GET of a URL
abbrev pub Gets : {T : Type 0} → (T → Asked → T → Type 0) → T → List ℕ → Reply → T → Type 0
Gets Steps old url reply new = Steps old (answered (plain_get url) reply) new

-- one source is tried: its text is a URL, and the reply to a GET of it is a success with this body; or there is none,
-- since the text is no URL and nothing is asked, or since the reply is no success
abbrev pub Turns : {T : Type 0} → (T → Asked → T → Type 0) → T → List ℕ → T → Option (List ℕ) → Type 0
Turns Steps old url new (Some body) = (reply : Reply)
    × (is_url url ≡ true) × Gets Steps old url reply new × (is_success reply.status ≡ true) × (reply.body ≡ body)
Turns Steps old url new None =
    ((is_url url ≡ false) × (new ≡ old))
    ⊎ ((reply : Reply) × (is_url url ≡ true) × Gets Steps old url reply new × (is_success reply.status ≡ false))

-- nothing is asked, or the reply to a GET of the URL is lost
abbrev pub Loses : {T : Type 0} → (T → Asked → T → Type 0) → T → List ℕ → T → Type 0
Loses Steps old url new =
    (new ≡ old) ⊎ ((reply : Reply) × (is_url url ≡ true) × Gets Steps old url reply new)

-- URLs were tried in order, of which these are left: none yet; or one more, and its reply was no success
pub data Tried (all : List (List ℕ)) : List (List ℕ) → List Exchange → Type 0 where
  none_yet : Tried all all []
  one_more : (url : List ℕ) (left : List (List ℕ)) (xs : List Exchange) (reply : Reply) → Tried all (url ∷ left) xs
      → is_success reply.status ≡ false → Tried all left (xs ++ record { request = plain_get url; reply = reply } ∷ [])

-- the exchanges try URLs in order, and the last one alone is a success, with this body
pub record Finds (all : List (List ℕ)) (xs : List Exchange) (body : List ℕ) : Type 0 where
  pub tried : List Exchange
  pub url : List ℕ
  pub left : List (List ℕ)
  pub reply : Reply
  pub so_far : Tried all (url ∷ left) tried
  pub in_turn : xs ≡ tried ++ record { request = plain_get url; reply = reply } ∷ []
  pub success : is_success reply.status ≡ true
  pub gives : reply.body ≡ body

-- after these exchanges, which found nothing so far, this request is the next
pub record TriesNext (all : List (List ℕ)) (xs : List Exchange) (next : Request) : Type 0 where
  pub url : List ℕ
  pub left : List (List ℕ)
  pub so_far : Tried all (url ∷ left) xs
  pub asks : next ≡ plain_get url

-- what was found: a body, or nothing where each URL was tried
abbrev pub Found : List (List ℕ) → List Exchange → Option (List ℕ) → Type 0
Found all xs (Some body) = Finds all xs body
Found all xs None = Tried all [] xs

-- the exchanges are those of URLs that were tried; or one more was asked, whose reply was lost
abbrev pub Tries : List (List ℕ) → List Exchange → Type 0
Tries all xs =
    ((left : List (List ℕ)) × Tried all left xs)
    ⊎ ((tried : List Exchange) × (x : Exchange) × TriesNext all tried x.request × (xs ≡ tried ++ x ∷ []))

-- ---- a content, by its digest

-- the registry is asked first where the content is, and says so
pub record Lists (a : Asker) (digest : List ℕ) (xs : List Exchange) (rest : List Exchange) (all : List (List ℕ)) : Type 0 where
  pub first : Exchange
  pub in_turn : xs ≡ first ∷ rest
  pub asks : first.request ≡ sources_request a digest
  pub sources : Sources
  pub says_so : says sources_in first.reply ≡ Ok sources
  pub lists : urls_of digest sources ≡ all

-- the exchanges get these bytes from the first of the content's URLs that gives any
abbrev pub Downloads : Asker → List ℕ → List Exchange → List ℕ → Type 0
Downloads a digest xs bytes = (rest : List Exchange) × (all : List (List ℕ)) × Lists a digest xs rest all × Finds all rest bytes

-- they try each of the content's URLs, and none gives any
abbrev pub AllFail : Asker → List ℕ → List Exchange → Type 0
AllFail a digest xs = (rest : List Exchange) × (all : List (List ℕ)) × Lists a digest xs rest all × Tried all [] rest

-- after these exchanges this GET is the next
abbrev pub GetsNext : Asker → List ℕ → List Exchange → Request → Type 0
GetsNext a digest xs next =
    (rest : List Exchange) × (all : List (List ℕ)) × Lists a digest xs rest all × TriesNext all rest next

-- the exchanges are a beginning of a download, and the last reply may be lost
abbrev pub Begins : Asker → List ℕ → List Exchange → Type 0
Begins a digest xs = (rest : List Exchange) × (all : List (List ℕ)) × Lists a digest xs rest all × Tries all rest

-- why a download gives nothing: the call for the sources gives nothing; or none of the content's URLs gives any; or the
-- link gave no reply to a GET; or memory ran out behind some exchanges
abbrev pub IsDownloadFault : {T : Type 0} → Asker → List ℕ → ClientError → (T → Asked → T → Type 0) → T → T → Type 0
IsDownloadFault {T = T} a digest e Steps old new =
    IsCallFault a content_error e Steps old (sources_request a digest) new sources_in
    ⊎ ((e ≡ error.AllSourcesFailed digest) × (xs : List Exchange) × Exchanges Steps old xs new × AllFail a digest xs)
    ⊎ ((e ≡ error.LinkFault) × (xs : List Exchange) × (last : T) × (next : Request) × Exchanges Steps old xs last
    × GetsNext a digest xs next × Steps last (unanswered next) new)
    ⊎ ((e ≡ error.Memory) × (xs : List Exchange) × Exchanges Steps old xs new × Begins a digest xs)
