-- Contents that are loaded as streams: where a content is, by a registry's reply, and the bodies that a link opens there,
-- in turn.
use Rattle.std.specs.Prelude.{◌≡◌, ◌⊎◌, ℕ, true, false, List, [], ◌∷◌, Option, Some, None, Ok, Err}
use Rattle.warg_body.specs.Validated.{Piece}
use Rattle.warg_body.specs.declared.error.LinkError.TheVariants as link
use Rattle.warg_exchange.specs.declared.exchange.Request.{Request}
use Rattle.warg_exchange.specs.declared.exchange.Reply.{Reply}
use Rattle.warg_exchange.specs.Replies.{is_success, says, sources_in}
use Rattle.warg_exchange.specs.Requests.{Asker, plain_get, sources_request}
use Rattle.warg_exchange.specs.Views.{Sources}
use Rattle.warg_api.specs.Link.{Asked, Recorded, IsRecordedStep, answered, unanswered}
use Rattle.warg_api.specs.Calls.{Asks, IsCallFault}
use Rattle.warg_api.specs.Download.{is_url, urls_of}
use Rattle.warg_api.specs.Errors.{content_error}
use Rattle.warg_api.specs.declared.error.ClientError.{ClientError}
use Rattle.warg_api.specs.declared.error.ClientError.TheVariants as error

-- a recorded reply is opened: its status comes, and its body as one piece
abbrev pub IsRecordedOpening : Recorded → Request → ℕ → Option (List ℕ) → Recorded → Type 0
IsRecordedOpening old request status body new =
    (reply : Reply) × IsRecordedStep old (answered request reply) new × (reply.status ≡ status) × (body ≡ Some reply.body)

-- a body that is at hand comes as one piece; or there is no memory for it
abbrev pub IsPiece : List ℕ → Piece → Type 0
IsPiece bytes piece = (piece ≡ Ok bytes) ⊎ (piece ≡ Err link.Memory)

-- one source is opened: its text is a URL, and the status of the reply is a success, with this body; or there is none,
-- since the text is no URL and nothing is asked, or since the status is no success
abbrev pub OpensTo : {T B : Type 0} → (T → Request → ℕ → B → T → Type 0) → T → List ℕ → T → Option B → Type 0
OpensTo Opens old url new (Some body) = (status : ℕ)
    × (is_url url ≡ true) × Opens old (plain_get url) status body new × (is_success status ≡ true)
OpensTo {B = B} Opens old url new None =
    ((is_url url ≡ false) × (new ≡ old))
    ⊎ ((status : ℕ) × (body : B) × (is_url url ≡ true) × Opens old (plain_get url) status body new × (is_success status ≡ false))

-- From one state of a link to another the first of some URLs were opened, none of which was a success, and these are left.
pub data Passed {T B : Type 0} (Opens : T → Request → ℕ → B → T → Type 0) (all : List (List ℕ)) (old : T) : List (List ℕ) → T → Type 0 where
  none_yet : Passed Opens all old all old
  one_more : (url : List ℕ) (left : List (List ℕ)) (mid new : T) (status : ℕ) (body : B) → Passed Opens all old (url ∷ left) mid
      → Opens mid (plain_get url) status body new → is_success status ≡ false → Passed Opens all old left new

-- the registry is asked where the content is, and lists these URLs
abbrev pub IsListed : {T : Type 0} → (T → Asked → T → Type 0) → Asker → List ℕ → T → List (List ℕ) → T → Type 0
IsListed Steps a digest old all new =
    Asks Steps old (sources_request a digest) new
    (λ reply. (sources : Sources) × (says sources_in reply ≡ Ok sources) × (urls_of digest sources ≡ all))

-- the first of some URLs whose status is a success gives this body
pub record OpensFirst {T B : Type 0} (Opens : T → Request → ℕ → B → T → Type 0) (all : List (List ℕ)) (old : T) (body : B) (new : T) : Type 0 where
  pub url : List ℕ
  pub left : List (List ℕ)
  pub mid : T
  pub status : ℕ
  pub passed : Passed Opens all old (url ∷ left) mid
  pub opens : Opens mid (plain_get url) status body new
  pub success : is_success status ≡ true

-- what was opened: a body, or nothing where each URL was tried
abbrev pub OpensAny : {T B : Type 0} → (T → Request → ℕ → B → T → Type 0) → List (List ℕ) → T → T → Option B → Type 0
OpensAny Opens all old new (Some body) = OpensFirst Opens all old body new
OpensAny Opens all old new None = Passed Opens all old [] new

-- the next URL is opened, and no reply comes
pub record LosesNext {T B : Type 0} (Steps : T → Asked → T → Type 0) (Opens : T → Request → ℕ → B → T → Type 0) (all : List (List ℕ)) (old new : T) : Type 0 where
  pub url : List ℕ
  pub left : List (List ℕ)
  pub mid : T
  pub passed : Passed Opens all old (url ∷ left) mid
  pub lost : Steps mid (unanswered (plain_get url)) new

-- some of the URLs were opened, and of the next one a reply came perhaps
abbrev pub OpensSome : {T B : Type 0} → (T → Asked → T → Type 0) → (T → Request → ℕ → B → T → Type 0) → List (List ℕ) → T → T → Type 0
OpensSome {T = T} Steps Opens all old new =
    ((left : List (List ℕ)) × Passed Opens all old left new)
    ⊎ ((url : List ℕ) × (left : List (List ℕ)) × (mid : T) × (reply : Reply) × Passed Opens all old (url ∷ left) mid
    × Steps mid (answered (plain_get url) reply) new)

-- the body of a content: its URLs are listed, and the first of them that gives any gives this one
abbrev pub IsOpened : {T B : Type 0} → (T → Asked → T → Type 0) → (T → Request → ℕ → B → T → Type 0) → Asker → List ℕ → T → B → T → Type 0
IsOpened {T = T} Steps Opens a digest old body new =
    (all : List (List ℕ)) × (listed : T) × IsListed Steps a digest old all listed × OpensFirst Opens all listed body new

-- why no body is opened: the call for the sources gives nothing; or none of the content's URLs gives any; or the link gave
-- no reply; or memory ran out
abbrev pub IsOpenFault : {T B : Type 0} → (T → Asked → T → Type 0) → (T → Request → ℕ → B → T → Type 0) → Asker → List ℕ → ClientError → T → T → Type 0
IsOpenFault {T = T} Steps Opens a digest e old new =
    IsCallFault a content_error e Steps old (sources_request a digest) new sources_in
    ⊎ ((e ≡ error.AllSourcesFailed digest) × (all : List (List ℕ)) × (listed : T) × IsListed Steps a digest old all listed
    × Passed Opens all listed [] new)
    ⊎ ((e ≡ error.LinkFault) × (all : List (List ℕ)) × (listed : T) × IsListed Steps a digest old all listed
    × LosesNext Steps Opens all listed new)
    ⊎ ((e ≡ error.Memory) × (all : List (List ℕ)) × (listed : T) × IsListed Steps a digest old all listed
    × OpensSome Steps Opens all listed new)
