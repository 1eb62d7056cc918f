-- The plan of a text, assembled over any link by a client that has kept nothing.
use Rattle.std.specs.Prelude.{◌≡◌, ◌⊎◌, ℕ, Bool, List, [], Some, None, Ok, codes}
use Rattle.std.specs.List.{AllByRecursion, flat_map, list_any}
use Rattle.sha2.specs.Sha256.{sha256}
use Rattle.url.specs.Parts.{Parts}
use Rattle.warg_url.specs.RegistryUrl.{ReadsAs, base_of}
use Rattle.warg_log.specs.Listed.{is_listed}
use Rattle.warg_log.specs.Rules.{Accepts}
use Rattle.warg_hint.specs.Hint.{is_same}
use Rattle.warg_hint.specs.declared.decide.AlwaysDecide.{AlwaysDecide}
use Rattle.warg_exchange.specs.Requests.{Asker}
use Rattle.warg_exchange.specs.declared.exchange.Exchange.{Exchange}
use Rattle.warg_api.specs.Asking.{asker}
use Rattle.warg_api.specs.Link.{Asked, Exchanges}
use Rattle.compose_config.specs.Plan.{Settings}
use Rattle.warg_plan.specs.Walk.{Entry, nothing_known}
use Rattle.warg_store.specs.Held.{Registry}
use Rattle.warg_store.specs.Memory.{held_in, schedule_in}
use Rattle.warg_store.specs.MemoryContents.{contents_in, content_schedule}
use Rattle.warg_store.specs.MemoryNames.{names_in, names_schedule}
use Rattle.warg_store.specs.declared.memory_content.MemoryContent.{MemoryContent}
use Rattle.warg_store.specs.declared.memory_namespaces.MemoryNamespaces.{MemoryNamespaces}
use Rattle.warg_store.specs.declared.memory_registry.MemoryRegistry.{MemoryRegistry}
use Rattle.warg_assemble.specs.Known.{Known}
use Rattle.warg_assemble.specs.Parts.{Part, exchanges_in}
use Rattle.warg_assemble.specs.Session.{AreOnce, IsSession, IsPlanOf}
use Rattle.warg_client.specs.Seen.{Faults, Seen, IsKnown, ReadsStores, tells}
use Rattle.warg_compose.specs.Linked.{IsPlanLinked}
use Rattle.warg_compose.specs.Open.{IsAllowed}
use Rattle.warg_compose.specs.Read.{IsComponent}
use Rattle.warg_client.specs.Undisturbed.{IsUnreplied}
use Rattle.warg_client.specs.Text.{IsPlanText}
use Rattle.warg_client.specs.ClientError.{ClientError}
use Rattle.warg_client.specs.ClientError.TheVariants as error
use Rattle.warg_client.specs.Assembled.{IsAssembleFault, wanted}
use Rattle.warg_client.specs.Complete.{IsValidCall}
use Rattle.warg_client.specs.Shown.{seen_by}
use Rattle.warg_client.specs.declared.client.Client.{Client}

-- a signature is accepted where it is listed, with its key and the digest of what was signed
abbrev pub accepts_listed : List (List ℕ × List ℕ × List ℕ) → Accepts
accepts_listed listed = λ key text signature. list_any (is_listed key (sha256 text) signature) listed

-- what is known by a client that has kept nothing
abbrev pub nothing : Known
nothing = record {
  operator = λ _. [];
  checkpoint = λ _. None;
  mapped = λ _. None;
  contents = λ _. None;
  updated = [];
}

-- requests are those to the registry at `https://home.test/`, without a token
pub record AsksHome (asks : Registry → Asker) : Type 0 where
  pub read : Parts
  pub reads : ReadsAs (codes "https://home.test/") (Ok read)
  pub is : asks ≡ asker (record { url = base_of read; auth_token = None; warg_registry = None })

-- how many pages may be asked for
abbrev pub page_limit : ℕ
page_limit = 10000

-- ---- the client

-- a client over a link, that goes by listed signatures, and keeps what it learns in memory
abbrev pub AnewClient : Type 0 → Type 0
AnewClient L = Client L MemoryRegistry MemoryContent MemoryNamespaces (List (List ℕ × List ℕ × List ℕ)) AlwaysDecide

-- all that is seen of it, by what its link tells and how often that failed
abbrev pub shown : {L T : Type 0} → (L → T) → (L → ℕ) → AnewClient L → Seen T AlwaysDecide
shown told faults client = seen_by (tells accepts_listed told faults (λ m. Some (held_in m)) (λ m. (schedule_in m).faults)
    (λ m. Some (contents_in m)) (λ m. (content_schedule m).faults) (λ m. Some (names_in m)) (λ m. (names_schedule m).faults))
    client

-- no call of a store has failed
pub record HaveNotFailed (f : Faults) : Type 0 where
  pub registries : f.registries ≡ 0
  pub contents : f.contents ≡ 0
  pub names : f.names ≡ 0

-- where a decision is asked, the answer is always the same
abbrev pub says : AlwaysDecide → AlwaysDecide → Bool → Bool
says old new answer = is_same old.answer answer

-- a client at the beginning, over a link of which this is told: nothing was asked, nothing is known, and no call of a store
-- has failed
pub record IsAnewOver {T : Type 0} (accepts : Accepts) (told : T) (s : Seen T AlwaysDecide) : Type 0 where
  pub accepts_so : s.accepts ≡ accepts
  pub home : AsksHome s.asker
  pub unasked : s.transcript.exchanges ≡ []
  pub link : s.transcript.link ≡ told
  pub knows : IsKnown s nothing
  pub pages : s.pages_left ≡ page_limit
  pub steady : HaveNotFailed s.faults
  pub can_be_read : ReadsStores s

-- Exchanges of which this holds are those to a session of the plan of a text, from nothing that was known, which updates each
-- package once. The entries are the plan over the logs that these exchanges alone prove; each content has its digest; and the
-- bytes have exactly one reading, whose image is that of the plan. So has the lock, which leaves imports of these names open;
-- and none is left open where the text disallows it.
pub record IsAssembledBy (Replied : List Exchange → Type 0) (accepts : Accepts) (text : List ℕ) (entries : List Entry)
    (left : List (List ℕ)) (lock bytes : List ℕ) : Type 0 where
  pub settings : Settings
  pub reads : IsPlanText text settings
  pub asks : Registry → Asker
  pub home : AsksHome asks
  pub parts : List Part
  pub session : IsSession accepts asks IsComponent (wanted settings) nothing nothing_known parts
  pub once : AreOnce parts
  pub replied : Replied (flat_map exchanges_in parts)
  pub plan : IsPlanOf accepts asks IsComponent nothing (flat_map exchanges_in parts) (wanted settings) entries
  pub digests : AllByRecursion (λ e. sha256 e.content ≡ e.digest) entries
  pub linked : IsPlanLinked entries left lock bytes
  pub allowed : IsAllowed settings.disallow_imports entries

module _ {T : Type 0} (Steps : T → Asked → T → Type 0) (accepts : Accepts) (told : T) where
  -- the same by exchanges over a link of which this was told
  abbrev pub IsAssembledAnew : List ℕ → List Entry → List (List ℕ) → (lock bytes : List ℕ) → Type 0
  IsAssembledAnew = IsAssembledBy (λ xs. (ended : T) × Exchanges Steps told xs ended) accepts

  -- Such a client refuses the text, or does not find its plan, or does not link it, by the cause that an assembly has. Where
  -- nothing stood in the way of it, memory was short, or the link gave no reply.
  pub record IsRefusedAnew (e : ClientError) (text : List ℕ) : Type 0 where
    pub begun : Seen T AlwaysDecide
    pub anew : IsAnewOver accepts told begun
    pub ended : Seen T AlwaysDecide
    pub steady : HaveNotFailed ended.faults
    pub cause : IsAssembleFault Steps begun ended says e text
    pub complete : (valid : IsValidCall Steps begun ended text)
        → (e ≡ error.Memory) ⊎ ((e ≡ error.LinkFault) × IsUnreplied valid.parts begun ended Steps)

  -- why nothing is assembled. Want of memory says nothing
  abbrev pub IsAnewFault : ClientError → List ℕ → Type 0
  IsAnewFault e text = (e ≡ error.Memory) ⊎ IsRefusedAnew e text
