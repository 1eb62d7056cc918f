-- Logs as they are kept: each record with its place in the registry's log and the token by which requests name it.
use Rattle.std.specs.Prelude.{◌≡◌, ◌<◌, ◌^◌, ℕ, nat_lt, if◌then◌else◌, Bool, true, List, [], ◌∷◌, ◌++◌, length, map, Option, Some, None, option_map}
use Rattle.std.specs.List.{AllByRecursion}
use Rattle.std.specs.Option.{option_map_or}
use Rattle.warg_record.specs.Record.{Kind}
use Rattle.warg_record.specs.Envelope.{Signed, IsEnvelopeOf}
use Rattle.warg_log.specs.History.{last_or}
use Rattle.warg_exchange.specs.declared.logs.PublishedRecord.{PublishedRecord}

-- a record that is kept: its envelope, its place, counted from 0, and its token
pub record Kept : Type 0 where
  pub signed : Signed
  pub registry_index : ℕ
  pub fetch_token : List ℕ

-- the log, without places and tokens
abbrev pub signed_log : List Kept → List Signed
signed_log log = map (λ (k : Kept). k.signed) log

-- ---- the record that is kept last

abbrev pub last_kept : List Kept → Option Kept
last_kept log = last_or None (map (λ k. Some k) log)

abbrev pub index_of : Option Kept → Option ℕ
index_of last = option_map (λ (k : Kept). k.registry_index) last

abbrev pub last_index : List Kept → Option ℕ
last_index log = index_of (last_kept log)

abbrev pub last_token : List Kept → Option (List ℕ)
last_token log = option_map (λ (k : Kept). k.fetch_token) (last_kept log)

-- ---- places

-- whether a place is above that of the record kept before
abbrev pub is_above : ℕ → Option ℕ → Bool
is_above index before = option_map_or (λ i. nat_lt i index) before true

-- each place is above the one before it
abbrev pub AreAbove : Option ℕ → List Kept → Type 0
AreAbove before [] = Unit {0}
AreAbove before (k ∷ log) = (is_above k.registry_index before ≡ true) × AreAbove (Some k.registry_index) log

abbrev pub Ascends : List Kept → Type 0
Ascends log = AreAbove None log

-- ---- what a registry publishes

-- a published record is an envelope of this kind
abbrev pub IsEnvelope : Kind → PublishedRecord → Type 0
IsEnvelope kind p = (s : Signed) × IsEnvelopeOf kind p.content_bytes p.key_id p.signature s

abbrev pub AreEnvelopes : Kind → List PublishedRecord → Type 0
AreEnvelopes kind ps = AllByRecursion (IsEnvelope kind) ps

-- a published record, whose contents can be sent, is read as this envelope, and has this place and token
pub record IsKeptAs (kind : Kind) (p : PublishedRecord) (k : Kept) : Type 0 where
  pub short : length p.content_bytes < 2 ^ 64
  pub envelope : IsEnvelopeOf kind p.content_bytes p.key_id p.signature k.signed
  pub registry_index : k.registry_index ≡ p.registry_index
  pub fetch_token : k.fetch_token ≡ p.fetch_token

-- so are all of them, in order
abbrev pub AreKeptAs : Kind → List PublishedRecord → List Kept → Type 0
AreKeptAs kind [] [] = Unit {0}
AreKeptAs kind (p ∷ ps) (k ∷ ks) = IsKeptAs kind p k × AreKeptAs kind ps ks
AreKeptAs kind [] (k ∷ ks) = ⊥
AreKeptAs kind (p ∷ ps) [] = ⊥

-- the published records without those whose place is not above that of the one kept before
unfoldable pub new_after : Option ℕ → List PublishedRecord → List PublishedRecord
new_after before [] = []
new_after before (p ∷ ps) =
    if is_above p.registry_index before then p ∷ new_after (Some p.registry_index) ps else new_after before ps

-- a log, and then what is published of it behind its last place. Each published record is an envelope, also one that is
-- passed over
pub record Grows (kind : Kind) (old : List Kept) (ps : List PublishedRecord) (new : List Kept) : Type 0 where
  pub read : AreEnvelopes kind ps
  pub more : List Kept
  pub kept : AreKeptAs kind (new_after (last_index old) ps) more
  pub parts : new ≡ old ++ more
