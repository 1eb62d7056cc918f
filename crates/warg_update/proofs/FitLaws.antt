-- That replies which show what is asked have no fault but want of memory.
use Rattle.std.proofs.Common.{◌≡◌, inl, inr, List, ℕ, Bool, true, false, Option, Some, None, Ok, refl, sym, ◌∙◌, ap, subst, arith}
use Rattle.std.specs.Prelude.{Result, Err}
use Rattle.std.proofs.lemmas.Bool.{false≢true}
use Rattle.serde_json.specs.Data.{Data}
use Rattle.warg_hint.specs.declared.settings.HintSettings.{HintSettings}
use Rattle.warg_log.specs.Rules.{Accepts, entries_of}
use Rattle.warg_log.specs.History.{key_with}
use Rattle.warg_proof.specs.declared.fault.ProofFault.{ProofFault}
use Rattle.warg_proof.specs.declared.fault.ProofFault.TheVariants as fault
use Rattle.warg_exchange.specs.declared.exchange.Exchange.{Exchange}
use Rattle.warg_exchange.specs.declared.exchange.Reply.{Reply}
use Rattle.warg_exchange.specs.declared.service.ServiceError.{ServiceError}
use Rattle.warg_exchange.specs.declared.checkpoint.Checkpoint.{Checkpoint}
use Rattle.warg_exchange.specs.declared.checkpoint.SignedCheckpoint.{SignedCheckpoint}
use Rattle.warg_exchange.specs.declared.proof.InclusionResponse.{InclusionResponse}
use Rattle.warg_exchange.specs.declared.proof.ConsistencyResponse.{ConsistencyResponse}
use Rattle.warg_exchange.specs.Body.{Meaning}
use Rattle.warg_exchange.specs.Replies.{says, Refused, page_in, checkpoint_in, bundles_in, proof_in}
use Rattle.warg_exchange.specs.Requests.{Asker}
use Rattle.warg_exchange.specs.Views.{Page}
use Rattle.warg_verify.specs.Shown.{Includes, Continues}
use Rattle.warg_api.specs.declared.error.ClientError.{ClientError}
use Rattle.warg_api.specs.declared.error.ClientError.TheVariants as call
use Rattle.warg_api.specs.Calls.{IsReplyFault, IsMeaningless}
use Rattle.warg_api.specs.Errors.{fetch_error, logs_error, proof_error, inclusion_error, consistency_error}
use Rattle.warg_info.specs.Kept.{Kept, signed_log}
use Rattle.warg_page.specs.Logs.{Logs, Brings, LeavesNoneEmpty, EachIsLawful, AreLawful, indices_of, leafs_of}
use Rattle.warg_page.specs.PageFaults.{IsPageFault}
use Rattle.warg_page.specs.Presence.{IsPresenceFault, IsListedEmpty}
use Rattle.warg_page.specs.declared.page.PageError.{PageError}
use Rattle.warg_page.specs.declared.page.PageError.TheVariants as page_fault
use Rattle.warg_page.specs.declared.presence.PresenceError.{PresenceError}
use Rattle.warg_page.specs.declared.presence.PresenceError.TheVariants as presence
use Rattle.warg_exchange.specs.declared.logs.PublishedRecord.{PublishedRecord}
use Rattle.warg_update.specs.declared.error.UpdateError.{UpdateError}
use Rattle.warg_update.specs.declared.error.UpdateError.TheVariants as update
use Rattle.warg_update.specs.declared.signature.SignatureError.{SignatureError}
use Rattle.warg_update.specs.declared.signature.SignatureError.TheVariants as signature
use Rattle.warg_update.specs.declared.succession.Succession.TheVariants as how
use Rattle.warg_update.specs.Errors.{call_wants_memory, page_wants_memory, presence_wants_memory, signature_wants_memory}
use Rattle.warg_update.specs.FeedFaults.{IsCheckpointFault, LeavesEmpty, IsTurnFault, IsHeadsFault, IsContinuationFault}
use Rattle.warg_update.specs.NotFound.{IsNoPageFault}
use Rattle.warg_update.specs.Proved.{IsSigned, Succeeds, checkpoint_text}
use Rattle.warg_update.specs.Signature.{IsSignatureFault}
use Rattle.warg_update.specs.Standing.{AreTrusted}
use Rattle.warg_update.specs.Succession.{MayFollow, StandsTo}
use Rattle.warg_update.proofs.KeptLaws.{none-empty}
use Rattle.warg_update.proofs.ShownLaws.{heads-shown, continuation-shown}

-- the laws of pages
pub record PageLaws : Type 0 where
  pub once : (before after other : Logs) (page : Page) → Brings before page after → Brings before page other → after ≡ other
  pub lawful : (accepts : Accepts) (before after : Logs) (page : Page) → Brings before page after → EachIsLawful accepts after → EachIsLawful accepts before
  pub taken : (accepts : Accepts) (before after : Logs) (page : Page) (e : PageError) → Brings before page after → EachIsLawful accepts after → IsPageFault e accepts before page → e ≡ page_fault.Memory

pub ok-is : {A E : Type 0} (x y : A) → ◌≡◌ {A = Result A E} (Ok x) (Ok y) → x ≡ y
ok-is x y e = cc e

-- a reply gives one value
pub one-value : {Y : Type 0} (f : Data → Meaning Y) (reply : Reply) (x y : Y) → says f reply ≡ Ok x → says f reply ≡ Ok y → x ≡ y
one-value f reply x y is also = ok-is x y (sym is ∙ also)

ok-or-err : {A E : Type 0} (r : Result A E) (x : A) (e : E) → r ≡ Ok x → r ≡ Err e → ⊥
ok-or-err r x e is bad = absurd cc

-- ---- what a reply says

has-meaning : {Y : Type 0} (e : ClientError) (reply : Reply) (f : Data → Meaning Y) (y : Y) → says f reply ≡ Ok y → call_wants_memory e ≡ false → IsMeaningless e reply f → ⊥
has-meaning (call.UnexpectedResponse status message) reply f y is other bad = ok-or-err (says f reply) y _ is bad.1
has-meaning (call.Hash text) reply f y is other bad = ok-or-err (says f reply) y _ is bad
has-meaning call.Memory reply f y is other bad = false≢true (sym other)
has-meaning e reply f y is other bad = absurd bad

pub reply-taken : {Y : Type 0} (told : Reply → ServiceError → ClientError) (e : ClientError) (reply : Reply) (f : Data → Meaning Y) (y : Y) → says f reply ≡ Ok y → call_wants_memory e ≡ false → IsReplyFault told e reply f → ⊥
reply-taken told e reply f y is other (inl refused) = ok-or-err (says f reply) y (Refused refused.0) is refused.1
reply-taken told e reply f y is other (inr meaningless) = has-meaning e reply f y is other meaningless

pub checkpoint-taken : (e : UpdateError) (reply : Reply) (c : SignedCheckpoint) → says checkpoint_in reply ≡ Ok c → IsCheckpointFault e reply → e ≡ update.Memory
checkpoint-taken (update.Api e) reply c is bad = absurd (reply-taken fetch_error e reply checkpoint_in c is bad.0 bad.1)
checkpoint-taken update.Memory reply c is bad = refl
checkpoint-taken e reply c is bad = absurd bad

pub page-came : (e : UpdateError) (settings : HintSettings) (said : Bool → Bool) (packages : List (List ℕ × List Kept)) (reply : Reply) (page : Page) → says page_in reply ≡ Ok page → IsNoPageFault e settings said packages reply
    → e ≡ update.Memory
page-came (update.PackageDoesNotExist name) settings said packages reply page is bad = absurd (ok-or-err (says page_in reply) page _ is bad.0.said)
page-came (update.NotBuilt name) settings said packages reply page is bad = absurd (ok-or-err (says page_in reply) page _ is bad.0.said)
page-came (update.Api e) settings said packages reply page is bad = absurd (reply-taken logs_error e reply page_in page is bad.0 bad.1)
page-came update.Memory settings said packages reply page is bad = refl
page-came e settings said packages reply page is bad = absurd bad

-- ---- a page

all-listed : (e : PresenceError) (packages : List (List ℕ × List Kept)) (listed : List (List ℕ × List PublishedRecord)) → LeavesNoneEmpty packages listed → presence_wants_memory e ≡ false → IsListedEmpty e packages listed → ⊥
all-listed presence.NoOperatorRecords packages listed kept other bad = bad
all-listed (presence.PackageLogEmpty name) packages listed kept other bad = kept name bad.1 bad.2 bad.0
all-listed presence.Memory packages listed kept other bad = false≢true (sym other)

all-there : (e : PresenceError) (accepts : Accepts) (logs : Logs) → AreLawful accepts logs → presence_wants_memory e ≡ false → IsPresenceFault e logs → ⊥
all-there presence.NoOperatorRecords accepts logs lawful other bad = lawful.operator.0 bad
all-there (presence.PackageLogEmpty name) accepts logs lawful other bad = none-empty accepts logs.packages name bad.1.0 lawful.packages bad.1.1 bad.1.2
all-there presence.Memory accepts logs lawful other bad = false≢true (sym other)

key-is : (r : Option (List ℕ)) (k j : List ℕ) → r ≡ Some k → r ≡ Some j → j ≡ k
key-is r k j is also = cc

no-key : (r : Option (List ℕ)) (k : List ℕ) → r ≡ Some k → r ≡ None → ⊥
no-key r k is none = absurd cc

signature-good : (e : SignatureError) (accepts : Accepts) (operator : List Kept) (c : SignedCheckpoint) → IsSigned accepts operator c → signature_wants_memory e ≡ false → IsSignatureFault e accepts operator c → ⊥
signature-good (signature.UnknownKey key_id) accepts operator c signed other bad = no-key (key_with c.key_id (entries_of (signed_log operator))) signed.key signed.known bad.1
signature-good signature.BadSignature accepts operator c signed other bad =
    let same : bad.0 ≡ signed.key = key-is (key_with c.key_id (entries_of (signed_log operator))) signed.key bad.0 signed.known bad.1 in
    false≢true (sym bad.2 ∙ ap (λ (k : List ℕ). accepts k (checkpoint_text c.contents) c.signature) same ∙ signed.accepted)
signature-good signature.Memory accepts operator c signed other bad = false≢true (sym other)

pub signature-taken : (e : SignatureError) (accepts : Accepts) (operator : List Kept) (c : SignedCheckpoint) → IsSigned accepts operator c → IsSignatureFault e accepts operator c → e ≡ signature.Memory
signature-taken (signature.UnknownKey key_id) accepts operator c signed bad = absurd (signature-good (signature.UnknownKey key_id) accepts operator c signed refl bad)
signature-taken signature.BadSignature accepts operator c signed bad = absurd (signature-good signature.BadSignature accepts operator c signed refl bad)
signature-taken signature.Memory accepts operator c signed bad = refl

none-left : (e : PresenceError) (accepts : Accepts) (c : SignedCheckpoint) (page : Page) (after : Logs) → LeavesNoneEmpty after.packages page.packages → (page.more ≡ false → AreTrusted accepts after c) → presence_wants_memory e ≡ false
    → LeavesEmpty e page after → ⊥
none-left e accepts c page after kept trusted other (inl listed) = all-listed e after.packages page.packages kept other listed.1
none-left e accepts c page after kept trusted other (inr last) = all-there e accepts after (trusted last.0).lawful other last.1

pub turn-taken : PageLaws → (e : UpdateError) (accepts : Accepts) (before after : Logs) (c : SignedCheckpoint) (page : Page) → Brings before page after → LeavesNoneEmpty after.packages page.packages → EachIsLawful accepts after
    → (page.more ≡ false → AreTrusted accepts after c) → IsTurnFault e accepts before c page → e ≡ update.Memory
turn-taken laws (update.Page e) accepts before after c page brings kept lawful trusted bad =
    absurd (false≢true (sym bad.0 ∙ ap page_wants_memory (laws.taken accepts before after page e brings lawful bad.1)))
turn-taken laws (update.Presence e) accepts before after c page brings kept lawful trusted bad =
    let same : bad.1 ≡ after = laws.once before bad.1 after page bad.2 brings in
    absurd (none-left e accepts c page after kept trusted bad.0 (subst (LeavesEmpty e page) same bad.3))
turn-taken laws (update.Signature e) accepts before after c page brings kept lawful trusted bad =
    let same : bad.1 ≡ after = laws.once before bad.1 after page bad.2 brings in
    absurd (signature-good e accepts after.operator c (trusted bad.3.last).signed bad.0 (subst (λ (l : Logs). IsSignatureFault e accepts l.operator c) same bad.3.fault))
turn-taken laws update.Memory accepts before after c page brings kept lawful trusted bad = refl
turn-taken laws e accepts before after c page brings kept lawful trusted bad = absurd bad

-- ---- the inclusion

pub may-follow : (a : Asker) (stored : Option SignedCheckpoint) (c : Checkpoint) (rest : List Exchange) → Succeeds a stored c rest → MayFollow stored c
may-follow a None c rest succeeds = tt
may-follow a (Some old) c rest (inl settled) = inl settled.0
may-follow a (Some old) c rest (inr longer) = inr longer.0

not-rewound : (stored : Option SignedCheckpoint) (c : Checkpoint) (from to : ℕ) → MayFollow stored c → StandsTo stored c (how.Rewound from to) → ⊥
not-rewound None c from to follows bad = bad
not-rewound (Some old) c from to (inl settled) bad = let same = settled.same_length in absurd (omega (arith, same, bad.0, bad.1, bad.2))
not-rewound (Some old) c from to (inr less) bad = absurd (omega (arith, less, bad.0, bad.1, bad.2))

not-changed : (stored : Option SignedCheckpoint) (c : Checkpoint) (n : ℕ) → MayFollow stored c → StandsTo stored c (how.Changed n) → ⊥
not-changed None c n follows bad = bad
not-changed (Some old) c n (inl settled) bad = bad.2 settled
not-changed (Some old) c n (inr less) bad = absurd (omega (arith, less, bad.0, bad.1))

inclusion-error : (e : ClientError) (x : ProofFault) → x ≡ fault.Memory → e ≡ inclusion_error x → call_wants_memory e ≡ true
inclusion-error e x memory is = ap call_wants_memory (is ∙ ap inclusion_error memory)

consistency-error : (e : ClientError) (x : ProofFault) → x ≡ fault.Memory → e ≡ consistency_error x → call_wants_memory e ≡ true
consistency-error e x memory is = ap call_wants_memory (is ∙ ap consistency_error memory)

pub heads-taken : (e : UpdateError) (logs : Logs) (c : Checkpoint) (stored : Option SignedCheckpoint) (reply : Reply) (bundles : InclusionResponse) → says bundles_in reply ≡ Ok bundles → Includes c (indices_of logs) (leafs_of logs) bundles
    → MayFollow stored c → IsHeadsFault e logs c stored reply → e ≡ update.Memory
heads-taken (update.Api e) logs c stored reply bundles came includes follows bad = elim bad.1 [
  | inl refused ↦ absurd (reply-taken proof_error e reply bundles_in bundles came bad.0 refused)
  | inr unshown ↦
      let same : bundles ≡ unshown.0 = one-value bundles_in reply bundles unshown.0 came unshown.1 in
      let shown : Includes c (indices_of logs) (leafs_of logs) unshown.0 = subst (Includes c (indices_of logs) (leafs_of logs)) same includes in
      absurd (false≢true (sym bad.0 ∙ inclusion-error e unshown.2 (heads-shown c (indices_of logs) (leafs_of logs) unshown.0 unshown.2 shown unshown.4) unshown.3))
]
heads-taken (update.Rewound from to) logs c stored reply bundles came includes follows bad = absurd (not-rewound stored c from to follows bad.1)
heads-taken (update.Changed n) logs c stored reply bundles came includes follows bad = absurd (not-changed stored c n follows bad.1)
heads-taken update.Memory logs c stored reply bundles came includes follows bad = refl
heads-taken e logs c stored reply bundles came includes follows bad = absurd bad

-- ---- the consistency

pub continuation-taken : (e : UpdateError) (old new : Checkpoint) (reply : Reply) (shown : ConsistencyResponse) → says proof_in reply ≡ Ok shown → Continues old.log_length new.log_length old.log_root new.log_root shown.proof
    → IsContinuationFault e old new reply → e ≡ update.Memory
continuation-taken (update.Api e) old new reply shown came continues bad = elim bad.1 [
  | inl refused ↦ absurd (reply-taken proof_error e reply proof_in shown came bad.0 refused)
  | inr unshown ↦
      let same : shown ≡ unshown.0 = one-value proof_in reply shown unshown.0 came unshown.1 in
      let holds : Continues old.log_length new.log_length old.log_root new.log_root unshown.0.proof =
      subst (λ (s : ConsistencyResponse). Continues old.log_length new.log_length old.log_root new.log_root s.proof) same continues in
      absurd (false≢true (sym bad.0 ∙ consistency-error e unshown.2 (continuation-shown old.log_length new.log_length old.log_root new.log_root unshown.0.proof unshown.2 holds unshown.4) unshown.3))
]
continuation-taken update.Memory old new reply shown came continues bad = refl
continuation-taken e old new reply shown came continues bad = absurd bad
