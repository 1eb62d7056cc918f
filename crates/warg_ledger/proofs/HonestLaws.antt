-- That what an honest registry replies is never refused.
use Rattle.std.proofs.Common.{◌≡◌, ◌∷◌, [], inl, inr, List, ℕ, Bool, true, false, Option, Some, None, Ok, refl, sym, ◌∙◌, ap, subst, arith}
use Rattle.std.proofs.lemmas.Bool.{cases_lt, false≢true}
use Rattle.warg_hash.specs.Hash.{operator_log_id, package_log_id}
use Rattle.warg_hint.specs.declared.settings.HintSettings.{HintSettings}
use Rattle.warg_log.specs.Rules.{Accepts}
use Rattle.warg_proof.specs.LogTree.{root}
use Rattle.warg_proof.specs.MapTree.{map_root}
use Rattle.warg_exchange.specs.declared.exchange.Exchange.{Exchange}
use Rattle.warg_exchange.specs.declared.exchange.Reply.{Reply}
use Rattle.warg_exchange.specs.declared.checkpoint.Checkpoint.{Checkpoint}
use Rattle.warg_exchange.specs.declared.checkpoint.SignedCheckpoint.{SignedCheckpoint}
use Rattle.warg_exchange.specs.declared.logs.PublishedRecord.{PublishedRecord}
use Rattle.warg_exchange.specs.declared.proof.InclusionResponse.{InclusionResponse}
use Rattle.warg_exchange.specs.declared.proof.ConsistencyResponse.{ConsistencyResponse}
use Rattle.warg_exchange.specs.Replies.{says, checkpoint_in, page_in, bundles_in, proof_in}
use Rattle.warg_exchange.specs.Requests.{Asker}
use Rattle.warg_exchange.specs.Views.{Page}
use Rattle.warg_verify.specs.Shown.{Includes, Continues}
use Rattle.warg_info.specs.Kept.{Kept}
use Rattle.warg_page.specs.Logs.{Logs, Brings, LeavesNoneEmpty, indices_of, leafs_of}
use Rattle.warg_page.specs.Presence.{IsPresenceFault, IsListedEmpty}
use Rattle.warg_page.specs.declared.presence.PresenceError.{PresenceError}
use Rattle.warg_page.specs.declared.presence.PresenceError.TheVariants as presence
use Rattle.warg_update.specs.declared.error.UpdateError.{UpdateError}
use Rattle.warg_update.specs.declared.error.UpdateError.TheVariants as update
use Rattle.warg_update.specs.declared.signature.SignatureError.{SignatureError}
use Rattle.warg_update.specs.declared.signature.SignatureError.TheVariants as signature
use Rattle.warg_update.specs.Errors.{page_wants_memory, presence_wants_memory, signature_wants_memory}
use Rattle.warg_update.specs.FeedFaults.{IsCheckpointFault, LeavesEmpty, IsTurnFault, IsHeadsFault, IsContinuationFault}
use Rattle.warg_update.specs.NotFound.{IsNoPageFault}
use Rattle.warg_update.specs.Proved.{IsSigned, Start}
use Rattle.warg_update.specs.Refusals.{IsFaultBehind, of_checkpoint, of_page, of_inclusion, of_consistency}
use Rattle.warg_update.specs.Signature.{IsSignatureFault}
use Rattle.warg_update.specs.Succession.{MayFollow}
use Rattle.warg_ledger.specs.Registry.{Registry, IsRegistry, IsCheckpointOf, IsPageOf, Begins, log_below, entry_texts, heads}
use Rattle.warg_ledger.specs.Honest.{IsStoredOf, IsHonestCheckpoint, HaveRecords, IsHonestNext, AreHonest}
use Rattle.warg_ledger.proofs.LeftLaws.{package-left, none-left-empty}
use Rattle.warg_ledger.proofs.OpenLaws.{TurnLaws, one-value, honest-checkpoint, honest-front, whole-log, last-whole, whole-logs}
use Rattle.warg_ledger.proofs.PageLaws.{grown-at, page-taken}
use Rattle.warg_ledger.proofs.ShowLaws.{ProverLaws, heads-shown, growth-shown}
use Rattle.warg_ledger.proofs.TakenLaws.{Laws}

-- ---- the laws that are used

pub record UpdateLaws : Type 0 where
  pub turns : TurnLaws
  pub checkpoint : (reply : Reply) (c : SignedCheckpoint) (e : UpdateError) → says checkpoint_in reply ≡ Ok c → IsCheckpointFault e reply → e ≡ update.Memory
  pub page : (settings : HintSettings) (said : Bool → Bool) (packages : List (List ℕ × List Kept)) (reply : Reply) (page : Page) (e : UpdateError) → says page_in reply ≡ Ok page → IsNoPageFault e settings said packages reply → e ≡ update.Memory
  pub signature : (accepts : Accepts) (operator : List Kept) (c : SignedCheckpoint) (e : SignatureError) → IsSigned accepts operator c → IsSignatureFault e accepts operator c → e ≡ signature.Memory
  pub inclusion : (c : Checkpoint) (logs : Logs) (stored : Option SignedCheckpoint) (reply : Reply) (bundles : InclusionResponse) (e : UpdateError) → says bundles_in reply ≡ Ok bundles → Includes c (indices_of logs) (leafs_of logs) bundles
      → MayFollow stored c → IsHeadsFault e logs c stored reply → e ≡ update.Memory
  pub consistency : (old new : Checkpoint) (reply : Reply) (shown : ConsistencyResponse) (e : UpdateError) → says proof_in reply ≡ Ok shown → Continues old.log_length new.log_length old.log_root new.log_root shown.proof
      → IsContinuationFault e old new reply → e ≡ update.Memory

-- ---- the checkpoint

pub may-follow : (w : Registry) (stored : Option SignedCheckpoint) (c : Checkpoint) → IsStoredOf w stored c.log_length → IsCheckpointOf w c → MayFollow stored c
may-follow w None c is_stored is = tt
may-follow w (Some old) c is_stored is = elim (cases_lt old.contents.log_length c.log_length) [
  | inl less ↦ inr less
  | inr least ↦
      let below = is_stored.1 in
      let same : old.contents.log_length ≡ c.log_length = omega (arith, least, below) in
      inl (record {
        same_length = same;
        same_log_root = is_stored.0.log_root ∙ ap (λ (n : ℕ). root (entry_texts w n)) same ∙ sym is.log_root;
        same_map_root = is_stored.0.map_root ∙ ap (λ (n : ℕ). map_root (heads w n)) same ∙ sym is.map_root;
      })
]

-- ---- faults of a page

no-listed : (e : PresenceError) (packages : List (List ℕ × List Kept)) (listed : List (List ℕ × List PublishedRecord)) → LeavesNoneEmpty packages listed → presence_wants_memory e ≡ false → IsListedEmpty e packages listed → ⊥
no-listed presence.NoOperatorRecords packages listed kept other bad = bad
no-listed (presence.PackageLogEmpty name) packages listed kept other bad = kept name bad.1 bad.2 bad.0
no-listed presence.Memory packages listed kept other bad = false≢true (sym other)

none-missing : Laws → (e : PresenceError) (accepts : Accepts) (w : Registry) (n : ℕ) (before after : Logs) (page : Page) → IsRegistry accepts w → IsPageOf w n before page → HaveRecords w n before → Brings before page after → page.more ≡ false
    → presence_wants_memory e ≡ false → IsPresenceFault e after → ⊥
none-missing laws presence.NoOperatorRecords accepts w n before after page registry is there brings last other bad =
    there.operator (sym (last-whole laws accepts w n before after page registry is brings last).operator ∙ bad)
none-missing laws (presence.PackageLogEmpty name) accepts w n before after page registry is there brings last other bad =
    let grown = grown-at page.packages before.packages after.packages name [] bad.1.0 brings.packages bad.1.1 bad.1.2 in
    let b = package-left laws accepts w n before page after name [] registry is brings bad.1 in
    there.packages name grown.log grown.there (sym (whole-log (log_below w n (package_log_id name)) [] (subst (Begins (log_below w n (package_log_id name)) []) last b)))
none-missing laws presence.Memory accepts w n before after page registry is there brings last other bad = false≢true (sym other)

none-empty : Laws → (e : PresenceError) (accepts : Accepts) (w : Registry) (n : ℕ) (before after : Logs) (page : Page) → IsRegistry accepts w → IsPageOf w n before page → HaveRecords w n before → Brings before page after
    → presence_wants_memory e ≡ false → LeavesEmpty e page after → ⊥
none-empty laws e accepts w n before after page registry is there brings other (inl listed) =
    no-listed e after.packages page.packages (none-left-empty laws accepts w n before page after registry is brings) other listed.1
none-empty laws e accepts w n before after page registry is there brings other (inr last) = none-missing laws e accepts w n before after page registry is there brings last.0 other last.1

turn-taken : Laws → UpdateLaws → (e : UpdateError) (accepts : Accepts) (w : Registry) (stored : Option SignedCheckpoint) (c : SignedCheckpoint) (logs : Logs) (page : Page) → IsRegistry accepts w → IsHonestCheckpoint accepts w stored c
    → IsPageOf w c.contents.log_length logs page → HaveRecords w c.contents.log_length logs → IsTurnFault e accepts logs c page → e ≡ update.Memory
turn-taken laws updates (update.Page e) accepts w stored c logs page registry honest is there bad =
    absurd (false≢true (sym bad.0 ∙ ap page_wants_memory (page-taken laws e accepts w c.contents.log_length logs page registry is bad.1)))
turn-taken laws updates (update.Presence e) accepts w stored c logs page registry honest is there bad =
    absurd (none-empty laws e accepts w c.contents.log_length logs bad.1 page registry is there bad.2 bad.0 bad.3)
turn-taken laws updates (update.Signature e) accepts w stored c logs page registry honest is there bad =
    let n = c.contents.log_length in
    let whole = (last-whole laws accepts w n logs bad.1 page registry is bad.2 bad.3.last).operator in
    let fault : IsSignatureFault e accepts (log_below w n operator_log_id) c = subst (λ (l : List Kept). IsSignatureFault e accepts l c) whole bad.3.fault in
    absurd (false≢true (sym bad.0 ∙ ap signature_wants_memory (updates.signature accepts (log_below w n operator_log_id) c e honest.signed fault)))
turn-taken laws updates update.Memory accepts w stored c logs page registry honest is there bad = refl
turn-taken laws updates e accepts w stored c logs page registry honest is there bad = absurd bad

-- ---- a reply

pub reply-taken : Laws → UpdateLaws → ProverLaws → (e : UpdateError) (accepts : Accepts) (w : Registry) (settings : HintSettings) (said : Bool → Bool) (a : Asker) (start : Start) (xs : List Exchange) (reply : Reply) → IsRegistry accepts w
    → AreHonest accepts w a start xs → IsHonestNext accepts w a start xs reply → IsFaultBehind e accepts settings said a start xs reply → e ≡ update.Memory
reply-taken laws updates prover e accepts w settings said a start xs reply registry honest next (of_checkpoint none bad) =
    let g = next.checkpoint none in updates.checkpoint reply g.checkpoint e g.came bad
reply-taken laws updates prover e accepts w settings said a start xs reply registry honest next (of_page c logs opens (inl none)) =
    let g = next.page c logs opens in updates.page settings said logs.packages reply g.page e g.came none
reply-taken laws updates prover e accepts w settings said a start xs reply registry honest next (of_page c logs opens (inr bad)) =
    let g = next.page c logs opens in
    let same : bad.page ≡ g.page = one-value page_in reply bad.page g.page bad.came g.came in
    turn-taken laws updates e accepts w start.stored c logs g.page registry (honest-checkpoint accepts w a start xs c logs true honest opens) g.is g.there (subst (IsTurnFault e accepts logs c) same bad.fault)
reply-taken laws updates prover e accepts w settings said a start xs reply registry honest next (of_inclusion c logs opens bad) =
    let g = next.inclusion c logs opens in
    let known = honest-checkpoint accepts w a start xs c logs false honest opens in
    let whole = whole-logs laws updates.turns accepts w a start xs c logs registry honest opens in
    updates.inclusion c.contents logs start.stored reply g.bundles e g.came (heads-shown prover accepts w c.contents logs g.bundles registry known.is whole g.show) (may-follow w start.stored c.contents known.follows known.is) bad
reply-taken laws updates prover e accepts w settings said a start xs reply registry honest next (of_consistency old c logs shows bad) =
    let g = next.consistency old c logs shows in
    let before : AreHonest accepts w a start shows.before = honest-front accepts w a start shows.before (shows.inclusion ∷ []) (subst (λ (l : List Exchange). AreHonest accepts w a start l) shows.in_turn honest) in
    let known = honest-checkpoint accepts w a start shows.before c logs false before shows.opens in
    let was : IsStoredOf w (Some old) c.contents.log_length = subst (λ (s : Option SignedCheckpoint). IsStoredOf w s c.contents.log_length) shows.stored known.follows in
    updates.consistency old.contents c.contents reply g.shown e g.came (growth-shown prover w old.contents c.contents g.shown.proof was.0 known.is was.1 g.shows) bad
