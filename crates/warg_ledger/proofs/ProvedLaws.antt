-- That the exchanges of a whole update with an honest registry prove its whole logs.
use Rattle.std.proofs.Common.{◌≡◌, ◌<◌, ◌⊎◌, ◌++◌, ◌∷◌, [], inl, inr, List, Bool, true, false, Option, Some, None, refl, sym, ap, subst}
use Rattle.warg_log.specs.Rules.{Accepts}
use Rattle.warg_exchange.specs.declared.exchange.Exchange.{Exchange}
use Rattle.warg_exchange.specs.declared.exchange.Request.{Request}
use Rattle.warg_exchange.specs.declared.checkpoint.Checkpoint.{Checkpoint}
use Rattle.warg_exchange.specs.declared.checkpoint.SignedCheckpoint.{SignedCheckpoint}
use Rattle.warg_exchange.specs.Requests.{Asker, checkpoint_request, inclusion_request, consistency_request}
use Rattle.warg_info.specs.Kept.{Kept}
use Rattle.warg_page.specs.Logs.{Logs, AreLawful, indices_of}
use Rattle.warg_update.specs.AskedLaws.{asked-at}
use Rattle.warg_update.specs.Proved.{page_request, IsSigned, AsksInclusion, AsksConsistency, Succeeds, Start, Proves, Opens, Shows, Asks, AreAsked, for_checkpoint, for_page, for_inclusion, for_consistency}
use Rattle.warg_update.specs.Succession.{MayFollow}
use Rattle.warg_ledger.specs.Registry.{Registry, IsRegistry}
use Rattle.warg_ledger.specs.Replies.{AreWhole}
use Rattle.warg_ledger.specs.Honest.{IsStoredOf, IsHonestCheckpoint, AreHonest, ProveWhole}
use Rattle.warg_ledger.proofs.BroughtLaws.{page-turns, whole-lawful}
use Rattle.warg_ledger.proofs.HonestLaws.{may-follow}
use Rattle.warg_ledger.proofs.OpenLaws.{TurnLaws, honest-checkpoint, honest-front, whole-logs, records-there}
use Rattle.warg_ledger.proofs.ShowLaws.{ProverLaws, heads-shown, growth-shown}
use Rattle.warg_ledger.proofs.TakenLaws.{Laws}

-- that exchanges which come in turn prove logs
pub record ProofLaws : Type 0 where
  pub inclusion : (accepts : Accepts) (a : Asker) (start : Start) (xs : List Exchange) (c : SignedCheckpoint) (logs : Logs) (x : Exchange) (rest : List Exchange) → Opens a start xs c logs false → AreLawful accepts logs → IsSigned accepts logs.operator c
      → AsksInclusion a c.contents logs x → Succeeds a start.stored c.contents rest → Proves accepts a start (xs ++ x ∷ rest) logs c
  pub consistency : (accepts : Accepts) (a : Asker) (start : Start) (xs : List Exchange) (old c : SignedCheckpoint) (logs : Logs) (x : Exchange) → Shows a start xs old c logs → AreLawful accepts logs → IsSigned accepts logs.operator c
      → AsksConsistency a old.contents c.contents x → Proves accepts a start (xs ++ x ∷ []) logs c

-- ---- the last of some exchanges

abbrev HasLast : List Exchange → Type 0
HasLast xs = (before : List Exchange) × (x : Exchange) × (xs ≡ before ++ x ∷ [])

last-further : (y : Exchange) (xs : List Exchange) → (xs ≡ []) ⊎ HasLast xs → HasLast (y ∷ xs)
last-further y xs (inl none) = ([], y, ap (λ (l : List Exchange). y ∷ l) none)
last-further y xs (inr l) = (y ∷ l.0, l.1, ap (λ (l : List Exchange). y ∷ l) l.2)

last-exchange : (xs : List Exchange) → (xs ≡ []) ⊎ HasLast xs
last-exchange [] = inl refl
last-exchange (y ∷ xs) = inr (last-further y xs (last-exchange xs))

-- ---- where nothing is asked

abbrev AsksNothing : Asker → Start → List Exchange → Type 0
AsksNothing a start xs = (r : Request) → Asks a start xs r → ⊥

-- behind pages the next one is asked for, or the inclusion
opens-asks : (a : Asker) (start : Start) (xs : List Exchange) (c : SignedCheckpoint) (logs : Logs) (more : Bool) → AsksNothing a start xs → Opens a start xs c logs more → ⊥
opens-asks a start xs c logs true over opens = over (page_request a c.contents.log_length logs) (for_page c logs opens refl)
opens-asks a start xs c logs false over opens = over (inclusion_request a c.contents.log_length (indices_of logs)) (for_inclusion c logs opens refl)

-- where no shorter checkpoint is stored, nothing more is to come
settles : (a : Asker) (stored : Option SignedCheckpoint) (c : Checkpoint) → ((old : SignedCheckpoint) → stored ≡ Some old → old.contents.log_length < c.log_length → ⊥) → MayFollow stored c → Succeeds a stored c []
settles a None c shorter may = refl
settles a (Some old) c shorter (inl settled) = inl (settled, refl)
settles a (Some old) c shorter (inr less) = absurd (shorter old refl less)

-- ---- what is known behind the last page

record IsKnown (accepts : Accepts) (w : Registry) (start : Start) (c : SignedCheckpoint) (logs : Logs) : Type 0 where
  checkpoint : IsHonestCheckpoint accepts w start.stored c
  whole : AreWhole w c.contents.log_length logs
  lawful : AreLawful accepts logs
  signed : IsSigned accepts logs.operator c

module _ (laws : Laws) (turns : TurnLaws) (prover : ProverLaws) (proofs : ProofLaws) (accepts : Accepts) (w : Registry) (a : Asker) (start : Start) (registry : IsRegistry accepts w) where
  all-known : (xs : List Exchange) (c : SignedCheckpoint) (logs : Logs) → AreHonest accepts w a start xs → Opens a start xs c logs false → IsKnown accepts w start c logs
  all-known xs c logs honest opens =
      let known = honest-checkpoint accepts w a start xs c logs false honest opens in
      let whole = whole-logs laws turns accepts w a start xs c logs registry honest opens in
      record {
        checkpoint = known;
        whole = whole;
        lawful = whole-lawful accepts w c.contents.log_length logs registry (records-there turns accepts w a start xs c logs honest opens) whole;
        signed = subst (λ (l : List Kept). IsSigned accepts l c) (sym whole.operator) known.signed;
      }

  proved-whole : (xs : List Exchange) (c : SignedCheckpoint) (logs : Logs) → IsKnown accepts w start c logs → Proves accepts a start xs logs c → ProveWhole accepts w a start xs
  proved-whole xs c logs known proves = record { logs = logs; checkpoint = c; proves = proves; whole = known.whole; is = known.checkpoint.is }

  -- by what the last exchange asked for
  by-inclusion : (before : List Exchange) (x : Exchange) (c : SignedCheckpoint) (logs : Logs) → AreHonest accepts w a start (before ++ x ∷ []) → AsksNothing a start (before ++ x ∷ []) → Opens a start before c logs false
      → x.request ≡ inclusion_request a c.contents.log_length (indices_of logs) → ProveWhole accepts w a start (before ++ x ∷ [])
  by-inclusion before x c logs honest over opens asked =
      let known = all-known before c logs (honest-front accepts w a start before (x ∷ []) honest) opens in
      let g = (honest before [] x refl).inclusion c logs opens in
      let asks : AsksInclusion a c.contents logs x = record { asked = asked; bundles = g.bundles; came = g.came; includes = heads-shown prover accepts w c.contents logs g.bundles registry known.checkpoint.is known.whole g.show } in
      let shorter : (old : SignedCheckpoint) → start.stored ≡ Some old → old.contents.log_length < c.contents.log_length → ⊥ = λ old stored less.
      over (consistency_request a old.contents.log_length c.contents.log_length) (for_consistency old c logs (record { before = before; inclusion = x; in_turn = refl; opens = opens; asks_inclusion = asks; stored = stored; shorter = less }) refl) in
      let succeeds = settles a start.stored c.contents shorter (may-follow w start.stored c.contents known.checkpoint.follows known.checkpoint.is) in
      proved-whole (before ++ x ∷ []) c logs known (proofs.inclusion accepts a start before c logs x [] opens known.lawful known.signed asks succeeds)

  by-consistency : (before : List Exchange) (x : Exchange) (old c : SignedCheckpoint) (logs : Logs) → AreHonest accepts w a start (before ++ x ∷ []) → Shows a start before old c logs
      → x.request ≡ consistency_request a old.contents.log_length c.contents.log_length → ProveWhole accepts w a start (before ++ x ∷ [])
  by-consistency before x old c logs honest shows asked =
      let so_far : AreHonest accepts w a start before = honest-front accepts w a start before (x ∷ []) honest in
      let pages : AreHonest accepts w a start shows.before = honest-front accepts w a start shows.before (shows.inclusion ∷ []) (subst (λ (l : List Exchange). AreHonest accepts w a start l) shows.in_turn so_far) in
      let known = all-known shows.before c logs pages shows.opens in
      let was : IsStoredOf w (Some old) c.contents.log_length = subst (λ (s : Option SignedCheckpoint). IsStoredOf w s c.contents.log_length) shows.stored known.checkpoint.follows in
      let g = (honest before [] x refl).consistency old c logs shows in
      let asks : AsksConsistency a old.contents c.contents x = record { asked = asked; shown = g.shown; came = g.came; continues = growth-shown prover w old.contents c.contents g.shown.proof was.0 known.checkpoint.is was.1 g.shows } in
      proved-whole (before ++ x ∷ []) c logs known (proofs.consistency accepts a start before old c logs x shows known.lawful known.signed asks)

  proved-behind : (before : List Exchange) (x : Exchange) → AreHonest accepts w a start (before ++ x ∷ []) → AsksNothing a start (before ++ x ∷ []) → Asks a start before x.request → ProveWhole accepts w a start (before ++ x ∷ [])
  proved-behind before x honest over (for_checkpoint none asked) =
      let g = (honest before [] x refl).checkpoint none in
      let opens = turns.first a start x g.checkpoint (record { asked = asked; came = g.came }) in
      absurd (opens-asks a start (before ++ x ∷ []) g.checkpoint start.logs true over (subst (λ (l : List Exchange). Opens a start (l ++ x ∷ []) g.checkpoint start.logs true) (sym none) opens))
  proved-behind before x honest over (for_page c logs opens asked) =
      let turn = page-turns laws accepts w a c.contents.log_length logs x registry asked ((honest before [] x refl).page c logs opens) in
      absurd (opens-asks a start (before ++ x ∷ []) c turn.0 turn.1 over (turns.more a start before c logs turn.0 x turn.1 opens turn.2))
  proved-behind before x honest over (for_inclusion c logs opens asked) = by-inclusion before x c logs honest over opens asked
  proved-behind before x honest over (for_consistency old c logs shows asked) = by-consistency before x old c logs honest shows asked

  by-last : (xs : List Exchange) → (xs ≡ []) ⊎ HasLast xs → AreAsked a start xs → AreHonest accepts w a start xs → AsksNothing a start xs → ProveWhole accepts w a start xs
  by-last xs (inl none) asked honest over = absurd (over (checkpoint_request a) (for_checkpoint none refl))
  by-last xs (inr l) asked honest over =
      let is : xs ≡ l.0 ++ l.1 ∷ [] = l.2 in
      subst (ProveWhole accepts w a start) (sym is)
      (proved-behind l.0 l.1 (subst (λ (ys : List Exchange). AreHonest accepts w a start ys) is honest) (subst (AsksNothing a start) is over) (asked-at a start l.0 [] l.1 (subst (AreAsked a start) is asked)))

  pub whole-proved : (xs : List Exchange) → AreAsked a start xs → AreHonest accepts w a start xs → AsksNothing a start xs → ProveWhole accepts w a start xs
  whole-proved xs asked honest over = by-last xs (last-exchange xs) asked honest over
