-- A sound log with one record more.
use Rattle.std.proofs.Common.{◌≡◌, ◌++◌, ◌∷◌, [], List, true, sym, ◌∙◌, ap, subst}
use Rattle.std.proofs.lemmas.List.{map_push}
use Rattle.warg_record.specs.Record.{Kind, PlainEntry}
use Rattle.warg_record.specs.Envelope.{Signed}
use Rattle.warg_log.specs.Follows.{Follows}
use Rattle.warg_log.specs.Lawful.{IsLawful, IsRead, AreRead}
use Rattle.warg_log.specs.Rules.{any_signature}
use Rattle.warg_info.specs.declared.log.LogInfo.{LogInfo}
use Rattle.warg_info.specs.Kept.{Kept, signed_log, is_above, last_index, Ascends}
use Rattle.warg_info.specs.Info.{kept_of, IsSound}
use Rattle.warg_info.proofs.KeptLaws.{above-push}

read-push : (kind : Kind) (log : List Signed) (s : Signed) → AreRead kind log → IsRead kind s → AreRead kind (log ++ s ∷ [])
read-push kind [] s are is = (is, tt)
read-push kind (r ∷ log) s are is = (are.0, read-push kind log s are.1 is)

pub signed-push : (log : List Kept) (k : Kept) → signed_log (log ++ k ∷ []) ≡ signed_log log ++ k.signed ∷ []
signed-push log k = map_push (λ (j : Kept). j.signed) log k

pub sound-push : {E : Type 0} (kind : Kind) (view : E → PlainEntry) (old new : LogInfo E) (k : Kept) → kept_of view new ≡ kept_of view old ++ k ∷ [] → IsSound kind view old → IsRead kind k.signed
    → is_above k.registry_index (last_index (kept_of view old)) ≡ true → Follows kind new.state (signed_log (kept_of view old) ++ k.signed ∷ [])
    → IsLawful kind any_signature (signed_log (kept_of view old) ++ k.signed ∷ []) → IsSound kind view new
sound-push kind view old new k is sound read above follows lawful =
    let log = kept_of view old in
    let signed : signed_log (kept_of view new) ≡ signed_log log ++ k.signed ∷ [] = ap signed_log is ∙ signed-push log k in
    record {
      read = subst (AreRead kind) (sym signed) (read-push kind (signed_log log) k.signed sound.read read);
      replay = record { lawful = subst (IsLawful kind any_signature) (sym signed) lawful; follows = subst (λ (l : List Signed). Follows kind new.state l) (sym signed) follows };
      ascends = subst Ascends (sym is) (above-push log k sound.ascends above);
    }

-- a log whose records stay, and whose state follows what it followed
pub sound-same : {E : Type 0} (kind : Kind) (view : E → PlainEntry) (old new : LogInfo E) → kept_of view new ≡ kept_of view old → IsSound kind view old → Follows kind new.state (signed_log (kept_of view old)) → IsSound kind view new
sound-same kind view old new is sound follows = record {
  read = subst (λ (l : List Kept). AreRead kind (signed_log l)) (sym is) sound.read;
  replay = record { lawful = subst (λ (l : List Kept). IsLawful kind any_signature (signed_log l)) (sym is) sound.replay.lawful; follows = subst (λ (l : List Kept). Follows kind new.state (signed_log l)) (sym is) follows };
  ascends = subst Ascends (sym is) sound.ascends;
}
