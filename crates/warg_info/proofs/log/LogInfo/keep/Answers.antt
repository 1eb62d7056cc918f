use Rattle.std.proofs.Common.{◌≡◌, ◌++◌, ◌∷◌, [], sym, ◌∙◌, ap, subst, map}
use Rattle.std.proofs.lemmas.List.{map_push}
use Rattle.std.proofs.lemmas.Result.{err_from_is_err_and}
use Rattle.warg_record.specs.View.{envelope_view}
use Rattle.warg_log.specs.Lawful.{IsLawful}
use Rattle.warg_log.specs.Rules.{any_signature}
use Rattle.warg_info.specs.Kept.{signed_log}
use Rattle.warg_info.specs.Info.{kept_view, kept_of}
use Rattle.warg_info.proofs.SoundLaws.{sound-push, sound-same, signed-push}
use Rattle.warg_info.proofs.FaultLaws.{keep_fault}
use Rattle.warg_info.proofs.log.LogInfo.keep.Goals as goal

pub returns-in_err-validate-clause-fault : goal.returns-in_err-validate-clause-fault
returns-in_err-validate-clause-fault g c =
    let kind = g.E.LogEntry.kind in
    let view = g.E.LogEntry.plain in
    let log = kept_of view c.args.self.now in
    let p = err_from_is_err_and c.from_residual-in_err-validate.result c.from_residual-in_err-validate.ensures.1 in
    rw (p.1, p.2) (λ sound. keep_fault c.in_err-validate.field-0.0 kind (g.V.Verifier.good c.args.verifier.now) log (envelope_view view c.args.kept.envelope) (c.in_err-validate.ensures.err (signed_log log) sound.replay.follows))

pub returns-in_err-validate-clause-sound : goal.returns-in_err-validate-clause-sound
returns-in_err-validate-clause-sound g c =
    let kind = g.E.LogEntry.kind in
    let view = g.E.LogEntry.plain in
    let old = c.args.self.now in
    λ sound read above. sound-same kind view old (record { records = c.reserve.new.self; state = c.validate.new.self }) (ap (map (kept_view view)) c.reserve.ensures.items) sound (c.in_err-validate.ensures.same (signed_log (kept_of view old)) sound.replay.follows)

pub returns-clause-sound : goal.returns-clause-sound
returns-clause-sound g c sound read above =
    let kind = g.E.LogEntry.kind in
    let view = g.E.LogEntry.plain in
    let old = c.args.self.now in
    let log = signed_log (kept_of view old) in
    let k = kept_view view c.args.kept in
    let more : map (kept_view view) c.push.new.self.items ≡ kept_of view old ++ k ∷ [] =
    rw (c.in_ok-push.ensures.items, c.reserve.ensures.items) (map_push (kept_view view) old.records.items c.args.kept) in
    let obeys = c.accepted_is_lawful.ensures.record kind (g.V.Verifier.good c.args.verifier.now) log k.signed (c.in_ok-validate.ensures.ok log sound.replay.follows) in
    sound-push kind view old (record { records = c.push.new.self; state = c.validate.new.self }) k more sound read above (c.in_ok-validate.ensures.follows log sound.replay.follows)
    ((c.lawful_record_by_record.ensures.more kind any_signature log k.signed).1 (sound.replay.lawful, obeys))

pub returns-clause-lawful : goal.returns-clause-lawful
returns-clause-lawful g c sound lawful =
    let kind = g.E.LogEntry.kind in
    let view = g.E.LogEntry.plain in
    let good = g.V.Verifier.good c.args.verifier.now in
    let old = c.args.self.now in
    let log = signed_log (kept_of view old) in
    let k = kept_view view c.args.kept in
    let more : map (kept_view view) c.push.new.self.items ≡ kept_of view old ++ k ∷ [] =
    rw (c.in_ok-push.ensures.items, c.reserve.ensures.items) (map_push (kept_view view) old.records.items c.args.kept) in
    subst (IsLawful kind good) (sym (ap signed_log more ∙ signed-push (kept_of view old) k))
    ((c.lawful_record_by_record.ensures.more kind good log k.signed).1 (lawful, c.in_ok-validate.ensures.ok log sound.replay.follows))
