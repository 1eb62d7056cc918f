use Rattle.std.proofs.Common.{◌≡◌, ◌<◌, ◌^◌, ◌++◌, ◌∷◌, [], List, ℕ, length, true, false, refl, sym, ◌∙◌, ap, subst}
use Rattle.std.proofs.lemmas.Result.{on_ok_weaker, IfErr-weaker}
use Rattle.warg_record.specs.View.{envelope_view}
use Rattle.warg_info.specs.Kept.{IsKeptAs, Grows, is_above, last_index}
use Rattle.warg_info.specs.Info.{kept_view, kept_of, IsSound}
use Rattle.warg_info.specs.Faults.{IsKeepFault, IsTakeFault}
use Rattle.warg_info.proofs.GrowsLaws.{grows-over, grows-one}
use Rattle.warg_info.proofs.FaultLaws.{take_fault}
use Rattle.warg_info.proofs.log.LogInfo.take_one.Goals as goal

pub returns-then-not-above-clause-grows : goal.returns-then-not-above-clause-grows
returns-then-not-above-clause-grows g c sound =
    let log = kept_of g.E.LogEntry.plain c.args.self.now in
    let p = c.args.published.now in
    let below : is_above p.registry_index (last_index log) ≡ false = sym (ap (is_above p.registry_index) c.head_registry_index.ensures) ∙ sym c.is_above-above.ensures ∙ c.if-not-above.true in
    let s = envelope_view g.E.LogEntry.plain c.in_ok-envelope.envelope in
    grows-over g.E.LogEntry.kind log p below (s, c.in_ok-envelope.ensures.ok)

pub returns-clause-grows : goal.returns-clause-grows
returns-clause-grows g c =
    let kind = g.E.LogEntry.kind in
    let view = g.E.LogEntry.plain in
    let old = c.args.self.now in
    let log = kept_of view old in
    let p = c.args.published.now in
    let k = kept_view view (record { envelope = c.in_ok-envelope.envelope; registry_index = p.registry_index; fetch_token = c.in_ok-fetch_token.fetch_token }) in
    let above : is_above p.registry_index (last_index log) ≡ true = sym (ap (is_above p.registry_index) c.head_registry_index.ensures) ∙ sym c.is_above-above.ensures ∙ c.if-not-above.false in
    let short : length p.content_bytes < 2 ^ 64 = subst (λ (l : List ℕ). length l < 2 ^ 64) c.in_ok-envelope.ensures.ok.same_contents c.in_ok-envelope.ensures.read.short in
    let is : IsKeptAs kind p k = record { short = short; envelope = c.in_ok-envelope.ensures.ok; registry_index = refl; fetch_token = c.in_ok-fetch_token.ensures } in
    let new = kept_of view c.keep.new.self in
    on_ok_weaker {P = new ≡ log ++ k ∷ []} {Q = IsSound kind view old → Grows kind log (p ∷ []) new} c.keep.result
    (λ e sound. subst (Grows kind log (p ∷ [])) (sym e) (grows-one kind log p k above is)) c.keep.ensures.kept

pub returns-clause-fault : goal.returns-clause-fault
returns-clause-fault g c =
    let kind = g.E.LogEntry.kind in
    let view = g.E.LogEntry.plain in
    let good = g.V.Verifier.good c.args.verifier.now in
    let old = c.args.self.now in
    let log = kept_of view old in
    let p = c.args.published.now in
    let k = kept_view view (record { envelope = c.in_ok-envelope.envelope; registry_index = p.registry_index; fetch_token = c.in_ok-fetch_token.fetch_token }) in
    let above : is_above p.registry_index (last_index log) ≡ true = sym (ap (is_above p.registry_index) c.head_registry_index.ensures) ∙ sym c.is_above-above.ensures ∙ c.if-not-above.false in
    let short : length p.content_bytes < 2 ^ 64 = subst (λ (l : List ℕ). length l < 2 ^ 64) c.in_ok-envelope.ensures.ok.same_contents c.in_ok-envelope.ensures.read.short in
    let is : IsKeptAs kind p k = record { short = short; envelope = c.in_ok-envelope.ensures.ok; registry_index = refl; fetch_token = c.in_ok-fetch_token.ensures } in
    IfErr-weaker c.keep.result (λ e. IsSound kind view old → IsKeepFault e kind good log k.signed) (λ e. IsSound kind view old → IsTakeFault e kind good log p)
    (λ e fault sound. take_fault e kind good log p k above is (fault sound)) c.keep.ensures.fault
