use Rattle.std.proofs.Common.{◌≡◌, ◌≢◌, ◌-◌, ◌∷◌, List, ℕ, zero, suc, Some, sym, length, ◌∙◌, ap, map, refl, arith}
use Rattle.std.specs.Prelude.{slice_get, option_map}
use Rattle.std.proofs.lemmas.Option.{slice_get-map, slice_get_read}
use Rattle.warg_hash.specs.Hash.{operator_log_id}
use Rattle.warg_record.specs.Envelope.{Signed}
use Rattle.warg_model.specs.State.{logged_view}
use Rattle.warg_model.specs.declared.registry.LoggedRecord.{LoggedRecord}
use Rattle.warg_model.proofs.registry.ModelRegistry.log_at.Goals as goal

behind-first : {X : Type 0} (x : X) (xs : List X) (place : ℕ) → place ≢ 0 → slice_get (x ∷ xs) place ≡ slice_get xs (place - 1)
behind-first x xs zero some = absurd (some refl)
behind-first x xs (suc place) some = ap (slice_get xs) (omega arith)

pub returns : goal.returns
returns c =
    let records = c.args.self.now.records.items in
    let record_at = c.in_ok-record.record.now in
    let look = c.in_ok-record.ensures.lookup in
    let some : c.args.place ≢ 0 = c.if-place-eq0.false in
    let got : slice_get records (c.args.place - 1) ≡ Some record_at =
    ap (λ (rs : List LoggedRecord). slice_get rs (c.args.place - 1)) (sym c.deref.ensures.value) ∙ slice_get_read c.deref.result.now (length c.deref.result.now) (c.args.place - 1) record_at refl look.3.0 look.1 in
    let ids = map (λ (e : List ℕ × Signed). e.0) (map logged_view records) in
    let of : slice_get ids (c.args.place - 1) ≡ Some record_at.log_id =
    slice_get-map (λ (e : List ℕ × Signed). e.0) (map logged_view records) (c.args.place - 1) ∙ ap (option_map (λ (e : List ℕ × Signed). e.0)) (slice_get-map logged_view records (c.args.place - 1) ∙ ap (option_map logged_view) got) in
    sym (behind-first operator_log_id ids c.args.place some ∙ of)
