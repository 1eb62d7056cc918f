-- One record more.
use Rattle.std.proofs.Common.{◌≡◌, ◌+◌, ◌∷◌, [], ◌++◌, List, map, take, sym, ap, ap₂, subst, ◌∙◌, rules}
use Rattle.std.specs.List.{AllByRecursion}
use Rattle.std.proofs.lemmas.List.{map_push, take_more, take_all}
use Rattle.serde_json.specs.Data.{Data, array}
use Rattle.serde_json.specs.View.{view, items_of}
use Rattle.serde_json.proofs.Views.{view-Array}
use Rattle.warg_info.specs.Info.{kept_view}
use Rattle.warg_info.specs.Kept.{Kept}
use Rattle.warg_info_text.specs.StoredTexts.{kept_data}
use Rattle.warg_info_text.specs.Writable.{IsWritable}
use Rattle.warg_info_text.proofs.RecordLaws.{all_push}
use Rattle.warg_info_text.proofs.values.records_value.Goals as goal

pub loop-kept-preserved : goal.loop-kept-preserved
loop-kept-preserved g c =
    let plain = g.E.LogEntry.plain in
    let i = c.loop-kept.kept-index in
    let records = c.args.records.now in
    let k = kept_view plain c.kept-item.result in
    let so_far = map (kept_view plain) (take i records) in
    let more : take (i + 1) records ≡ take i records ++ c.kept-item.result ∷ [] = search (rules, take_more) in
    let seen : map (kept_view plain) (take (i + 1) records) ≡ so_far ++ k ∷ [] = ap (map (kept_view plain)) more ∙ map_push (kept_view plain) (take i records) c.kept-item.result in (
      ap (map view) c.in_ok-push.ensures.items ∙ map_push view c.loop-kept.values.items c.in_ok-value.value
          ∙ ap₂ (λ (ds : List Data) (d : Data). ds ++ d ∷ []) c.loop-kept.invariant.0 c.in_ok-value.ensures.data
          ∙ sym (ap (map kept_data) seen ∙ map_push kept_data so_far k),
      subst (λ (ks : List Kept). AllByRecursion IsWritable ks) (sym seen) (all_push IsWritable so_far k c.loop-kept.invariant.1 c.in_ok-value.ensures.writable),
    )

pub returns-clause-data : goal.returns-clause-data
returns-clause-data g c =
    let plain = g.E.LogEntry.plain in
    let records = c.args.records.now in
    let whole : take c.loop-kept.kept-index records ≡ records = search (rules, take_all) in
    view-Array c.loop-kept.values ∙ ap (λ ds. array (items_of ds)) (c.loop-kept.invariant.0 ∙ ap (λ l. map kept_data (map (kept_view plain) l)) whole)

pub returns-clause-writable : goal.returns-clause-writable
returns-clause-writable g c =
    let plain = g.E.LogEntry.plain in
    let records = c.args.records.now in
    let whole : take c.loop-kept.kept-index records ≡ records = search (rules, take_all) in
    subst (λ (ks : List Kept). AllByRecursion IsWritable ks) (ap (map (kept_view plain)) whole) c.loop-kept.invariant.1
