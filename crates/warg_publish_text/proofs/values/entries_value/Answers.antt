-- One entry more.
use Rattle.std.proofs.Common.{◌≡◌, ◌+◌, ◌∷◌, [], ◌++◌, List, map, take, sym, ap, ap₂, subst, ◌∙◌, rules}
use Rattle.std.specs.List.{AllByRecursion}
use Rattle.std.proofs.lemmas.List.{map_push, take_more, take_all}
use Rattle.serde_json.specs.Data.{Data, array}
use Rattle.serde_json.specs.View.{view, items_of}
use Rattle.serde_json.proofs.Views.{view-Array}
use Rattle.warg_publish.specs.Publish.{PlainPublishEntry}
use Rattle.warg_publish.specs.Shown.{entry_view}
use Rattle.warg_publish_text.specs.PublishText.{entry_data}
use Rattle.warg_publish_text.specs.ReadsBack.{ReadsBack}
use Rattle.warg_publish_text.proofs.EntryLaws.{all_push}
use Rattle.warg_publish_text.proofs.values.entries_value.Goals as goal

pub loop-entry-preserved : goal.loop-entry-preserved
loop-entry-preserved c =
    let i = c.loop-entry.entry-index in
    let entries = c.args.entries.now in
    let e = entry_view c.entry-item.result in
    let so_far = map entry_view (take i entries) in
    let more : take (i + 1) entries ≡ take i entries ++ c.entry-item.result ∷ [] = search (rules, take_more) in
    let seen : map entry_view (take (i + 1) entries) ≡ so_far ++ e ∷ [] = ap (map entry_view) more ∙ map_push entry_view (take i entries) c.entry-item.result in (
      ap (map view) c.in_ok-push.ensures.items ∙ map_push view c.loop-entry.values.items c.in_ok-value.value
          ∙ ap₂ (λ (ds : List Data) (d : Data). ds ++ d ∷ []) c.loop-entry.invariant.0 c.in_ok-value.ensures.data
          ∙ sym (ap (map entry_data) seen ∙ map_push entry_data so_far e),
      subst (λ (es : List PlainPublishEntry). AllByRecursion ReadsBack es) (sym seen) (all_push ReadsBack so_far e c.loop-entry.invariant.1 c.in_ok-value.ensures.reads),
    )

pub returns-clause-data : goal.returns-clause-data
returns-clause-data c =
    let entries = c.args.entries.now in
    let whole : take c.loop-entry.entry-index entries ≡ entries = search (rules, take_all) in
    view-Array c.loop-entry.values ∙ ap (λ ds. array (items_of ds)) (c.loop-entry.invariant.0 ∙ ap (λ l. map entry_data (map entry_view l)) whole)

pub returns-clause-reads : goal.returns-clause-reads
returns-clause-reads c =
    let entries = c.args.entries.now in
    let whole : take c.loop-entry.entry-index entries ≡ entries = search (rules, take_all) in
    subst (λ (es : List PlainPublishEntry). AllByRecursion ReadsBack es) (ap (map entry_view) whole) c.loop-entry.invariant.1
