-- One text more is read, or a value is none, or all are read.
use Rattle.std.proofs.Common.{◌≡◌, ◌≤◌, ◌+◌, [], ◌∷◌, List, ℕ, Some, None, length, drop, bytes_eq, refl, sym, ap, ◌∙◌, arith, rules}
use Rattle.std.specs.Prelude.{Ok}
use Rattle.std.proofs.lemmas.List.{drop_more, drop_all}
use Rattle.indexmap.specs.IndexSet.{insert_all, insert_key}
use Rattle.serde_json.specs.Find.{as_str}
use Rattle.serde_json.specs.View.{view, items_view}
use Rattle.warg_values.specs.Reading.{◌>>=◌}
use Rattle.warg_config.specs.Settings.{texts_in}
use Rattle.warg_config.proofs.JsonLaws.{text_bad, text_more, texts_none}
use Rattle.warg_config.proofs.reading.texts_of.Goals as goal

pub loop-value-preserved : goal.loop-value-preserved
loop-value-preserved c =
    let l = c.loop-value in
    let xs = c.args.values.now in
    let v = c.value-item.result in
    let later = items_view (drop (l.value-index + 1) xs) in
    let here : drop l.value-index xs ≡ v ∷ drop (l.value-index + 1) xs =
    drop_more xs l.value-index v (omega arith) ∙ ap (λ y. y ∷ drop (l.value-index + 1) xs) (sym c.value-item.is) in
    let text = c.in-Some.text.now in
    let is : as_str (view v) ≡ Some text = sym c.in-Some.ensures in
    ap (λ (ks : List (List ℕ)). texts_in later >>= λ texts. Ok (insert_all bytes_eq ks texts))
    (c.in_ok-insert.ensures.keys ∙ ap (insert_key bytes_eq l.texts.keys) c.in_ok-copy_of.ensures)
    ∙ sym (text_more l.texts.keys (view v) later text is)
    ∙ ap (λ ds. texts_in (items_view ds) >>= λ texts. Ok (insert_all bytes_eq l.texts.keys texts)) (sym here) ∙ l.invariant

pub returns-in_default : goal.returns-in_default
returns-in_default c =
    let l = c.loop-value in
    let xs = c.args.values.now in
    let v = c.value-item.result in
    let later = items_view (drop (l.value-index + 1) xs) in
    let here : drop l.value-index xs ≡ v ∷ drop (l.value-index + 1) xs =
    drop_more xs l.value-index v (omega arith) ∙ ap (λ y. y ∷ drop (l.value-index + 1) xs) (sym c.value-item.is) in
    let bad : as_str (view v) ≡ None = search rules in
    sym l.invariant
    ∙ ap (λ ds. texts_in (items_view ds) >>= λ texts. Ok (insert_all bytes_eq l.texts.keys texts)) here
    ∙ text_bad l.texts.keys (view v) later bad

pub returns : goal.returns
returns c =
    let l = c.loop-value in
    let xs = c.args.values.now in
    let all : drop l.value-index xs ≡ [] = drop_all l.value-index xs (omega arith) in
    sym l.invariant
    ∙ ap (λ ds. texts_in (items_view ds) >>= λ texts. Ok (insert_all bytes_eq l.texts.keys texts)) all
    ∙ texts_none l.texts.keys
