-- The release is there, or it is added.
use Rattle.std.proofs.Common.{◌≡◌, ◌∙◌, Bool, false, true, true≢false, ap, refl, subst, sym}
use Rattle.std.specs.Prelude.{bytes_eq}
use Rattle.std.proofs.lemmas.Map.Made.{is_some-lookup}
use Rattle.warg_plan.specs.View.{entry_view}
use Rattle.warg_compose.specs.Held.{IsWithRelease, is_known}
use Rattle.warg_compose.proofs.EntryLaws.{on_ok}
use Rattle.warg_compose.proofs.releases.number_of.Goals as goal

pub add_release-requires-clause-unknown : goal.add_release-requires-clause-unknown
add_release-requires-clause-unknown c = sym (is_some-lookup (bytes_eq c.in_ok-name.name) c.args.releases.now.contents.entries) ∙ sym c.in-None.ensures.found

pub returns-in-Some-clause-has : goal.returns-in-Some-clause-has
returns-in-Some-clause-has c =
    let old = c.args.releases.now in
    let known : is_known old c.in_ok-name.name ≡ true = sym (is_some-lookup (bytes_eq c.in_ok-name.name) old.contents.entries) ∙ sym c.in-Some.ensures.found in
    record { kept = λ there. refl; added = λ none. absurd (true≢false (sym known ∙ ap (is_known old) c.in_ok-name.ensures.named ∙ none)) }

pub returns-in-None-clause-has : goal.returns-in-None-clause-has
returns-in-None-clause-has c =
    let old = c.args.releases.now in
    let new = c.add_release.new.releases in
    let e = entry_view c.args.entry.now in
    let name = c.in_ok-name.name in
    let unknown : is_known old name ≡ false = sym (is_some-lookup (bytes_eq name) old.contents.entries) ∙ sym c.in-None.ensures.found in
    on_ok c.add_release.result
    (λ with. record {
      kept = λ there. absurd (true≢false (sym there ∙ ap (is_known old) (sym c.in_ok-name.ensures.named) ∙ unknown));
      added = λ none.
          subst (λ n. IsWithRelease n e.content old new) c.in_ok-name.ensures.named (subst (λ bs. IsWithRelease name bs old new) c.deref.ensures.value with);
    })
    c.add_release.ensures.added
