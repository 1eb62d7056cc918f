use Rattle.std.proofs.Common.{rules, ◌≡◌, ◌<◌, ◌^◌, List, ℕ, Some, sym, ◌∙◌, ap, subst, arith, take}
use Rattle.std.specs.Prelude.{decimal, IsTrue}
use Rattle.warg_model.specs.Held.{registry_of}
use Rattle.warg_model.specs.Pages.{HasRecordAt}
use Rattle.warg_model.specs.State.{held}
use Rattle.warg_model.proofs.RequestLaws.{below, some-record, decimal-same}
use Rattle.warg_model.proofs.registry.ModelRegistry.records_named.Goals as goal

pub returns-then-not-has_record_at-clause-err : goal.returns-then-not-has_record_at-clause-err
returns-then-not-has_record_at-clause-err c =
    let n = c.args.length in
    let entries = (registry_of (held c.args.self.now)).entries in
    let same : c.in_ok-try_clone-2.field-0 ≡ c.args.token.now = c.in_ok-try_clone-2.ensures in
    let is : c.args.token.now ≡ decimal c.in-Some.place = search rules in (
      ap (λ (t : List ℕ). Some t) (sym same),
      (λ place there text.
          let low = below n entries place c.args.id.now there in
          let low_n = c.ranges.length.fits in
          let small : c.in-Some.place < 2 ^ 64 = search rules in
          let one : place ≡ c.in-Some.place = decimal-same place c.in-Some.place (omega (arith, low, low_n)) small (sym text ∙ same ∙ is) in
          let has : IsTrue c.has_record_at.result = c.has_record_at.ensures.1 (subst (HasRecordAt (registry_of (held c.args.self.now)) n c.args.id.now) one there) in
          search rules),
    )

pub returns-clause-records : goal.returns-clause-records
returns-clause-records c =
    let n = c.args.length in
    let id = c.args.id.now in
    let entries = (registry_of (held c.args.self.now)).entries in
    let is : c.args.token.now ≡ decimal c.in-Some.place = search rules in
    let true_at : IsTrue c.has_record_at.result = search rules in
    let there : HasRecordAt (registry_of (held c.args.self.now)) n id c.in-Some.place = c.has_record_at.ensures.0 true_at in
    record {
      place = Some c.in-Some.place;
      named = ap (λ (t : List ℕ). Some t) is;
      of_log = there;
      some = some-record decimal id 0 (take n entries) c.in-Some.place there;
      all = c.in_ok-records_behind.ensures.records;
    }
