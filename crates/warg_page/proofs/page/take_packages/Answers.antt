use Rattle.std.proofs.Common.{◌≡◌, ◌∷◌, [], inr, List, ℕ, map, sym, subst}
use Rattle.std.specs.Map.Iter.{deref_pair}
use Rattle.std.proofs.lemmas.Map.Iter.{rest_more, rest_all}
use Rattle.warg_exchange.specs.declared.logs.PublishedRecord.{PublishedRecord}
use Rattle.std.specs.List.{AllByRecursion}
use Rattle.warg_page.specs.Logs.{IsOfPackage, EachGrows}
use Rattle.warg_page.specs.PageFaults.{FirstListedFault}
use Rattle.warg_page.specs.Steps.{HaveIds, AreGood}
use Rattle.warg_page.specs.Views.{package_view}
use Rattle.warg_page.proofs.ListedLaws.{each-more, each-none}
use Rattle.warg_page.proofs.TakenLaws.{all-before}
use Rattle.warg_page.proofs.page.take_packages.Goals as goal

pub loop-id-preserved : goal.loop-id-preserved
loop-id-preserved g c =
    let accepts = g.V.Verifier.good c.args.verifier.now in
    let keys = c.args.ids.now.keys in
    let was = c.loop-id.invariant in
    let id = c.in-Some.id.now in
    let records = c.in-Some.records.now in
    let rest = c.next.new.self in
    let before = map package_view c.loop-id.packages.items in
    let after = map package_view c.take_listed.new.packages.items in
    let left : c.loop-id.id-iterator ≡ (id, records) ∷ rest = rest_more deref_pair c.loop-id.id-iterator rest c.next.result (c.in-Some.id, c.in-Some.records) c.in-Some.is c.next.ensures.steps in
    let taken : HaveIds keys c.args.packages.now.items → AreGood accepts c.args.packages.now.items → EachGrows ((id, records) ∷ []) before after =
    λ ids good. subst (λ (ps : List PublishedRecord). EachGrows ((id, ps) ∷ []) before after) c.as_slice.ensures (c.in_ok-take_listed.ensures.grows (was.ids ids) (was.good good)) in
    record {
      ids = λ ids. c.take_listed.ensures.ids (was.ids ids);
      sound = λ sound. c.take_listed.ensures.sound (was.sound sound);
      good = λ good. c.take_listed.ensures.good (was.good good);
      grows = λ ids good news more. was.grows ids good news
          (subst (λ (l : List (List ℕ × List PublishedRecord)). EachGrows l before news) (sym left) (each-more c.growth_goes_on.ensures.more (id, records) rest before after news (taken ids good) more));
      asked = λ ids good all. was.asked ids good
          (subst (λ (l : List (List ℕ × List PublishedRecord)). AllByRecursion (IsOfPackage before) l) (sym left)
          (subst (λ (ps : List PublishedRecord). IsOfPackage before (id, ps)) c.as_slice.ensures (c.in_ok-take_listed.ensures.asked (was.ids ids)), all-before ((id, records) ∷ []) before after rest (taken ids good) all));
      fault = λ ids good e fault. was.fault ids good e
          (subst (λ (l : List (List ℕ × List PublishedRecord)). FirstListedFault e accepts before l) (sym left) (inr (after, taken ids good, fault)));
    }

pub returns-in_err-take_listed-clause-sound : goal.returns-in_err-take_listed-clause-sound
returns-in_err-take_listed-clause-sound g c sound = c.take_listed.ensures.sound (c.loop-id.invariant.sound sound)

pub returns-in_err-take_listed-clause-good : goal.returns-in_err-take_listed-clause-good
returns-in_err-take_listed-clause-good g c good = c.take_listed.ensures.good (c.loop-id.invariant.good good)

pub returns-clause-grows : goal.returns-clause-grows
returns-clause-grows g c ids good =
    let now = map package_view c.loop-id.packages.items in
    let done : c.loop-id.id-iterator ≡ [] = rest_all deref_pair c.loop-id.id-iterator c.next.new.self c.next.result c.in-None.is c.next.ensures.steps in
    c.loop-id.invariant.grows ids good now (subst (λ (l : List (List ℕ × List PublishedRecord)). EachGrows l now now) (sym done) (each-none now))

pub returns-clause-asked : goal.returns-clause-asked
returns-clause-asked g c ids good =
    let now = map package_view c.loop-id.packages.items in
    let done : c.loop-id.id-iterator ≡ [] = rest_all deref_pair c.loop-id.id-iterator c.next.new.self c.next.result c.in-None.is c.next.ensures.steps in
    c.loop-id.invariant.asked ids good (subst (λ (l : List (List ℕ × List PublishedRecord)). AllByRecursion (IsOfPackage now) l) (sym done) tt)
