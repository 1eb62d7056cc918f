-- What a search finds is a plan over components, that of a text or that of a package.
use Rattle.std.proofs.Common.{◌≡◌, ◌∙◌, sym, ap, subst, refl, ℕ, Bool, true, false, cond, List, [], ◌∷◌, ◌++◌, Some, bytes_eq, Result, Ok, Err}
use Rattle.std.specs.Prelude.{IfErr, IfOk, fold}
use Rattle.std.specs.List.{AllByRecursion}
use Rattle.std.specs.Map.{lookup}
use Rattle.std.proofs.lemmas.Slice.Eq.{bytes_eq-Decides}
use Rattle.indexmap.specs.IndexMap.{insert_entry}
use Rattle.sha2.specs.Sha256.{sha256}
use Rattle.comp_shape.specs.Refusal.{IsRefused}
use Rattle.compose_config.specs.Plan.{Settings}
use Rattle.warg_api.specs.Link.{Asked}
use Rattle.warg_plan.specs.Keys.{Key}
use Rattle.warg_plan.specs.Plan.{EachAfter, IsEntry, IsPlan}
use Rattle.warg_plan.specs.PlanLaws.{walk_is_plan}
use Rattle.warg_plan.specs.View.{plan_view}
use Rattle.warg_plan.specs.Walk.{Content, Entry, Facts, NeedsLog, Stop, nothing_known}
use Rattle.warg_plan.specs.declared.plan.Plan.{Plan}
use Rattle.warg_assemble.specs.Known.{Known}
use Rattle.warg_assemble.specs.Parts.{Loaded, Part, Updated, learnt, learnt_by}
use Rattle.warg_learn.specs.Learnt.{IsLearnt, IsReadPart}
use Rattle.warg_learn.specs.Recalled.{IsRecalledOrLearnt, Learnt, Lesson, Recalled, taught}
use Rattle.warg_learn.specs.RecalledLaws.{lessons_own, search_own}
use Rattle.warg_learn.specs.Search.{AreLearnt, Finds}
use Rattle.warg_learn.specs.Seen.{IsKnown, Seen}
use Rattle.warg_learn.specs.Stored.{IsOwnStore}
use Rattle.warg_compose.specs.Read.{IsComponent}
use Rattle.warg_compose.specs.Wired.{AreOfComponents, AreWired}
use Rattle.warg_client.specs.Assembled.{wanted}
use Rattle.warg_client.specs.Packages.{IsPackagePlan, IsPackageSearchRefused, package_wanted}
use Rattle.warg_complete.specs.ClientError.{ClientError}

-- a content under its digest is a component
record IsContent (e : List ℕ × Content) : Type 0 where
  digest : sha256 e.1.bytes ≡ e.0
  component : IsComponent e.1

abbrev AreContents : Facts → Type 0
AreContents f = AllByRecursion IsContent f.contents

same_bytes : (a b : List ℕ) → bytes_eq a b ≡ true → a ≡ b
same_bytes a b h = (bytes_eq-Decides a b).0 h

contents_with : (es : List (List ℕ × Content)) (d : List ℕ) (c : Content) → AllByRecursion IsContent es → IsContent (d, c) → AllByRecursion IsContent (insert_entry bytes_eq es d c)
contents_with [] d c all one = (one, tt)
contents_with (e ∷ es) d c all one = by (bytes_eq d e.0) refl (contents_with es d c all.1 one)
  where
    by : (b : Bool) → bytes_eq d e.0 ≡ b → AllByRecursion IsContent (insert_entry bytes_eq es d c) → AllByRecursion IsContent (cond b ((e.0, c) ∷ es) (e ∷ insert_entry bytes_eq es d c))
    by true is later = (record { digest = one.digest ∙ same_bytes d e.0 is; component = one.component }, all.1)
    by false is later = (all.0, later)

learnt_one : (f : Facts) (p : Part) → AreContents f → IsReadPart IsComponent p → AreContents (learnt f p)
learnt_one f (Updated u) all read = all
learnt_one f (Loaded l) all read = contents_with f.contents l.digest l.content all (record { digest = read.digest; component = read.reads })

looked_up : (es : List (List ℕ × Content)) (d : List ℕ) (c : Content) → AllByRecursion IsContent es → lookup (λ k. bytes_eq d k) es ≡ Some c → IsContent (d, c)
looked_up [] d c all e = absurd cc
looked_up (x ∷ es) d c all e = by (bytes_eq d x.0) refl e (looked_up es d c all.1)
  where
    one : Some x.1 ≡ Some c → x.1 ≡ c
    one h = cc

    by : (b : Bool) → bytes_eq d x.0 ≡ b → cond b (Some x.1) (lookup (λ k. bytes_eq d k) es) ≡ Some c → (lookup (λ k. bytes_eq d k) es ≡ Some c → IsContent (d, c)) → IsContent (d, c)
    by true is h later = subst (λ y. IsContent (d, y)) (one h) (record { digest = all.0.digest ∙ sym (same_bytes d x.0 is); component = all.0.component })
    by false is h later = later h

-- a plan over components is wired
abbrev pub Wires : Type 0
Wires = (s : Settings) (f : Facts) (root : Key) (es : List Entry) → IsPlan s f root es → AreOfComponents f → AreWired es

module _ {T D : Type 0} (Steps : T → Asked → T → Type 0) (s : Settings) where
  learnt_all : (f : Facts) (old new : Seen T D) (parts : List Part) → AreContents f → AreLearnt learnt (wanted s) (IsLearnt Steps IsComponent) f old parts new → AreContents (learnt_by f parts)
  unfolding AreLearnt
  learnt_all f old new [] all are = all
  learnt_all f old new (p ∷ ps) all are = learnt_all (learnt f p) are.0 new ps (learnt_one f p all are.1.learns.content) are.2

  pub found_wired : Wires → (old new : Seen T D) (es : List Entry) → Finds learnt (wanted s) (IsLearnt Steps IsComponent) old new es → AreWired es
  found_wired law old new es found =
      let w = wanted s in
      let all = learnt_all nothing_known old new found.parts tt found.are in
      let f = learnt_by nothing_known found.parts in
      law s f w.root es (walk_is_plan s f w.depth w.root es found.finds)
      (record { digests = λ d c known. (looked_up f.contents d c all known).digest; components = λ d c known. (looked_up f.contents d c all known).component })

-- ---- the plan of a package

-- the content of an entry has the entry's digest
entry_digest : (s : Settings) (f : Facts) → AreContents f → (before : List Entry) (e : Entry) → IsEntry s f before e → sha256 e.content ≡ e.digest
entry_digest s f all before e is = ap sha256 is.bytes ∙ (looked_up f.contents e.digest is.made_of all is.known).digest

each_digest : (s : Settings) (f : Facts) → AreContents f → (before es : List Entry) → EachAfter (IsEntry s f) before es → AllByRecursion (λ e. sha256 e.content ≡ e.digest) es
unfolding EachAfter
each_digest s f all before [] each = record {}
each_digest s f all before (e ∷ es) each = (entry_digest s f all before e each.0, each_digest s f all (before ++ e ∷ []) es each.1)

module _ {T D : Type 0} (Steps : T → Asked → T → Type 0) where
  abbrev Learns : Seen T D → Stop → Lesson → Seen T D → Type 0
  Learns = IsRecalledOrLearnt Steps IsComponent

  taught_one : (f : Facts) (old new : Seen T D) (asked : Stop) (lesson : Lesson) → AreContents f → Learns old asked lesson new → AreContents (taught f lesson)
  taught_one f old new (NeedsLog name) (Recalled k) all h = all
  taught_one f old new (NeedsLog name) (Learnt p) all h = learnt_one f p all h.learns.content
  taught_one f old new asked (Learnt p) all h = learnt_one f p all h.content
  taught_one f old new asked (Recalled k) all h = absurd h

  module _ (name : List ℕ) where
    taught_all : (f : Facts) (old new : Seen T D) (lessons : List Lesson) → AreContents f → AreLearnt taught (package_wanted name) Learns f old lessons new → AreContents (fold taught f lessons)
    unfolding AreLearnt
    taught_all f old new [] all are = all
    taught_all f old new (l ∷ ls) all are = taught_all (taught f l) are.0 new ls (taught_one f old are.0 are.1.stop l all are.1.learns) are.2

    found_contents : (old new : Seen T D) (es : List Entry) → (found : Finds taught (package_wanted name) Learns old new es) → AreContents (fold taught nothing_known found.parts)
    found_contents old new es found = taught_all nothing_known old new found.parts tt found.are

    -- what a search finds is the plan of a package
    pub package_planned : (old new : Seen T D) (es : List Entry) → Finds taught (package_wanted name) Learns old new es → IsPackagePlan Steps old new name es
    package_planned old new es found =
        let w = package_wanted name in
        let f = fold taught nothing_known found.parts in
        let plan = walk_is_plan w.settings f w.depth w.root es found.finds in
        record { lessons = found.parts; are = found.are; plan = plan; digests = each_digest w.settings f (found_contents old new es found) [] es plan.each }

    pub package_wired : Wires → (old new : Seen T D) (es : List Entry) → Finds taught (package_wanted name) Learns old new es → AreWired es
    package_wired law old new es found =
        let w = package_wanted name in
        let f = fold taught nothing_known found.parts in
        let all = found_contents old new es found in
        law w.settings f w.root es (walk_is_plan w.settings f w.depth w.root es found.finds)
        (record { digests = λ d c known. (looked_up f.contents d c all known).digest; components = λ d c known. (looked_up f.contents d c all known).component })

    -- ---- by the answer of a search

    abbrev Found : Seen T D → Seen T D → Plan → Type 0
    Found old new plan = Finds taught (package_wanted name) Learns old new (plan_view plan)

    pub answer_planned : (old new : Seen T D) (r : Result Plan ClientError) → IfOk r (Found old new) → IfOk r (λ plan. IsPackagePlan Steps old new name (plan_view plan))
    answer_planned old new (Ok plan) finds = package_planned old new (plan_view plan) finds
    answer_planned old new (Err e) finds = tt

    pub answer_wired : Wires → (old new : Seen T D) (r : Result Plan ClientError) → IfOk r (Found old new) → IfOk r (λ plan. AreWired (plan_view plan))
    answer_wired law old new (Ok plan) finds = package_wired law old new (plan_view plan) finds
    answer_wired law old new (Err e) finds = tt

    -- whatever it answers, the store of registries stays its client's own
    pub answer_own : (said : D → D → Bool → Bool) (old new : Seen T D) (r : Result Plan ClientError) → IfOk r (Found old new) → IfErr r (IsPackageSearchRefused Steps old new said name)
        → (known : Known) → IsKnown old known → IsOwnStore old.accepts new.registries
    answer_own said old new (Ok plan) finds refused known knows = lessons_own Steps IsComponent (package_wanted name) nothing_known old new finds.parts known knows finds.are
    answer_own said old new (Err e) finds refused known knows =
        search_own Steps IsComponent said (λ bytes error. IsRefused error bytes) (package_wanted name) old new refused.refusal known knows refused.cause
