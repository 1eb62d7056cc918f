-- The contents of releases over what is known, and over more that is known.
use Rattle.std.proofs.Common.{◌≡◌, ◌∙◌, ◌⊎◌, ℕ, Bool, true, false, cond, List, [], ◌∷◌, ◌++◌, Option, Some, None, Result, Ok, Err, refl, ap, subst, inl, inr}
use Rattle.semver.specs.Parse.{Parts}
use Rattle.warg_hash.specs.Name.{IsPackageName, is_package_name}
use Rattle.warg_hash.specs.NameLaws.{is_package_name-name}
use Rattle.warg_values.specs.Reading.{◌>>=◌}
use Rattle.warg_values.specs.ReadingLaws.{bind_ok}
use Rattle.warg_names.specs.Import.{ImportTree}
use Rattle.warg_plan.specs.Keys.{Key, Parsed, Release, choice_for, of_package}
use Rattle.warg_plan.specs.Known.{Extends, IsUnknown}
use Rattle.warg_plan.specs.Steps.{package_at}
use Rattle.warg_plan.specs.StopLaws.{bind_err, err_is}
use Rattle.warg_plan.specs.Walk.{Content, Facts, Stop, NeedsContent, NeedsLog, NoPackage, NoRelease, content_in, log_in, or_stop}
use Rattle.warg_bundle.specs.Contents.{content_of, contents_of}

-- ---- steps

none_by : {A : Type 0} (a b : Stop) (o : Option A) → or_stop a o ≡ Err b → (o ≡ None) × (a ≡ b)
none_by {A = A} a b None e = (refl, err_is {A = A} a b e)
none_by a b (Some x) e = absurd cc

pub some_by : {A : Type 0} (stop : Stop) (o : Option A) (x : A) → or_stop stop o ≡ Ok x → o ≡ Some x
some_by stop None x e = absurd cc
some_by stop (Some y) x e = cc

-- a name that is no package's
pub no_package : (k : Key) (i : ImportTree) → (IsPackageName i.name → ⊥) → package_at k i ≡ Err (NoPackage k)
no_package k i other = by (is_package_name i.name) refl
  where
    by : (b : Bool) → is_package_name i.name ≡ b → or_stop (NoPackage k) (cond b (Some i.name) None) ≡ Err (NoPackage k)
    by true is = absurd (other (is_package_name-name i.name is))
    by false is = refl

abbrev pub refused : Key → Result (List ℕ) Stop
refused k = Err (NoPackage k)

-- ---- the content of a release

abbrev pub by_release : Facts → ImportTree → Parts × List ℕ → Result Content Stop
by_release f i r = or_stop (NeedsContent i.name r.1) (content_in f r.1)

abbrev pub by_log : Facts → ImportTree → List Release → Result Content Stop
by_log f i log = or_stop (NoRelease i.name) (choice_for i log) >>= by_release f i

abbrev pub by_package : Facts → ImportTree → Result Content Stop
by_package f i = or_stop (NeedsLog i.name) (log_in f i.name) >>= by_log f i

release_unknown : (f : Facts) (i : ImportTree) (r : Parts × List ℕ) (stop : Stop) → by_release f i r ≡ Err stop → IsUnknown f stop
release_unknown f i r stop e = let n = none_by (NeedsContent i.name r.1) stop (content_in f r.1) e in subst (IsUnknown f) n.1 n.0

log_unknown : (f : Facts) (i : ImportTree) (log : List Release) (stop : Stop) → by_log f i log ≡ Err stop → IsUnknown f stop
log_unknown f i log stop e = by (bind_err (or_stop (NoRelease i.name) (choice_for i log)) (by_release f i) stop e)
  where
    by : (or_stop (NoRelease i.name) (choice_for i log) ≡ Err stop) ⊎ ((r : Parts × List ℕ) × (or_stop (NoRelease i.name) (choice_for i log) ≡ Ok r) × (by_release f i r ≡ Err stop)) → IsUnknown f stop
    by (inl h) = subst (IsUnknown f) (none_by (NoRelease i.name) stop (choice_for i log) h).1 (record {})
    by (inr h) = release_unknown f i h.0 stop h.2

package_unknown : (f : Facts) (i : ImportTree) (stop : Stop) → by_package f i ≡ Err stop → IsUnknown f stop
package_unknown f i stop e = by (bind_err (or_stop (NeedsLog i.name) (log_in f i.name)) (by_log f i) stop e)
  where
    by : (or_stop (NeedsLog i.name) (log_in f i.name) ≡ Err stop) ⊎ ((log : List Release) × (or_stop (NeedsLog i.name) (log_in f i.name) ≡ Ok log) × (by_log f i log ≡ Err stop)) → IsUnknown f stop
    by (inl h) = let n = none_by (NeedsLog i.name) stop (log_in f i.name) h in subst (IsUnknown f) n.1 n.0
    by (inr h) = log_unknown f i h.0 stop h.2

-- what is needed for a content is not known
pub content_unknown : (f : Facts) (i : ImportTree) (stop : Stop) → content_of f i ≡ Err stop → IsUnknown f stop
unfolding content_of
content_unknown f i stop e = by (bind_err (or_stop (NoPackage (Parsed i)) (of_package i)) (by_package f) stop e)
  where
    by : (or_stop (NoPackage (Parsed i)) (of_package i) ≡ Err stop) ⊎ ((j : ImportTree) × (or_stop (NoPackage (Parsed i)) (of_package i) ≡ Ok j) × (by_package f j ≡ Err stop)) → IsUnknown f stop
    by (inl h) = subst (IsUnknown f) (none_by (NoPackage (Parsed i)) stop (of_package i) h).1 (record {})
    by (inr h) = package_unknown f h.0 stop h.2

module _ (f g : Facts) (more : Extends f g) where
  -- a content that is known is the same over more that is known
  pub content_still : (i : ImportTree) (c : Content) → content_of f i ≡ Ok c → content_of g i ≡ Ok c
  unfolding content_of
  content_still i c e =
      let a = bind_ok (or_stop (NoPackage (Parsed i)) (of_package i)) (by_package f) c e in
      let j = a.0 in
      let b = bind_ok (or_stop (NeedsLog j.name) (log_in f j.name)) (by_log f j) c a.2 in
      let d = bind_ok (or_stop (NoRelease j.name) (choice_for j b.0)) (by_release f j) c b.2 in
      ap (λ (r : Result ImportTree Stop). r >>= by_package g) a.1
      ∙ ap (λ (o : Option (List Release)). or_stop (NeedsLog j.name) o >>= by_log g j) (more.logs j.name b.0 (some_by (NeedsLog j.name) (log_in f j.name) b.0 b.1))
      ∙ ap (λ (r : Result (Parts × List ℕ) Stop). r >>= by_release g j) d.1
      ∙ ap (or_stop (NeedsContent j.name d.0.1)) (more.contents d.0.1 c (some_by (NeedsContent j.name d.0.1) (content_in f d.0.1) c d.2))

  pub contents_still : (is : List ImportTree) (cs : List Content) → contents_of f is ≡ Ok cs → contents_of g is ≡ Ok cs
  unfolding contents_of
  contents_still [] cs e = e
  contents_still (i ∷ is) cs e =
      let a = bind_ok (content_of f i) _ cs e in
      let b = bind_ok (contents_of f is) _ cs a.2 in
      ap (λ (r : Result Content Stop). r >>= λ c. contents_of g is >>= λ cs. Ok (c ∷ cs)) (content_still i a.0 a.1)
      ∙ ap (λ (r : Result (List Content) Stop). r >>= λ cs. Ok (a.0 ∷ cs)) (contents_still is b.0 b.1)
      ∙ b.2

module _ (f : Facts) (i : ImportTree) where
  -- behind releases whose contents are known, the next one stops all
  pub stops_behind : (front rest : List ImportTree) (cs : List Content) (stop : Stop) → contents_of f front ≡ Ok cs → content_of f i ≡ Err stop → contents_of f (front ++ i ∷ rest) ≡ Err stop
  unfolding contents_of
  stops_behind [] rest cs stop e h = ap (λ (r : Result Content Stop). r >>= λ c. contents_of f rest >>= λ cs. Ok (c ∷ cs)) h
  stops_behind (j ∷ front) rest cs stop e h =
      let a = bind_ok (content_of f j) _ cs e in
      let b = bind_ok (contents_of f front) _ cs a.2 in
      ap (λ (r : Result Content Stop). r >>= λ c. contents_of f (front ++ i ∷ rest) >>= λ cs. Ok (c ∷ cs)) a.1
      ∙ ap (λ (r : Result (List Content) Stop). r >>= λ cs. Ok (a.0 ∷ cs)) (stops_behind front rest b.0 stop b.1 h)

  -- or is known with them
  pub known_behind : (front : List ImportTree) (cs : List Content) (c : Content) → contents_of f front ≡ Ok cs → content_of f i ≡ Ok c → contents_of f (front ++ i ∷ []) ≡ Ok (cs ++ c ∷ [])
  unfolding contents_of
  known_behind [] cs c e h = ap (λ (r : Result Content Stop). r >>= λ c. Ok (c ∷ [])) h ∙ ap (λ (cs : List Content). Ok (cs ++ c ∷ [])) (ok_is [] cs e)
    where
      read : List Content → Result (List Content) Stop
      read cs = Ok cs

      ok_is : (a b : List Content) → read a ≡ read b → a ≡ b
      ok_is a b e = cc
  known_behind (j ∷ front) cs c e h =
      let a = bind_ok (content_of f j) _ cs e in
      let b = bind_ok (contents_of f front) _ cs a.2 in
      ap (λ (r : Result Content Stop). r >>= λ c. contents_of f (front ++ i ∷ []) >>= λ cs. Ok (c ∷ cs)) a.1
      ∙ ap (λ (r : Result (List Content) Stop). r >>= λ cs. Ok (a.0 ∷ cs)) (known_behind front b.0 c b.1 h)
      ∙ ap (λ (r : Result (List Content) Stop). r >>= λ cs. Ok (cs ++ c ∷ [])) b.2
