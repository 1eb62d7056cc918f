-- A version that stands in a log has the form of SemVer 2.0.
use Rattle.std.proofs.Common.{◌≡◌, ◌∷◌, [], List, ℕ, Bool, true, false, Option, Some, refl, sym, ◌∙◌, ap, subst}
use Rattle.std.specs.Prelude.{◌==◌, ◌&&◌, cond, find, bytes_eq, is_some, option_and_then}
use Rattle.std.specs.List.{AllByRecursion}
use Rattle.std.proofs.lemmas.Bool.{eqb-true, false≢true}
use Rattle.std.proofs.lemmas.Slice.Eq.{bytes_eq-Decides}
use Rattle.semver.specs.Grammar.{IsValid}
use Rattle.semver.specs.Parse.{Parts}
use Rattle.warg_log.specs.History.{same_version}
use Rattle.warg_model.proofs.SignatureLaws.{and-both}

version-of : ℕ → ℕ → ℕ → List ℕ → List ℕ → Parts
version-of a b c d e = (a, b, c, d, e)

same-version : (v w : Parts) → same_version v w ≡ true → v ≡ w
unfolding version-of
same-version v w h =
    let a = and-both (v.0 == w.0) ((v.1 == w.1) && ((v.2 == w.2) && (bytes_eq v.3 w.3 && bytes_eq v.4 w.4))) h in
    let b = and-both (v.1 == w.1) ((v.2 == w.2) && (bytes_eq v.3 w.3 && bytes_eq v.4 w.4)) a.1 in
    let c = and-both (v.2 == w.2) (bytes_eq v.3 w.3 && bytes_eq v.4 w.4) b.1 in
    let d = and-both (bytes_eq v.3 w.3) (bytes_eq v.4 w.4) c.1 in
    ap (λ (n : ℕ). version-of n v.1 v.2 v.3 v.4) (eqb-true v.0 w.0 a.0)
    ∙ ap (λ (n : ℕ). version-of w.0 n v.2 v.3 v.4) (eqb-true v.1 w.1 b.0)
    ∙ ap (λ (n : ℕ). version-of w.0 w.1 n v.3 v.4) (eqb-true v.2 w.2 c.0)
    ∙ ap (λ (t : List ℕ). version-of w.0 w.1 w.2 t v.4) ((bytes_eq-Decides v.3 w.3).0 d.0)
    ∙ ap (λ (t : List ℕ). version-of w.0 w.1 w.2 w.3 t) ((bytes_eq-Decides v.4 w.4).0 d.1)

-- where each release has it, a version with a content has it
pub valid-standing : (version : Parts) (rs : List (Parts × Option (List ℕ))) → AllByRecursion (λ r. IsValid r.0) rs → is_some (option_and_then (λ r. r.1) (find (λ r. same_version version r.0) rs)) ≡ true → IsValid version
valid-standing version [] valid stands = absurd (false≢true stands)
valid-standing version (r ∷ rs) valid stands = by_test (same_version version r.0) refl stands (valid-standing version rs valid.1)
  where
    by_test : (b : Bool) → same_version version r.0 ≡ b → is_some (option_and_then (λ r. r.1) (cond b (Some r) (find (λ r. same_version version r.0) rs))) ≡ true
        → (is_some (option_and_then (λ r. r.1) (find (λ r. same_version version r.0) rs)) ≡ true → IsValid version) → IsValid version
    by_test true is stands later = subst IsValid (sym (same-version version r.0 is)) valid.0
    by_test false is stands later = later stands
