-- Which versions are read again from their texts, and which versions are alike.
use Rattle.std.proofs.Common.{◌≡◌, ◌↔◌, ℕ, Bool, true, false, ◌==◌, ◌&&◌, List, Some, None, refl, sym, ap, subst, ◌∙◌, arith}
use Rattle.std.specs.Prelude.{bytes_eq}
use Rattle.std.specs.Ordering.{is_eq, nat_cmp, ordering_then, ordering_index}
use Rattle.std.specs.declared.cmp.Ordering.{Ordering}
use Rattle.std.specs.declared.cmp.Ordering.TheVariants.{Less, Equal, Greater}
use Rattle.std.proofs.lemmas.Bool.{and_parts, and_from, eqb-true, eq-eqb, false≢true}
use Rattle.std.proofs.lemmas.Bool.Decides.{nat_tests}
use Rattle.std.proofs.lemmas.Option.{none-some}
use Rattle.std.proofs.lemmas.Slice.Eq.{bytes_eq-Decides}
use Rattle.semver.specs.Parse.{Parts}
use Rattle.semver.specs.Grammar.{IsValid}
use Rattle.semver.specs.declared.Version.{Version}
use Rattle.semver.specs.Identifiers.{parts_of, parts_text, pre_text, build_text}
use Rattle.semver.specs.Order.{pre_cmp, build_cmp}
use Rattle.semver.specs.OrderLaws.{order_ties, pre_total, pre-anti, build_total, build-anti}
use Rattle.semver.specs.contracts.VersionOrd.TheImpl.{cmp-value}
use Rattle.warg_record.specs.Reading.{version_of}
use Rattle.warg_record.specs.StepLaws.{some_is}
use Rattle.warg_record.specs.TextLaws.{version_of-sound, version_of-again}

pub tied : (o : Ordering) → (ordering_index o == 1) ≡ is_eq o
tied Less = refl
tied Equal = refl
tied Greater = refl

is_eq-then : (r s : Ordering) → is_eq (ordering_then r s) ≡ is_eq r && is_eq s
is_eq-then Less s = refl
is_eq-then Equal s = refl
is_eq-then Greater s = refl

is_eq-nat : (a b : ℕ) → is_eq (nat_cmp a b) ≡ (a == b)
is_eq-nat a b = grind (arith, nat_tests)

-- whether two versions have the same parts
abbrev same : Parts → Parts → Bool
same v w = (v.0 == w.0) && ((v.1 == w.1) && ((v.2 == w.2) && (bytes_eq v.3 w.3 && bytes_eq v.4 w.4)))

ties : (v w : Version) → is_eq (cmp-value.it v w) ≡ same (parts_of v) (parts_of w)
ties v w =
    let pre = sym (order_ties pre_cmp pre_total pre-anti (pre_text v.pre) (pre_text w.pre)) in
    let build = sym (order_ties build_cmp build_total build-anti (build_text v.build) (build_text w.build)) in
    rw (is_eq-then, is_eq-nat v.major w.major, is_eq-then, is_eq-nat v.minor w.minor, is_eq-then, is_eq-nat v.patch w.patch, is_eq-then, pre, build) refl

abbrev parts_with : ℕ → ℕ → ℕ → List ℕ → List ℕ → Parts
parts_with a b c d e = (a, b, c, d, e)

parts_are : (a a' b b' c c' : ℕ) (d d' e e' : List ℕ) → a ≡ a' → b ≡ b' → c ≡ c' → d ≡ d' → e ≡ e' → parts_with a b c d e ≡ parts_with a' b' c' d' e'
parts_are a a' b b' c c' d d' e e' p q r s t = rw (p, q, r, s, t) refl

same-sound : (v w : Parts) → same v w ≡ true → v ≡ w
same-sound v w h =
    let a = and_parts _ _ h in
    let b = and_parts _ _ a.1 in
    let c = and_parts _ _ b.1 in
    let d = and_parts _ _ c.1 in
    parts_are v.0 w.0 v.1 w.1 v.2 w.2 v.3 w.3 v.4 w.4 (eqb-true v.0 w.0 a.0) (eqb-true v.1 w.1 b.0) (eqb-true v.2 w.2 c.0)
    ((bytes_eq-Decides v.3 w.3).0 d.0) ((bytes_eq-Decides v.4 w.4).0 d.1)

same-itself : (v : Parts) → same v v ≡ true
same-itself v =
    and_from _ _ (eq-eqb v.0 v.0 refl) (and_from _ _ (eq-eqb v.1 v.1 refl) (and_from _ _ (eq-eqb v.2 v.2 refl)
    (and_from _ _ ((bytes_eq-Decides v.3 v.3).1 refl) ((bytes_eq-Decides v.4 v.4).1 refl))))

-- versions that tie have the same parts, and no others do
pub same_by_order : (v w : Version) (r : Bool) → r ≡ is_eq (cmp-value.it v w) → (r ≡ true) ↔ (parts_of v ≡ parts_of w)
same_by_order v w r e = (
  λ yes. same-sound (parts_of v) (parts_of w) (sym (e ∙ ties v w) ∙ yes),
  λ alike. e ∙ ties v w ∙ subst (λ (p : Parts). same (parts_of v) p ≡ true) alike (same-itself (parts_of v)),
)

-- a version is valid where its text is read as its own parts
pub valid_by : (text : List ℕ) (v p : Parts) (r : Bool) → text ≡ parts_text v → version_of text ≡ Some p → ((r ≡ true) ↔ (p ≡ v)) → (r ≡ true) ↔ IsValid v
valid_by text v p r is read alike = (
  λ yes. subst IsValid (alike.0 yes) (version_of-sound text p read).1,
  λ valid. alike.1 (some_is p v (sym read ∙ ap version_of is ∙ version_of-again v valid)),
)

-- and no other is
pub invalid_by : (text : List ℕ) (v : Parts) → text ≡ parts_text v → version_of text ≡ None → (false ≡ true) ↔ IsValid v
invalid_by text v is read = (
  λ yes. absurd (false≢true yes),
  λ valid. absurd (none-some v (sym read ∙ ap version_of is ∙ version_of-again v valid)),
)
