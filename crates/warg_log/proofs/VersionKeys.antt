-- Versions as keys.
use Rattle.std.proofs.Common.{◌≡◌, ℕ, Bool, ◌==◌, ◌&&◌, cond, List, [], ◌∷◌, refl, sym, ap, ◌∙◌, arith}
use Rattle.std.specs.Ordering.{is_eq, nat_cmp, ordering_then}
use Rattle.std.specs.Map.{lookup}
use Rattle.std.specs.BTreeMap.{BTreeMap, UpdatesBy, get_by, is_at}
use Rattle.std.specs.Prelude.{Option}
use Rattle.std.specs.declared.cmp.Ordering.{Ordering}
use Rattle.std.specs.declared.cmp.Ordering.TheVariants.{Less, Equal, Greater}
use Rattle.std.proofs.lemmas.Bool.Decides.{nat_tests}
use Rattle.semver.specs.declared.Version.{Version}
use Rattle.semver.specs.Identifiers.{parts_of, pre_text, build_text}
use Rattle.semver.specs.Order.{pre_cmp, build_cmp}
use Rattle.semver.specs.OrderLaws.{order_ties, pre_total, pre-anti, build_total, build-anti}
use Rattle.semver.specs.contracts.VersionOrd.TheImpl.{cmp-value}
use Rattle.warg_log.specs.History.{same_version}

is_eq-then : (r s : Ordering) → is_eq (ordering_then r s) ≡ is_eq r && is_eq s
is_eq-then Less s = refl
is_eq-then Equal s = refl
is_eq-then Greater s = refl

is_eq-nat : (a b : ℕ) → is_eq (nat_cmp a b) ≡ (a == b)
is_eq-nat a b = grind (arith, nat_tests)

-- keys that tie are the same versions
pub is_eq-version : (v w : Version) → is_eq (cmp-value.it v w) ≡ same_version (parts_of v) (parts_of w)
is_eq-version v w =
    let pre = sym (order_ties pre_cmp pre_total pre-anti (pre_text v.pre) (pre_text w.pre)) in
    let build = sym (order_ties build_cmp build_total build-anti (build_text v.build) (build_text w.build)) in
    rw (is_eq-then, is_eq-nat v.major w.major, is_eq-then, is_eq-nat v.minor w.minor, is_eq-then, is_eq-nat v.patch w.patch, is_eq-then, pre, build) refl

-- a look-up after a change at one version
pub place_after : {X : Type 0} (v : Version) (old new : BTreeMap Version X) (w : Option X) → UpdatesBy cmp-value.it (cmp-value.it v) old new w
    → (q : Version) → get_by (cmp-value.it q) new ≡ cond (same_version (parts_of v) (parts_of q)) w (get_by (cmp-value.it q) old)
place_after v old new w updates q =
    updates.0 q ∙ ap (λ (b : Bool). cond b w (get_by (cmp-value.it q) old)) (is_eq-version v q)

-- a look-up by an order and by the test of being the same
lookup-same : {X : Type 0} (v : Version) (es : List (Version × X)) → lookup (is_at (cmp-value.it v)) es ≡ lookup (λ k. same_version (parts_of v) (parts_of k)) es
lookup-same v [] = refl
lookup-same {X} v (e ∷ es) = rw (is_eq-version v e.0, lookup-same v es) refl

pub get_by-version : {X : Type 0} (v : Version) (m : BTreeMap Version X) → get_by (cmp-value.it v) m ≡ lookup (λ k. same_version (parts_of v) (parts_of k)) m.entries
get_by-version v m = lookup-same v m.entries

-- the same after a change, in words that compute
pub look_after : {X : Type 0} (v : Version) (old new : BTreeMap Version X) (w : Option X) → UpdatesBy cmp-value.it (cmp-value.it v) old new w
    → (q : Version) → lookup (λ k. same_version (parts_of q) (parts_of k)) new.entries ≡ cond (same_version (parts_of v) (parts_of q)) w (lookup (λ k. same_version (parts_of q) (parts_of k)) old.entries)
look_after v old new w updates q =
    sym (get_by-version q new) ∙ place_after v old new w updates q ∙ ap (λ o. cond (same_version (parts_of v) (parts_of q)) w o) (get_by-version q old)
