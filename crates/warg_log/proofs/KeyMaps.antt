-- Changes of what is known of one key.
use Rattle.std.proofs.Common.{◌≡◌, ℕ, Bool, true, cond, List, Option, Some, None, refl, sym, ap, ◌∙◌, inl, inr}
use Rattle.std.specs.Prelude.{bytes_eq}
use Rattle.std.specs.BTreeMap.{BTreeMap, UpdatesBy, get_by}
use Rattle.std.specs.Cmp.Lexicographic.{slice_cmp}
use Rattle.std.specs.Ordering.{nat_cmp}
use Rattle.std.proofs.lemmas.Bool.{cases_Bool}
use Rattle.std.proofs.lemmas.Slice.Eq.{bytes_eq-Decides}
use Rattle.std.proofs.lemmas.Map.Text.{is_eq-slice_cmp}
use Rattle.warg_hash.specs.declared.hash.KeyId.{KeyId}
use Rattle.warg_log.specs.declared.permissions.PermissionSet.{PermissionSet}
use Rattle.warg_log.specs.declared.keys.KeyFacts.{KeyFacts}
use Rattle.warg_log.specs.Permissions.{union, without}
use Rattle.warg_log.specs.Keys.{given, taken, restored}

-- a look-up after a change at one id
pub known_after : (id : List ℕ) (old new : BTreeMap KeyId KeyFacts) (w : Option KeyFacts) → UpdatesBy (slice_cmp nat_cmp) (λ k. slice_cmp nat_cmp id k) old new w
    → (q : List ℕ) → get_by (λ k. slice_cmp nat_cmp q k) new ≡ cond (bytes_eq id q) w (get_by (λ k. slice_cmp nat_cmp q k) old)
known_after id old new w updates q =
    updates.0 q ∙ ap (λ (b : Bool). cond b w (get_by (λ k. slice_cmp nat_cmp q k) old)) (is_eq-slice_cmp id q)

module _ (known : List ℕ → Option KeyFacts) (id q : List ℕ) where
  same_id : bytes_eq id q ≡ true → known q ≡ known id
  same_id is = ap known (sym ((bytes_eq-Decides id q).0 is))

  pub given_known : (facts : KeyFacts) (key : List ℕ) (gained : PermissionSet) → known id ≡ Some facts
      → cond (bytes_eq id q) (Some (record { key = facts.key; permissions = union facts.permissions gained })) (known q) ≡ cond (bytes_eq id q) (Some (given (known q) key gained)) (known q)
  given_known facts key gained is = elim (cases_Bool (bytes_eq id q)) [
    | inl here ↦ rw (here, same_id here, is) refl
    | inr there ↦ rw there refl
  ]

  pub given_new : (key : List ℕ) (gained : PermissionSet) → known id ≡ None
      → cond (bytes_eq id q) (Some (record { key = key; permissions = gained })) (known q) ≡ cond (bytes_eq id q) (Some (given (known q) key gained)) (known q)
  given_new key gained is = elim (cases_Bool (bytes_eq id q)) [
    | inl here ↦ rw (here, same_id here, is) refl
    | inr there ↦ rw there refl
  ]

  pub taken_known : (facts : KeyFacts) (lost : PermissionSet) → known id ≡ Some facts
      → cond (bytes_eq id q) (Some (record { key = facts.key; permissions = without facts.permissions lost })) (known q) ≡ cond (bytes_eq id q) (taken (known q) lost) (known q)
  taken_known facts lost is = elim (cases_Bool (bytes_eq id q)) [
    | inl here ↦ rw (here, same_id here, is) refl
    | inr there ↦ rw there refl
  ]

  pub taken_new : (lost : PermissionSet) → known id ≡ None → known q ≡ cond (bytes_eq id q) (taken (known q) lost) (known q)
  taken_new lost is = elim (cases_Bool (bytes_eq id q)) [
    | inl here ↦ rw (here, same_id here, is) refl
    | inr there ↦ rw there refl
  ]

  pub restored_known : (facts : KeyFacts) (held : PermissionSet) → known id ≡ Some facts
      → cond (bytes_eq id q) (Some (record { key = facts.key; permissions = held })) (known q) ≡ cond (bytes_eq id q) (restored (known q) (Some held)) (known q)
  restored_known facts held is = elim (cases_Bool (bytes_eq id q)) [
    | inl here ↦ rw (here, same_id here, is) refl
    | inr there ↦ rw there refl
  ]

  pub restored_new : (held : PermissionSet) → known id ≡ None → known q ≡ cond (bytes_eq id q) (restored (known q) (Some held)) (known q)
  restored_new held is = elim (cases_Bool (bytes_eq id q)) [
    | inl here ↦ rw (here, same_id here, is) refl
    | inr there ↦ rw there refl
  ]
