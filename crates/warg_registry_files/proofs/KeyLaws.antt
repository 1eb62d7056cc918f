-- Paths of what is kept: two are one only where their keys are.
use Rattle.std.proofs.Common.{◌≡◌, ℕ, Bool, true, false, true≢false, ◌||◌, ◌&&◌, nat_eq, List, [], ◌∷◌, ◌++◌, get_or, codes, bytes_eq, Some, None, refl, sym, ap, subst, ◌∙◌, append_assoc, inl, inr}
use Rattle.std.specs.Cmp.{both_ways}
use Rattle.std.specs.Cmp.Lexicographic.{nat_list_eq_equiv}
use Rattle.std.proofs.lemmas.Bool.{and_parts, cases_Bool}
use Rattle.std.proofs.lemmas.List.{append_cancel_left}
use Rattle.std.proofs.lemmas.Slice.Eq.{bytes_eq-Decides}
use Rattle.hex.specs.Hex.{encode_lower, decode_of}
use Rattle.hex.proofs.HexLemmas.{decode_of-encode_lower, decode_of-same}
use Rattle.warg_store.specs.Held.{Registry, Package, is_registry, is_package}
use Rattle.warg_registry_files.specs.Paths.{Place, are_bytes, checkpoint_path, folder_name, folder_path, has_slash, is_log, is_named, operator_path, package_path, publish_path}
use Rattle.warg_registry_files.specs.Resets.{IsKept, is_entry, is_folder}
use Rattle.warg_registry_files.proofs.PathLaws.{slash_in}
use Rattle.warg_registry_files.proofs.FolderLaws.{bytes_by_test, folder_has_none, folders_apart}

-- ---- what stands before the first slash

left_false : (a b : Bool) → (a || b) ≡ false → a ≡ false
left_false true b e = e
left_false false b e = refl

right_false : (a b : Bool) → (a || b) ≡ false → b ≡ false
right_false true b e = absurd (true≢false e)
right_false false b e = e

head_of : (a b : ℕ) (x y : List ℕ) → a ∷ x ≡ b ∷ y → a ≡ b
head_of a b x y e = cc

tail_of : (a b : ℕ) (x y : List ℕ) → a ∷ x ≡ b ∷ y → x ≡ y
tail_of a b x y e = cc

no_slash_first : (b : ℕ) (bs x y : List ℕ) → has_slash (b ∷ bs) ≡ false → 47 ∷ x ≡ b ∷ y → ⊥
no_slash_first b bs x y none e = true≢false (ap (λ n. nat_eq n 47) (head_of 47 b x y e) ∙ left_false (nat_eq b 47) (has_slash bs) none)

pub first_part : (a b x y : List ℕ) → has_slash a ≡ false → has_slash b ≡ false → a ++ 47 ∷ x ≡ b ++ 47 ∷ y → (a ≡ b) × (x ≡ y)
first_part [] [] x y of_a of_b e = (refl, tail_of 47 47 x y e)
first_part [] (b ∷ bs) x y of_a of_b e = absurd (no_slash_first b bs x (bs ++ 47 ∷ y) of_b e)
first_part (a ∷ more) [] x y of_a of_b e = absurd (no_slash_first a more y (more ++ 47 ∷ x) of_a (sym e))
first_part (a ∷ more) (b ∷ bs) x y of_a of_b e =
    let rest = first_part more bs x y (right_false (nat_eq a 47) (has_slash more) of_a) (right_false (nat_eq b 47) (has_slash bs) of_b) (tail_of a b (more ++ 47 ∷ x) (bs ++ 47 ∷ y) e) in
    let same = head_of a b (more ++ 47 ∷ x) (bs ++ 47 ∷ y) e in
    ((λ i. same i ∷ rest.0 i), rest.1)

-- ---- paths in folders

pub not_one : (a b : List ℕ) → (a ≡ b → ⊥) → bytes_eq a b ≡ false
not_one a b apart =
    elim (cases_Bool (bytes_eq a b)) [
      | inl t ↦ absurd (apart ((bytes_eq-Decides a b).0 t))
      | inr f ↦ f
    ]

pub differ : (x y : List ℕ) → bytes_eq x y ≡ false → x ≡ y → ⊥
differ x y none e = true≢false (sym ((bytes_eq-Decides x y).1 e) ∙ none)

-- the names of the folders, and what stands in them
pub parts_in : (parent a b x y : List ℕ) → has_slash a ≡ false → has_slash b ≡ false → parent ++ 47 ∷ a ++ 47 ∷ x ≡ parent ++ 47 ∷ b ++ 47 ∷ y → (a ≡ b) × (x ≡ y)
parts_in parent a b x y of_a of_b e =
    first_part a b x y of_a of_b
    (tail_of 47 47 (a ++ 47 ∷ x) (b ++ 47 ∷ y)
    (append_cancel_left parent (47 ∷ (a ++ 47 ∷ x)) (47 ∷ (b ++ 47 ∷ y)) (sym (append_assoc parent (47 ∷ a) (47 ∷ x)) ∙ e ∙ append_assoc parent (47 ∷ b) (47 ∷ y))))

registry_is : (a b : Registry) → is_registry a b ≡ true → a ≡ b
registry_is None None e = refl
registry_is None (Some b) e = absurd (true≢false (sym e))
registry_is (Some a) None e = absurd (true≢false (sym e))
registry_is (Some a) (Some b) e = ap Some ((bytes_eq-Decides a b).0 e)

registry_own : (a : Registry) → is_registry a a ≡ true
registry_own None = refl
registry_own (Some a) = nat_list_eq_equiv.refl a

both : (a b : Bool) → a ≡ true → b ≡ true → (a && b) ≡ true
both true b p q = q
both false b p q = absurd (true≢false (sym p))

package_is : (p q : Package) → is_package p q ≡ true → p ≡ q
package_is p q e =
    let parts = and_parts (is_registry p.0 q.0) (bytes_eq p.1 q.1) e in
    let r = registry_is p.0 q.0 parts.0 in
    let id = (bytes_eq-Decides p.1 q.1).0 parts.1 in
    (λ i. (r i, id i))

package_own : (p : Package) → is_package p p ≡ true
package_own p = both _ _ (registry_own p.0) (nat_list_eq_equiv.refl p.1)

-- what a package's log is called in its registry's folder
abbrev pub log_name : List ℕ → List ℕ
log_name id = codes "package-logs/sha256/" ++ encode_lower id

pub package_at : (place : Place) (p : Package) → package_path place p ≡ folder_path place p.0 ++ 47 ∷ log_name p.1
package_at place p = append_assoc (folder_path place p.0) (codes "/package-logs/sha256/") (encode_lower p.1)

module _ (place : Place) (single : has_slash place.own ≡ false) where
  in_folders : (a b : Registry) (x y : List ℕ) → folder_path place a ++ 47 ∷ x ≡ folder_path place b ++ 47 ∷ y → (folder_name place.own a ≡ folder_name place.own b) × (x ≡ y)
  in_folders a b x y e = parts_in place.parent (folder_name place.own a) (folder_name place.own b) x y (folder_has_none place.own a single) (folder_has_none place.own b single) e

  -- two files of one name are of one registry
  same_name : (name : List ℕ) (key k : Registry) → is_named key ≡ true → is_named k ≡ true → bytes_eq (folder_path place k ++ 47 ∷ name) (folder_path place key ++ 47 ∷ name) ≡ is_registry key k
  same_name name key k of_key of_k =
      both_ways _ _
      (λ t. let e = folders_apart place.own key k of_key of_k (sym (in_folders k key name name ((bytes_eq-Decides _ _).0 t)).0) in subst (λ x. is_registry key x ≡ true) e (registry_own key))
      (λ t. (bytes_eq-Decides _ _).1 (ap (λ r. folder_path place r ++ 47 ∷ name) (sym (registry_is key k t))))

  other_name : (a b : Registry) (x y : List ℕ) → bytes_eq x y ≡ false → bytes_eq (folder_path place a ++ 47 ∷ x) (folder_path place b ++ 47 ∷ y) ≡ false
  other_name a b x y apart = not_one _ _ (λ e. differ x y apart (in_folders a b x y e).1)

  pub checkpoints_apart : (key k : Registry) → is_named key ≡ true → is_named k ≡ true → bytes_eq (checkpoint_path place k) (checkpoint_path place key) ≡ is_registry key k
  checkpoints_apart key k of_key of_k = same_name (codes "checkpoint") key k of_key of_k

  pub operators_apart : (key k : Registry) → is_named key ≡ true → is_named k ≡ true → bytes_eq (operator_path place k) (operator_path place key) ≡ is_registry key k
  operators_apart key k of_key of_k = same_name (codes "operator.log") key k of_key of_k

  pub one_log : (p q : Package) → is_log p ≡ true → is_log q ≡ true → package_path place p ≡ package_path place q → p ≡ q
  one_log p q of_p of_q e =
      let ps = and_parts (is_named p.0) (are_bytes p.1) of_p in
      let qs = and_parts (is_named q.0) (are_bytes q.1) of_q in
      let parts = in_folders p.0 q.0 (log_name p.1) (log_name q.1) (sym (package_at place p) ∙ e ∙ package_at place q) in
      let r = folders_apart place.own p.0 q.0 ps.0 qs.0 parts.0 in
      let digits : encode_lower p.1 ≡ encode_lower q.1 = append_cancel_left (codes "package-logs/sha256/") _ _ parts.1 in
      let id : p.1 ≡ q.1 = decode_of-same (encode_lower p.1) p.1 q.1 (decode_of-encode_lower p.1 (bytes_by_test p.1 ps.1)) (ap decode_of digits ∙ decode_of-encode_lower q.1 (bytes_by_test q.1 qs.1)) in
      (λ i. (r i, id i))

  pub packages_apart : (key k : Package) → is_log key ≡ true → is_log k ≡ true → bytes_eq (package_path place k) (package_path place key) ≡ is_package key k
  packages_apart key k of_key of_k =
      both_ways _ _
      (λ t. subst (λ x. is_package key x ≡ true) (sym (one_log k key of_k of_key ((bytes_eq-Decides _ _).0 t))) (package_own key))
      (λ t. (bytes_eq-Decides _ _).1 (ap (package_path place) (sym (package_is key k t))))

  pub operator_no_checkpoint : (a b : Registry) → bytes_eq (operator_path place a) (checkpoint_path place b) ≡ false
  operator_no_checkpoint a b = other_name a b (codes "operator.log") (codes "checkpoint") refl

  pub checkpoint_no_operator : (a b : Registry) → bytes_eq (checkpoint_path place a) (operator_path place b) ≡ false
  checkpoint_no_operator a b = other_name a b (codes "checkpoint") (codes "operator.log") refl

  pub package_no_checkpoint : (p : Package) (b : Registry) → bytes_eq (package_path place p) (checkpoint_path place b) ≡ false
  package_no_checkpoint p b = ap (λ q. bytes_eq q (checkpoint_path place b)) (package_at place p) ∙ other_name p.0 b (log_name p.1) (codes "checkpoint") refl

  pub package_no_operator : (p : Package) (b : Registry) → bytes_eq (package_path place p) (operator_path place b) ≡ false
  package_no_operator p b = ap (λ q. bytes_eq q (operator_path place b)) (package_at place p) ∙ other_name p.0 b (log_name p.1) (codes "operator.log") refl

  pub checkpoint_no_package : (a : Registry) (p : Package) → bytes_eq (checkpoint_path place a) (package_path place p) ≡ false
  checkpoint_no_package a p = ap (λ q. bytes_eq (checkpoint_path place a) q) (package_at place p) ∙ other_name a p.0 (codes "checkpoint") (log_name p.1) refl

  pub operator_no_package : (a : Registry) (p : Package) → bytes_eq (operator_path place a) (package_path place p) ≡ false
  operator_no_package a p = ap (λ q. bytes_eq (operator_path place a) q) (package_at place p) ∙ other_name a p.0 (codes "operator.log") (log_name p.1) refl

  pub publish_no_checkpoint : (b : Registry) → bytes_eq (publish_path place) (checkpoint_path place b) ≡ false
  publish_no_checkpoint b = other_name None b (codes "pending-publish.json") (codes "checkpoint") refl

  pub publish_no_operator : (b : Registry) → bytes_eq (publish_path place) (operator_path place b) ≡ false
  publish_no_operator b = other_name None b (codes "pending-publish.json") (codes "operator.log") refl

  pub publish_no_package : (p : Package) → bytes_eq (publish_path place) (package_path place p) ≡ false
  publish_no_package p = ap (λ q. bytes_eq (publish_path place) q) (package_at place p) ∙ other_name None p.0 (codes "pending-publish.json") (log_name p.1) refl

  pub checkpoint_no_publish : (a : Registry) → bytes_eq (checkpoint_path place a) (publish_path place) ≡ false
  checkpoint_no_publish a = other_name a None (codes "checkpoint") (codes "pending-publish.json") refl

  pub operator_no_publish : (a : Registry) → bytes_eq (operator_path place a) (publish_path place) ≡ false
  operator_no_publish a = other_name a None (codes "operator.log") (codes "pending-publish.json") refl

  pub package_no_publish : (p : Package) → bytes_eq (package_path place p) (publish_path place) ≡ false
  package_no_publish p = ap (λ q. bytes_eq q (publish_path place)) (package_at place p) ∙ other_name p.0 None (log_name p.1) (codes "pending-publish.json") refl

  -- what lies in a registry's folder, and has another second byte, is not at the path of what is to be published
  pub apart_from_publish : (r : Registry) (rest entry : List ℕ) → nat_eq (get_or entry 1 0) 101 ≡ false → publish_path place ++ rest ≡ folder_path place r ++ 47 ∷ entry → ⊥
  apart_from_publish r rest entry other e =
      true≢false
      (ap (λ l. nat_eq (get_or l 1 0) 101) (in_folders None r (codes "pending-publish.json" ++ rest) entry (sym (append_assoc (folder_path place None) (codes "/pending-publish.json") rest) ∙ e)).1
      ∙ other)

-- a key of its own is the same key
pub key_registry : (a b : Registry) → is_registry a b ≡ true → a ≡ b
key_registry = registry_is

pub key_package : (p q : Package) → is_package p q ≡ true → p ≡ q
key_package = package_is

-- ---- what is kept

module _ (place : Place) (q : List ℕ) where
  -- what stands behind the folder that has the registries' folders
  pub kept_behind : (k : IsKept place q) → q ≡ place.parent ++ 47 ∷ (k.name ++ 47 ∷ k.entry)
  kept_behind k = k.is ∙ append_assoc place.parent (47 ∷ k.name) (47 ∷ k.entry)

  pub not_behind : ((rest : List ℕ) → q ≡ place.parent ++ 47 ∷ rest → ⊥) → IsKept place q → ⊥
  not_behind none k = none (k.name ++ 47 ∷ k.entry) (kept_behind k)

  inside_is : (inside : List ℕ) → q ≡ place.parent ++ 47 ∷ inside → (k : IsKept place q) → inside ≡ k.name ++ 47 ∷ k.entry
  inside_is inside is k = tail_of 47 47 inside (k.name ++ 47 ∷ k.entry) (append_cancel_left place.parent (47 ∷ inside) (47 ∷ (k.name ++ 47 ∷ k.entry)) (sym is ∙ kept_behind k))

  pub not_parted : (inside : List ℕ) → q ≡ place.parent ++ 47 ∷ inside → has_slash inside ≡ false → IsKept place q → ⊥
  not_parted inside is none k = true≢false (sym (slash_in k.name k.entry) ∙ ap has_slash (sym (inside_is inside is k)) ∙ none)

  module _ (inside name entry : List ℕ) (is : q ≡ place.parent ++ 47 ∷ inside) (parted : inside ≡ name ++ 47 ∷ entry) (single : has_slash name ≡ false) where
    kept_parts : (k : IsKept place q) → (name ≡ k.name) × (entry ≡ k.entry)
    kept_parts k = first_part name k.name entry k.entry single k.single (sym parted ∙ inside_is inside is k)

    pub kept_by : is_folder place.own name ≡ true → is_entry entry ≡ true → IsKept place q
    kept_by of_folder is_one = record {
      name = name;
      entry = entry;
      is = is ∙ ap (λ l. place.parent ++ 47 ∷ l) parted ∙ sym (append_assoc place.parent (47 ∷ name) (47 ∷ entry));
      single = single;
      of_folder = of_folder;
      is_one = is_one;
    }

    pub not_folder : is_folder place.own name ≡ false → IsKept place q → ⊥
    not_folder none k = true≢false (sym k.of_folder ∙ ap (is_folder place.own) (sym (kept_parts k).0) ∙ none)

    pub not_entry : is_entry entry ≡ false → IsKept place q → ⊥
    not_entry none k = true≢false (sym k.is_one ∙ ap is_entry (sym (kept_parts k).1) ∙ none)
