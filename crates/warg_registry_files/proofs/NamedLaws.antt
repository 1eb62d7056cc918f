-- The package whose log has an id.
use Rattle.std.proofs.Common.{◌≡◌, Bool, false, cond, List, ℕ, bytes_eq, Option, Some, None, option_and_then, sym, ap, subst, ◌∙◌}
use Rattle.std.specs.Option.{option_map_or}
use Rattle.std.specs.Cmp.Lexicographic.{nat_list_eq_equiv}
use Rattle.std.proofs.lemmas.Slice.Eq.{bytes_eq-Decides}
use Rattle.warg_hash.specs.Hash.{package_log_id}
use Rattle.warg_info_text.specs.StoredTexts.{package_of}
use Rattle.warg_store.specs.Entry.{Whole, Unreadable}
use Rattle.warg_store.specs.Held.{Info, NamedInfo, entry_named}
use Rattle.warg_registry_files.specs.RegistryFiles.{entry_by, package_with_id}

if_id : List ℕ → List ℕ × Info → Option NamedInfo
if_id id found = cond (bytes_eq (package_log_id found.0) id) (Some (record { name = found.0; info = found.1 })) None

pub named_whole : (name text : List ℕ) (info : Info) → package_of text ≡ Some (name, info) → package_with_id (package_log_id name) text ≡ Some (record { name = name; info = info })
unfolding if_id
named_whole name text info is =
    ap (option_and_then (if_id (package_log_id name))) is ∙ ap (λ (b : Bool). cond b (Some (record { name = name; info = info })) None) (nat_list_eq_equiv.refl (package_log_id name))

pub named_front : (id text : List ℕ) → package_of text ≡ None → package_with_id id text ≡ None
unfolding if_id
named_front id text is = ap (option_and_then (if_id id)) is

pub named_other : (id name text : List ℕ) (info : Info) → package_of text ≡ Some (name, info) → bytes_eq (package_log_id name) id ≡ false → package_with_id id text ≡ None
unfolding if_id
named_other id name text info is other =
    ap (option_and_then (if_id id)) is ∙ ap (λ (b : Bool). cond b (Some (record { name = name; info = info })) None) other

pub named_with : (id name text : List ℕ) (info : Info) → package_of text ≡ Some (name, info) → package_log_id name ≡ id → Some (record { name = name; info = info }) ≡ package_with_id id text
named_with id name text info is same = sym (subst (λ (i : List ℕ). package_with_id i text ≡ Some (record { name = name; info = info })) same (named_whole name text info is))

-- ---- as the package of a name

module _ (name bytes : List ℕ) where
  entry_of_text : (o : Option (List ℕ × Info)) → package_of bytes ≡ o → entry_named name (entry_by (package_with_id (package_log_id name)) (Some bytes)) ≡ entry_named name (option_map_or Whole (option_and_then (if_id (package_log_id name)) o) Unreadable)
  unfolding if_id
  entry_of_text o is = ap (λ (p : Option (List ℕ × Info)). entry_named name (option_map_or Whole (option_and_then (if_id (package_log_id name)) p) Unreadable)) is

  -- the package of the name
  pub found_named : (found : NamedInfo) → package_of bytes ≡ Some (found.name, found.info) → found.name ≡ name → entry_named name (entry_by (package_with_id (package_log_id name)) (Some bytes)) ≡ Whole found
  unfolding if_id
  found_named found is same =
      entry_of_text (Some (found.name, found.info)) is
      ∙ ap (λ (b : Bool). entry_named name (option_map_or Whole (cond b (Some found) None) Unreadable)) ((bytes_eq-Decides _ _).1 (ap package_log_id same))
      ∙ ap (λ (b : Bool). cond b (Whole found) Unreadable) ((bytes_eq-Decides _ _).1 same)
