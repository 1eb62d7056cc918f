-- A list of imports, with one more that is added as a set adds it.
use Rattle.std.proofs.Common.{◌≡◌, ◌∙◌, ◌+◌, ◌-◌, ◌<◌, ◌||◌, ℕ, zero, suc, Bool, true, false, cond, List, [], ◌∷◌, ◌++◌, length, map, take, get_or, refl, sym, ap}
use Rattle.std.specs.Prelude.{fold}
use Rattle.std.specs.List.{list_any}
use Rattle.std.proofs.lemmas.List.{map-append, take_more}
use Rattle.indexmap.specs.IndexSet.{insert_key}
use Rattle.warg_names.specs.Import.{ImportTree}
use Rattle.warg_names.specs.Same.{same_import}
use Rattle.warg_names.specs.View.{import_tree}
use Rattle.warg_names.specs.contracts.import.ImportPartialEq.TheImpl as of_import
use Rattle.warg_names.specs.declared.import.Import.{Import}
use Rattle.warg_plan.specs.ImportLaws.{equal_imports}
use Rattle.warg_plan.specs.View.{entry_view}
use Rattle.warg_plan.specs.Walk.{Entry}
use Rattle.warg_plan.specs.declared.plan.PlanEntry.{PlanEntry}
use Rattle.warg_client.specs.LockList.{before_root, imports_among, imports_at, with_import}

any_same : (ks : List Import) (k : Import) → list_any (of_import.ghosts.eq k) ks ≡ list_any (same_import (import_tree k)) (map import_tree ks)
any_same [] k = refl
any_same (x ∷ ks) k =
    ap (λ b. b || list_any (of_import.ghosts.eq k) ks) (equal_imports k x)
    ∙ ap (λ b. same_import (import_tree k) (import_tree x) || b) (any_same ks k)

-- a set adds an import as a list with it is said
pub key_added : (ks : List Import) (k : Import) → map import_tree (insert_key of_import.ghosts.eq ks k) ≡ with_import (map import_tree ks) (import_tree k)
key_added ks k = by (list_any (of_import.ghosts.eq k) ks) ∙ ap (λ b. cond b (map import_tree ks) (map import_tree ks ++ import_tree k ∷ [])) (any_same ks k)
  where
    by : (b : Bool) → map import_tree (cond b ks (ks ++ k ∷ [])) ≡ cond b (map import_tree ks) (map import_tree ks ++ import_tree k ∷ [])
    by true = refl
    by false = map-append import_tree ks (k ∷ [])

fold_twice : (is js ks : List ImportTree) → fold with_import is (js ++ ks) ≡ fold with_import (fold with_import is js) ks
fold_twice is [] ks = refl
fold_twice is (j ∷ js) ks = fold_twice (with_import is j) js ks

among_more : (es : List Entry) (e : Entry) → imports_among (es ++ e ∷ []) ≡ imports_among es ++ imports_at e.key
among_more [] e = nothing_behind (imports_at e.key)
  where
    nothing_behind : (is : List ImportTree) → is ++ [] ≡ is
    nothing_behind [] = refl
    nothing_behind (i ∷ is) = ap (λ (js : List ImportTree). i ∷ js) (nothing_behind is)
among_more (x ∷ es) e = ap (λ (is : List ImportTree). imports_at x.key ++ is) (among_more es e) ∙ sym (append_three (imports_at x.key) (imports_among es) (imports_at e.key))
  where
    append_three : (is js ks : List ImportTree) → (is ++ js) ++ ks ≡ is ++ (js ++ ks)
    append_three [] js ks = refl
    append_three (i ∷ is) js ks = ap (λ (ls : List ImportTree). i ∷ ls) (append_three is js ks)

-- one entry more
pub listed_more : (entries : List PlanEntry) (at : ℕ) (e : PlanEntry) (is old new : List ImportTree) → at < length entries → e ≡ get_or entries at e → old ≡ fold with_import is (imports_among (map entry_view (take at entries))) → new ≡ fold with_import old (imports_at (entry_view e).key)
    → new ≡ fold with_import is (imports_among (map entry_view (take (at + 1) entries)))
listed_more entries at e is old new lt is_e old_is new_is =
    new_is
    ∙ ap (λ (js : List ImportTree). fold with_import js (imports_at (entry_view e).key)) old_is
    ∙ sym (fold_twice is (imports_among (map entry_view (take at entries))) (imports_at (entry_view e).key))
    ∙ ap (fold with_import is) (sym (among_more (map entry_view (take at entries)) (entry_view e)))
    ∙ ap (λ (es : List Entry). fold with_import is (imports_among es)) (sym (map-append entry_view (take at entries) (e ∷ [])))
    ∙ ap (λ (x : PlanEntry). fold with_import is (imports_among (map entry_view (take at entries ++ x ∷ [])))) is_e
    ∙ ap (λ (es : List PlanEntry). fold with_import is (imports_among (map entry_view es))) (sym (take_more entries at e lt))

map_take : (n : ℕ) (entries : List PlanEntry) → map entry_view (take n entries) ≡ take n (map entry_view entries)
map_take zero entries = refl
map_take (suc n) [] = refl
map_take (suc n) (e ∷ entries) = ap (λ (es : List Entry). entry_view e ∷ es) (map_take n entries)

map_length : (entries : List PlanEntry) → length (map entry_view entries) ≡ length entries
map_length [] = refl
map_length (e ∷ entries) = ap suc (map_length entries)

-- the entries in front of the last
pub before_last : (entries : List PlanEntry) (n : ℕ) → n ≡ length entries - 1 → map entry_view (take n entries) ≡ before_root (map entry_view entries)
before_last entries n is = map_take n entries ∙ ap (λ k. take k (map entry_view entries)) (is ∙ ap (λ k. k - 1) (sym (map_length entries)))
