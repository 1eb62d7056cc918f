-- A file that is looked for in a folder and in those above it.
use Rattle.std.proofs.Common.{◌≡◌, ◌<◌, ◌≤◌, ◌+◌, ℕ, zero, suc, Bool, true, false, cond, List, [], ◌∷◌, ◌++◌, length, take, map, codes, Option, Some, None, option_map, refl, sym, ap, subst, ◌∙◌, arith, length-append}
use Rattle.std.specs.Prelude.{IfSome, MatchOption, is_some}
use Rattle.std.specs.Path.{path_bytes, path_join, path_parent, path_components}
use Rattle.std.specs.Path.Iter.{max_ancestors}
use Rattle.std.specs.declared.path.Path.{Path}
use Rattle.std.proofs.Math.Nat.{lt_of_not-le}
use Rattle.std.proofs.lemmas.List.{length-take, take_all}
use Rattle.std.proofs.lemmas.Paths.{path_components_parent, take_parent}
use Rattle.warg_base.specs.Files.{FileMap, file_at}
use Rattle.warg_config.specs.ConfigFile.{first_file, local_paths}
use Rattle.warg_config.specs.Paths.{folders_from, folders_up}

-- ---- the folders that are left

own_components : (path : List ℕ) (last : List ℕ) → path_components path ≡ path_components path ++ last ∷ [] → ⊥
own_components path last e = absurd (omega (arith, ap length e, length-append (path_components path) (last ∷ [])))

shorter_dir : (path dir : List ℕ) → path_parent path ≡ Some dir → length dir < length path
shorter_dir path dir e = lt_of_not-le (λ le.
    let same : path ≡ dir = sym (take_all (length dir) path le) ∙ take_parent path dir e in
    let more = path_components_parent path dir e in
    own_components path more.0 (more.1 ∙ ap (λ d. path_components d ++ more.0 ∷ []) (sym same)))

shorter : (path : List ℕ) → max_ancestors (path_parent path) ≤ length path
shorter path = go (path_parent path) refl
  where
    go : (parent : Option (List ℕ)) → path_parent path ≡ parent → max_ancestors parent ≤ length path
    go None e = omega arith
    go (Some dir) e = omega (arith, shorter_dir path dir e)

-- a larger bound adds none
same_folders : (a b : ℕ) (next : Option (List ℕ)) → max_ancestors next ≤ a → max_ancestors next ≤ b → folders_from a next ≡ folders_from b next
same_folders zero zero None la lb = refl
same_folders zero (suc b) None la lb = refl
same_folders (suc a) zero None la lb = refl
same_folders (suc a) (suc b) None la lb = refl
same_folders zero b (Some p) la lb = absurd (omega (arith, la))
same_folders (suc a) zero (Some p) la lb = absurd (omega (arith, lb))
same_folders (suc a) (suc b) (Some p) la lb =
    let le = shorter p in
    ap (λ l. p ∷ l) (same_folders a b (path_parent p) (omega (arith, le, la)) (omega (arith, le, lb)))

-- the folders from the one that comes next on
abbrev pub folders_left : Option (List ℕ) → List (List ℕ)
folders_left next = folders_from (max_ancestors next) next

left_one : (folder : List ℕ) → folders_left (Some folder) ≡ folder ∷ folders_left (path_parent folder)
left_one folder =
    let le = shorter folder in
    same_folders (length folder + 1) (suc (length folder)) (Some folder) (omega arith) (omega arith)
    ∙ ap (λ l. folder ∷ l) (same_folders (length folder) (max_ancestors (path_parent folder)) (path_parent folder) le (omega arith))

-- ---- the search that is left

-- the path of the file in a folder
abbrev pub local_path : List ℕ → List ℕ
local_path folder = path_join folder (codes "warg-config.json")

abbrev pub search_left : FileMap → Option (List ℕ) → Option (List ℕ)
search_left held next = first_file held (map local_path (folders_left next))

starts : (held : FileMap) (cwd : List ℕ) → search_left held (Some cwd) ≡ first_file held (local_paths cwd)
unfolding folders_up
starts held cwd =
    ap (λ l. first_file held (map local_path l)) (same_folders (length cwd + 1) (suc (length cwd)) (Some cwd) (omega arith) (omega arith))

looked_at : (held : FileMap) (folder : List ℕ) → search_left held (Some folder)
    ≡ cond (is_some (file_at held (local_path folder))) (Some (local_path folder)) (search_left held (path_parent folder))
looked_at held folder = ap (λ l. first_file held (map local_path l)) (left_one folder)

-- ---- the loop

-- the folder that is looked at was the next, and its parent is the next
pub turn : (next after : Option (List ℕ)) (item : Option Path) (folder : Path) → item ≡ Some folder
    → (option_map path_bytes item ≡ next) × MatchOption item (after ≡ None) (λ p. after ≡ path_parent (path_bytes p))
    → (next ≡ Some (path_bytes folder)) × (after ≡ path_parent (path_bytes folder))
turn next after item folder is steps =
    (sym steps.0 ∙ ap (option_map path_bytes) is, subst (λ i. MatchOption i (after ≡ None) (λ p. after ≡ path_parent (path_bytes p))) is steps.1)

-- none was the next
pub over : (next : Option (List ℕ)) (item : Option Path) → item ≡ None → option_map path_bytes item ≡ next → next ≡ None
over next item is steps = sym steps ∙ ap (option_map path_bytes) is

-- what is left to look at has the file that all of it has
abbrev pub Searches : Option FileMap → Option (List ℕ) → List ℕ → Type 0
Searches told next cwd = IfSome told (λ held. search_left held next ≡ first_file held (local_paths cwd))

pub searches_all : (told : Option FileMap) (next : Option (List ℕ)) (cwd : List ℕ) → next ≡ Some cwd → Searches told next cwd
searches_all None next cwd begun = tt
searches_all (Some held) next cwd begun = ap (search_left held) begun ∙ starts held cwd

pub searches_on : (told now : Option FileMap) (next after : Option (List ℕ)) (cwd folder asked : List ℕ) (there : Bool)
    → now ≡ told → next ≡ Some folder → after ≡ path_parent folder → asked ≡ local_path folder → there ≡ false
    → IfSome now (λ held. there ≡ is_some (file_at held asked)) → Searches told next cwd → Searches told after cwd
searches_on None now next after cwd folder asked there same here above is missing answer searches = tt
searches_on (Some held) now next after cwd folder asked there same here above is missing answer searches =
    let known : there ≡ is_some (file_at held asked) = subst (λ n. IfSome n (λ held. there ≡ is_some (file_at held asked))) same answer in
    let absent : is_some (file_at held (local_path folder)) ≡ false = ap (λ p. is_some (file_at held p)) (sym is) ∙ sym known ∙ missing in
    ap (search_left held) above
    ∙ sym (ap (λ b. cond b (Some (local_path folder)) (search_left held (path_parent folder))) absent)
    ∙ sym (looked_at held folder) ∙ sym (ap (search_left held) here) ∙ searches

pub finds_here : (told now : Option FileMap) (next : Option (List ℕ)) (cwd folder asked path : List ℕ) (there : Bool)
    → now ≡ told → next ≡ Some folder → asked ≡ local_path folder → path ≡ local_path folder → there ≡ true
    → IfSome now (λ held. there ≡ is_some (file_at held asked)) → Searches told next cwd
    → IfSome told (λ held. first_file held (local_paths cwd) ≡ Some path)
finds_here None now next cwd folder asked path there same here is found stands answer searches = tt
finds_here (Some held) now next cwd folder asked path there same here is found stands answer searches =
    let known : there ≡ is_some (file_at held asked) = subst (λ n. IfSome n (λ held. there ≡ is_some (file_at held asked))) same answer in
    let present : is_some (file_at held (local_path folder)) ≡ true = ap (λ p. is_some (file_at held p)) (sym is) ∙ sym known ∙ stands in
    sym searches ∙ ap (search_left held) here ∙ looked_at held folder
    ∙ ap (λ b. cond b (Some (local_path folder)) (search_left held (path_parent folder))) present ∙ ap Some (sym found)

pub finds_none : (told : Option FileMap) (next : Option (List ℕ)) (cwd : List ℕ) → next ≡ None → Searches told next cwd
    → IfSome told (λ held. first_file held (local_paths cwd) ≡ None)
finds_none None next cwd ended searches = tt
finds_none (Some held) next cwd ended searches = sym searches ∙ ap (search_left held) ended
