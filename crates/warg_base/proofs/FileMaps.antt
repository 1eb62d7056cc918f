-- A tree map of files, as the finite map that clauses speak of.
use Rattle.std.proofs.Common.{◌≡◌, ℕ, Bool, true, false, not, ◌||◌, ◌&&◌, T, nat_eq, List, [], ◌∷◌, ◌++◌, filter, map, codes, bytes_eq, Option, Some, None, is_some, option_copied, Bor, cond, inl, refl, sym, ap, subst, ◌∙◌}
use Rattle.std.specs.declared.cmp.Ordering.{Ordering}
use Rattle.std.specs.declared.cmp.Ordering.TheVariants.{Less, Equal, Greater}
use Rattle.std.specs.Ordering.{nat_cmp, eq_by_cmp, is_eq, is_lt}
use Rattle.std.specs.Cmp.{eq_by_cmp_equiv}
use Rattle.std.specs.Cmp.Lexicographic.{slice_cmp, nat_list_cmp_total}
use Rattle.std.specs.List.{AllByRecursion, starts_with}
use Rattle.std.specs.List.Sorted.{IsStrictlySortedBy}
use Rattle.std.specs.FinMap as map
use Rattle.std.specs.FinMap.{find, is_sorted, nat_cmp-IsAntisymmetric, slice_cmp-IsAntisymmetric}
use Rattle.std.specs.BTreeMap as tree
use Rattle.std.specs.BTreeMap.{BTreeMap, is_at, keys, Updates}
use Rattle.std.specs.Map.{lookup}
use Rattle.warg_base.specs.Files.{FileMap, LeavesPartlyRemoved, LeavesPartlyWritten, file_at, is_under, paths_under, with_file, without_path}

-- paths are one where their order says so
one_path : (p q : List ℕ) → slice_cmp nat_cmp p q ≡ Equal → p ≡ q
one_path = slice_cmp-IsAntisymmetric nat_cmp-IsAntisymmetric

find-lookup : (path : List ℕ) (es : List (List ℕ × List ℕ)) → find (slice_cmp nat_cmp) path es ≡ lookup (is_at (slice_cmp nat_cmp path)) es
find-lookup path [] = refl
find-lookup path (e ∷ es) = ap (cond (is_at (slice_cmp nat_cmp path) e.0) (Some e.1)) (find-lookup path es)

-- a file is what the tree has at its path
pub file_at-tree : (held : BTreeMap (List ℕ) (List ℕ)) (path : List ℕ) → file_at (map.from_entries held.entries) path ≡ tree.get (slice_cmp nat_cmp) held path
file_at-tree held path = map.get-from_entries nat_list_cmp_total held.entries path ∙ find-lookup path held.entries

-- the tree after an insertion has the file, and the others as before
pub with_file-tree : (old new : BTreeMap (List ℕ) (List ℕ)) (path bytes : List ℕ) → Updates (slice_cmp nat_cmp) old new path (Some bytes) → map.from_entries new.entries ≡ with_file (map.from_entries old.entries) path bytes
with_file-tree old new path bytes updates =
    map.same_map nat_list_cmp_total one_path _ _ (λ q.
    file_at-tree new q ∙ updates.0 q ∙ ap (λ b. cond b (Some bytes) (tree.get (slice_cmp nat_cmp) old q)) ((eq_by_cmp_equiv nat_list_cmp_total).symm path q)
    ∙ ap (cond (eq_by_cmp (slice_cmp nat_cmp) q path) (Some bytes)) (sym (file_at-tree old q)) ∙ sym (map.get-insert nat_list_cmp_total (map.from_entries old.entries) path bytes q))

-- the first entry of a path among those whose paths pass a test
module _ (passes : List ℕ → Bool) (path : List ℕ) where
  abbrev found : List (List ℕ × List ℕ) → Option (List ℕ)
  found es = find (slice_cmp nat_cmp) path es

  abbrev kept : List (List ℕ × List ℕ) → List (List ℕ × List ℕ)
  kept es = filter (λ e. passes e.0) es

  tied : (r : Ordering) → is_eq r ≡ true → r ≡ Equal
  tied Less e = absurd cc
  tied Equal e = refl
  tied Greater e = absurd cc

  nothing : (b : Bool) → found [] ≡ cond b (found []) None
  nothing true = refl
  nothing false = refl

  -- an entry of another path
  other : (b : Bool) (key value : List ℕ) (es : List (List ℕ × List ℕ)) → eq_by_cmp (slice_cmp nat_cmp) path key ≡ false → found (kept es) ≡ cond (passes path) (found es) None → found (cond b ((key, value) ∷ kept es) (kept es)) ≡ cond (passes path) (found es) None
  other true key value es t rest = ap (λ c. cond c (Some value) (found (kept es))) t ∙ rest
  other false key value es t rest = rest

  -- an entry of the path
  own : (b : Bool) (key value : List ℕ) (es : List (List ℕ × List ℕ)) → eq_by_cmp (slice_cmp nat_cmp) path key ≡ true → found (kept es) ≡ cond b (found es) None → found (cond b ((key, value) ∷ kept es) (kept es)) ≡ cond b (Some value) None
  own true key value es t rest = ap (λ c. cond c (Some value) (found (kept es))) t
  own false key value es t rest = rest

  own_path : (key value : List ℕ) (es : List (List ℕ × List ℕ)) → path ≡ key → eq_by_cmp (slice_cmp nat_cmp) path key ≡ true → found (kept es) ≡ cond (passes path) (found es) None → found (cond (passes key) ((key, value) ∷ kept es) (kept es)) ≡ cond (passes path) (Some value) None
  own_path key value es same t rest = ap (λ k. found (cond (passes k) ((key, value) ∷ kept es) (kept es))) (sym same) ∙ own (passes path) key value es t rest

  more : (key value : List ℕ) (es : List (List ℕ × List ℕ)) → found (kept es) ≡ cond (passes path) (found es) None → found (cond (passes key) ((key, value) ∷ kept es) (kept es)) ≡ cond (passes path) (cond (eq_by_cmp (slice_cmp nat_cmp) path key) (Some value) (found es)) None
  more key value es rest =
      elim (eq_by_cmp (slice_cmp nat_cmp) path key) as (λ t. eq_by_cmp (slice_cmp nat_cmp) path key ≡ t → found (cond (passes key) ((key, value) ∷ kept es) (kept es)) ≡ cond (passes path) (cond t (Some value) (found es)) None) [
        | true ↦ λ t. own_path key value es (one_path path key (tied _ t)) t rest
        | false ↦ λ t. other (passes key) key value es t rest
      ] refl

  find-kept : (es : List (List ℕ × List ℕ)) → found (kept es) ≡ cond (passes path) (found es) None
  find-kept [] = nothing (passes path)
  find-kept (e ∷ es) = more e.0 e.1 es (find-kept es)

-- the files of a tree whose paths pass a test
pub retain-tree : (passes : List ℕ → Bool) (es : List (List ℕ × List ℕ)) → map.from_entries {R = slice_cmp nat_cmp} (filter (λ e. passes e.0) es) ≡ map.retain_keys (map.from_entries {R = slice_cmp nat_cmp} es) passes
retain-tree passes es =
    map.same_map nat_list_cmp_total one_path _ _ (λ q.
    map.get-from_entries nat_list_cmp_total (filter (λ e. passes e.0) es) q ∙ find-kept passes q es
    ∙ ap (λ o. cond (passes q) o None) (sym (map.get-from_entries nat_list_cmp_total es q))
    ∙ sym (map.get-retain_keys (map.from_entries es) passes q (λ x tie. ap passes (sym (one_path q x tie)))))

-- entries in order are those of their map
module _ where
  both : (a b : Bool) → T a → T b → T (a && b)
  both true b p q = q
  both false b p q = absurd p

  is_less : (r : Ordering) → r ≡ Less → T (is_lt r)
  is_less r e = subst (λ o. T (is_lt o)) (sym e) tt

  below : (k : List ℕ) (es : List (List ℕ × List ℕ)) → AllByRecursion (λ y. slice_cmp nat_cmp k y ≡ Less) (map (λ e. e.0) es) → T (map.Entries.below_all (slice_cmp nat_cmp) k es)
  below k [] h = tt
  below k (e ∷ es) h = both _ _ (is_less _ h.0) (below k es h.1)

  ordered : (es : List (List ℕ × List ℕ)) → IsStrictlySortedBy (slice_cmp nat_cmp) (map (λ e. e.0) es) → T (is_sorted (slice_cmp nat_cmp) es)
  unfolding IsStrictlySortedBy
  ordered [] h = tt
  ordered (e ∷ es) h = both _ _ (below e.0 es h.0) (ordered es h.1)

  pub entries-tree : (held : BTreeMap (List ℕ) (List ℕ)) → IsStrictlySortedBy (slice_cmp nat_cmp) (keys held) → map.entries (map.from_entries {R = slice_cmp nat_cmp} held.entries) ≡ held.entries
  entries-tree held h =
      let m : FileMap = map.from_entries held.entries in
      map.Entries.same_entries (slice_cmp nat_cmp) nat_list_cmp_total one_path (map.entries m) held.entries (map.entries_sorted m) (ordered held.entries h) (λ q.
      sym (map.get-entries m q) ∙ map.get-from_entries nat_list_cmp_total held.entries q)

-- the files of a tree without those of a path, whose folder is given
pub without-tree : (es left : List (List ℕ × List ℕ)) (path folder : List ℕ) → folder ≡ path ++ codes "/" → left ≡ filter (λ e. not (bytes_eq e.0 path || starts_with nat_eq e.0 folder)) es → map.from_entries {R = slice_cmp nat_cmp} left ≡ without_path (map.from_entries es) path
without-tree es left path folder is kept =
    ap (λ es. map.from_entries {R = slice_cmp nat_cmp} es) kept
    ∙ retain-tree (λ q. not (bytes_eq q path || starts_with nat_eq q folder)) es
    ∙ ap (λ f. map.retain_keys (map.from_entries {R = slice_cmp nat_cmp} es) (λ q. not (bytes_eq q path || starts_with nat_eq q f))) is

-- the paths of a tree under a folder
pub listed-tree : (held : BTreeMap (List ℕ) (List ℕ)) (path folder : List ℕ) (paths : List (List ℕ)) → IsStrictlySortedBy (slice_cmp nat_cmp) (keys held) → folder ≡ path ++ codes "/" → paths ≡ filter (λ q. starts_with nat_eq q folder) (keys held) → paths ≡ paths_under (map.from_entries held.entries) path
listed-tree held path folder paths sorted is found =
    found
    ∙ ap (λ f. filter (λ q. starts_with nat_eq q f) (keys held)) is
    ∙ ap (λ (es : List (List ℕ × List ℕ)). filter (is_under path) (map (λ e. e.0) es)) (sym (entries-tree held sorted))

is_some-copied : {X : Type 0} (o : Option (Bor X)) → is_some o ≡ is_some (option_copied o)
is_some-copied None = refl
is_some-copied (Some x) = refl

-- whether the tree has a path
pub has_file-tree : (held : BTreeMap (List ℕ) (List ℕ)) (path : List ℕ) (o : Option (Bor (List ℕ))) → option_copied o ≡ tree.get (slice_cmp nat_cmp) held path → is_some o ≡ is_some (file_at (map.from_entries held.entries) path)
has_file-tree held path o is = is_some-copied o ∙ ap is_some (is ∙ sym (file_at-tree held path))

-- a write that changed nothing
pub nothing_written : (old new : FileMap) (path bytes : List ℕ) → new ≡ old → LeavesPartlyWritten (Some old) (Some new) path bytes
nothing_written old new path bytes same = (new, refl, inl same)

or_true : (b : Bool) → (b || true) ≡ true
or_true true = refl
or_true false = refl

-- a removal that changed nothing
pub nothing_removed : (old new : FileMap) (path : List ℕ) → new ≡ old → LeavesPartlyRemoved (Some old) (Some new) path
nothing_removed old new path same = (
  new,
  refl,
  (
    λ _. true,
    same
        ∙ sym (map.same_map nat_list_cmp_total one_path _ _ (λ q.
        map.get-retain_keys old (λ x. not (bytes_eq x path || is_under path x) || true) q (λ x tie. or_true _ ∙ sym (or_true _))
        ∙ ap (λ b. cond b (map.get old q) None) (or_true _))),
  ),
)
