-- Places, the ways between them, and paths that are written as ways.
use Rattle.std.proofs.Common.{◌≡◌, ◌≢◌, ◌<◌, ◌≤◌, ◌+◌, ◌-◌, ℕ, zero, suc, Bool, true, false, not, ◌&&◌, ◌||◌, ◌==◌, cond, List, [], ◌∷◌, ◌++◌, length, take, drop, get_or, bytes_eq, codes, refl, sym, ap, subst, ◌∙◌, arith, append_assoc, length-append}
use Rattle.std.specs.Prelude.{fold, replicate, filter, slice_index, flat_map, ⊤}
use Rattle.std.specs.List.{AllByRecursion, join_by}
use Rattle.std.specs.Path.{slash, root_dir, cur_dir, parent_dir, has_no_slash, is_name, is_dot_at, IsRelative, first_piece, later_pieces, path_names, path_components, leading_components, path_join, with_separator}
use Rattle.std.proofs.Math.Seq.{take-append-add, take-append_seam}
use Rattle.std.proofs.lemmas.List.{append-nil, drop_more, length-drop, length-map, length-take}
use Rattle.std.proofs.lemmas.List.Elements.{filter-append}
use Rattle.std.proofs.lemmas.List.Sums.{fold-append}
use Rattle.std.proofs.lemmas.Paths.{path_join_relative, path_components_join}
use Rattle.std.proofs.lemmas.Slice.Eq.{bytes_eq-Decides}
use Rattle.std.specs.Borrow.{Bor}
use Rattle.warg_config.specs.Answers.{names_of}
use Rattle.warg_config.specs.Paths.{Place, above, step, place_of, up, way, path_of, relative_to}

by_test : {A : Type 0} (P : A → Type 0) (b : Bool) (x y : A) → (b ≡ true → P x) → (b ≡ false → P y) → P (cond b x y)
by_test P true x y when unless = when refl
by_test P false x y when unless = unless refl

either : {P : Type 0} (b : Bool) → (b ≡ true → P) → (b ≡ false → P) → P
either true when unless = when refl
either false when unless = unless refl

own_rest : (s own : Bool) → (not s && own) ≡ true → (s ≡ false) × (own ≡ true)
own_rest true own h = absurd cc
own_rest false own h = (refl, h)

-- ---- the names between the slashes of two paths

first_append : (xs ys : List ℕ) → first_piece (xs ++ slash ∷ ys) ≡ first_piece xs
first_append [] ys = refl
first_append (x ∷ xs) ys = ap (λ l. cond (x == slash) [] (x ∷ l)) (first_append xs ys)

later_append : (xs ys : List ℕ) → later_pieces (xs ++ slash ∷ ys) ≡ later_pieces xs ++ first_piece ys ∷ later_pieces ys
later_append [] ys = refl
later_append (x ∷ xs) ys =
    either (x == slash) (λ e. rw e (ap (λ l. l ∷ later_pieces (xs ++ slash ∷ ys)) (first_append xs ys) ∙ ap (λ l. first_piece xs ∷ l) (later_append xs ys)))
    (λ e. rw e (later_append xs ys))

path_names-append : (xs ys : List ℕ) → path_names (xs ++ slash ∷ ys) ≡ path_names xs ++ path_names ys
unfolding path_names
path_names-append xs ys =
    ap (λ l. filter is_name (l ∷ later_pieces (xs ++ slash ∷ ys))) (first_append xs ys)
    ∙ ap (λ l. filter is_name (first_piece xs ∷ l)) (later_append xs ys)
    ∙ filter-append is_name (first_piece xs ∷ later_pieces xs) (first_piece ys ∷ later_pieces ys)

path_names-nil : path_names [] ≡ []
unfolding path_names
path_names-nil = refl

path_components_is : (path : List ℕ) → path_components path ≡ leading_components path ++ path_names path
unfolding path_components
path_components_is path = refl

path_components-nil : path_components [] ≡ []
unfolding path_components path_names
path_components-nil = refl

-- ---- names

-- a part of a path: not empty, not `.`, and with no slash
pub record IsPart (part : List ℕ) : Type 0 where
  pub named : is_name part ≡ true
  pub own : has_no_slash part ≡ true

-- a part that is not `..`
pub record IsPlain (name : List ℕ) : Type 0 where
  pub part : IsPart name
  pub stays : bytes_eq name parent_dir ≡ false

not_root : (part : List ℕ) → has_no_slash part ≡ true → bytes_eq part root_dir ≡ false
not_root [] own = refl
not_root (b ∷ bs) own = go (b == slash) own
  where
    go : (s : Bool) → (not s && has_no_slash bs) ≡ true → (s && bytes_eq bs []) ≡ false
    go true h = absurd cc
    go false h = refl

not_cur : (part : List ℕ) → is_name part ≡ true → bytes_eq part cur_dir ≡ false
not_cur part named = go (length part == 0) (bytes_eq part cur_dir) named
  where
    go : (e c : Bool) → not (e || c) ≡ true → c ≡ false
    go true c h = absurd cc
    go false true h = absurd cc
    go false false h = refl

-- ---- steps

step_in : (place : Place) (part : List ℕ) → IsPlain part → step place part ≡ place ++ part ∷ []
step_in place part is = rw (is.stays, not_root part is.part.own, not_cur part is.part.named) refl

steps_in : (place names : Place) → AllByRecursion IsPlain names → fold step place names ≡ place ++ names
steps_in place [] are = sym (append-nil place)
steps_in place (name ∷ names) are =
    ap (λ p. fold step p names) (step_in place name are.0) ∙ steps_in (place ++ name ∷ []) names are.1 ∙ append_assoc place (name ∷ []) names

steps_up : (n : ℕ) (common left : Place) → length left ≡ n → fold step (common ++ left) (replicate n parent_dir) ≡ common
steps_up zero common [] e = append-nil common
steps_up zero common (x ∷ left) e = absurd (omega (arith, e))
steps_up (suc n) common left e =
    let k : length (common ++ left) - 1 ≡ length common + n = omega (arith, length-append common left, e) in
    let once : above (common ++ left) ≡ common ++ take n left = ap (λ j. take j (common ++ left)) k ∙ take-append-add common left n in
    let rest : length (take n left) ≡ n = omega (arith, length-take n left, e) in
    ap (λ p. fold step p (replicate n parent_dir)) once ∙ steps_up n common (take n left) rest

-- ---- ways

same_name : (a b : List ℕ) → bytes_eq a b ≡ true → a ≡ b
same_name a b e = (bytes_eq-Decides a b).0 e

-- the way leads there
pub way_leads : (common from to : Place) → AllByRecursion IsPlain to → fold step (common ++ from) (way from to) ≡ common ++ to
unfolding way
way_leads common [] to are = ap (λ p. fold step p to) (append-nil common) ∙ steps_in common to are
way_leads common (a ∷ from) [] are = steps_up (length (a ∷ from)) common (a ∷ from) refl ∙ sym (append-nil common)
way_leads common (a ∷ from) (b ∷ to) are =
    by_test (λ w. fold step (common ++ a ∷ from) w ≡ common ++ b ∷ to) (bytes_eq a b) (way from to) (up (a ∷ from) ++ b ∷ to)
    (λ same. ap (λ p. fold step p (way from to)) (sym (append_assoc common (a ∷ []) from)) ∙ way_leads (common ++ a ∷ []) from to are.1
    ∙ append_assoc common (a ∷ []) to ∙ ap (λ n. common ++ n ∷ to) (same_name a b same))
    (λ other. fold-append step (common ++ a ∷ from) (up (a ∷ from)) (b ∷ to)
    ∙ ap (λ p. fold step p (b ∷ to)) (steps_up (length (a ∷ from)) common (a ∷ from) refl) ∙ steps_in common (b ∷ to) are)

-- ---- parts

up_parts : (n : ℕ) (to : Place) → AllByRecursion IsPart to → AllByRecursion IsPart (replicate n parent_dir ++ to)
up_parts zero to are = are
up_parts (suc n) to are = (record { named = refl; own = refl }, up_parts n to are)

parts_of_plain : (names : Place) → AllByRecursion IsPlain names → AllByRecursion IsPart names
parts_of_plain [] are = tt
parts_of_plain (name ∷ names) are = (are.0.part, parts_of_plain names are.1)

way_parts : (from to : Place) → AllByRecursion IsPart to → AllByRecursion IsPart (way from to)
unfolding way
way_parts [] to are = are
way_parts (a ∷ from) [] are = subst (AllByRecursion IsPart) (append-nil (up (a ∷ from))) (up_parts (length (a ∷ from)) [] tt)
way_parts (a ∷ from) (b ∷ to) are =
    by_test (AllByRecursion IsPart) (bytes_eq a b) (way from to) (up (a ∷ from) ++ b ∷ to) (λ same. way_parts from to are.1) (λ other. up_parts (length (a ∷ from)) (b ∷ to) are)

-- ---- the parts of a path

piece_alone : (part : List ℕ) → has_no_slash part ≡ true → first_piece part ≡ part
piece_alone [] own = refl
piece_alone (b ∷ bs) own =
    let h = own_rest (b == slash) (has_no_slash bs) own in let e = h.0 in
    rw e (ap (λ l. b ∷ l) (piece_alone bs h.1))

none_later : (part : List ℕ) → has_no_slash part ≡ true → later_pieces part ≡ []
none_later [] own = refl
none_later (b ∷ bs) own =
    let h = own_rest (b == slash) (has_no_slash bs) own in let e = h.0 in
    rw e (none_later bs h.1)

one_name : (part : List ℕ) → IsPart part → path_names part ≡ part ∷ []
unfolding path_names
one_name part is = rw (piece_alone part is.own, none_later part is.own, is.named) refl

-- the names of a path that is written of parts
pub names_of_path : (parts : Place) → AllByRecursion IsPart parts → path_names (path_of parts) ≡ parts
names_of_path [] are = path_names-nil
names_of_path (x ∷ []) are = ap path_names (append-nil x) ∙ one_name x are.0
names_of_path (x ∷ y ∷ parts) are =
    path_names-append x (path_of (y ∷ parts)) ∙ ap (λ l. l ++ path_names (path_of (y ∷ parts))) (one_name x are.0) ∙ ap (λ l. x ∷ l) (names_of_path (y ∷ parts) are.1)

-- it does not begin with a slash
pub path_is_relative : (parts : Place) → AllByRecursion IsPart parts → IsRelative (path_of parts)
path_is_relative [] are = λ e. absurd cc
path_is_relative ([] ∷ parts) are = let named = are.0.named in absurd cc
path_is_relative ((b ∷ bs) ∷ parts) are = λ e. go (b == slash) are.0.own (ap (λ c. c == slash) e)
  where
    go : (s : Bool) → (not s && has_no_slash bs) ≡ true → s ≡ true → ⊥
    go true h e = absurd cc
    go false h e = absurd cc

-- ---- places

skip_leading : (place : Place) (b c : Bool) → fold step place (cond b (root_dir ∷ []) (cond c (cur_dir ∷ []) [])) ≡ place
skip_leading place true c = refl
skip_leading place false true = refl
skip_leading place false false = refl

pub place_by_names : (path : List ℕ) → place_of path ≡ fold step [] (path_names path)
unfolding place_of
place_by_names path =
    ap (fold step []) (path_components_is path) ∙ fold-append step [] (leading_components path) (path_names path)
    ∙ ap (λ p. fold step p (path_names path)) (skip_leading [] (slice_index path 0 == slash) (is_dot_at path 0))

first_own : (path : List ℕ) → has_no_slash (first_piece path) ≡ true
first_own [] = refl
first_own (b ∷ bs) =
    by_test (λ l. has_no_slash l ≡ true) (b == slash) [] (b ∷ first_piece bs) (λ e. refl) (λ e. rw e (first_own bs))

later_own : (path : List ℕ) → AllByRecursion (λ p. has_no_slash p ≡ true) (later_pieces path)
later_own [] = tt
later_own (b ∷ bs) =
    by_test (AllByRecursion (λ p. has_no_slash p ≡ true)) (b == slash) (first_piece bs ∷ later_pieces bs) (later_pieces bs) (λ e. (first_own bs, later_own bs)) (λ e. later_own bs)

named_parts : (pieces : Place) → AllByRecursion (λ p. has_no_slash p ≡ true) pieces → AllByRecursion IsPart (filter is_name pieces)
named_parts [] are = tt
named_parts (p ∷ pieces) are =
    by_test (AllByRecursion IsPart) (is_name p) (p ∷ filter is_name pieces) (filter is_name pieces) (λ named. (record { named = named; own = are.0 }, named_parts pieces are.1)) (λ e. named_parts pieces are.1)

names_are_parts : (path : List ℕ) → AllByRecursion IsPart (path_names path)
unfolding path_names
names_are_parts path = named_parts (first_piece path ∷ later_pieces path) (first_own path, later_own path)

all_take : (n : ℕ) (place : Place) → AllByRecursion IsPlain place → AllByRecursion IsPlain (take n place)
all_take zero place are = tt
all_take (suc n) [] are = tt
all_take (suc n) (x ∷ place) are = (are.0, all_take n place are.1)

all_push : (place : Place) (name : List ℕ) → AllByRecursion IsPlain place → IsPlain name → AllByRecursion IsPlain (place ++ name ∷ [])
all_push [] name are is = (is, tt)
all_push (x ∷ place) name are is = (are.0, all_push place name are.1 is)

step_plain : (place : Place) (part : List ℕ) → AllByRecursion IsPlain place → IsPart part → AllByRecursion IsPlain (step place part)
step_plain place part are is =
    by_test (AllByRecursion IsPlain) (bytes_eq part parent_dir) (above place) (cond (bytes_eq part root_dir || bytes_eq part cur_dir) place (place ++ part ∷ []))
    (λ e. all_take (length place - 1) place are)
    (λ e. by_test (AllByRecursion IsPlain) (bytes_eq part root_dir || bytes_eq part cur_dir) place (place ++ part ∷ []) (λ r. are) (λ r. all_push place part are (record { part = is; stays = e })))

steps_plain : (place parts : Place) → AllByRecursion IsPlain place → AllByRecursion IsPart parts → AllByRecursion IsPlain (fold step place parts)
steps_plain place [] are parts = are
steps_plain place (x ∷ xs) are parts = steps_plain (step place x) xs (step_plain place x are parts.0) parts.1

pub place_is_plain : (path : List ℕ) → AllByRecursion IsPlain (place_of path)
place_is_plain path = subst (AllByRecursion IsPlain) (sym (place_by_names path)) (steps_plain [] (path_names path) tt (names_are_parts path))

-- ---- a relative path

-- where a relative path leads from a folder
pub place_below : (folder path : List ℕ) → IsRelative path → place_of (path_join folder path) ≡ fold step (place_of folder) (path_names path)
unfolding place_of
place_below [] path h =
    ap place_of (path_join_relative [] path h) ∙ place_by_names path ∙ ap (λ p. fold step p (path_names path)) (sym (ap (fold step []) path_components-nil))
place_below (b ∷ bs) path h =
    ap (fold step []) (path_components_join (b ∷ bs) path (omega arith) h) ∙ fold-append step [] (path_components (b ∷ bs)) (path_names path)

pub relative_leads : (folder path : List ℕ) → place_of (path_join folder (relative_to folder path)) ≡ place_of (path_join folder path)
unfolding relative_to
relative_leads folder path =
    let from = place_of folder in
    let to = place_of (path_join folder path) in
    let plain = place_is_plain (path_join folder path) in
    let parts = way_parts from to (parts_of_plain to plain) in
    place_below folder (path_of (way from to)) (path_is_relative (way from to) parts)
    ∙ ap (fold step from) (names_of_path (way from to) parts)
    ∙ way_leads [] from to plain

-- ---- ways by places that are lent

-- both go on with one name
pub way_on : (from to : List (Bor (List ℕ))) (n : ℕ) (x y : Bor (List ℕ)) → n < length from → n < length to → bytes_eq (get_or from n x).now (get_or to n y).now ≡ true
    → way (names_of (drop n from)) (names_of (drop n to)) ≡ way (names_of (drop (n + 1) from)) (names_of (drop (n + 1) to))
unfolding way
way_on from to n x y in_from in_to same = rw (drop_more from n x in_from, drop_more to n y in_to, same) refl

-- one of them ends
pub way_down : (from to : Place) → length from ≡ 0 → way from to ≡ up from ++ to
unfolding way
way_down [] to e = refl
way_down (a ∷ from) to e = absurd (omega (arith, e))

pub way_up : (from to : Place) → length to ≡ 0 → way from to ≡ up from ++ to
unfolding way
way_up [] [] e = refl
way_up (a ∷ from) [] e = sym (append-nil (up (a ∷ from)))
way_up from (b ∷ to) e = absurd (omega (arith, e))

-- they part
pub way_apart : (from to : List (Bor (List ℕ))) (n : ℕ) (x y : Bor (List ℕ)) → n < length from → n < length to → bytes_eq (get_or from n x).now (get_or to n y).now ≡ false
    → way (names_of (drop n from)) (names_of (drop n to)) ≡ up (names_of (drop n from)) ++ names_of (drop n to)
unfolding way
way_apart from to n x y in_from in_to other = rw (drop_more from n x in_from, drop_more to n y in_to, other) refl

none_left : (xs : List (Bor (List ℕ))) (n : ℕ) → length xs ≤ n → length (names_of (drop n xs)) ≡ 0
none_left xs n le = length-map (drop n xs) (λ x. x.now) ∙ omega (arith, length-drop n xs)

pub way_from_end : (from to : List (Bor (List ℕ))) (n : ℕ) → length from ≤ n → way (names_of (drop n from)) (names_of (drop n to)) ≡ up (names_of (drop n from)) ++ names_of (drop n to)
way_from_end from to n le = way_down _ _ (none_left from n le)

pub way_to_end : (from to : List (Bor (List ℕ))) (n : ℕ) → length to ≤ n → way (names_of (drop n from)) (names_of (drop n to)) ≡ up (names_of (drop n from)) ++ names_of (drop n to)
way_to_end from to n le = way_up _ _ (none_left to n le)

-- ---- texts of names

after_names : (xs : List (Bor (List ℕ))) → flat_map (λ (x : Bor (List ℕ)). codes "/" ++ x.now) xs ≡ flat_map (λ (name : List ℕ). codes "/" ++ name) (names_of xs)
after_names [] = refl
after_names (x ∷ xs) = ap (λ l. (codes "/" ++ x.now) ++ l) (after_names xs)

pub joined_names : (xs : List (Bor (List ℕ))) → join_by (λ (x : Bor (List ℕ)). x.now) (codes "/") xs ≡ path_of (names_of xs)
joined_names [] = refl
joined_names (x ∷ xs) = ap (λ l. x.now ++ l) (after_names xs)

pub relative_is : (names from to : Place) (folder path : List ℕ) → names ≡ way from to → from ≡ place_of folder → to ≡ place_of (path_join folder path) → path_of names ≡ relative_to folder path
unfolding relative_to
relative_is names from to folder path is start end = ap path_of is ∙ ap (λ f. path_of (way f to)) start ∙ ap (λ t. path_of (way (place_of folder) t)) end
