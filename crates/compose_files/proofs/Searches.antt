-- Searches through lists, from the front.
use Rattle.std.proofs.Common.{◌≡◌, ◌<◌, ℕ, suc, zero, Bool, true, false, cond, List, [], ◌∷◌, length, map, take, find, get_or, Some, None, option_map, slice_get, refl, sym, ap, ◌∙◌, arith}
use Rattle.compose_files.specs.Built.{Sources}
use Rattle.compose_files.specs.Paths.{joined, wasm_in}
use Rattle.compose_files.specs.Refusals.{candidates}

some_is : {A : Type 0} (x y : A) → Some x ≡ Some y → x ≡ y
some_is x y e = cc

-- what passes behind some that do not is found
pub find_here : {A : Type 0} (p : A → Bool) (xs : List A) (n : ℕ) (x : A) → find p (take n xs) ≡ None → slice_get xs n ≡ Some x → p x ≡ true → find p xs ≡ Some x
find_here p [] n x none at is = absurd cc
find_here p (y ∷ xs) zero x none at is =
    let same : y ≡ x = some_is y x at in
    ap (λ b. cond b (Some y) (find p xs)) (ap p same ∙ is) ∙ ap (λ z. Some z) same
find_here {A} p (y ∷ xs) (suc n) x none at is = by (p y) none (λ h. find_here p xs n x h at is)
  where
    by : (b : Bool) → cond b (Some y) (find p (take n xs)) ≡ None → (find p (take n xs) ≡ None → find p xs ≡ Some x) → cond b (Some y) (find p xs) ≡ Some x
    by true h later = absurd cc
    by false h later = later h

-- one more that does not pass
pub find_past : {A : Type 0} (p : A → Bool) (xs : List A) (n : ℕ) (x : A) → find p (take n xs) ≡ None → slice_get xs n ≡ Some x → p x ≡ false → find p (take (suc n) xs) ≡ None
find_past p [] n x none at is = absurd cc
find_past p (y ∷ xs) zero x none at is = ap (λ b. cond b (Some y) None) (ap p (some_is y x at) ∙ is)
find_past {A} p (y ∷ xs) (suc n) x none at is = by (p y) none (λ h. find_past p xs n x h at is)
  where
    by : (b : Bool) → cond b (Some y) (find p (take n xs)) ≡ None → (find p (take n xs) ≡ None → find p (take (suc n) xs) ≡ None) → cond b (Some y) (find p (take (suc n) xs)) ≡ None
    by true h later = absurd cc
    by false h later = later h

-- ---- places of lists that are seen in another way

pub slice_get-map : {X Y : Type 0} (f : X → Y) (xs : List X) (i : ℕ) → slice_get (map f xs) i ≡ option_map f (slice_get xs i)
slice_get-map f [] i = refl
slice_get-map f (x ∷ xs) zero = refl
slice_get-map f (x ∷ xs) (suc i) = slice_get-map f xs i

pub entry_at : {X : Type 0} (xs : List X) (i : ℕ) (x : X) → i < length xs → x ≡ get_or xs i x → slice_get xs i ≡ Some x
entry_at [] i x less is = absurd (omega arith)
entry_at (y ∷ xs) zero x less is = ap (λ z. Some z) (sym is)
entry_at (y ∷ xs) (suc i) x less is = entry_at xs i x (omega arith) is

-- the candidate in the folder of the configuration
pub candidate_first : (s : Sources) (name : List ℕ) → slice_get (candidates s name) 0 ≡ Some (wasm_in name s.dir)
candidate_first s name = refl

-- the candidate in a folder in which components are looked for
pub candidate_at : (s : Sources) (name folder file : List ℕ) (paths : List (List ℕ)) (i : ℕ) → paths ≡ s.settings.search_paths → i < length paths → folder ≡ get_or paths i folder → file ≡ wasm_in name (joined s.dir folder)
    → slice_get (candidates s name) (suc i) ≡ Some file
candidate_at s name folder file paths i same less is file_is =
    let at = ap (λ (xs : List (List ℕ)). slice_get xs i) (sym same) ∙ entry_at paths i folder less is in
    slice_get-map (wasm_in name) (map (joined s.dir) s.settings.search_paths) i
    ∙ ap (option_map (wasm_in name)) (slice_get-map (joined s.dir) s.settings.search_paths i ∙ ap (option_map (joined s.dir)) at) ∙ ap (λ p. Some p) (sym file_is)
