-- What the index spaces number, one item after another.
use Rattle.std.proofs.Common.{◌≡◌, ◌∙◌, sym, ap, refl, eqb, cond, true, false, Bool, ℕ, ◌+◌, List, [], ◌∷◌, ◌++◌, length, map, Option, Some, None, slice_get, filter, option_and_then}
use Rattle.std.specs.Prelude.{◌==◌}
use Rattle.std.proofs.lemmas.Bool.{eq-eqb}
use Rattle.std.proofs.lemmas.List.{map-append, length-append}
use Rattle.std.proofs.lemmas.List.Elements.{filter-append}
use Rattle.std.proofs.lemmas.List.Sums.{sum_by-append}
use Rattle.comp_format.specs.declared.types.Sort.{Sort}
use Rattle.comp_format.specs.Items.{ItemTree}
use Rattle.comp_format.specs.Spaces.{space_of}
use Rattle.comp_encoder.specs.Writing.{item_sort, numbered, numbers}
use Rattle.comp_scope.specs.Image.{Progress, Indexed, seen, seen_all, space}
use Rattle.compose_image.proofs.ListLaws.{still_at, last_at}

abbrev pub Numbering : Type 0
Numbering = List (Sort × Indexed)

abbrev is_of : Sort → Sort × Indexed → Bool
is_of kind e = space_of e.0 == space_of kind

-- one item more, in the index space of its sort and in the others
abbrev one : Sort → Sort → Indexed → List Indexed
one kind of x = cond (eqb (space_of of) (space_of kind)) (x ∷ []) []

pushed : (kind : Sort) (ns : Numbering) (of : Sort) (x : Indexed)
    → space kind (ns ++ (of, x) ∷ []) ≡ space kind ns ++ one kind of x
pushed kind ns of x =
    ap (map (λ (e : Sort × Indexed). e.1)) (filter-append (is_of kind) ns ((of, x) ∷ []))
    ∙ map-append (λ (e : Sort × Indexed). e.1) (filter (is_of kind) ns) (filter (is_of kind) ((of, x) ∷ []))
    ∙ ap (λ xs. space kind ns ++ xs) (by (eqb (space_of of) (space_of kind)))
  where
    by : (b : Bool) → map (λ (e : Sort × Indexed). e.1) (cond b ((of, x) ∷ []) []) ≡ cond b (x ∷ []) []
    by true = refl
    by false = refl

-- what stands at an index of a sort
abbrev pub Stands : Numbering → Sort → ℕ → Indexed → Type 0
Stands ns kind index x = slice_get (space kind ns) index ≡ Some x

-- what was numbered stays where it is
pub record Stays (ns ms : Numbering) : Type 0 where
  pub still : (kind : Sort) (index : ℕ) (x : Indexed) → Stands ns kind index x → Stands ms kind index x

pub stays_here : (ns : Numbering) → Stays ns ns
stays_here ns = record { still = λ kind index x h. h }

pub stays_on : (ns ms ks : Numbering) → Stays ns ms → Stays ms ks → Stays ns ks
stays_on ns ms ks a b = record { still = λ kind index x h. b.still kind index x (a.still kind index x h) }

pub stays_pushed : (ns : Numbering) (of : Sort) (x : Indexed) → Stays ns (ns ++ (of, x) ∷ [])
stays_pushed ns of x = record {
  still = λ kind index y h.
      ap (λ xs. slice_get xs index) (pushed kind ns of x) ∙ still_at (space kind ns) (one kind of x) index y h;
}

-- each index space is as long as items count
pub record Counts (items : List ItemTree) (ns : Numbering) : Type 0 where
  pub counted : (kind : Sort) → length (space kind ns) ≡ numbered kind items

pub last_stands : (items : List ItemTree) (ns : Numbering) (of : Sort) (x : Indexed) → Counts items ns
    → Stands (ns ++ (of, x) ∷ []) of (numbered of items) x
last_stands items ns of x h =
    ap (λ xs. slice_get xs (numbered of items))
    (pushed of ns of x ∙ ap (λ b. space of ns ++ cond b (x ∷ []) []) (eq-eqb (space_of of) (space_of of) refl))
    ∙ last_at (space of ns) x (numbered of items) (h.counted of)

-- one item more is counted in the index space of its sort
pub numbered_more : (kind : Sort) (items : List ItemTree) (item : ItemTree) (of : Sort) → item_sort item ≡ Some of
    → numbered kind (items ++ item ∷ []) ≡ numbered kind items + cond (eqb (space_of of) (space_of kind)) 1 0
numbered_more kind items item of is =
    sum_by-append _ items (item ∷ [])
    ∙ ap (λ sort. numbered kind items + (0 + cond (numbers (space_of kind) sort) 1 0)) is
    ∙ ap (λ n. numbered kind items + n) (by (eqb (space_of of) (space_of kind)))
  where
    by : (b : Bool) → 0 + cond b 1 0 ≡ cond b 1 0
    by true = refl
    by false = refl

pub counts_more : (items : List ItemTree) (ns : Numbering) (item : ItemTree) (of : Sort) (x : Indexed)
    → item_sort item ≡ Some of → Counts items ns → Counts (items ++ item ∷ []) (ns ++ (of, x) ∷ [])
counts_more items ns item of x is h = record {
  counted = λ kind.
      ap length (pushed kind ns of x) ∙ length-append (space kind ns) (one kind of x)
      ∙ (λ i. h.counted kind i + by (eqb (space_of of) (space_of kind)) i) ∙ sym (numbered_more kind items item of is);
}
  where
    by : (b : Bool) → length (cond b (x ∷ []) []) ≡ cond b 1 0
    by true = refl
    by false = refl

-- ---- items that are seen

module _ (is_component : List ℕ → Bool) where
  pub seen_append : (p : Progress) (xs ys : List ItemTree)
      → seen_all is_component p (xs ++ ys) ≡ option_and_then (λ q. seen_all is_component q ys)
      (seen_all is_component p xs)
  unfolding seen_all
  seen_append p [] ys = refl
  seen_append p (x ∷ xs) ys = by (seen is_component p x) (λ q. seen_append q xs ys)
    where
      by : (o : Option Progress)
          → ((q : Progress)
          → seen_all is_component q (xs ++ ys) ≡ option_and_then (λ q. seen_all is_component q ys)
          (seen_all is_component q xs))
          → option_and_then (λ next. seen_all is_component next (xs ++ ys)) o ≡ option_and_then
          (λ q. seen_all is_component q ys) (option_and_then (λ next. seen_all is_component next xs) o)
      by None h = refl
      by (Some q) h = h q

  pub seen_next : (start p q : Progress) (items : List ItemTree) (item : ItemTree)
      → seen_all is_component start items ≡ Some p → seen is_component p item ≡ Some q
      → seen_all is_component start (items ++ item ∷ []) ≡ Some q
  unfolding seen_all
  seen_next start p q items item e f =
      seen_append start items (item ∷ []) ∙ ap (option_and_then (λ n. seen_all is_component n (item ∷ []))) e
      ∙ ap (option_and_then (λ next. seen_all is_component next [])) f
