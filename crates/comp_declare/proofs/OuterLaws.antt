-- Laws of scopes further out.
use Rattle.std.specs.Prelude.{◌≡◌, ℕ, zero, suc, ◌+◌, ◌<◌, ◌≤◌, Bool, true, false, cond, not, ◌||◌, ◌&&◌, List, [], ◌∷◌, map, length, take, slice_index_or, Ok, Err, refl, sum}
use Rattle.std.specs.List.{list_any, sum_by, fold}
use Rattle.std.proofs.Common.{sym, ◌∙◌, ap, arith}
use Rattle.warg_values.specs.Reading.{◌>>=◌}
use Rattle.comp_entity.specs.Bounds.{Index}
use Rattle.comp_entity.specs.Entity.{EntityTree, IsType, IsFunc, IsInstance, IsComponent, IsModule, IsOwnModule, TypeShapeTree}
use Rattle.comp_entity.specs.Names.{changing, deeper, entity_by, mentions_resource}
use Rattle.comp_format.specs.declared.types.Sort.{Sort}
use Rattle.comp_format.specs.declared.types.Sort.TheVariants as sort
use Rattle.comp_scope.specs.Aliases as scope
use Rattle.comp_scope.specs.Aliases.{outer_scope, may_pass, from_outside, width}
use Rattle.comp_scope.specs.Spaces.{Spaces, Standing, at_index, standing, sort_of}
use Rattle.comp_declare.specs.Outer.{AllShowSpaces, standing_outside, width_of}
use Rattle.comp_space.specs.declared.space.Space.{Space}
use Rattle.comp_space.specs.Faults.{Found}
use Rattle.comp_space.specs.SpaceViews.{ShowsSpaces}
use Rattle.comp_table.specs.Changes.{tree_by}
use Rattle.comp_table.specs.Plain.{plain_type, plain_entity}
use Rattle.comp_table.specs.StandLaws.{same_stands}
use Rattle.comp_table.specs.Trees.{PlainTree, Stands, tree_at}

module _ {B : Type 0} (now : B → Space) (ts : List PlainTree) where
  -- past the last scope
  at_past : (xs : List B) (ss : List Spaces) (i : ℕ) → AllShowSpaces ts (map now xs) ss → length xs ≤ i → at_index ss i ≡ Err Index
  at_past [] [] i shows le = refl
  at_past [] (s ∷ ss) i shows le = absurd shows
  at_past (x ∷ xs) [] i shows le = absurd shows
  at_past (x ∷ xs) (s ∷ ss) zero shows le = absurd (omega (arith, le))
  at_past (x ∷ xs) (s ∷ ss) (suc i) shows le = at_past xs ss i shows.1 (omega (arith, le))

  pub outer_past : (xs : List B) (ss : List Spaces) (i : ℕ) → AllShowSpaces ts (map now xs) ss → length xs ≤ i → outer_scope ss i ≡ Err Index
  outer_past xs ss i shows le = ap (λ r. r >>= λ spaces. Ok (record { spaces = spaces; distance = sum (map width (take i ss)); leaves_component = list_any (λ s. s.is_closed) (take i ss) })) (at_past xs ss i shows le)

  -- the scope itself, and those that are passed
  pub scope_there : (xs : List B) (ss : List Spaces) (i : ℕ) (d : B) → AllShowSpaces ts (map now xs) ss → i < length xs → Found (ShowsSpaces ts) (now (slice_index_or xs i d)) (at_index ss i)
  scope_there [] ss i d shows lt = absurd (omega (arith, lt))
  scope_there (x ∷ xs) [] i d shows lt = absurd shows
  scope_there (x ∷ xs) (s ∷ ss) zero d shows lt = record { value = s; given_is = refl; shown = shows.0 }
  scope_there (x ∷ xs) (s ∷ ss) (suc i) d shows lt = scope_there xs ss i d shows.1 (omega (arith, lt))

  pub passed_show : (xs : List B) (ss : List Spaces) (i : ℕ) → AllShowSpaces ts (map now xs) ss → AllShowSpaces ts (map now (take i xs)) (take i ss)
  passed_show xs ss zero shows = tt
  passed_show [] [] (suc i) shows = tt
  passed_show [] (s ∷ ss) (suc i) shows = absurd shows
  passed_show (x ∷ xs) [] (suc i) shows = absurd shows
  passed_show (x ∷ xs) (s ∷ ss) (suc i) shows = (shows.0, passed_show xs ss i shows.1)

  wide : (x : B) (s : Spaces) → ShowsSpaces ts (now x) s → width_of (now x) ≡ width s
  wide x s shows = ap (λ b. cond b 2 1) shows.is_closed

  wide_from : (n : ℕ) (xs : List B) (ss : List Spaces) → AllShowSpaces ts (map now xs) ss → fold (λ a x. a + width_of (now x)) n xs ≡ fold (λ a x. a + x) n (map width ss)
  wide_from n [] [] shows = refl
  wide_from n [] (s ∷ ss) shows = absurd shows
  wide_from n (x ∷ xs) [] shows = absurd shows
  wide_from n (x ∷ xs) (s ∷ ss) shows = wide_from (n + width_of (now x)) xs ss shows.1 ∙ ap (λ w. fold (λ a x. a + x) (n + w) (map width ss)) (wide x s shows.0)

  pub distance_is : (xs : List B) (ss : List Spaces) → AllShowSpaces ts (map now xs) ss → sum_by (λ x. width_of (now x)) xs ≡ sum (map width ss)
  distance_is xs ss shows = wide_from 0 xs ss shows

  pub leaves_is : (xs : List B) (ss : List Spaces) → AllShowSpaces ts (map now xs) ss → list_any (λ x. (now x).is_closed) xs ≡ list_any (λ s. s.is_closed) ss
  leaves_is [] [] shows = refl
  leaves_is [] (s ∷ ss) shows = absurd shows
  leaves_is (x ∷ xs) [] shows = absurd shows
  leaves_is (x ∷ xs) (s ∷ ss) shows = λ i. shows.0.is_closed i || leaves_is xs ss shows.1 i

-- what may be named from within
pub passes_no_type : (b : Bool) (e : EntityTree) → (sort.Ty ≡ sort_of e → ⊥) → true ≡ may_pass b e
passes_no_type b (IsType t) wrong = absurd (wrong refl)
passes_no_type b (IsFunc f) wrong = refl
passes_no_type b (IsInstance es) wrong = refl
passes_no_type b (IsComponent is es) wrong = refl
passes_no_type b (IsModule m) wrong = refl
passes_no_type b IsOwnModule wrong = refl

pub passes_within : (e : EntityTree) → true ≡ may_pass false e
passes_within (IsType t) = refl
passes_within (IsFunc f) = refl
passes_within (IsInstance es) = refl
passes_within (IsComponent is es) = refl
passes_within (IsModule m) = refl
passes_within IsOwnModule = refl

pub passes_by : (ts : List PlainTree) (n : ℕ) (e : EntityTree) (b m : Bool) → b ≡ true → sort.Ty ≡ sort_of e → Stands ts n (plain_entity e) → ((t : TypeShapeTree) → Stands ts n (plain_type t) → m ≡ mentions_resource t) → not m ≡ may_pass b e
passes_by ts n (IsType t) b m is ty s mentions = ap not (mentions t s) ∙ sym (ap (λ x. not (x && mentions_resource t)) is)
passes_by ts n (IsFunc f) b m is ty s mentions = absurd cc
passes_by ts n (IsInstance es) b m is ty s mentions = absurd cc
passes_by ts n (IsComponent is' es) b m is ty s mentions = absurd cc
passes_by ts n (IsModule x) b m is ty s mentions = absurd cc
passes_by ts n IsOwnModule b m is ty s mentions = absurd cc

-- an item of a scope further out
module _ (ss : List Spaces) (kind : Sort) (count index : ℕ) (o : scope.Outer) (e : Standing) (out : outer_scope ss count ≡ Ok o) (there : standing o.spaces kind index ≡ Ok e) where
  outside : standing_outside ss kind count index ≡ cond (may_pass o.leaves_component e.0) (Ok (from_outside o.distance e.0, e.1)) (Err Index)
  outside =
      ap (λ r. r >>= λ outer. standing outer.spaces kind index >>= λ e. cond (may_pass outer.leaves_component e.0) (Ok (from_outside outer.distance e.0, e.1)) (Err Index)) out
      ∙ ap (λ r. r >>= λ e. cond (may_pass o.leaves_component e.0) (Ok (from_outside o.distance e.0, e.1)) (Err Index)) there

  pub kept_inside : (b : Bool) → b ≡ may_pass o.leaves_component e.0 → b ≡ false → standing_outside ss kind count index ≡ Err Index
  kept_inside b is wrong = outside ∙ ap (λ x. cond x (Ok (from_outside o.distance e.0, e.1)) (Err Index)) (sym is ∙ wrong)

  pub let_inside : (b : Bool) → b ≡ may_pass o.leaves_component e.0 → b ≡ true → standing_outside ss kind count index ≡ Ok (from_outside o.distance e.0, e.1)
  let_inside b is right = outside ∙ ap (λ x. cond x (Ok (from_outside o.distance e.0, e.1)) (Err Index)) (sym is ∙ right)

pub outside_stands : (ts us : List PlainTree) (n m d d' : ℕ) (e : EntityTree) → d ≡ d' → Stands ts n (plain_entity e) → Stands us m (tree_by (changing (deeper d) (deeper d)) 0 (tree_at ts n)) → (plain_entity (entity_by (changing (deeper d') (deeper d')) 0 e) ≡ tree_by (changing (deeper d') (deeper d')) 0 (plain_entity e)) → Stands us m (plain_entity (from_outside d' e))
outside_stands ts us n m d d' e is s moved law =
    same_stands us m _ _ (ap (λ x. tree_by (changing (deeper x) (deeper x)) 0 (tree_at ts n)) is ∙ ap (tree_by (changing (deeper d') (deeper d')) 0) s.tree_is ∙ sym law) moved
