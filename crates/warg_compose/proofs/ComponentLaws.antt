-- The components of a plan, by the releases of its entries.
use Rattle.std.proofs.Common.{◌≡◌, ◌+◌, ◌∙◌, sym, ap, subst, refl, arith, ℕ, zero, suc, Bool, true, false, true≢false, cond, ◌||◌, not, List, [], ◌∷◌, length, map, Some}
use Rattle.std.specs.Prelude.{bytes_eq, slice_get}
use Rattle.std.specs.List.{position_or_len}
use Rattle.std.specs.Option.{option_map_or}
use Rattle.compose_left.specs.Wiring.{no_shape}
use Rattle.compose_check.specs.Composition.{ComponentTree, shape_numbered}
use Rattle.warg_plan.specs.Walk.{Entry}
use Rattle.warg_compose.specs.Composed.{AreComponentsOf, IsComponentOf, release_name, release_names}
use Rattle.warg_compose.proofs.NameLaws.{has}

pub as_many : (rs : List Entry) (cs : List ComponentTree) → AreComponentsOf rs cs → length cs ≡ length rs
as_many [] [] are = refl
as_many [] (c ∷ cs) are = absurd are
as_many (r ∷ rs) [] are = absurd are
as_many (r ∷ rs) (c ∷ cs) are = ap suc (as_many rs cs are.1)

abbrev pub name_of : ComponentTree → List ℕ
name_of c = c.name

pub their_names : (rs : List Entry) (cs : List ComponentTree) → AreComponentsOf rs cs → map name_of cs ≡ release_names rs
their_names [] [] are = refl
their_names [] (c ∷ cs) are = absurd are
their_names (r ∷ rs) [] are = absurd are
their_names (r ∷ rs) (c ∷ cs) are = λ i. are.0.named i ∷ their_names rs cs are.1 i

-- the entry of a component
pub of_entry : (rs : List Entry) (cs : List ComponentTree) → AreComponentsOf rs cs → (n : ℕ) (k : ComponentTree) → slice_get cs n ≡ Some k → (r : Entry) × IsComponentOf r k
of_entry [] [] are n k at = absurd cc
of_entry [] (c ∷ cs) are n k at = absurd are
of_entry (r ∷ rs) [] are n k at = absurd are
of_entry (r ∷ rs) (c ∷ cs) are zero k at = (r, subst (IsComponentOf r) (one at) are.0)
  where
    one : Some c ≡ Some k → c ≡ k
    one e = cc
of_entry (r ∷ rs) (c ∷ cs) are (suc n) k at = of_entry rs cs are.1 n k at

-- the component of the first release of a name
pub record IsAt (rs : List Entry) (cs : List ComponentTree) (name : List ℕ) : Type 0 where
  pub release : Entry
  pub component : ComponentTree
  pub there : slice_get cs (position_or_len (bytes_eq name) (release_names rs)) ≡ Some component
  pub of : IsComponentOf release component
  pub named : bytes_eq name (release_name release) ≡ true
  pub place : ℕ
  pub stands : slice_get rs place ≡ Some release

pub component_at : (rs : List Entry) (cs : List ComponentTree) (name : List ℕ) → AreComponentsOf rs cs → has (release_names rs) name ≡ true → IsAt rs cs name
component_at [] cs name are h = absurd (true≢false (sym h))
component_at (r ∷ rs) [] name are h = absurd are
component_at (r ∷ rs) (c ∷ cs) name are h = by (bytes_eq name (release_name r)) refl h (component_at rs cs name are.1)
  where
    one_more : (n : ℕ) → slice_get (c ∷ cs) (1 + n) ≡ slice_get cs n
    one_more n = let same : 1 + n ≡ suc n = omega arith in ap (slice_get (c ∷ cs)) same

    by : (b : Bool) → bytes_eq name (release_name r) ≡ b → (b || has (release_names rs) name) ≡ true → (has (release_names rs) name ≡ true → IsAt rs cs name) → IsAt (r ∷ rs) (c ∷ cs) name
    by true e h later = record { release = r; component = c; there = ap (λ b. slice_get (c ∷ cs) (cond (not b) (1 + position_or_len (bytes_eq name) (release_names rs)) 0)) e; of = are.0; named = e; place = 0; stands = refl }
    by false e h later =
        let rest = later h in
        record {
          release = rest.release;
          component = rest.component;
          there = ap (λ b. slice_get (c ∷ cs) (cond (not b) (1 + position_or_len (bytes_eq name) (release_names rs)) 0)) e ∙ one_more (position_or_len (bytes_eq name) (release_names rs)) ∙ rest.there;
          of = rest.of;
          named = rest.named;
          place = suc rest.place;
          stands = rest.stands;
        }

pub shape_there : (cs : List ComponentTree) (n : ℕ) (c : ComponentTree) → slice_get cs n ≡ Some c → shape_numbered cs n ≡ c.shape
shape_there cs n c at = ap (λ o. option_map_or (λ (k : ComponentTree). k.shape) o no_shape) at
