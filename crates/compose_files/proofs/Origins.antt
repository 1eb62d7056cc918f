-- What instances are for: when two are for one thing, and the numbers of those that have names.
use Rattle.std.proofs.Common.{◌≡◌, ◌<◌, ℕ, suc, zero, ◌+◌, true, cond, List, [], ◌∷◌, ◌++◌, length, map, drop, Some, slice_get, refl, sym, ap, ◌∙◌, bytes_eq, arith}
use Rattle.std.specs.List.{position_from}
use Rattle.std.specs.Map.{lookup}
use Rattle.std.proofs.lemmas.Bool.{eqb-true, eq-eqb, false≢true}
use Rattle.std.proofs.lemmas.Option.{same_Some}
use Rattle.std.proofs.lemmas.Slice.Eq.{bytes_eq-Decides}
use Rattle.compose_config.specs.Plan.{Settings, dependency_name}
use Rattle.compose_files.specs.Graph.{Named, OfDefinition, Origin, asked_names, is_origin, named_from}
use Rattle.compose_files.proofs.Once.{none_some}

pub same_name : (a b : List ℕ) → bytes_eq a b ≡ true → a ≡ b
same_name a b e = (bytes_eq-Decides a b).0 e

pub name_is : (a : List ℕ) → bytes_eq a a ≡ true
name_is a = (bytes_eq-Decides a a).1 refl

pub same_origin : (a b : Origin) → is_origin a b ≡ true → a ≡ b
same_origin (Named a) (Named b) e = ap Named (same_name a b e)
same_origin (Named a) (OfDefinition d) e = absurd (false≢true e)
same_origin (OfDefinition c) (Named b) e = absurd (false≢true e)
same_origin (OfDefinition c) (OfDefinition d) e = ap OfDefinition (eqb-true c d e)

pub origin_is : (a : Origin) → is_origin a a ≡ true
origin_is (Named a) = name_is a
origin_is (OfDefinition c) = eq-eqb c c refl

-- ---- the instances that have names

-- an instance has the number of its place
pub named_at : (name : List ℕ) (n : ℕ) (origins : List Origin) → lookup (λ k. bytes_eq name k) (named_from n origins) ≡ position_from (is_origin (Named name)) n origins
named_at name n [] = refl
named_at name n (Named a ∷ origins) = ap (cond (bytes_eq name a) (Some n)) (named_at name (n + 1) origins)
named_at name n (OfDefinition c ∷ origins) = named_at name (n + 1) origins

pub named_more : (n : ℕ) (origins : List Origin) (name : List ℕ) → named_from n (origins ++ Named name ∷ []) ≡ named_from n origins ++ (name, n + length origins) ∷ []
named_more n [] name = ap (λ m. (name, m) ∷ []) (omega arith)
named_more n (Named a ∷ origins) name = ap (λ l. (a, n) ∷ l) (named_more (n + 1) origins name ∙ ap (λ m. named_from (n + 1) origins ++ (name, m) ∷ []) (omega arith))
named_more n (OfDefinition c ∷ origins) name = named_more (n + 1) origins name ∙ ap (λ m. named_from (n + 1) origins ++ (name, m) ∷ []) (omega arith)

pub named_same : (n : ℕ) (origins : List Origin) (c : ℕ) → named_from n (origins ++ OfDefinition c ∷ []) ≡ named_from n origins
named_same n [] c = refl
named_same n (Named a ∷ origins) c = ap (λ l. (a, n) ∷ l) (named_same (n + 1) origins c)
named_same n (OfDefinition d ∷ origins) c = named_same (n + 1) origins c

pub named_behind : (n : ℕ) (origins more : List Origin) → named_from n (origins ++ more) ≡ named_from n origins ++ named_from (n + length origins) more
named_behind n [] more = ap (λ m. named_from m more) (omega arith)
named_behind n (Named a ∷ origins) more = ap (λ l. (a, n) ∷ l) (named_behind (n + 1) origins more ∙ ap (λ m. named_from (n + 1) origins ++ named_from m more) (omega arith))
named_behind n (OfDefinition c ∷ origins) more = named_behind (n + 1) origins more ∙ ap (λ m. named_from (n + 1) origins ++ named_from m more) (omega arith)

-- the number of one is a place
pub named_below : (n : ℕ) (origins : List Origin) (k : ℕ) (name : List ℕ) (id : ℕ) → slice_get (named_from n origins) k ≡ Some (name, id) → id < n + length origins
named_below n [] k name id h = absurd (none_some (name, id) (sym h))
named_below n (Named a ∷ origins) zero name id h =
    let same : n ≡ id = ap (λ (p : List ℕ × ℕ). p.1) (same_Some (a, n) (name, id) h) in
    omega arith
named_below n (Named a ∷ origins) (suc k) name id h = let below = named_below (n + 1) origins k name id h in omega arith
named_below n (OfDefinition c ∷ origins) k name id h = let below = named_below (n + 1) origins k name id h in omega arith

-- ---- the components that these ask for

module _ (s : Settings) where
  asked_map_more : (xs : List (List ℕ × ℕ)) (x : List ℕ × ℕ) → map (λ (i : List ℕ × ℕ). dependency_name s i.0) (xs ++ x ∷ []) ≡ map (λ (i : List ℕ × ℕ). dependency_name s i.0) xs ++ dependency_name s x.0 ∷ []
  asked_map_more [] x = refl
  asked_map_more (y ∷ xs) x = ap (λ l. dependency_name s y.0 ∷ l) (asked_map_more xs x)

  -- one instance more asks for one component more
  pub asked_more : (first : List ℕ) (rest : List Origin) (name : List ℕ)
      → asked_names s ((Named first ∷ rest) ++ Named name ∷ []) ≡ asked_names s (Named first ∷ rest) ++ dependency_name s name ∷ []
  asked_more first rest name = ap (map (λ (i : List ℕ × ℕ). dependency_name s i.0)) (named_more 1 rest name) ∙ asked_map_more (named_from 1 rest) (name, 1 + length rest)

  pub asked_same : (origins : List Origin) (c : ℕ) → asked_names s (origins ++ OfDefinition c ∷ []) ≡ asked_names s origins
  asked_same origins c = ap (λ l. map (λ (i : List ℕ × ℕ). dependency_name s i.0) (drop 1 l)) (named_same 0 origins c)
