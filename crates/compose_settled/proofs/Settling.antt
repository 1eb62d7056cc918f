-- Each name is written as one that stands for the same type.
use Rattle.std.proofs.Common.{◌≡◌, ℕ, ◌+◌, ◌-◌, Bool, true, false, cond, List, [], ◌∷◌, ◌++◌, map, Option, Some, None, refl, sym, ap, ◌∙◌, arith}
use Rattle.std.specs.Prelude.{filter, nat_lt, option_map}
use Rattle.std.specs.List.{AllByRecursion}
use Rattle.std.proofs.lemmas.Bool.{and_parts, eqb-true}
use Rattle.std.specs.Prelude.{◌==◌}
use Rattle.comp_entity.specs.Entity.{Name, ValueTree, EntityTree}
use Rattle.comp_entity.specs.Fits.{same_name}
use Rattle.comp_entity.specs.Names.{changing, deeper, outside, value_by, entity_by, without_places}
use Rattle.comp_entity.specs.NameLaws.{value_twice}
use Rattle.comp_coherence.specs.Changes.{CarriesAlong}
use Rattle.comp_coherence.specs.Coherence.{Coheres, Names, bare_value}
use Rattle.compose_left.specs.declared.spots.Spot.{Spot}
use Rattle.compose_left.specs.declared.spots.Thing.{Thing}
use Rattle.compose_needs.specs.declared.leaves.Leaf.{Leaf}
use Rattle.compose_needs.specs.Leaves.{leaves_at}
use Rattle.compose_order.specs.Needs.{LeftTree, called_at}
use Rattle.compose_naming.specs.Settled.{WrittenNames, along_leaves, at_leaf, called_as, is_type, name_in, names_of, settled, written_as}
use Rattle.compose_origins.specs.Placed.{CallsOneType, IsTypeOf, type_of}
use Rattle.compose_settled.proofs.Bare.{bared, coheres_bared, map_some}

name_is : (a b : Name) → same_name a b ≡ true → a ≡ b
name_is a b h =
    let parts = and_parts (a.out == b.out) (a.number == b.number) h in
    let out = eqb-true a.out b.out parts.0 in
    let number = eqb-true a.number b.number parts.1 in
    λ i. record { out = out i; number = number i }

pub front_and_behind : {X : Type 0} (P : X → Type 0) (xs ys : List X) → AllByRecursion P xs → AllByRecursion P ys → AllByRecursion P (xs ++ ys)
front_and_behind P [] ys h k = k
front_and_behind P (x ∷ xs) ys h k = (h.0, front_and_behind P xs ys h.1 k)

module _ (names : Names) where
  -- a name, and one that stands for the same type
  abbrev IsSame : Name × Name → Type 0
  IsSame w = names.tree w.1 ≡ names.tree w.0

  abbrev AreSame : WrittenNames → Type 0
  AreSame ws = AllByRecursion IsSame ws

  written_same : (ws : WrittenNames) → AreSame ws → (n : Name) → names.tree (written_as ws n) ≡ names.tree n
  written_same [] h n = refl
  written_same (w ∷ ws) h n = by (same_name w.0 n) refl (written_same ws h.1 n)
    where
      by : (b : Bool) → same_name w.0 n ≡ b → names.tree (written_as ws n) ≡ names.tree n → names.tree (cond b w.1 (written_as ws n)) ≡ names.tree n
      by true same rest = h.0 ∙ ap names.tree (name_is w.0 n same)
      by false other rest = rest

  called_same : (n : Name) (t : Thing) → names.tree n ≡ type_of names t → (ts : List Thing) → AllByRecursion (IsTypeOf names (Some t)) ts → AreSame (called_as n ts)
  called_same n t is [] h = tt
  called_same n t is (u ∷ us) h = by u.is_type refl (called_same n t is us h.1)
    where
      by : (b : Bool) → u.is_type ≡ b → AreSame (called_as n us) → AreSame (map (λ t. (name_in t, n)) (cond b (u ∷ filter is_type us) (filter is_type us)))
      by true kind rest = (is ∙ sym (h.0 kind t refl), rest)
      by false kind rest = rest

  leaf_same : (ws : WrittenNames) (calls : List Spot) (leaf : Leaf) (o : Option Thing) → AreSame ws → AllByRecursion (IsTypeOf names o) (called_at calls leaf.path) → AreSame (at_leaf ws calls leaf o)
  leaf_same ws calls leaf None h k = h
  leaf_same ws calls leaf (Some t) h k =
      front_and_behind IsSame ws (called_as (written_as ws (name_in t)) (called_at calls leaf.path)) h
      (called_same (written_as ws (name_in t)) t (written_same ws h (name_in t)) (called_at calls leaf.path) k)

  along_same : (ws : WrittenNames) (calls : List Spot) (leaves : List Leaf) → AreSame ws
      → AllByRecursion (λ (leaf : Leaf). AllByRecursion (IsTypeOf names leaf.named) (called_at calls leaf.path)) leaves
      → AreSame (along_leaves ws calls leaves)
  along_same ws calls [] h k = h
  along_same ws calls (leaf ∷ leaves) h k = along_same (at_leaf ws calls leaf leaf.named) calls leaves (leaf_same ws calls leaf leaf.named h k.0) k.1

  -- in a left import each name is written as one that stands for the same type
  pub written_means : (l : LeftTree) → CallsOneType names l → (n : Name) → names.tree (written_as (names_of l) n) ≡ names.tree n
  written_means l h n = written_same (names_of l) (along_same [] l.calls (leaves_at l.entity) tt h) n

-- ---- what coheres

abbrev pub as_is : Name → Name
as_is n = n

pub resource_stays : (d : ℕ) (n : Name) → outside as_is d n ≡ n
resource_stays d n = by (nat_lt n.out d) refl
  where
    by : (b : Bool) → nat_lt n.out d ≡ b → cond b n (deeper d (as_is (record n { out = n.out - d }))) ≡ n
    by true lt = refl
    by false ge = let back : n.out - d + d ≡ n.out = grind arith in λ i. record { out = back i; number = n.number }

pub bare_stays : (g : Name → Name) (t : ValueTree) → value_by (changing as_is g) 0 (bare_value t) ≡ bare_value t
bare_stays g t = value_twice (changing as_is g) without_places without_places (record { resource = resource_stays; place = λ d n. refl; mark = λ m. refl }) 0 t

carries : (names : Names) (g : Name → Name) → ((n : Name) → names.tree (g n) ≡ names.tree n) → CarriesAlong as_is g (bared names) (bared names)
carries names g same = record { resources = λ r h. h; trees = trees }
  where
    trees : (n : Name) (t : ValueTree) → option_map bare_value (names.tree n) ≡ Some t → option_map bare_value (names.tree (g n)) ≡ Some (value_by (changing as_is g) 0 t)
    trees n t is =
        let u = map_some bare_value (names.tree n) t is in
        ap (option_map bare_value) (same n) ∙ is ∙ ap Some (sym (ap (value_by (changing as_is g) 0) (sym u.2) ∙ bare_stays g u.0 ∙ u.2))

-- what is carried along coheres
abbrev pub Carried : Type 0
Carried = (resource place : Name → Name) (before after : Names) → CarriesAlong resource place before after
    → (e : EntityTree) → Coheres before e → Coheres after (entity_by (changing resource place) 0 e)

pub settled_coheres : Carried → (names : Names) (l : LeftTree) → CallsOneType names l → Coheres names l.entity → Coheres (bared names) (settled l).entity
settled_coheres carried names l calls h =
    let g : Name → Name = written_as (names_of l) in
    carried as_is g (bared names) (bared names) (carries names g (written_means names l calls)) l.entity (coheres_bared names l.entity h)
