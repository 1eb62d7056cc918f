-- Why a connection is refused.
use Rattle.std.proofs.Common.{◌≡◌, ◌∙◌, ap, sym, subst, refl, arith, ℕ, zero, suc, ◌<◌, Bool, true, false, true≢false, cond, List, [], ◌∷◌, length, Option, Some, None, Result, Ok, Err}
use Rattle.std.specs.Prelude.{◌==◌, is_some, option_map, slice_get, IfErr}
use Rattle.std.specs.Result.{IsErrAnd}
use Rattle.comp_entity.specs.Entity.{EntityTree, ShapeTree}
use Rattle.comp_entity.specs.Fits.{fits_loosely}
use Rattle.comp_entity.specs.Views.{named_entities}
use Rattle.comp_entity.specs.declared.entity.Entity.{Entity}
use Rattle.compose_fit.specs.Wires.{Given, given_of}
use Rattle.compose_graph.specs.Graph.{ComponentEntry, GraphTree, SelfConnection, NotCompatible, component_at, component_of, connect_fault, connection_into, fault_between, fault_of_import, fault_of_offer, given_entity}
use Rattle.compose_graph.specs.Refusal.{IsOfFit}
use Rattle.compose_graph.specs.declared.connection.Connection.{Connection}
use Rattle.compose_graph.specs.declared.error.GraphError.{GraphError}
use Rattle.compose_graph.specs.declared.error.GraphError.TheVariants as error
use Rattle.compose_graph.proofs.GraphLaws.{made_parts, there_is}
use Rattle.compose_graph.proofs.ListLaws.{same_number}
use Rattle.compose_graph.proofs.NameLaws.{passes}

pub get_there : {X : Type 0} (xs : List X) (i : ℕ) → i < length xs → (x : X) × (slice_get xs i ≡ Some x)
get_there [] i lt = absurd (omega (arith, lt))
get_there (x ∷ xs) zero lt = (x, refl)
get_there (x ∷ xs) (suc i) lt = get_there xs i (omega (arith, lt))

-- the component of an instance stands under its number
pub of_instance_there : (g : GraphTree) (id : ℕ) (x : ComponentEntry) → Some x ≡ component_of g id → component_at g.components x.id ≡ Some x
of_instance_there g id x e =
    let m = made_parts g.components g.instances id x (sym e) in
    ap (component_at g.components) (sym (same_number m.made.component x.id (passes (λ (c : ComponentEntry). m.made.component == c.id) g.components x m.from))) ∙ m.from

-- the fault of a connection between two components that are there
pub fault_here : (g : GraphTree) (c : Connection) (x y : ComponentEntry) → (c.source == c.target) ≡ false → Some x ≡ component_of g c.source → Some y ≡ component_of g c.target
    → fault_of_import (is_some (connection_into g.connections c.target c.import)) x.shape c (slice_get y.shape.imports c.import) ≡ connect_fault g c
fault_here g c x y differ e f =
    (λ i. fault_between (is_some (connection_into g.connections c.target c.import)) c (e i) (f i))
    ∙ (λ i. cond (sym differ i) (Some SelfConnection) (fault_between (is_some (connection_into g.connections c.target c.import)) c (component_of g c.source) (component_of g c.target)))

-- where both places are there, and nothing is given to the import, the fault is one of fit
pub fault_of_both : (taken : Bool) (source : ShapeTree) (c : Connection) (o : Option (List ℕ × EntityTree)) (asked : List ℕ × EntityTree) (given : Given) → taken ≡ false → o ≡ Some asked → given_of source c.export ≡ Some given
    → fault_of_import taken source c o ≡ cond (fits_loosely (given_entity given) asked.1) None (Some NotCompatible)
fault_of_both taken source c o asked given free asks gives =
    (λ i. fault_of_import (free i) source c (asks i)) ∙ ap (fault_of_offer asked.1) gives

pub of_fit : (b : Bool) → IsOfFit (cond b None (Some NotCompatible))
of_fit true = tt
of_fit false = tt

-- what a connection joins is there
pub record BothThere (taken : Bool) (s t : ShapeTree) (c : Connection) : Type 0 where
  pub given : Given
  pub asked : List ℕ × EntityTree
  pub gives : given_of s c.export ≡ Some given
  pub asks : slice_get t.imports c.import ≡ Some asked
  pub fault : fault_of_import taken s c (slice_get t.imports c.import) ≡ cond (fits_loosely (given_entity given) asked.1) None (Some NotCompatible)

pub both_there : (taken : Bool) (s t : ShapeTree) (c : Connection) → taken ≡ false → c.import < length t.imports → is_some (given_of s c.export) ≡ true → BothThere taken s t c
both_there taken s t c free lt some =
    let asked = get_there t.imports c.import lt in
    let given = there_is (given_of s c.export) some in
    record {
      given = given.0;
      asked = asked.0;
      gives = given.1;
      asks = asked.1;
      fault = fault_of_both taken s c (slice_get t.imports c.import) asked.0 given.0 free asked.1 given.1;
    }

-- ---- small facts of answers

pub named_length : (es : List (List ℕ × Entity)) → length (named_entities es) ≡ length es
named_length [] = refl
named_length (e ∷ es) = ap suc (named_length es)

pub ne_false : (a b : ℕ) → (a ≡ b → ⊥) → (a == b) ≡ false
ne_false a b ne = one (a == b) refl
  where
    one : (t : Bool) → (a == b) ≡ t → (a == b) ≡ false
    one true h = absurd (ne (same_number a b h))
    one false h = h

pub some_mapped : {X Y : Type 0} (f : X → Y) (o : Option X) → is_some (option_map f o) ≡ is_some o
some_mapped f None = refl
some_mapped f (Some x) = refl

pub none_mapped : {X Y : Type 0} (f : X → Y) (o : Option X) → is_some (option_map f o) ≡ false → o ≡ None
none_mapped f None e = refl
none_mapped f (Some x) e = absurd (true≢false e)

pub memory_alone : {X : Type 0} (r : Result X GraphError) (P : GraphError → Type 0) → IsErrAnd r (λ e. e ≡ error.Memory) → P error.Memory → IfErr r P
memory_alone (Ok x) P h p = tt
memory_alone (Err e) P h p = subst P (sym h) p
