-- Laws of canonical definitions.
use Rattle.std.specs.Prelude.{◌≡◌, ℕ, Bool, true, false, cond, nat_lt, List, [], ◌∷◌, Result, Ok, Err, refl}
use Rattle.std.proofs.Common.{sym, ◌∙◌, ap}
use Rattle.warg_values.specs.Reading.{◌>>=◌}
use Rattle.warg_values.specs.ReadingLaws.{bind_ok, ok_is}
use Rattle.comp_entity.specs.Bounds.{ShapeFault, Index, bounded}
use Rattle.comp_entity.specs.Entity.{ValueTree, Primitive, TupleOf, RecordOf, VariantOf, ListOf, FlagsOf, EnumOf, OptionOf, ResultOf, Own, Borrow, Value, Resource, Func, Instance, Component, EntityTree, IsType, IsFunc, IsInstance, IsComponent, IsModule, IsOwnModule}
use Rattle.comp_format.specs.declared.types.CanonOption.{CanonOption}
use Rattle.comp_format.specs.declared.types.CanonOption.TheVariants as option
use Rattle.comp_format.specs.declared.types.Canon.TheVariants as canon
use Rattle.comp_instance.specs.Lifted.{lifted_of, lifted_at, lifting, lowered_at}
use Rattle.comp_scope.specs.Canons.{lifted, with_canon, with_one_core_func, with_option, with_options}
use Rattle.comp_scope.specs.Spaces as scope
use Rattle.comp_scope.specs.Spaces.{Spaces, added, at_index, if_below}
use Rattle.comp_space.specs.Faults.{Found}
use Rattle.comp_space.specs.Heads.{is_func_type}
use Rattle.comp_space.specs.Standings.{Shows}
use Rattle.comp_space.specs.StandingLaws.{then_first}
use Rattle.comp_table.specs.declared.head.Head.TheVariants as head
use Rattle.comp_table.specs.Plain.{around, plain_value, plain_entity}
use Rattle.comp_table.specs.StandLaws.{same_stands}
use Rattle.comp_table.specs.Trees.{PlainTree, Stands, root, tree_at}

no_truth : {A : Type 0} → true ≡ false → A
no_truth h = absurd cc

value_is_no_func : (v : ValueTree) → is_func_type (root (plain_value v)) ≡ false
value_is_no_func (Primitive p) = refl
value_is_no_func (TupleOf parts) = refl
value_is_no_func (RecordOf place fields) = refl
value_is_no_func (VariantOf place cases) = refl
value_is_no_func (ListOf t) = refl
value_is_no_func (FlagsOf place labels) = refl
value_is_no_func (EnumOf place labels) = refl
value_is_no_func (OptionOf t) = refl
value_is_no_func (ResultOf ok err) = refl
value_is_no_func (Own r) = refl
value_is_no_func (Borrow r) = refl

-- a function of the type that is there
pub lifted_found : (ts us : List PlainTree) (n m : ℕ) (b : Bool) (e : EntityTree) → Stands ts n (plain_entity e) → is_func_type (root (tree_at ts n)) ≡ true → Stands us m (around head.Func (tree_at ts n)) → Found (Shows plain_entity us) (record { number = m; named = b }) (lifted_of (e, b))
lifted_found ts us n m b (IsType (Func f)) s is made = record { value = (IsFunc f, b); given_is = refl; shown = record { stands = same_stands us m _ _ (ap (around head.Func) s.tree_is) made; named_is = refl } }
lifted_found ts us n m b (IsType (Value v)) s is made = no_truth (sym is ∙ ap (λ x. is_func_type (root x)) s.tree_is ∙ value_is_no_func v)
lifted_found ts us n m b (IsType (Resource r)) s is made = no_truth (sym is ∙ ap (λ x. is_func_type (root x)) s.tree_is)
lifted_found ts us n m b (IsType (Instance es)) s is made = no_truth (sym is ∙ ap (λ x. is_func_type (root x)) s.tree_is)
lifted_found ts us n m b (IsType (Component is' es)) s is made = no_truth (sym is ∙ ap (λ x. is_func_type (root x)) s.tree_is)
lifted_found ts us n m b (IsFunc f) s is made = no_truth (sym is ∙ ap (λ x. is_func_type (root x)) s.tree_is)
lifted_found ts us n m b (IsInstance es) s is made = no_truth (sym is ∙ ap (λ x. is_func_type (root x)) s.tree_is)
lifted_found ts us n m b (IsComponent is' es) s is made = no_truth (sym is ∙ ap (λ x. is_func_type (root x)) s.tree_is)
lifted_found ts us n m b (IsModule x) s is made = no_truth (sym is ∙ ap (λ x. is_func_type (root x)) s.tree_is)
lifted_found ts us n m b IsOwnModule s is made = no_truth (sym is ∙ ap (λ x. is_func_type (root x)) s.tree_is)

-- options leave the scope as it is
below_keeps : (b : Bool) (s t : Spaces) → cond b (Ok s) (Err Index) ≡ Ok t → s ≡ t
below_keeps true s t e = ok_is s t e
below_keeps false s t e = absurd cc

option_keeps : (s t : Spaces) (o : CanonOption) → with_option s o ≡ Ok t → s ≡ t
unfolding with_option
option_keeps s t (option.Encoding code) e = ok_is s t e
option_keeps s t (option.Memory i) e = below_keeps (nat_lt i s.core.memories) s t e
option_keeps s t (option.Realloc i) e = below_keeps (nat_lt i s.core.funcs) s t e
option_keeps s t (option.PostReturn i) e = below_keeps (nat_lt i s.core.funcs) s t e

options_keep : (s t : Spaces) (os : List CanonOption) → with_options s os ≡ Ok t → s ≡ t
unfolding with_options
options_keep s t [] e = ok_is s t e
options_keep s t (o ∷ os) e =
    let a = bind_ok (with_option s o) (λ u. with_options u os) t e in
    option_keeps s a.0 o a.1 ∙ options_keep a.0 t os a.2

-- a function that is lifted is put behind the others
lifted_last : (s : Spaces) (e : scope.Standing) → lifted bounded s e ≡ (lifted_of e >>= λ x. added bounded s x.0 x.1)
lifted_last s (IsType (Func f), b) = refl
lifted_last s (IsType (Value v), b) = refl
lifted_last s (IsType (Resource r), b) = refl
lifted_last s (IsType (Instance es), b) = refl
lifted_last s (IsType (Component is es), b) = refl
lifted_last s (IsFunc f, b) = refl
lifted_last s (IsInstance es, b) = refl
lifted_last s (IsComponent is es, b) = refl
lifted_last s (IsModule m, b) = refl
lifted_last s (IsOwnModule, b) = refl

lifted_behind : (s : Spaces) (ty : ℕ) (r : Result Spaces ShapeFault) → ((t : Spaces) → r ≡ Ok t → s ≡ t)
    → (r >>= λ t. at_index t.types ty >>= lifted bounded t) ≡ ((r >>= λ t. at_index t.types ty >>= lifted_of) >>= λ x. added bounded s x.0 x.1)
lifted_behind s ty (Err f) same = refl
lifted_behind s ty (Ok t) same =
    then_first (at_index t.types ty) (lifted bounded t) lifted_of (λ x. added bounded t x.0 x.1) (lifted_last t)
    ∙ ap (λ u. (at_index t.types ty >>= lifted_of) >>= λ x. added bounded u x.0 x.1) (sym (same t refl))

lifting_keeps : (s t : Spaces) (f : ℕ) (os : List CanonOption) → lifting s f os ≡ Ok t → s ≡ t
lifting_keeps s t f os e =
    let a = bind_ok (if_below s.core.funcs f s) (λ u. with_options u os) t e in
    below_keeps (nat_lt f s.core.funcs) s a.0 a.1 ∙ options_keep a.0 t os a.2

pub lift_is : (s : Spaces) (f : ℕ) (os : List CanonOption) (ty : ℕ) → with_canon bounded s (canon.Lift f os ty) ≡ (lifted_at s f os ty >>= λ x. added bounded s x.0 x.1)
unfolding with_canon
lift_is s f os ty =
    then_first (if_below s.core.funcs f s) _ (λ u. with_options u os) (λ t. at_index t.types ty >>= lifted bounded t) (λ u. refl)
    ∙ lifted_behind s ty (lifting s f os) (λ t. lifting_keeps s t f os)

pub lower_is : (s : Spaces) (f : ℕ) (os : List CanonOption) → with_canon bounded s (canon.Lower f os) ≡ (lowered_at s f os >>= λ t. Ok (with_one_core_func t))
unfolding with_canon
lower_is s f os = then_first (at_index s.funcs f) _ (λ of. with_options s os) (λ t. Ok (with_one_core_func t)) (λ of. refl)
