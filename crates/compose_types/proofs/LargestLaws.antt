-- A number that is refused since it is too large stands in what would be written.
use Rattle.std.proofs.Common.{◌≡◌, ℕ, zero, suc, ◌+◌, ◌≤◌, length, inl, inr, max, List, [], ◌∷◌, ◌++◌, Option, Some, None, refl, sym, ap, subst, ◌∙◌, arith}
use Rattle.std.specs.Prelude.{◌⊎◌, IfSome, IsSomeAnd, option_map, option_and_then}
use Rattle.comp_format.specs.declared.types.Alias.TheVariants as alias
use Rattle.comp_format.specs.declared.types.Sort.{Sort}
use Rattle.comp_format.specs.declared.types.Sort.TheVariants as sort
use Rattle.comp_format.specs.declared.types.TypeRef.{TypeRef}
use Rattle.comp_format.specs.declared.types.DefType.{DefType}
use Rattle.comp_format.specs.declared.types.DefType.TheVariants as def
use Rattle.comp_format.specs.declared.types.DefinedType.{DefinedType}
use Rattle.comp_format.specs.declared.types.FuncType.{FuncType}
use Rattle.comp_format.specs.Views.{type_tree}
use Rattle.comp_format.specs.CoreTypes as core
use Rattle.comp_format.specs.Definitions as tree
use Rattle.comp_format.specs.Definitions.{DeclTree, Decls, TypeTree, decl_count, with_decl}
use Rattle.comp_encoder.specs.Largest.{core_largest, decl_largest, defined_largest, definition_largest, func_largest}
use Rattle.comp_encoder.specs.Writing.{Entry, next_index}
use Rattle.comp_entity.specs.Entity.{EntityTree}
use Rattle.comp_entity.specs.Names.{Mention}
use Rattle.comp_entity.specs.Places.{Path}
use Rattle.compose_writing.specs.Keys.{At, InInstance, known_at, mention_outside}
use Rattle.compose_writing.specs.Scopes.{WrittenScope, Wrote, wrote_as, add_type, add_core_type, add_alias, add_instance, on_top, then_type, closed, stood, standing, brought, type_index, along, index_in, change_top}
use Rattle.compose_writing.specs.Scopes.{declared as declare}
use Rattle.compose_writing.specs.WriteEntities.{counted, noted, with_named}
use Rattle.compose_types.specs.Bodies.{decls_in, entries_for}
use Rattle.compose_types.specs.Largest.{IsWithin, closed_size, decls_size, scope_size, scopes_size, standing_size, written_size}
use Rattle.compose_types.specs.Scopes.{item_of, scope_of, scopes_in}
use Rattle.compose_types.specs.declared.body.Side.{Side}
use Rattle.compose_types.specs.declared.open.Open.{Open}
use Rattle.compose_types.proofs.GrowLaws.{Grows, all_same, count_push, grows_along, grows_types, last_largest, next_few, noted_grows, scope_grows, size_is, sizes_grow}
use Rattle.compose_types.proofs.WriteGrowLaws.{Growing, GrowingWithin, growing_brought}
use Rattle.compose_types.proofs.ScopeLaws.{scopes_push}
use Rattle.compose_types.proofs.ValueLaws.{tree_defined, tree_func}

-- ---- declarations

-- the number of declarations, or a number in the last of them
pub count_within : (n : ℕ) (ds : Decls) (d : DeclTree) → n ≡ decl_count ds + 1 → n ≤ decls_size (with_decl ds d)
count_within n ds d e =
    let count = count_push ds d in
    let size = size_is (with_decl ds d) in
    grind (arith, e, count, size)

pub last_within : (n : ℕ) (ds : Decls) (d : DeclTree) → n ≤ decl_largest d → n ≤ decls_size (with_decl ds d)
last_within n ds d le =
    let last = last_largest ds d in
    let size = size_is (with_decl ds d) in
    grind (arith, le, last, size)

-- the same where the declarations are items of a component
pub item_within : (n largest : ℕ) (d : DeclTree) (kind : Sort) (es : List Entry) → es ≡ entries_for (decls_in es) → largest ≤ decl_largest d → (n ≡ largest) ⊎ (n ≡ next_index kind es + 1) → n ≤ decls_size (with_decl (decls_in es) d)
item_within n largest d kind es all le (inl e) = last_within n (decls_in es) d (omega (arith, e, le))
item_within n largest d kind es all le (inr e) =
    let few = next_few kind (decls_in es) in
    let same : next_index kind es ≡ next_index kind (entries_for (decls_in es)) = ap (next_index kind) all in
    let count = count_push (decls_in es) d in
    let size = size_is (with_decl (decls_in es) d) in
    grind (arith, e, few, same, count, size)

-- ---- a declaration that is refused

pub import_largest : (name : List ℕ) (ty : TypeRef) → length name ≤ decl_largest (tree.Import name ty)
unfolding decl_largest
import_largest name ty = omega arith

pub export_largest : (name : List ℕ) (ty : TypeRef) → length name ≤ decl_largest (tree.Export name ty)
unfolding decl_largest
export_largest name ty = omega arith

pub alias_largest : (kind : Sort) (from : ℕ) (name : List ℕ) → length name ≤ decl_largest (tree.Aliased (alias.Export kind from name))
unfolding decl_largest
alias_largest kind from name = omega arith

pub core_type_largest : (t : core.CoreTree) → core_largest t ≤ decl_largest (tree.CoreTy t)
unfolding decl_largest
core_type_largest t = omega arith

pub type_largest : (t : TypeTree) → definition_largest t ≤ decl_largest (tree.Ty t)
unfolding decl_largest
type_largest t = omega arith

pub defined_size : (t : DefType) (d : DefinedType) → t ≡ def.Defined d → definition_largest (type_tree t) ≡ defined_largest d
unfolding definition_largest
defined_size t d is = rw (is, tree_defined d) refl

pub func_size : (t : DefType) (f : FuncType) → t ≡ def.Func f → definition_largest (type_tree t) ≡ func_largest f
unfolding definition_largest
func_size t f is = rw (is, tree_func f) refl

pub builder_refused : (n largest : ℕ) (d : DeclTree) (kind : Sort) (ds : Decls) (es : List Entry) → ds ≡ decls_in es → es ≡ entries_for (decls_in es) → largest ≤ decl_largest d → (n ≡ largest) ⊎ (n ≡ next_index kind es + 1) → n ≤ decls_size (with_decl ds d)
builder_refused n largest d kind ds es is all le e = rw is (item_within n largest d kind es all le e)

pub counted_refused : (n : ℕ) (d : DeclTree) (ds was : Decls) → ds ≡ was → n ≡ decl_count was + 1 → n ≤ decls_size (with_decl ds d)
counted_refused n d ds was is e = rw is (count_within n was d e)

pub named_refused : (n largest : ℕ) (d : DeclTree) (ds was : Decls) → ds ≡ was → largest ≤ decl_largest d → (n ≡ largest) ⊎ (n ≡ decl_count was + 1) → n ≤ decls_size (with_decl ds d)
named_refused n largest d ds was is le (inl e) = rw is (last_within n was d (omega (arith, e, le)))
named_refused n largest d ds was is le (inr e) = counted_refused n d ds was is e

-- ---- scopes

pub decls_within : (n : ℕ) (m : WrittenScope) → n ≤ decls_size m.decls → n ≤ scope_size m
decls_within n m le = grind (arith, le)

pub types_within : (n : ℕ) (m : WrittenScope) → n ≤ m.types → n ≤ scope_size m
types_within n m le = grind (arith, le)

pub instances_within : (n : ℕ) (m : WrittenScope) → n ≤ m.instances → n ≤ scope_size m
instances_within n m le = grind (arith, le)

pub core_types_within : (n : ℕ) (m : WrittenScope) → n ≤ m.core_types → n ≤ scope_size m
core_types_within n m le = grind (arith, le)

pub later_within : (n : ℕ) (m later : WrittenScope) → Grows m later → n ≤ scope_size m → n ≤ scope_size later
later_within n m later g le = let grown = scope_grows m later g in omega (arith, le, grown)

pub top_within : (n : ℕ) (m : WrittenScope) (ms : List WrittenScope) → n ≤ scope_size m → n ≤ scopes_size (m ∷ ms)
top_within n m ms le = omega (arith, le)

pub around_within : (n : ℕ) (m : WrittenScope) (ms : List WrittenScope) → n ≤ scopes_size ms → n ≤ scopes_size (m ∷ ms)
around_within n m ms le = omega (arith, le)

-- ---- steps that may give nothing

pub within_is : {X : Type 0} (n : ℕ) (size : X → ℕ) (w : Option X) (x : X) → IsWithin n size w → w ≡ Some x → n ≤ size x
within_is n size w x h is = subst (λ w. IfSome w (λ x. n ≤ size x)) is h.within

pub within_same : {X : Type 0} (n : ℕ) (size : X → ℕ) (v w : Option X) → v ≡ w → IsWithin n size v → IsWithin n size w
within_same n size v w is h = subst (IsWithin n size) is h

pub within_as : {X Y : Type 0} (n : ℕ) (f : X → Y) (w : Wrote X) → IsWithin n written_size w → IsWithin n written_size (wrote_as f w)
within_as n f None h = record { within = tt }
within_as n f (Some x) h = record { within = h.within }

pub within_behind : {X : Type 0} (n : ℕ) (next : List WrittenScope) (w : Wrote X) → n ≤ scopes_size next → Growing next w → IsWithin n written_size w
within_behind n next None le g = record { within = tt }
within_behind n next (Some x) le g = let grown = sizes_grow next x.0 g in record { within = omega (arith, le, grown) }

pub within_then : {X Y : Type 0} (n : ℕ) (f : List WrittenScope × X → Wrote Y) (w : Wrote X) → IsWithin n written_size w → ((x : List WrittenScope × X) → Growing x.0 (f x)) → IsWithin n written_size (option_and_then f w)
within_then n f None h g = record { within = tt }
within_then n f (Some x) h g = within_behind n x.0 (f x) h.within (g x)

-- ---- the innermost scope

pub top_refused : (n : ℕ) (f : WrittenScope → WrittenScope × ℕ) (old rest : List Open) (o outermost : Open) → old ≡ rest ++ o ∷ [] → n ≤ scope_size (f (scope_of o)).0 → IsWithin n written_size (on_top f (scopes_in old outermost))
unfolding on_top
top_refused n f old rest o outermost was le = rw (was, scopes_push rest o outermost) (record { within = top_within n (f (scope_of o)).0 (scopes_in rest outermost) le })

pub outermost_refused : (n : ℕ) (f : WrittenScope → WrittenScope × ℕ) (old : List Open) (o : Open) → old ≡ [] → n ≤ scope_size (f (scope_of o)).0 → IsWithin n written_size (on_top f (scopes_in old o))
unfolding on_top
outermost_refused n f old o was le = rw was (record { within = top_within n (f (scope_of o)).0 [] le })

pub top_not_named : (n : ℕ) (f : WrittenScope → WrittenScope) (old rest : List Open) (o outermost : Open) → old ≡ rest ++ o ∷ [] → n ≤ scope_size (f (scope_of o)) → n ≤ scopes_size (change_top f (scopes_in old outermost))
unfolding change_top
top_not_named n f old rest o outermost was le = rw (was, scopes_push rest o outermost) (top_within n (f (scope_of o)) (scopes_in rest outermost) le)

-- ---- along a path

pub along_last_refused : (n from : ℕ) (name : List ℕ) (path rest : Path) (m : WrittenScope) → path ≡ name ∷ rest → length rest ≡ 0 → n ≤ scope_size (add_alias (alias.Export sort.Ty from name) m).0 → n ≤ scope_size (along from path m).0
unfolding along
along_last_refused n from name path [] m is none le = rw is le
along_last_refused n from name path (next ∷ names) m is none le = absurd (omega (arith, none))

pub along_instance_refused : (n from : ℕ) (name : List ℕ) (path rest : Path) (m : WrittenScope) → path ≡ name ∷ rest → ¬ (length rest ≡ 0) → n ≤ scope_size (add_instance from name m).0 → n ≤ scope_size (along from path m).0
unfolding along
along_instance_refused n from name path [] m is some le = absurd (some refl)
along_instance_refused n from name path (next ∷ names) m is some le =
    let later = (add_instance from name m).0 in
    rw is (later_within n later (along (add_instance from name m).1 (next ∷ names) later).0 (grows_along (add_instance from name m).1 (next ∷ names) later) le)

pub along_more_refused : (n from inst : ℕ) (name : List ℕ) (path rest : Path) (m next : WrittenScope) → path ≡ name ∷ rest → ¬ (length rest ≡ 0) → add_instance from name m ≡ (next, inst) → n ≤ scope_size (along inst rest next).0 → n ≤ scope_size (along from path m).0
unfolding along
along_more_refused n from inst name path [] m next is some h le = absurd (some refl)
along_more_refused n from inst name path (x ∷ names) m next is some h le =
    rw is (subst (λ (p : WrittenScope × ℕ). n ≤ scope_size (along p.1 (x ∷ names) p.0).0) (sym h) le)

pub along_known_refused : (n : ℕ) (m : WrittenScope) (at : Option At) (from : ℕ) (path : Path) → at ≡ Some (InInstance from path) → n ≤ scope_size (along from path m).0 → IsSomeAnd at (λ at. n ≤ scope_size (index_in at m).0)
along_known_refused n m at from path is le = rw is le

-- ---- what is known

here_refused : (n : ℕ) (m : WrittenScope) (ms : List WrittenScope) (further : Wrote (ℕ × ℕ)) (at : Option At) → IsSomeAnd at (λ at. n ≤ scope_size (index_in at m).0) → IsWithin n standing_size (stood m ms further at)
here_refused n m ms further None h = absurd h
here_refused n m ms further (Some at) h = record { within = omega (arith, top_within n (index_in at m).0 ms h) }

further_refused : (n : ℕ) (m : WrittenScope) (ms : List WrittenScope) (further : Wrote (ℕ × ℕ)) (at : Option At) → at ≡ None → IsWithin n standing_size further → IsWithin n standing_size (stood m ms further at)
further_refused n m ms further (Some at) none h = absurd cc
further_refused n m ms None None none h = record { within = tt }
further_refused n m ms (Some x) None none h = let le = h.within in record { within = omega (arith, le) }

up_refused : (n up i : ℕ) (m : WrittenScope) (ms next : List WrittenScope) (further : Wrote (ℕ × ℕ)) (at : Option At) → at ≡ None → further ≡ Some (next, (up, i)) → n ≡ suc up → IsWithin n standing_size (stood m ms further at)
up_refused n up i m ms next further (Some at) none is e = absurd cc
up_refused n up i m ms next further None none is e = rw is (record { within = omega (arith, e) })

pub none_known : (m : WrittenScope) (at : Option At) → None ≡ option_map (λ at. index_in at m) at → at ≡ None
none_known m None h = refl
none_known m (Some at) h = absurd cc

pub stand_refused : (n : ℕ) (old rest : List Open) (o outermost : Open) (key : Mention) → old ≡ rest ++ o ∷ [] → IsSomeAnd (known_at o.known key) (λ at. n ≤ scope_size (index_in at (scope_of o)).0) → IsWithin n standing_size (standing (scopes_in old outermost) key)
unfolding standing
stand_refused n old rest o outermost key was h =
    rw (was, scopes_push rest o outermost)
    (here_refused n (scope_of o) (scopes_in rest outermost) (option_and_then (standing (scopes_in rest outermost)) (mention_outside o.width key)) (known_at o.known key) h)

pub stand_outermost_refused : (n : ℕ) (old : List Open) (o : Open) (key : Mention) → old ≡ [] → IsSomeAnd (known_at o.known key) (λ at. n ≤ scope_size (index_in at (scope_of o)).0) → IsWithin n standing_size (standing (scopes_in old o) key)
unfolding standing
stand_outermost_refused n old o key was h =
    rw was (here_refused n (scope_of o) [] (option_and_then (standing []) (mention_outside o.width key)) (known_at o.known key) h)

pub stand_around_refused : (n : ℕ) (old rest : List Open) (o later outermost : Open) (key outer : Mention) → old ≡ rest ++ o ∷ [] → scope_of later ≡ scope_of o → None ≡ option_map (λ at. index_in at (scope_of o)) (known_at o.known key) → Some outer ≡ mention_outside later.width key
    → IsWithin n standing_size (standing (scopes_in rest outermost) outer) → IsWithin n standing_size (standing (scopes_in old outermost) key)
unfolding standing
stand_around_refused n old rest o later outermost key outer was same none out h =
    let ms = scopes_in rest outermost in
    let there : Some outer ≡ mention_outside o.width key = out ∙ ap (λ (m : WrittenScope). mention_outside m.width key) same in
    rw (was, scopes_push rest o outermost)
    (further_refused n (scope_of o) ms (option_and_then (standing ms) (mention_outside o.width key)) (known_at o.known key) (none_known (scope_of o) (known_at o.known key) none)
    (subst (λ k. IsWithin n standing_size (option_and_then (standing ms) k)) there h))

pub stand_up_refused : (n up i : ℕ) (old rest : List Open) (o later outermost : Open) (next : List WrittenScope) (key outer : Mention) → old ≡ rest ++ o ∷ [] → scope_of later ≡ scope_of o → None ≡ option_map (λ at. index_in at (scope_of o)) (known_at o.known key) → Some outer ≡ mention_outside later.width key
    → standing (scopes_in rest outermost) outer ≡ Some (next, (up, i)) → n ≡ suc up → IsWithin n standing_size (standing (scopes_in old outermost) key)
unfolding standing
stand_up_refused n up i old rest o later outermost next key outer was same none out is e =
    let ms = scopes_in rest outermost in
    let there : Some outer ≡ mention_outside o.width key = out ∙ ap (λ (m : WrittenScope). mention_outside m.width key) same in
    rw (was, scopes_push rest o outermost)
    (up_refused n up i (scope_of o) ms next (option_and_then (standing ms) (mention_outside o.width key)) (known_at o.known key) (none_known (scope_of o) (known_at o.known key) none) (ap (option_and_then (standing ms)) (sym there) ∙ is) e)

-- an alias has the number of scopes in it
brought_within : (n : ℕ) (ms : List WrittenScope) (up i : ℕ) → n ≤ max (scopes_size ms) up → IsWithin n written_size (brought ms up i)
unfolding brought on_top decl_largest
brought_within n ms zero i le = record { within = omega (arith, le) }
brought_within n [] (suc up) i le = record { within = tt }
brought_within n (m ∷ ms) (suc up) i le =
    let a = tree.Aliased (alias.Outer sort.Ty (suc up) i) in
    let later = (add_alias (alias.Outer sort.Ty (suc up) i) m).0 in
    let grown : Growing (m ∷ ms) (brought (m ∷ ms) (suc up) i) = growing_brought (m ∷ ms) (suc up) i in
    let sizes : scopes_size (m ∷ ms) ≤ scopes_size (later ∷ ms) = sizes_grow (m ∷ ms) (later ∷ ms) grown in
    let last : suc up ≤ decls_size (with_decl m.decls a) = last_within (suc up) m.decls a (omega arith) in
    let here : suc up ≤ scopes_size (later ∷ ms) = top_within (suc up) later ms (decls_within (suc up) later last) in
    record { within = omega (arith, le, sizes, here) }

pub index_refused : (n : ℕ) (key : Mention) (ms : List WrittenScope) → IsWithin n standing_size (standing ms key) → IsWithin n written_size (type_index key ms)
unfolding type_index
index_refused n key ms h = one (standing ms key) h
  where
    one : (w : Wrote (ℕ × ℕ)) → IsWithin n standing_size w → IsWithin n written_size (option_and_then (λ x. brought x.0 x.1.0 x.1.1) w)
    one None h = record { within = tt }
    one (Some x) h = brought_within n x.0 x.1.0 x.1.1 h.within

pub outer_refused : (n : ℕ) (key : Mention) (ms next : List WrittenScope) (up i : ℕ) → ¬ (up ≡ 0) → standing ms key ≡ Some (next, (up, i)) → IsWithin n written_size (on_top (add_alias (alias.Outer sort.Ty up i)) next) → IsWithin n written_size (type_index key ms)
unfolding type_index brought
outer_refused n key ms next zero i some is h = absurd (some refl)
outer_refused n key ms next (suc up) i some is h =
    within_same n written_size (brought next (suc up) i) (option_and_then (λ x. brought x.0 x.1.0 x.1.1) (standing ms key)) (sym (ap (option_and_then (λ x. brought x.0 x.1.0 x.1.1)) is)) h

-- ---- scopes that are closed

-- no index space of a scope has more items than there are declarations
pub closed_within : (n width : ℕ) (ms : List WrittenScope) (w : Option (List WrittenScope)) → GrowingWithin width ms w → IsWithin n scopes_size w → IsWithin n closed_size (option_and_then closed w)
unfolding closed definition_largest
closed_within n width ms None g h = record { within = tt }
closed_within n width ms (Some []) g h = record { within = tt }
closed_within n width ms (Some (m ∷ ns)) g h =
    let le = h.within in
    let types = g.0.types.by in
    let instances = g.0.instances.by in
    let core_types = g.0.core_types.by in
    record { within = omega (arith, le, types, instances, core_types) }

-- a type of a scope that was closed has its declarations in it
pub ended_within : (n : ℕ) (type_of : Decls → TypeTree) → ((ds : Decls) → definition_largest (type_of ds) ≡ decls_size ds) → (w : Wrote Decls) → IsWithin n closed_size w → IsWithin n written_size (then_type (wrote_as type_of w))
unfolding on_top decl_largest
ended_within n type_of size None h = record { within = tt }
ended_within n type_of size (Some x) h = one x.0 h.within
  where
    one : (ms : List WrittenScope) → n ≤ max (scopes_size ms) (decls_size x.1) → IsWithin n written_size (on_top (add_type (type_of x.1)) ms)
    one [] le = record { within = tt }
    one (m ∷ ms) le =
        let t = tree.Ty (type_of x.1) in
        let later = (add_type (type_of x.1) m).0 in
        let sizes : scopes_size (m ∷ ms) ≤ scopes_size (later ∷ ms) = sizes_grow (m ∷ ms) (later ∷ ms) (grows_types m t, all_same ms) in
        let same = size x.1 in
        let last : decls_size x.1 ≤ decls_size (with_decl m.decls t) = last_within (decls_size x.1) m.decls t (omega (arith, same)) in
        let here : decls_size x.1 ≤ scopes_size (later ∷ ms) = top_within (decls_size x.1) later ms (decls_within (decls_size x.1) later last) in
        record { within = omega (arith, le, sizes, here) }

pub module_within : (n : ℕ) (t : core.CoreTree) (ms : List WrittenScope) → n ≤ core_largest t → IsWithin n written_size (on_top (add_core_type t) ms)
unfolding on_top decl_largest
module_within n t [] le = record { within = tt }
module_within n t (m ∷ ms) le =
    let later = (add_core_type t m).0 in
    record { within = top_within n later ms (decls_within n later (last_within n m.decls (tree.CoreTy t) le)) }

pub instance_size : (ds : Decls) → definition_largest (tree.Instance ds) ≡ decls_size ds
unfolding definition_largest
instance_size ds = refl

pub component_size : (ds : Decls) → definition_largest (tree.Component ds) ≡ decls_size ds
component_size ds = refl

-- ---- an import or an export

pub named_within : (n : ℕ) (side : Side) (name : List ℕ) (e : EntityTree) (ty : TypeRef) (ms : List WrittenScope) → n ≤ scopes_size (change_top (λ m. counted ty (declare (item_of side name ty) m)) ms) → n ≤ scopes_size (with_named (item_of side) name e ty ms)
unfolding change_top with_named
named_within n side name e ty [] le = le
named_within n side name e ty (m ∷ ms) le =
    let next = counted ty (declare (item_of side name ty) m) ∷ ms in
    let grown = sizes_grow next (noted e m next) (noted_grows e m next) in
    omega (arith, le, grown)
