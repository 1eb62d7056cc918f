-- Scopes only grow where something is written into them.
use Rattle.std.proofs.Common.{◌≡◌, ℕ, suc, ◌+◌, ◌≤◌, ◌^◌, length, inl, inr, Bool, true, false, max, List, [], ◌∷◌, ◌++◌, refl, sym, ap, subst, ◌∙◌, arith}
use Rattle.std.proofs.lemmas.List.Sums.{count_by-le-length}
use Rattle.std.specs.Prelude.{◌⊎◌, if◌then◌else◌}
use Rattle.comp_format.specs.declared.types.Alias.TheVariants as alias
use Rattle.comp_format.specs.declared.types.Sort.TheVariants as sort
use Rattle.comp_format.specs.declared.types.TypeRef.{TypeRef}
use Rattle.comp_format.specs.declared.types.TypeRef.TheVariants as description
use Rattle.comp_format.specs.Definitions as tree
use Rattle.comp_format.specs.Definitions.{TypeTree, DeclTree, Decls, decl_count, with_decl}
use Rattle.comp_format.specs.declared.types.Sort.{Sort}
use Rattle.comp_format.specs.Spaces.{space_of}
use Rattle.comp_encoder.specs.Largest.{decl_largest, decls_largest, definition_largest, description_largest}
use Rattle.comp_encoder.specs.Writing.{Entry, items_of, item_sort, next_index, numbers}
use Rattle.compose_types.specs.Bodies.{decls_in, entries_for}
use Rattle.comp_entity.specs.Entity.{EntityTree, IsType, IsFunc, IsInstance, IsComponent, IsModule, IsOwnModule}
use Rattle.comp_entity.specs.Names.{Mention}
use Rattle.comp_entity.specs.Places.{Path, names_itself, leaves_in}
use Rattle.compose_writing.specs.Keys.{At, Index, InInstance, KnownThings}
use Rattle.compose_writing.specs.Scopes.{WrittenScope, declared, add_instance, change_top, knows, with_known, along, index_in}
use Rattle.compose_writing.specs.WriteEntities.{write_import, counted, note_new, note_all, note_here, leaves_known, noted, with_named}
use Rattle.compose_types.specs.Largest.{IsTooLarge, decls_size, scope_size, scopes_size}

-- ---- declarations

pub count_push : (ds : Decls) (d : DeclTree) → decl_count (with_decl ds d) ≡ suc (decl_count ds)
count_push tree.none d = refl
count_push (tree.more first ds) d = ap suc (count_push ds d)

pub largest_push : (ds : Decls) (d : DeclTree) → decls_largest ds ≤ decls_largest (with_decl ds d)
unfolding decls_largest
largest_push tree.none d = omega arith
largest_push (tree.more first ds) d = let rest = largest_push ds d in grind (arith, rest)

pub last_largest : (ds : Decls) (d : DeclTree) → decl_largest d ≤ decls_largest (with_decl ds d)
unfolding decls_largest
last_largest tree.none d = grind arith
last_largest (tree.more first ds) d = let rest = last_largest ds d in grind (arith, rest)

pub size_is : (ds : Decls) → decls_size ds ≡ max (decl_count ds) (decls_largest ds)
unfolding definition_largest
size_is ds = refl

-- ---- one scope

-- a number of items grows by no more than the declarations do
pub record Counts (few more_ : ℕ) (before after : ℕ) : Type 0 where
  pub up : few ≤ more_
  pub by : more_ + before ≤ few + after

pub record Grows (m n : WrittenScope) : Type 0 where
  pub width : m.width ≡ n.width
  pub decls : decl_count m.decls ≤ decl_count n.decls
  pub largest : decls_largest m.decls ≤ decls_largest n.decls
  pub types : Counts m.types n.types (decl_count m.decls) (decl_count n.decls)
  pub instances : Counts m.instances n.instances (decl_count m.decls) (decl_count n.decls)
  pub core_types : Counts m.core_types n.core_types (decl_count m.decls) (decl_count n.decls)

counts_same : (a b c : ℕ) → b ≤ c → Counts a a b c
counts_same a b c le = record { up = omega arith; by = omega (arith, le) }

counts_one : (a b c : ℕ) → c ≡ suc b → Counts a (suc a) b c
counts_one a b c e = record { up = omega arith; by = omega (arith, e) }

counts_then : (a b c x y z : ℕ) → Counts a b x y → Counts b c y z → Counts a c x z
counts_then a b c x y z p q = let pu = p.up in let qu = q.up in let pb = p.by in let qb = q.by in record { up = omega (arith, pu, qu); by = omega (arith, pb, qb) }

pub grows_same : (m : WrittenScope) → Grows m m
grows_same m = record {
  width = refl;
  decls = omega arith;
  largest = omega arith;
  types = counts_same m.types (decl_count m.decls) (decl_count m.decls) (omega arith);
  instances = counts_same m.instances (decl_count m.decls) (decl_count m.decls) (omega arith);
  core_types = counts_same m.core_types (decl_count m.decls) (decl_count m.decls) (omega arith);
}

pub grows_then : (m n o : WrittenScope) → Grows m n → Grows n o → Grows m o
grows_then m n o p q = let pd = p.decls in let qd = q.decls in let pl = p.largest in let ql = q.largest in record {
  width = p.width ∙ q.width;
  decls = omega (arith, pd, qd);
  largest = omega (arith, pl, ql);
  types = counts_then m.types n.types o.types (decl_count m.decls) (decl_count n.decls) (decl_count o.decls) p.types q.types;
  instances = counts_then m.instances n.instances o.instances (decl_count m.decls) (decl_count n.decls) (decl_count o.decls) p.instances q.instances;
  core_types = counts_then m.core_types n.core_types o.core_types (decl_count m.decls) (decl_count n.decls) (decl_count o.decls) p.core_types q.core_types;
}

module _ (m : WrittenScope) (d : DeclTree) where
  one_more : decl_count (with_decl m.decls d) ≡ suc (decl_count m.decls)
  one_more = count_push m.decls d

  pub grows_declared : Grows m (declared d m)
  grows_declared = let e = one_more in record {
    width = refl;
    decls = omega (arith, e);
    largest = largest_push m.decls d;
    types = counts_same m.types (decl_count m.decls) (decl_count (with_decl m.decls d)) (omega (arith, e));
    instances = counts_same m.instances (decl_count m.decls) (decl_count (with_decl m.decls d)) (omega (arith, e));
    core_types = counts_same m.core_types (decl_count m.decls) (decl_count (with_decl m.decls d)) (omega (arith, e));
  }

  pub grows_types : Grows m (record (declared d m) { types = suc m.types })
  grows_types = let g = grows_declared in record { width = refl; decls = g.decls; largest = g.largest; types = counts_one m.types (decl_count m.decls) (decl_count (with_decl m.decls d)) one_more; instances = g.instances; core_types = g.core_types }

  pub grows_instances : Grows m (record (declared d m) { instances = suc m.instances })
  grows_instances = let g = grows_declared in record { width = refl; decls = g.decls; largest = g.largest; types = g.types; instances = counts_one m.instances (decl_count m.decls) (decl_count (with_decl m.decls d)) one_more; core_types = g.core_types }

  pub grows_core_types : Grows m (record (declared d m) { core_types = suc m.core_types })
  grows_core_types = let g = grows_declared in record { width = refl; decls = g.decls; largest = g.largest; types = g.types; instances = g.instances; core_types = counts_one m.core_types (decl_count m.decls) (decl_count (with_decl m.decls d)) one_more }

pub grows_counted : (m : WrittenScope) (d : DeclTree) (ty : TypeRef) → Grows m (counted ty (declared d m))
grows_counted m d (description.TyEqual i) = grows_types m d
grows_counted m d description.TyFresh = grows_types m d
grows_counted m d (description.Instance i) = grows_instances m d
grows_counted m d (description.Module i) = grows_declared m d
grows_counted m d (description.Func i) = grows_declared m d
grows_counted m d (description.Component i) = grows_declared m d

grows_known : (key : Mention) (at : At) (m : WrittenScope) → Grows m (with_known key at m)
grows_known key at m = one _
  where
    same : Grows m (record m { known = m.known ++ (key, at) ∷ [] })
    same = let g = grows_same m in record { width = refl; decls = g.decls; largest = g.largest; types = g.types; instances = g.instances; core_types = g.core_types }

    one : (b : Bool) → Grows m (if b then m else record m { known = m.known ++ (key, at) ∷ [] })
    one true = grows_same m
    one false = same

pub grows_along : (from : ℕ) (path : Path) (m : WrittenScope) → Grows m (along from path m).0
unfolding along
grows_along from [] m = grows_same m
grows_along from (name ∷ []) m = grows_types m (tree.Aliased (alias.Export sort.Ty from name))
grows_along from (name ∷ next ∷ names) m = grows_then m (add_instance from name m).0 _ (grows_instances m (tree.Aliased (alias.Export sort.Instance from name))) (grows_along (add_instance from name m).1 (next ∷ names) (add_instance from name m).0)

pub grows_index : (at : At) (m : WrittenScope) → Grows m (index_in at m).0
grows_index (Index i) m = grows_same m
grows_index (InInstance from path) m = grows_along from path m

-- ---- scopes

abbrev pub GrowAll : List WrittenScope → List WrittenScope → Type 0
GrowAll [] [] = Unit {0}
GrowAll (m ∷ ms) (n ∷ ns) = Grows m n × GrowAll ms ns
GrowAll [] (n ∷ ns) = ⊥
GrowAll (m ∷ ms) [] = ⊥

pub all_same : (ms : List WrittenScope) → GrowAll ms ms
all_same [] = tt
all_same (m ∷ ms) = (grows_same m, all_same ms)

pub all_then : (ms ns os : List WrittenScope) → GrowAll ms ns → GrowAll ns os → GrowAll ms os
all_then [] [] [] p q = tt
all_then [] [] (o ∷ os) p q = q
all_then [] (n ∷ ns) os p q = elim p [ ]
all_then (m ∷ ms) [] os p q = elim p [ ]
all_then (m ∷ ms) (n ∷ ns) [] p q = elim q [ ]
all_then (m ∷ ms) (n ∷ ns) (o ∷ os) p q = (grows_then m n o p.0 q.0, all_then ms ns os p.1 q.1)

pub scope_grows : (m n : WrittenScope) → Grows m n → scope_size m ≤ scope_size n
unfolding definition_largest
scope_grows m n g = let a = g.decls in let b = g.largest in let c = g.types.up in let d = g.instances.up in let e = g.core_types.up in grind (arith, a, b, c, d, e)

pub sizes_grow : (ms ns : List WrittenScope) → GrowAll ms ns → scopes_size ms ≤ scopes_size ns
sizes_grow [] [] g = omega arith
sizes_grow [] (n ∷ ns) g = elim g [ ]
sizes_grow (m ∷ ms) [] g = elim g [ ]
sizes_grow (m ∷ ms) (n ∷ ns) g = let a = scope_grows m n g.0 in let b = sizes_grow ms ns g.1 in omega (arith, a, b)

-- ---- what is noted

all_changed : (ms : List WrittenScope) (f : WrittenScope → WrittenScope) → ((m : WrittenScope) → Grows m (f m)) → GrowAll ms (change_top f ms)
unfolding change_top
all_changed [] f h = tt
all_changed (m ∷ ms) f h = (h m, all_same ms)

pub all_new : (key : Mention) (at : At) (ms : List WrittenScope) → GrowAll ms (note_new key at ms)
all_new key at ms = one (knows ms key)
  where
    one : (b : Bool) → GrowAll ms (if b then ms else change_top (with_known key at) ms)
    one true = all_same ms
    one false = all_changed ms (with_known key at) (grows_known key at)

all_noted : (ks : KnownThings) (ms : List WrittenScope) → GrowAll ms (note_all ks ms)
unfolding note_all
all_noted [] ms = all_same ms
all_noted (k ∷ ks) ms = all_then ms (note_new k.0 k.1 ms) (note_all ks (note_new k.0 k.1 ms)) (all_new k.0 k.1 ms) (all_noted ks (note_new k.0 k.1 ms))

all_here : (keys : List Mention) (index : ℕ) (ms : List WrittenScope) → GrowAll ms (note_here keys index ms)
unfolding note_here
all_here [] index ms = all_same ms
all_here (key ∷ keys) index ms = all_then ms (change_top (with_known key (Index index)) ms) (note_here keys index (change_top (with_known key (Index index)) ms)) (all_changed ms (with_known key (Index index)) (grows_known key (Index index))) (all_here keys index (change_top (with_known key (Index index)) ms))

pub noted_grows : (e : EntityTree) (m : WrittenScope) (ms : List WrittenScope) → GrowAll ms (noted e m ms)
noted_grows (IsInstance es) m ms = all_noted (leaves_known m.instances (leaves_in [] es)) ms
noted_grows (IsType t) m ms = all_here (names_itself (IsType t)) m.types ms
noted_grows (IsFunc f) m ms = all_here [] m.types ms
noted_grows (IsComponent is es) m ms = all_here [] m.types ms
noted_grows (IsModule n) m ms = all_here [] m.types ms
noted_grows IsOwnModule m ms = all_here [] m.types ms

pub named_grows : (item : List ℕ → TypeRef → DeclTree) (name : List ℕ) (e : EntityTree) (ty : TypeRef) (ms : List WrittenScope) → GrowAll ms (with_named item name e ty ms)
unfolding with_named
named_grows item name e ty [] = tt
named_grows item name e ty (m ∷ ms) = all_then (m ∷ ms) (counted ty (declared (item name ty) m) ∷ ms) (noted e m (counted ty (declared (item name ty) m) ∷ ms)) (grows_counted m (item name ty) ty, all_same ms) (noted_grows e m (counted ty (declared (item name ty) m) ∷ ms))

-- ---- an import

large_then : (n a b : ℕ) → IsTooLarge n a → a ≤ b → IsTooLarge n b
large_then n a b h le = let among = h.among in record { large = h.large; among = omega (arith, among, le) }

-- what is declared in a component is an item each
items_few : (ds : Decls) → length (items_of (entries_for ds)) ≤ decl_count ds
items_few tree.none = omega arith
items_few (tree.more (tree.CoreTy t) ds) = let rest = items_few ds in omega (arith, rest)
items_few (tree.more (tree.Ty t) ds) = let rest = items_few ds in omega (arith, rest)
items_few (tree.more (tree.Aliased a) ds) = let rest = items_few ds in omega (arith, rest)
items_few (tree.more (tree.Import name ty) ds) = let rest = items_few ds in omega (arith, rest)
items_few (tree.more (tree.Export name ty) ds) = let rest = items_few ds in omega (arith, rest)

pub next_few : (kind : Sort) (ds : Decls) → next_index kind (entries_for ds) ≤ decl_count ds
next_few kind ds = let a = items_few ds in let b = count_by-le-length (λ item. numbers (space_of kind) (item_sort item)) (items_of (entries_for ds)) in omega (arith, a, b)

item_largest : (n : ℕ) (name : List ℕ) (ty : TypeRef) (ds : Decls) → n ≡ length name → n ≤ decls_size (with_decl ds (tree.Import name ty))
unfolding decl_largest
item_largest n name ty ds e =
    let last : max (length name) (description_largest ty) ≤ decls_largest (with_decl ds (tree.Import name ty)) = last_largest ds (tree.Import name ty) in
    let size = size_is (with_decl ds (tree.Import name ty)) in
    grind (arith, e, last, size)

item_counted : (n : ℕ) (d : DeclTree) (ds : Decls) → n ≤ decl_count ds + 1 → n ≤ decls_size (with_decl ds d)
item_counted n d ds le =
    let count = count_push ds d in
    let size = size_is (with_decl ds d) in
    grind (arith, le, count, size)

pub item_refused : (n : ℕ) (name : List ℕ) (ty : TypeRef) (kind : Sort) (es : List Entry) → es ≡ entries_for (decls_in es) → 2 ^ 32 ≤ n → (n ≡ length name) ⊎ (n ≡ next_index kind es + 1) → IsTooLarge n (decls_size (with_decl (decls_in es) (tree.Import name ty)))
item_refused n name ty kind es all large (inl e) = record { large = large; among = item_largest n name ty (decls_in es) e }
item_refused n name ty kind es all large (inr e) =
    let few = next_few kind (decls_in es) in
    let same : next_index kind es ≡ next_index kind (entries_for (decls_in es)) = ap (next_index kind) all in
    record { large = large; among = item_counted n (tree.Import name ty) (decls_in es) (omega (arith, e, few, same)) }

decls_in_scope : (n : ℕ) (m : WrittenScope) → IsTooLarge n (decls_size m.decls) → IsTooLarge n (scope_size m)
decls_in_scope n m h = large_then n (decls_size m.decls) (scope_size m) h (grind arith)

-- counting leaves the declarations
counted_decls : (ty : TypeRef) (m : WrittenScope) → (counted ty m).decls ≡ m.decls
counted_decls (description.TyEqual i) m = refl
counted_decls description.TyFresh m = refl
counted_decls (description.Instance i) m = refl
counted_decls (description.Module i) m = refl
counted_decls (description.Func i) m = refl
counted_decls (description.Component i) m = refl

pub item_in_scope : (n : ℕ) (ty : TypeRef) (m : WrittenScope) → IsTooLarge n (decls_size m.decls) → IsTooLarge n (scope_size (counted ty m))
item_in_scope n ty m h = decls_in_scope n (counted ty m) (subst (λ (ds : Decls). IsTooLarge n (decls_size ds)) (sym (counted_decls ty m)) h)

pub types_in_scope : (n types : ℕ) (m : WrittenScope) → 2 ^ 32 ≤ n → n ≡ suc types → m.types ≡ suc types → IsTooLarge n (scope_size m)
types_in_scope n types m large e is = record { large = large; among = grind (arith, e, is) }

pub instances_in_scope : (n instances : ℕ) (m : WrittenScope) → 2 ^ 32 ≤ n → n ≡ suc instances → m.instances ≡ suc instances → IsTooLarge n (scope_size m)
instances_in_scope n instances m large e is = record { large = large; among = grind (arith, e, is) }

pub import_in_scopes : (n : ℕ) (name : List ℕ) (e : EntityTree) (ty : TypeRef) (m : WrittenScope) (old : List WrittenScope) → old ≡ m ∷ [] → IsTooLarge n (scope_size (counted ty (declared (tree.Import name ty) m))) → IsTooLarge n (scopes_size (write_import name e ty old))
unfolding with_named
import_in_scopes n name e ty m old is h =
    let next = counted ty (declared (tree.Import name ty) m) in
    subst (λ (ms : List WrittenScope). IsTooLarge n (scopes_size (write_import name e ty ms))) (sym is)
    (large_then n (scope_size next) (scopes_size (noted e m (next ∷ []))) h (let grown = sizes_grow (next ∷ []) (noted e m (next ∷ [])) (noted_grows e m (next ∷ [])) in grind (arith, grown)))
