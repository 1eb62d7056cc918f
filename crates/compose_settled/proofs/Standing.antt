-- What stands at the paths of an import that was written, and what its numbers mean.
use Rattle.std.proofs.Common.{◌≡◌, ℕ, ◌+◌, ◌-◌, Bool, true, false, cond, List, [], ◌∷◌, ◌++◌, length, Option, Some, None, Result, Ok, Err, refl, sym, ap, subst, ◌∙◌, arith}
use Rattle.std.specs.Prelude.{◌==◌, bytes_eq, nat_lt, option_and_then, option_map, slice_get}
use Rattle.std.specs.List.{AllByRecursion}
use Rattle.std.specs.Cmp.Lexicographic.{same_text}
use Rattle.std.proofs.lemmas.Bool.{and_parts, eqb-true}
use Rattle.warg_values.specs.Reading.{◌>>=◌}
use Rattle.comp_format.specs.declared.types.TypeRef.{TypeRef}
use Rattle.comp_format.specs.Definitions as tree
use Rattle.comp_entity.specs.Entity.{Name, ValueTree, RecordOf, VariantOf, FlagsOf, EnumOf, TypeShapeTree, Value, EntityTree, IsType, IsFunc, IsInstance, IsComponent, IsModule, IsOwnModule, Entries, no_entry, entry}
use Rattle.comp_entity.specs.Bounds.{ShapeFault, Index as Unreadable, unbounded}
use Rattle.comp_entity.specs.Fits.{place_of, same_name, under}
use Rattle.comp_entity.specs.Names.{changing, deeper, outside, value_by, without_places, bare, Mention, OfPlace}
use Rattle.comp_entity.specs.NameLaws.{Keeps as KeepsNames, entity_kept, value_twice}
use Rattle.comp_entity.specs.Places.{Path, named_value}
use Rattle.comp_scope.specs.Descriptions.{Described, described, imported, new_brought, with_brought, with_import}
use Rattle.comp_scope.specs.Spaces.{Known, Spaces, Standing, added, counts_sum, is_taken, placed}
use Rattle.comp_scope.specs.Types.{with_decl, with_decls}
use Rattle.compose_writing.specs.Scopes.{WrittenScope}
use Rattle.compose_writing.specs.WriteEntities.{at_end}
use Rattle.compose_meaning.specs.Meaning.{Meaning, Means, OneTree, meant, placed_entity, placing}
use Rattle.compose_meaning.specs.Readable.{HasMeaning, HaveMeaning, Spot, brought_keys, keys_among, within}
use Rattle.compose_meaning.specs.Shows.{AllShow, HasBit, Shows}
use Rattle.compose_meaning.specs.Stands.{at_path, at_place, exports_of}
use Rattle.compose_known.specs.Imports.{next_place}
use Rattle.compose_origins.specs.Placed.{value_at}
use Rattle.compose_settled.specs.ReadBack.{}

-- ---- what is found

pub same_is : (a b : Name) → same_name a b ≡ true → a ≡ b
same_is a b h =
    let parts = and_parts (a.out == b.out) (a.number == b.number) h in
    let out = eqb-true a.out b.out parts.0 in
    let number = eqb-true a.number b.number parts.1 in
    λ i. record { out = out i; number = number i }

pub ok_is : {X : Type 0} (x y : X) → ◌≡◌ {A = Result X ShapeFault} (Ok x) (Ok y) → x ≡ y
ok_is x y h = cc

pub some_is : {X : Type 0} (x y : X) → Some x ≡ Some y → x ≡ y
some_is x y h = cc

pub then_some : {X Y : Type 0} (f : X → Option Y) (o : Option X) (y : Y) → option_and_then f o ≡ Some y → (x : X) × (o ≡ Some x) × (f x ≡ Some y)
then_some f None y h = absurd cc
then_some f (Some x) y h = (x, refl, h)

pub map_some : {X Y : Type 0} (f : X → Y) (o : Option X) (y : Y) → option_map f o ≡ Some y → (x : X) × (o ≡ Some x) × (f x ≡ y)
map_some f None y h = absurd cc
map_some f (Some x) y h = (x, refl, cc)

module _ {X : Type 0} (P : X → Type 0) where
  pub front : (xs ys : List X) → AllByRecursion P (xs ++ ys) → AllByRecursion P xs
  front [] ys h = tt
  front (x ∷ xs) ys h = (h.0, front xs ys h.1)

  pub back : (xs ys : List X) → AllByRecursion P (xs ++ ys) → AllByRecursion P ys
  back [] ys h = h
  back (x ∷ xs) ys h = back xs ys h.1

pub last_of : {X : Type 0} (xs : List X) (x : X) → slice_get (xs ++ x ∷ []) (length xs) ≡ Some x
last_of [] x = refl
last_of (y ∷ xs) x = last_of xs x

-- ---- a declaration behind others

pub then_ok : {X : Type 0} (r : Result X ShapeFault) → (r >>= λ x. Ok x) ≡ r
then_ok (Ok x) = refl
then_ok (Err e) = refl

pub decl_behind : (k known : Known) (ds : tree.Decls) (d : tree.DeclTree) → with_decls unbounded [] k ds ≡ Ok known → with_decls unbounded [] k (tree.with_decl ds d) ≡ with_decl unbounded [] known d
unfolding with_decls
decl_behind k known tree.none d h = then_ok (with_decl unbounded [] k d) ∙ ap (λ k. with_decl unbounded [] k d) (ok_is k known h)
decl_behind k known (tree.more first ds) d h = by (with_decl unbounded [] k first) h (λ next. decl_behind next known ds d)
  where
    by : (r : Result Known ShapeFault) → (r >>= λ next. with_decls unbounded [] next ds) ≡ Ok known
        → ((next : Known) → with_decls unbounded [] next ds ≡ Ok known → with_decls unbounded [] next (tree.with_decl ds d) ≡ with_decl unbounded [] known d)
        → (r >>= λ next. with_decls unbounded [] next (tree.with_decl ds d)) ≡ with_decl unbounded [] known d
    by (Ok next) h rest = rest next h
    by (Err e) h rest = absurd cc

-- where an import is described, the scope has what is described behind the others
abbrev pub with_described : Spaces → Described → Spaces
with_described s what = placed (record s { brought = counts_sum s.brought what.brings }) what.standing.0 what.standing.1

pub import_is : (k known : Known) (name : List ℕ) (ty : TypeRef) (what : Described) → described k.spaces (new_brought k.spaces) ty ≡ Ok what → imported unbounded k name ty ≡ Ok known
    → known.spaces ≡ with_described k.spaces what
unfolding imported added
import_is k known name ty what is h = by (is_taken name k.imports) (described k.spaces (new_brought k.spaces) ty) is h
  where
    by : (taken : Bool) (r : Result Described ShapeFault) → r ≡ Ok what
        → cond taken (Err Unreadable) (r >>= λ d. with_brought unbounded k.spaces d >>= λ spaces. Ok (with_import k name d.standing spaces)) ≡ Ok known
        → known.spaces ≡ with_described k.spaces what
    by true r is h = absurd cc
    by false (Ok d) is h =
        let same : d ≡ what = ok_is d what is in
        ap (λ (k : Known). k.spaces) (sym (ok_is (with_import k name d.standing (with_described k.spaces d)) known h)) ∙ ap (with_described k.spaces) same
    by false (Err e) is h = absurd cc

-- ---- what stands at a path

pub type_is : (e : EntityTree) (v : ValueTree) → bare e ≡ IsType (Value v) → (t : TypeShapeTree) × (e ≡ IsType t)
type_is (IsType t) v h = (t, refl)
type_is (IsFunc f) v h = absurd cc
type_is (IsInstance es) v h = absurd cc
type_is (IsComponent is es) v h = absurd cc
type_is (IsModule m) v h = absurd cc
type_is IsOwnModule v h = absurd cc

-- what stands there shows the type
abbrev pub ShowsType : Meaning → ValueTree → Standing → Type 0
ShowsType mean t s = (bare s.0 ≡ placed_entity mean (IsType (Value t))) × HasBit mean (place_of t) s

abbrev pub Found : Type 0
Found = EntityTree × Bool

pub name_is : (a b : List ℕ) → bytes_eq a b ≡ true → a ≡ b
name_is a b h = same_text a b (sym h)

pub leaf_is : (e : EntityTree) (t : ValueTree) → value_at [] e ≡ Some t → e ≡ IsType (Value t)
leaf_is (IsType (Value u)) t is = ap (λ t. IsType (Value t)) (some_is u t is)
leaf_is _ t is = absurd cc

pub instance_is : (name : List ℕ) (path : Path) (e : EntityTree) (t : ValueTree) → value_at (name ∷ path) e ≡ Some t → (es : Entries) × (e ≡ IsInstance es)
instance_is name path (IsInstance es) t is = (es, refl)
instance_is name path _ t is = absurd cc

pub shown_under : (mean : Meaning) (name : List ℕ) (es fs : Entries) → AllShow mean es fs → (x : Found) → under name es ≡ Some x → (y : Standing) × (under name fs ≡ Some y) × Shows mean x.0 y
shown_under mean name no_entry fs h x is = absurd cc
shown_under mean name (entry m e p es) no_entry h x is = absurd h
shown_under mean name (entry m e p es) (entry n f q fs) h x is = by (bytes_eq name m) refl is (shown_under mean name es fs h.2 x)
  where
    by : (b : Bool) → bytes_eq name m ≡ b → cond b (Some (e, p)) (under name es) ≡ Some x
        → (under name es ≡ Some x → (y : Standing) × (under name fs ≡ Some y) × Shows mean x.0 y)
        → (y : Standing) × (under name (entry n f q fs) ≡ Some y) × Shows mean x.0 y
    by true same is rest = (
      (f, q),
      ap (λ b. cond b (Some (f, q)) (under name fs)) (ap (bytes_eq name) (sym h.0) ∙ same),
      subst (λ (x : Found). Shows mean x.0 (f, q)) (some_is (e, p) x is) h.1,
    )
    by false other is rest =
        let y = rest is in
        (y.0, ap (λ b. cond b (Some (f, q)) (under name fs)) (ap (bytes_eq name) (sym h.0) ∙ other) ∙ y.1, y.2)

pub shown_at : (mean : Meaning) (name : List ℕ) (path : Path) (es fs : Entries) → AllShow mean es fs → (t : ValueTree) → value_at (name ∷ path) (IsInstance es) ≡ Some t → (s : Standing) × (at_path (name ∷ path) fs ≡ Some s) × ShowsType mean t s
shown_at mean name [] es fs h t is =
    let x = then_some (λ (e : Found). value_at [] e.0) (under name es) t is in
    let y = shown_under mean name es fs h x.0 x.1 in
    (y.0, y.1, subst (λ e. Shows mean e y.0) (leaf_is x.0.0 t x.2) y.2)
shown_at mean name (next ∷ path) es fs h t is =
    let x = then_some (λ (e : Found). value_at (next ∷ path) e.0) (under name es) t is in
    let y = shown_under mean name es fs h x.0 x.1 in
    let inner = instance_is next path x.0.0 t x.2 in
    let shown : Shows mean (IsInstance inner.0) y.0 = subst (λ e. Shows mean e y.0) inner.1 y.2 in
    let s = shown_at mean next path inner.0 shown.0 shown.2 t (ap (value_at (next ∷ path)) (sym inner.1) ∙ x.2) in (
      s.0,
      ap (option_and_then (λ s. option_and_then (at_path (next ∷ path)) (exports_of s))) y.1
          ∙ ap (option_and_then (at_path (next ∷ path))) (ap (λ e. exports_of (e, y.0.1)) shown.1)
          ∙ s.1,
      s.2,
    )

-- so it does where the import stands
module _ (mean : Meaning) (s : Spaces) (what : Described) where
  pub stands_there : (e : EntityTree) (scope : WrittenScope) → scope.types ≡ length s.types → scope.instances ≡ length s.instances → Shows mean e what.standing
      → (path : Path) (t : ValueTree) → value_at path e ≡ Some t
      → (x : Standing) × (at_place (with_described s what) (at_end (next_place e scope) path) ≡ Some x) × ShowsType mean t x
  stands_there (IsType (Value u)) scope types instances shows [] t is =
      let ty = type_is what.standing.0 (value_by (placing mean.resource) 0 u) shows.0 in (
        what.standing,
        ap (slice_get (with_described s what).types) types
            ∙ ap (λ e. slice_get (placed (record s { brought = counts_sum s.brought what.brings }) e what.standing.1).types (length s.types)) ty.1
            ∙ last_of s.types (IsType ty.0, what.standing.1)
            ∙ ap (λ e. Some (e, what.standing.1)) (sym ty.1),
        subst (λ t. ShowsType mean t what.standing) (some_is u t is) shows,
      )
  stands_there (IsInstance es) scope types instances shows (name ∷ path) t is =
      let x = shown_at mean name path es shows.0 shows.2 t is in (
        x.0,
        ap (λ n. option_and_then (λ i. option_and_then (at_path (name ∷ path)) (exports_of i)) (slice_get (with_described s what).instances n)) instances
            ∙ ap (λ e. option_and_then (λ i. option_and_then (at_path (name ∷ path)) (exports_of i)) (slice_get (placed (record s { brought = counts_sum s.brought what.brings }) e what.standing.1).instances (length s.instances))) shows.1
            ∙ ap (option_and_then (λ i. option_and_then (at_path (name ∷ path)) (exports_of i))) (last_of s.instances (IsInstance shows.0, what.standing.1))
            ∙ x.1,
        x.2,
      )
  stands_there _ scope types instances shows [] t is = absurd cc
  stands_there _ scope types instances shows (name ∷ path) t is = absurd cc

-- ---- what a number means

pub deeper_kept : (d : ℕ) (n : Name) → outside (deeper 0) d n ≡ n
deeper_kept d n = by (nat_lt n.out d) refl
  where
    by : (b : Bool) → nat_lt n.out d ≡ b → cond b n (deeper d (deeper 0 (record n { out = n.out - d }))) ≡ n
    by true lt = refl
    by false ge = let back : n.out - d + 0 + d ≡ n.out = grind arith in ap (λ m. record { out = m; number = n.number }) back

pub nothing_deeper : KeepsNames (changing (deeper 0) (deeper 0))
nothing_deeper = record { resource = deeper_kept; place = λ d n. ap Some (deeper_kept d n); mark = λ m. refl }

pub bare_placed : (mean : Meaning) (t : ValueTree) → value_by (placing mean.resource) 0 (value_by without_places 0 t) ≡ value_by (placing mean.resource) 0 t
bare_placed mean t = value_twice (placing mean.resource) without_places (placing mean.resource) (record { resource = λ d n. refl; place = λ d n. refl; mark = λ m. refl }) 0 t

pub place_named : (mean : Meaning) (t : ValueTree) (r : Name) → place_of t ≡ Some r → OneTree mean t → value_by without_places 0 t ≡ mean.tree r
place_named mean (RecordOf (Some m) fs) r is h = h.0.1 ∙ ap mean.tree (some_is m r is)
place_named mean (VariantOf (Some m) cs) r is h = h.0.1 ∙ ap mean.tree (some_is m r is)
place_named mean (FlagsOf (Some m) ls) r is h = h.1 ∙ ap mean.tree (some_is m r is)
place_named mean (EnumOf (Some m) ls) r is h = h.1 ∙ ap mean.tree (some_is m r is)
place_named mean _ r is h = absurd cc

-- within an instance a place stands for the same type
mutual
  pub meant_at : (mean : Meaning) (p : Spot) (path : Path) (e : EntityTree) (t : ValueTree) (r : Name) → value_at path e ≡ Some t → place_of t ≡ Some r → HasMeaning mean p e → value_by without_places 0 t ≡ mean.tree r
  meant_at mean p [] (IsType (Value u)) t r is named h = place_named mean t r named (subst (OneTree mean) (some_is u t is) h.0)
  meant_at mean p (name ∷ path) (IsInstance es) t r is named h = meant_in (within p mean) _ name path es t r is named h
  meant_at mean p [] _ t r is named h = absurd cc
  meant_at mean p (name ∷ path) _ t r is named h = absurd cc

  pub meant_in : (mean : Meaning) (p : Spot) (name : List ℕ) (path : Path) (es : Entries) (t : ValueTree) (r : Name) → value_at (name ∷ path) (IsInstance es) ≡ Some t → place_of t ≡ Some r → HaveMeaning mean p es → value_by without_places 0 t ≡ mean.tree r
  meant_in mean p name path no_entry t r is named h = absurd cc
  meant_in mean p name path (entry n e mark es) t r is named h =
      by (bytes_eq name n) is (λ is. meant_at mean p path e t r is named h.1) (λ is. meant_in mean _ name path es t r is named h.2)
    where
      by : (b : Bool) → option_and_then (λ (e : Found). value_at path e.0) (cond b (Some (e, mark)) (under name es)) ≡ Some t
          → (value_at path e ≡ Some t → value_by without_places 0 t ≡ mean.tree r)
          → (option_and_then (λ (e : Found). value_at path e.0) (under name es) ≡ Some t → value_by without_places 0 t ≡ mean.tree r)
          → value_by without_places 0 t ≡ mean.tree r
      by true is here later = here is
      by false is here later = later is

-- what holds of all that an entity brings, holds of the place of a type in it
module _ (P : Mention → Type 0) where
  pub key_there : (t : ValueTree) (r : Name) → place_of t ≡ Some r → AllByRecursion P (named_value (place_of t)) → P (OfPlace r)
  key_there t r is h = (subst (λ o. AllByRecursion P (named_value o)) is h).0

  mutual
    pub key_at : (path : Path) (e : EntityTree) (t : ValueTree) (r : Name) → value_at path e ≡ Some t → place_of t ≡ Some r → AllByRecursion P (brought_keys e) → P (OfPlace r)
    key_at [] (IsType (Value u)) t r is named h = key_there t r named (subst (λ t. AllByRecursion P (named_value (place_of t))) (some_is u t is) h)
    key_at (name ∷ path) (IsInstance es) t r is named h = key_in name path es t r is named h
    key_at [] _ t r is named h = absurd cc
    key_at (name ∷ path) _ t r is named h = absurd cc

    key_in : (name : List ℕ) (path : Path) (es : Entries) (t : ValueTree) (r : Name) → value_at (name ∷ path) (IsInstance es) ≡ Some t → place_of t ≡ Some r → AllByRecursion P (keys_among es) → P (OfPlace r)
    key_in name path no_entry t r is named h = absurd cc
    key_in name path (entry n e mark es) t r is named h =
        by (bytes_eq name n) is (λ is. key_at path e t r is named (front P (brought_keys e) (keys_among es) h)) (λ is. key_in name path es t r is named (back P (brought_keys e) (keys_among es) h))
      where
        by : (b : Bool) → option_and_then (λ (e : Found). value_at path e.0) (cond b (Some (e, mark)) (under name es)) ≡ Some t
            → (value_at path e ≡ Some t → P (OfPlace r)) → (option_and_then (λ (e : Found). value_at path e.0) (under name es) ≡ Some t → P (OfPlace r)) → P (OfPlace r)
        by true is here later = here is
        by false is here later = later is

pub means_there : (mean : Meaning) (n r : Name) (t : ValueTree) (s : Standing) → place_of t ≡ Some r → mean.tree n ≡ mean.tree r → mean.bit n ≡ mean.bit r → value_by without_places 0 t ≡ mean.tree r → ShowsType mean t s → Means 0 (meant mean (OfPlace n)) s
means_there mean n r t s named tree bit is shows =
    let ty = type_is s.0 (value_by (placing mean.resource) 0 t) shows.0 in
    let bits : HasBit mean (Some r) s = subst (λ o. HasBit mean o s) named shows.1 in
    record {
      ty = ty.0;
      is_type = ty.1;
      is =
          ap bare (entity_kept (changing (deeper 0) (deeper 0)) nothing_deeper 0 s.0)
          ∙ shows.0
          ∙ ap (λ t. IsType (Value t)) (sym (bare_placed mean t) ∙ ap (value_by (placing mean.resource) 0) (is ∙ sym tree));
      is_named = bits.0;
      bit = bits.1 ∙ sym bit;
    }
