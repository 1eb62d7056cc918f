-- What is known further out is brought in by aliases.
use Rattle.std.proofs.Common.{◌≡◌, ◌⊎◌, inl, inr, ℕ, zero, suc, ◌+◌, Bool, true, false, cond, not, ◌&&◌, List, [], ◌∷◌, ◌++◌, map, take, Option, Some, None, Ok, refl, sym, ap, subst, ◌∙◌, arith}
use Rattle.std.specs.Prelude.{slice_get, option_and_then, option_map, nat_lt, ◌-◌, ◌==◌}
use Rattle.std.specs.List.{list_any, fold}
use Rattle.std.proofs.lemmas.Option.{option_and_then_some, same_Some}
use Rattle.comp_format.specs.declared.types.Sort.TheVariants as sort
use Rattle.comp_format.specs.declared.types.Alias.TheVariants as alias
use Rattle.comp_format.specs.Spaces.{space_of}
use Rattle.comp_format.specs.Definitions as tree
use Rattle.comp_format.specs.Definitions.{Decls, DeclTree}
use Rattle.comp_entity.specs.Entity.{Name, TypeShapeTree, Value, Resource, Func, Instance, Component, EntityTree, IsType, IsFunc, IsInstance, IsComponent, IsModule, IsOwnModule, Entries}
use Rattle.comp_entity.specs.Names.{changing, deeper, value_by, type_by, without_places, bare, Mention, OfResource, OfPlace, mentions_resource}
use Rattle.comp_entity.specs.Fits.{under}
use Rattle.comp_entity.specs.Places.{Path}
use Rattle.comp_entity.specs.Bounds.{unbounded}
use Rattle.comp_scope.specs.Spaces.{Spaces, Known, Standing, added, sort_of, entity_is_named}
use Rattle.comp_scope.specs.Aliases.{from_outside, width, aliased, outer_item, outer_alias, export_alias, outer_scope, as_instance, may_pass}
use Rattle.comp_scope.specs.Types.{with_decls}
use Rattle.compose_writing.specs.Keys.{At, Index, InInstance, KnownThings, known_at, name_outside, mention_outside}
use Rattle.compose_writing.specs.Scopes.{WrittenScope, add_instance, along, stood, standing, brought, type_index}
use Rattle.compose_meaning.specs.Meaning.{Meant, Means}
use Rattle.compose_meaning.specs.Stands.{Grown, AllGrown, spaces_of, exports_of, at_path, inward, further_out, Kept, reach_in, reach, StaysWithin, IsFree, MayBring}
use Rattle.compose_meaning.proofs.ListLaws.{get_last, map_some}
use Rattle.compose_meaning.proofs.NameLaws.{from_here, type_named_alike, value_mentions}
use Rattle.compose_meaning.proofs.SpaceLaws.{grown_refl, all_grown_refl, all_grown_trans, with_type, with_instance, Turns, shells, Went, at_once, then_went, so, OnTop, TypeAt, Adds, top_is, added_type, grown_instance, added_instance}

-- ---- aliases of what an instance exports

type_added : (k : Known) (s : Standing) (t : TypeShapeTree) → s.0 ≡ IsType t → added unbounded k.spaces s.0 s.1 ≡ Ok (with_type k s).spaces
unfolding added
type_added k s t is = subst (λ (e : EntityTree). added unbounded k.spaces e s.1 ≡ Ok (with_type k (e, s.1)).spaces) (sym is) refl

is_of_types : (s : Standing) (t : TypeShapeTree) → s.0 ≡ IsType t → (space_of (sort_of s.0) == space_of sort.Ty) ≡ true
is_of_types s t is = subst (λ (e : EntityTree). (space_of (sort_of e) == space_of sort.Ty) ≡ true) (sym is) refl

is_instance : (s : Standing) (es : Entries) → exports_of s ≡ Some es → s.0 ≡ IsInstance es
is_instance s es h = one s.0 h
  where
    one : (e : EntityTree) → exports_of (e, s.1) ≡ Some es → e ≡ IsInstance es
    one (IsInstance fs) h = ap IsInstance (same_Some _ _ h)
    one (IsType t) h = absurd cc
    one (IsFunc f) h = absurd cc
    one (IsComponent is fs) h = absurd cc
    one (IsModule m) h = absurd cc
    one IsOwnModule h = absurd cc

as_instance_is : (s : Standing) (es : Entries) → exports_of s ≡ Some es → as_instance s ≡ Ok es
as_instance_is s es h = ap (λ (e : EntityTree). as_instance (e, s.1)) (is_instance s es h)

instance_added : (k : Known) (s : Standing) (es : Entries) → s.0 ≡ IsInstance es → added unbounded k.spaces s.0 s.1 ≡ Ok (with_instance k s).spaces
unfolding added
instance_added k s es is = subst (λ (e : EntityTree). added unbounded k.spaces e s.1 ≡ Ok (with_instance k (e, s.1)).spaces) (sym is) refl

is_of_instances : (s : Standing) (es : Entries) → s.0 ≡ IsInstance es → (space_of (sort_of s.0) == space_of sort.Instance) ≡ true
is_of_instances s es is = subst (λ (e : EntityTree). (space_of (sort_of e) == space_of sort.Instance) ≡ true) (sym is) refl

export_adds : (k : Known) (ks : List Known) (from : ℕ) (name : List ℕ) (i s : Standing) (es : Entries) (t : TypeShapeTree) → slice_get k.spaces.instances from ≡ Some i → exports_of i ≡ Some es → under name es ≡ Some s → s.0 ≡ IsType t
    → Adds (tree.Aliased (alias.Export sort.Ty from name)) s (k ∷ ks)
unfolding Adds with_decls aliased export_alias
export_adds k ks from name i s es t at exports found is = λ outer g. rw (at, as_instance_is i es exports, found, is_of_types s t is, type_added k s t is) refl

export_turns : (k : Known) (around : List Spaces) (from : ℕ) (name : List ℕ) (i s : Standing) (es fs : Entries) → slice_get k.spaces.instances from ≡ Some i → exports_of i ≡ Some es → under name es ≡ Some s → exports_of s ≡ Some fs
    → Turns (tree.Aliased (alias.Export sort.Instance from name)) k (with_instance k s) around
unfolding with_decls aliased export_alias
export_turns k around from name i s es fs at exports found is = λ outer g. rw (at, as_instance_is i es exports, found, is_of_instances s fs (is_instance s fs is), instance_added k s fs (is_instance s fs is)) refl

-- the type at the end of a path
along_reads : (d : ℕ) (means : Mention → Meant) (from : ℕ) (path : Path) (m : WrittenScope) (ms : List WrittenScope) (k : Known) (ks : List Known) (i s : Standing) (es : Entries) (t : TypeShapeTree) → Kept d means (m ∷ ms) (k ∷ ks)
    → slice_get k.spaces.instances from ≡ Some i → exports_of i ≡ Some es → at_path path es ≡ Some s → s.0 ≡ IsType t
    → Went d means (k ∷ ks) (m ∷ ms) ((along from path m).0 ∷ ms) (TypeAt (along from path m).1 s)
unfolding along
along_reads d means from [] m ms k ks i s es t kept at exports found is = absurd cc
along_reads d means from (name ∷ []) m ms k ks i s es t kept at exports found is =
    added_type d means (tree.Aliased (alias.Export sort.Ty from name)) (m ∷ ms) (k ∷ ks) _ s kept (top_is _ m ms) (export_adds k ks from name i s es t at exports found is)
along_reads d means from (name ∷ next ∷ names) m ms k ks i s es t kept at exports found is =
    option_and_then_some _ (under name es) s found (λ j a b. option_and_then_some (at_path (next ∷ names)) (exports_of j) s b (λ fs e f.
    let now = added_instance d means from name m ms k ks j kept (export_turns k (spaces_of ks) from name i j es fs at exports a e) in
    let there : slice_get (k.spaces.instances ++ j ∷ []) m.instances ≡ Some j = subst (λ (n : ℕ). slice_get (k.spaces.instances ++ j ∷ []) n ≡ Some j) (sym kept.stand.0.instances) (get_last k.spaces.instances j) in
    let w = along_reads d means m.instances (next ∷ names) (add_instance from name m).0 ms (with_instance k j) ks j s fs t now there e f is in
    record {
      scopes = w.scopes;
      grown = all_grown_trans (spaces_of (k ∷ ks)) (spaces_of (with_instance k j ∷ ks)) (spaces_of w.scopes) (grown_instance k j, all_grown_refl (spaces_of ks)) w.grown;
      kept = w.kept;
      same = w.same;
      heads = w.heads;
      says = w.says;
    }))

-- ---- where a thing is known

-- at the scope so many scopes further out, of which the names are so far out, stands a type that means this
unfoldable pub OuterIs : ℕ → Meant → ℕ → ℕ → List Known → Type 0
OuterIs d what up i [] = ⊥
OuterIs d what zero i (k ∷ ks) = (s : Standing) × (slice_get k.spaces.types i ≡ Some s) × Means d what s
OuterIs d what (suc up) i (k ∷ ks) = OuterIs (d + width k.spaces) what up i ks

further : (d : ℕ) (means : Mention → Meant) (m : WrittenScope) (k : Known) (ms later : List WrittenScope) (ks : List Known) (up i : ℕ) (what : Meant) → Kept d means (m ∷ ms) (k ∷ ks)
    → Went (d + width k.spaces) (further_out m.width means) ks ms later (OuterIs (d + width k.spaces) what up i)
    → Went d means (k ∷ ks) (m ∷ ms) (m ∷ later) (OuterIs d what (suc up) i)
unfolding OuterIs
further d means m k ms later ks up i what kept w = record {
  scopes = k ∷ w.scopes;
  grown = (grown_refl k.spaces, w.grown);
  kept = record {
    stand = (record { reads = λ outer g. kept.stand.0.reads outer (all_grown_trans (spaces_of ks) (spaces_of w.scopes) outer w.grown g); types = kept.stand.0.types; instances = kept.stand.0.instances; core_types = kept.stand.0.core_types }, w.kept.stand);
    know = (kept.know.0, w.kept.know);
  };
  same = ap (λ rest. (m.width, m.known) ∷ rest) w.same;
  heads = ap (λ rest. record { imports = k.imports; exports = k.exports; brought = k.spaces.brought; made = k.spaces.made } ∷ rest) w.heads;
  says = w.says;
}

top_outer : (d : ℕ) (means : Mention → Meant) (ks : List Known) (ms later : List WrittenScope) (i : ℕ) (s : Standing) (what : Meant) → Means d what s → Went d means ks ms later (TypeAt i s) → Went d means ks ms later (OuterIs d what 0 i)
unfolding TypeAt OnTop OuterIs
top_outer d means ks ms later i s what m w = so d means ks ms later _ _ w turn
  where
    turn : (ts : List Known) → TypeAt i s ts → OuterIs d what 0 i ts
    turn [] h = elim h [ ]
    turn (t ∷ ts) h = (s, h, m)

-- a mention of a scope further out, as it is made within
name_back : (w : ℕ) (n o : Name) → name_outside w n ≡ Some o → deeper w o ≡ n
name_back w n o h = one (nat_lt n.out w) refl h
  where
    one : (b : Bool) → nat_lt n.out w ≡ b → cond b None (Some (record { out = n.out - w; number = n.number })) ≡ Some o → deeper w o ≡ n
    one true lt h = absurd cc
    one false ge h = let back : n.out - w + w ≡ n.out = grind arith in ap (deeper w) (sym (same_Some _ _ h)) ∙ ap (λ m. record { out = m; number = n.number }) back

pub mention_back : (w : ℕ) (key other : Mention) → mention_outside w key ≡ Some other → inward w other ≡ key
mention_back w (OfResource n) other h = map_some OfResource (name_outside w n) other h (λ o a b. ap (inward w) (sym b) ∙ ap OfResource (name_back w n o a))
mention_back w (OfPlace n) other h = map_some OfPlace (name_outside w n) other h (λ o a b. ap (inward w) (sym b) ∙ ap OfPlace (name_back w n o a))

pub standing_reads : (d : ℕ) (means : Mention → Meant) (key : Mention) (ms : List WrittenScope) (ks : List Known) (x : List WrittenScope × (ℕ × ℕ)) → Kept d means ms ks → standing ms key ≡ Some x
    → Went d means ks ms x.0 (OuterIs d (means key) x.1.0 x.1.1)
unfolding standing OuterIs
standing_reads d means key [] ks x k h = absurd cc
standing_reads d means key (m ∷ ms) [] x k h = elim k.stand [ ]
standing_reads d means key (m ∷ ms) (t ∷ ks) x k h =
    at (known_at m.known key) refl (λ other y e. standing_reads (d + width t.spaces) (further_out m.width means) other ms ks y (record { stand = k.stand.1; know = k.know.1 }) e) h
  where
    Goal : List WrittenScope × (ℕ × ℕ) → Type 0
    Goal x = Went d means (t ∷ ks) (m ∷ ms) x.0 (OuterIs d (means key) x.1.0 x.1.1)

    at : (o : Option At) → known_at m.known key ≡ o
        → ((other : Mention) (y : List WrittenScope × (ℕ × ℕ)) → standing ms other ≡ Some y → Went (d + width t.spaces) (further_out m.width means) ks ms y.0 (OuterIs (d + width t.spaces) (further_out m.width means other) y.1.0 y.1.1))
        → stood m ms (option_and_then (standing ms) (mention_outside m.width key)) o ≡ Some x → Went d means (t ∷ ks) (m ∷ ms) x.0 (OuterIs d (means key) x.1.0 x.1.1)
    at (Some (Index i)) is later h = subst Goal (same_Some _ _ h) (at_once d means (t ∷ ks) (m ∷ ms) _ k (k.know.0 key (Index i) is))
    at (Some (InInstance from path)) is later h =
        let s = k.know.0 key (InInstance from path) is in
        option_and_then_some _ (slice_get t.spaces.instances from) s.0 s.1 (λ i a b. option_and_then_some (at_path path) (exports_of i) s.0 b (λ es e f.
        subst Goal (same_Some _ _ h) (top_outer d means (t ∷ ks) (m ∷ ms) _ _ s.0 (means key) s.2
        (along_reads d means from path m ms t ks i s.0 es s.2.ty k a e f s.2.is_type))))
    at None is later h = map_some _ (option_and_then (standing ms) (mention_outside m.width key)) x h (λ y a b. option_and_then_some (standing ms) (mention_outside m.width key) y a (λ other e f.
        subst Goal b (further d means m t ms y.0 ks y.1.0 y.1.1 (means key) k
        (subst (λ (key : Mention). Went (d + width t.spaces) (further_out m.width means) ks ms y.0 (OuterIs (d + width t.spaces) (means key) y.1.0 y.1.1)) (mention_back m.width key other e) (later other y f)))))

-- ---- outer aliases

within_grown : (up : ℕ) (ks : List Known) (ls : List Spaces) → AllGrown (spaces_of ks) ls → StaysWithin up ks → list_any (λ s. s.is_closed) (take up ls) ≡ false
within_grown zero ks ls g h = refl
within_grown (suc up) [] [] g h = refl
within_grown (suc up) [] (l ∷ ls) g h = elim g [ ]
within_grown (suc up) (k ∷ ks) [] g h = refl
within_grown (suc up) (k ∷ ks) (l ∷ ls) g h = rw (g.0.is_closed, h.0) (within_grown up ks ls g.1 h.1)

-- how many scopes of names lie between
unfoldable far : ℕ → List Spaces → ℕ
far zero ks = 0
far (suc up) [] = 0
far (suc up) (k ∷ ks) = width k + far up ks

far_sum : (up : ℕ) (ks : List Spaces) (n : ℕ) → fold (λ a b. a + b) n (map width (take up ks)) ≡ n + far up ks
unfolding far
far_sum zero ks n = omega arith
far_sum (suc up) [] n = omega arith
far_sum (suc up) (k ∷ ks) n = far_sum up ks (n + width k) ∙ sum_is (width k) (far up ks)
  where
    sum_is : (w m : ℕ) → n + w + m ≡ n + (w + m)
    sum_is w m = omega arith

far_grown : (up : ℕ) (ks ls : List Spaces) → AllGrown ks ls → far up ls ≡ far up ks
unfolding far
far_grown zero ks ls g = refl
far_grown (suc up) [] [] g = refl
far_grown (suc up) [] (l ∷ ls) g = elim g [ ]
far_grown (suc up) (k ∷ ks) [] g = elim g [ ]
far_grown (suc up) (k ∷ ks) (l ∷ ls) g = ap (λ w. w + far up ls) (ap (λ b. cond b 2 1) g.0.is_closed) ∙ ap (λ n. width k + n) (far_grown up ks ls g.1)

scope_grown : (up : ℕ) (ks ls : List Spaces) (scope : Spaces) → AllGrown ks ls → slice_get ks up ≡ Some scope → (later : Spaces) × (slice_get ls up ≡ Some later) × Grown scope later
scope_grown up [] ls scope g h = absurd cc
scope_grown up (k ∷ ks) [] scope g h = elim g [ ]
scope_grown zero (k ∷ ks) (l ∷ ls) scope g h = (l, refl, subst (λ (k : Spaces). Grown k l) (same_Some _ _ h) g.0)
scope_grown (suc up) (k ∷ ks) (l ∷ ls) scope g h = scope_grown up ks ls scope g.1 h

-- the scope that so many stand within, and what it has at an index
record Found (d : ℕ) (what : Meant) (up i : ℕ) (ks : List Known) : Type 0 where
  scope : Spaces
  is_there : slice_get (spaces_of ks) up ≡ Some scope
  standing_is : Standing
  type_is : slice_get scope.types i ≡ Some standing_is
  means : Means (d + far up (spaces_of ks)) what standing_is

found : (d : ℕ) (what : Meant) (up i : ℕ) (ks : List Known) → OuterIs d what up i ks → Found d what up i ks
unfolding OuterIs far
found d what up i [] h = elim h [ ]
found d what zero i (k ∷ ks) h = record { scope = k.spaces; is_there = refl; standing_is = h.0; type_is = h.1; means = subst (λ (n : ℕ). Means n what h.0) zero_more h.2 }
  where
    zero_more : d ≡ d + 0
    zero_more = omega arith
found d what (suc up) i (k ∷ ks) h =
    let f = found (d + width k.spaces) what up i ks h in
    record { scope = f.scope; is_there = f.is_there; standing_is = f.standing_is; type_is = f.type_is; means = subst (λ (n : ℕ). Means n what f.standing_is) (sum_is (width k.spaces) (far up (spaces_of ks))) f.means }
  where
    sum_is : (w n : ℕ) → d + w + n ≡ d + (w + n)
    sum_is w n = omega arith

-- seen from within the alias, the type means what it meant
alias_means : (what : Meant) (n : ℕ) (s : Standing) → Means n what s → Means 0 what (from_outside n s.0, s.1)
alias_means what n s m = record {
  ty = type_by (changing (deeper n) (deeper n)) 0 m.ty;
  is_type = ap (from_outside n) m.is_type;
  is = ap bare (from_here (from_outside n s.0)) ∙ m.is;
  is_named = ap (λ e. entity_is_named (from_outside n e)) m.is_type ∙ type_named_alike (deeper n) (deeper n) 0 m.ty ∙ ap entity_is_named (sym m.is_type) ∙ m.is_named;
  bit = m.bit;
}

-- what mentions no resource leaves a component
no_more : (b : Bool) → (b && false) ≡ false
no_more true = refl
no_more false = refl

free_passes : (what : Meant) (n : ℕ) (s : Standing) (leaves : Bool) → Means n what s → IsFree what.entity → may_pass leaves s.0 ≡ true
free_passes what n s leaves m free = one m.ty m.is_type (subst IsFree (sym m.is) free)
  where
    one : (t : TypeShapeTree) → s.0 ≡ IsType t → IsFree (bare (from_outside n s.0)) → may_pass leaves s.0 ≡ true
    one (Value v) is free =
        let none : mentions_resource (Value v) ≡ false = sym (value_mentions without_places 0 (value_by (changing (deeper n) (deeper n)) 0 v) ∙ value_mentions (changing (deeper n) (deeper n)) 0 v) ∙ subst (λ e. IsFree (bare (from_outside n e))) is free in
        ap (may_pass leaves) is ∙ ap (λ b. not (leaves && b)) none ∙ ap not (no_more leaves)
    one (Resource r) is free = elim (subst (λ e. IsFree (bare (from_outside n e))) is free) [ ]
    one (Func f) is free = elim (subst (λ e. IsFree (bare (from_outside n e))) is free) [ ]
    one (Instance es) is free = elim (subst (λ e. IsFree (bare (from_outside n e))) is free) [ ]
    one (Component is es) eq free = elim (subst (λ e. IsFree (bare (from_outside n e))) eq free) [ ]

type_passes : (e : EntityTree) (t : TypeShapeTree) → e ≡ IsType t → may_pass false e ≡ true
type_passes e t is = subst (λ (e : EntityTree). may_pass false e ≡ true) (sym is) refl

scope_is : (up : ℕ) (ks : List Spaces) (scope : Spaces) → slice_get ks up ≡ Some scope → outer_scope ks up ≡ Ok (record { spaces = scope; distance = far up ks; leaves_component = list_any (λ s. s.is_closed) (take up ks) })
scope_is up ks scope h = rw h (ap (λ n. Ok (record { spaces = scope; distance = n; leaves_component = list_any (λ s. s.is_closed) (take up ks) })) (far_sum up ks 0 ∙ zero_plus))
  where
    zero_plus : 0 + far up ks ≡ far up ks
    zero_plus = omega arith

-- the alias in the innermost scope
outer_adds : (what : Meant) (k : Known) (ks : List Known) (up i : ℕ) → OuterIs 0 what (suc up) i (k ∷ ks) → StaysWithin (suc up) (k ∷ ks) ⊎ IsFree what.entity
    → (s : Standing) × Means 0 what s × Adds (tree.Aliased (alias.Outer sort.Ty (suc up) i)) s (k ∷ ks)
unfolding Adds with_decls aliased outer_alias outer_item
outer_adds what k ks up i h free =
    let f = found 0 what (suc up) i (k ∷ ks) h in
    let n : ℕ = far (suc up) (spaces_of (k ∷ ks)) in
    let m : Means n what f.standing_is = subst (λ (n : ℕ). Means n what f.standing_is) (zero_plus n) f.means in
    let s : Standing = (from_outside n f.standing_is.0, f.standing_is.1) in
    let now = alias_means what n f.standing_is m in (
      s,
      now,
      (λ outer g.
          let later = scope_grown (suc up) (spaces_of (k ∷ ks)) (k.spaces ∷ outer) f.scope (grown_refl k.spaces, g) f.is_there in
          let there : outer_scope (k.spaces ∷ outer) (suc up) ≡ Ok (record { spaces = later.0; distance = n; leaves_component = list_any (λ s. s.is_closed) (take (suc up) (k.spaces ∷ outer)) }) =
          scope_is (suc up) (k.spaces ∷ outer) later.0 later.1
          ∙ ap (λ n. Ok (record { spaces = later.0; distance = n; leaves_component = list_any (λ s. s.is_closed) (take (suc up) (k.spaces ∷ outer)) })) (far_grown (suc up) (spaces_of (k ∷ ks)) (k.spaces ∷ outer) (grown_refl k.spaces, g)) in
          rw (there, later.2.types i f.standing_is f.type_is, passes f.standing_is m outer g free, type_added k s now.ty now.is_type) refl),
    )
  where
    zero_plus : (n : ℕ) → 0 + n ≡ n
    zero_plus n = omega arith

    passes : {n : ℕ} (e : Standing) → Means n what e → (outer : List Spaces) → AllGrown (spaces_of ks) outer → StaysWithin (suc up) (k ∷ ks) ⊎ IsFree what.entity → may_pass (list_any (λ s. s.is_closed) (take (suc up) (k.spaces ∷ outer))) e.0 ≡ true
    passes e m outer g (inl within) = ap (λ b. may_pass b e.0) (within_grown (suc up) (k ∷ ks) (k.spaces ∷ outer) (grown_refl k.spaces, g) within) ∙ type_passes e.0 m.ty m.is_type
    passes e m outer g (inr free) = free_passes what _ e _ m free

-- ---- what may be mentioned

pub standing_reach : (key : Mention) (ms : List WrittenScope) (x : List WrittenScope × (ℕ × ℕ)) → standing ms key ≡ Some x → reach ms key ≡ Some x.1.0
unfolding standing reach
standing_reach key [] x h = absurd cc
standing_reach key (m ∷ ms) x h = at (known_at m.known key) (λ other y e. standing_reach other ms y e) h
  where
    at : (o : Option At) → ((other : Mention) (y : List WrittenScope × (ℕ × ℕ)) → standing ms other ≡ Some y → reach ms other ≡ Some y.1.0)
        → stood m ms (option_and_then (standing ms) (mention_outside m.width key)) o ≡ Some x → reach_in o (option_and_then (reach ms) (mention_outside m.width key)) ≡ Some x.1.0
    at (Some place) later h = ap (λ (x : List WrittenScope × (ℕ × ℕ)). Some x.1.0) (same_Some _ _ h)
    at None later h = map_some _ (option_and_then (standing ms) (mention_outside m.width key)) x h (λ y a b. option_and_then_some (standing ms) (mention_outside m.width key) y a (λ other e f.
        rw e (ap (option_map suc) (later other y f) ∙ ap (λ (x : List WrittenScope × (ℕ × ℕ)). Some x.1.0) b)))

pub stays_grown : (up : ℕ) (ks ls : List Known) → AllGrown (spaces_of ks) (spaces_of ls) → StaysWithin up ks → StaysWithin up ls
stays_grown zero ks ls g h = tt
stays_grown (suc up) [] [] g h = tt
stays_grown (suc up) [] (l ∷ ls) g h = elim g [ ]
stays_grown (suc up) (k ∷ ks) [] g h = tt
stays_grown (suc up) (k ∷ ks) (l ∷ ls) g h = (g.0.is_closed ∙ h.0, stays_grown up ks ls g.1 h.1)

-- what is reached depends on what is known alone
reach_shells : List (ℕ × KnownThings) → Mention → Option ℕ
reach_shells [] key = None
reach_shells (x ∷ xs) key = reach_in (known_at x.1 key) (option_and_then (reach_shells xs) (mention_outside x.0 key))

reach_same : (ms : List WrittenScope) (key : Mention) → reach ms key ≡ reach_shells (shells ms) key
unfolding reach reach_shells
reach_same [] key = refl
reach_same (m ∷ ms) key = ap (reach_in (known_at m.known key)) (one (λ other. reach_same ms other) (mention_outside m.width key))
  where
    one : ((other : Mention) → reach ms other ≡ reach_shells (shells ms) other) → (o : Option Mention) → option_and_then (reach ms) o ≡ option_and_then (reach_shells (shells ms)) o
    one rest None = refl
    one rest (Some other) = rest other

pub still_brings : (may : Mention → Bool) (means : Mention → Meant) (ms later : List WrittenScope) (ks ls : List Known) → shells later ≡ shells ms → AllGrown (spaces_of ks) (spaces_of ls) → MayBring may means ms ks → MayBring may means later ls
still_brings may means ms later ks ls same g b key up is at = one (b key up is (reach_same ms key ∙ ap (λ x. reach_shells x key) (sym same) ∙ sym (reach_same later key) ∙ at))
  where
    one : StaysWithin up ks ⊎ IsFree (means key).entity → StaysWithin up ls ⊎ IsFree (means key).entity
    one (inl within) = inl (stays_grown up ks ls g within)
    one (inr free) = inr free

-- ---- as one of the innermost scope

brought_reads : (means : Mention → Meant) (what : Meant) (ms : List WrittenScope) (ks : List Known) (up i : ℕ) (x : List WrittenScope × ℕ) → Kept 0 means ms ks → OuterIs 0 what up i ks → StaysWithin up ks ⊎ IsFree what.entity → brought ms up i ≡ Some x
    → (s : Standing) × Means 0 what s × Went 0 means ks ms x.0 (TypeAt x.1 s)
unfolding brought OuterIs TypeAt OnTop
brought_reads means what ms [] up i x k o free h = elim o [ ]
brought_reads means what ms (t ∷ ks) zero i x k o free h = (o.0, o.2, subst (λ (x : List WrittenScope × ℕ). Went 0 means (t ∷ ks) ms x.0 (TypeAt x.1 o.0)) (same_Some _ _ h) (at_once 0 means (t ∷ ks) ms _ k o.1))
brought_reads means what ms (t ∷ ks) (suc up) i x k o free h =
    let a = outer_adds what t ks up i o free in
    (a.0, a.1, added_type 0 means (tree.Aliased (alias.Outer sort.Ty (suc up) i)) ms (t ∷ ks) x a.0 k h a.2)

pub index_reads : (may : Mention → Bool) (means : Mention → Meant) (key : Mention) (ms : List WrittenScope) (ks : List Known) (x : List WrittenScope × ℕ) → Kept 0 means ms ks → MayBring may means ms ks → may key ≡ true → type_index key ms ≡ Some x
    → (s : Standing) × Means 0 (means key) s × Went 0 means ks ms x.0 (TypeAt x.1 s)
unfolding type_index
index_reads may means key ms ks x k b is h = option_and_then_some _ (standing ms key) x h (λ y e f.
    let w = standing_reads 0 means key ms ks y k e in
    let free = still_brings may means ms y.0 ks w.scopes w.same w.grown b key y.1.0 is (reach_same y.0 key ∙ ap (λ x. reach_shells x key) w.same ∙ sym (reach_same ms key) ∙ standing_reach key ms y e) in
    let v = brought_reads means (means key) y.0 w.scopes y.1.0 y.1.1 x w.kept w.says free f in
    (v.0, v.1, then_went 0 means ks ms y.0 x.0 _ _ w v.2))
