-- One import, written behind what it needs, and several behind each other.
use Rattle.std.proofs.Common.{◌≡◌, ◌∙◌, ◌+◌, ◌<◌, ℕ, List, [], ◌∷◌, ◌++◌, length, map, take, drop, get_or, Option, Some, None, option_and_then, option_map, add-one, refl, sym, ap, subst}
use Rattle.std.specs.BTreeMap.{BTreeMap, get}
use Rattle.std.specs.List.{flat_map}
use Rattle.std.proofs.Math.Seq.{drop-cons}
use Rattle.std.proofs.lemmas.Grind.{flat_map-append}
use Rattle.std.proofs.lemmas.List.{append-nil, take_more}
use Rattle.comp_encoder.specs.Writing.{Entry, Single, described_sort, items_of, next_index, numbered}
use Rattle.comp_format.specs.Definitions as tree
use Rattle.comp_format.specs.Definitions.{Decls}
use Rattle.comp_format.specs.declared.types.TypeRef.{TypeRef}
use Rattle.comp_format.specs.Items.{ItemTree, CoreTy, Ty, Aliased, Import}
use Rattle.comp_entity.specs.Entity.{EntityTree}
use Rattle.compose_left.specs.declared.spots.Spot.{Spot}
use Rattle.compose_order.specs.Needs.{LeftTree}
use Rattle.compose_writing.specs.Scopes.{WrittenScope, outermost}
use Rattle.compose_writing.specs.WriteEntities.{write_entity, write_import}
use Rattle.compose_meaning.specs.Items.{items_for}
use Rattle.compose_types.specs.Bodies.{entries_for}
use Rattle.compose_types.specs.Scopes.{scopes}
use Rattle.compose_image.specs.Additions.{Gains, GainsNoImport}
use Rattle.compose_image.specs.Imports.{all_called, called_too, next_place, place_in, write_left, write_lefts}
use Rattle.compose_image.specs.Writable.{AreWritable}
use Rattle.compose_left.specs.Merged.{name_cmp}
use Rattle.compose_imports.specs.Begun.{HasWritten, IsImportedAt}
use Rattle.compose_imports.specs.Imported.{FindsImports, found_import, singles}
use Rattle.compose_imports.specs.declared.begun.Begun.{Begun}
use Rattle.warg_values.specs.declared.text.Text.{Text}

-- ---- items as entries

pub entries_are : (ds : Decls) → entries_for ds ≡ singles (items_for ds)
entries_are tree.none = refl
entries_are (tree.more (tree.CoreTy t) ds) = ap (λ (es : List Entry). Single (CoreTy t) ∷ es) (entries_are ds)
entries_are (tree.more (tree.Ty t) ds) = ap (λ (es : List Entry). Single (Ty t) ∷ es) (entries_are ds)
entries_are (tree.more (tree.Aliased a) ds) = ap (λ (es : List Entry). Single (Aliased a) ∷ es) (entries_are ds)
entries_are (tree.more (tree.Import name ty) ds) = ap (λ (es : List Entry). Single (Import (record { name = name; ty = ty })) ∷ es) (entries_are ds)
entries_are (tree.more (tree.Export name ty) ds) = entries_are ds

items_are : (items : List ItemTree) → items_of (singles items) ≡ items
items_are [] = refl
items_are (item ∷ items) = ap (λ xs. item ∷ xs) (items_are items)

-- ---- the only scope

only_is : (a b : WrittenScope) (xs : List WrittenScope) → xs ≡ a ∷ [] → xs ≡ b ∷ [] → a ≡ b
only_is a b xs e f = let g : a ∷ [] ≡ b ∷ [] = sym e ∙ f in cc

place_is : (e : EntityTree) (xs : List WrittenScope) (m : WrittenScope) → xs ≡ m ∷ [] → place_in e xs ≡ next_place e m
place_is e xs m is = ap (place_in e) is

-- ---- one import

-- what is written for it
pub left_written : (l : LeftTree) (old mid named new : List WrittenScope) (ty : TypeRef) (o : WrittenScope) (place : ℕ)
    → write_entity l.entity old ≡ Some (mid, ty) → mid ≡ o ∷ [] → place ≡ next_place l.entity o
    → named ≡ write_import l.name l.entity ty mid → new ≡ all_called place l.calls named
    → write_left l old ≡ Some new
left_written l old mid named new ty o place entity alone at import calls =
    ap (option_map (λ x. all_called (place_in l.entity x.0) l.calls (write_import l.name l.entity x.1 x.0))) entity
    ∙ ap (λ (p : ℕ). Some (all_called p l.calls (write_import l.name l.entity ty mid)))
    (place_is l.entity mid o alone ∙ sym at)
    ∙ ap (λ ms. Some (all_called place l.calls ms)) (sym import)
    ∙ ap (λ (ms : List WrittenScope). Some ms) (sym calls)

-- and where it stands
pub left_imported : (m o : WrittenScope) (e : EntityTree) (name : List ℕ) (ty : TypeRef)
    (mid named new : List WrittenScope) (index : ℕ)
    → GainsNoImport m mid → mid ≡ o ∷ []
    → ((k : WrittenScope) → Gains k (write_import name e ty (k ∷ [])) (Import (record { name = name; ty = ty }) ∷ []))
    → named ≡ write_import name e ty mid
    → ((k : WrittenScope) → named ≡ k ∷ [] → Gains k new [])
    → index ≡ next_index (described_sort ty) (entries_for o.decls)
    → IsImportedAt m new name index
left_imported m o e name ty mid named new index needs alone item import calls at =
    let k = needs.gains.scope in
    let same : o ≡ k = only_is o k mid alone needs.gains.alone in
    let i = item k in
    let c = calls i.scope (import ∙ ap (write_import name e ty) needs.gains.alone ∙ i.alone) in
    record {
      scope = c.scope;
      alone = c.alone;
      needs = needs.items;
      no_import = needs.no_import;
      ty = ty;
      items =
          c.gained ∙ append-nil (items_for i.scope.decls) ∙ i.gained
          ∙ ap (λ xs. xs ++ Import (record { name = name; ty = ty }) ∷ []) needs.gains.gained;
      index_is =
          at ∙ ap (λ (n : WrittenScope). next_index (described_sort ty) (entries_for n.decls)) same
          ∙ ap (next_index (described_sort ty)) (entries_are k.decls)
          ∙ ap (numbered (described_sort ty)) (items_are (items_for k.decls) ∙ needs.gains.gained);
    }

-- a component, in which nothing is called
module _ (l : LeftTree) (nothing : l.calls ≡ []) where
  pub component_written : (old mid new : List WrittenScope) (ty : TypeRef)
      → write_entity l.entity old ≡ Some (mid, ty) → new ≡ write_import l.name l.entity ty mid
      → write_left l old ≡ Some new
  unfolding all_called
  component_written old mid new ty entity import =
      ap (option_map (λ x. all_called (place_in l.entity x.0) l.calls (write_import l.name l.entity x.1 x.0))) entity
      ∙ ap (λ (ss : List Spot). Some (all_called (place_in l.entity mid) ss (write_import l.name l.entity ty mid))) nothing
      ∙ ap (λ (ms : List WrittenScope). Some ms) (sym import)

pub nothing_called : (ms : List WrittenScope) (k : WrittenScope) → ms ≡ k ∷ [] → Gains k ms []
nothing_called ms k is = record { scope = k; alone = is; gained = sym (append-nil (items_for k.decls)) }

-- ---- calls

pub called_push : (index : ℕ) (ss : List Spot) (s : Spot) (ms : List WrittenScope)
    → all_called index (ss ++ s ∷ []) ms ≡ called_too index s (all_called index ss ms)
unfolding all_called
called_push index [] s ms = refl
called_push index (x ∷ ss) s ms = called_push index ss s (called_too index x ms)

pub none_called : (index : ℕ) (ms : List WrittenScope) → ms ≡ all_called index [] ms
unfolding all_called
none_called index ms = refl

pub call_more : (index : ℕ) (ss : List Spot) (i : ℕ) (s : Spot) (old mid new : List WrittenScope) → i < length ss
    → s ≡ get_or ss i s → mid ≡ all_called index (take i ss) old → new ≡ called_too index s mid
    → new ≡ all_called index (take (i + 1) ss) old
call_more index ss i s old mid new lt is before here =
    here ∙ ap (called_too index s) before ∙ sym (called_push index (take i ss) s old)
    ∙ ap (λ (x : Spot). all_called index (take i ss ++ x ∷ []) old) is
    ∙ ap (λ xs. all_called index xs old) (sym (take_more ss i s lt))

-- ---- some imports

pub lefts_push : (ls : List LeftTree) (l : LeftTree) (ms : List WrittenScope)
    → write_lefts (ls ++ l ∷ []) ms ≡ option_and_then (write_left l) (write_lefts ls ms)
unfolding write_lefts
lefts_push [] l ms = one (write_left l ms)
  where
    one : (w : Option (List WrittenScope)) → option_and_then (write_lefts []) w ≡ w
    one None = refl
    one (Some ns) = refl
lefts_push (x ∷ ls) l ms = one (write_left x ms) (lefts_push ls l)
  where
    one : (w : Option (List WrittenScope))
        → ((ns : List WrittenScope) → write_lefts (ls ++ l ∷ []) ns ≡ option_and_then (write_left l) (write_lefts ls ns))
        → option_and_then (write_lefts (ls ++ l ∷ [])) w
        ≡ option_and_then (write_left l) (option_and_then (write_lefts ls) w)
    one None more = refl
    one (Some ns) more = more ns

pub writable_front : (xs ys : List LeftTree) (ms : List WrittenScope) → AreWritable (xs ++ ys) ms → AreWritable xs ms
writable_front [] ys ms h = tt
writable_front (x ∷ xs) ys ms h = (h.0, λ next e. writable_front xs ys next (h.1 next e))

pub writable_behind : (xs ys : List LeftTree) (ms next : List WrittenScope) → AreWritable (xs ++ ys) ms
    → write_lefts xs ms ≡ Some next → AreWritable ys next
unfolding write_lefts
writable_behind [] ys ms next h e = let same : ms ≡ next = cc in subst (AreWritable ys) same h
writable_behind (x ∷ xs) ys ms next h e =
    one (write_left x ms) refl e (λ ns is f. writable_behind xs ys ns next (h.1 ns is) f)
  where
    one : (w : Option (List WrittenScope)) → write_left x ms ≡ w → option_and_then (write_lefts xs) w ≡ Some next
        → ((ns : List WrittenScope) → write_left x ms ≡ Some ns → write_lefts xs ns ≡ Some next → AreWritable ys next)
        → AreWritable ys next
    one None is f more = absurd cc
    one (Some ns) is f more = more ns is f

-- ---- imports so far

pub begun_none : (names : BTreeMap Text ℕ) → ((name : List ℕ) → get name_cmp names name ≡ None) → FindsImports names []
unfolding found_import
begun_none names h name = h name

pub nothing_written : (ms : List WrittenScope) → write_lefts [] ms ≡ Some ms
unfolding write_lefts
nothing_written ms = refl

-- one more
pub begun_more : (old new : Begun) (ls : List LeftTree) (l : LeftTree) (name : List ℕ) (index : ℕ) → name ≡ l.name
    → HasWritten old ls
    → write_left l (scopes old.state) ≡ Some (scopes new.state)
    → ((m : WrittenScope) → scopes old.state ≡ m ∷ [] → IsImportedAt m (scopes new.state) l.name index)
    → ((m : WrittenScope) (next : List WrittenScope) → FindsImports old.names (items_for m.decls)
    → (at : IsImportedAt m next name index) → FindsImports new.names (items_for at.scope.decls))
    → HasWritten new (ls ++ l ∷ [])
begun_more old new ls l name index is h written imported noted =
    let next = scopes new.state in
    let at : IsImportedAt h.scope next name index =
    subst (λ (n : List ℕ). IsImportedAt h.scope next n index) (sym is) (imported h.scope h.alone) in
    record {
      scope = at.scope;
      alone = at.alone;
      written =
          lefts_push ls l (outermost ∷ []) ∙ ap (option_and_then (write_left l)) h.written
          ∙ ap (write_left l) (sym h.alone) ∙ written ∙ ap (λ (ms : List WrittenScope). Some ms) at.alone;
      names = noted h.scope next h.names at;
    }

-- ---- the next of some

pub lefts_join : (xs ys : List LeftTree) (ms next : List WrittenScope) → write_lefts xs ms ≡ Some next
    → write_lefts (xs ++ ys) ms ≡ write_lefts ys next
unfolding write_lefts
lefts_join [] ys ms next e = let same : ms ≡ next = cc in ap (write_lefts ys) same
lefts_join (x ∷ xs) ys ms next e = one (write_left x ms) e (λ ns f. lefts_join xs ys ns next f)
  where
    one : (w : Option (List WrittenScope)) → option_and_then (write_lefts xs) w ≡ Some next
        → ((ns : List WrittenScope) → write_lefts xs ns ≡ Some next → write_lefts (xs ++ ys) ns ≡ write_lefts ys next)
        → option_and_then (write_lefts (xs ++ ys)) w ≡ write_lefts ys next
    one None f more = absurd cc
    one (Some ns) f more = more ns f

pub left_alone : (l : LeftTree) (ms next : List WrittenScope) → write_left l ms ≡ Some next
    → write_lefts (l ∷ []) ms ≡ Some next
unfolding write_lefts
left_alone l ms next e = ap (option_and_then (write_lefts [])) e

pub left_only : (l : LeftTree) (ms next : List WrittenScope) → write_lefts (l ∷ []) ms ≡ Some next
    → write_left l ms ≡ Some next
unfolding write_lefts
left_only l ms next e = one (write_left l ms) e
  where
    one : (w : Option (List WrittenScope)) → option_and_then (write_lefts []) w ≡ Some next → w ≡ Some next
    one None f = absurd cc
    one (Some ns) f = f

-- a list of lists, by its next
pub flat_next : {X : Type 0} (f : X → List LeftTree) (xs : List X) (i : ℕ) (d : X) → i < length xs
    → flat_map f (drop i xs) ≡ f (get_or xs i d) ++ flat_map f (drop (i + 1) xs)
flat_next f xs i d lt =
    ap (flat_map f) (drop-cons xs i d lt)
    ∙ ap (λ n. f (get_or xs i d) ++ flat_map f (drop n xs)) (sym (add-one i))

pub flat_more : {X : Type 0} (f : X → List LeftTree) (xs : List X) (i : ℕ) (d : X) → i < length xs
    → flat_map f (take (i + 1) xs) ≡ flat_map f (take i xs) ++ f (get_or xs i d)
flat_more f xs i d lt =
    ap (flat_map f) (take_more xs i d lt) ∙ flat_map-append f (take i xs) (get_or xs i d ∷ [])
    ∙ ap (λ ys. flat_map f (take i xs) ++ ys) (append-nil (f (get_or xs i d)))

-- what is mapped, as a list of lists
abbrev pub alone_of : {X : Type 0} → (X → LeftTree) → X → List LeftTree
alone_of f x = f x ∷ []

pub map_flat : {X : Type 0} (f : X → LeftTree) (xs : List X) → flat_map (alone_of f) xs ≡ map f xs
map_flat f [] = refl
map_flat f (x ∷ xs) = ap (λ ys. f x ∷ ys) (map_flat f xs)
