-- What an import or an export brings is known from then on.
use Rattle.std.proofs.Common.{◌≡◌, ℕ, ◌+◌, Bool, false, cond, List, [], ◌∷◌, ◌++◌, length, map, Some, Ok, refl, sym, ap, subst, ◌∙◌}
use Rattle.std.specs.Prelude.{slice_get, flat_map, option_and_then}
use Rattle.comp_format.specs.declared.types.TypeRef.{TypeRef}
use Rattle.comp_entity.specs.Entity.{TypeShapeTree, EntityTree, IsType, IsFunc, IsInstance, IsComponent, IsModule, IsOwnModule, Entries}
use Rattle.comp_entity.specs.Names.{Mention}
use Rattle.comp_entity.specs.Places.{Path, names_itself, leaves_in}
use Rattle.comp_scope.specs.Spaces.{Spaces, Known, Standing, placed, is_taken, counts_sum}
use Rattle.comp_scope.specs.Descriptions.{Described, described}
use Rattle.comp_scope.specs.Aliases.{width}
use Rattle.compose_writing.specs.Keys.{At, Index, InInstance, known_at}
use Rattle.compose_writing.specs.Scopes.{WrittenScope, declared}
use Rattle.compose_writing.specs.WriteEntities.{counted, leaves_known, noted, note_all, with_named}
use Rattle.compose_meaning.specs.Meaning.{Meaning, meant, Means}
use Rattle.compose_meaning.specs.Stands.{spaces_of, exports_of, at_path, at_place, further_out, AllKnow, Kept}
use Rattle.compose_meaning.specs.Described.{Describing, Matches, listed, new_of}
use Rattle.compose_meaning.specs.Readable.{SpotKind, Importing, Exporting, Spot, brought_keys}
use Rattle.compose_meaning.specs.Shows.{Shows}
use Rattle.compose_meaning.proofs.LeafKeyLaws.{all_keys_are as keys_are_among}
use Rattle.compose_meaning.proofs.ListLaws.{Each, each_both, each_then, each_map, get_last}
use Rattle.compose_meaning.proofs.SpaceLaws.{knows_grown}
use Rattle.compose_meaning.proofs.NamedLaws.{item_of, named, named_grows, stands_named, same_known}
use Rattle.compose_meaning.proofs.NoteLaws.{Noted, Stood, all_here, all_new}
use Rattle.compose_meaning.proofs.ShowsLaws.{IsOrderly, LeafAt, leaves_found, leaf_means, entity_type}

-- ---- where it stands

type_placed : (s : Spaces) (e : EntityTree) (b : Bool) (t : TypeShapeTree) → e ≡ IsType t → slice_get (placed s e b).types (length s.types) ≡ Some (e, b)
type_placed s e b t is = subst (λ (e : EntityTree). slice_get (placed s e b).types (length s.types) ≡ Some (e, b)) (sym is) (get_last s.types (IsType t, b))

type_there : (side : SpotKind) (k : Known) (name : List ℕ) (d : Described) (t : TypeShapeTree) → d.standing.0 ≡ IsType t → slice_get (named side k name d).spaces.types (length k.spaces.types) ≡ Some d.standing
type_there Importing k name d t is = type_placed (record k.spaces { brought = counts_sum k.spaces.brought d.brings }) d.standing.0 d.standing.1 t is
type_there Exporting k name d t is = type_placed (record k.spaces { made = counts_sum k.spaces.made d.brings }) d.standing.0 d.standing.1 t is

instance_placed : (s : Spaces) (e : EntityTree) (b : Bool) (es : Entries) → e ≡ IsInstance es → slice_get (placed s e b).instances (length s.instances) ≡ Some (e, b)
instance_placed s e b es is = subst (λ (e : EntityTree). slice_get (placed s e b).instances (length s.instances) ≡ Some (e, b)) (sym is) (get_last s.instances (IsInstance es, b))

instance_there : (side : SpotKind) (k : Known) (name : List ℕ) (d : Described) (es : Entries) → d.standing.0 ≡ IsInstance es → slice_get (named side k name d).spaces.instances (length k.spaces.instances) ≡ Some d.standing
instance_there Importing k name d es is = instance_placed (record k.spaces { brought = counts_sum k.spaces.brought d.brings }) d.standing.0 d.standing.1 es is
instance_there Exporting k name d es is = instance_placed (record k.spaces { made = counts_sum k.spaces.made d.brings }) d.standing.0 d.standing.1 es is

-- ---- what is noted of it

notes_stand : (mean : Meaning) (k : Known) (index : ℕ) (i : Standing) (fs : Entries) → slice_get k.spaces.instances index ≡ Some i → i.0 ≡ IsInstance fs → (ls : List (Path × EntityTree))
    → Each (LeafAt mean mean.may_mention mean.tree (λ path. at_path path fs)) ls → Each (Stood (meant mean) k) (flat_map (λ leaf. map (λ key. (key, InInstance index leaf.0)) (names_itself leaf.1)) ls)
notes_stand mean k index i fs there is [] h = tt
notes_stand mean k index i fs there is (leaf ∷ ls) h =
    let s = h.0.0 in
    let at : at_place k.spaces (InInstance index leaf.0) ≡ Some s = ap (option_and_then (λ (i : Standing). option_and_then (at_path leaf.0) (exports_of i))) there ∙ ap (λ e. option_and_then (at_path leaf.0) (exports_of (e, i.1))) is ∙ h.0.1 in
    each_both (Stood (meant mean) k) (map (λ key. (key, InInstance index leaf.0)) (names_itself leaf.1)) _
    (each_map (λ key. (key, InInstance index leaf.0)) (Stood (meant mean) k) (names_itself leaf.1)
    (each_then (λ key. Means 0 (meant mean key) s) (λ key. Stood (meant mean) k (key, InInstance index leaf.0)) (λ key m. (s, at, m)) (names_itself leaf.1) (leaf_means mean leaf.1 s h.0.2 h.0.3)))
    (notes_stand mean k index i fs there is ls h.1)

keys_before : (keys : List Mention) (path : Path) (index : ℕ) (notes : List (Mention × At)) (others : List Mention) → map (λ (note : Mention × At). note.0) notes ≡ others → map (λ (note : Mention × At). note.0) (map (λ key. (key, InInstance index path)) keys ++ notes) ≡ keys ++ others
keys_before [] path index notes others h = h
keys_before (key ∷ keys) path index notes others h = ap (λ keys. key ∷ keys) (keys_before keys path index notes others h)

keys_of_leaves : (index : ℕ) (ls : List (Path × EntityTree)) → map (λ (note : Mention × At). note.0) (flat_map (λ (leaf : Path × EntityTree). map (λ key. (key, InInstance index leaf.0)) (names_itself leaf.1)) ls) ≡ flat_map (λ (leaf : Path × EntityTree). names_itself leaf.1) ls
keys_of_leaves index [] = refl
keys_of_leaves index (leaf ∷ ls) = keys_before (names_itself leaf.1) leaf.0 index _ _ (keys_of_leaves index ls)

-- a scope with an import or an export more, before what it brings is noted
named_kept : (mean : Meaning) (side : SpotKind) (name : List ℕ) (ty : TypeRef) (m : WrittenScope) (ms : List WrittenScope) (k : Known) (ks : List Known) (d : Described) → Kept 0 (meant mean) (m ∷ ms) (k ∷ ks) → is_taken name (listed side k) ≡ false
    → described k.spaces (new_of side k.spaces) ty ≡ Ok d → Matches ty d.standing.0 → Kept 0 (meant mean) (counted ty (declared (item_of side name ty) m) ∷ ms) (named side k name d ∷ ks)
named_kept mean side name ty m ms k ks d kept free is matches =
    let m1 : WrittenScope = counted ty (declared (item_of side name ty) m) in
    let same = same_known ty (item_of side name ty) m in
    let g = named_grows side k name d in
    record {
      stand = (stands_named side m k (spaces_of ks) name ty d kept.stand.0 free is matches, kept.stand.1);
      know = (
        (λ key at h. knows_grown 0 (meant mean) m k (named side k name d) g kept.know.0 key at (ap (λ things. known_at things key) (sym same.0) ∙ h)),
        subst (λ (b : Bool). AllKnow (0 + cond b 2 1) (further_out m1.width (meant mean)) ms ks) (sym g.is_closed)
            (subst (λ (w : ℕ). AllKnow (0 + width k.spaces) (further_out w (meant mean)) ms ks) (sym same.1) kept.know.1),
      );
    }

-- what it brings is noted
noted_entity : (mean : Meaning) (e : EntityTree) (m m1 : WrittenScope) (ms : List WrittenScope) (k k1 : Known) (ks : List Known) (s : Standing) → Kept 0 (meant mean) (m1 ∷ ms) (k1 ∷ ks) → Shows mean e s → IsOrderly mean.may_mention mean.tree e
    → ((t : TypeShapeTree) → s.0 ≡ IsType t → slice_get k1.spaces.types m.types ≡ Some s) → ((es : Entries) → s.0 ≡ IsInstance es → slice_get k1.spaces.instances m.instances ≡ Some s)
    → Noted (meant mean) m1 ms k1 ks (brought_keys e) (noted e m (m1 ∷ ms))
noted_entity mean (IsType t) m m1 ms k k1 ks s kept h o type_at instance_at =
    let u = entity_type s.0 _ h.0 in
    all_here (meant mean) (names_itself (IsType t)) m.types m1 ms k1 ks kept
    (each_then (λ key. Means 0 (meant mean key) s) (λ key. Stood (meant mean) k1 (key, Index m.types)) (λ key means. (s, type_at u.0 u.1, means)) (names_itself (IsType t)) (leaf_means mean (IsType t) s h o))
noted_entity mean (IsFunc f) m m1 ms k k1 ks s kept h o type_at instance_at = all_here (meant mean) [] m.types m1 ms k1 ks kept tt
noted_entity mean (IsInstance es) m m1 ms k k1 ks s kept h o type_at instance_at =
    subst (λ (keys : List Mention). Noted (meant mean) m1 ms k1 ks keys (note_all (leaves_known m.instances (leaves_in [] es)) (m1 ∷ ms))) (keys_of_leaves m.instances (leaves_in [] es) ∙ keys_are_among es [])
    (all_new (meant mean) (leaves_known m.instances (leaves_in [] es)) m1 ms k1 ks kept
    (notes_stand mean k1 m.instances s h.0 (instance_at h.0 h.1) h.1 (leaves_in [] es) (leaves_found mean mean.may_mention mean.tree es h.0 h.2 o)))
noted_entity mean (IsComponent is es) m m1 ms k k1 ks s kept h o type_at instance_at = all_here (meant mean) [] m.types m1 ms k1 ks kept tt
noted_entity mean (IsModule n) m m1 ms k k1 ks s kept h o type_at instance_at = all_here (meant mean) [] m.types m1 ms k1 ks kept tt
noted_entity mean IsOwnModule m m1 ms k k1 ks s kept h o type_at instance_at = elim h [ ]

-- an import or an export is there, and what it brings is known
pub named_step : (mean : Meaning) (p : Spot) (name : List ℕ) (e : EntityTree) (ty : TypeRef) (m : WrittenScope) (ms : List WrittenScope) (k : Known) (ks : List Known) → Kept 0 (meant mean) (m ∷ ms) (k ∷ ks) → is_taken name (listed p.side k) ≡ false
    → (d : Describing mean p ty e k.spaces) → IsOrderly mean.may_mention mean.tree e
    → Noted (meant mean) (counted ty (declared (item_of p.side name ty) m)) ms (named p.side k name d.what) ks (brought_keys e) (with_named (item_of p.side) name e ty (m ∷ ms))
unfolding with_named
named_step mean p name e ty m ms k ks kept free d o =
    noted_entity mean e m (counted ty (declared (item_of p.side name ty) m)) ms k (named p.side k name d.what) ks d.what.standing (named_kept mean p.side name ty m ms k ks d.what kept free d.is d.matches) d.shows o
    (λ t is. ap (slice_get (named p.side k name d.what).spaces.types) kept.stand.0.types ∙ type_there p.side k name d.what t is)
    (λ es is. ap (slice_get (named p.side k name d.what).spaces.instances) kept.stand.0.instances ∙ instance_there p.side k name d.what es is)
