-- What a scope knows, and which declarations it has, where more is known.
use Rattle.std.proofs.Common.{◌≡◌, ℕ, Bool, true, false, cond, List, [], ◌∷◌, ◌++◌, Some, None, refl, sym, ap, ◌∙◌}
use Rattle.std.specs.Prelude.{◌||◌, is_some}
use Rattle.comp_format.specs.declared.types.TypeRef.{TypeRef}
use Rattle.comp_format.specs.declared.types.TypeRef.TheVariants as description
use Rattle.comp_format.specs.Definitions as tree
use Rattle.comp_entity.specs.Entity.{EntityTree, IsType, IsFunc, IsInstance, IsComponent, IsModule, IsOwnModule}
use Rattle.comp_entity.specs.Names.{Mention, OfResource, OfPlace}
use Rattle.comp_entity.specs.Places.{names_itself, same_mention}
use Rattle.compose_writing.specs.Keys.{At, Index, KnownThings, from_within, known_at}
use Rattle.compose_writing.specs.Scopes.{WrittenScope, change_top, knows, with_known}
use Rattle.compose_writing.specs.WriteEntities.{counted, note_all, note_here, note_new, noted, with_named, write_import}
use Rattle.compose_settled.proofs.Standing.{same_is}

-- ---- what scopes know

pub top_decls : List WrittenScope → tree.Decls
top_decls [] = tree.none
top_decls (m ∷ ms) = m.decls

pub with_known_decls : (key : Mention) (at : At) (m : WrittenScope) → (with_known key at m).decls ≡ m.decls
with_known_decls key at m = by (is_some (known_at m.known key))
  where
    by : (b : Bool) → (cond b m (record m { known = m.known ++ (key, at) ∷ [] })).decls ≡ m.decls
    by true = refl
    by false = refl

pub change_decls : (key : Mention) (at : At) (ms : List WrittenScope) → top_decls (change_top (with_known key at) ms) ≡ top_decls ms
unfolding top_decls change_top
change_decls key at [] = refl
change_decls key at (m ∷ ms) = with_known_decls key at m

pub note_decls : (key : Mention) (at : At) (ms : List WrittenScope) → top_decls (note_new key at ms) ≡ top_decls ms
note_decls key at ms = by (knows ms key)
  where
    by : (b : Bool) → top_decls (cond b ms (change_top (with_known key at) ms)) ≡ top_decls ms
    by true = refl
    by false = change_decls key at ms

pub all_decls : (ks : KnownThings) (ms : List WrittenScope) → top_decls (note_all ks ms) ≡ top_decls ms
unfolding note_all
all_decls [] ms = refl
all_decls (k ∷ ks) ms = all_decls ks (note_new k.0 k.1 ms) ∙ note_decls k.0 k.1 ms

pub here_decls : (keys : List Mention) (index : ℕ) (ms : List WrittenScope) → top_decls (note_here keys index ms) ≡ top_decls ms
unfolding note_here
here_decls [] index ms = refl
here_decls (key ∷ keys) index ms = here_decls keys index (change_top (with_known key (Index index)) ms) ∙ change_decls key (Index index) ms

pub noted_decls : (e : EntityTree) (m : WrittenScope) (ms : List WrittenScope) → top_decls (noted e m ms) ≡ top_decls ms
noted_decls (IsInstance es) m ms = all_decls _ ms
noted_decls (IsType t) m ms = here_decls (names_itself (IsType t)) m.types ms
noted_decls (IsFunc f) m ms = here_decls (names_itself (IsFunc f)) m.types ms
noted_decls (IsComponent is es) m ms = here_decls (names_itself (IsComponent is es)) m.types ms
noted_decls (IsModule x) m ms = here_decls (names_itself (IsModule x)) m.types ms
noted_decls IsOwnModule m ms = here_decls (names_itself IsOwnModule) m.types ms

pub counted_decls : (ty : TypeRef) (m : WrittenScope) → (counted ty m).decls ≡ m.decls
counted_decls (description.Module i) m = refl
counted_decls (description.Func i) m = refl
counted_decls (description.TyEqual i) m = refl
counted_decls description.TyFresh m = refl
counted_decls (description.Component i) m = refl
counted_decls (description.Instance i) m = refl

pub import_decls : (name : List ℕ) (e : EntityTree) (ty : TypeRef) (m scope : WrittenScope) → write_import name e ty (m ∷ []) ≡ scope ∷ [] → scope.decls ≡ tree.with_decl m.decls (tree.Import name ty)
unfolding with_named top_decls
import_decls name e ty m scope is = ap top_decls (sym is) ∙ noted_decls e m (counted ty (record m { decls = tree.with_decl m.decls (tree.Import name ty) }) ∷ []) ∙ counted_decls ty (record m { decls = tree.with_decl m.decls (tree.Import name ty) })

pub left_or : (a b : Bool) → (b ≡ true → a ≡ true) → a ≡ (a || b)
left_or true b h = refl
left_or false true h = h refl
left_or false false h = refl

pub or_swap : (a b c : Bool) → ((a || b) || c) ≡ ((a || c) || b)
or_swap true b c = refl
or_swap false true true = refl
or_swap false true false = refl
or_swap false false true = refl
or_swap false false false = refl

pub or_false : (a : Bool) → (a || false) ≡ a
or_false true = refl
or_false false = refl

pub or_both : (a b c : Bool) → ((a || b) || c) ≡ (a || (b || c))
or_both true b c = refl
or_both false b c = refl

pub mention_is : (a b : Mention) → same_mention a b ≡ true → a ≡ b
mention_is (OfResource a) (OfResource b) h = ap OfResource (same_is a b h)
mention_is (OfPlace a) (OfPlace b) h = ap OfPlace (same_is a b h)
mention_is (OfResource a) (OfPlace b) h = absurd cc
mention_is (OfPlace a) (OfResource b) h = absurd cc

pub known_push : (ks : KnownThings) (new : Mention) (at : At) (key : Mention) → is_some (known_at (ks ++ (new, at) ∷ []) key) ≡ (is_some (known_at ks key) || same_mention new key)
known_push [] new at key = by (same_mention new key)
  where
    by : (b : Bool) → is_some (cond b (Some at) None) ≡ b
    by true = refl
    by false = refl
known_push (k ∷ ks) new at key = by (same_mention k.0 key) (known_push ks new at key)
  where
    by : (b : Bool) → is_some (known_at (ks ++ (new, at) ∷ []) key) ≡ (is_some (known_at ks key) || same_mention new key)
        → is_some (cond b (Some k.1) (known_at (ks ++ (new, at) ∷ []) key)) ≡ (is_some (cond b (Some k.1) (known_at ks key)) || same_mention new key)
    by true rest = refl
    by false rest = rest

pub knows_noted : (new : Mention) (at : At) (m : WrittenScope) (key : Mention) → knows (note_new new at (m ∷ [])) key ≡ (knows (m ∷ []) key || same_mention new key)
unfolding knows change_top
knows_noted new at m key = by (knows (m ∷ []) new) refl
  where
    around : Mention → Bool
    around key = from_within m.width (knows []) key

    push : (b : Bool) → is_some (known_at m.known new) ≡ b → b ≡ false → knows (cond b m (record m { known = m.known ++ (new, at) ∷ [] }) ∷ []) key ≡ (knows (m ∷ []) key || same_mention new key)
    push true is h = absurd cc
    push false is h =
        ap (λ b. b || from_within m.width (knows []) key) (known_push m.known new at key)
        ∙ or_swap (is_some (known_at m.known key)) (same_mention new key) (from_within m.width (knows []) key)

    first_false : (a b : Bool) → (a || b) ≡ false → a ≡ false
    first_false true b h = h
    first_false false b h = refl

    by : (b : Bool) → knows (m ∷ []) new ≡ b → knows (cond b (m ∷ []) (change_top (with_known new at) (m ∷ []))) key ≡ (knows (m ∷ []) key || same_mention new key)
    by true there = left_or (knows (m ∷ []) key) (same_mention new key) (λ same. ap (knows (m ∷ [])) (sym (mention_is new key same)) ∙ there)
    by false there = push (is_some (known_at m.known new)) refl (first_false (is_some (known_at m.known new)) (from_within m.width (knows []) new) there)
