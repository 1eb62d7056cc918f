-- What is noted is known from then on, and stands where it is noted.
use Rattle.std.proofs.Common.{◌≡◌, ◌⊎◌, inl, inr, ℕ, Bool, true, false, cond, ◌||◌, List, [], ◌∷◌, ◌++◌, map, Option, Some, None, refl, sym, ap, subst, ◌∙◌, arith}
use Rattle.std.specs.Prelude.{is_some, option_and_then, ◌==◌}
use Rattle.std.specs.List.{list_any}
use Rattle.std.proofs.lemmas.Option.{same_Some}
use Rattle.comp_entity.specs.Entity.{Name}
use Rattle.comp_entity.specs.Names.{Mention, OfResource, OfPlace}
use Rattle.comp_entity.specs.Fits.{same_name}
use Rattle.comp_entity.specs.Places.{same_mention}
use Rattle.comp_scope.specs.Spaces.{Known, Standing}
use Rattle.compose_writing.specs.Keys.{KnownThings, At, Index, known_at, mention_outside, holds_there, from_within}
use Rattle.compose_writing.specs.Scopes.{WrittenScope, change_top, knows, with_known}
use Rattle.compose_writing.specs.WriteEntities.{note_new, note_all, note_here}
use Rattle.compose_meaning.specs.Meaning.{Meant, Means}
use Rattle.compose_meaning.specs.Stands.{spaces_of, Stands, at_place, Kept, reach_in, reach, StaysWithin, IsFree, MayBring}
use Rattle.compose_meaning.proofs.SpaceLaws.{shells}
use Rattle.compose_meaning.proofs.ListLaws.{Each, or_left, or_both, or_none, and_left, and_right}

-- ---- mentions that are equal

name_is : (a b : Name) → same_name a b ≡ true → a ≡ b
name_is a b h =
    let out : a.out ≡ b.out = one a.out b.out (and_left (a.out == b.out) (a.number == b.number) h) in
    let number : a.number ≡ b.number = one a.number b.number (and_right (a.out == b.out) (a.number == b.number) h) in
    λ i. record { out = out i; number = number i }
  where
    one : (m n : ℕ) → (m == n) ≡ true → m ≡ n
    one m n h = grind (arith, h)

pub mention_is : (a b : Mention) → same_mention a b ≡ true → a ≡ b
mention_is (OfResource a) (OfResource b) h = ap OfResource (name_is a b h)
mention_is (OfPlace a) (OfPlace b) h = ap OfPlace (name_is a b h)
mention_is (OfResource a) (OfPlace b) h = absurd cc
mention_is (OfPlace a) (OfResource b) h = absurd cc

-- ---- what is known depends on what scopes know alone

knows_in : List (ℕ × KnownThings) → Mention → Bool
knows_in [] key = false
knows_in (x ∷ xs) key = is_some (known_at x.1 key) || from_within x.0 (knows_in xs) key

knows_is : (ms : List WrittenScope) (key : Mention) → knows ms key ≡ knows_in (shells ms) key
unfolding knows knows_in
knows_is [] key = refl
knows_is (m ∷ ms) key = ap (λ b. is_some (known_at m.known key) || b) (one (λ other. knows_is ms other) (mention_outside m.width key))
  where
    one : ((other : Mention) → knows ms other ≡ knows_in (shells ms) other) → (o : Option Mention) → holds_there (knows ms) o ≡ holds_there (knows_in (shells ms)) o
    one rest None = refl
    one rest (Some other) = rest other

pub knows_same : (ms later : List WrittenScope) (key : Mention) → shells later ≡ shells ms → knows later key ≡ knows ms key
knows_same ms later key same = knows_is later key ∙ ap (λ xs. knows_in xs key) same ∙ sym (knows_is ms key)

-- ---- one thing more

known_before : (ks : KnownThings) (k : Mention) (at : At) (key : Mention) (found : At) → known_at (ks ++ (k, at) ∷ []) key ≡ Some found → (known_at ks key ≡ Some found) ⊎ ((k ≡ key) × (at ≡ found))
known_before [] k at key found h = one (same_mention k key) refl h
  where
    one : (b : Bool) → same_mention k key ≡ b → cond b (Some at) None ≡ Some found → (None ≡ Some found) ⊎ ((k ≡ key) × (at ≡ found))
    one true is h = inr (mention_is k key is, same_Some _ _ h)
    one false is h = inl h
known_before (first ∷ ks) k at key found h = one (same_mention first.0 key) (known_before ks k at key found) h
  where
    one : (b : Bool) → (known_at (ks ++ (k, at) ∷ []) key ≡ Some found → (known_at ks key ≡ Some found) ⊎ ((k ≡ key) × (at ≡ found)))
        → cond b (Some first.1) (known_at (ks ++ (k, at) ∷ []) key) ≡ Some found → (cond b (Some first.1) (known_at ks key) ≡ Some found) ⊎ ((k ≡ key) × (at ≡ found))
    one true later h = inl h
    one false later h = later h

noted_one : (ks : KnownThings) (k : Mention) (at : At) (key : Mention) → is_some (known_at (ks ++ (k, at) ∷ []) key) ≡ (is_some (known_at ks key) || same_mention k key)
noted_one [] k at key = one (same_mention k key)
  where
    one : (b : Bool) → is_some (cond b (Some at) None) ≡ b
    one true = refl
    one false = refl
noted_one (first ∷ ks) k at key = one (same_mention first.0 key) (noted_one ks k at key)
  where
    one : (b : Bool) → is_some (known_at (ks ++ (k, at) ∷ []) key) ≡ (is_some (known_at ks key) || same_mention k key)
        → is_some (cond b (Some first.1) (known_at (ks ++ (k, at) ∷ []) key)) ≡ (is_some (cond b (Some first.1) (known_at ks key)) || same_mention k key)
    one true h = refl
    one false h = h

none_before : (ks : KnownThings) (k : Mention) (at : At) (key : Mention) → known_at (ks ++ (k, at) ∷ []) key ≡ None → known_at ks key ≡ None
none_before [] k at key h = refl
none_before (first ∷ ks) k at key h = one (same_mention first.0 key) (none_before ks k at key) h
  where
    one : (b : Bool) → (known_at (ks ++ (k, at) ∷ []) key ≡ None → known_at ks key ≡ None) → cond b (Some first.1) (known_at (ks ++ (k, at) ∷ []) key) ≡ None → cond b (Some first.1) (known_at ks key) ≡ None
    one true later h = absurd cc
    one false later h = later h

-- ---- what was noted

-- The innermost scope knows these things too, and all else is as it was.
pub record Noted (means : Mention → Meant) (m : WrittenScope) (ms : List WrittenScope) (k : Known) (ks : List Known) (keys : List Mention) (later : List WrittenScope) : Type 0 where
  pub scope : WrittenScope
  pub is : later ≡ scope ∷ ms
  pub kept : Kept 0 means (scope ∷ ms) (k ∷ ks)
  pub width : scope.width ≡ m.width
  pub decls : scope.decls ≡ m.decls
  pub knew : (key : Mention) → knows (scope ∷ ms) key ≡ (knows (m ∷ ms) key || list_any (λ k. same_mention k key) keys)
  pub less : (key : Mention) → known_at scope.known key ≡ None → known_at m.known key ≡ None

stands_known : (m : WrittenScope) (k : Known) (around : List _) (things : KnownThings) → Stands m k around → Stands (record m { known = things }) k around
stands_known m k around things h = record { reads = h.reads; types = h.types; instances = h.instances; core_types = h.core_types }

later_or : (a b c : Bool) → ((a || b) || c) ≡ ((a || c) || b)
later_or true b c = refl
later_or false true true = refl
later_or false true false = refl
later_or false false true = refl
later_or false false false = refl

-- where it is known already, all is as it was
noted_known : (means : Mention → Meant) (m : WrittenScope) (ms : List WrittenScope) (k : Known) (ks : List Known) (key : Mention) → Kept 0 means (m ∷ ms) (k ∷ ks) → knows (m ∷ ms) key ≡ true → Noted means m ms k ks (key ∷ []) (m ∷ ms)
noted_known means m ms k ks key kept is = record {
  scope = m;
  is = refl;
  kept = kept;
  width = refl;
  decls = refl;
  knew = λ other. or_none (knows (m ∷ ms) other) ∙ one other (same_mention key other) refl;
  less = λ other h. h;
}
  where
    one : (other : Mention) (b : Bool) → same_mention key other ≡ b → (knows (m ∷ ms) other || false) ≡ (knows (m ∷ ms) other || (b || false))
    one other false same = refl
    one other true same = ap (λ b. b || false) (now other same) ∙ sym (ap (λ b. b || true) (now other same))
      where
        now : (other : Mention) → same_mention key other ≡ true → knows (m ∷ ms) other ≡ true
        now other same = subst (λ (key : Mention). knows (m ∷ ms) key ≡ true) (mention_is key other same) is

pub noted_here : (means : Mention → Meant) (m : WrittenScope) (ms : List WrittenScope) (k : Known) (ks : List Known) (key : Mention) (at : At) (s : Standing) → Kept 0 means (m ∷ ms) (k ∷ ks) → at_place k.spaces at ≡ Some s → Means 0 (means key) s
    → Noted means m ms k ks (key ∷ []) (with_known key at m ∷ ms)
unfolding knows
noted_here means m ms k ks key at s kept there means_it = one (known_at m.known key) refl
  where
    one : (o : Option At) → known_at m.known key ≡ o → Noted means m ms k ks (key ∷ []) (cond (is_some o) m (record m { known = m.known ++ (key, at) ∷ [] }) ∷ ms)
    one (Some place) is = noted_known means m ms k ks key kept (or_left (is_some (known_at m.known key)) (from_within m.width (knows ms) key) (ap is_some is))
    one None is = record {
      scope = record m { known = m.known ++ (key, at) ∷ [] };
      is = refl;
      kept = record {
        stand = (stands_known m k (spaces_of ks) (m.known ++ (key, at) ∷ []) kept.stand.0, kept.stand.1);
        know = ((λ other place h. now other place (known_before m.known key at other place h)), kept.know.1);
      };
      width = refl;
      decls = refl;
      knew = λ other. ap (λ b. b || from_within m.width (knows ms) other) (noted_one m.known key at other) ∙ later_or (is_some (known_at m.known other)) (same_mention key other) (from_within m.width (knows ms) other)
          ∙ ap (λ b. (is_some (known_at m.known other) || from_within m.width (knows ms) other) || b) (or_none (same_mention key other));
      less = λ other h. none_before m.known key at other h;
    }
      where
        now : (other : Mention) (place : At) → (known_at m.known other ≡ Some place) ⊎ ((key ≡ other) × (at ≡ place)) → (s : Standing) × (at_place k.spaces place ≡ Some s) × Means 0 (means other) s
        now other place (inl old) = kept.know.0 other place old
        now other place (inr new) = (s, subst (λ (at : At). at_place k.spaces at ≡ Some s) new.1 there, subst (λ (key : Mention). Means 0 (means key) s) new.0 means_it)

noted_none : (means : Mention → Meant) (m : WrittenScope) (ms : List WrittenScope) (k : Known) (ks : List Known) → Kept 0 means (m ∷ ms) (k ∷ ks) → Noted means m ms k ks [] (m ∷ ms)
noted_none means m ms k ks kept = record { scope = m; is = refl; kept = kept; width = refl; decls = refl; knew = λ key. or_none (knows (m ∷ ms) key); less = λ key h. h }

then_noted : (means : Mention → Meant) (m : WrittenScope) (ms : List WrittenScope) (k : Known) (ks : List Known) (key : Mention) (keys : List Mention) (next later : List WrittenScope) (one : Noted means m ms k ks (key ∷ []) next) → Noted means one.scope ms k ks keys later
    → Noted means m ms k ks (key ∷ keys) later
then_noted means m ms k ks key keys next later one two = record {
  scope = two.scope;
  is = two.is;
  kept = two.kept;
  width = two.width ∙ one.width;
  decls = two.decls ∙ one.decls;
  knew = λ other. two.knew other ∙ ap (λ b. b || list_any (λ k. same_mention k other) keys) (one.knew other) ∙ or_both (knows (m ∷ ms) other) (same_mention key other || false) (list_any (λ k. same_mention k other) keys)
      ∙ ap (λ b. knows (m ∷ ms) other || b) (ap (λ b. b || list_any (λ k. same_mention k other) keys) (sym (or_none (same_mention key other))));
  less = λ other h. one.less other (two.less other h);
}

-- where a thing stands that is noted
abbrev pub Stood : (Mention → Meant) → Known → Mention × At → Type 0
Stood means k note = (s : Standing) × (at_place k.spaces note.1 ≡ Some s) × Means 0 (means note.0) s

pub all_here : (means : Mention → Meant) (keys : List Mention) (index : ℕ) (m : WrittenScope) (ms : List WrittenScope) (k : Known) (ks : List Known) → Kept 0 means (m ∷ ms) (k ∷ ks) → Each (λ key. Stood means k (key, Index index)) keys
    → Noted means m ms k ks keys (note_here keys index (m ∷ ms))
unfolding note_here change_top
all_here means [] index m ms k ks kept each = noted_none means m ms k ks kept
all_here means (key ∷ keys) index m ms k ks kept each =
    let one = noted_here means m ms k ks key (Index index) each.0.0 kept each.0.1 each.0.2 in
    then_noted means m ms k ks key keys (with_known key (Index index) m ∷ ms) (note_here keys index (with_known key (Index index) m ∷ ms)) one
    (subst (λ (next : List WrittenScope). Noted means one.scope ms k ks keys (note_here keys index next)) (sym one.is) (all_here means keys index one.scope ms k ks one.kept each.1))

pub noted_new : (means : Mention → Meant) (m : WrittenScope) (ms : List WrittenScope) (k : Known) (ks : List Known) (note : Mention × At) → Kept 0 means (m ∷ ms) (k ∷ ks) → Stood means k note → Noted means m ms k ks (note.0 ∷ []) (note_new note.0 note.1 (m ∷ ms))
unfolding change_top
noted_new means m ms k ks note kept stood = one (knows (m ∷ ms) note.0) refl
  where
    one : (b : Bool) → knows (m ∷ ms) note.0 ≡ b → Noted means m ms k ks (note.0 ∷ []) (cond b (m ∷ ms) (with_known note.0 note.1 m ∷ ms))
    one true is = noted_known means m ms k ks note.0 kept is
    one false is = noted_here means m ms k ks note.0 note.1 stood.0 kept stood.1 stood.2

pub all_new : (means : Mention → Meant) (notes : KnownThings) (m : WrittenScope) (ms : List WrittenScope) (k : Known) (ks : List Known) → Kept 0 means (m ∷ ms) (k ∷ ks) → Each (Stood means k) notes
    → Noted means m ms k ks (map (λ note. note.0) notes) (note_all notes (m ∷ ms))
unfolding note_all
all_new means [] m ms k ks kept each = noted_none means m ms k ks kept
all_new means (note ∷ notes) m ms k ks kept each =
    let one = noted_new means m ms k ks note kept each.0 in
    then_noted means m ms k ks note.0 (map (λ note. note.0) notes) (note_new note.0 note.1 (m ∷ ms)) (note_all notes (note_new note.0 note.1 (m ∷ ms))) one
    (subst (λ (next : List WrittenScope). Noted means one.scope ms k ks (map (λ note. note.0) notes) (note_all notes next)) (sym one.is) (all_new means notes one.scope ms k ks one.kept each.1))

-- what may be mentioned may be brought in, where more is known
pub brings_noted : (may : Mention → Bool) (means : Mention → Meant) (m : WrittenScope) (ms : List WrittenScope) (k : Known) (ks : List Known) (keys : List Mention) (later : List WrittenScope) (n : Noted means m ms k ks keys later) → MayBring may means (m ∷ ms) (k ∷ ks)
    → MayBring may means (n.scope ∷ ms) (k ∷ ks)
unfolding reach
brings_noted may means m ms k ks keys later n b key up is at = one (known_at n.scope.known key) refl at
  where
    one : (o : Option At) → known_at n.scope.known key ≡ o → reach_in o (option_and_then (reach ms) (mention_outside n.scope.width key)) ≡ Some up → StaysWithin up (k ∷ ks) ⊎ IsFree (means key).entity
    one (Some place) known at = inl (subst (λ (up : ℕ). StaysWithin up (k ∷ ks)) (same_Some _ _ at) tt)
    one None known at = b key up is (ap (λ o. reach_in o (option_and_then (reach ms) (mention_outside m.width key))) (n.less key known) ∙ ap (λ w. reach_in None (option_and_then (reach ms) (mention_outside w key))) (sym n.width) ∙ at)
