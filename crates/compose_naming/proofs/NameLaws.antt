-- Names by which types are written, one more each time.
use Rattle.std.proofs.Common.{◌≡◌, ◌∙◌, ◌+◌, ◌<◌, ℕ, Bool, true, false, cond, List, [], ◌∷◌, ◌++◌, length, map, take, get_or, Option, Some, None, Result, Ok, refl, sym, ap}
use Rattle.std.specs.Prelude.{IfSome, filter, is_some, unwrap_or}
use Rattle.std.specs.Option.{ok_or, option_or}
use Rattle.std.specs.Ordering.{is_eq}
use Rattle.std.specs.BTreeMap.{BTreeMap, Updates, get}
use Rattle.std.proofs.lemmas.List.{append-nil, append_assoc, take_more}
use Rattle.comp_entity.specs.Entity.{EntityTree, Name}
use Rattle.comp_entity.specs.Fits.{same_name}
use Rattle.comp_entity.specs.Names.{changing, entity_by}
use Rattle.compose_left.specs.Origins.{same_thing}
use Rattle.compose_left.specs.Renaming.{called_name}
use Rattle.compose_left.specs.Spots.{named_type}
use Rattle.compose_left.specs.Wired.{thing_cmp}
use Rattle.compose_left.specs.declared.spots.Spot.{Spot}
use Rattle.compose_left.specs.declared.spots.Thing.{Thing}
use Rattle.compose_needs.specs.ThingLaws.{same_things, thing_ties}
use Rattle.compose_needs.specs.declared.leaves.Leaf.{Leaf}
use Rattle.compose_naming.specs.Settled.{WrittenNames, along_leaves, at_leaf, called_as, is_type, name_in, written_as}
use Rattle.compose_naming.specs.Names.{FindsNames, noted}
use Rattle.warg_values.specs.declared.memory.Memory.{Memory}

-- ---- names in lists

noted_name : (ws : WrittenNames) (n : Name) → unwrap_or (noted ws n) n ≡ written_as ws n
noted_name [] n = refl
noted_name (w ∷ ws) n = one (same_name w.0 n) (noted_name ws n)
  where
    one : (b : Bool) → unwrap_or (noted ws n) n ≡ written_as ws n
        → unwrap_or (cond b (Some w.1) (noted ws n)) n ≡ cond b w.1 (written_as ws n)
    one true e = refl
    one false e = e

noted_append : (ws us : WrittenNames) (n : Name) → noted (ws ++ us) n ≡ option_or (noted ws n) (noted us n)
noted_append [] us n = refl
noted_append (w ∷ ws) us n = one (same_name w.0 n) (noted_append ws us n)
  where
    one : (b : Bool) → noted (ws ++ us) n ≡ option_or (noted ws n) (noted us n)
        → cond b (Some w.1) (noted (ws ++ us) n) ≡ option_or (cond b (Some w.1) (noted ws n)) (noted us n)
    one true e = refl
    one false e = e

abbrev named_pair : Name → Thing → Name × Name
named_pair w t = (name_in t, w)

called_append : (w : Name) (ts us : List Thing) → called_as w (ts ++ us) ≡ called_as w ts ++ called_as w us
called_append w [] us = refl
called_append w (t ∷ ts) us = one t.is_type (called_append w ts us)
  where
    one : (b : Bool) → called_as w (ts ++ us) ≡ called_as w ts ++ called_as w us
        → map (named_pair w) (cond b (t ∷ filter is_type (ts ++ us)) (filter is_type (ts ++ us)))
        ≡ map (named_pair w) (cond b (t ∷ filter is_type ts) (filter is_type ts)) ++ called_as w us
    one true e = ap (λ (xs : WrittenNames). (name_in t, w) ∷ xs) e
    one false e = e

called_one : (w : Name) (t : Thing) (b : Bool) → t.is_type ≡ b
    → called_as w (t ∷ []) ≡ cond b ((name_in t, w) ∷ []) []
called_one w t b e = (λ i. map (named_pair w) (cond (e i) (t ∷ []) [])) ∙ one b
  where
    one : (b : Bool)
        → map (named_pair w) (cond b (t ∷ []) []) ≡ cond b ((name_in t, w) ∷ []) []
    one true = refl
    one false = refl

-- what stands behind some names, and is called so
noted_behind : (ws : WrittenNames) (w : Name) (t : Thing) (n : Name) → t.is_type ≡ true
    → noted (ws ++ called_as w (t ∷ [])) n ≡ option_or (noted ws n) (cond (same_name (name_in t) n) (Some w) None)
noted_behind ws w t n e =
    ap (λ us. noted (ws ++ us) n) (called_one w t true e) ∙ noted_append ws ((name_in t, w) ∷ []) n

-- ---- types as things

pub named_is : (t : Thing) → t.is_type ≡ true → named_type (name_in t) ≡ t
named_is t e = λ i. record { is_type = sym e i; out = t.out; number = t.number }

same_by_name : (t : Thing) (n : Name) → t.is_type ≡ true → same_thing t (named_type n) ≡ same_name (name_in t) n
same_by_name t n e = ap (λ x. same_thing x (named_type n)) (sym (named_is t e))

pub found_by_name : (t : Thing) (n : Name) → t.is_type ≡ true
    → is_eq (thing_cmp t (named_type n)) ≡ same_name (name_in t) n
found_by_name t n e = sym (thing_ties t (named_type n)) ∙ same_by_name t n e

-- ---- names in maps

nothing_more : (o : Option Name) → o ≡ option_or o None
nothing_more None = refl
nothing_more (Some n) = refl

-- a thing that is no type
pub names_same : (m : BTreeMap Thing Name) (ws : WrittenNames) (t : Thing) (w : Name) → t.is_type ≡ false
    → FindsNames m ws → FindsNames m (ws ++ called_as w (t ∷ []))
names_same m ws t w e h n =
    h n ∙ ap (λ us. noted us n) (sym (append-nil ws) ∙ ap (λ us. ws ++ us) (sym (called_one w t false e)))

-- a type of which a name is noted
pub names_kept : (m : BTreeMap Thing Name) (ws : WrittenNames) (t : Thing) (w : Name) → t.is_type ≡ true
    → is_some (get thing_cmp m t) ≡ true → FindsNames m ws → FindsNames m (ws ++ called_as w (t ∷ []))
names_kept m ws t w e there h n =
    h n ∙ one (same_name (name_in t) n) refl (noted ws n) refl ∙ sym (noted_behind ws w t n e)
  where
    one : (b : Bool) → same_name (name_in t) n ≡ b → (o : Option Name) → noted ws n ≡ o
        → o ≡ option_or o (cond b (Some w) None)
    one b s (Some k) f = refl
    one false s None f = refl
    one true s None f =
        let same : t ≡ named_type n = same_things t (named_type n) (same_by_name t n e ∙ s) in
        let none : is_some (get thing_cmp m t) ≡ false =
        ap (λ x. is_some (get thing_cmp m x)) same ∙ ap (λ (o : Option Name). is_some o) (h n ∙ f) in
        let bad : true ≡ false = sym there ∙ none in
        absurd cc

-- a type of which none is noted
pub names_more : (old new : BTreeMap Thing Name) (ws : WrittenNames) (t : Thing) (w : Name) → t.is_type ≡ true
    → get thing_cmp old t ≡ None → Updates thing_cmp old new t (Some w) → FindsNames old ws
    → FindsNames new (ws ++ called_as w (t ∷ []))
names_more old new ws t w e none u h n =
    u.0 (named_type n) ∙ ap (λ b. cond b (Some w) (get thing_cmp old (named_type n))) (found_by_name t n e)
    ∙ one (same_name (name_in t) n) refl ∙ sym (noted_behind ws w t n e)
  where
    one : (b : Bool) → same_name (name_in t) n ≡ b
        → cond b (Some w) (get thing_cmp old (named_type n)) ≡ option_or (noted ws n) (cond b (Some w) None)
    one true s =
        let same : t ≡ named_type n = same_things t (named_type n) (same_by_name t n e ∙ s) in
        let gone : noted ws n ≡ None = sym (h n) ∙ ap (λ x. get thing_cmp old x) (sym same) ∙ none in
        ap (λ o. option_or o (Some w)) (sym gone)
    one false s = h n ∙ nothing_more (noted ws n)

-- the next of some things
pub names_step : (m : BTreeMap Thing Name) (ws : WrittenNames) (w : Name) (ts : List Thing) (i : ℕ) (d : Thing)
    → i < length ts → FindsNames m (ws ++ called_as w (take i ts) ++ called_as w (get_or ts i d ∷ []))
    → FindsNames m (ws ++ called_as w (take (i + 1) ts))
names_step m ws w ts i d lt h n =
    h n ∙ ap (λ us. noted us n)
    (append_assoc ws (called_as w (take i ts)) (called_as w (get_or ts i d ∷ []))
    ∙ ap (λ us. ws ++ us)
    (sym (called_append w (take i ts) (get_or ts i d ∷ [])) ∙ ap (called_as w) (sym (take_more ts i d lt))))

-- ---- along leaves

along_push : (ws : WrittenNames) (calls : List Spot) (ls : List Leaf) (l : Leaf)
    → along_leaves ws calls (ls ++ l ∷ []) ≡ at_leaf (along_leaves ws calls ls) calls l l.named
along_push ws calls [] l = refl
along_push ws calls (k ∷ ls) l = along_push (at_leaf ws calls k k.named) calls ls l

pub leaf_step : (m : BTreeMap Thing Name) (calls : List Spot) (ls : List Leaf) (i : ℕ) (l : Leaf) → i < length ls
    → l ≡ get_or ls i l → FindsNames m (at_leaf (along_leaves [] calls (take i ls)) calls l l.named)
    → FindsNames m (along_leaves [] calls (take (i + 1) ls))
leaf_step m calls ls i l lt is h n =
    h n ∙ ap (λ us. noted us n)
    (sym (along_push [] calls (take i ls) l)
    ∙ ap (λ (x : Leaf). along_leaves [] calls (take i ls ++ x ∷ [])) is
    ∙ ap (along_leaves [] calls) (sym (take_more ls i l lt)))

-- ---- copies

pub written_name : (m : BTreeMap Thing Name) (ws : WrittenNames) (n : Name) → FindsNames m ws
    → unwrap_or (get thing_cmp m (named_type n)) n ≡ written_as ws n
written_name m ws n h = ap (λ o. unwrap_or o n) (h n) ∙ noted_name ws n

pub called_so : (m : BTreeMap Thing Name) (ws : WrittenNames) (e : EntityTree) → FindsNames m ws
    → entity_by (changing (λ n. n) (called_name m)) 0 e ≡ entity_by (changing (λ n. n) (written_as ws)) 0 e
called_so m ws e h = λ i. entity_by (changing (λ n. n) (λ n. written_name m ws n h i)) 0 e

-- a name that was made of a thing
abbrev made_ok : Name → Result Name Memory
made_ok n = Ok n

pub name_made : (o : Option Name) (n m : Name) (e : Memory) → made_ok n ≡ ok_or o e → IfSome o (λ t. t ≡ m) → n ≡ m
name_made None n m e is h = absurd cc
name_made (Some t) n m e is h = let same : n ≡ t = cc in same ∙ h
