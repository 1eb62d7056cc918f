-- What is known grows where things are noted in the innermost scope.
use Rattle.std.proofs.Common.{◌≡◌, ◌||◌, ◌&&◌, ◌==◌, ℕ, Bool, true, false, List, [], ◌∷◌, ◌++◌, map, Option, Some, None, refl, sym, ap, ◌∙◌}
use Rattle.std.specs.Prelude.{is_some, if◌then◌else◌}
use Rattle.std.specs.List.{list_any}
use Rattle.std.proofs.lemmas.Bool.{eqb-true, eq-eqb}
use Rattle.comp_entity.specs.Entity.{Name}
use Rattle.comp_entity.specs.Names.{Mention, OfResource, OfPlace}
use Rattle.comp_entity.specs.Fits.{same_name}
use Rattle.comp_entity.specs.Places.{same_mention}
use Rattle.compose_writing.specs.Keys.{At, Index, KnownThings, known_at, from_within}
use Rattle.compose_writing.specs.Scopes.{WrittenScope, change_top, knows, with_known}
use Rattle.compose_writing.specs.WriteEntities.{note_new, note_all, note_here}
use Rattle.compose_writing.specs.Conditions.{with_these}
use Rattle.compose_writing.proofs.ValueLaws.{both, name_of, names_of, known_by, knows_is}

-- ---- mentions

name_is : (a b : Name) → same_name a b ≡ true → a ≡ b
name_is a b h =
    let h = both (a.out == b.out) (a.number == b.number) h in
    ap (λ out. record { out = out; number = a.number }) (eqb-true a.out b.out h.0) ∙ ap (λ number. record { out = b.out; number = number }) (eqb-true a.number b.number h.1)

pub mention_is : (a b : Mention) → same_mention a b ≡ true → a ≡ b
mention_is (OfResource a) (OfResource b) h = ap OfResource (name_is a b h)
mention_is (OfResource a) (OfPlace b) h = absurd cc
mention_is (OfPlace a) (OfResource b) h = absurd cc
mention_is (OfPlace a) (OfPlace b) h = ap OfPlace (name_is a b h)

name_itself : (a : Name) → same_name a a ≡ true
name_itself a = ap (λ b. b && (a.number == a.number)) (eq-eqb a.out a.out refl) ∙ eq-eqb a.number a.number refl

mention_itself : (a : Mention) → same_mention a a ≡ true
mention_itself (OfResource a) = name_itself a
mention_itself (OfPlace a) = name_itself a

-- ---- one thing more in a scope

kept : (b : Bool) (at : At) (o p : Option At) → (is_some o ≡ true → is_some p ≡ true) → is_some (if b then Some at else o) ≡ true → is_some (if b then Some at else p) ≡ true
kept true at o p f h = refl
kept false at o p f h = f h

known_more : (ks more : KnownThings) (key : Mention) → is_some (known_at ks key) ≡ true → is_some (known_at (ks ++ more) key) ≡ true
known_more [] more key h = absurd cc
known_more (k ∷ ks) more key h = kept (same_mention k.0 key) k.1 (known_at ks key) (known_at (ks ++ more) key) (known_more ks more key) h

found : (b : Bool) (at : At) (o : Option At) → is_some o ≡ true → is_some (if b then Some at else o) ≡ true
found true at o h = refl
found false at o h = h

known_last : (ks : KnownThings) (key : Mention) (at : At) → is_some (known_at (ks ++ (key, at) ∷ []) key) ≡ true
known_last [] key at = ap (λ b. is_some (if b then Some at else None)) (mention_itself key)
known_last (k ∷ ks) key at = found (same_mention k.0 key) k.1 (known_at (ks ++ (key, at) ∷ []) key) (known_last ks key at)

either : (a b c : Bool) → (a ≡ true → b ≡ true) → a || c ≡ true → b || c ≡ true
either true b c f h = ap (λ b. b || c) (f refl)
either false true c f h = refl
either false false c f h = h

first : (a b : Bool) → a ≡ true → a || b ≡ true
first a b h = ap (λ a. a || b) h

module _ (key : Mention) (at : At) (m : WrittenScope) (ns : List (ℕ × KnownThings)) where
  known_grows : (k : Mention) → known_by (name_of m ∷ ns) k ≡ true → known_by (name_of (with_known key at m) ∷ ns) k ≡ true
  known_grows k h = grows (is_some (known_at m.known key))
    where
      grows : (b : Bool) → known_by (name_of (if b then m else record m { known = m.known ++ (key, at) ∷ [] }) ∷ ns) k ≡ true
      grows true = h
      grows false = either (is_some (known_at m.known k)) (is_some (known_at (m.known ++ (key, at) ∷ []) k)) (from_within m.width (known_by ns) k) (known_more m.known ((key, at) ∷ []) k) h

  known_here : known_by (name_of (with_known key at m) ∷ ns) key ≡ true
  known_here = here (is_some (known_at m.known key)) refl
    where
      here : (b : Bool) → is_some (known_at m.known key) ≡ b → known_by (name_of (if b then m else record m { known = m.known ++ (key, at) ∷ [] }) ∷ ns) key ≡ true
      here true h = first (is_some (known_at m.known key)) (from_within m.width (known_by ns) key) h
      here false h = first (is_some (known_at (m.known ++ (key, at) ∷ []) key)) (from_within m.width (known_by ns) key) (known_last m.known key at)

-- ---- what is noted is known

-- what is known is known in these scopes
abbrev pub Covers : (Mention → Bool) → List (ℕ × KnownThings) → Type 0
Covers known ns = (key : Mention) → known key ≡ true → known_by ns key ≡ true

-- The scopes around the innermost are called and know what they did, and with the innermost they know what is known.
pub record Noted (known : Mention → Bool) (ns : List (ℕ × KnownThings)) (ms : List WrittenScope) : Type 0 where
  pub top : ℕ × KnownThings
  pub names : names_of ms ≡ top ∷ ns
  pub covers : Covers known (top ∷ ns)

pub noted_less : (more less : Mention → Bool) (ns : List (ℕ × KnownThings)) (ms : List WrittenScope) → ((key : Mention) → less key ≡ true → more key ≡ true) → Noted more ns ms → Noted less ns ms
noted_less more less ns ms h n = record { top = n.top; names = n.names; covers = λ key k. n.covers key (h key k) }

covers_one : (known : Mention → Bool) (key : Mention) (ns : List (ℕ × KnownThings)) → Covers known ns → known_by ns key ≡ true → Covers (with_these known (key ∷ [])) ns
covers_one known key ns covers is k h = one (known k) (same_mention key k) refl refl h
  where
    one : (a b : Bool) → known k ≡ a → same_mention key k ≡ b → a || (b || false) ≡ true → known_by ns k ≡ true
    one true b p q h = covers k p
    one false true p q h = ap (known_by ns) (sym (mention_is key k q)) ∙ is
    one false false p q h = absurd cc

abbrev head_of : (ℕ × KnownThings) → List (ℕ × KnownThings) → ℕ × KnownThings
head_of d [] = d
head_of d (n ∷ ns) = n

abbrev pub tail_of : List (ℕ × KnownThings) → List (ℕ × KnownThings)
tail_of [] = []
tail_of (n ∷ ns) = ns

pub never : {P : Type 0} (n : ℕ × KnownThings) (ns : List (ℕ × KnownThings)) → [] ≡ n ∷ ns → P
never n ns h = absurd cc

here_noted : (known : Mention → Bool) (ns : List (ℕ × KnownThings)) (key : Mention) (at : At) (ms : List WrittenScope) → Noted known ns ms → Noted (with_these known (key ∷ [])) ns (change_top (with_known key at) ms)
unfolding change_top
here_noted known ns key at [] n = never n.top ns n.names
here_noted known ns key at (m ∷ ms) n =
    let top = name_of (with_known key at m) in
    let was : name_of m ≡ n.top = ap (head_of n.top) n.names in
    record {
      top = top;
      names = ap (λ ns. top ∷ ns) (ap tail_of n.names);
      covers = covers_one known key (top ∷ ns) (λ k h. known_grows key at m ns k (ap (λ x. known_by (x ∷ ns) k) was ∙ n.covers k h)) (known_here key at m ns);
    }

new_noted : (known : Mention → Bool) (ns : List (ℕ × KnownThings)) (key : Mention) (at : At) (ms : List WrittenScope) → Noted known ns ms → Noted (with_these known (key ∷ [])) ns (note_new key at ms)
new_noted known ns key at ms n = new (knows ms key) refl
  where
    new : (b : Bool) → knows ms key ≡ b → Noted (with_these known (key ∷ [])) ns (if b then ms else change_top (with_known key at) ms)
    new true h = record { top = n.top; names = n.names; covers = covers_one known key (n.top ∷ ns) n.covers (sym (knows_is ms key ∙ ap (λ ns. known_by ns key) n.names) ∙ h) }
    new false h = here_noted known ns key at ms n

none_more : (a : Bool) → a || false ≡ true → a ≡ true
none_more true h = refl
none_more false h = h

one_more : (a b c : Bool) → a || (b || c) ≡ true → (a || (b || false)) || c ≡ true
one_more true b c h = refl
one_more false true c h = refl
one_more false false c h = h

pub all_noted : (keys : List Mention) (known : Mention → Bool) (ns : List (ℕ × KnownThings)) (at : At) (ms : List WrittenScope) → Noted known ns ms → Noted (with_these known keys) ns (note_all (map (λ key. (key, at)) keys) ms)
unfolding note_all
all_noted [] known ns at ms n = noted_less known (with_these known []) ns ms (λ key h. none_more (known key) h) n
all_noted (k ∷ ks) known ns at ms n =
    let after = note_all (map (λ key. (key, at)) ks) (note_new k at ms) in
    noted_less (with_these (with_these known (k ∷ [])) ks) (with_these known (k ∷ ks)) ns after (λ key h. one_more (known key) (same_mention k key) (list_any (λ x. same_mention x key) ks) h)
    (all_noted ks (with_these known (k ∷ [])) ns at (note_new k at ms) (new_noted known ns k at ms n))

pub all_here : (keys : List Mention) (known : Mention → Bool) (ns : List (ℕ × KnownThings)) (index : ℕ) (ms : List WrittenScope) → Noted known ns ms → Noted (with_these known keys) ns (note_here keys index ms)
unfolding note_here
all_here [] known ns index ms n = noted_less known (with_these known []) ns ms (λ key h. none_more (known key) h) n
all_here (k ∷ ks) known ns index ms n =
    let after = note_here ks index (change_top (with_known k (Index index)) ms) in
    noted_less (with_these (with_these known (k ∷ [])) ks) (with_these known (k ∷ ks)) ns after (λ key h. one_more (known key) (same_mention k key) (list_any (λ x. same_mention x key) ks) h)
    (all_here ks (with_these known (k ∷ [])) ns index (change_top (with_known k (Index index)) ms) (here_noted known ns k (Index index) ms n))
