-- What shares a section, and what is written of it.
use Rattle.std.proofs.Common.{◌≡◌, ℕ, ◌<◌, ◌^◌, Bool, true, false, cond, eqb, List, [], ◌∷◌, ◌++◌, length, map, Some, None, refl, sym, ap, subst, ◌∙◌, inl, inr}
use Rattle.std.specs.List.{flat_map, AllByRecursion}
use Rattle.std.proofs.lemmas.List.{map-append, append-nil}
use Rattle.std.proofs.lemmas.Bool.{cases_Bool, eq-eqb, eqb-true}
use Rattle.comp_format.specs.Items.{ItemTree}
use Rattle.comp_format.specs.Numbers.{number_text}
use Rattle.comp_encoder.specs.Builder.{Kept, Item, Whole, IsKept, IsItem, EndsRun, kept_bytes, item_of, entry_of, entries_of, first_section, shared_section}
use Rattle.comp_encoder.specs.Writing.{WrittenSection, item_id, item_text, is_shared, is_plain, alone, joins, joined, sections_of, content_text}
use Rattle.comp_encoder.proofs.WritingLaws.{Joins, FitsEntry, joins_is, vector_text-map, items_counted}

-- what is kept, one behind the other
pub entries_more : (k : Kept) (ks : List Kept) → entries_of (k ∷ ks) ≡ entry_of k ∷ entries_of ks
unfolding entries_of
entries_more k ks = refl

pub entries_append : (front back : List Kept) → entries_of (front ++ back) ≡ entries_of front ++ entries_of back
unfolding entries_of
entries_append front back = map-append entry_of front back

pub entry_fits : (k : Kept) → IsKept k → FitsEntry (entry_of k)
unfolding entry_of
entry_fits (Item id bytes) h = h.fits
entry_fits (Whole id content) h = h

pub entries_fit : (ks : List Kept) → AllByRecursion IsKept ks → AllByRecursion FitsEntry (entries_of ks)
unfolding entries_of
entries_fit [] h = tt
entries_fit (k ∷ ks) h = (entry_fits k h.0, entries_fit ks h.1)

-- ---- what does not join

-- an item that doesn't join the first group begins one
joined_begins : (item : ItemTree) (g : WrittenSection) (gs : List WrittenSection) → (Joins item g → ⊥) → joined item (g ∷ gs) ≡ alone item ∷ g ∷ gs
joined_begins item g gs apart =
    elim (cases_Bool (joins item g)) [
      | inl is ↦ absurd (apart (joins_is item g is))
      | inr not ↦ ap (λ (t : Bool). cond t (record { id = g.id; items = item ∷ g.items; raw = g.raw } ∷ gs) (alone item ∷ g ∷ gs)) not
    ]

-- sections of which an item joined or began the first, which then has the item's id
record Begins (id : ℕ) (gs : List WrittenSection) : Type 0 where
  first : WrittenSection
  others : List WrittenSection
  is : gs ≡ first ∷ others
  id_is : first.id ≡ id

begins_joined : (item : ItemTree) (gs : List WrittenSection) → Begins (item_id item) (joined item gs)
begins_joined item [] = record { first = alone item; others = []; is = refl; id_is = refl }
begins_joined item (g ∷ gs) =
    elim (cases_Bool (joins item g)) [
      | inl is ↦ record {
        first = record { id = g.id; items = item ∷ g.items; raw = g.raw };
        others = gs;
        is = ap (λ (t : Bool). cond t (record { id = g.id; items = item ∷ g.items; raw = g.raw } ∷ gs) (alone item ∷ g ∷ gs)) is;
        id_is = sym (joins_is item g is).same;
      }
      | inr not ↦ record {
        first = alone item;
        others = g ∷ gs;
        is = ap (λ (t : Bool). cond t (record { id = g.id; items = item ∷ g.items; raw = g.raw } ∷ gs) (alone item ∷ g ∷ gs)) not;
        id_is = refl;
      }
    ]

-- an item of another id, or of an id that is not shared
joined_apart : (item : ItemTree) (id : ℕ) (gs : List WrittenSection) → Begins id gs → (item_id item ≡ id → is_shared id ≡ true → ⊥) → joined item gs ≡ alone item ∷ gs
joined_apart item id gs b apart =
    let no : Joins item b.first → ⊥ = λ j. apart (j.same ∙ b.id_is) (subst (λ n. is_shared n ≡ true) b.id_is j.shared) in
    subst (λ (hs : List WrittenSection). joined item hs ≡ alone item ∷ hs) (sym b.is) (joined_begins item b.first b.others no)

-- an item in front of what does not share its section
ends_apart : (item : ItemTree) (ks : List Kept) → AllByRecursion IsKept ks → (is_shared (item_id item) ≡ true → EndsRun (item_id item) ks) → joined item (sections_of (entries_of ks)) ≡ alone item ∷ sections_of (entries_of ks)
unfolding entries_of entry_of
ends_apart item [] fit ends = refl
ends_apart item (Item id bytes ∷ ks) fit ends =
    let b = begins_joined (item_of id bytes) (sections_of (entries_of ks)) in
    joined_apart item (item_id (item_of id bytes)) (joined (item_of id bytes) (sections_of (entries_of ks))) b
    (λ same shared. ends (subst (λ n. is_shared n ≡ true) (sym same) shared) (sym fit.0.id_is ∙ sym same))
ends_apart item (Whole id content ∷ ks) fit ends = joined_begins item _ (sections_of (entries_of ks)) (λ j. raw_is j.open_is)
  where
    raw_is : {c : List ℕ} → Some c ≡ None → ⊥
    raw_is e = cc

-- ---- what joins

none_open : (item : ItemTree) (id : ℕ) (items : List ItemTree) → item_id item ≡ id → is_shared id ≡ true → joins item (record { id = id; items = items; raw = None }) ≡ true
none_open item id items same shared = rw (eq-eqb (item_id item) id same, shared) refl

joined_same : (item : ItemTree) (id : ℕ) (items : List ItemTree) (gs : List WrittenSection) → item_id item ≡ id → is_shared id ≡ true
    → joined item (record { id = id; items = items; raw = None } ∷ gs) ≡ (record { id = id; items = item ∷ items; raw = None }) ∷ gs
joined_same item id items gs same shared =
    ap (λ (t : Bool). cond t ((record { id = id; items = item ∷ items; raw = None }) ∷ gs) (alone item ∷ (record { id = id; items = items; raw = None }) ∷ gs)) (none_open item id items same shared)

-- items of one id are one group
pub run_is : (id : ℕ) (bytes : List ℕ) (ks rest : List Kept) → is_shared id ≡ true → AllByRecursion IsKept (Item id bytes ∷ ks) → AllByRecursion IsKept rest → AllByRecursion (IsItem id) ks → EndsRun id rest
    → sections_of (entries_of ((Item id bytes ∷ ks) ++ rest)) ≡ shared_section id (Item id bytes ∷ ks) ∷ sections_of (entries_of rest)
unfolding entries_of entry_of
run_is id bytes [] rest shared fit rest_fit alike ends =
    ends_apart (item_of id bytes) rest rest_fit (λ _. subst (λ n. EndsRun n rest) (sym fit.0.id_is) ends)
    ∙ ap (λ n. (record { id = n; items = item_of id bytes ∷ []; raw = None }) ∷ sections_of (entries_of rest)) fit.0.id_is
run_is id bytes (Item i b ∷ ks) rest shared fit rest_fit alike ends =
    let same : i ≡ id = alike.0 in
    let item : ItemTree = item_of id bytes in
    let back : (P : ℕ → Type 0) → P id → P i = λ P. subst P (sym same) in
    let others = run_is i b ks rest (back (λ n. is_shared n ≡ true) shared) fit.1 rest_fit (back (λ n. AllByRecursion (IsItem n) ks) alike.1) (back (λ n. EndsRun n rest) ends) in
    ap (joined item) others ∙ joined_same item i (map (λ k. item_of i (kept_bytes k)) (Item i b ∷ ks)) (sections_of (entries_of rest)) (fit.0.id_is ∙ sym same) (back (λ n. is_shared n ≡ true) shared)
    ∙ ap (λ n. (record { id = n; items = item ∷ map (λ k. item_of n (kept_bytes k)) (Item i b ∷ ks); raw = None }) ∷ sections_of (entries_of rest)) same
run_is id bytes (Whole i c ∷ ks) rest shared fit rest_fit alike ends = absurd alike.0

-- an item of an id that is not shared, or a section, is a group alone
pub alone_first : (k : Kept) (ks : List Kept) → AllByRecursion IsKept (k ∷ ks) → ((id : ℕ) (bytes : List ℕ) → k ≡ Item id bytes → is_shared id ≡ false) → sections_of (entries_of (k ∷ ks)) ≡ first_section (k ∷ []) ∷ sections_of (entries_of ks)
unfolding entries_of entry_of
alone_first (Item id bytes) ks fit apart =
    let not_shared : is_shared id ≡ false = apart id bytes refl in
    ends_apart (item_of id bytes) ks fit.1 (λ shared. absurd (shut (sym shared ∙ ap is_shared fit.0.id_is ∙ not_shared)))
    ∙ ap (λ n. (record { id = n; items = item_of id bytes ∷ []; raw = None }) ∷ sections_of (entries_of ks)) fit.0.id_is
  where
    shut : true ≡ false → ⊥
    shut e = cc
alone_first (Whole id content) ks fit apart = refl

-- ---- contents

-- the bytes of items of one id are their texts
texts_are : (id : ℕ) (ks : List Kept) → AllByRecursion IsKept ks → AllByRecursion (IsItem id) ks → flat_map (λ k. item_text (item_of id (kept_bytes k))) ks ≡ flat_map kept_bytes ks
texts_are id [] fit alike = refl
texts_are id (Item i bytes ∷ ks) fit alike =
    ap (λ (t : List ℕ). t ++ flat_map (λ k. item_text (item_of id (kept_bytes k))) ks) (ap (λ n. item_text (item_of n bytes)) (sym alike.0) ∙ fit.0.text) ∙ ap (λ (t : List ℕ). bytes ++ t) (texts_are id ks fit.1 alike.1)
texts_are id (Whole i content ∷ ks) fit alike = absurd alike.0

pub shared_content : (id : ℕ) (ks : List Kept) → is_plain id ≡ false → AllByRecursion IsKept ks → AllByRecursion (IsItem id) ks → content_text (shared_section id ks) ≡ number_text (length ks) ++ flat_map kept_bytes ks
shared_content id ks vector fit alike =
    rw vector (vector_text-map item_text (λ k. item_of id (kept_bytes k)) ks) ∙ ap (λ (t : List ℕ). number_text (length ks) ++ t) (texts_are id ks fit alike)

-- an item that is no vector
pub plain_content : (id : ℕ) (bytes : List ℕ) → is_plain id ≡ true → IsKept (Item id bytes) → content_text (shared_section id (Item id bytes ∷ [])) ≡ bytes
plain_content id bytes plain fit = rw plain (append-nil (item_text (item_of id bytes)) ∙ fit.text)

-- a section's items can be counted
pub whole_counted : (id : ℕ) (content : List ℕ) → IsKept (Whole id content) → length (first_section (Whole id content ∷ [])).items < 2 ^ 32
whole_counted id content fit = subst (λ (items : List ItemTree). length items < 2 ^ 32) fit.items_are (items_counted fit.section content fit.form)

-- ---- what shares sections

shut : true ≡ false → ⊥
shut e = cc

pub plain_apart : (id : ℕ) → is_plain id ≡ true → is_shared id ≡ false
plain_apart id plain =
    elim (cases_Bool (eqb id 0)) [
      | inl is ↦ subst (λ n. is_shared n ≡ false) (sym (eqb-true id 0 is)) refl
      | inr not_custom ↦
          elim (cases_Bool (eqb id 1)) [
            | inl is ↦ subst (λ n. is_shared n ≡ false) (sym (eqb-true id 1 is)) refl
            | inr not_module ↦
                elim (cases_Bool (eqb id 4)) [
                  | inl is ↦ subst (λ n. is_shared n ≡ false) (sym (eqb-true id 4 is)) refl
                  | inr not_component ↦ absurd (shut (sym plain ∙ rw (not_custom, not_module, not_component) refl))
                ]
          ]
    ]
