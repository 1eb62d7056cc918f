-- What an instance shows is found at the paths of its exports.
use Rattle.std.proofs.Common.{◌≡◌, ◌⊎◌, inl, inr, ℕ, Bool, true, false, List, [], ◌∷◌, ◌++◌, Option, Some, None, refl, sym, ap, subst, ◌∙◌, append_assoc}
use Rattle.std.specs.List.{list_any}
use Rattle.std.specs.Str.{bytes_eq, str_eq_ignore_ascii_case}
use Rattle.std.proofs.lemmas.Slice.Eq.{bytes_eq-Decides}
use Rattle.comp_entity.specs.Entity.{Name, ValueTree, TypeShapeTree, Value, Resource, Func, Instance, Component, EntityTree, IsType, IsFunc, IsInstance, IsComponent, IsModule, IsOwnModule, Entries, no_entry, entry}
use Rattle.comp_entity.specs.Names.{changing, outside, value_by, entity_by, entries_by, without_places, bare, Mention, OfPlace}
use Rattle.comp_entity.specs.NameLaws.{value_twice, entity_twice}
use Rattle.comp_entity.specs.Fits.{under, place_of}
use Rattle.comp_entity.specs.Places.{Path, names_itself, named_value, leaves_of, leaves_in}
use Rattle.comp_scope.specs.Spaces.{Standing, entity_is_named}
use Rattle.compose_meaning.specs.Meaning.{Meaning, placing, placed_value, placed_entity, placed_entries, meant, Means}
use Rattle.compose_meaning.specs.Stands.{at_path}
use Rattle.compose_meaning.specs.Shows.{HasBit, HasTypeBit, Shows, AllShow}
use Rattle.compose_meaning.proofs.ListLaws.{Each, each_both, or_false_left, or_false_right}
use Rattle.compose_meaning.proofs.NameLaws.{placing_bare, bare_change, placing_twice, from_here, type_named_alike}
use Rattle.compose_meaning.proofs.NamedLaws.{eq_itself}

-- ---- what is shown is the entity

mutual
  pub shows_bare : (mean : Meaning) (e : EntityTree) (s : Standing) → Shows mean e s → bare s.0 ≡ placed_entity mean e
  shows_bare mean (IsType t) s h = h.0
  shows_bare mean (IsFunc f) s h = h
  shows_bare mean (IsInstance es) s h = ap bare h.1 ∙ ap IsInstance (all_bare mean es h.0 h.2)
  shows_bare mean (IsComponent is es) s h = h
  shows_bare mean (IsModule m) s h = h
  shows_bare mean IsOwnModule s h = elim h [ ]

  pub all_bare : (mean : Meaning) (es fs : Entries) → AllShow mean es fs → entries_by without_places 0 fs ≡ placed_entries mean es
  all_bare mean no_entry no_entry h = refl
  all_bare mean no_entry (entry n f q fs) h = elim h [ ]
  all_bare mean (entry m e p es) no_entry h = elim h [ ]
  all_bare mean (entry m e p es) (entry n f q fs) h = λ i. entry (sym h.0 i) (shows_bare mean e (f, q) h.1 i) true (all_bare mean es fs h.2 i)

-- ---- in other names

module _ (f g : Name → Name) (inner mean : Meaning) (turns : (n : Name) → f (inner.resource n) ≡ mean.resource n) (bits : (n : Name) → inner.bit n ≡ mean.bit n) where
  entity_turned : (e : EntityTree) (s : EntityTree) → bare s ≡ placed_entity inner e → bare (entity_by (changing f g) 0 s) ≡ placed_entity mean e
  entity_turned e s h =
      entity_twice without_places (changing f g) (placing f) (bare_change f g) 0 s
      ∙ sym (entity_twice (placing f) without_places (placing f) (placing_bare f) 0 s)
      ∙ ap (entity_by (placing f) 0) h
      ∙ entity_twice (placing f) (placing inner.resource) (placing mean.resource) (placing_twice f inner.resource mean.resource turns) 0 e

  named_turned : (s : EntityTree) → entity_is_named s ≡ true → entity_is_named (entity_by (changing f g) 0 s) ≡ true
  named_turned (IsType t) h = type_named_alike f g 0 t ∙ h
  named_turned (IsFunc func) h = refl
  named_turned (IsInstance es) h = refl
  named_turned (IsComponent is es) h = refl
  named_turned (IsModule m) h = refl
  named_turned IsOwnModule h = refl

  bit_turned : (o : Option Name) (s : Standing) → HasBit inner o s → HasBit mean o (entity_by (changing f g) 0 s.0, s.1)
  bit_turned None s h = tt
  bit_turned (Some n) s h = (named_turned s.0 h.0, h.1 ∙ bits n)

  type_bit_turned : (t : TypeShapeTree) (s : Standing) → HasTypeBit inner t s → HasTypeBit mean t (entity_by (changing f g) 0 s.0, s.1)
  type_bit_turned (Value t) s h = bit_turned (place_of t) s h
  type_bit_turned (Resource r) s h = h
  type_bit_turned (Func func) s h = tt
  type_bit_turned (Instance es) s h = tt
  type_bit_turned (Component is es) s h = tt

  mutual
    pub shows_turned : (e : EntityTree) (s : Standing) → Shows inner e s → Shows mean e (entity_by (changing f g) 0 s.0, s.1)
    shows_turned (IsType t) s h = (entity_turned (IsType t) s.0 h.0, type_bit_turned t s h.1)
    shows_turned (IsFunc func) s h = entity_turned (IsFunc func) s.0 h
    shows_turned (IsInstance es) s h = (entries_by (changing f g) 0 h.0, ap (entity_by (changing f g) 0) h.1, all_turned es h.0 h.2)
    shows_turned (IsComponent is es) s h = entity_turned (IsComponent is es) s.0 h
    shows_turned (IsModule m) s h = entity_turned (IsModule m) s.0 h
    shows_turned IsOwnModule s h = elim h [ ]

    pub all_turned : (es fs : Entries) → AllShow inner es fs → AllShow mean es (entries_by (changing f g) 0 fs)
    all_turned no_entry no_entry h = tt
    all_turned no_entry (entry n b q fs) h = elim h [ ]
    all_turned (entry m e p es) no_entry h = elim h [ ]
    all_turned (entry m e p es) (entry n b q fs) h = (h.0, shows_turned e (b, q) h.1, all_turned es fs h.2)

-- ---- names that differ, and places that are named

abbrev pub NamedBy : (Mention → Bool) → (Name → ValueTree) → ValueTree → Option Name → Type 0
NamedBy may tree t None = Unit {0}
NamedBy may tree t (Some n) = (may (OfPlace n) ≡ true) × (value_by without_places 0 t ≡ tree n)

abbrev mutual
  pub IsOrderly : (Mention → Bool) → (Name → ValueTree) → EntityTree → Type 0
  IsOrderly may tree (IsType (Value t)) = NamedBy may tree t (place_of t)
  IsOrderly may tree (IsInstance es) = AreOrderly may tree [] es
  IsOrderly may tree _ = Unit {0}

  pub AreOrderly : (Mention → Bool) → (Name → ValueTree) → List (List ℕ) → Entries → Type 0
  AreOrderly may tree names no_entry = Unit {0}
  AreOrderly may tree names (entry name e mark es) = (list_any (str_eq_ignore_ascii_case name) names ≡ false) × IsOrderly may tree e × AreOrderly may tree (names ++ name ∷ []) es

-- ---- exports under their names

ListedIn : Entries → Entries → Type 0
ListedIn all no_entry = Unit {0}
ListedIn all (entry n f q fs) = (under n all ≡ Some (f, q)) × ListedIn all fs

AllApart : List ℕ → Entries → Type 0
AllApart name no_entry = Unit {0}
AllApart name (entry n f q fs) = (bytes_eq n name ≡ false) × AllApart name fs

In : List ℕ → List (List ℕ) → Type 0
In name [] = ⊥
In name (n ∷ ns) = (n ≡ name) ⊎ In name ns

in_before : (name last : List ℕ) (ns : List (List ℕ)) → In name ns → In name (ns ++ last ∷ [])
unfolding In
in_before name last [] h = elim h [ ]
in_before name last (n ∷ ns) (inl h) = inl h
in_before name last (n ∷ ns) (inr h) = inr (in_before name last ns h)

in_last : (name : List ℕ) (ns : List (List ℕ)) → In name (ns ++ name ∷ [])
unfolding In
in_last name [] = inl refl
in_last name (n ∷ ns) = inr (in_last name ns)

differs : (n name : List ℕ) (ns : List (List ℕ)) → list_any (str_eq_ignore_ascii_case n) ns ≡ false → In name ns → str_eq_ignore_ascii_case n name ≡ false
unfolding In
differs n name [] h i = elim i [ ]
differs n name (x ∷ ns) h (inl i) = subst (λ (x : List ℕ). str_eq_ignore_ascii_case n x ≡ false) i (or_false_left _ (list_any (str_eq_ignore_ascii_case n) ns) h)
differs n name (x ∷ ns) h (inr i) = differs n name ns (or_false_right (str_eq_ignore_ascii_case n x) _ h) i

bytes_differ : (n name : List ℕ) → str_eq_ignore_ascii_case n name ≡ false → bytes_eq n name ≡ false
bytes_differ n name h = one (bytes_eq n name) refl
  where
    one : (b : Bool) → bytes_eq n name ≡ b → b ≡ false
    one false is = refl
    one true is = sym (eq_itself n) ∙ ap (str_eq_ignore_ascii_case n) ((bytes_eq-Decides n name).0 is) ∙ h

apart : (may : Mention → Bool) (tree : Name → ValueTree) (mean : Meaning) (name : List ℕ) (names : List (List ℕ)) (es fs : Entries) → In name names → AreOrderly may tree names es → AllShow mean es fs → AllApart name fs
unfolding AllApart
apart may tree mean name names no_entry no_entry i o h = tt
apart may tree mean name names no_entry (entry n f q fs) i o h = elim h [ ]
apart may tree mean name names (entry m e p es) no_entry i o h = elim h [ ]
apart may tree mean name names (entry m e p es) (entry n f q fs) i o h =
    (bytes_differ n name (ap (λ m. str_eq_ignore_ascii_case m name) (sym h.0) ∙ differs m name names o.0 i), apart may tree mean name (names ++ m ∷ []) es fs (in_before name m names i) o.2 h.2)

listed_more : (name : List ℕ) (f : EntityTree) (q : Bool) (all fs : Entries) → AllApart name fs → ListedIn all fs → ListedIn (entry name f q all) fs
unfolding AllApart ListedIn
listed_more name f q all no_entry a l = tt
listed_more name f q all (entry n g r fs) a l = (rw a.0 l.0, listed_more name f q all fs a.1 l.1)

listed_all : (may : Mention → Bool) (tree : Name → ValueTree) (mean : Meaning) (names : List (List ℕ)) (es fs : Entries) → AreOrderly may tree names es → AllShow mean es fs → ListedIn fs fs
unfolding ListedIn
listed_all may tree mean names no_entry no_entry o h = tt
listed_all may tree mean names no_entry (entry n f q fs) o h = elim h [ ]
listed_all may tree mean names (entry m e p es) no_entry o h = elim h [ ]
listed_all may tree mean names (entry m e p es) (entry n f q fs) o h = (
  rw ((bytes_eq-Decides n n).1 refl) refl,
  listed_more n f q fs fs (apart may tree mean n (names ++ m ∷ []) es fs (subst (λ (n : List ℕ). In n (names ++ m ∷ [])) h.0 (in_last m names)) o.2 h.2) (listed_all may tree mean (names ++ m ∷ []) es fs o.2 h.2),
)

-- ---- at the paths

-- what stands in an instance, not an instance itself, is found where its path leads
abbrev pub LeafAt : Meaning → (Mention → Bool) → (Name → ValueTree) → (Path → Option Standing) → Path × EntityTree → Type 0
LeafAt mean may tree look leaf = (s : Standing) × (look leaf.0 ≡ Some s) × Shows mean leaf.1 s × IsOrderly may tree leaf.1

module _ (mean : Meaning) (may : Mention → Bool) (tree : Name → ValueTree) (look : Path → Option Standing) where
  Goes : Path → Entries → Type 0
  Goes path all = (name : List ℕ) (names : Path) → look (path ++ name ∷ names) ≡ at_path (name ∷ names) all

  goes_in : (path : Path) (name : List ℕ) (all fs : Entries) (q : Bool) → Goes path all → under name all ≡ Some (IsInstance fs, q) → Goes (path ++ name ∷ []) fs
  unfolding Goes
  goes_in path name all fs q g found = λ next names. ap look (append_assoc path (name ∷ []) (next ∷ names)) ∙ g name (next ∷ names) ∙ rw found refl

  mutual
    unfolding Goes ListedIn

    leaves_at : (e : EntityTree) (path : Path) (name : List ℕ) (all : Entries) (s : Standing) → Goes path all → under name all ≡ Some s → Shows mean e s → IsOrderly may tree e → Each (LeafAt mean may tree look) (leaves_of (path ++ name ∷ []) e)
    leaves_at (IsType t) path name all s g found h o = ((s, g name [] ∙ found, h, o), tt)
    leaves_at (IsFunc f) path name all s g found h o = ((s, g name [] ∙ found, h, o), tt)
    leaves_at (IsInstance es) path name all s g found h o =
        all_leaves_at es h.0 (path ++ name ∷ []) h.0 [] (goes_in path name all h.0 s.1 g (found ∙ ap (λ e. Some (e, s.1)) h.1)) h.2 o (listed_all may tree mean [] es h.0 o h.2)
    leaves_at (IsComponent is es) path name all s g found h o = ((s, g name [] ∙ found, h, o), tt)
    leaves_at (IsModule m) path name all s g found h o = ((s, g name [] ∙ found, h, o), tt)
    leaves_at IsOwnModule path name all s g found h o = elim h [ ]

    all_leaves_at : (es fs : Entries) (path : Path) (all : Entries) (names : List (List ℕ)) → Goes path all → AllShow mean es fs → AreOrderly may tree names es → ListedIn all fs → Each (LeafAt mean may tree look) (leaves_in path es)
    all_leaves_at no_entry no_entry path all names g h o l = tt
    all_leaves_at no_entry (entry n f q fs) path all names g h o l = elim h [ ]
    all_leaves_at (entry m e p es) no_entry path all names g h o l = elim h [ ]
    all_leaves_at (entry m e p es) (entry n f q fs) path all names g h o l =
        each_both (LeafAt mean may tree look) (leaves_of (path ++ m ∷ []) e) (leaves_in path es)
        (leaves_at e path m all (f, q) g (ap (λ n. under n all) h.0 ∙ l.0) h.1 o.1)
        (all_leaves_at es fs path all (names ++ m ∷ []) g h.2 o.2 l.1)

-- the leaves of an instance
pub leaves_found : (mean : Meaning) (may : Mention → Bool) (tree : Name → ValueTree) (es fs : Entries) → AllShow mean es fs → AreOrderly may tree [] es → Each (LeafAt mean may tree (λ path. at_path path fs)) (leaves_in [] es)
unfolding Goes
leaves_found mean may tree es fs h o = all_leaves_at mean may tree (λ path. at_path path fs) es fs [] fs [] (λ name names. refl) h o (listed_all may tree mean [] es fs o h)

-- ---- what a leaf brings means what is meant

pub entity_type : (e : EntityTree) (t : TypeShapeTree) → bare e ≡ IsType t → (u : TypeShapeTree) × (e ≡ IsType u)
entity_type (IsType u) t h = (u, refl)
entity_type (IsFunc f) t h = absurd cc
entity_type (IsInstance es) t h = absurd cc
entity_type (IsComponent is es) t h = absurd cc
entity_type (IsModule m) t h = absurd cc
entity_type IsOwnModule t h = absurd cc

resource_named : (e : EntityTree) (n : Name) → bare e ≡ IsType (Resource n) → entity_is_named e ≡ true
resource_named (IsType (Value t)) n h = absurd cc
resource_named (IsType (Resource r)) n h = refl
resource_named (IsType (Func f)) n h = absurd cc
resource_named (IsType (Instance es)) n h = absurd cc
resource_named (IsType (Component is es)) n h = absurd cc
resource_named (IsFunc f) n h = absurd cc
resource_named (IsInstance es) n h = absurd cc
resource_named (IsComponent is es) n h = absurd cc
resource_named (IsModule m) n h = absurd cc
resource_named IsOwnModule n h = absurd cc

place_means : (mean : Meaning) (t : ValueTree) (s : Standing) (o : Option Name) → bare s.0 ≡ placed_entity mean (IsType (Value t)) → HasBit mean o s → NamedBy mean.may_mention mean.tree t o → Each (λ key. Means 0 (meant mean key) s) (named_value o)
place_means mean t s None is bit named = tt
place_means mean t s (Some n) is bit named =
    let u = entity_type s.0 (Value (placed_value mean t)) is in (
      record {
        ty = u.0;
        is_type = u.1;
        is = ap bare (from_here s.0) ∙ is ∙ ap (λ t. IsType (Value t)) (sym (value_twice (placing mean.resource) without_places (placing mean.resource) (placing_bare mean.resource) 0 t) ∙ ap (placed_value mean) named.1);
        is_named = bit.0;
        bit = bit.1;
      },
      tt,
    )

pub leaf_means : (mean : Meaning) (e : EntityTree) (s : Standing) → Shows mean e s → IsOrderly mean.may_mention mean.tree e → Each (λ key. Means 0 (meant mean key) s) (names_itself e)
leaf_means mean (IsType (Value t)) s h o = place_means mean t s (place_of t) h.0 h.1 o
leaf_means mean (IsType (Resource r)) s h o =
    let u = entity_type s.0 (Resource (outside mean.resource 0 r)) h.0 in
    (record { ty = u.0; is_type = u.1; is = ap bare (from_here s.0) ∙ h.0; is_named = resource_named s.0 (outside mean.resource 0 r) h.0; bit = h.1 }, tt)
leaf_means mean (IsType (Func f)) s h o = tt
leaf_means mean (IsType (Instance es)) s h o = tt
leaf_means mean (IsType (Component is es)) s h o = tt
leaf_means mean (IsFunc f) s h o = tt
leaf_means mean (IsInstance es) s h o = tt
leaf_means mean (IsComponent is es) s h o = tt
leaf_means mean (IsModule m) s h o = tt
leaf_means mean IsOwnModule s h o = tt
