-- Of merged imports: what stands at a place of one is called there, and what is called at a place stands there.
use Rattle.std.proofs.Common.{◌≡◌, ◌⊎◌, inl, inr, ℕ, Bool, true, false, List, [], ◌∷◌, ◌++◌, map, Option, Some, None, refl, sym, ap, subst, ◌∙◌, append_assoc}
use Rattle.std.specs.Prelude.{bytes_eq, filter, find, flat_map, is_some, not, option_and_then, option_to_list, if◌then◌else◌}
use Rattle.std.specs.List.{AllByRecursion, fold}
use Rattle.std.specs.Option.{option_map_or}
use Rattle.std.proofs.lemmas.Bool.{and_from, and_parts}
use Rattle.std.proofs.lemmas.List.{append-nil, map-append}
use Rattle.std.proofs.lemmas.List.Elements.{filter-append}
use Rattle.std.proofs.lemmas.Option.{same_Some}
use Rattle.comp_entity.specs.Entity.{EntityTree, IsType, IsFunc, IsInstance, IsComponent, IsModule, IsOwnModule, Entries, no_entry, entry}
use Rattle.comp_entity.specs.Fits.{under}
use Rattle.comp_entity.specs.Places.{Path, leaves_of, leaves_in}
use Rattle.compose_left.specs.declared.spots.Spot.{Spot}
use Rattle.compose_left.specs.declared.spots.Thing.{Thing}
use Rattle.compose_left.specs.Merging.{agree, followed_by, is_absent, new_in, union}
use Rattle.compose_left.specs.Origins.{same_path}
use Rattle.compose_left.specs.Spots.{named_by, spots_in, spots_of}
use Rattle.compose_needs.specs.Mentioned.{has}
use Rattle.compose_order.specs.Needs.{LeftTree, called_at, is_at, thing_of}
use Rattle.compose_check.specs.Open.{Asked, agrees, all_agree, is_named, left_alone, merged_with, with_asked}
use Rattle.compose_known.specs.Placed.{HasPlaces}
use Rattle.compose_origins.specs.Named.{HasOwnNames, HaveOwnNames}
use Rattle.compose_known.proofs.BehindLaws.{Leaves, all_split, both_all}
use Rattle.compose_known.proofs.MentionLaws.{has_either, has_first, has_itself, has_one, has_then}
use Rattle.compose_known.proofs.StandingLaws.{IsCalledFor, StandsAt, called_itself, standing_at, text_is, text_itself, union_own, union_placed, union_stands, union_still}

-- ---- paths

path_itself : (path : Path) → same_path path path ≡ true
path_itself [] = refl
path_itself (n ∷ path) = and_from (bytes_eq n n) (same_path path path) (text_itself n) (path_itself path)

path_is : (a b : Path) → same_path a b ≡ true → a ≡ b
path_is [] [] e = refl
path_is [] (y ∷ b) e = absurd cc
path_is (x ∷ a) [] e = absurd cc
path_is (x ∷ a) (y ∷ b) e =
    let parts = and_parts (bytes_eq x y) (same_path a b) e in λ i. text_is x y parts.0 i ∷ path_is a b parts.1 i

-- where names of exports differ, each leaf stands at its path
pub record IsAt (base : Path) (e : EntityTree) (x : Path × EntityTree) : Type 0 where
  pub path : Path
  pub within : x.0 ≡ base ++ path
  pub there : standing_at path e ≡ Some x.1

record IsIn (base : Path) (es : Entries) (x : Path × EntityTree) : Type 0 where
  name : List ℕ
  path : Path
  inside : x.0 ≡ base ++ name ∷ path
  there : standing_at (name ∷ path) (IsInstance es) ≡ Some x.1

pub all_then : {X : Type 0} (P Q : X → Type 0) (xs : List X) → ((x : X) → P x → Q x) → AllByRecursion P xs
    → AllByRecursion Q xs
all_then P Q [] f a = tt
all_then P Q (x ∷ xs) f a = (f x a.0, all_then P Q xs f a.1)

-- an entry in front, of another name
past_first : (name n : List ℕ) (e : EntityTree) (mark : Bool) (es : Entries) (path : Path) (y : EntityTree)
    → is_absent n es ≡ true → standing_at (name ∷ path) (IsInstance es) ≡ Some y
    → standing_at (name ∷ path) (IsInstance (entry n e mark es)) ≡ Some y
past_first name n e mark es path y a h = one (bytes_eq name n) refl
  where
    none : under name es ≡ None → ⊥
    none u = no (sym (ap (option_and_then (λ (x : EntityTree × Bool). standing_at path x.0)) u) ∙ h)
      where
        no : None ≡ Some y → ⊥
        no e = absurd cc

    missing : (u : Option (EntityTree × Bool)) → not (is_some u) ≡ true → u ≡ None
    missing None e = refl
    missing (Some x) e = absurd cc

    one : (b : Bool) → bytes_eq name n ≡ b
        → option_and_then (λ (x : EntityTree × Bool). standing_at path x.0)
        (if b then Some (e, mark) else under name es) ≡ Some y
    one true is = absurd (none (missing (under name es) (ap (λ m. is_absent m es) (text_is name n is) ∙ a)))
    one false is = h

alone : (base : Path) (e : EntityTree) → IsAt base e (base, e)
alone base e = record { path = []; within = sym (append-nil base); there = refl }

mutual
  leaves_at_paths : (base : Path) (e : EntityTree) → HasOwnNames e → AllByRecursion (IsAt base e) (leaves_of base e)
  leaves_at_paths base (IsType t) h = (alone base (IsType t), tt)
  leaves_at_paths base (IsFunc f) h = (alone base (IsFunc f), tt)
  leaves_at_paths base (IsInstance es) h =
      all_then (IsIn base es) (IsAt base (IsInstance es)) (leaves_in base es)
      (λ x i. record { path = i.name ∷ i.path; within = i.inside; there = i.there }) (among_at_paths base es h)
  leaves_at_paths base (IsComponent is es) h = (alone base (IsComponent is es), tt)
  leaves_at_paths base (IsModule m) h = (alone base (IsModule m), tt)
  leaves_at_paths base IsOwnModule h = (alone base IsOwnModule, tt)

  among_at_paths : (base : Path) (es : Entries) → HaveOwnNames es → AllByRecursion (IsIn base es) (leaves_in base es)
  among_at_paths base no_entry h = tt
  among_at_paths base (entry name e mark es) h =
      both_all (IsIn base (entry name e mark es)) (leaves_of (base ++ name ∷ []) e) (leaves_in base es)
      (all_then (IsAt (base ++ name ∷ []) e) (IsIn base (entry name e mark es)) (leaves_of (base ++ name ∷ []) e)
      (λ x i. record {
        name = name;
        path = i.path;
        inside = i.within ∙ append_assoc base (name ∷ []) i.path;
        there = ap (λ b. option_and_then (λ (x : EntityTree × Bool). standing_at i.path x.0)
            (if b then Some (e, mark) else under name es)) (text_itself name) ∙ i.there;
      }) (leaves_at_paths (base ++ name ∷ []) e h.1))
      (all_then (IsIn base es) (IsIn base (entry name e mark es)) (leaves_in base es) (λ x i. record {
        name = i.name;
        path = i.path;
        inside = i.inside;
        there = past_first i.name name e mark es i.path x.1 h.0 i.there;
      }) (among_at_paths base es h.2))

-- ---- what is called at a path

called_both : (xs ys : List Spot) (path : Path) → called_at (xs ++ ys) path ≡ called_at xs path ++ called_at ys path
called_both xs ys path =
    ap (map thing_of) (filter-append (is_at path) xs ys)
    ∙ map-append thing_of (filter (is_at path) xs) (filter (is_at path) ys)

-- what stands at a leaf is called there
abbrev pub IsCalled : List Spot → Path × EntityTree → Type 0
IsCalled calls x = (t : Thing) → named_by x.1 ≡ Some t → has (called_at calls x.0) t ≡ true

called_first : (xs ys : List Spot) (x : Path × EntityTree) → IsCalled xs x → IsCalled (xs ++ ys) x
called_first xs ys x c t h =
    ap (λ ts. has ts t) (called_both xs ys x.0) ∙ has_first (called_at xs x.0) (called_at ys x.0) t (c t h)

called_then : (xs ys : List Spot) (x : Path × EntityTree) → IsCalled ys x → IsCalled (xs ++ ys) x
called_then xs ys x c t h =
    ap (λ ts. has ts t) (called_both xs ys x.0) ∙ has_then (called_at xs x.0) (called_at ys x.0) t (c t h)

module _ (number : ℕ) (name : List ℕ) where
  abbrev leaf_spots : Path × EntityTree → List Spot
  leaf_spots x = spots_of number name x.0 x.1

  spot_at : Path → Thing → Spot
  spot_at path t = record { number = number; name = name; path = path; what = t }

  leaf_called : (x : Path × EntityTree) → IsCalled (leaf_spots x) x
  unfolding spot_at
  leaf_called x t h =
      ap (λ o. has (called_at (map (spot_at x.0) (option_to_list o)) x.0) t) h
      ∙ ap (λ b. has (map thing_of (if b then spot_at x.0 t ∷ [] else [])) t) (path_itself x.0) ∙ has_itself t []

  leaves_called : (ls : Leaves) → AllByRecursion (IsCalled (flat_map leaf_spots ls)) ls
  leaves_called [] = tt
  leaves_called (x ∷ ls) = (
    called_first (leaf_spots x) (flat_map leaf_spots ls) x (leaf_called x),
    all_then (IsCalled (flat_map leaf_spots ls)) (IsCalled (leaf_spots x ++ flat_map leaf_spots ls)) ls
        (λ y. called_then (leaf_spots x) (flat_map leaf_spots ls) y) (leaves_called ls),
  )

  -- what holds of each thing that stands at a leaf holds of the spots
  abbrev OfNamed : (Spot → Type 0) → Path × EntityTree → Type 0
  OfNamed P x = (t : Thing) → named_by x.1 ≡ Some t → P (record { number = number; name = name; path = x.0; what = t })

  of_spots : (P : Spot → Type 0) (ls : Leaves) → AllByRecursion (OfNamed P) ls
      → AllByRecursion P (flat_map leaf_spots ls)
  of_spots P [] a = tt
  of_spots P (x ∷ ls) a =
      both_all P (leaf_spots x) (flat_map leaf_spots ls) (one (named_by x.1) a.0) (of_spots P ls a.1)
    where
      one : (o : Option Thing) → ((t : Thing) → o ≡ Some t
          → P (record { number = number; name = name; path = x.0; what = t }))
          → AllByRecursion P (map (λ (t : Thing). record { number = number; name = name; path = x.0; what = t })
          (option_to_list o))
      one None f = tt
      one (Some t) f = (f t refl, tt)

-- a spot at which a thing is called
called_spot : (P : Spot → Type 0) (calls : List Spot) (path : Path) (t : Thing) → AllByRecursion P calls
    → has (called_at calls path) t ≡ true → (s : Spot) × P s × (s.path ≡ path) × (s.what ≡ t)
called_spot P [] path t a h = absurd cc
called_spot P (s ∷ ss) path t a h = one (same_path s.path path) refl h (called_spot P ss path t a.1)
  where
    here : s.path ≡ path → (has (s.what ∷ []) t ≡ true) ⊎ (has (called_at ss path) t ≡ true)
        → (has (called_at ss path) t ≡ true → (s : Spot) × P s × (s.path ≡ path) × (s.what ≡ t))
        → (s : Spot) × P s × (s.path ≡ path) × (s.what ≡ t)
    here is (inl k) rest = (s, a.0, is, has_one s.what t k)
    here is (inr k) rest = rest k

    one : (b : Bool) → same_path s.path path ≡ b
        → has (map thing_of (if b then s ∷ filter (is_at path) ss else filter (is_at path) ss)) t ≡ true
        → (has (called_at ss path) t ≡ true → (s : Spot) × P s × (s.path ≡ path) × (s.what ≡ t))
        → (s : Spot) × P s × (s.path ≡ path) × (s.what ≡ t)
    one true is h rest = here (path_is s.path path is) (has_either (s.what ∷ []) (called_at ss path) t h) rest
    one false is h rest = rest h

-- ---- leaves of a union

followed_leaves : (path : Path) (es rest : Entries)
    → leaves_in path (followed_by es rest) ≡ leaves_in path es ++ leaves_in path rest
followed_leaves path no_entry rest = refl
followed_leaves path (entry name e mark es) rest =
    ap (λ ls. leaves_of (path ++ name ∷ []) e ++ ls) (followed_leaves path es rest)
    ∙ sym (append_assoc (leaves_of (path ++ name ∷ []) e) (leaves_in path es) (leaves_in path rest))

module _ (P : Path × EntityTree → Type 0) where
  new_leaves : (path : Path) (es fs : Entries) → AllByRecursion P (leaves_in path fs)
      → AllByRecursion P (leaves_in path (new_in es fs))
  new_leaves path es no_entry a = tt
  new_leaves path es (entry name f mark fs) a =
      let parts = all_split P (leaves_of (path ++ name ∷ []) f) (leaves_in path fs) a in
      one (is_absent name es) parts.0 (new_leaves path es fs parts.1)
    where
      one : (b : Bool) → AllByRecursion P (leaves_of (path ++ name ∷ []) f)
          → AllByRecursion P (leaves_in path (new_in es fs))
          → AllByRecursion P (leaves_in path (if b then entry name f mark (new_in es fs) else new_in es fs))
      one true here rest = both_all P (leaves_of (path ++ name ∷ []) f) (leaves_in path (new_in es fs)) here rest
      one false here rest = rest

  union_leaves : (a b : EntityTree) → AllByRecursion P (leaves_of [] a) → AllByRecursion P (leaves_of [] b)
      → AllByRecursion P (leaves_of [] (union a b))
  union_leaves (IsInstance es) (IsInstance fs) p q =
      subst (AllByRecursion P) (sym (followed_leaves [] es (new_in es fs)))
      (both_all P (leaves_in [] es) (leaves_in [] (new_in es fs)) p (new_leaves [] es fs q))
  union_leaves a b p q = p

-- ---- merged imports

-- Names of exports differ, types have the names of their places, what stands at a leaf is called there, and what is
-- called at a place stands there.
pub record CallsWhatStands (l : LeftTree) : Type 0 where
  pub own : HasOwnNames l.entity
  pub placed : HasPlaces l.entity
  pub spots : AllByRecursion (λ (s : Spot). StandsAt l.entity s.path s.what) l.calls
  pub leaves : AllByRecursion (IsCalled l.calls) (leaves_of [] l.entity)

abbrev pub IsNamedWell : Asked → Type 0
IsNamedWell x = HasOwnNames x.1 × HasPlaces x.1

-- each thing that stands at a leaf of a need
need_stands : (name : List ℕ) (e : EntityTree) (P : Spot → Type 0) → HasOwnNames e
    → ((path : Path) (y : EntityTree) (t : Thing) → standing_at path e ≡ Some y → named_by y ≡ Some t
    → P (record { number = 0; name = name; path = path; what = t })) → AllByRecursion P (spots_in 0 name [] e)
need_stands name e P own f =
    of_spots 0 name P (leaves_of [] e)
    (all_then (IsAt [] e) (OfNamed 0 name P) (leaves_of [] e)
    (λ x i t h. f x.0 x.1 t (ap (λ path. standing_at path e) i.within ∙ i.there) h) (leaves_at_paths [] e own))

alone_called : (x : Asked) → IsNamedWell x → CallsWhatStands (left_alone x)
alone_called x k = record {
  own = k.0;
  placed = k.1;
  spots = need_stands x.0 x.1 (λ s. StandsAt x.1 s.path s.what) k.0
      (λ path y t there h. record { entity = y; there = there; called = called_itself t (named_by y) h });
  leaves = leaves_called 0 x.0 (leaves_of [] x.1);
}

merged_called : (l : LeftTree) (e : EntityTree) → agree l.entity e ≡ true → HasOwnNames e → HasPlaces e
    → CallsWhatStands l → CallsWhatStands (merged_with l e)
merged_called l e agreed own placed c =
    let new = spots_in 0 l.name [] e in
    record {
      own = union_own l.entity e c.own own;
      placed = union_placed l.entity e c.placed placed;
      spots =
          both_all (λ (s : Spot). StandsAt (union l.entity e) s.path s.what) l.calls new
          (all_then (λ (s : Spot). StandsAt l.entity s.path s.what)
          (λ (s : Spot). StandsAt (union l.entity e) s.path s.what) l.calls
          (λ s h. union_still l.entity e s.path s.what h) c.spots)
          (need_stands l.name e (λ s. StandsAt (union l.entity e) s.path s.what) own
          (λ path y t there h. union_stands l.entity e y path t c.placed agreed there h));
      leaves =
          union_leaves (IsCalled (l.calls ++ new)) l.entity e
          (all_then (IsCalled l.calls) (IsCalled (l.calls ++ new)) (leaves_of [] l.entity)
          (λ x. called_first l.calls new x) c.leaves)
          (all_then (IsCalled new) (IsCalled (l.calls ++ new)) (leaves_of [] e) (λ x. called_then l.calls new x)
          (leaves_called 0 l.name (leaves_of [] e)));
    }

called_still : (ls : List LeftTree) (x : Asked) → agrees ls x ≡ true → IsNamedWell x → AllByRecursion CallsWhatStands ls
    → AllByRecursion CallsWhatStands (with_asked ls x)
called_still [] x a k s = (alone_called x k, tt)
called_still (l ∷ ls) x a k s = one (bytes_eq x.0 l.name) a (λ a. called_still ls x a k s.1)
  where
    one : (b : Bool) → option_map_or (λ (l : LeftTree). agree l.entity x.1)
        (if b then Some l else find (is_named x.0) ls) true ≡ true
        → (agrees ls x ≡ true → AllByRecursion CallsWhatStands (with_asked ls x))
        → AllByRecursion CallsWhatStands (if b then merged_with l x.1 ∷ ls else l ∷ with_asked ls x)
    one true a rest = (merged_called l x.1 a k.0 k.1 s.0, s.1)
    one false a rest = (s.0, rest a)

pub all_called_right : (xs : List Asked) (ls : List LeftTree) → all_agree ls xs ≡ true → AllByRecursion IsNamedWell xs
    → AllByRecursion CallsWhatStands ls → AllByRecursion CallsWhatStands (fold with_asked ls xs)
all_called_right [] ls a k s = s
all_called_right (x ∷ xs) ls a k s =
    let parts = and_parts (agrees ls x) (all_agree (with_asked ls x) xs) a in
    all_called_right xs (with_asked ls x) parts.1 k.1 (called_still ls x parts.0 k.0 s)

-- ---- at a leaf

-- what stands at a leaf is called there, and what is called there is what stands there
pub record IsCalledAsItStands (calls : List Spot) (x : Path × EntityTree) : Type 0 where
  pub standing : IsCalled calls x
  pub called : (t : Thing) → has (called_at calls x.0) t ≡ true → IsCalledFor t (named_by x.1)

both_then : {X : Type 0} (P Q R : X → Type 0) (xs : List X) → ((x : X) → P x → Q x → R x) → AllByRecursion P xs
    → AllByRecursion Q xs → AllByRecursion R xs
both_then P Q R [] f a b = tt
both_then P Q R (x ∷ xs) f a b = (f x a.0 b.0, both_then P Q R xs f a.1 b.1)

pub called_as_it_stands : (l : LeftTree) → CallsWhatStands l
    → AllByRecursion (IsCalledAsItStands l.calls) (leaves_of [] l.entity)
called_as_it_stands l c =
    both_then (IsAt [] l.entity) (IsCalled l.calls) (IsCalledAsItStands l.calls) (leaves_of [] l.entity) at
    (leaves_at_paths [] l.entity c.own) c.leaves
  where
    at : (x : Path × EntityTree) → IsAt [] l.entity x → IsCalled l.calls x → IsCalledAsItStands l.calls x
    at x i standing = record {
      standing = standing;
      called = λ t h.
          let s = called_spot (λ (s : Spot). StandsAt l.entity s.path s.what) l.calls x.0 t c.spots h in
          let there : standing_at s.0.path l.entity ≡ Some x.1 = ap (λ path. standing_at path l.entity) (s.2 ∙ i.within)
          ∙ i.there in
          let same : s.1.entity ≡ x.1 = same_Some s.1.entity x.1 (sym s.1.there ∙ there) in
          subst (λ t. IsCalledFor t (named_by x.1)) s.3
          (subst (λ e. IsCalledFor s.0.what (named_by e)) same s.1.called);
    }
