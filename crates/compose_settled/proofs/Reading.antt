-- What is written for imports, one behind the other, reads back as they are meant.
use Rattle.std.proofs.Common.{◌≡◌, ℕ, Bool, true, false, cond, List, [], ◌∷◌, ◌++◌, map, Some, Ok, refl, sym, ap, subst, ◌∙◌}
use Rattle.std.specs.Prelude.{◌||◌, filter}
use Rattle.std.specs.List.{AllByRecursion, list_any}
use Rattle.std.specs.Str.{str_eq_ignore_ascii_case}
use Rattle.std.proofs.lemmas.List.{append-nil, append_assoc, map-append}
use Rattle.comp_format.specs.declared.types.TypeRef.{TypeRef}
use Rattle.comp_format.specs.Definitions as tree
use Rattle.comp_entity.specs.Entity.{Name, EntityTree}
use Rattle.comp_entity.specs.Bounds.{unbounded}
use Rattle.comp_entity.specs.Names.{Mention, OfPlace, in_value, in_type}
use Rattle.comp_entity.specs.Places.{Path, same_mention}
use Rattle.comp_scope.specs.Descriptions.{Described, imported}
use Rattle.comp_scope.specs.Spaces.{Known, Standing, nothing_known}
use Rattle.comp_scope.specs.Types.{with_decl, with_decls}
use Rattle.compose_left.specs.declared.spots.Spot.{Spot as Call}
use Rattle.compose_order.specs.Needs.{LeftTree}
use Rattle.compose_writing.specs.Conditions.{with_these}
use Rattle.compose_writing.specs.Keys.{At}
use Rattle.compose_writing.specs.Scopes.{WrittenScope, change_top, knows, outermost, with_known}
use Rattle.compose_writing.specs.WriteEntities.{at_end, note_new, write_also, write_entity, write_import}
use Rattle.compose_meaning.specs.Described.{IsDescribed}
use Rattle.compose_meaning.specs.Keeps.{GoesOn, IsImported, IsWritten, Keeps, spot_of}
use Rattle.compose_meaning.specs.Meaning.{Meaning, Means, meant, named_type}
use Rattle.compose_meaning.specs.Readable.{HasMeaning, Importing, IsOlder, Spot, behind, brought_keys}
use Rattle.compose_meaning.specs.Stands.{at_place}
use Rattle.compose_known.specs.Imports.{all_called, import_items, items_in, next_place, place_in, write_left, write_lefts}
use Rattle.compose_naming.specs.Settled.{name_in}
use Rattle.comp_format.specs.Items.{ItemTree}
use Rattle.comp_scope.specs.Shape.{after_parts, in_front_of, nothing}
use Rattle.compose_meaning.specs.Items.{items_for, parts_for}
use Rattle.compose_settled.specs.ReadBack.{AreReadable, ReadAsMeant, first_import, CallsMean, IsCalled, IsReadable, ReadsBack, called_keys, is_type, key_of, known_behind, meant_import, read_import, spot_behind, with_call}
use Rattle.compose_settled.proofs.Standing.{key_at, decl_behind, import_is, map_some, means_there, meant_at, some_is, stands_there, then_some, with_described}
use Rattle.compose_settled.proofs.Knowing.{import_decls, knows_noted, or_both, or_false}

-- ---- what is called

-- a number is known too, where it means what stands
abbrev Also : Type 0
Also = (mean : Meaning) (m : WrittenScope) (k : Known) (n : Name) (from : ℕ) (path : Path) (s : Standing) → Keeps mean m k
    → at_place k.spaces (at_end from path) ≡ Some s → Means 0 (meant mean (OfPlace n)) s
    → AllByRecursion (IsOlder mean (spot_of m k)) (in_value 0 (mean.tree n))
    → (scope : WrittenScope) × (write_also n from path (m ∷ []) ≡ scope ∷ []) × Keeps mean scope k

-- of a call, what its number means stands at its path, and is older
record CallStands (mean : Meaning) (k : Known) (index : ℕ) (s : Call) : Type 0 where
  standing : Standing
  there : at_place k.spaces (at_end index s.path) ≡ Some standing
  means : Means 0 (meant mean (OfPlace (name_in s.what))) standing
  older : (m : WrittenScope) → AllByRecursion (IsOlder mean (spot_of m k)) (in_value 0 (mean.tree (name_in s.what)))

record AllCalled (mean : Meaning) (k : Known) (calls : List Call) (m : WrittenScope) (later : List WrittenScope) : Type 0 where
  scope : WrittenScope
  is : later ≡ scope ∷ []
  keeps : Keeps mean scope k
  known : (key : Mention) → knows (scope ∷ []) key ≡ with_these (knows (m ∷ [])) (called_keys calls) key

-- of each that was not known
abbrev CallsStand : Meaning → Known → ℕ → (Mention → Bool) → List Call → Type 0
CallsStand mean k index known [] = Unit {0}
CallsStand mean k index known (s ∷ ss) =
    (s.what.is_type ≡ true → known (key_of s) ≡ false → CallStands mean k index s) × CallsStand mean k index (with_call known s) ss

-- a call that is no type makes nothing known
same_known : (known : Mention → Bool) (s : Call) → s.what.is_type ≡ false → with_call known s ≡ known
same_known known s kind = λ i key. one key i
  where
    one : (key : Mention) → with_call known s key ≡ known key
    one key = (λ i. known key || list_any (λ (x : Mention). same_mention x key) (map key_of (cond (kind i) (s ∷ []) []))) ∙ or_false (known key)

-- and one that is makes its name known
call_known : (m scope : WrittenScope) (s : Call) (at : At) → s.what.is_type ≡ true → note_new (key_of s) at (m ∷ []) ≡ scope ∷ []
    → with_call (knows (m ∷ [])) s ≡ knows (scope ∷ [])
call_known m scope s at kind is = λ i key. one key i
  where
    one : (key : Mention) → with_call (knows (m ∷ [])) s key ≡ knows (scope ∷ []) key
    one key =
        (λ i. knows (m ∷ []) key || list_any (λ (x : Mention). same_mention x key) (map key_of (cond (kind i) (s ∷ []) [])))
        ∙ ap (λ b. knows (m ∷ []) key || b) (or_false (same_mention (key_of s) key))
        ∙ sym (ap (λ ms. knows ms key) (sym is) ∙ knows_noted (key_of s) at m key)

module _ (also : Also) (mean : Meaning) (k : Known) (index : ℕ) where
  abbrev CalledBy : Call → List Call → WrittenScope → Bool → Type 0
  CalledBy s calls m b = (scope : WrittenScope) × (all_called index calls (cond b (write_also (name_in s.what) index s.path (m ∷ [])) (m ∷ [])) ≡ scope ∷ []) × Keeps mean scope k
      × ((key : Mention) → knows (scope ∷ []) key ≡ with_these (knows (m ∷ [])) (map key_of (cond b (s ∷ filter is_type calls) (filter is_type calls))) key)

  all_kept : (calls : List Call) (m : WrittenScope) → Keeps mean m k → CallsStand mean k index (knows (m ∷ [])) calls → AllCalled mean k calls m (all_called index calls (m ∷ []))
  unfolding all_called
  all_kept [] m keeps h = record { scope = m; is = refl; keeps = keeps; known = λ key. sym (or_false (knows (m ∷ []) key)) }
  all_kept (s ∷ calls) m keeps h =
      let r = by s.what.is_type refl h.0 (λ m keeps behind. all_kept calls m keeps (subst (λ known. CallsStand mean k index known calls) behind h.1)) in
      record { scope = r.0; is = r.1; keeps = r.2; known = r.3 }
    where
      behind_also : (n : Name) (scope : WrittenScope) → write_also n index s.path (m ∷ []) ≡ scope ∷ [] → (key : Mention)
          → (known : Bool) → known ≡ with_these (knows (scope ∷ [])) (called_keys calls) key
          → known ≡ (knows (m ∷ []) key || (same_mention (OfPlace n) key || list_any (λ (x : Mention). same_mention x key) (called_keys calls)))
      behind_also n scope is key known h =
          h
          ∙ ap (λ b. b || list_any (λ (x : Mention). same_mention x key) (called_keys calls)) (ap (λ ms. knows ms key) (sym is) ∙ knows_noted (OfPlace n) (at_end index s.path) m key)
          ∙ or_both (knows (m ∷ []) key) (same_mention (OfPlace n) key) (list_any (λ (x : Mention). same_mention x key) (called_keys calls))

      noted : (b : Bool) → knows (m ∷ []) (key_of s) ≡ b → (knows (m ∷ []) (key_of s) ≡ false → CallStands mean k index s)
          → (scope : WrittenScope) × (write_also (name_in s.what) index s.path (m ∷ []) ≡ scope ∷ []) × Keeps mean scope k
      noted true is stands = (m, (λ i. cond (is i) (m ∷ []) (change_top (with_known (key_of s) (at_end index s.path)) (m ∷ []))), keeps)
      noted false is stands =
          let c = stands is in
          also mean m k (name_in s.what) index s.path c.standing keeps c.there c.means (c.older m)

      by : (b : Bool) → s.what.is_type ≡ b → (s.what.is_type ≡ true → knows (m ∷ []) (key_of s) ≡ false → CallStands mean k index s)
          → ((later : WrittenScope) → Keeps mean later k → with_call (knows (m ∷ [])) s ≡ knows (later ∷ []) → AllCalled mean k calls later (all_called index calls (later ∷ [])))
          → CalledBy s calls m b
      by true kind stands rest =
          let next = noted (knows (m ∷ []) (key_of s)) refl (stands kind) in
          let r = rest next.0 next.2 (call_known m next.0 s (at_end index s.path) kind next.1) in
          (r.scope, ap (all_called index calls) next.1 ∙ r.is, r.keeps, λ key. behind_also (name_in s.what) next.0 next.1 key (knows (r.scope ∷ []) key) (r.known key))
      by false kind stands rest = let r = rest m keeps (same_known (knows (m ∷ [])) s kind) in (r.scope, r.is, r.keeps, r.known)

-- ---- one import

abbrev Written : Type 0
Written = (mean : Meaning) (m : WrittenScope) (k : Known) (e : EntityTree) (later : List WrittenScope) (ty : TypeRef) → Keeps mean m k
    → HasMeaning mean (spot_of m k) e → write_entity e (m ∷ []) ≡ Some (later, ty) → IsWritten mean m k later ty e

abbrev Imported : Type 0
Imported = (mean : Meaning) (m : WrittenScope) (k : Known) (name : List ℕ) (e : EntityTree) (ty : TypeRef) → Keeps mean m k
    → HasMeaning mean (spot_of m k) e → IsDescribed mean (spot_of m k) ty e k.spaces
    → list_any (str_eq_ignore_ascii_case name) (spot_of m k).names ≡ false
    → IsImported mean m k (write_import name e ty (m ∷ [])) name e

record OneRead (mean : Meaning) (m : WrittenScope) (k : Known) (l : LeftTree) (later : List WrittenScope) : Type 0 where
  scope : WrittenScope
  known : Known
  is : later ≡ scope ∷ []
  keeps : Keeps mean scope known
  spot : spot_of scope known ≡ spot_behind mean (spot_of m k) l
  imports : map read_import known.imports ≡ map read_import k.imports ++ meant_import mean l ∷ []

-- what was written in front of an import, the import, and what is called in it
module _ (also : Also) (mean : Meaning) (m : WrittenScope) (k : Known) (l : LeftTree) (r : IsReadable mean (spot_of m k) l) (first : List WrittenScope) (ty : TypeRef) (w : IsWritten mean m k first ty l.entity) where
  abbrev g : GoesOn mean m k first
  g = w.goes_on

  abbrev at_import : Spot
  at_import = spot_of g.scope g.known

  has : HasMeaning mean at_import l.entity
  has = subst (λ p. HasMeaning mean p l.entity) (sym g.spot) r.meaning

  describes : IsDescribed mean at_import ty l.entity g.known.spaces
  describes = subst (λ p. IsDescribed mean p ty l.entity g.known.spaces) (sym g.spot) w.describes

  apart : list_any (str_eq_ignore_ascii_case l.name) at_import.names ≡ false
  apart = ap (λ (p : Spot). list_any (str_eq_ignore_ascii_case l.name) p.names) g.spot ∙ r.apart

  module _ (i : IsImported mean g.scope g.known (write_import l.name l.entity ty (g.scope ∷ [])) l.name l.entity) where
    abbrev what : Described
    what = describes.describes.what

    reads_so : imported unbounded g.known l.name ty ≡ Ok i.known
    unfolding with_decl
    reads_so =
        sym (decl_behind (nothing_known g.known.spaces.is_closed) g.known g.scope.decls (tree.Import l.name ty) (g.keeps.stands.reads [] tt))
        ∙ ap (λ ds. with_decls unbounded [] (nothing_known g.known.spaces.is_closed) ds) (sym (import_decls l.name l.entity ty g.scope i.scope i.is))
        ∙ ap (λ b. with_decls unbounded [] (nothing_known b) i.scope.decls) (g.keeps.is_component ∙ sym i.keeps.is_component)
        ∙ i.keeps.stands.reads [] tt

    spaces_are : i.known.spaces ≡ with_described g.known.spaces what
    spaces_are = import_is g.known i.known l.name ty what describes.describes.is reads_so

    call_stands : (s : Call) → IsCalled mean l.entity s.path (name_in s.what) → CallStands mean i.known (next_place l.entity g.scope) s
    call_stands s c =
        let x = stands_there mean g.known.spaces what l.entity g.scope g.keeps.stands.types g.keeps.stands.instances describes.describes.shows s.path c.ty c.there in
        record {
          standing = x.0;
          there = ap (λ spaces. at_place spaces (at_end (next_place l.entity g.scope) s.path)) spaces_are ∙ x.1;
          means = means_there mean (name_in s.what) c.place c.ty x.0 c.named c.tree c.bit (meant_at mean at_import s.path l.entity c.ty c.place c.there c.named has) x.2;
          older = λ m. older_there s c m;
        }
      where
        older_there : (s : Call) (c : IsCalled mean l.entity s.path (name_in s.what)) (m : WrittenScope) → AllByRecursion (IsOlder mean (spot_of m i.known)) (in_value 0 (mean.tree (name_in s.what)))
        older_there s c m =
            let behind_it = key_at (λ key. AllByRecursion (IsOlder mean (behind mean at_import [] l.entity)) (in_type 0 (named_type mean key))) s.path l.entity c.ty c.place c.there c.named describes.older in
            subst (λ t. AllByRecursion (IsOlder mean (spot_of m i.known)) (in_value 0 t)) (sym c.tree)
            (subst (λ n. AllByRecursion (IsOlder mean (record (spot_of m i.known) { resources = n })) (in_value 0 (mean.tree c.place))) (sym i.resources) behind_it)

    calls_stand : (ss : List Call) (known : Mention → Bool) → CallsMean mean l.entity known ss → CallsStand mean i.known (next_place l.entity g.scope) known ss
    calls_stand [] known h = tt
    calls_stand (s ∷ ss) known h = ((λ kind new. call_stands s (h.0 kind new)), calls_stand ss (with_call known s) h.1)

    behind_import : known_behind (spot_of m k).known l.entity ≡ knows (i.scope ∷ [])
    behind_import = λ j key. sym (i.knows key ∙ ap (λ (p : Spot). with_these p.known (brought_keys l.entity) key) g.spot) j

    module _ (c : AllCalled mean i.known l.calls i.scope (all_called (next_place l.entity g.scope) l.calls (i.scope ∷ []))) where
      abbrev p : Spot
      p = spot_of m k

      names_are : (spot_of c.scope i.known).names ≡ p.names ++ l.name ∷ []
      names_are =
          ap (map (λ (e : List ℕ × Standing). e.0)) i.imports
          ∙ map-append (λ (e : List ℕ × Standing). e.0) g.known.imports ((l.name, i.standing) ∷ [])
          ∙ ap (λ (p : Spot). p.names ++ l.name ∷ []) g.spot

      known_is : (key : Mention) → knows (c.scope ∷ []) key ≡ with_these (with_these p.known (brought_keys l.entity)) (called_keys l.calls) key
      known_is key =
          c.known key
          ∙ ap (λ b. b || list_any (λ (x : Mention). same_mention x key) (called_keys l.calls))
          (i.knows key ∙ ap (λ (p : Spot). with_these p.known (brought_keys l.entity) key) g.spot)

      later_is : all_called (place_in l.entity first) l.calls (write_import l.name l.entity ty first) ≡ c.scope ∷ []
      later_is =
          ap (λ ms. all_called (place_in l.entity ms) l.calls (write_import l.name l.entity ty ms)) g.is
          ∙ ap (all_called (next_place l.entity g.scope) l.calls) i.is
          ∙ c.is

      resources_are : i.known.spaces.brought.resources ≡ (spot_behind mean p l).resources
      resources_are = i.resources ∙ ap (λ (p : Spot). (behind mean p l.name l.entity).resources) g.spot

      spot_is : spot_of c.scope i.known ≡ spot_behind mean p l
      spot_is = λ j. record { side = Importing; resources = resources_are j; known = λ key. known_is key j; names = names_are j }

      imports_are : map read_import i.known.imports ≡ map read_import k.imports ++ meant_import mean l ∷ []
      imports_are =
          ap (map read_import) i.imports
          ∙ map-append read_import g.known.imports ((l.name, i.standing) ∷ [])
          ∙ (λ j. map read_import (g.imports j) ++ (l.name, i.entity j) ∷ [])

      read_whole : (later : List WrittenScope) → all_called (place_in l.entity first) l.calls (write_import l.name l.entity ty first) ≡ later → OneRead mean m k l later
      read_whole later is = record { scope = c.scope; known = i.known; is = sym is ∙ later_is; keeps = c.keeps; spot = spot_is; imports = imports_are }

one_read : Written → Imported → Also → (mean : Meaning) (m : WrittenScope) (k : Known) (l : LeftTree) (later : List WrittenScope) → Keeps mean m k → IsReadable mean (spot_of m k) l → write_left l (m ∷ []) ≡ Some later → OneRead mean m k l later
one_read written imports also mean m k l later keeps r is =
    let x = map_some (λ x. all_called (place_in l.entity x.0) l.calls (write_import l.name l.entity x.1 x.0)) (write_entity l.entity (m ∷ [])) later is in
    let w = written mean m k l.entity x.0.0 x.0.1 keeps r.meaning x.1 in
    let g = w.goes_on in
    let i = imports mean g.scope g.known l.name l.entity x.0.1 g.keeps (has also mean m k l r x.0.0 x.0.1 w) (describes also mean m k l r x.0.0 x.0.1 w) (apart also mean m k l r x.0.0 x.0.1 w) in
    let c = all_kept also mean i.known (next_place l.entity g.scope) l.calls i.scope i.keeps (subst (λ known. CallsStand mean i.known (next_place l.entity g.scope) known l.calls) (behind_import also mean m k l r x.0.0 x.0.1 w i)
    (calls_stand also mean m k l r x.0.0 x.0.1 w i l.calls (known_behind (spot_of m k).known l.entity) r.called)) in
    read_whole also mean m k l r x.0.0 x.0.1 w i c later x.2

-- ---- all of them

pub all_read : Written → Imported → Also → (mean : Meaning) (ls : List LeftTree) (m : WrittenScope) (k : Known) (later : List WrittenScope) → Keeps mean m k → AreReadable mean (spot_of m k) ls → write_lefts ls (m ∷ []) ≡ Some later → ReadsBack mean k ls later
unfolding write_lefts
all_read written imports also mean [] m k later keeps r is =
    record { scope = m; known = k; is = sym (some_is (m ∷ []) later is); keeps = keeps; imports = sym (append-nil (map read_import k.imports)) }
all_read written imports also mean (l ∷ ls) m k later keeps r is =
    let next = then_some (write_lefts ls) (write_left l (m ∷ [])) later is in
    let one = one_read written imports also mean m k l next.0 keeps r.0 next.1 in
    let rest = all_read written imports also mean ls one.scope one.known later one.keeps (subst (λ p. AreReadable mean p ls) (sym one.spot) r.1) (ap (write_lefts ls) (sym one.is) ∙ next.2) in
    record {
      scope = rest.scope;
      known = rest.known;
      is = rest.is;
      keeps = rest.keeps;
      imports = rest.imports ∙ ap (λ xs. xs ++ map (meant_import mean) ls) one.imports ∙ append_assoc (map read_import k.imports) (meant_import mean l ∷ []) (map (meant_import mean) ls);
    }

-- ---- as items

pub items_read : ((mean : Meaning) → Keeps mean outermost (nothing_known true)) → ((mean : Meaning) (m : WrittenScope) (k : Known) → Keeps mean m k → after_parts unbounded [] (nothing_known true) (parts_for m.decls) ≡ Ok k)
    → Written → Imported → Also → (mean : Meaning) (ls : List LeftTree) (items : List ItemTree) → AreReadable mean first_import ls → import_items ls ≡ Some items → ReadAsMeant mean ls items
items_read begun as_items written imports also mean ls items r is =
    let later = then_some items_in (write_lefts ls (outermost ∷ [])) items is in
    let all = all_read written imports also mean ls outermost (nothing_known true) later.0 (begun mean) r later.1 in
    let same : items_for all.scope.decls ≡ items = some_is (items_for all.scope.decls) items (ap items_in (sym all.is) ∙ later.2) in
    record {
      known = all.known;
      is = ap (λ items. after_parts unbounded [] (nothing_known true) (in_front_of items nothing)) (sym same) ∙ as_items mean all.scope all.known all.keeps;
      imports = all.imports;
      exports = all.keeps.exports;
    }
