-- The outermost scope: what was written for an entity describes it, and an import is what was meant.
use Rattle.std.proofs.Common.{◌≡◌, ◌⊎◌, inl, ℕ, true, List, [], ◌∷◌, map, Option, Some, None, refl, sym, ap, subst, ◌∙◌, Ok, ◌+◌}
use Rattle.std.specs.Prelude.{option_and_then, false, slice_get, Result}
use Rattle.std.specs.List.{AllByRecursion, list_any}
use Rattle.std.specs.Str.{str_eq_ignore_ascii_case}
use Rattle.std.proofs.lemmas.Option.{same_Some}
use Rattle.comp_format.specs.declared.types.TypeRef.{TypeRef}
use Rattle.comp_format.specs.declared.types.TypeRef.TheVariants as description
use Rattle.comp_format.specs.Definitions as tree
use Rattle.comp_format.specs.Definitions.{Decls}
use Rattle.comp_entity.specs.Entity.{Name, EntityTree, IsInstance, IsComponent, Entries, brought, IsModule}
use Rattle.comp_entity.specs.Names.{Mention, OfResource, OfPlace, in_value, Counts}
use Rattle.comp_entity.specs.Places.{Path, same_mention}
use Rattle.comp_scope.specs.Spaces.{Known, Standing, nothing_known, Spaces, at_index, item_or_fault}
use Rattle.comp_scope.specs.CoreScopes.{as_module}
use Rattle.comp_scope.specs.Descriptions.{NewNames, new_brought, Described, described, plainly, described_type, described_func, described_component, described_instance}
use Rattle.comp_scope.specs.Types.{with_decls}
use Rattle.compose_writing.specs.Keys.{KnownThings, At, known_at, mention_outside, holds_there}
use Rattle.compose_writing.specs.Scopes.{WrittenScope, outermost, add_type, on_top, knows}
use Rattle.compose_writing.specs.WriteEntities.{write_entity, write_instance, write_component, write_import, write_also, at_end}
use Rattle.warg_values.specs.Reading.{◌>>=◌}
use Rattle.comp_entity.specs.Bounds.{ShapeFault}
use Rattle.compose_meaning.specs.Meaning.{Meaning, meant, Means}
use Rattle.compose_meaning.specs.Stands.{AllGrown, spaces_of, at_place, Kept, reach_in, reach, StaysWithin, IsFree, Grown}
use Rattle.compose_meaning.specs.Readable.{Importing, IsOlder, AreOlder, behind, HasMeaning, Spot, AreApart}
use Rattle.compose_meaning.specs.Described.{IsDescribed}
use Rattle.compose_meaning.specs.Keeps.{Keeps, spot_of, IsWritten, IsImported, GoesOn}
use Rattle.compose_meaning.proofs.SpaceLaws.{shells, heads_of, at_once, OnTop}
use Rattle.compose_meaning.proofs.ValueLaws.{Ready, Written}
use Rattle.compose_meaning.proofs.NoteLaws.{knows_same, noted_new}
use Rattle.compose_meaning.proofs.ShowsLaws.{shows_bare}
use Rattle.compose_meaning.proofs.OlderLaws.{KeyEach, each_any, either_known, entity_old, old_behind}
use Rattle.compose_meaning.proofs.ApartLaws.{told_behind}
use Rattle.compose_meaning.proofs.ListLaws.{or_none}
use Rattle.compose_meaning.proofs.DescribedLaws.{Describes}
use Rattle.compose_meaning.proofs.EntityLaws.{entity_orderly, EnteredOne, heads_first, enter_one, entity_reads}

-- ---- one scope

nothing_known_yet : (key : Mention) → knows (outermost ∷ []) key ≡ true → ⊥
unfolding knows
nothing_known_yet key h = one (mention_outside 2 key) h
  where
    one : (o : Option Mention) → holds_there (knows []) o ≡ true → ⊥
    one None h = absurd cc
    one (Some other) h = absurd cc

pub keeps_nothing : (mean : Meaning) → Keeps mean outermost (nothing_known true)
unfolding with_decls
keeps_nothing mean = record {
  stands = record { reads = λ outer g. refl; types = refl; instances = refl; core_types = refl };
  knows = λ key at h. absurd cc;
  older = λ key h. elim (nothing_known_yet key h) [ ];
  apart = λ r s h. elim (nothing_known_yet (OfResource r) h) [ ];
  is_component = refl;
  exports = refl;
}

pub kept_of : (mean : Meaning) (m : WrittenScope) (k : Known) → Keeps mean m k → Kept 0 (meant mean) (m ∷ []) (k ∷ [])
kept_of mean m k h = record { stand = (h.stands, tt); know = (h.knows, tt) }

pub ready_of : (mean : Meaning) (m : WrittenScope) (k : Known) → Ready mean (m ∷ []) (k ∷ [])
unfolding reach OnTop
ready_of mean m k = record { is_open = tt; brings = λ key up may at. one key up (known_at m.known key) (mention_outside m.width key) at }
  where
    one : (key : Mention) (up : ℕ) (o : Option At) (other : Option Mention) → reach_in o (option_and_then (reach []) other) ≡ Some up → StaysWithin up (k ∷ []) ⊎ IsFree (meant mean key).entity
    one key up (Some at) other h = inl (subst (λ (up : ℕ). StaysWithin up (k ∷ [])) (same_Some _ _ h) tt)
    one key up None None h = absurd cc
    one key up None (Some other) h = absurd cc

-- what goes on in one scope
pub goes_on : (mean : Meaning) (m : WrittenScope) (k : Known) (later : List WrittenScope) (Q : List Known → Type 0) → Keeps mean m k → (w : Written mean (k ∷ []) (m ∷ []) later Q) → (g : GoesOn mean m k later) × Q (g.known ∷ [])
goes_on mean m k later Q keeps w = go later w.scopes w.grown w.kept w.same w.heads w.says
  where
    first : List (ℕ × KnownThings) → Option (ℕ × KnownThings)
    first [] = None
    first (x ∷ xs) = Some x

    go : (next : List WrittenScope) (scopes : List Known) → AllGrown (k.spaces ∷ []) (spaces_of scopes) → Kept 0 (meant mean) next scopes → shells next ≡ shells (m ∷ []) → heads_of scopes ≡ heads_of (k ∷ []) → Q scopes
        → (g : GoesOn mean m k next) × Q (g.known ∷ [])
    go next [] grown kept same heads says = elim grown [ ]
    go [] (t ∷ rest) grown kept same heads says = elim kept.stand [ ]
    go (n ∷ next) (t ∷ u ∷ rest) grown kept same heads says = elim grown.1 [ ]
    go (n ∷ o ∷ next) (t ∷ []) grown kept same heads says = elim kept.stand.1 [ ]
    go (n ∷ []) (t ∷ []) grown kept same heads says =
        let head = (heads_first k t [] [] heads).0 in
        let imports : t.imports ≡ k.imports = ap (λ x. x.imports) head in
        let resources : t.spaces.brought.resources ≡ k.spaces.brought.resources = ap (λ x. x.brought.resources) head in
        let spot : spot_of n t ≡ spot_of m k = (λ i. record { side = Importing; resources = resources i; known = λ key. knows_same (m ∷ []) (n ∷ []) key same i; names = map (λ (e : List ℕ × Standing). e.0) (imports i) }) in (
          record {
            scope = n;
            known = t;
            is = refl;
            keeps = record {
              stands = kept.stand.0;
              knows = kept.know.0;
              older = subst (AreOlder mean) (sym spot) keeps.older;
              apart = subst (λ (p : Spot). AreApart mean p.known) (sym spot) keeps.apart;
              is_component = grown.0.is_closed ∙ keeps.is_component;
              exports = ap (λ x. x.exports) head ∙ keeps.exports;
            };
            grown = grown.0;
            brought = ap (λ x. x.brought) head;
            same_known = ap (λ (x : ℕ × KnownThings). x.1) (same_Some _ _ (ap first same));
            imports = imports;
            spot = spot;
          },
          says,
        )

-- what was written for an entity
pub entity_written : (mean : Meaning) (m : WrittenScope) (k : Known) (e : EntityTree) (later : List WrittenScope) (ty : TypeRef) → Keeps mean m k → HasMeaning mean (spot_of m k) e → write_entity e (m ∷ []) ≡ Some (later, ty) → IsWritten mean m k later ty e
unfolding Describes OnTop
entity_written mean m k e later ty keeps has h =
    let g = goes_on mean m k later (Describes mean (spot_of m k) ty e) keeps (entity_reads mean (spot_of m k) e (m ∷ []) k [] (later, ty) (kept_of mean m k keeps) (ready_of mean m k) (λ key. refl) keeps.older has h) in
    record {
      goes_on = g.0;
      describes = record {
        describes = g.1 (ap (λ p. p.resources) g.0.spot);
        older = entity_old mean (spot_of m k) [] e (m ∷ []) (k ∷ []) (later, ty) keeps.older (record { kept = kept_of mean m k keeps; ready = ready_of mean m k; same = λ key. refl }) has (entity_orderly mean (spot_of m k) e has) h;
      };
    }

-- an import of it
pub entity_imported : (mean : Meaning) (m : WrittenScope) (k : Known) (name : List ℕ) (e : EntityTree) (ty : TypeRef) → Keeps mean m k → HasMeaning mean (spot_of m k) e → IsDescribed mean (spot_of m k) ty e k.spaces
    → list_any (str_eq_ignore_ascii_case name) (spot_of m k).names ≡ false → IsImported mean m k (write_import name e ty (m ∷ [])) name e
unfolding Describes OnTop
entity_imported mean m k name e ty keeps has describes free =
    let one = enter_one mean (spot_of m k) name e (m ∷ []) k [] (m ∷ [], ty) (ready_of mean m k) (record { count = refl; knew = λ key. refl; names = refl }) free (entity_orderly mean (spot_of m k) e has) (old_behind mean (spot_of m k) name e keeps.older describes.older)
    (at_once 0 (meant mean) (k ∷ []) (m ∷ []) (Describes mean (spot_of m k) ty e) (kept_of mean m k keeps) (λ same. describes.describes)) in
    go (write_import name e ty (m ∷ [])) one
  where
    go : (later : List WrittenScope) → EnteredOne mean (spot_of m k) name e k [] (m ∷ []) later → IsImported mean m k later name e
    go [] one = elim one.kept.stand [ ]
    go (n ∷ o ∷ later) one = two one.rest one.grown one.kept
      where
        two : (rest : List Known) → AllGrown [] (spaces_of rest) → Kept 0 (meant mean) (n ∷ o ∷ later) (one.top ∷ rest) → IsImported mean m k (n ∷ o ∷ later) name e
        two [] grown kept = elim kept.stand.1 [ ]
        two (t ∷ rest) grown kept = elim grown [ ]
    go (n ∷ []) one = two one.rest one.grown one.kept
      where
        spot : spot_of n one.top ≡ behind mean (spot_of m k) name e
        spot = λ i. record { side = Importing; resources = one.at.count i; known = λ key. one.at.knew key i; names = one.at.names i }

        two : (rest : List Known) → AllGrown [] (spaces_of rest) → Kept 0 (meant mean) (n ∷ []) (one.top ∷ rest) → IsImported mean m k (n ∷ []) name e
        two (t ∷ rest) grown kept = elim grown [ ]
        two [] grown kept = record {
          scope = n;
          known = one.top;
          is = refl;
          keeps = record {
            stands = kept.stand.0;
            knows = kept.know.0;
            older = subst (AreOlder mean) (sym spot) one.older;
            apart = subst (λ (p : Spot). AreApart mean p.known) (sym spot) (told_behind mean (spot_of m k) name e (record { older = λ r h. (keeps.older (OfResource r) h).0; apart = keeps.apart }) has).apart;
            is_component = one.is_closed ∙ keeps.is_component;
            exports = one.others_are ∙ keeps.exports;
          };
          standing = one.standing;
          imports = one.listed_are;
          entity = shows_bare mean e one.standing one.shows;
          shows = one.shows;
          resources = one.at.count;
          knows = one.at.knew;
        }

-- a further number of a type that is known
pub also_known : (mean : Meaning) (m : WrittenScope) (k : Known) (n : Name) (from : ℕ) (path : Path) (s : Standing) → Keeps mean m k → at_place k.spaces (at_end from path) ≡ Some s → Means 0 (meant mean (OfPlace n)) s → AllByRecursion (IsOlder mean (spot_of m k)) (in_value 0 (mean.tree n))
    → (scope : WrittenScope) × (write_also n from path (m ∷ []) ≡ scope ∷ []) × Keeps mean scope k
also_known mean m k n from path s keeps there means old =
    let noted = noted_new (meant mean) m [] k [] (OfPlace n, at_end from path) (kept_of mean m k keeps) (s, there, means) in
    let still : (r : Name) → knows (noted.scope ∷ []) (OfResource r) ≡ true → knows (m ∷ []) (OfResource r) ≡ true = (λ r h. or_none (knows (m ∷ []) (OfResource r)) ∙ sym (noted.knew (OfResource r)) ∙ h) in (
      noted.scope,
      noted.is,
      record {
        stands = noted.kept.stand.0;
        knows = noted.kept.know.0;
        older = λ key h. either_known (knows (m ∷ []) key) (list_any (λ k. same_mention k key) (OfPlace n ∷ [])) (sym (noted.knew key) ∙ h) (λ known. keeps.older key known) (λ new. each_any (KeyEach mean (IsOlder mean (spot_of m k))) (OfPlace n ∷ []) key (old, tt) new);
        apart = λ r t hr ht. keeps.apart r t (still r hr) (still t ht);
        is_component = keeps.is_component;
        exports = keeps.exports;
      },
    )

-- ---- types that are not added to the scope

pub instance_added : (es : Entries) (ms : List WrittenScope) (m : WrittenScope) (decls : Decls) → write_instance es ms ≡ Some (m ∷ [], decls) → write_entity (IsInstance es) ms ≡ Some ((add_type (tree.Instance decls) m).0 ∷ [], description.Instance m.types)
unfolding write_entity on_top
instance_added es ms m decls h = rw h refl

pub component_added : (is es : Entries) (ms : List WrittenScope) (m : WrittenScope) (decls : Decls) → write_component is es ms ≡ Some (m ∷ [], decls) → write_entity (IsComponent is es) ms ≡ Some ((add_type (tree.Component decls) m).0 ∷ [], description.Component m.types)
unfolding write_entity on_top
component_added is es ms m decls h = rw h refl

-- ---- a description lasts

at_index_grown : {X : Type 0} (xs ys : List X) (f : X → Result Described ShapeFault) (i : ℕ) (d : Described) → ((x : X) → slice_get xs i ≡ Some x → slice_get ys i ≡ Some x) → (at_index xs i >>= f) ≡ Ok d → (at_index ys i >>= f) ≡ Ok d
at_index_grown xs ys f i d grown h = one (slice_get xs i) refl h
  where
    one : (o : Option _) → slice_get xs i ≡ o → (item_or_fault o >>= f) ≡ Ok d → (at_index ys i >>= f) ≡ Ok d
    one None is h = absurd cc
    one (Some x) is h = rw (grown x is) h

described_grown : (s t : Spaces) (new : NewNames) (ty : TypeRef) (d : Described) → Grown s t → described s new ty ≡ Ok d → described t new ty ≡ Ok d
unfolding described
described_grown s t new (description.Module i) d g h = at_index_grown s.core_types t.core_types (λ t. as_module t >>= λ m. Ok (plainly (IsModule m) true)) i d (λ x. g.core_types i x) h
described_grown s t new (description.Func i) d g h = at_index_grown s.types t.types described_func i d (λ x. g.types i x) h
described_grown s t new (description.TyEqual i) d g h = at_index_grown s.types t.types (described_type new) i d (λ x. g.types i x) h
described_grown s t new description.TyFresh d g h = h
described_grown s t new (description.Component i) d g h = at_index_grown s.types t.types described_component i d (λ x. g.types i x) h
described_grown s t new (description.Instance i) d g h = at_index_grown s.types t.types (described_instance new) i d (λ x. g.types i x) h

pub described_on : (mean : Meaning) (m : WrittenScope) (k : Known) (later : List WrittenScope) (ty : TypeRef) (e : EntityTree) → IsDescribed mean (spot_of m k) ty e k.spaces → (g : GoesOn mean m k later) → IsDescribed mean (spot_of m k) ty e g.known.spaces
described_on mean m k later ty e h g = record {
  describes = record {
    what = h.describes.what;
    is = described_grown k.spaces g.known.spaces (new_brought g.known.spaces) ty h.describes.what g.grown (ap (λ (c : Counts). described k.spaces (names_of c) ty) g.brought ∙ h.describes.is);
    shows = h.describes.shows;
    brings = h.describes.brings;
    matches = h.describes.matches;
  };
  older = h.older;
}
  where
    names_of : Counts → NewNames
    names_of c = record { resource = λ n. brought (c.resources + n); place = λ n. brought (c.places + n) }
