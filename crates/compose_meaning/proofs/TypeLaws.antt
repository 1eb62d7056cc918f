-- The types of instances and of components that are not added to the scope in which they are written.
use Rattle.std.proofs.Common.{◌≡◌, Bool, true, false, List, [], ◌∷◌, ◌++◌, length, Some, Ok, refl, sym, ap, subst, ◌∙◌}
use Rattle.std.specs.Prelude.{option_and_then}
use Rattle.std.proofs.lemmas.Option.{option_and_then_some, same_Some}
use Rattle.comp_format.specs.declared.types.TypeRef.TheVariants as description
use Rattle.comp_format.specs.Definitions as tree
use Rattle.comp_format.specs.declared.types.TypeRef.{TypeRef}
use Rattle.comp_format.specs.Definitions.{TypeTree, Decls}
use Rattle.comp_entity.specs.Entity.{TypeShapeTree, Instance, Component, EntityTree, IsType, IsInstance, IsComponent, Entries}
use Rattle.comp_entity.specs.Names.{Mention}
use Rattle.comp_entity.specs.Bounds.{unbounded}
use Rattle.comp_scope.specs.Spaces.{Known, nothing_known, entries_in}
use Rattle.comp_scope.specs.Closing.{closed as closed_sides}
use Rattle.comp_scope.specs.Types.{with_type, with_decls, with_spaces}
use Rattle.compose_writing.specs.Keys.{from_within}
use Rattle.compose_writing.specs.Scopes.{WrittenScope, closed, knows}
use Rattle.compose_writing.specs.Scopes.{opened as opened_scope}
use Rattle.compose_writing.specs.WriteEntities.{write_entries, write_instance, write_component}
use Rattle.compose_meaning.specs.Meaning.{Meaning, meant}
use Rattle.compose_meaning.specs.Stands.{AllGrown, spaces_of, Kept}
use Rattle.compose_meaning.specs.Readable.{SpotKind, Importing, Exporting, Spot, within, first_spot, in_component_type, exports_spot, HasMeaning}
use Rattle.compose_meaning.specs.Shows.{AllShow}
use Rattle.compose_meaning.specs.Described.{Describing, count}
use Rattle.compose_meaning.specs.Keeps.{Keeps, spot_of, with_one_type, IsNextType}
use Rattle.compose_meaning.proofs.ListLaws.{get_last}
use Rattle.compose_meaning.proofs.SpaceLaws.{all_grown_trans, OnTop, TypeAt, Adds}
use Rattle.compose_meaning.proofs.ValueLaws.{Written}
use Rattle.compose_meaning.proofs.ScopeLaws.{sides_read}
use Rattle.compose_meaning.proofs.DescribedLaws.{Describes, instance_described, component_described}
use Rattle.compose_meaning.proofs.OlderLaws.{within_older, component_older, exports_older, entity_old}
use Rattle.compose_meaning.proofs.EntityLaws.{Entered, entity_orderly, entries_orderly, instance_adds, component_adds, around_stays, within_kept, within_ready, within_at, component_kept, component_ready, scope_at, exports_at, top_open, entries_read}
use Rattle.compose_meaning.proofs.KeepLaws.{kept_of, ready_of, goes_on, instance_added, component_added}
use Rattle.compose_meaning.proofs.ItemLaws.{bound, as_result, same_ok}

-- a type that may be added to the only scope
AddsOne : TypeTree → TypeShapeTree → Known → Type 0
AddsOne t ty k = with_type unbounded [] k.spaces t ≡ Ok (with_one_type k.spaces ty)

adds_one : (t : TypeTree) (ty : TypeShapeTree) (k : Known) → Adds (tree.Ty t) (IsType ty, true) (k ∷ []) → AddsOne t ty k
unfolding Adds with_decls AddsOne
adds_one t ty k h = bound (with_type unbounded [] k.spaces t) (λ s. Ok (with_spaces k s)) (with_spaces k (with_one_type k.spaces ty)) (h [] tt) (λ s a b. a ∙ ap (λ (k : Known). as_result k.spaces) (same_ok _ _ b))

-- where what is written leaves what stood, and adds
stays_with : (mean : Meaning) (ks : List Known) (ms later : List WrittenScope) (Q : List Known → Type 0) (w : Written mean ks ms later (λ ls. Unit {0})) → Q w.scopes → Written mean ks ms later Q
stays_with mean ks ms later Q w q = record { scopes = w.scopes; grown = w.grown; kept = w.kept; same = w.same; heads = w.heads; says = q }

-- by the index of a type that is added
described_last : (mean : Meaning) (p : Spot) (ty : TypeRef) (e : EntityTree) (k : Known) (t : TypeShapeTree) → count p.side k.spaces ≡ p.resources → ((ks : List Known) → TypeAt (length k.spaces.types) (IsType t, true) ks → Describes mean p ty e ks)
    → Describing mean p ty e (with_one_type k.spaces t)
unfolding Describes TypeAt OnTop
described_last mean p ty e k t same step = step (with_spaces k (with_one_type k.spaces t) ∷ []) (get_last k.spaces.types (IsType t, true)) (one p.side same)
  where
    one : (side : SpotKind) → count side k.spaces ≡ p.resources → count side (with_one_type k.spaces t) ≡ p.resources
    one Importing same = same
    one Exporting same = same

pub instance_written : (mean : Meaning) (m : WrittenScope) (k : Known) (es : Entries) (later : List WrittenScope) (decls : Decls) → Keeps mean m k → HasMeaning mean (spot_of m k) (IsInstance es) → write_instance es (m ∷ []) ≡ Some (later, decls) → IsNextType mean m k later (tree.Instance decls) description.Instance (IsInstance es)
unfolding closed around_stays AddsOne
instance_written mean m k es later decls keeps has h = option_and_then_some closed (write_entries tree.Export es (opened_scope 0 ∷ m ∷ [])) (later, decls) h (λ mid a b.
    go mid (entries_read (within (spot_of m k) mean) (first_spot Exporting (knows (m ∷ []))) es (opened_scope 0 ∷ m ∷ []) (nothing_known false) (k ∷ []) mid
    (within_kept mean (spot_of m k) (m ∷ []) (k ∷ []) (kept_of mean m k keeps) (λ key. refl) keeps.older) (within_ready mean (spot_of m k) (m ∷ []) (k ∷ []) (ready_of mean m k) (λ key. refl) keeps.older)
    (within_at (spot_of m k) (m ∷ []) (λ key. refl)) (within_older mean (spot_of m k) keeps.older) has a) b)
  where
    inner : Meaning
    inner = within (spot_of m k) mean

    went : (n : WrittenScope) (next : List WrittenScope) (e : Entered inner (first_spot Exporting (knows (m ∷ []))) es (nothing_known false) (k ∷ []) (opened_scope 0 ∷ m ∷ []) (n ∷ next))
        → Written mean (k ∷ []) (m ∷ []) next (Adds (tree.Ty (tree.Instance n.decls)) (IsType (Instance (entries_in e.top.exports)), true))
    went n next e = stays_with mean (k ∷ []) (m ∷ []) next _ (around_stays mean (m ∷ []) (k ∷ []) 0 n next e.top e.rest (meant inner) (kept_of mean m k keeps) e.kept e.grown e.tails e.heads) (one e.rest e.grown e.kept)
      where
        one : (rest : List Known) → AllGrown (spaces_of (k ∷ [])) (spaces_of rest) → Kept 0 (meant inner) (n ∷ next) (e.top ∷ rest) → Adds (tree.Ty (tree.Instance n.decls)) (IsType (Instance (entries_in e.top.exports)), true) rest
        one [] grown kept = elim grown [ ]
        one (t ∷ rest) grown kept = instance_adds n e.top t rest kept.stand.0 e.is_closed

    ends : (n : WrittenScope) (next : List WrittenScope) (e : Entered inner (first_spot Exporting (knows (m ∷ []))) es (nothing_known false) (k ∷ []) (opened_scope 0 ∷ m ∷ []) (n ∷ next)) → write_instance es (m ∷ []) ≡ Some (next, n.decls) → IsNextType mean m k next (tree.Instance n.decls) description.Instance (IsInstance es)
    ends n next e h =
        let g = goes_on mean m k next (Adds (tree.Ty (tree.Instance n.decls)) (IsType (Instance (entries_in e.top.exports)), true)) keeps (went n next e) in
        let fs : Entries = entries_in e.top.exports in
        let shows : AllShow inner es fs = subst (λ es'. AllShow inner es (entries_in es')) (sym e.listed_are) e.shows in
        record {
          goes_on = g.0;
          ty = Instance fs;
          reads = adds_one (tree.Instance n.decls) (Instance fs) g.0.known g.1;
          describes = record {
            describes = described_last mean (spot_of m k) (description.Instance (length g.0.known.spaces.types)) (IsInstance es) g.0.known (Instance fs) (ap (λ p. p.resources) g.0.spot) (λ ks at. instance_described mean (spot_of m k) es fs (length g.0.known.spaces.types) shows ks at);
            older = entity_old mean (spot_of m k) [] (IsInstance es) (m ∷ []) (k ∷ []) _ keeps.older (record { kept = kept_of mean m k keeps; ready = ready_of mean m k; same = λ key. refl }) has (entity_orderly mean (spot_of m k) (IsInstance es) has)
                (instance_added es (m ∷ []) g.0.scope n.decls (h ∙ ap (λ ms. Some (ms, n.decls)) g.0.is));
          };
        }

    go : (mid : List WrittenScope) → Entered inner (first_spot Exporting (knows (m ∷ []))) es (nothing_known false) (k ∷ []) (opened_scope 0 ∷ m ∷ []) mid → closed mid ≡ Some (later, decls) → IsNextType mean m k later (tree.Instance decls) description.Instance (IsInstance es)
    go [] e b = absurd cc
    go (n ∷ next) e b = subst (λ (x : List WrittenScope × Decls). IsNextType mean m k x.0 (tree.Instance x.1) description.Instance (IsInstance es)) (same_Some _ _ b) (ends n next e (h ∙ sym b))

pub component_written : (mean : Meaning) (m : WrittenScope) (k : Known) (is es : Entries) (later : List WrittenScope) (decls : Decls) → Keeps mean m k → HasMeaning mean (spot_of m k) (IsComponent is es) → write_component is es (m ∷ []) ≡ Some (later, decls) → IsNextType mean m k later (tree.Component decls) description.Component (IsComponent is es)
unfolding closed around_stays AddsOne
component_written mean m k is es later decls keeps has h = option_and_then_some closed (option_and_then (write_entries tree.Export es) (write_entries tree.Import is (opened_scope 2 ∷ m ∷ []))) (later, decls) h (λ end a b.
    option_and_then_some (write_entries tree.Export es) (write_entries tree.Import is (opened_scope 2 ∷ m ∷ [])) end a (λ mid c d.
    let first = imports mid c in go end mid first (exports mid end first d) b))
  where
    own : Meaning
    own = has.0

    inner : Meaning
    inner = in_component_type own mean

    known : Mention → Bool
    known = from_within 2 (knows (m ∷ []))

    imports : (mid : List WrittenScope) → write_entries tree.Import is (opened_scope 2 ∷ m ∷ []) ≡ Some mid → Entered inner (first_spot Importing known) is (nothing_known true) (k ∷ []) (opened_scope 2 ∷ m ∷ []) mid
    imports mid c = entries_read inner (first_spot Importing known) is (opened_scope 2 ∷ m ∷ []) (nothing_known true) (k ∷ []) mid
        (component_kept mean own (m ∷ []) (k ∷ []) (kept_of mean m k keeps)) (component_ready mean own (m ∷ []) (k ∷ []) (kept_of mean m k keeps)) (scope_at 2 Importing true (spot_of m k) (m ∷ []) (λ key. refl)) (component_older own mean Importing (knows (m ∷ []))) has.1 c

    exports : (mid end : List WrittenScope) (first : Entered inner (first_spot Importing known) is (nothing_known true) (k ∷ []) (opened_scope 2 ∷ m ∷ []) mid) → write_entries tree.Export es mid ≡ Some end
        → Entered inner (exports_spot inner (first_spot Importing known) is) es first.top first.rest mid end
    exports mid end first c = entries_read inner (exports_spot inner (first_spot Importing known) is) es mid first.top first.rest end first.kept (record { is_open = top_open first.top first.rest; brings = first.brings })
        (exports_at inner known is (k ∷ []) (opened_scope 2 ∷ m ∷ []) mid first) (exports_older own mean (knows (m ∷ [])) is (entries_orderly inner (first_spot Importing known) is has.1) has.3.made_behind) has.2 c

    ends : (n : WrittenScope) (next mid : List WrittenScope) (first : Entered inner (first_spot Importing known) is (nothing_known true) (k ∷ []) (opened_scope 2 ∷ m ∷ []) mid)
        → Entered inner (exports_spot inner (first_spot Importing known) is) es first.top first.rest mid (n ∷ next) → write_component is es (m ∷ []) ≡ Some (next, n.decls) → IsNextType mean m k next (tree.Component n.decls) description.Component (IsComponent is es)
    ends n next mid first second h =
        let fs : Entries = (closed_sides second.top).imports in
        let gs : Entries = (closed_sides second.top).exports in
        let grown = all_grown_trans (spaces_of (k ∷ [])) (spaces_of first.rest) (spaces_of second.rest) first.grown second.grown in
        let stays = around_stays mean (m ∷ []) (k ∷ []) 2 n next second.top second.rest (meant inner) (kept_of mean m k keeps) second.kept grown (second.tails ∙ first.tails) (second.heads ∙ first.heads) in
        let g = goes_on mean m k next (Adds (tree.Ty (tree.Component n.decls)) (IsType (Component fs gs), true)) keeps (stays_with mean (k ∷ []) (m ∷ []) next _ stays (one n next mid first second second.rest grown second.kept)) in
        let is_first : second.top.imports ≡ first.entries = second.others_are ∙ first.listed_are in
        let es_second : second.top.exports ≡ second.entries = second.listed_are ∙ ap (λ front. front ++ second.entries) first.others_are in
        let sides = sides_read mean.resource inner is es second.top refl has.3 (subst (λ es'. AllShow inner is (entries_in es')) (sym is_first) first.shows) (subst (λ es'. AllShow inner es (entries_in es')) (sym es_second) second.shows) in
        record {
          goes_on = g.0;
          ty = Component fs gs;
          reads = adds_one (tree.Component n.decls) (Component fs gs) g.0.known g.1;
          describes = record {
            describes = described_last mean (spot_of m k) (description.Component (length g.0.known.spaces.types)) (IsComponent is es) g.0.known (Component fs gs) (ap (λ p. p.resources) g.0.spot)
                (λ ks at. component_described mean inner (spot_of m k) is es fs gs (length g.0.known.spaces.types) (record { same = refl; imports = sides.0; exports = sides.1 }) ks at);
            older = entity_old mean (spot_of m k) [] (IsComponent is es) (m ∷ []) (k ∷ []) _ keeps.older (record { kept = kept_of mean m k keeps; ready = ready_of mean m k; same = λ key. refl }) has (entity_orderly mean (spot_of m k) (IsComponent is es) has)
                (component_added is es (m ∷ []) g.0.scope n.decls (h ∙ ap (λ ms. Some (ms, n.decls)) g.0.is));
          };
        }
      where
        one : (n : WrittenScope) (next mid : List WrittenScope) (first : Entered inner (first_spot Importing known) is (nothing_known true) (k ∷ []) (opened_scope 2 ∷ m ∷ []) mid) (second : Entered inner (exports_spot inner (first_spot Importing known) is) es first.top first.rest mid (n ∷ next))
            (rest : List Known) → AllGrown (spaces_of (k ∷ [])) (spaces_of rest) → Kept 0 (meant inner) (n ∷ next) (second.top ∷ rest)
            → Adds (tree.Ty (tree.Component n.decls)) (IsType (Component (closed_sides second.top).imports (closed_sides second.top).exports), true) rest
        one n next mid first second [] grown kept = elim grown [ ]
        one n next mid first second (t ∷ rest) grown kept = component_adds n second.top t rest kept.stand.0 (second.is_closed ∙ first.is_closed)

    go : (end mid : List WrittenScope) (first : Entered inner (first_spot Importing known) is (nothing_known true) (k ∷ []) (opened_scope 2 ∷ m ∷ []) mid) → Entered inner (exports_spot inner (first_spot Importing known) is) es first.top first.rest mid end
        → closed end ≡ Some (later, decls) → IsNextType mean m k later (tree.Component decls) description.Component (IsComponent is es)
    go [] mid first second b = absurd cc
    go (n ∷ next) mid first second b = subst (λ (x : List WrittenScope × Decls). IsNextType mean m k x.0 (tree.Component x.1) description.Component (IsComponent is es)) (same_Some _ _ b) (ends n next mid first second (h ∙ sym b))
