-- What is written for an entity describes it, and what is imported or exported is what was meant.
use Rattle.std.proofs.Common.{◌≡◌, ℕ, ◌+◌, Bool, true, false, ◌||◌, List, [], ◌∷◌, ◌++◌, map, Option, Some, None, Ok, refl, sym, ap, subst, ◌∙◌, append-nil, append_assoc}
use Rattle.std.specs.Prelude.{option_and_then}
use Rattle.std.specs.List.{list_any}
use Rattle.std.specs.Str.{str_eq_ignore_ascii_case}
use Rattle.std.proofs.lemmas.Option.{option_and_then_some, same_Some}
use Rattle.comp_format.specs.declared.types.TypeRef.{TypeRef}
use Rattle.comp_format.specs.declared.types.TypeRef.TheVariants as description
use Rattle.comp_format.specs.Definitions as tree
use Rattle.comp_format.specs.Definitions.{TypeTree, Decls}
use Rattle.comp_entity.specs.Entity.{Name, ValueTree, TypeShapeTree, Value, Resource, Func, Instance, Component, EntityTree, IsType, IsFunc, IsInstance, IsComponent, IsModule, IsOwnModule, Entries, no_entry, entry}
use Rattle.comp_entity.specs.Names.{Mention}
use Rattle.comp_entity.specs.Fits.{place_of}
use Rattle.comp_entity.specs.Places.{same_mention}
use Rattle.comp_entity.specs.Bounds.{unbounded}
use Rattle.comp_scope.specs.Spaces.{Spaces, Known, Standing, nothing_known, placed, added, entries_in, is_taken, counts_sum}
use Rattle.comp_scope.specs.Descriptions.{Described}
use Rattle.comp_scope.specs.Aliases.{width}
use Rattle.comp_scope.specs.Closing.{closed as closed_sides}
use Rattle.comp_scope.specs.Types.{with_decls}
use Rattle.compose_writing.specs.Keys.{KnownThings, known_at, mention_outside, holds_there, from_within}
use Rattle.compose_writing.specs.Scopes.{WrittenScope, declared, add_type, on_top, closed, knows}
use Rattle.compose_writing.specs.Scopes.{opened as opened_scope}
use Rattle.compose_writing.specs.WriteEntities.{counted, with_named, then_decls, write_entity, write_entries}
use Rattle.compose_meaning.specs.Meaning.{Meaning, Meant, meant, IsNamed}
use Rattle.compose_meaning.specs.Stands.{AllGrown, spaces_of, Stands, further_out, AllKnow, Kept, MayBring}
use Rattle.compose_meaning.specs.Described.{Describing, count, listed}
use Rattle.compose_meaning.specs.Readable.{SpotKind, Importing, Exporting, Spot, within, AreOlder, first_spot, brought_keys, behind, behind_all, in_instance_type, in_component_type, exports_spot, IsNumbered, TypeHasMeaning, HasMeaning, HaveMeaning}
use Rattle.compose_meaning.specs.Shows.{Shows, AllShow}
use Rattle.compose_meaning.proofs.ListLaws.{wrote_some}
use Rattle.compose_meaning.proofs.SpaceLaws.{grown_refl, all_grown_refl, all_grown_trans, all_know_grown, shells, Head, head_of, heads_of, so, then_went, OnTop, TypeAt, Adds, added_type}
use Rattle.compose_meaning.proofs.KnownLaws.{still_brings}
use Rattle.compose_meaning.proofs.ValueLaws.{Ready, Written, still_ready}
use Rattle.compose_meaning.proofs.NamedLaws.{item_of, others, other_count, named, named_grows, same_known, not_taken}
use Rattle.compose_meaning.proofs.NoteLaws.{knows_same, brings_noted}
use Rattle.compose_meaning.proofs.ShowsLaws.{NamedBy, IsOrderly, AreOrderly}
use Rattle.compose_meaning.proofs.OpenLaws.{inward_none, mention_out, opened_kept, opened_brings}
use Rattle.compose_meaning.proofs.OlderLaws.{within_shifts, entity_old, old_behind, within_older, instance_type_older, component_older, exports_older}
use Rattle.compose_meaning.proofs.ScopeLaws.{scope_shifts, scope_may, component_may, closed_brings, scope_knows, sides_read}
use Rattle.compose_meaning.proofs.ModuleLaws.{module_entity_reads}
use Rattle.compose_meaning.proofs.NewLaws.{named_step}
use Rattle.compose_meaning.proofs.DescribedLaws.{Describes, instance_described, type_instance_described, SidesRead, type_component_described, component_described, one_tree_named, value_type_reads, resource_type_reads, func_type_reads, func_entity_reads}

-- ---- names differ, and places are named

named_by : (mean : Meaning) (t : ValueTree) (o : Option Name) → IsNamed mean t o → NamedBy mean.may_mention mean.tree t o
named_by mean t None h = tt
named_by mean t (Some n) h = h

mutual
  type_orderly : (mean : Meaning) (p : Spot) (t : TypeShapeTree) → TypeHasMeaning mean p t → IsOrderly mean.may_mention mean.tree (IsType t)
  type_orderly mean p (Value t) h = named_by mean t (place_of t) (one_tree_named mean t h.0)
  type_orderly mean p (Resource r) h = tt
  type_orderly mean p (Func f) h = tt
  type_orderly mean p (Instance es) h = tt
  type_orderly mean p (Component is es) h = tt

  pub entity_orderly : (mean : Meaning) (p : Spot) (e : EntityTree) → HasMeaning mean p e → IsOrderly mean.may_mention mean.tree e
  entity_orderly mean p (IsType t) h = type_orderly mean p t h
  entity_orderly mean p (IsFunc f) h = tt
  entity_orderly mean p (IsInstance es) h = entries_orderly (within p mean) (first_spot Exporting p.known) es h
  entity_orderly mean p (IsComponent is es) h = tt
  entity_orderly mean p (IsModule m) h = tt
  entity_orderly mean p IsOwnModule h = tt

  pub entries_orderly : (mean : Meaning) (p : Spot) (es : Entries) → HaveMeaning mean p es → AreOrderly mean.may_mention mean.tree p.names es
  entries_orderly mean p no_entry h = tt
  entries_orderly mean p (entry name e mark es) h = (h.0, entity_orderly mean p e h.1, entries_orderly mean (behind mean p name e) es h.2)

-- ---- what scopes know

abbrev head_shell : List (ℕ × KnownThings) → Option (ℕ × KnownThings)
head_shell [] = None
head_shell (x ∷ xs) = Some x

abbrev pub tail_shells : List (ℕ × KnownThings) → List (ℕ × KnownThings)
tail_shells [] = []
tail_shells (x ∷ xs) = xs

pub know_same : (d : ℕ) (means : Mention → Meant) (ms later : List WrittenScope) (ks : List Known) → shells later ≡ shells ms → AllKnow d means ms ks → AllKnow d means later ks
know_same d means [] [] [] same k = tt
know_same d means [] [] (t ∷ ks) same k = elim k [ ]
know_same d means [] (n ∷ later) ks same k = absurd cc
know_same d means (m ∷ ms) [] ks same k = absurd cc
know_same d means (m ∷ ms) (n ∷ later) [] same k = elim k [ ]
know_same d means (m ∷ ms) (n ∷ later) (t ∷ ks) same k =
    let head : (n.width, n.known) ≡ (m.width, m.known) = same_Some _ _ (ap head_shell same) in (
      (λ key at h. k.0 key at (ap (λ (x : ℕ × KnownThings). known_at x.1 key) (sym head) ∙ h)),
      subst (λ (x : ℕ × KnownThings). AllKnow (d + width t.spaces) (further_out x.0 means) later ks) (sym head) (know_same (d + width t.spaces) (further_out m.width means) ms later ks (ap tail_shells same) k.1),
    )

-- ---- what was imported or exported

-- where entities are imported or exported next
pub record IsAt (p : Spot) (ms : List WrittenScope) (k : Known) : Type 0 where
  pub count : count p.side k.spaces ≡ p.resources
  pub knew : (key : Mention) → knows ms key ≡ p.known key
  pub names : map (λ (e : List ℕ × Standing). e.0) (listed p.side k) ≡ p.names

-- Entities are imported or exported, one behind the other, and all else stands as it did.
pub record Entered (mean : Meaning) (p : Spot) (es : Entries) (k : Known) (around : List Known) (before later : List WrittenScope) : Type 0 where
  pub top : Known
  pub rest : List Known
  pub kept : Kept 0 (meant mean) later (top ∷ rest)
  pub brings : MayBring mean.may_mention (meant mean) later (top ∷ rest)
  pub grown : AllGrown (spaces_of around) (spaces_of rest)
  pub heads : heads_of rest ≡ heads_of around
  pub tails : tail_shells (shells later) ≡ tail_shells (shells before)
  pub is_closed : top.spaces.is_closed ≡ k.spaces.is_closed
  pub entries : List (List ℕ × Standing)
  pub listed_are : listed p.side top ≡ listed p.side k ++ entries
  pub shows : AllShow mean es (entries_in entries)
  pub others_are : others p.side top ≡ others p.side k
  pub other_count : other_count p.side top.spaces ≡ other_count p.side k.spaces
  pub at : IsAt (behind_all mean p es) later top
  pub older : AreOlder mean (behind_all mean p es)

-- the same of one
pub record EnteredOne (mean : Meaning) (p : Spot) (name : List ℕ) (e : EntityTree) (k : Known) (around : List Known) (before later : List WrittenScope) : Type 0 where
  pub top : Known
  pub rest : List Known
  pub kept : Kept 0 (meant mean) later (top ∷ rest)
  pub brings : MayBring mean.may_mention (meant mean) later (top ∷ rest)
  pub grown : AllGrown (spaces_of around) (spaces_of rest)
  pub heads : heads_of rest ≡ heads_of around
  pub tails : tail_shells (shells later) ≡ tail_shells (shells before)
  pub is_closed : top.spaces.is_closed ≡ k.spaces.is_closed
  pub standing : Standing
  pub listed_are : listed p.side top ≡ listed p.side k ++ (name, standing) ∷ []
  pub shows : Shows mean e standing
  pub others_are : others p.side top ≡ others p.side k
  pub other_count : other_count p.side top.spaces ≡ other_count p.side k.spaces
  pub at : IsAt (behind mean p name e) later top
  pub older : AreOlder mean (behind mean p name e)

pub heads_first : (k t : Known) (around rest : List Known) → heads_of (t ∷ rest) ≡ heads_of (k ∷ around) → (head_of t ≡ head_of k) × (heads_of rest ≡ heads_of around)
heads_first k t around rest h = (same_Some _ _ (ap first h), ap others h)
  where
    first : List Head → Option Head
    first [] = None
    first (x ∷ xs) = Some x

    others : List Head → List Head
    others [] = []
    others (x ∷ xs) = xs

same_listed : (side : SpotKind) (k t : Known) → head_of t ≡ head_of k → listed side t ≡ listed side k
same_listed Importing k t h = ap (λ (x : Head). x.imports) h
same_listed Exporting k t h = ap (λ (x : Head). x.exports) h

same_others : (side : SpotKind) (k t : Known) → head_of t ≡ head_of k → others side t ≡ others side k
same_others Importing k t h = ap (λ (x : Head). x.exports) h
same_others Exporting k t h = ap (λ (x : Head). x.imports) h

same_count : (side : SpotKind) (k t : Known) → head_of t ≡ head_of k → count side t.spaces ≡ count side k.spaces
same_count Importing k t h = ap (λ (x : Head). x.brought.resources) h
same_count Exporting k t h = ap (λ (x : Head). x.made.resources) h

same_other_count : (side : SpotKind) (k t : Known) → head_of t ≡ head_of k → other_count side t.spaces ≡ other_count side k.spaces
same_other_count Importing k t h = ap (λ (x : Head). x.made.resources) h
same_other_count Exporting k t h = ap (λ (x : Head). x.brought.resources) h

-- what an import or an export changes
placed_counts : (s : Spaces) (e : EntityTree) (b : Bool) → ((placed s e b).brought ≡ s.brought) × ((placed s e b).made ≡ s.made)
placed_counts s (IsType t) b = (refl, refl)
placed_counts s (IsFunc f) b = (refl, refl)
placed_counts s (IsInstance es) b = (refl, refl)
placed_counts s (IsComponent is es) b = (refl, refl)
placed_counts s (IsModule m) b = (refl, refl)
placed_counts s IsOwnModule b = (refl, refl)

named_listed : (side : SpotKind) (k : Known) (name : List ℕ) (d : Described) → listed side (named side k name d) ≡ listed side k ++ (name, d.standing) ∷ []
named_listed Importing k name d = refl
named_listed Exporting k name d = refl

named_others : (side : SpotKind) (k : Known) (name : List ℕ) (d : Described) → others side (named side k name d) ≡ others side k
named_others Importing k name d = refl
named_others Exporting k name d = refl

named_count : (side : SpotKind) (k : Known) (name : List ℕ) (d : Described) → count side (named side k name d).spaces ≡ count side k.spaces + d.brings.resources
named_count Importing k name d = ap (λ c. c.resources) (placed_counts (record k.spaces { brought = counts_sum k.spaces.brought d.brings }) d.standing.0 d.standing.1).0
named_count Exporting k name d = ap (λ c. c.resources) (placed_counts (record k.spaces { made = counts_sum k.spaces.made d.brings }) d.standing.0 d.standing.1).1

named_other_count : (side : SpotKind) (k : Known) (name : List ℕ) (d : Described) → other_count side (named side k name d).spaces ≡ other_count side k.spaces
named_other_count Importing k name d = ap (λ c. c.resources) (placed_counts (record k.spaces { brought = counts_sum k.spaces.brought d.brings }) d.standing.0 d.standing.1).1
named_other_count Exporting k name d = ap (λ c. c.resources) (placed_counts (record k.spaces { made = counts_sum k.spaces.made d.brings }) d.standing.0 d.standing.1).0

names_more : (es : List (List ℕ × Standing)) (name : List ℕ) (s : Standing) → map (λ (e : List ℕ × Standing). e.0) (es ++ (name, s) ∷ []) ≡ map (λ (e : List ℕ × Standing). e.0) es ++ name ∷ []
names_more [] name s = refl
names_more (e ∷ es) name s = ap (λ names. e.0 ∷ names) (names_more es name s)

-- one import or export
pub enter_one : (mean : Meaning) (p : Spot) (name : List ℕ) (e : EntityTree) (ms : List WrittenScope) (k : Known) (around : List Known) (x : List WrittenScope × TypeRef) → Ready mean ms (k ∷ around) → IsAt p ms k
    → list_any (str_eq_ignore_ascii_case name) p.names ≡ false → IsOrderly mean.may_mention mean.tree e → AreOlder mean (behind mean p name e) → Written mean (k ∷ around) ms x.0 (Describes mean p x.1 e)
    → EnteredOne mean p name e k around ms (with_named (item_of p.side) name e x.1 x.0)
unfolding Describes OnTop
enter_one mean p name e ms k around x ready at free orderly older w = go x.0 w.scopes w.grown w.kept w.same w.heads w.says (still_ready mean (k ∷ around) ms x.0 _ ready w).brings
  where
    go : (next : List WrittenScope) (scopes : List Known) → AllGrown (spaces_of (k ∷ around)) (spaces_of scopes) → Kept 0 (meant mean) next scopes → shells next ≡ shells ms → heads_of scopes ≡ heads_of (k ∷ around)
        → OnTop (λ s. count p.side s ≡ p.resources → Describing mean p x.1 e s) scopes → MayBring mean.may_mention (meant mean) next scopes → EnteredOne mean p name e k around ms (with_named (item_of p.side) name e x.1 next)
    go next [] grown kept same heads says brings = elim says [ ]
    go [] (t ∷ rest) grown kept same heads says brings = elim kept.stand [ ]
    go (m ∷ next) (t ∷ rest) grown kept same heads says brings =
        let first = heads_first k t around rest heads in
        let d = says (same_count p.side k t first.0 ∙ at.count) in
        let names : map (λ (e : List ℕ × Standing). e.0) (listed p.side t) ≡ p.names = ap (map (λ (e : List ℕ × Standing). e.0)) (same_listed p.side k t first.0) ∙ at.names in
        let taken : is_taken name (listed p.side t) ≡ false = not_taken name (listed p.side t) (ap (list_any (str_eq_ignore_ascii_case name)) names ∙ free) in
        let n = named_step mean p name e x.1 m next t rest kept taken d orderly in
        let known = same_known x.1 (item_of p.side name x.1) m in
        let shell : shells (counted x.1 (declared (item_of p.side name x.1) m) ∷ next) ≡ shells (m ∷ next) = (λ i. (known.1 i, known.0 i) ∷ shells next) in
        let now = named p.side t name d.what in
        let all : AllGrown (spaces_of (t ∷ rest)) (spaces_of (now ∷ rest)) = (named_grows p.side t name d.what, all_grown_refl (spaces_of rest)) in
        let more = brings_noted mean.may_mention (meant mean) (counted x.1 (declared (item_of p.side name x.1) m)) next now rest (brought_keys e) (with_named (item_of p.side) name e x.1 (m ∷ next)) n
        (still_brings mean.may_mention (meant mean) (m ∷ next) (counted x.1 (declared (item_of p.side name x.1) m) ∷ next) (t ∷ rest) (now ∷ rest) shell all brings) in
        subst (λ (later : List WrittenScope). EnteredOne mean p name e k around ms later) (sym n.is) (record {
          top = now;
          rest = rest;
          kept = n.kept;
          brings = more;
          grown = grown.1;
          heads = first.1;
          tails = ap tail_shells same;
          is_closed = all.0.is_closed ∙ grown.0.is_closed;
          standing = d.what.standing;
          listed_are = named_listed p.side t name d.what ∙ ap (λ es. es ++ (name, d.what.standing) ∷ []) (same_listed p.side k t first.0);
          shows = d.shows;
          others_are = named_others p.side t name d.what ∙ same_others p.side k t first.0;
          other_count = named_other_count p.side t name d.what ∙ same_other_count p.side k t first.0;
          at = record {
            count = named_count p.side t name d.what ∙ (λ i. (same_count p.side k t first.0 ∙ at.count) i + d.brings i);
            knew = λ key. n.knew key ∙ ap (λ b. b || list_any (λ k. same_mention k key) (brought_keys e)) (knows_same (m ∷ next) _ key shell ∙ knows_same ms (m ∷ next) key same ∙ at.knew key);
            names = ap (map (λ (e : List ℕ × Standing). e.0)) (named_listed p.side t name d.what) ∙ names_more (listed p.side t) name d.what.standing ∙ ap (λ names. names ++ name ∷ []) names;
          };
          older = older;
        })

-- ---- a type that is a scope

-- a scope that ends, and its type in the scope around it
ended : {P : Type 0} (type_of : Decls → TypeTree) (w : Option (List WrittenScope)) (y : List WrittenScope × ℕ) → then_decls type_of w ≡ Some y
    → ((m : WrittenScope) (ms : List WrittenScope) → w ≡ Some (m ∷ ms) → on_top (add_type (type_of m.decls)) ms ≡ Some y → P) → P
unfolding closed
ended type_of None y h then = absurd cc
ended type_of (Some []) y h then = absurd cc
ended type_of (Some (m ∷ ms)) y h then = then m ms refl h

pub instance_adds : (m : WrittenScope) (top t : Known) (rest : List Known) → Stands m top (spaces_of (t ∷ rest)) → top.spaces.is_closed ≡ false → Adds (tree.Ty (tree.Instance m.decls)) (IsType (Instance (entries_in top.exports)), true) (t ∷ rest)
unfolding Adds with_decls added
instance_adds m top t rest h is = λ outer g.
    let read : with_decls unbounded (t.spaces ∷ outer) (nothing_known false) m.decls ≡ Ok top = ap (λ b. with_decls unbounded (t.spaces ∷ outer) (nothing_known b) m.decls) (sym is) ∙ h.reads (t.spaces ∷ outer) (grown_refl t.spaces, g) in
    rw read refl

-- what stood around a scope stands where it ends
unfoldable pub around_stays : (mean : Meaning) (ms : List WrittenScope) (ks : List Known) (w : ℕ) (m : WrittenScope) (next : List WrittenScope) (top : Known) (rest : List Known) (inner : Mention → Meant) → Kept 0 (meant mean) ms ks → Kept 0 inner (m ∷ next) (top ∷ rest)
    → AllGrown (spaces_of ks) (spaces_of rest) → tail_shells (shells (m ∷ next)) ≡ tail_shells (shells (opened_scope w ∷ ms)) → heads_of rest ≡ heads_of ks → Written mean ks ms next (λ ls. Unit {0})
around_stays mean ms ks w m next top rest inner kept within grown tails heads = record {
  scopes = rest;
  grown = grown;
  kept = record { stand = within.stand.1; know = know_same 0 (meant mean) ms next rest tails (all_know_grown 0 (meant mean) ms ks rest grown kept.know) };
  same = tails;
  heads = heads;
  says = tt;
}

-- the type of an instance, where what it exports is what was meant
instance_type_reads : (mean inner : Meaning) (w : ℕ) (p : Spot) (es : Entries) (ms : List WrittenScope) (k : Known) (around : List Known) (m : WrittenScope) (next : List WrittenScope) (y : List WrittenScope × ℕ) → p.side ≡ Exporting → Kept 0 (meant mean) ms (k ∷ around)
    → Entered inner p es (nothing_known false) (k ∷ around) (opened_scope w ∷ ms) (m ∷ next) → on_top (add_type (tree.Instance m.decls)) next ≡ Some y
    → (fs : Entries) × AllShow inner es fs × Written mean (k ∷ around) ms y.0 (TypeAt y.1 (IsType (Instance fs), true))
unfolding around_stays
instance_type_reads mean inner w p es ms k around m next y side kept entered h =
    let stays = around_stays mean ms (k ∷ around) w m next entered.top entered.rest (meant inner) kept entered.kept entered.grown entered.tails entered.heads in
    let exports : entered.top.exports ≡ entered.entries = ap (λ s. listed s entered.top) (sym side) ∙ entered.listed_are ∙ ap (λ s. listed s (nothing_known false) ++ entered.entries) side in (
      entries_in entered.top.exports,
      subst (λ es'. AllShow inner es (entries_in es')) (sym exports) entered.shows,
      then_went 0 (meant mean) (k ∷ around) ms next y.0 _ _ stays (one entered.rest entered.grown entered.kept stays.kept),
    )
  where
    one : (rest : List Known) → AllGrown (spaces_of (k ∷ around)) (spaces_of rest) → Kept 0 (meant inner) (m ∷ next) (entered.top ∷ rest) → Kept 0 (meant mean) next rest → Written mean rest next y.0 (TypeAt y.1 (IsType (Instance (entries_in entered.top.exports)), true))
    one [] grown k kept = elim grown [ ]
    one (t ∷ rest) grown k kept = added_type 0 (meant mean) (tree.Ty (tree.Instance m.decls)) next (t ∷ rest) y (IsType (Instance (entries_in entered.top.exports)), true) kept h (instance_adds m entered.top t rest k.stand.0 entered.is_closed)

-- the scope of an instance's type, at its begin
pub within_kept : (mean : Meaning) (p : Spot) (ms : List WrittenScope) (ks : List Known) → Kept 0 (meant mean) ms ks → ((key : Mention) → knows ms key ≡ p.known key) → AreOlder mean p → Kept 0 (meant (within p mean)) (opened_scope 0 ∷ ms) (nothing_known false ∷ ks)
within_kept mean p ms ks kept same older = opened_kept 1 0 false (meant (within p mean)) (meant mean) ms ks refl (within_shifts p mean (knows ms) same older) kept

pub within_ready : (mean : Meaning) (p : Spot) (ms : List WrittenScope) (ks : List Known) → Ready mean ms ks → ((key : Mention) → knows ms key ≡ p.known key) → AreOlder mean p → Ready (within p mean) (opened_scope 0 ∷ ms) (nothing_known false ∷ ks)
unfolding OnTop
within_ready mean p ms ks ready same older = record {
  is_open = tt;
  brings = opened_brings 1 0 mean.may_mention mean.may_mention (meant mean) (meant (within p mean)) ms ks (within_shifts p mean (knows ms) same older) (λ key h. ap mean.may_mention (sym (inward_none key)) ∙ h) ready.brings;
}

pub within_at : (p : Spot) (ms : List WrittenScope) → ((key : Mention) → knows ms key ≡ p.known key) → IsAt (first_spot Exporting p.known) (opened_scope 0 ∷ ms) (nothing_known false)
unfolding knows
within_at p ms same = record {
  count = refl;
  knew = λ key. ap (holds_there (knows ms)) (ap (mention_outside 0) (sym (inward_none key)) ∙ mention_out 0 key) ∙ same key;
  names = refl;
}

-- ---- types that are scopes of names

pub component_adds : (m : WrittenScope) (top t : Known) (rest : List Known) → Stands m top (spaces_of (t ∷ rest)) → top.spaces.is_closed ≡ true
    → Adds (tree.Ty (tree.Component m.decls)) (IsType (Component (closed_sides top).imports (closed_sides top).exports), true) (t ∷ rest)
unfolding Adds with_decls added
component_adds m top t rest h is = λ outer g.
    let read : with_decls unbounded (t.spaces ∷ outer) (nothing_known true) m.decls ≡ Ok top = ap (λ b. with_decls unbounded (t.spaces ∷ outer) (nothing_known b) m.decls) (sym is) ∙ h.reads (t.spaces ∷ outer) (grown_refl t.spaces, g) in
    rw read refl

-- the type of a component, where its imports and exports are what was meant
component_type_reads : (mean own : Meaning) (known : Mention → Bool) (is es : Entries) (ms mid : List WrittenScope) (k : Known) (around : List Known) (m : WrittenScope) (next : List WrittenScope) (y : List WrittenScope × ℕ) → Kept 0 (meant mean) ms (k ∷ around) → IsNumbered is es
    → (first : Entered (in_component_type own mean) (first_spot Importing known) is (nothing_known true) (k ∷ around) (opened_scope 2 ∷ ms) mid)
    → Entered (in_component_type own mean) (exports_spot (in_component_type own mean) (first_spot Importing known) is) es first.top first.rest mid (m ∷ next)
    → on_top (add_type (tree.Component m.decls)) next ≡ Some y
    → (fs : Entries) × (gs : Entries) × SidesRead mean (in_component_type own mean) is es fs gs × Written mean (k ∷ around) ms y.0 (TypeAt y.1 (IsType (Component fs gs), true))
unfolding around_stays
component_type_reads mean own known is es ms mid k around m next y kept numbered first second h =
    let inner = in_component_type own mean in
    let grown = all_grown_trans (spaces_of (k ∷ around)) (spaces_of first.rest) (spaces_of second.rest) first.grown second.grown in
    let stays = around_stays mean ms (k ∷ around) 2 m next second.top second.rest (meant inner) kept second.kept grown (second.tails ∙ first.tails) (second.heads ∙ first.heads) in
    let imports : second.top.imports ≡ first.entries = second.others_are ∙ first.listed_are in
    let exports : second.top.exports ≡ second.entries = second.listed_are ∙ ap (λ front. front ++ second.entries) first.others_are in
    let sides = sides_read mean.resource inner is es second.top refl numbered (subst (λ es'. AllShow inner is (entries_in es')) (sym imports) first.shows) (subst (λ es'. AllShow inner es (entries_in es')) (sym exports) second.shows) in (
      (closed_sides second.top).imports,
      (closed_sides second.top).exports,
      record { same = refl; imports = sides.0; exports = sides.1 },
      then_went 0 (meant mean) (k ∷ around) ms next y.0 _ _ stays (one second.rest grown second.kept stays.kept),
    )
  where
    one : (rest : List Known) → AllGrown (spaces_of (k ∷ around)) (spaces_of rest) → Kept 0 (meant (in_component_type own mean)) (m ∷ next) (second.top ∷ rest) → Kept 0 (meant mean) next rest
        → Written mean rest next y.0 (TypeAt y.1 (IsType (Component (closed_sides second.top).imports (closed_sides second.top).exports), true))
    one [] grown k kept = elim grown [ ]
    one (t ∷ rest) grown k kept = added_type 0 (meant mean) (tree.Ty (tree.Component m.decls)) next (t ∷ rest) y (IsType (Component (closed_sides second.top).imports (closed_sides second.top).exports), true) kept h
        (component_adds m second.top t rest k.stand.0 (second.is_closed ∙ first.is_closed))

module _ (mean own : Meaning) (ms : List WrittenScope) (ks : List Known) (kept : Kept 0 (meant mean) ms ks) where
  instance_kept : Kept 0 (meant (in_instance_type own mean)) (opened_scope 1 ∷ ms) (nothing_known false ∷ ks)
  instance_kept = opened_kept 1 1 false (meant (in_instance_type own mean)) (meant mean) ms ks refl (scope_shifts false 1 own mean (knows ms)) kept

  instance_ready : Ready mean ms ks → Ready (in_instance_type own mean) (opened_scope 1 ∷ ms) (nothing_known false ∷ ks)
  unfolding OnTop
  instance_ready ready = record {
    is_open = tt;
    brings = opened_brings 1 1 mean.may_mention (in_instance_type own mean).may_mention (meant mean) (meant (in_instance_type own mean)) ms ks (scope_shifts false 1 own mean (knows ms)) (scope_may false 1 own mean) ready.brings;
  }

  pub component_kept : Kept 0 (meant (in_component_type own mean)) (opened_scope 2 ∷ ms) (nothing_known true ∷ ks)
  component_kept = opened_kept 2 2 true (meant (in_component_type own mean)) (meant mean) ms ks refl (scope_shifts true 2 own mean (knows ms)) kept

  pub component_ready : Ready (in_component_type own mean) (opened_scope 2 ∷ ms) (nothing_known true ∷ ks)
  unfolding OnTop
  component_ready = record {
    is_open = tt;
    brings = closed_brings 2 2 (in_component_type own mean).may_mention (meant mean) (meant (in_component_type own mean)) ms ks (scope_shifts true 2 own mean (knows ms)) (component_may 2 own mean);
  }

pub scope_at : (w : ℕ) (side : SpotKind) (is_closed : Bool) (p : Spot) (ms : List WrittenScope) → ((key : Mention) → knows ms key ≡ p.known key) → IsAt (first_spot side (from_within w p.known)) (opened_scope w ∷ ms) (nothing_known is_closed)
scope_at w Importing is_closed p ms same = record { count = refl; knew = λ key. scope_knows w ms p.known same key; names = refl }
scope_at w Exporting is_closed p ms same = record { count = refl; knew = λ key. scope_knows w ms p.known same key; names = refl }

-- the exports of a component stand behind its imports
pub exports_at : (inner : Meaning) (known : Mention → Bool) (is : Entries) (around : List Known) (before mid : List WrittenScope) (first : Entered inner (first_spot Importing known) is (nothing_known true) around before mid) → IsAt (exports_spot inner (first_spot Importing known) is) mid first.top
exports_at inner known is around before mid first = record { count = first.other_count; knew = first.at.knew; names = ap (map (λ (e : List ℕ × Standing). e.0)) first.others_are }

-- the type of a component, as it ends
component_ends : (mean own : Meaning) (known : Mention → Bool) (is es : Entries) (ms : List WrittenScope) (k : Known) (around : List Known) (y : List WrittenScope × ℕ) → Kept 0 (meant mean) ms (k ∷ around) → IsNumbered is es
    → ((mid : List WrittenScope) → write_entries tree.Import is (opened_scope 2 ∷ ms) ≡ Some mid → Entered (in_component_type own mean) (first_spot Importing known) is (nothing_known true) (k ∷ around) (opened_scope 2 ∷ ms) mid)
    → ((mid later : List WrittenScope) (first : Entered (in_component_type own mean) (first_spot Importing known) is (nothing_known true) (k ∷ around) (opened_scope 2 ∷ ms) mid) → write_entries tree.Export es mid ≡ Some later
    → Entered (in_component_type own mean) (exports_spot (in_component_type own mean) (first_spot Importing known) is) es first.top first.rest mid later)
    → then_decls tree.Component (option_and_then (write_entries tree.Export es) (write_entries tree.Import is (opened_scope 2 ∷ ms))) ≡ Some y
    → (fs : Entries) × (gs : Entries) × SidesRead mean (in_component_type own mean) is es fs gs × Written mean (k ∷ around) ms y.0 (TypeAt y.1 (IsType (Component fs gs), true))
component_ends mean own known is es ms k around y kept numbered imports exports h =
    ended tree.Component (option_and_then (write_entries tree.Export es) (write_entries tree.Import is (opened_scope 2 ∷ ms))) y h (λ m next c d. option_and_then_some (write_entries tree.Export es) (write_entries tree.Import is (opened_scope 2 ∷ ms)) (m ∷ next) c (λ mid e f.
    let first = imports mid e in component_type_reads mean own known is es ms mid k around m next y kept numbered first (exports mid (m ∷ next) first f) d))

-- what is said of it
component_says : (mean own : Meaning) (p : Spot) (is es : Entries) (ms : List WrittenScope) (k : Known) (around : List Known) (y : List WrittenScope × ℕ) (ty : TypeRef) (e : EntityTree)
    → ((fs gs : Entries) → SidesRead mean (in_component_type own mean) is es fs gs → (ks : List Known) → TypeAt y.1 (IsType (Component fs gs), true) ks → Describes mean p ty e ks)
    → (fs : Entries) × (gs : Entries) × SidesRead mean (in_component_type own mean) is es fs gs × Written mean (k ∷ around) ms y.0 (TypeAt y.1 (IsType (Component fs gs), true)) → Written mean (k ∷ around) ms y.0 (Describes mean p ty e)
component_says mean own p is es ms k around y ty e step w = so 0 (meant mean) (k ∷ around) ms y.0 (TypeAt y.1 (IsType (Component w.0 w.1), true)) (Describes mean p ty e) w.3 (step w.0 w.1 w.2)

entered_none : (mean : Meaning) (p : Spot) (ms : List WrittenScope) (k : Known) (around : List Known) → Kept 0 (meant mean) ms (k ∷ around) → Ready mean ms (k ∷ around) → IsAt p ms k → AreOlder mean p → Entered mean p no_entry k around ms ms
unfolding behind_all
entered_none mean p ms k around kept ready at older = record {
  top = k;
  rest = around;
  kept = kept;
  brings = ready.brings;
  grown = all_grown_refl (spaces_of around);
  heads = refl;
  tails = refl;
  is_closed = refl;
  entries = [];
  listed_are = sym (append-nil (listed p.side k));
  shows = tt;
  others_are = refl;
  other_count = refl;
  at = at;
  older = older;
}

entered_behind : (mean : Meaning) (p : Spot) (name : List ℕ) (e : EntityTree) (mark : Bool) (es : Entries) (k : Known) (around : List Known) (before next later : List WrittenScope) (one : EnteredOne mean p name e k around before next)
    → Entered mean (behind mean p name e) es one.top one.rest next later → Entered mean p (entry name e mark es) k around before later
unfolding behind_all
entered_behind mean p name e mark es k around before next later one others = record {
  top = others.top;
  rest = others.rest;
  kept = others.kept;
  brings = others.brings;
  grown = all_grown_trans (spaces_of around) (spaces_of one.rest) (spaces_of others.rest) one.grown others.grown;
  heads = others.heads ∙ one.heads;
  tails = others.tails ∙ one.tails;
  is_closed = others.is_closed ∙ one.is_closed;
  entries = (name, one.standing) ∷ others.entries;
  listed_are = others.listed_are ∙ ap (λ front. front ++ others.entries) one.listed_are ∙ append_assoc (listed p.side k) ((name, one.standing) ∷ []) others.entries;
  shows = (refl, one.shows, others.shows);
  others_are = others.others_are ∙ one.others_are;
  other_count = others.other_count ∙ one.other_count;
  at = others.at;
  older = others.older;
}

pub top_open : (k : Known) (ks : List Known) → OnTop (λ s. Unit {0}) (k ∷ ks)
unfolding OnTop
top_open k ks = tt

mutual
  unfolding write_entity

  -- what is written for an entity describes it
  pub entity_reads : (mean : Meaning) (p : Spot) (e : EntityTree) (ms : List WrittenScope) (k : Known) (around : List Known) (x : List WrittenScope × TypeRef) → Kept 0 (meant mean) ms (k ∷ around) → Ready mean ms (k ∷ around)
      → ((key : Mention) → knows ms key ≡ p.known key) → AreOlder mean p → HasMeaning mean p e → write_entity e ms ≡ Some x → Written mean (k ∷ around) ms x.0 (Describes mean p x.1 e)
  entity_reads mean p (IsType (Value t)) ms k around x kept ready same older has h = value_type_reads mean p ms (k ∷ around) kept ready same t x has.0 has.1 h
  entity_reads mean p (IsType (Resource r)) ms k around x kept ready same older has h = resource_type_reads mean p ms (k ∷ around) kept ready same r x has.0 has.1 h
  entity_reads mean p (IsType (Func f)) ms k around x kept ready same older has h = func_type_reads mean p ms (k ∷ around) kept ready same f x has h
  entity_reads mean p (IsType (Instance es)) ms k around x kept ready same older has h = wrote_some description.TyEqual (then_decls tree.Instance (write_entries tree.Export es (opened_scope 1 ∷ ms))) x h (λ y a b.
      ended tree.Instance (write_entries tree.Export es (opened_scope 1 ∷ ms)) y a (λ m next c d.
      let inner = in_instance_type has.0 mean in
      let entered = entries_read inner (first_spot Exporting (from_within 1 p.known)) es (opened_scope 1 ∷ ms) (nothing_known false) (k ∷ around) (m ∷ next)
      (instance_kept mean has.0 ms (k ∷ around) kept) (instance_ready mean has.0 ms (k ∷ around) kept ready) (scope_at 1 Exporting false p ms same) (instance_type_older has.0 mean p.known) has.1 c in
      let w = instance_type_reads mean inner 1 (first_spot Exporting (from_within 1 p.known)) es ms k around m next y refl kept entered d in
      subst (λ (x : List WrittenScope × TypeRef). Written mean (k ∷ around) ms x.0 (Describes mean p x.1 (IsType (Instance es)))) b
      (so 0 (meant mean) (k ∷ around) ms y.0 _ _ w.2 (type_instance_described mean inner p es w.0 y.1 refl w.1))))
  entity_reads mean p (IsType (Component is es)) ms k around x kept ready same older has h = wrote_some description.TyEqual (then_decls tree.Component (option_and_then (write_entries tree.Export es) (write_entries tree.Import is (opened_scope 2 ∷ ms)))) x h (λ y a b.
      subst (λ (x : List WrittenScope × TypeRef). Written mean (k ∷ around) ms x.0 (Describes mean p x.1 (IsType (Component is es)))) b
      (component_says mean has.0 p is es ms k around y (description.TyEqual y.1) (IsType (Component is es)) (λ fs gs sides ls at. type_component_described mean (in_component_type has.0 mean) p is es fs gs y.1 sides ls at)
      (component_ends mean has.0 (from_within 2 p.known) is es ms k around y kept has.3
      (λ mid c. entries_read (in_component_type has.0 mean) (first_spot Importing (from_within 2 p.known)) is (opened_scope 2 ∷ ms) (nothing_known true) (k ∷ around) mid
      (component_kept mean has.0 ms (k ∷ around) kept) (component_ready mean has.0 ms (k ∷ around) kept) (scope_at 2 Importing true p ms same) (component_older has.0 mean Importing p.known) has.1 c)
      (λ mid later first c. entries_read (in_component_type has.0 mean) (exports_spot (in_component_type has.0 mean) (first_spot Importing (from_within 2 p.known)) is) es mid first.top first.rest later
      first.kept (record { is_open = top_open first.top first.rest; brings = first.brings }) (exports_at (in_component_type has.0 mean) (from_within 2 p.known) is (k ∷ around) (opened_scope 2 ∷ ms) mid first)
      (exports_older has.0 mean p.known is (entries_orderly (in_component_type has.0 mean) (first_spot Importing (from_within 2 p.known)) is has.1) has.3.made_behind) has.2 c) a)))
  entity_reads mean p (IsFunc f) ms k around x kept ready same older has h = func_entity_reads mean p ms (k ∷ around) kept ready same f x has.0 has.1 h
  entity_reads mean p (IsInstance es) ms k around x kept ready same older has h = wrote_some description.Instance (then_decls tree.Instance (write_entries tree.Export es (opened_scope 0 ∷ ms))) x h (λ y a b.
      ended tree.Instance (write_entries tree.Export es (opened_scope 0 ∷ ms)) y a (λ m next c d.
      let entered = entries_read (within p mean) (first_spot Exporting p.known) es (opened_scope 0 ∷ ms) (nothing_known false) (k ∷ around) (m ∷ next)
      (within_kept mean p ms (k ∷ around) kept same older) (within_ready mean p ms (k ∷ around) ready same older) (within_at p ms same) (within_older mean p older) has c in
      let w = instance_type_reads mean (within p mean) 0 (first_spot Exporting p.known) es ms k around m next y refl kept entered d in
      subst (λ (x : List WrittenScope × TypeRef). Written mean (k ∷ around) ms x.0 (Describes mean p x.1 (IsInstance es))) b
      (so 0 (meant mean) (k ∷ around) ms y.0 _ _ w.2 (instance_described mean p es w.0 y.1 w.1))))
  entity_reads mean p (IsComponent is es) ms k around x kept ready same older has h = wrote_some description.Component (then_decls tree.Component (option_and_then (write_entries tree.Export es) (write_entries tree.Import is (opened_scope 2 ∷ ms)))) x h (λ y a b.
      subst (λ (x : List WrittenScope × TypeRef). Written mean (k ∷ around) ms x.0 (Describes mean p x.1 (IsComponent is es))) b
      (component_says mean has.0 p is es ms k around y (description.Component y.1) (IsComponent is es) (λ fs gs sides ls at. component_described mean (in_component_type has.0 mean) p is es fs gs y.1 sides ls at)
      (component_ends mean has.0 (from_within 2 p.known) is es ms k around y kept has.3
      (λ mid c. entries_read (in_component_type has.0 mean) (first_spot Importing (from_within 2 p.known)) is (opened_scope 2 ∷ ms) (nothing_known true) (k ∷ around) mid
      (component_kept mean has.0 ms (k ∷ around) kept) (component_ready mean has.0 ms (k ∷ around) kept) (scope_at 2 Importing true p ms same) (component_older has.0 mean Importing p.known) has.1 c)
      (λ mid later first c. entries_read (in_component_type has.0 mean) (exports_spot (in_component_type has.0 mean) (first_spot Importing (from_within 2 p.known)) is) es mid first.top first.rest later
      first.kept (record { is_open = top_open first.top first.rest; brings = first.brings }) (exports_at (in_component_type has.0 mean) (from_within 2 p.known) is (k ∷ around) (opened_scope 2 ∷ ms) mid first)
      (exports_older has.0 mean p.known is (entries_orderly (in_component_type has.0 mean) (first_spot Importing (from_within 2 p.known)) is has.1) has.3.made_behind) has.2 c) a)))
  entity_reads mean p (IsModule m) ms k around x kept ready same older has h = module_entity_reads mean p m ms k around x kept h
  entity_reads mean p IsOwnModule ms k around x kept ready same older has h = elim has [ ]

  -- imports or exports, one behind the other
  pub entries_read : (mean : Meaning) (p : Spot) (es : Entries) (ms : List WrittenScope) (k : Known) (around : List Known) (later : List WrittenScope) → Kept 0 (meant mean) ms (k ∷ around) → Ready mean ms (k ∷ around) → IsAt p ms k → AreOlder mean p → HaveMeaning mean p es
      → write_entries (item_of p.side) es ms ≡ Some later → Entered mean p es k around ms later
  entries_read mean p no_entry ms k around later kept ready at older have h = subst (λ (later : List WrittenScope). Entered mean p no_entry k around ms later) (same_Some _ _ h) (entered_none mean p ms k around kept ready at older)
  entries_read mean p (entry name e mark es) ms k around later kept ready at older have h = option_and_then_some _ (write_entity e ms) later h (λ x a b.
      let orderly = entity_orderly mean p e have.1 in
      let later_older = old_behind mean p name e older (entity_old mean p name e ms (k ∷ around) x older (record { kept = kept; ready = ready; same = at.knew }) have.1 orderly a) in
      let one = enter_one mean p name e ms k around x ready at have.0 orderly later_older (entity_reads mean p e ms k around x kept ready at.knew older have.1 a) in
      entered_behind mean p name e mark es k around ms _ later one
      (entries_read mean (behind mean p name e) es _ one.top one.rest later one.kept (record { is_open = top_open one.top one.rest; brings = one.brings }) one.at one.older have.2 b))
