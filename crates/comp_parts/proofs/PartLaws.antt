-- Laws of the parts of a component, which are read one by one beside its items.
use Rattle.std.proofs.Common.{◌≡◌, ◌∙◌, Bor, Option, ◌+◌, ◌<◌, ◌≤◌, ℕ, zero, suc, Bool, true, false, cond, List, [], ◌∷◌, map, drop, length, Result, Ok, Err, refl, sym, ap, subst, arith, slice_index_or}
use Rattle.std.proofs.lemmas.Bool.{le-leb}
use Rattle.std.proofs.lemmas.List.{drop_all, drop_more}
use Rattle.warg_values.specs.Reading.{◌>>=◌}
use Rattle.comp_declare.specs.declared.scope.Scope.{Scope}
use Rattle.comp_declare.specs.Outer.{AllShowSpaces}
use Rattle.comp_declare.specs.Scopes.{ShowsScope, plain_entry}
use Rattle.comp_entity.specs.Bounds.{ShapeFault, TooDeep, bounded, is_within}
use Rattle.comp_format.specs.declared.types.Item.{Item}
use Rattle.comp_format.specs.declared.types.Item.TheVariants as made
use Rattle.comp_format.specs.declared.types.Sort.{Sort}
use Rattle.comp_format.specs.declared.types.TypeRef.{TypeRef}
use Rattle.comp_format.specs.Items.{ExportTree, ItemTree, item_tree, Component, Import, Export}
use Rattle.comp_parts.specs.Parts.{FaultAt, component_of, component_within}
use Rattle.comp_scope.specs.Descriptions.{imported}
use Rattle.comp_scope.specs.Exports.{exported}
use Rattle.comp_scope.specs.Shape.{Expands, HasParts, Inner, IsPart, Part, Parts, Plain, after, after_part, after_parts, nothing, spaces_after, then_part, with_component}
use Rattle.comp_scope.specs.Spaces.{Known, Spaces, added, nothing_known}
use Rattle.comp_scope.specs.Types.{opened_scope, with_spaces}
use Rattle.comp_space.specs.declared.error.ScopeError.{ScopeError}
use Rattle.comp_space.specs.declared.space.Space.{Space}
use Rattle.comp_space.specs.Faults.{Fails, Found}
use Rattle.comp_space.specs.SpaceLaws.{space_kept}
use Rattle.comp_space.specs.SpaceViews.{ShowsSpaces}
use Rattle.comp_space.specs.StandingLaws.{fails_bind, pairwise_kept, then_first}
use Rattle.comp_table.specs.StandLaws.{all_kept}
use Rattle.comp_table.specs.Trees.{Extends, PlainTree}

-- ---- scopes in a table that has grown

pub spaces_kept : (ts us : List PlainTree) → Extends ts us → (xs : List Space) (ss : List Spaces) → AllShowSpaces ts xs ss → AllShowSpaces us xs ss
spaces_kept ts us grown xs ss shows = pairwise_kept (ShowsSpaces ts) (ShowsSpaces us) (space_kept ts us grown) xs ss shows

-- the same scope with other index spaces
pub shows_with_spaces : (ts us : List PlainTree) → Extends ts us → (part : Scope) (k : Known) (space : Space) (s : Spaces) → ShowsScope ts part k → ShowsSpaces us space s → ShowsScope us (record part { space = space }) (with_spaces k s)
shows_with_spaces ts us grown part k space s shows spaces = record {
  spaces = spaces;
  imports = record { stand = all_kept ts us grown part.imports.numbers.items (map plain_entry k.imports) shows.imports.stand; names_are = shows.imports.names_are };
  exports = record { stand = all_kept ts us grown part.exports.numbers.items (map plain_entry k.exports) shows.exports.stand; names_are = shows.exports.names_are };
}

-- as many scopes are open as show some
pub as_many : {B : Type 0} (now : B → Space) (ts : List PlainTree) (xs : List B) (ss : List Spaces) → AllShowSpaces ts (map now xs) ss → length xs ≡ length ss
as_many now ts [] [] shows = refl
as_many now ts [] (s ∷ ss) shows = absurd shows
as_many now ts (x ∷ xs) [] shows = absurd shows
as_many now ts (x ∷ xs) (s ∷ ss) shows = ap suc (as_many now ts xs ss shows.1)

pub many_within : {B : Type 0} (now : B → Space) (ts : List PlainTree) (own : Space) (xs : List B) (ss : List Spaces) → AllShowSpaces ts (own ∷ map now xs) ss → suc (length xs) ≡ length ss
many_within now ts own xs [] shows = absurd shows
many_within now ts own xs (s ∷ ss) shows = ap suc (as_many now ts xs ss shows.1)

-- ---- items beside parts

-- items that the same bytes were read as expand to the same parts
pub read_again : (items read : List ItemTree) (parts : Parts) → items ≡ read → Expands read parts → Expands items parts
read_again items read parts is h = subst (λ xs. Expands xs parts) (sym is) h

module _ (ss : List Spaces) (k : Known) where
  -- what an item adds of which the part is
  pub import_part : (name : List ℕ) (ty : TypeRef) (p : Part) → IsPart (Import (record { name = name; ty = ty })) p → after_part bounded ss k p ≡ imported bounded k name ty
  unfolding after_part after
  import_part name ty (Plain other) is = ap (after bounded ss k) (sym is)
  import_part name ty (Inner bytes parts) is = absurd is

  pub export_part : (e : ExportTree) (p : Part) → IsPart (Export e) p → after_part bounded ss k p ≡ exported bounded k e
  unfolding after_part after
  export_part e (Plain other) is = ap (after bounded ss k) (sym is)
  export_part e (Inner bytes parts) is = absurd is

  abbrev added_to : ItemTree → Result Known ShapeFault
  added_to item = spaces_after bounded ss k.spaces item >>= λ s. Ok (with_spaces k s)

  pub other_part : (item : Item) (p : Part) → ((bytes : Bor (List ℕ)) → item ≡ made.Component bytes → ⊥) → ((name : List ℕ) (ty : TypeRef) → item ≡ made.Import name ty → ⊥) → ((name : List ℕ) (kind : Sort) (index : ℕ) (ty : Option TypeRef) → item ≡ made.Export name kind index ty → ⊥) → IsPart (item_tree item) p → after_part bounded ss k p ≡ added_to (item_tree item)
  unfolding after_part after
  other_part (made.Custom name bytes) (Plain other) nc ni ne is = ap (after bounded ss k) (sym is)
  other_part (made.Custom name bytes) (Inner within parts) nc ni ne is = absurd is
  other_part (made.CoreModule bytes) (Plain other) nc ni ne is = ap (after bounded ss k) (sym is)
  other_part (made.CoreModule bytes) (Inner within parts) nc ni ne is = absurd is
  other_part (made.CoreInstance item) (Plain other) nc ni ne is = ap (after bounded ss k) (sym is)
  other_part (made.CoreInstance item) (Inner within parts) nc ni ne is = absurd is
  other_part (made.CoreTy item) (Plain other) nc ni ne is = ap (after bounded ss k) (sym is)
  other_part (made.CoreTy item) (Inner within parts) nc ni ne is = absurd is
  other_part (made.Component bytes) p nc ni ne is = absurd (nc bytes refl)
  other_part (made.Instance item) (Plain other) nc ni ne is = ap (after bounded ss k) (sym is)
  other_part (made.Instance item) (Inner within parts) nc ni ne is = absurd is
  other_part (made.Alias item) (Plain other) nc ni ne is = ap (after bounded ss k) (sym is)
  other_part (made.Alias item) (Inner within parts) nc ni ne is = absurd is
  other_part (made.Ty item) (Plain other) nc ni ne is = ap (after bounded ss k) (sym is)
  other_part (made.Ty item) (Inner within parts) nc ni ne is = absurd is
  other_part (made.Canon item) (Plain other) nc ni ne is = ap (after bounded ss k) (sym is)
  other_part (made.Canon item) (Inner within parts) nc ni ne is = absurd is
  other_part (made.Import name ty) p nc ni ne is = absurd (ni name ty refl)
  other_part (made.Export name kind index ty) p nc ni ne is = absurd (ne name kind index ty refl)

-- a nested component has parts
pub parts_within : (bytes : List ℕ) (p : Part) → IsPart (Component bytes) p → (parts : Parts) × HasParts bytes parts
parts_within bytes (Plain other) is = absurd is
parts_within bytes (Inner within parts) is = (parts, is.1)

-- some parts, the first of which is the item's
pub record FirstOf (item : ItemTree) (items : List ItemTree) (parts : Parts) : Type 0 where
  pub first : Part
  pub others : Parts
  pub parts_are : parts ≡ then_part first others
  pub is_part : IsPart item first
  pub expands : Expands items others

pub first_of : (item : ItemTree) (items : List ItemTree) (parts : Parts) → Expands (item ∷ items) parts → FirstOf item items parts
first_of item items nothing h = absurd h
first_of item items (then_part p ps) h = record { first = p; others = ps; parts_are = refl; is_part = h.0; expands = h.1 }

-- the item at an index is the first of those that are left
pub first_left : (items : List Item) (i : ℕ) (x : Item) (parts : Parts) → i < length items → x ≡ slice_index_or items i x → Expands (map item_tree (drop i items)) parts → FirstOf (item_tree x) (map item_tree (drop (i + 1) items)) parts
first_left items i x parts lt is h = first_of _ _ parts (subst (λ (xs : List Item). Expands (map item_tree xs) parts) (drop_more items i x lt ∙ ap (λ y. y ∷ drop (i + 1) items) (sym is)) h)

-- behind the items read so far so much is known, and these parts are left
pub record Reached (table : List PlainTree) (scope : Scope) (ss : List Spaces) (parts : Parts) (left : List ItemTree) : Type 0 where
  pub known : Known
  pub rest : Parts
  pub shown : ShowsScope table scope known
  pub expands : Expands left rest
  pub read_is : after_parts bounded ss (nothing_known true) parts ≡ after_parts bounded ss known rest

abbrev pub begun : (table : List PlainTree) (scope : Scope) (ss : List Spaces) (parts : Parts) (left : List ItemTree) → ShowsScope table scope (nothing_known true) → Expands left parts → Reached table scope ss parts left
begun table scope ss parts left shows h = record { known = nothing_known true; rest = parts; shown = shows; expands = h; read_is = refl }

module _ (ss : List Spaces) where
  -- one part more
  pub then_next : (k next : Known) (p : Part) (ps : Parts) → after_part bounded ss k p ≡ Ok next → after_parts bounded ss k (then_part p ps) ≡ after_parts bounded ss next ps
  unfolding after_parts
  then_next k next p ps e = ap (λ r. r >>= λ n. after_parts bounded ss n ps) e

  pub fails_first : (k : Known) (p : Part) (ps : Parts) (e : ScopeError) → Fails e (after_part bounded ss k p) → Fails e (after_parts bounded ss k (then_part p ps))
  unfolding after_parts
  fails_first k p ps e h = fails_bind (after_part bounded ss k p) _ e h

  pub reads_none : (k : Known) → after_parts bounded ss k nothing ≡ Ok k
  unfolding after_parts
  reads_none k = refl

abbrev pub goes_on : (ts us : List PlainTree) (scope after : Scope) (ss : List Spaces) (parts : Parts) (item : ItemTree) (left : List ItemTree) (before : List ItemTree) (r : Reached ts scope ss parts before) (f : FirstOf item left r.rest) → Found (λ (u : Unit {0}). ShowsScope us after) tt (after_part bounded ss r.known f.first) → Reached us after ss parts left
goes_on ts us scope after ss parts item left before r f g = record {
  known = g.value;
  rest = f.others;
  shown = g.shown;
  expands = f.expands;
  read_is = r.read_is ∙ ap (after_parts bounded ss r.known) f.parts_are ∙ then_next ss r.known g.value f.first f.others g.given_is;
}

pub fails_there : (ts : List PlainTree) (scope : Scope) (ss : List Spaces) (parts : Parts) (item : ItemTree) (left before : List ItemTree) (r : Reached ts scope ss parts before) (f : FirstOf item left r.rest) (e : ScopeError) → Fails e (after_part bounded ss r.known f.first) → Fails e (after_parts bounded ss (nothing_known true) parts)
fails_there ts scope ss parts item left before r f e h =
    subst (Fails e) (sym (r.read_is ∙ ap (after_parts bounded ss r.known) f.parts_are)) (fails_first ss r.known f.first f.others e h)

no_parts : (parts : Parts) → Expands [] parts → parts ≡ nothing
no_parts nothing h = refl
no_parts (then_part p ps) h = absurd h

-- no items are left
pub all_read : (ts : List PlainTree) (scope : Scope) (ss : List Spaces) (parts : Parts) (items : List Item) (i : ℕ) → length items ≤ i → Reached ts scope ss parts (map item_tree (drop i items)) → Found (ShowsScope ts) scope (after_parts bounded ss (nothing_known true) parts)
all_read ts scope ss parts items i le r =
    let none = no_parts r.rest (subst (λ (xs : List Item). Expands (map item_tree xs) r.rest) (drop_all i items le) r.expands) in
    record { value = r.known; given_is = r.read_is ∙ ap (after_parts bounded ss r.known) none ∙ reads_none ss r.known; shown = r.shown }

-- ---- which part is at fault

-- a fault in the rest is one of all parts, so many parts further back
abbrev pub FaultsGoOn : ℕ → Known → Parts → Parts → Type 0
FaultsGoOn i known rest parts = (n : ℕ) (e : ScopeError) → FaultAt known n e rest → FaultAt (nothing_known true) (n + i) e parts

pub faults_begin : (parts : Parts) → FaultsGoOn 0 (nothing_known true) parts parts
faults_begin parts n e h = let is : n ≡ n + 0 = omega arith in subst (λ m. FaultAt (nothing_known true) m e parts) is h

pub faults_next : (i : ℕ) (k next : Known) (p : Part) (rest others parts : Parts) → rest ≡ then_part p others → after_part bounded [] k p ≡ Ok next → FaultsGoOn i k rest parts → FaultsGoOn (i + 1) next others parts
faults_next i k next p rest others parts is read on n e h =
    let at : suc n + i ≡ n + (i + 1) = omega arith in
    subst (λ m. FaultAt (nothing_known true) m e parts) at (on (suc n) e (subst (FaultAt k (suc n) e) (sym is) (next, read, h)))

pub fault_here : (i : ℕ) (k : Known) (p : Part) (rest others parts : Parts) (e : ScopeError) → rest ≡ then_part p others → Fails e (after_part bounded [] k p) → FaultsGoOn i k rest parts → FaultAt (nothing_known true) i e parts
fault_here i k p rest others parts e is h on =
    let at : 0 + i ≡ i = omega arith in
    subst (λ m. FaultAt (nothing_known true) m e parts) at (on 0 e (subst (FaultAt k 0 e) (sym is) h))

-- ---- one scope more

pub opened : {X : Type 0} (ss : List Spaces) (n : ℕ) (r : Result X ShapeFault) → n ≡ length ss → is_within bounded.scopes (suc n) ≡ true → opened_scope bounded ss r ≡ r
opened ss n r many within = ap (λ k. cond (is_within bounded.scopes (suc k)) r (Err TooDeep)) (sym many) ∙ ap (λ b. cond b r (Err TooDeep)) within

pub not_opened : {X : Type 0} (ss : List Spaces) (n : ℕ) (r : Result X ShapeFault) → n ≡ length ss → is_within bounded.scopes (suc n) ≡ false → opened_scope bounded ss r ≡ Err TooDeep
not_opened ss n r many past = ap (λ k. cond (is_within bounded.scopes (suc k)) r (Err TooDeep)) (sym many) ∙ ap (λ b. cond b r (Err TooDeep)) past

-- scopes may be opened exactly while levels are left
pub open_with_levels : (levels many : ℕ) → levels + many ≡ 31 → 1 ≤ levels → is_within bounded.scopes (suc (suc many)) ≡ true
open_with_levels levels many e some = le-leb (suc (suc many)) 32 (omega (arith, e, some))

pub none_without_levels : (levels many : ℕ) → levels + many ≡ 31 → (1 ≤ levels → ⊥) → is_within bounded.scopes (suc (suc many)) ≡ false
none_without_levels zero many e none = let is : many ≡ 31 = omega (arith, e) in ap (λ n. is_within bounded.scopes (suc (suc n))) is
none_without_levels (suc n) many e none = absurd (none (omega arith))

-- the component is known before it is put behind the others
then_added : (b : Bool) (k : Known) (r : Result Known ShapeFault) → cond b (r >>= with_component bounded k) (Err TooDeep) ≡ (cond b (r >>= λ inner. Ok (component_of inner)) (Err TooDeep) >>= λ e. added bounded k.spaces e true >>= λ s. Ok (with_spaces k s))
then_added true k r = then_first r _ (λ inner. Ok (component_of inner)) (λ e. added bounded k.spaces e true >>= λ s. Ok (with_spaces k s)) (λ inner. refl)
then_added false k r = refl

pub component_added : (ss : List Spaces) (k : Known) (bytes : List ℕ) (parts : Parts) → after_part bounded ss k (Inner bytes parts) ≡ (component_within bounded (k.spaces ∷ ss) parts >>= λ e. added bounded k.spaces e true >>= λ s. Ok (with_spaces k s))
unfolding after_part
component_added ss k bytes parts = then_added (is_within bounded.scopes (suc (length (k.spaces ∷ ss)))) k (after_parts bounded (k.spaces ∷ ss) (nothing_known true) parts)
