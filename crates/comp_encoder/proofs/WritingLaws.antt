-- What the builder writes reads as its items.
use Rattle.std.proofs.Common.{◌≡◌, ℕ, ◌^◌, ◌<◌, Bool, true, false, cond, eqb, ◌&&◌, List, [], ◌∷◌, ◌++◌, length, map, Option, Some, None, Err, refl, sym, ap, subst, ◌∙◌, append_assoc, arith, inl, inr}
use Rattle.std.specs.Prelude.{is_none}
use Rattle.std.specs.List.{flat_map, AllByRecursion}
use Rattle.std.proofs.lemmas.Bool.{cases_Bool, eqb-true}
use Rattle.std.proofs.lemmas.List.{append-nil, length-map}
use Rattle.comp_format.specs.declared.types.CoreInstance.{CoreInstance}
use Rattle.comp_format.specs.declared.types.InstanceItem.{InstanceItem}
use Rattle.comp_format.specs.declared.types.Alias.{Alias}
use Rattle.comp_format.specs.declared.types.Canon.{Canon}
use Rattle.comp_format.specs.Fault.{Form}
use Rattle.comp_format.specs.Numbers.{FormOf, number_text}
use Rattle.comp_format.specs.Vectors.{Vector, vector_text}
use Rattle.comp_format.specs.CoreTypes.{CoreTree, CoreForm, core_text}
use Rattle.comp_format.specs.Definitions.{TypeTree, DefForm, definition_text}
use Rattle.comp_format.specs.Canons.{CanonForm, canon_text}
use Rattle.comp_format.specs.Parts.{CoreInstanceForm, InstanceForm, AliasForm, core_instance_text, instance_text, alias_text}
use Rattle.comp_format.specs.Items.{ImportTree, ExportTree, ItemTree, Custom, CoreModule, CoreMade, CoreTy, Component, Instance, Aliased, Ty, Canonical, Import, Export, ImportForm, ExportForm, import_text, export_text}
use Rattle.comp_format.specs.Sections.{Section, Named, CoreModules, CoreInstances, CoreTypes, Nested, Instances, Aliases, Types, Canons, Imports, Exports, Sections, none, more, Framed, Whole, ContentForm, SectionsForm, Reads, section_id, section_items, items_in}
use Rattle.comp_format.specs.Fits.{FitsCoreInstance, FitsCore, FitsInstance, FitsAlias, FitsDefinition, FitsCanon, FitsImport, FitsExport, FitsItem}
use Rattle.comp_format.specs.NumberLaws.{number_written}
use Rattle.comp_format.specs.VectorLaws.{vector_written, any_name_written}
use Rattle.comp_format.specs.PartLaws.{core_instance_written, instance_written, alias_written}
use Rattle.comp_format.specs.CoreTypeLaws.{core_written}
use Rattle.comp_format.specs.DefinitionLaws.{definition_written}
use Rattle.comp_format.specs.CanonLaws.{canon_written}
use Rattle.comp_format.specs.ItemLaws.{import_written, export_written}
use Rattle.comp_encoder.specs.Builder.{IsContentOf}
use Rattle.comp_encoder.specs.Writing.{Entry, Single, GivenSection, WrittenSection, IsShort, items_of, item_id, item_text, is_shared, is_plain, alone, joins, joined, sections_of, content_text, section_text, component_text}

-- the pieces of a list's images
flat_map-map : {X Y : Type 0} (f : Y → List ℕ) (g : X → Y) (xs : List X) → flat_map f (map g xs) ≡ flat_map (λ x. f (g x)) xs
flat_map-map f g [] = refl
flat_map-map f g (x ∷ xs) = ap (λ (t : List ℕ). f (g x) ++ t) (flat_map-map f g xs)

-- the vector of some items is the vector of what they hold
pub vector_text-map : {X Y : Type 0} (f : Y → List ℕ) (g : X → Y) (xs : List X) → vector_text f (map g xs) ≡ vector_text (λ x. f (g x)) xs
vector_text-map f g xs = ap (λ n. number_text n ++ flat_map f (map g xs)) (length-map xs g) ∙ ap (λ (t : List ℕ). number_text (length xs) ++ t) (flat_map-map f g xs)

-- ---- the section of a group

-- the section of a group, before it is known that its count can be written
record IsSection (g : WrittenSection) (s : Section) : Type 0 where
  items : section_items s ≡ g.items
  id : section_id s ≡ g.id
  form : length g.items < 2 ^ 32 → ContentForm s (content_text g)
  fit : g.raw ≡ None → AllByRecursion FitsItem g.items

-- what fits as items fits as what they hold
held_fit : {X : Type 0} (Fits : X → Type 0) (item : X → ItemTree) → ((x : X) → FitsItem (item x) → Fits x) → (xs : List X) → AllByRecursion FitsItem (map item xs) → AllByRecursion Fits xs
held_fit Fits item same [] fit = tt
held_fit Fits item same (x ∷ xs) fit = (same x fit.0, held_fit Fits item same xs fit.1)

-- items that share a section
abbrev sharing : ℕ → List ItemTree → WrittenSection
sharing id items = record { id = id; items = items; raw = None }

-- a vector of items of one kind is a section
module _ {X : Type 0} (One : FormOf X) (text : X → List ℕ) (Fits : X → Type 0) (written : (x : X) (rest : List ℕ) → Fits x → One x (text x ++ rest) rest) (item : X → ItemTree) (id : ℕ) (is_vector : is_plain id ≡ false) where
  listed : (made : List X → Section) → ((xs : List X) → section_items (made xs) ≡ map item xs) → ((xs : List X) → section_id (made xs) ≡ id) → ((xs : List X) (content : List ℕ) → Whole One xs content → ContentForm (made xs) content)
      → ((x : X) → item_text (item x) ≡ text x) → ((x : X) → FitsItem (item x) → Fits x) → (xs : List X) → AllByRecursion FitsItem (map item xs) → IsSection (sharing id (map item xs)) (made xs)
  listed made items_are id_is form text_is held xs fit = record {
    items = items_are xs;
    id = id_is xs;
    form = λ short. form xs _ (
        rw is_vector
        (
        subst (λ (t : List ℕ). Vector One xs t [])
        (append-nil (vector_text text xs) ∙ sym (vector_text-map item_text item xs ∙ texts xs))
        (vector_written (λ bytes. Err Form) One text Fits written xs [] (subst (λ n. n < 2 ^ 32) (length-map xs item) short) (held_fit Fits item held xs fit))
        )
        );
    fit = λ _. fit;
  }
    where
      flat : (ys : List X) → flat_map (λ x. item_text (item x)) ys ≡ flat_map text ys
      flat [] = refl
      flat (y ∷ ys) = ap (λ (t : List ℕ). t ++ flat_map (λ x. item_text (item x)) ys) (text_is y) ∙ ap (λ (t : List ℕ). text y ++ t) (flat ys)

      texts : (ys : List X) → vector_text (λ x. item_text (item x)) ys ≡ vector_text text ys
      texts ys = ap (λ (t : List ℕ). number_text (length ys) ++ t) (flat ys)

of_core_instances : (xs : List CoreInstance) → AllByRecursion FitsItem (map CoreMade xs) → IsSection (sharing 2 (map CoreMade xs)) (CoreInstances xs)
of_core_instances = listed CoreInstanceForm core_instance_text FitsCoreInstance core_instance_written CoreMade 2 refl CoreInstances (λ xs. refl) (λ xs. refl) (λ xs content h. h) (λ x. refl) (λ x h. h)

of_core_types : (xs : List CoreTree) → AllByRecursion FitsItem (map CoreTy xs) → IsSection (sharing 3 (map CoreTy xs)) (CoreTypes xs)
of_core_types = listed CoreForm core_text FitsCore core_written CoreTy 3 refl CoreTypes (λ xs. refl) (λ xs. refl) (λ xs content h. h) (λ x. refl) (λ x h. h)

of_instances : (xs : List InstanceItem) → AllByRecursion FitsItem (map Instance xs) → IsSection (sharing 5 (map Instance xs)) (Instances xs)
of_instances = listed InstanceForm instance_text FitsInstance instance_written Instance 5 refl Instances (λ xs. refl) (λ xs. refl) (λ xs content h. h) (λ x. refl) (λ x h. h)

of_aliases : (xs : List Alias) → AllByRecursion FitsItem (map Aliased xs) → IsSection (sharing 6 (map Aliased xs)) (Aliases xs)
of_aliases = listed AliasForm alias_text FitsAlias alias_written Aliased 6 refl Aliases (λ xs. refl) (λ xs. refl) (λ xs content h. h) (λ x. refl) (λ x h. h)

of_types : (xs : List TypeTree) → AllByRecursion FitsItem (map Ty xs) → IsSection (sharing 7 (map Ty xs)) (Types xs)
of_types = listed DefForm definition_text FitsDefinition definition_written Ty 7 refl Types (λ xs. refl) (λ xs. refl) (λ xs content h. h) (λ x. refl) (λ x h. h)

of_canons : (xs : List Canon) → AllByRecursion FitsItem (map Canonical xs) → IsSection (sharing 8 (map Canonical xs)) (Canons xs)
of_canons = listed CanonForm canon_text FitsCanon canon_written Canonical 8 refl Canons (λ xs. refl) (λ xs. refl) (λ xs content h. h) (λ x. refl) (λ x h. h)

of_imports : (xs : List ImportTree) → AllByRecursion FitsItem (map Import xs) → IsSection (sharing 10 (map Import xs)) (Imports xs)
of_imports = listed ImportForm import_text FitsImport import_written Import 10 refl Imports (λ xs. refl) (λ xs. refl) (λ xs content h. h) (λ x. refl) (λ x h. h)

of_exports : (xs : List ExportTree) → AllByRecursion FitsItem (map Export xs) → IsSection (sharing 11 (map Export xs)) (Exports xs)
of_exports = listed ExportForm export_text FitsExport export_written Export 11 refl Exports (λ xs. refl) (λ xs. refl) (λ xs content h. h) (λ x. refl) (λ x h. h)

-- an item alone
alone_is : (item : ItemTree) → FitsItem item → (s : Section) × IsSection (alone item) s
alone_is (Custom name bytes) fits = (Named name bytes, record { items = refl; id = refl; form = λ _. rw append-nil (any_name_written name bytes fits); fit = λ _. (fits, tt) })
alone_is (CoreModule bytes) fits = (CoreModules bytes, record { items = refl; id = refl; form = λ _. rw append-nil (refl, (fits.0, fits.1, tt)); fit = λ _. (fits, tt) })
alone_is (CoreMade item) fits = (CoreInstances (item ∷ []), of_core_instances (item ∷ []) (fits, tt))
alone_is (CoreTy item) fits = (CoreTypes (item ∷ []), of_core_types (item ∷ []) (fits, tt))
alone_is (Component bytes) fits =
    let reading = fits.1 in (Nested bytes reading.0, record { items = refl; id = refl; form = λ _. rw append-nil (refl, reading.2); fit = λ _. (fits, tt) })
alone_is (Instance item) fits = (Instances (item ∷ []), of_instances (item ∷ []) (fits, tt))
alone_is (Aliased item) fits = (Aliases (item ∷ []), of_aliases (item ∷ []) (fits, tt))
alone_is (Ty item) fits = (Types (item ∷ []), of_types (item ∷ []) (fits, tt))
alone_is (Canonical item) fits = (Canons (item ∷ []), of_canons (item ∷ []) (fits, tt))
alone_is (Import item) fits = (Imports (item ∷ []), of_imports (item ∷ []) (fits, tt))
alone_is (Export item) fits = (Exports (item ∷ []), of_exports (item ∷ []) (fits, tt))

-- what joins a section is of its kind, and the section is shared
pub record Joins (item : ItemTree) (g : WrittenSection) : Type 0 where
  pub same : item_id item ≡ g.id
  pub shared : is_shared g.id ≡ true
  pub open_is : g.raw ≡ None

and_true : (a b : Bool) → a && b ≡ true → (a ≡ true) × (b ≡ true)
and_true true b e = (refl, e)
and_true false b e = absurd cc

is_none-true : {X : Type 0} (o : Option X) → is_none o ≡ true → o ≡ None
is_none-true None e = refl
is_none-true (Some x) e = absurd cc

pub joins_is : (item : ItemTree) (g : WrittenSection) → joins item g ≡ true → Joins item g
joins_is item g e =
    let outer = and_true (eqb (item_id item) g.id && is_shared g.id) (is_none g.raw) e in
    let inner = and_true (eqb (item_id item) g.id) (is_shared g.id) outer.0 in
    record { same = eqb-true (item_id item) g.id inner.0; shared = inner.1; open_is = is_none-true g.raw outer.1 }

-- an item more in front of others of its kind
module _ {X : Type 0} (item : X → ItemTree) (id : ℕ) (made : List X → Section) (form : (xs : List X) → AllByRecursion FitsItem (map item xs) → IsSection (sharing id (map item xs)) (made xs)) where
  grown : (g : WrittenSection) (x : X) (xs : List X) → map item xs ≡ g.items → id ≡ g.id → g.raw ≡ None → AllByRecursion FitsItem g.items → FitsItem (item x) → IsSection (record { id = g.id; items = item x ∷ g.items; raw = g.raw }) (made (x ∷ xs))
  grown g x xs items_are id_is open_is fit fits =
      let section_is : (sharing id (map item (x ∷ xs))) ≡ (record { id = g.id; items = item x ∷ g.items; raw = g.raw }) = λ i. record { id = id_is i; items = item x ∷ items_are i; raw = sym open_is i } in
      subst (λ (k : WrittenSection). IsSection k (made (x ∷ xs))) section_is (form (x ∷ xs) (fits, subst (AllByRecursion FitsItem) (sym items_are) fit))

shut : {P : Type 0} → false ≡ true → P
shut e = absurd cc

unshared : (id k : ℕ) → id ≡ k → is_shared k ≡ true → is_shared id ≡ true
unshared id k e shared = subst (λ n. is_shared n ≡ true) (sym e) shared

one_more : (item : ItemTree) (g : WrittenSection) (s : Section) → IsSection g s → Joins item g → FitsItem item → (t : Section) × IsSection (record { id = g.id; items = item ∷ g.items; raw = g.raw }) t
one_more item g (Named name bytes) h j fits = shut (unshared 0 g.id h.id j.shared)
one_more item g (CoreModules bytes) h j fits = shut (unshared 1 g.id h.id j.shared)
one_more item g (Nested bytes inner) h j fits = shut (unshared 4 g.id h.id j.shared)
one_more (CoreMade x) g (CoreInstances xs) h j fits = (CoreInstances (x ∷ xs), grown CoreMade 2 CoreInstances of_core_instances g x xs h.items h.id j.open_is (h.fit j.open_is) fits)
one_more (CoreTy x) g (CoreTypes xs) h j fits = (CoreTypes (x ∷ xs), grown CoreTy 3 CoreTypes of_core_types g x xs h.items h.id j.open_is (h.fit j.open_is) fits)
one_more (Instance x) g (Instances xs) h j fits = (Instances (x ∷ xs), grown Instance 5 Instances of_instances g x xs h.items h.id j.open_is (h.fit j.open_is) fits)
one_more (Aliased x) g (Aliases xs) h j fits = (Aliases (x ∷ xs), grown Aliased 6 Aliases of_aliases g x xs h.items h.id j.open_is (h.fit j.open_is) fits)
one_more (Ty x) g (Types xs) h j fits = (Types (x ∷ xs), grown Ty 7 Types of_types g x xs h.items h.id j.open_is (h.fit j.open_is) fits)
one_more (Canonical x) g (Canons xs) h j fits = (Canons (x ∷ xs), grown Canonical 8 Canons of_canons g x xs h.items h.id j.open_is (h.fit j.open_is) fits)
one_more (Import x) g (Imports xs) h j fits = (Imports (x ∷ xs), grown Import 10 Imports of_imports g x xs h.items h.id j.open_is (h.fit j.open_is) fits)
one_more (Export x) g (Exports xs) h j fits = (Exports (x ∷ xs), grown Export 11 Exports of_exports g x xs h.items h.id j.open_is (h.fit j.open_is) fits)
one_more item g (CoreInstances xs) h j fits = absurd (omega (arith, h.id, j.same))
one_more item g (CoreTypes xs) h j fits = absurd (omega (arith, h.id, j.same))
one_more item g (Instances xs) h j fits = absurd (omega (arith, h.id, j.same))
one_more item g (Aliases xs) h j fits = absurd (omega (arith, h.id, j.same))
one_more item g (Types xs) h j fits = absurd (omega (arith, h.id, j.same))
one_more item g (Canons xs) h j fits = absurd (omega (arith, h.id, j.same))
one_more item g (Imports xs) h j fits = absurd (omega (arith, h.id, j.same))
one_more item g (Exports xs) h j fits = absurd (omega (arith, h.id, j.same))

-- ---- the sections of what was added

-- an item that fits, or the content of a section
abbrev pub FitsEntry : Entry → Type 0
FitsEntry (Single item) = FitsItem item
FitsEntry (GivenSection id content items) = IsContentOf items id content

-- each group is a section
abbrev AreSections : List WrittenSection → Type 0
AreSections [] = Unit {0}
AreSections (g ∷ gs) = ((s : Section) × IsSection g s) × AreSections gs

joined_sections : (item : ItemTree) (gs : List WrittenSection) → FitsItem item → AreSections gs → AreSections (joined item gs)
joined_sections item [] fits h = (alone_is item fits, tt)
joined_sections item (g ∷ gs) fits h =
    elim (cases_Bool (joins item g)) [
      | inl is ↦
          subst (λ (t : Bool). AreSections (cond t (record { id = g.id; items = item ∷ g.items; raw = g.raw } ∷ gs) (alone item ∷ g ∷ gs))) (sym is) (one_more item g h.0.0 h.0.1 (joins_is item g is) fits, h.1)
      | inr apart ↦ subst (λ (t : Bool). AreSections (cond t (record { id = g.id; items = item ∷ g.items; raw = g.raw } ∷ gs) (alone item ∷ g ∷ gs))) (sym apart) (alone_is item fits, h)
    ]

sections_sections : (entries : List Entry) → AllByRecursion FitsEntry entries → AreSections (sections_of entries)
sections_sections [] fit = tt
sections_sections (Single item ∷ entries) fit = joined_sections item (sections_of entries) fit.0 (sections_sections entries fit.1)
sections_sections (GivenSection id content items ∷ entries) fit =
    let is = fit.0 in
    ((is.section, record { items = is.items_are; id = is.id_is; form = λ _. is.form; fit = λ e. absurd (raw_is e) }), sections_sections entries fit.1)
  where
    raw_is : Some content ≡ None → ⊥
    raw_is e = cc

joined_items : (item : ItemTree) (gs : List WrittenSection) → flat_map (λ g. g.items) (joined item gs) ≡ item ∷ flat_map (λ g. g.items) gs
joined_items item [] = refl
joined_items item (g ∷ gs) =
    elim (joins item g) as (λ (t : Bool). flat_map (λ k. k.items) (cond t (record { id = g.id; items = item ∷ g.items; raw = g.raw } ∷ gs) (alone item ∷ g ∷ gs)) ≡ item ∷ flat_map (λ k. k.items) (g ∷ gs)) [
      | true ↦ refl
      | false ↦ refl
    ]

-- the sections hold the items in order
sections_items : (entries : List Entry) → flat_map (λ g. g.items) (sections_of entries) ≡ items_of entries
sections_items [] = refl
sections_items (Single item ∷ entries) = joined_items item (sections_of entries) ∙ ap (λ (l : List ItemTree). item ∷ l) (sections_items entries)
sections_items (GivenSection id content items ∷ entries) = ap (λ (l : List ItemTree). items ++ l) (sections_items entries)

-- sections, written one behind the other
sections_written : (gs : List WrittenSection) → AreSections gs → AllByRecursion IsShort gs → (ss : Sections) × (flat_map (λ g. g.items) gs ≡ items_in ss) × SectionsForm ss (flat_map section_text gs)
sections_written [] h short = (none, refl, refl)
sections_written (g ∷ gs) h short =
    let s = h.0.0 in
    let is = h.0.1 in
    let others = sections_written gs h.1 short.1 in
    let content = content_text g in
    let rest = flat_map section_text gs in
    let framed : Framed (section_id s) content (section_text g ++ rest) rest = record {
      counted = number_text (length content) ++ (content ++ rest);
      is_id = ap (λ n. n ∷ ((number_text (length content) ++ content) ++ rest)) (sym is.id) ∙ ap (λ (t : List ℕ). section_id s ∷ t) (append_assoc (number_text (length content)) content rest);
      after = content ++ rest;
      count = number_written (length content) (content ++ rest) short.0.bytes;
      is_there = refl;
    } in (
      more s others.0,
      ap (λ (items : List ItemTree). items ++ flat_map (λ k. k.items) gs) (sym is.items) ∙ ap (λ (items : List ItemTree). section_items s ++ items) others.1,
      (content, rest, framed, is.form short.0.count, others.2),
    )

-- the bytes that are written read as the items
pub written_reads : (entries : List Entry) → AllByRecursion FitsEntry entries → AllByRecursion IsShort (sections_of entries) → Reads (component_text entries) (items_of entries)
written_reads entries fit short =
    let all = sections_written (sections_of entries) (sections_sections entries fit) short in
    (all.0, sym (sections_items entries) ∙ all.1, (flat_map section_text (sections_of entries), refl, all.2))

-- a section's items can be counted
pub items_counted : (s : Section) (content : List ℕ) → ContentForm s content → length (section_items s) < 2 ^ 32
items_counted (Named name bytes) content h = omega arith
items_counted (CoreModules bytes) content h = omega arith
items_counted (CoreInstances xs) content h = rw (length-map xs CoreMade) h.1.fits
items_counted (CoreTypes xs) content h = rw (length-map xs CoreTy) h.1.fits
items_counted (Nested bytes inner) content h = omega arith
items_counted (Instances xs) content h = rw (length-map xs Instance) h.1.fits
items_counted (Aliases xs) content h = rw (length-map xs Aliased) h.1.fits
items_counted (Types xs) content h = rw (length-map xs Ty) h.1.fits
items_counted (Canons xs) content h = rw (length-map xs Canonical) h.1.fits
items_counted (Imports xs) content h = rw (length-map xs Import) h.1.fits
items_counted (Exports xs) content h = rw (length-map xs Export) h.1.fits
