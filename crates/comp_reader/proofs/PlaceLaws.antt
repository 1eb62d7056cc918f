-- Where items stand: what is looked up is where an item stands, and each item stands somewhere.
use Rattle.std.proofs.Common.{◌≡◌, ℕ, ◌-◌, ◌+◌, ◌<◌, ◌≤◌, true, false, List, [], ◌∷◌, ◌++◌, length, drop, map, Result, Ok, refl, sym, ap, subst, ◌∙◌, arith, inl, inr}
use Rattle.std.specs.List.{flat_map}
use Rattle.std.proofs.lemmas.Bool.{cases_lt}
use Rattle.std.proofs.lemmas.List.{length-append, length-map, drop_at}
use Rattle.std.proofs.lemmas.List.Concat.{flat_map-cons}
use Rattle.warg_values.specs.Reading.{◌>>=◌}
use Rattle.warg_values.specs.ReadingLaws.{ok_is, never}
use Rattle.comp_format.specs.Fault.{Fault, Form, NotCarried, TooDeep}
use Rattle.comp_format.specs.Numbers.{FormOf, number_at}
use Rattle.comp_format.specs.Vectors.{Many}
use Rattle.comp_format.specs.CoreTypes.{CoreForm, core_at}
use Rattle.comp_format.specs.Definitions.{DefForm, definition_at}
use Rattle.comp_format.specs.Canons.{CanonForm, canon_at}
use Rattle.comp_format.specs.Parts.{CoreInstanceForm, InstanceForm, AliasForm, core_instance_at, instance_at, alias_at}
use Rattle.comp_format.specs.Items.{ItemTree, CoreMade, CoreTy, Instance, Aliased, Ty, Canonical, Import, Export, ImportForm, ExportForm, import_at, export_at}
use Rattle.comp_format.specs.Sections.{Section, Named, CoreModules, CoreInstances, CoreTypes, Nested, Instances, Aliases, Types, Canons, Imports, Exports, Sections, none, more, Framed, Whole, ContentForm, SectionsForm, Reads, header, section_id, section_items, items_in, frame_at}
use Rattle.comp_format.specs.NumberLaws.{number_again}
use Rattle.comp_format.specs.CanonLaws.{canon_again}
use Rattle.comp_format.specs.PartLaws.{core_instance_again, instance_again, alias_again}
use Rattle.comp_format.specs.ItemLaws.{import_again, export_again}
use Rattle.comp_format.specs.SectionLaws.{frame_again, framed_shorter}
use Rattle.comp_format.specs.DepthLaws.{Below, core_or_deep, definition_or_deep}
use Rattle.comp_format.specs.ScopeLaws.{UsesUp, core_used, definition_used, alias_used, instance_used, core_instance_used, canon_used, import_used, export_used}
use Rattle.comp_reader.specs.declared.refusal.Refusal.{Refusal}
use Rattle.comp_reader.specs.declared.refusal.Refusal.TheVariants as refusals
use Rattle.comp_reader.specs.declared.places.ItemPlace.{ItemPlace}
use Rattle.comp_reader.specs.Refusal.{Fails}
use Rattle.comp_reader.specs.Places.{SectionForm, InSection, ValueFirst, ItemFirst, StandsAt, is_one_item, count_at, behind_items_at, items_from_at}
use Rattle.comp_reader.proofs.ItemLaws.{deep_is_no_form, deep_is_carried}
use Rattle.comp_reader.proofs.ValueLaws.{complete_is, first_or_deep, value_is_there}

-- what is read but for depth is refused for want of memory alone
pub only_memory : {X : Type 0} (e : Refusal) (r : Result X Fault) (x : X) → Below r (Ok x) → Fails e r → e ≡ refusals.Memory
only_memory refusals.Memory r x h failed = refl
only_memory (refusals.Form at) r x (inl deep) failed = absurd (deep_is_no_form (sym deep ∙ failed))
only_memory (refusals.Form at) r x (inr is) failed = never Form x (sym failed ∙ is)
only_memory (refusals.NotCarried at) r x (inl deep) failed = absurd (deep_is_carried (sym deep ∙ failed))
only_memory (refusals.NotCarried at) r x (inr is) failed = never NotCarried x (sym failed ∙ is)

-- ---- how many items a section has

module _ {X : Type 0} (One : FormOf X) (item : X → ItemTree) where
  vector_count : (xs : List X) (content : List ℕ) → Whole One xs content → (number_at content >>= λ count. Ok count.0) ≡ Ok (length (map item xs))
  vector_count xs content h = rw (number_again (length xs) content h.0 h.1, length-map xs item) refl

section_count : (s : Section) (content : List ℕ) → ContentForm s content → count_at (section_id s) content ≡ Ok (length (section_items s))
unfolding count_at
section_count (Named name bytes) content h = refl
section_count (CoreModules bytes) content h = refl
section_count (CoreInstances items) content h = vector_count CoreInstanceForm CoreMade items content h
section_count (CoreTypes items) content h = vector_count CoreForm CoreTy items content h
section_count (Nested bytes inner) content h = refl
section_count (Instances items) content h = vector_count InstanceForm Instance items content h
section_count (Aliases items) content h = vector_count AliasForm Aliased items content h
section_count (Types items) content h = vector_count DefForm Ty items content h
section_count (Canons items) content h = vector_count CanonForm Canonical items content h
section_count (Imports items) content h = vector_count ImportForm Import items content h
section_count (Exports items) content h = vector_count ExportForm Export items content h

-- ---- a section's item

-- an item that is no part of a vector stands where its section does
pub one_item_first : (s : Section) (number : ℕ) (section content behind item : List ℕ) → is_one_item (section_id s) ≡ true → ItemFirst s number section content behind item → item ≡ section
one_item_first (Named name bytes) number section content behind item one h = h
one_item_first (CoreModules bytes) number section content behind item one h = h
one_item_first (CoreInstances items) number section content behind item one h = absurd cc
one_item_first (CoreTypes items) number section content behind item one h = absurd cc
one_item_first (Nested bytes inner) number section content behind item one h = h
one_item_first (Instances items) number section content behind item one h = absurd cc
one_item_first (Aliases items) number section content behind item one h = absurd cc
one_item_first (Types items) number section content behind item one h = absurd cc
one_item_first (Canons items) number section content behind item one h = absurd cc
one_item_first (Imports items) number section content behind item one h = absurd cc
one_item_first (Exports items) number section content behind item one h = absurd cc

-- any other item's bytes are read, or items in front of it are too deep
module _ (number : ℕ) (section content behind item : List ℕ) where
  abbrev pub IsLookedUp : Section → Type 0
  IsLookedUp s = (values : List ℕ) × Below (items_from_at 200 (section_id s) number content) (Ok values) × (item ≡ values ++ behind)

  pub item_first : (s : Section) → is_one_item (section_id s) ≡ false → number < length (section_items s) → ItemFirst s number section content behind item → IsLookedUp s
  unfolding items_from_at behind_items_at
  item_first (Named name bytes) one lt h = absurd cc
  item_first (CoreModules bytes) one lt h = absurd cc
  item_first (CoreInstances items) one lt h =
      first_or_deep core_instance_at CoreInstanceForm (complete_is core_instance_at CoreInstanceForm core_instance_again) items number content behind item (omega (arith, lt, length-map items CoreMade)) h
  item_first (CoreTypes items) one lt h = first_or_deep (core_at 200) CoreForm (λ t bytes rest form. core_or_deep t 200 bytes rest form) items number content behind item (omega (arith, lt, length-map items CoreTy)) h
  item_first (Nested bytes inner) one lt h = absurd cc
  item_first (Instances items) one lt h = first_or_deep instance_at InstanceForm (complete_is instance_at InstanceForm instance_again) items number content behind item (omega (arith, lt, length-map items Instance)) h
  item_first (Aliases items) one lt h = first_or_deep alias_at AliasForm (complete_is alias_at AliasForm alias_again) items number content behind item (omega (arith, lt, length-map items Aliased)) h
  item_first (Types items) one lt h = first_or_deep (definition_at 200) DefForm (λ t bytes rest form. definition_or_deep t 200 bytes rest form) items number content behind item (omega (arith, lt, length-map items Ty)) h
  item_first (Canons items) one lt h = first_or_deep canon_at CanonForm (complete_is canon_at CanonForm canon_again) items number content behind item (omega (arith, lt, length-map items Canonical)) h
  item_first (Imports items) one lt h = first_or_deep import_at ImportForm (complete_is import_at ImportForm import_again) items number content behind item (omega (arith, lt, length-map items Import)) h
  item_first (Exports items) one lt h = first_or_deep export_at ExportForm (complete_is export_at ExportForm export_again) items number content behind item (omega (arith, lt, length-map items Export)) h

-- the frame of a section, as it is read
pub same_frame : (id : ℕ) (content bytes behind : List ℕ) → Framed id content bytes behind → (read : ℕ) (inside after : List ℕ) → frame_at bytes ≡ Ok ((read, inside), after)
    → (read ≡ id) × (inside ≡ content) × (after ≡ behind)
same_frame id content bytes behind h read inside after e =
    let found : (ℕ × List ℕ) × List ℕ = ((read, inside), after) in
    let made : (ℕ × List ℕ) × List ℕ = ((id, content), behind) in
    let is : found ≡ made = ok_is found made (sym e ∙ frame_again id content bytes behind h) in
    (ap (λ (f : (ℕ × List ℕ) × List ℕ). f.0.0) is, ap (λ (f : (ℕ × List ℕ) × List ℕ). f.0.1) is, ap (λ (f : (ℕ × List ℕ) × List ℕ). f.1) is)

-- what is looked up in a section
module _ (s : Section) (number : ℕ) (section content behind item : List ℕ) (lt : number < length (section_items s)) (framed : Framed (section_id s) content section behind) (first : ItemFirst s number section content behind item) where
  module _ (id : ℕ) (inside after : List ℕ) (e : frame_at section ≡ Ok ((id, inside), after)) where
    pub at_section : is_one_item id ≡ true → item ≡ section
    at_section one =
        let same = same_frame (section_id s) content section behind framed id inside after e in
        one_item_first s number section content behind item (ap is_one_item (sym same.0) ∙ one) first

    looked_up : is_one_item id ≡ false → (values : List ℕ) × Below (items_from_at 200 id number inside) (Ok values) × (item ≡ values ++ after)
    looked_up many =
        let same = same_frame (section_id s) content section behind framed id inside after e in
        let found = item_first number section content behind item s (ap is_one_item (sym same.0) ∙ many) lt first in
        rw (same.0, same.1, same.2) found

    pub left_behind : is_one_item id ≡ false → (items : List ℕ) → items_from_at 200 id number inside ≡ Ok items → length item ≡ length items + length after
    left_behind many items read =
        let found = looked_up many in
        elim found.1 [
          | inl deep ↦ never TooDeep items (sym deep ∙ read)
          | inr is ↦ ap length found.2 ∙ length-append found.0 after ∙ ap (λ (l : List ℕ). length l + length after) (ok_is found.0 items (sym is ∙ read))
        ]

    pub not_looked_up : (e : Refusal) → is_one_item id ≡ false → Fails e (items_from_at 200 id number inside) → e ≡ refusals.Memory
    not_looked_up e many failed = let found = looked_up many in only_memory e (items_from_at 200 id number inside) found.0 found.1 failed

-- ---- sections

-- the section at the front, as it is read
pub front_section : (s : Section) (rest after : List ℕ) → SectionForm s rest after → (id : ℕ) (content behind : List ℕ) → frame_at rest ≡ Ok ((id, content), behind)
    → (count : ℕ) → count_at id content ≡ Ok count → (behind ≡ after) × (count ≡ length (section_items s))
front_section s rest after h id content behind framed count counted =
    let same = same_frame (section_id s) h.0 rest after h.1 id content behind framed in
    (same.2, ok_is count (length (section_items s)) (sym counted ∙ rw (same.0, same.1) (section_count s h.0 h.2)))

-- a section that is there is framed, and its items are counted
pub framed_there : (e : Refusal) (id : ℕ) (content bytes behind : List ℕ) → Framed id content bytes behind → Fails e (frame_at bytes) → e ≡ refusals.Memory
framed_there e id content bytes behind h failed = only_memory e (frame_at bytes) ((id, content), behind) (inr (frame_again id content bytes behind h)) failed

pub counted_there : (e : Refusal) (s : Section) (rest after : List ℕ) → SectionForm s rest after → (id : ℕ) (content behind : List ℕ) → frame_at rest ≡ Ok ((id, content), behind) → Fails e (count_at id content) → e ≡ refusals.Memory
counted_there e s rest after h id content behind framed failed =
    let same = same_frame (section_id s) h.0 rest after h.1 id content behind framed in
    only_memory e (count_at id content) (length (section_items s)) (inr (rw (same.0, same.1) (section_count s h.0 h.2))) failed

-- the first section that is left, where none of the items is looked for
pub record PastFirst (left : ℕ) (rest : List ℕ) : Type 0 where
  pub first : Section
  pub after : List ℕ
  pub form : SectionForm first rest after
  pub is_passed : length (section_items first) ≤ left
  pub others : Sections
  pub others_form : SectionsForm others after
  pub fewer : length (items_in others) ≤ left - length (section_items first)

-- the first section that is left, while the one of an item is looked for
pub record OnTheWay (left : ℕ) (rest : List ℕ) (this : Section) (within : ℕ) (section : List ℕ) : Type 0 where
  pub first : Section
  pub after : List ℕ
  pub form : SectionForm first rest after
  pub is_found : left < length (section_items first) → (left ≡ within) × (rest ≡ section)
  pub is_later : length (section_items first) ≤ left → InSection (left - length (section_items first)) after this within section

on_the_way : (before : List Section) (left : ℕ) (rest : List ℕ) (this : Section) (within : ℕ) (section behind : List ℕ) → Many SectionForm before rest section
    → left ≡ length (flat_map section_items before) + within → within < length (section_items this) → SectionForm this section behind → OnTheWay left rest this within section
on_the_way [] left rest this within section behind in_front numbered there form = record {
  first = this;
  after = behind;
  form = subst (λ (bytes : List ℕ). SectionForm this bytes behind) (sym in_front) form;
  is_found = λ lt. (omega (arith, numbered), in_front);
  is_later = λ le. absurd (omega (arith, le, numbered, there));
}
on_the_way (s ∷ before) left rest this within section behind in_front numbered there form =
    let count : length (flat_map section_items (s ∷ before)) ≡ length (section_items s) + length (flat_map section_items before) =
    ap length (flat_map-cons section_items s before) ∙ length-append (section_items s) (flat_map section_items before) in
    record {
      first = s;
      after = in_front.0;
      form = in_front.1;
      is_found = λ lt. absurd (omega (arith, lt, numbered, count));
      is_later = λ le. record { before = before; in_front = in_front.2; numbered = omega (arith, le, numbered, count); is_there = there };
    }

-- the first section that is left has fewer items than are passed, and so have those behind it
past : (ss : Sections) (left : ℕ) (rest : List ℕ) → SectionsForm ss rest → length (items_in ss) ≤ left → 0 < length rest → PastFirst left rest
past none left rest form fewer some = absurd (omega (arith, some, ap length form))
past (more s ss) left rest form fewer some =
    let count : length (section_items s) + length (items_in ss) ≤ left = omega (arith, fewer, length-append (section_items s) (items_in ss)) in
    record { first = s; after = form.1; form = (form.0, form.2, form.3); is_passed = omega (arith, count); others = ss; others_form = form.4; fewer = omega (arith, count) }

-- What holds while a section is looked for.
pub record IsUnderWay (number : ℕ) (sections : List ℕ) (left : ℕ) (rest : List ℕ) : Type 0 where
  pub found : (this : Section) (within : ℕ) (section behind : List ℕ) → InSection number sections this within section → SectionForm this section behind → InSection left rest this within section
  pub past_all : (ss : Sections) → SectionsForm ss sections → length (items_in ss) ≤ number → (others : Sections) × SectionsForm others rest × (length (items_in others) ≤ left)

pub begins : (number : ℕ) (sections : List ℕ) → IsUnderWay number sections number sections
begins number sections = record { found = λ this within section behind h form. h; past_all = λ ss form fewer. (ss, form, fewer) }

module _ (number : ℕ) (sections : List ℕ) (left : ℕ) (rest : List ℕ) (h : IsUnderWay number sections left rest) where
  -- the section at the front, where that of an item is looked for, and where there is none
  module _ (this : Section) (within : ℕ) (section behind : List ℕ) (there : InSection number sections this within section) (form : SectionForm this section behind) where
    pub on_it : OnTheWay left rest this within section
    on_it = let k = h.found this within section behind there form in on_the_way k.before left rest this within section behind k.in_front k.numbered k.is_there form

  pub past_it : (ss : Sections) → SectionsForm ss sections → length (items_in ss) ≤ number → 0 < length rest → PastFirst left rest
  past_it ss form fewer some = let k = h.past_all ss form fewer in past k.0 left rest k.1 k.2 some

  pub goes_on : (id : ℕ) (content after : List ℕ) (count : ℕ) → 0 < length rest → frame_at rest ≡ Ok ((id, content), after) → count_at id content ≡ Ok count → count ≤ left → IsUnderWay number sections (left - count) after
  goes_on id content after count some framed counted le = record {
    found = λ this within section behind there form.
        let w = on_it this within section behind there form in
        let front = front_section w.first rest w.after w.form id content after framed count counted in
        subst (λ (bytes : List ℕ). InSection (left - count) bytes this within section) (sym front.0)
        (subst (λ (n : ℕ). InSection (left - n) w.after this within section) (sym front.1) (w.is_later (omega (arith, front.1, le))));
    past_all = λ ss form fewer.
        let w = past_it ss form fewer some in
        let front = front_section w.first rest w.after w.form id content after framed count counted in
        (w.others, subst (λ (bytes : List ℕ). SectionsForm w.others bytes) (sym front.0) w.others_form, omega (arith, front.1, w.fewer));
  }

  pub not_ended : (this : Section) (within : ℕ) (section behind : List ℕ) → InSection number sections this within section → SectionForm this section behind → length rest ≡ 0 → ⊥
  not_ended this within section behind there form nothing =
      let w = on_it this within section behind there form in
      omega (arith, nothing, framed_shorter (section_id w.first) w.form.0 rest w.after w.form.1)

-- ---- each item stands somewhere

module _ (number : ℕ) (section content behind : List ℕ) (fits : length content + length behind ≤ length section) where
  from_value : {X : Type 0} (One : FormOf X) → ((x : X) → UsesUp (One x)) → (xs : List X) → Whole One xs content → (item : List ℕ) × ValueFirst One xs number content behind item × (length item ≤ length section)
  from_value One used xs h =
      let found = value_is_there One used xs number content behind h in
      (found.0, found.1, omega (arith, fits, found.2))

  item_is_there : (s : Section) → ContentForm s content → (item : List ℕ) × ItemFirst s number section content behind item × (length item ≤ length section)
  item_is_there (Named name bytes) h = (section, refl, omega arith)
  item_is_there (CoreModules bytes) h = (section, refl, omega arith)
  item_is_there (CoreInstances items) h = from_value CoreInstanceForm core_instance_used items h
  item_is_there (CoreTypes items) h = from_value CoreForm core_used items h
  item_is_there (Nested bytes inner) h = (section, refl, omega arith)
  item_is_there (Instances items) h = from_value InstanceForm instance_used items h
  item_is_there (Aliases items) h = from_value AliasForm alias_used items h
  item_is_there (Types items) h = from_value DefForm definition_used items h
  item_is_there (Canons items) h = from_value CanonForm canon_used items h
  item_is_there (Imports items) h = from_value ImportForm import_used items h
  item_is_there (Exports items) h = from_value ExportForm export_used items h

-- the section of an item, and what is left from the item on
record Standing (number : ℕ) (sections : List ℕ) : Type 0 where
  pub this : Section
  pub within : ℕ
  pub section : List ℕ
  pub content : List ℕ
  pub behind : List ℕ
  pub item : List ℕ
  pub in_section : InSection number sections this within section
  pub framed : Framed (section_id this) content section behind
  pub of_content : ContentForm this content
  pub others : (ss : Sections) × SectionsForm ss behind
  pub item_first : ItemFirst this within section content behind item
  pub section_shorter : length section ≤ length sections
  pub item_shorter : length item ≤ length sections

standing : (ss : Sections) (number : ℕ) (sections : List ℕ) → SectionsForm ss sections → number < length (items_in ss) → Standing number sections
standing none number sections h lt = absurd (omega (arith, lt))
standing (more s ss) number sections h lt =
    let shorter : length h.0 + length h.1 < length sections = framed_shorter (section_id s) h.0 sections h.1 h.2 in
    let count : length (items_in (more s ss)) ≡ length (section_items s) + length (items_in ss) = length-append (section_items s) (items_in ss) in
    elim (cases_lt number (length (section_items s))) [
      | inl here ↦
          let found = item_is_there number sections h.0 h.1 (omega (arith, shorter)) s h.3 in
          record {
            this = s;
            within = number;
            section = sections;
            content = h.0;
            behind = h.1;
            item = found.0;
            in_section = record { before = []; in_front = refl; numbered = omega arith; is_there = here };
            framed = h.2;
            of_content = h.3;
            others = (ss, h.4);
            item_first = found.1;
            section_shorter = omega arith;
            item_shorter = found.2;
          }
      | inr later ↦
          let found = standing ss (number - length (section_items s)) h.1 h.4 (omega (arith, lt, count, later)) in
          let passed : length (flat_map section_items (s ∷ found.in_section.before)) ≡ length (section_items s) + length (flat_map section_items found.in_section.before) =
          ap length (flat_map-cons section_items s found.in_section.before) ∙ length-append (section_items s) (flat_map section_items found.in_section.before) in
          record {
            this = found.this;
            within = found.within;
            section = found.section;
            content = found.content;
            behind = found.behind;
            item = found.item;
            in_section = record { before = s ∷ found.in_section.before; in_front = (h.1, (h.0, h.2, h.3), found.in_section.in_front); numbered = omega (arith, later, passed, found.in_section.numbered); is_there = found.in_section.is_there };
            framed = found.framed;
            of_content = found.of_content;
            others = found.others;
            item_first = found.item_first;
            section_shorter = omega (arith, shorter, found.section_shorter);
            item_shorter = omega (arith, shorter, found.item_shorter);
          }
    ]

-- an item stands there
pub stands : (bytes : List ℕ) (items : List ItemTree) (number : ℕ) → Reads bytes items → number < length items → (place : ItemPlace) × StandsAt number bytes place
stands bytes items number reads lt =
    let sections : List ℕ = reads.2.0 in
    let found = standing reads.0 number sections reads.2.2 (omega (arith, lt, ap length reads.1)) in
    let whole : length bytes ≡ length header + length sections = ap length reads.2.1 ∙ length-append header sections in
    let place : ItemPlace = record { section = length bytes - length found.section; item = length bytes - length found.item } in (
      place,
      record {
        this = found.this;
        within = found.within;
        sections = sections;
        section = found.section;
        content = found.content;
        behind = found.behind;
        item = found.item;
        headed = reads.2.1;
        in_section = found.in_section;
        framed = found.framed;
        of_content = found.of_content;
        others = found.others;
        item_first = found.item_first;
        section_place = omega (arith, whole, found.section_shorter);
        item_place = omega (arith, whole, found.item_shorter);
      },
    )

-- what stands behind the header
pub behind_header : (bytes after sections : List ℕ) → bytes ≡ header ++ after → sections ≡ drop 8 bytes → after ≡ sections
behind_header bytes after sections headed dropped = sym (dropped ∙ ap (drop 8) headed ∙ drop_at header after 8 refl)
