-- Sections and components: what is read is a form, each form is read so, and no bytes have two readings.
use Rattle.std.proofs.Common.{◌≡◌, ℕ, zero, suc, ◌+◌, ◌<◌, ◌≤◌, Bool, true, cond, eqb, List, [], ◌∷◌, ◌++◌, length, take, drop, Result, Ok, Err, refl, sym, ap, subst, ◌∙◌, arith, length-append}
use Rattle.std.specs.Prelude.{nat_eq}
use Rattle.std.specs.List.{starts_with, AllByRecursion}
use Rattle.std.proofs.lemmas.Bool.{eqb-true}
use Rattle.std.proofs.lemmas.List.{nil_from_length, take-append-drop, take_at, drop_at}
use Rattle.std.proofs.lemmas.Slice.Eq.{bytes_eq-Decides}
use Rattle.warg_values.specs.ReadingLaws.{bind_ok, ok_is, never, wanted_ok, pick}
use Rattle.warg_values.specs.Reading.{◌>>=◌}
use Rattle.comp_format.specs.Fault.{Fault, Form}
use Rattle.comp_format.specs.Numbers.{FormOf, Number, number_at}
use Rattle.comp_format.specs.Vectors.{ReaderOf, Many, Vector, many_at, vector_at, front_at, any_name_at}
use Rattle.comp_format.specs.CoreTypes.{CoreTree, CoreForm, core_at}
use Rattle.comp_format.specs.Definitions.{TypeTree, DefForm, definition_at}
use Rattle.comp_format.specs.Canons.{CanonForm, canon_at}
use Rattle.comp_format.specs.Parts.{CoreInstanceForm, InstanceForm, AliasForm, core_instance_at, instance_at, alias_at}
use Rattle.comp_format.specs.Items.{ItemTree, ImportForm, ExportForm, import_at, export_at}
use Rattle.comp_format.specs.Sections.{Section, Named, CoreModules, CoreInstances, CoreTypes, Nested, Instances, Aliases, Types, Canons, Imports, Exports, Sections, none, more, Framed, Whole, Behind, Headed, ContentForm, SectionsForm, ComponentForm, Reads, header, core_header, section_id, items_in, whole_at, behind_at, headed_at, frame_at, section_at, carried_id, content_with, sections_at, component_at, content_at}
use Rattle.comp_format.specs.NumberLaws.{number_form, number_again, leb_shorter}
use Rattle.comp_format.specs.VectorLaws.{IsSound, IsComplete, vector_form, vector_again, front_form, front_again, any_name_form, any_name_again}
use Rattle.comp_format.specs.CoreTypeLaws.{core_form, core_again, core_scopes}
use Rattle.comp_format.specs.DefinitionLaws.{definition_form, definition_again, type_scopes}
use Rattle.comp_format.specs.CanonLaws.{canon_form, canon_again}
use Rattle.comp_format.specs.PartLaws.{core_instance_form, core_instance_again, instance_form, instance_again, alias_form, alias_again}
use Rattle.comp_format.specs.ItemLaws.{import_form, import_again, export_form, export_again}

module _ {X : Type 0} (one : ReaderOf X) (One : FormOf X) where
  pub whole_form : IsSound one One → (content : List ℕ) (xs : List X) → whole_at one content ≡ Ok xs → Whole One xs content
  unfolding whole_at
  whole_form sound content xs e =
      let all = bind_ok (vector_at one content) _ xs e in
      let ended = wanted_ok (eqb (length all.0.1) 0) Form (Ok all.0.0) xs all.2 in
      let nothing : all.0.1 ≡ [] = nil_from_length all.0.1 (eqb-true _ _ ended.0) in
      subst (λ (ys : List X). Whole One ys content) (ok_is all.0.0 xs ended.1)
      (subst (λ (rest : List ℕ). Vector One all.0.0 content rest) nothing (vector_form one One sound content all.0 all.1))

  pub whole_again : IsComplete one One → (xs : List X) (content : List ℕ) → Whole One xs content → whole_at one content ≡ Ok xs
  unfolding whole_at
  whole_again complete xs content h = rw (vector_again one One complete xs content [] h) refl

  -- where only some values are known to be read
  module _ (Within : X → Type 0) (complete : (x : X) (bytes rest : List ℕ) → Within x → One x bytes rest → one bytes ≡ Ok (x, rest)) where
    many_within : (xs : List X) (bytes rest : List ℕ) → AllByRecursion Within xs → Many One xs bytes rest → many_at one (length xs) bytes ≡ Ok (xs, rest)
    unfolding many_at
    many_within [] bytes rest within h = ap (λ (r : List ℕ). Ok ([], r)) h
    many_within (x ∷ xs) bytes rest within h = rw (complete x bytes h.0 within.0 h.1, many_within xs h.0 rest within.1 h.2) refl

    pub whole_within : (xs : List X) (content : List ℕ) → AllByRecursion Within xs → Whole One xs content → whole_at one content ≡ Ok xs
    unfolding whole_at vector_at
    whole_within xs content within h = rw (number_again (length xs) content h.0 h.1, many_within xs h.0 [] within h.2) refl

pub frame_form : (bytes : List ℕ) (f : (ℕ × List ℕ) × List ℕ) → frame_at bytes ≡ Ok f → Framed f.0.0 f.0.1 bytes f.1
unfolding frame_at
frame_form [] f e = absurd cc
frame_form (id ∷ bytes) f e =
    let count = bind_ok (number_at bytes) _ f e in
    let content = bind_ok (front_at count.0.0 count.0.1) _ f count.2 in
    let front = front_form count.0.0 count.0.1 content.0 content.1 in
    let made : (ℕ × List ℕ) × List ℕ = ((id, content.0.0), content.0.1) in
    subst (λ (g : (ℕ × List ℕ) × List ℕ). Framed g.0.0 g.0.1 (id ∷ bytes) g.1) (ok_is made f content.2) (record {
      counted = bytes;
      is_id = refl;
      after = count.0.1;
      count = subst (λ (n : ℕ). Number n bytes count.0.1) (sym front.1) (number_form bytes count.0 count.1);
      is_there = front.0;
    })

pub frame_again : (id : ℕ) (content bytes rest : List ℕ) → Framed id content bytes rest → frame_at bytes ≡ Ok ((id, content), rest)
unfolding frame_at
frame_again id content bytes rest h =
    rw (h.is_id, number_again (length content) h.counted h.after h.count, h.is_there, front_again content rest) refl

-- the section at the front has a carried id
pub section_framed : (bytes : List ℕ) (f : (ℕ × List ℕ) × List ℕ) → section_at bytes ≡ Ok f → frame_at bytes ≡ Ok f
unfolding section_at
section_framed [] f e = absurd cc
section_framed (id ∷ bytes) f e = let carried = bind_ok (carried_id id) _ f e in carried.2

is_carried : (s : Section) → carried_id (section_id s) ≡ Ok (section_id s)
unfolding carried_id
is_carried (Named name bytes) = refl
is_carried (CoreModules bytes) = refl
is_carried (CoreInstances items) = refl
is_carried (CoreTypes items) = refl
is_carried (Nested bytes inner) = refl
is_carried (Instances items) = refl
is_carried (Aliases items) = refl
is_carried (Types items) = refl
is_carried (Canons items) = refl
is_carried (Imports items) = refl
is_carried (Exports items) = refl

section_here : (s : Section) (content bytes rest : List ℕ) → Framed (section_id s) content bytes rest → section_at bytes ≡ Ok ((section_id s, content), rest)
unfolding section_at
section_here s content bytes rest h =
    ap section_at h.is_id
    ∙ ap (λ (r : Result ℕ Fault). r >>= λ carried. frame_at (section_id s ∷ h.counted)) (is_carried s)
    ∙ ap frame_at (sym h.is_id) ∙ frame_again (section_id s) content bytes rest h

-- ---- headers

head_split : (head bytes : List ℕ) → starts_with nat_eq bytes head ≡ true → bytes ≡ head ++ drop (length head) bytes
head_split head bytes e =
    let front : head ≡ take (length head) bytes = (bytes_eq-Decides head (take (length head) bytes)).0 e in
    sym (ap (λ (f : List ℕ). f ++ drop (length head) bytes) front ∙ take-append-drop (length head) bytes)

head_joined : (head after : List ℕ) → starts_with nat_eq (head ++ after) head ≡ true
head_joined head after = (bytes_eq-Decides head (take (length head) (head ++ after))).1 (sym (take_at head after (length head) refl))

module _ {X : Type 0} (head : List ℕ) (rest : List ℕ → Result X Fault) where
  behind_form : (Rest : X → List ℕ → Type 0) → ((bytes : List ℕ) (x : X) → rest bytes ≡ Ok x → Rest x bytes) → (bytes : List ℕ) (x : X) → behind_at head rest bytes ≡ Ok x → Behind head (Rest x) bytes
  unfolding behind_at
  behind_form Rest sound bytes x e =
      let front = wanted_ok (starts_with nat_eq bytes head) Form (rest (drop (length head) bytes)) x e in
      (drop (length head) bytes, head_split head bytes front.0, sound (drop (length head) bytes) x front.1)

  behind_again : (x : X) (after : List ℕ) → rest after ≡ Ok x → behind_at head rest (head ++ after) ≡ Ok x
  unfolding behind_at
  behind_again x after e =
      ap (λ (t : Bool). cond t (rest (drop (length head) (head ++ after))) (Err Form)) (head_joined head after) ∙ ap rest (drop_at head after (length head) refl) ∙ e

-- ---- sections

-- what a content's reading gives is a form of it, and of that id
Holds : ℕ → List ℕ → Section → Type 0
Holds id content s = (id ≡ section_id s) × ContentForm s content

-- what is read as a component is one
IsSoundComponent : (List ℕ → Result Sections Fault) → Type 0
IsSoundComponent component = (bytes : List ℕ) (ss : Sections) → component bytes ≡ Ok ss → ComponentForm ss bytes

content_form : (component : List ℕ → Result Sections Fault) (ty : ReaderOf TypeTree) (core : ReaderOf CoreTree) → IsSoundComponent component → IsSound ty DefForm → IsSound core CoreForm
    → (id : ℕ) (content : List ℕ) (s : Section) → content_with component ty core id content ≡ Ok s → Holds id content s
unfolding content_with Holds IsSoundComponent
content_form component ty core component_sound ty_sound core_sound id content s e =
    pick id 0 _ _ _ e (λ h k.
    let name = bind_ok (any_name_at content) _ s k in
    subst (Holds id content) (ok_is (Named name.0.0 name.0.1) s name.2) (h, any_name_form content name.0 name.1)) (λ e.
    pick id 1 _ _ _ e (λ h k.
    let IsCoreModule : Section → List ℕ → Type 0 = λ t after. CoreModules content ≡ t in
    let module_is = behind_form core_header (λ after. Ok (CoreModules content)) IsCoreModule (λ after t e. ok_is (CoreModules content) t e) content s k in
    subst (Holds id content) module_is.2 (h, (refl, (module_is.0, module_is.1, tt)))) (λ e.
    pick id 2 _ _ _ e (λ h k.
    let items = bind_ok (whole_at core_instance_at content) _ s k in
    subst (Holds id content) (ok_is (CoreInstances items.0) s items.2) (h, whole_form core_instance_at CoreInstanceForm core_instance_form content items.0 items.1)) (λ e.
    pick id 3 _ _ _ e (λ h k.
    let items = bind_ok (whole_at core content) _ s k in
    subst (Holds id content) (ok_is (CoreTypes items.0) s items.2) (h, whole_form core CoreForm core_sound content items.0 items.1)) (λ e.
    pick id 4 _ _ _ e (λ h k.
    let inner = bind_ok (component content) _ s k in
    subst (Holds id content) (ok_is (Nested content inner.0) s inner.2) (h, (refl, component_sound content inner.0 inner.1))) (λ e.
    pick id 5 _ _ _ e (λ h k.
    let items = bind_ok (whole_at instance_at content) _ s k in
    subst (Holds id content) (ok_is (Instances items.0) s items.2) (h, whole_form instance_at InstanceForm instance_form content items.0 items.1)) (λ e.
    pick id 6 _ _ _ e (λ h k.
    let items = bind_ok (whole_at alias_at content) _ s k in
    subst (Holds id content) (ok_is (Aliases items.0) s items.2) (h, whole_form alias_at AliasForm alias_form content items.0 items.1)) (λ e.
    pick id 7 _ _ _ e (λ h k.
    let items = bind_ok (whole_at ty content) _ s k in
    subst (Holds id content) (ok_is (Types items.0) s items.2) (h, whole_form ty DefForm ty_sound content items.0 items.1)) (λ e.
    pick id 8 _ _ _ e (λ h k.
    let items = bind_ok (whole_at canon_at content) _ s k in
    subst (Holds id content) (ok_is (Canons items.0) s items.2) (h, whole_form canon_at CanonForm canon_form content items.0 items.1)) (λ e.
    pick id 9 _ _ _ e (λ h k. never _ _ k) (λ e.
    pick id 10 _ _ _ e (λ h k.
    let items = bind_ok (whole_at import_at content) _ s k in
    subst (Holds id content) (ok_is (Imports items.0) s items.2) (h, whole_form import_at ImportForm import_form content items.0 items.1)) (λ e.
    pick id 11 _ _ _ e (λ h k.
    let items = bind_ok (whole_at export_at content) _ s k in
    subst (Holds id content) (ok_is (Exports items.0) s items.2) (h, whole_form export_at ExportForm export_form content items.0 items.1)) (λ e.
    pick id 12 _ _ _ e (λ h k. never _ _ k) (λ e. never _ _ e)))))))))))))

module _ (content : ℕ → List ℕ → Result Section Fault) (sound : (id : ℕ) (bytes : List ℕ) (s : Section) → content id bytes ≡ Ok s → Holds id bytes s) where
  sections_form : (most : ℕ) (bytes : List ℕ) (ss : Sections) → sections_at content most bytes ≡ Ok ss → SectionsForm ss bytes
  unfolding sections_at Holds
  sections_form most [] ss e = subst (λ (t : Sections). SectionsForm t []) (ok_is none ss e) refl
  sections_form zero (b ∷ bytes) ss e = absurd cc
  sections_form (suc most) (b ∷ bytes) ss e =
      let f = bind_ok (section_at (b ∷ bytes)) _ ss e in
      let s = bind_ok (content f.0.0.0 f.0.0.1) _ ss f.2 in
      let others = bind_ok (sections_at content most f.0.1) _ ss s.2 in
      let form = sound f.0.0.0 f.0.0.1 s.0 s.1 in
      subst (λ (t : Sections). SectionsForm t (b ∷ bytes)) (ok_is (more s.0 others.0) ss others.2)
      (f.0.0.1, f.0.1, subst (λ (id : ℕ). Framed id f.0.0.1 (b ∷ bytes) f.0.1) form.0 (frame_form (b ∷ bytes) f.0 (section_framed (b ∷ bytes) f.0 f.1)), form.1, sections_form most f.0.1 others.0 others.1)

pub component_form : (scopes : ℕ) (bytes : List ℕ) (ss : Sections) → component_at scopes bytes ≡ Ok ss → ComponentForm ss bytes
unfolding component_at headed_at IsSoundComponent
component_form zero bytes ss e = absurd cc
component_form (suc scopes) bytes ss e =
    let content = content_with (component_at scopes) (definition_at scopes) (core_at scopes) in
    let sound = content_form (component_at scopes) (definition_at scopes) (core_at scopes) (component_form scopes) (definition_form scopes) (core_form scopes) in
    behind_form header (λ after. sections_at content (length after) after) (λ t bytes. SectionsForm t bytes) (λ after t. sections_form content sound (length after) after t) bytes ss e

-- the content of a section, read with so many scopes
pub section_form : (scopes id : ℕ) (content : List ℕ) (s : Section) → content_at scopes id content ≡ Ok s → (id ≡ section_id s) × ContentForm s content
unfolding content_at Holds IsSoundComponent
section_form scopes = content_form (component_at scopes) (definition_at scopes) (core_at scopes) (component_form scopes) (definition_form scopes) (core_form scopes)

-- ---- complete

-- the sum of a measure over a list
abbrev pub total : {X : Type 0} → (X → ℕ) → List X → ℕ
total size [] = 0
total size (x ∷ xs) = size x + total size xs

within_total : {X : Type 0} (size : X → ℕ) (xs : List X) (n : ℕ) → total size xs ≤ n → AllByRecursion (λ (x : X). size x ≤ n) xs
within_total size [] n le = tt
within_total size (x ∷ xs) n le = (omega (arith, le), within_total size xs n (omega (arith, le)))

-- how many scopes are open in it, one behind the other, at most
abbrev mutual
  pub section_scopes : Section → ℕ
  section_scopes (Named name bytes) = 0
  section_scopes (CoreModules bytes) = 0
  section_scopes (CoreInstances items) = 0
  section_scopes (CoreTypes items) = total core_scopes items
  section_scopes (Nested bytes inner) = suc (sections_scopes inner)
  section_scopes (Instances items) = 0
  section_scopes (Aliases items) = 0
  section_scopes (Types items) = total type_scopes items
  section_scopes (Canons items) = 0
  section_scopes (Imports items) = 0
  section_scopes (Exports items) = 0

  pub sections_scopes : Sections → ℕ
  sections_scopes none = 0
  sections_scopes (more s ss) = section_scopes s + sections_scopes ss

-- a section's content and what stands behind it are shorter than the bytes
pub framed_shorter : (id : ℕ) (content bytes rest : List ℕ) → Framed id content bytes rest → length content + length rest < length bytes
framed_shorter id content bytes rest h =
    let counted : length h.after < length h.counted = leb_shorter 5 (length content) h.counted h.after h.count.form in
    omega (arith, ap length h.is_id, ap length h.is_there, length-append content rest, counted)

mutual
  unfolding content_at content_with sections_at component_at headed_at

  pub section_again : (s : Section) (scopes : ℕ) (content : List ℕ) → section_scopes s ≤ scopes → ContentForm s content → content_at scopes (section_id s) content ≡ Ok s
  section_again (Named name bytes) scopes content le h = rw (any_name_again name content bytes h) refl
  section_again (CoreModules bytes) scopes content le h =
      let front : Behind core_header (λ after. Unit {0}) content = h.1 in
      let made : Section = CoreModules content in
      ap (behind_at core_header (λ after. Ok made)) front.1 ∙ behind_again core_header (λ after. Ok made) made front.0 refl ∙ ap (λ (c : List ℕ). Ok (CoreModules c)) h.0
  section_again (CoreInstances items) scopes content le h = rw (whole_again core_instance_at CoreInstanceForm core_instance_again items content h) refl
  section_again (CoreTypes items) scopes content le h =
      rw (whole_within (core_at scopes) CoreForm (λ t. core_scopes t ≤ scopes) (λ t bytes rest within form. core_again t scopes bytes rest within form) items content (within_total core_scopes items scopes le) h) refl
  section_again (Nested bytes inner) zero content le h = absurd (omega (arith, le))
  section_again (Nested bytes inner) (suc scopes) content le h =
      let headed : Headed (SectionsForm inner) content = h.1 in
      let read = sections_again inner scopes (length headed.0) headed.0 (omega (arith, le)) (omega arith) headed.2 in
      let component : component_at (suc scopes) content ≡ Ok inner =
      ap (component_at (suc scopes)) headed.1 ∙ behind_again header (λ after. sections_at (content_at scopes) (length after) after) inner headed.0 read in
      rw component (ap (λ (c : List ℕ). Ok (Nested c inner)) h.0)
  section_again (Instances items) scopes content le h = rw (whole_again instance_at InstanceForm instance_again items content h) refl
  section_again (Aliases items) scopes content le h = rw (whole_again alias_at AliasForm alias_again items content h) refl
  section_again (Types items) scopes content le h =
      rw (whole_within (definition_at scopes) DefForm (λ t. type_scopes t ≤ scopes) (λ t bytes rest within form. definition_again t scopes bytes rest within form) items content (within_total type_scopes items scopes le) h) refl
  section_again (Canons items) scopes content le h = rw (whole_again canon_at CanonForm canon_again items content h) refl
  section_again (Imports items) scopes content le h = rw (whole_again import_at ImportForm import_again items content h) refl
  section_again (Exports items) scopes content le h = rw (whole_again export_at ExportForm export_again items content h) refl

  sections_again : (ss : Sections) (scopes most : ℕ) (bytes : List ℕ) → sections_scopes ss ≤ scopes → length bytes ≤ most → SectionsForm ss bytes → sections_at (content_at scopes) most bytes ≡ Ok ss
  sections_again none scopes most bytes within le h = ap (sections_at (content_at scopes) most) h
  sections_again (more s ss) scopes zero bytes within le h = absurd (omega (arith, le, framed_shorter (section_id s) h.0 bytes h.1 h.2))
  sections_again (more s ss) scopes (suc most) bytes within le h =
      let shorter = framed_shorter (section_id s) h.0 bytes h.1 h.2 in
      let rest_fits : length h.1 ≤ most = omega (arith, le, shorter) in
      let read : section_at (section_id s ∷ h.2.counted) ≡ Ok ((section_id s, h.0), h.1) = ap section_at (sym h.2.is_id) ∙ section_here s h.0 bytes h.1 h.2 in
      ap (sections_at (content_at scopes) (suc most)) h.2.is_id
      ∙ rw (read, section_again s scopes h.0 (omega (arith, within)) h.3, sections_again ss scopes most h.1 (omega (arith, within)) rest_fits h.4) refl

pub component_again : (ss : Sections) (scopes : ℕ) (bytes : List ℕ) → sections_scopes ss < scopes → ComponentForm ss bytes → component_at scopes bytes ≡ Ok ss
unfolding component_at headed_at content_at
component_again ss zero bytes lt h = absurd (omega (arith, lt))
component_again ss (suc scopes) bytes lt h =
    let read = sections_again ss scopes (length h.0) h.0 (omega (arith, lt)) (omega arith) h.2 in
    ap (component_at (suc scopes)) h.1 ∙ behind_again header (λ after. sections_at (content_at scopes) (length after) after) ss h.0 read

-- no bytes are the written form of two lists of items
pub reads_once : (bytes : List ℕ) (a b : List ItemTree) → Reads bytes a → Reads bytes b → a ≡ b
reads_once bytes a b h k =
    let scopes : ℕ = suc (sections_scopes h.0 + sections_scopes k.0) in
    let same : h.0 ≡ k.0 = ok_is h.0 k.0 (sym (component_again h.0 scopes bytes (omega arith) h.2) ∙ component_again k.0 scopes bytes (omega arith) k.2) in
    h.1 ∙ ap items_in same ∙ sym k.1
