-- Reading sections one after the other, as a loop does, and what a component's items are.
use Rattle.std.proofs.Common.{◌≡◌, ℕ, zero, suc, ◌-◌, ◌≤◌, ◌<◌, List, [], ◌∷◌, ◌++◌, length, take, drop, true, Result, Ok, Err, refl, sym, ap, subst, ◌∙◌, append_assoc, arith, inl, inr}
use Rattle.std.specs.Prelude.{nat_eq}
use Rattle.std.specs.List.{starts_with}
use Rattle.std.proofs.lemmas.List.{append-nil, take_all, length-drop}
use Rattle.warg_values.specs.Reading.{◌>>=◌}
use Rattle.warg_values.specs.ReadingLaws.{bind_ok, ok_is, never}
use Rattle.comp_format.specs.Fault.{Fault, Form, NotCarried, TooDeep}
use Rattle.comp_format.specs.Items.{ItemTree, Component}
use Rattle.comp_format.specs.CoreTypes.{core_at}
use Rattle.comp_format.specs.Definitions.{definition_at}
use Rattle.comp_format.specs.Sections.{Section, Nested, Sections, more, Reads, section_items, items_in, frame_at, section_at, behind_at, headed_at, header, content_with, content_at, sections_at, component_at}
use Rattle.comp_format.specs.SectionLaws.{frame_form, framed_shorter, component_form, section_framed}
use Rattle.comp_format.specs.DepthLaws.{component_within}
use Rattle.comp_reader.specs.declared.error.ReadError.{ReadError}
use Rattle.comp_reader.specs.declared.error.ReadError.TheVariants as errors
use Rattle.comp_reader.specs.declared.refusal.Refusal.{Refusal}
use Rattle.comp_reader.specs.declared.refusal.Refusal.TheVariants as refusals
use Rattle.comp_reader.specs.Nested.{sections_items, component_items}
use Rattle.comp_reader.specs.Refusal.{Fails, SameFault, IsPlaced}

-- the items that were read before, and those of the sections that are still read
abbrev pub with_items : List ItemTree → Result Sections Fault → Result (List ItemTree) Fault
with_items front read = read >>= λ ss. Ok (front ++ items_in ss)

-- a refusal is the fault of what goes on from what failed
pub fails_on : {X Y : Type 0} (e : Refusal) (r : Result X Fault) (f : X → Result Y Fault) → Fails e r → Fails e (r >>= f)
fails_on refusals.Memory r f h = tt
fails_on (refusals.Form at) r f h = ap (λ (q : Result _ Fault). q >>= f) h
fails_on (refusals.NotCarried at) r f h = ap (λ (q : Result _ Fault). q >>= f) h

-- the same fault at another place
pub same_fails : {Y : Type 0} (e f : Refusal) (r : Result Y Fault) → SameFault e f → Fails e r → Fails f r
same_fails refusals.Memory f r same h = subst (λ (x : Refusal). Fails x r) (sym same) tt
same_fails (refusals.Form at) f r same h = subst (λ (x : Refusal). Fails x r) (sym same.1) h
same_fails (refusals.NotCarried at) f r same h = subst (λ (x : Refusal). Fails x r) (sym same.1) h

-- what stands behind a section that is read is shorter
pub frame_shorter : (bytes : List ℕ) (f : (ℕ × List ℕ) × List ℕ) → frame_at bytes ≡ Ok f → length f.1 < length bytes
frame_shorter bytes f e = omega (arith, framed_shorter f.0.0 f.0.1 bytes f.1 (frame_form bytes f e))

pub section_shorter : (bytes : List ℕ) (f : (ℕ × List ℕ) × List ℕ) → section_at bytes ≡ Ok f → length f.1 < length bytes
section_shorter bytes f e = frame_shorter bytes f (section_framed bytes f e)

module _ (content : ℕ → List ℕ → Result Section Fault) where
  sections_next : (most : ℕ) (bytes : List ℕ) → 0 < length bytes → length bytes ≤ most
      → sections_at content most bytes ≡ (section_at bytes >>= λ f. content f.0.0 f.0.1 >>= λ s. sections_at content (most - 1) f.1 >>= λ ss. Ok (more s ss))
  unfolding sections_at
  sections_next most [] some le = absurd (omega arith)
  sections_next zero (b ∷ bytes) some le = absurd (omega (arith, le))
  sections_next (suc most) (b ∷ bytes) some le =
      let same : most ≡ suc most - 1 = omega arith in
      ap (λ (k : ℕ). section_at (b ∷ bytes) >>= λ f. content f.0.0 f.0.1 >>= λ s. sections_at content k f.1 >>= λ ss. Ok (more s ss)) same

  regroup : (front : List ItemTree) (s : Section) (read : Result Sections Fault) → with_items front (read >>= λ ss. Ok (more s ss)) ≡ with_items (front ++ section_items s) read
  regroup front s (Ok ss) = ap (λ (l : List ItemTree). Ok l) (simp append_assoc)
  regroup front s (Err fault) = refl

  -- What holds while sections are read.
  pub record IsUnderWay (bytes : List ℕ) (front : List ItemTree) (rest : List ℕ) : Type 0 where
    pub most : ℕ
    pub enough : length rest ≤ most
    pub so_far : with_items front (sections_at content most rest) ≡ with_items [] (sections_at content (length bytes) bytes)

  pub begins : (bytes : List ℕ) → IsUnderWay bytes [] bytes
  begins bytes = record { most = length bytes; enough = omega arith; so_far = refl }

  pub goes_on : (bytes : List ℕ) (front new : List ItemTree) (rest : List ℕ) (id : ℕ) (inner after : List ℕ) → 0 < length rest → section_at rest ≡ Ok ((id, inner), after)
      → (s : Section) → content id inner ≡ Ok s → new ≡ front ++ section_items s → IsUnderWay bytes front rest → IsUnderWay bytes new after
  goes_on bytes front new rest id inner after some framed s read new_is h =
      let shorter = section_shorter rest ((id, inner), after) framed in
      let one_more : with_items front (sections_at content h.most rest) ≡ with_items (front ++ section_items s) (sections_at content (h.most - 1) after) =
      rw (sections_next h.most rest some h.enough, framed, read) (regroup front s (sections_at content (h.most - 1) after)) in
      record { most = h.most - 1; enough = omega (arith, shorter, h.enough); so_far = ap (λ (l : List ItemTree). with_items l (sections_at content (h.most - 1) after)) new_is ∙ sym one_more ∙ h.so_far }

  -- no section stands first
  pub no_section : (e : Refusal) (bytes : List ℕ) (front : List ItemTree) (rest : List ℕ) → 0 < length rest → Fails e (section_at rest) → IsUnderWay bytes front rest → Fails e (with_items [] (sections_at content (length bytes) bytes))
  no_section e bytes front rest some failed h =
      subst (λ (r : Result (List ItemTree) Fault). Fails e r) (ap (with_items front) (sym (sections_next h.most rest some h.enough)) ∙ h.so_far)
      (fails_on e _ (λ ss. Ok (front ++ items_in ss)) (fails_on e (section_at rest) _ failed))

  -- a section's content can't be read
  pub no_content : (e : Refusal) (bytes : List ℕ) (front : List ItemTree) (rest : List ℕ) (id : ℕ) (inner after : List ℕ) → 0 < length rest → section_at rest ≡ Ok ((id, inner), after)
      → Fails e (content id inner) → IsUnderWay bytes front rest → Fails e (with_items [] (sections_at content (length bytes) bytes))
  no_content e bytes front rest id inner after some framed failed h =
      let next : sections_at content h.most rest ≡ (content id inner >>= λ s. sections_at content (h.most - 1) after >>= λ ss. Ok (more s ss)) =
      sections_next h.most rest some h.enough ∙ ap (λ (r : Result ((ℕ × List ℕ) × List ℕ) Fault). r >>= λ f. content f.0.0 f.0.1 >>= λ s. sections_at content (h.most - 1) f.1 >>= λ ss. Ok (more s ss)) framed in
      subst (λ (r : Result (List ItemTree) Fault). Fails e r) (ap (with_items front) (sym next) ∙ h.so_far)
      (fails_on e _ (λ ss. Ok (front ++ items_in ss)) (fails_on e (content id inner) _ failed))

  pub is_done : (bytes : List ℕ) (front : List ItemTree) (rest : List ℕ) → rest ≡ [] → IsUnderWay bytes front rest → with_items [] (sections_at content (length bytes) bytes) ≡ Ok front
  unfolding sections_at
  is_done bytes front rest ended h =
      let all : with_items front (sections_at content h.most rest) ≡ Ok front = rw ended (ap (λ (l : List ItemTree). Ok l) (append-nil front)) in
      sym h.so_far ∙ all

-- ---- faults

abbrev the_err : {A : Type 0} → Fault → Result A Fault
the_err x = Err x

err_is : {A : Type 0} (x y : Fault) → the_err {A = A} x ≡ the_err y → x ≡ y
err_is x y e = cc

pub deep_is_no_form : {A : Type 0} → the_err {A = A} TooDeep ≡ the_err Form → ⊥
deep_is_no_form e = absurd cc

pub deep_is_carried : {A : Type 0} → the_err {A = A} TooDeep ≡ the_err NotCarried → ⊥
deep_is_carried e = absurd cc

-- a fault of what goes on is one of what failed, where what goes on can't fail
failed_before : (r : Result Sections Fault) (fault : Fault) → (r >>= λ ss. Ok (items_in ss)) ≡ Err fault → r ≡ Err fault
failed_before (Ok ss) fault e = absurd cc
failed_before (Err other) fault e = ap (λ (f : Fault). Err f) (err_is other fault e)

-- ---- components

-- a component by its sections
pub component_is : (scopes : ℕ) (bytes : List ℕ) → 0 < scopes → component_at scopes bytes ≡ headed_at (λ after. sections_at (content_at (scopes - 1)) (length after) after) bytes
unfolding component_at content_at
component_is zero bytes some = absurd (omega arith)
component_is (suc scopes) bytes some =
    let same : scopes ≡ suc scopes - 1 = omega arith in
    ap (λ (n : ℕ). headed_at (λ after. sections_at (content_with (component_at n) (definition_at n) (core_at n)) (length after) after) bytes) same

pub component_items_are : (scopes : ℕ) (bytes : List ℕ) → (scopes ≡ 0 → ⊥) → starts_with nat_eq bytes header ≡ true → component_items scopes bytes ≡ sections_items (scopes - 1) (take (length bytes - 8) (drop 8 bytes))
unfolding headed_at behind_at
component_items_are scopes bytes some front =
    let is : component_at scopes bytes ≡ sections_at (content_at (scopes - 1)) (length (drop 8 bytes)) (drop 8 bytes) = component_is scopes bytes (omega (arith, some)) ∙ rw front refl in
    let whole : take (length bytes - 8) (drop 8 bytes) ≡ drop 8 bytes = take_all (length bytes - 8) (drop 8 bytes) (omega (arith, length-drop 8 bytes)) in
    ap (λ (r : Result Sections Fault). r >>= λ ss. Ok (items_in ss)) is ∙ ap (sections_items (scopes - 1)) (sym whole)

-- a nested component that was read
pub nested_adds : (scopes : ℕ) (content : List ℕ) (trees : List ItemTree) → (component_at scopes content >>= λ ss. Ok (items_in ss)) ≡ Ok trees → (s : Section) × (content_at scopes 4 content ≡ Ok s) × (section_items s ≡ Component content ∷ [])
unfolding content_at content_with
nested_adds scopes content trees e =
    let inner = bind_ok (component_at scopes content) _ trees e in
    (Nested content inner.0, ap (λ (q : Result Sections Fault). q >>= λ inner. Ok (Nested content inner)) inner.1, refl)

-- a nested component that was not
pub nested_fails : (e : Refusal) (scopes : ℕ) (content : List ℕ) → Fails e (component_at scopes content >>= λ ss. Ok (items_in ss)) → Fails e (content_at scopes 4 content)
unfolding content_at content_with
nested_fails refusals.Memory scopes content h = tt
nested_fails (refusals.Form at) scopes content h = ap (λ (q : Result Sections Fault). q >>= λ inner. Ok (Nested content inner)) (failed_before (component_at scopes content) Form h)
nested_fails (refusals.NotCarried at) scopes content h = ap (λ (q : Result Sections Fault). q >>= λ inner. Ok (Nested content inner)) (failed_before (component_at scopes content) NotCarried h)

-- ---- all

pub read_found : (scopes : ℕ) (bytes : List ℕ) (items : List ItemTree) → (component_at scopes bytes >>= λ ss. Ok (items_in ss)) ≡ Ok items → Reads bytes items
read_found scopes bytes items e =
    let ss = bind_ok (component_at scopes bytes) _ items e in
    (ss.0, sym (ok_is (items_in ss.0) items ss.2), component_form scopes bytes ss.0 ss.1)

pub found_only : (scopes : ℕ) (bytes : List ℕ) (read items : List ItemTree) → (component_at scopes bytes >>= λ ss. Ok (items_in ss)) ≡ Ok read → Reads bytes items → read ≡ items
found_only scopes bytes read items e h =
    let ss = bind_ok (component_at scopes bytes) _ read e in
    elim (component_within h.0 scopes bytes h.2) [
      | inl deep ↦ never TooDeep ss.0 (sym deep ∙ ss.1)
      | inr same ↦ sym (ok_is (items_in ss.0) read ss.2) ∙ ap items_in (ok_is ss.0 h.0 (sym ss.1 ∙ same)) ∙ sym h.1
    ]

pub refused_only : (e : Refusal) (scopes : ℕ) (bytes : List ℕ) (items : List ItemTree) → Fails e (component_at scopes bytes >>= λ ss. Ok (items_in ss)) → Reads bytes items → e ≡ refusals.Memory
refused_only refusals.Memory scopes bytes items h reads = refl
refused_only (refusals.Form at) scopes bytes items h reads =
    let failed = failed_before (component_at scopes bytes) Form h in
    elim (component_within reads.0 scopes bytes reads.2) [
      | inl deep ↦ absurd (deep_is_no_form (sym deep ∙ failed))
      | inr same ↦ never Form reads.0 (sym failed ∙ same)
    ]
refused_only (refusals.NotCarried at) scopes bytes items h reads =
    let failed = failed_before (component_at scopes bytes) NotCarried h in
    elim (component_within reads.0 scopes bytes reads.2) [
      | inl deep ↦ absurd (deep_is_carried (sym deep ∙ failed))
      | inr same ↦ never NotCarried reads.0 (sym failed ∙ same)
    ]

pub refused_form : (e : Refusal) (at scopes : ℕ) (bytes : List ℕ) → e ≡ refusals.Form at → Fails e (component_at scopes bytes >>= λ ss. Ok (items_in ss)) → component_at scopes bytes ≡ Err Form
refused_form e at scopes bytes is h = failed_before (component_at scopes bytes) Form (subst (λ (x : Refusal). Fails x (component_at scopes bytes >>= λ ss. Ok (items_in ss))) is h)

pub refused_not_carried : (e : Refusal) (at scopes : ℕ) (bytes : List ℕ) → e ≡ refusals.NotCarried at → Fails e (component_at scopes bytes >>= λ ss. Ok (items_in ss)) → component_at scopes bytes ≡ Err NotCarried
refused_not_carried e at scopes bytes is h = failed_before (component_at scopes bytes) NotCarried (subst (λ (x : Refusal). Fails x (component_at scopes bytes >>= λ ss. Ok (items_in ss))) is h)

pub memory_is : (e : Refusal) (error : ReadError) → IsPlaced e error → e ≡ refusals.Memory → error ≡ errors.Memory
memory_is e error placed is = subst (λ (x : Refusal). IsPlaced x error) is placed

pub still_memory : (e f : Refusal) → SameFault e f → e ≡ refusals.Memory → f ≡ refusals.Memory
still_memory e f same is = subst (λ (x : Refusal). SameFault x f) is same
