-- Bytes have one shape, and those that have one are refused for want of memory alone.
use Rattle.std.proofs.Common.{◌≡◌, ◌∙◌, ◌⊎◌, ℕ, zero, suc, true, List, [], Result, Ok, Err, inl, inr, sym, ap, refl}
use Rattle.warg_values.specs.ReadingLaws.{ok_is}
use Rattle.comp_entity.specs.Bounds.{ShapeFault, bounded}
use Rattle.comp_entity.specs.Entity.{ShapeTree}
use Rattle.comp_format.specs.Fault.{Fault, Form, NotCarried, TooDeep}
use Rattle.comp_format.specs.Sections.{Sections, ComponentForm, component_at}
use Rattle.comp_scope.specs.Shape.{Parts, nothing, then_part, HasParts, after_parts, shape_within}
use Rattle.comp_scope.specs.Spaces.{Known, nothing_known}
use Rattle.comp_shape.specs.Refusal.{IsRefused}
use Rattle.comp_shape.specs.Shape.{FirstFault, HasShape}
use Rattle.comp_shape.specs.declared.error.ShapeError.{ShapeError}
use Rattle.comp_shape.specs.declared.error.ShapeError.TheVariants as errors

-- what the law `one_list_of_parts` says
abbrev pub OneListOfParts : Type 0
OneListOfParts = (bytes : List ℕ) (a b : Parts) → HasParts bytes a → HasParts bytes b → a ≡ b

-- what the law `each_component_is_read` says
abbrev pub EachIsRead : Type 0
EachIsRead = (ss : Sections) (scopes : ℕ) (bytes : List ℕ) → ComponentForm ss bytes → (component_at scopes bytes ≡ Err TooDeep) ⊎ (component_at scopes bytes ≡ Ok ss)

pub one : OneListOfParts → (bytes : List ℕ) (a b : ShapeTree) → HasShape bytes a → HasShape bytes b → a ≡ b
one once bytes a b h k = ok_is a b (sym h.shape_is ∙ ap (shape_within bounded) (once bytes h.parts k.parts h.has_parts k.has_parts) ∙ k.shape_is)

abbrev failed : Fault → Result Sections Fault
failed fault = Err fault

-- what has a form is read, or has too many open scopes
no_form : EachIsRead → (ss : Sections) (bytes : List ℕ) → ComponentForm ss bytes → component_at 200 bytes ≡ Err Form → ⊥
no_form each ss bytes h e =
    elim (each ss 200 bytes h) [
      | inl deep ↦ let same : failed TooDeep ≡ failed Form = sym deep ∙ e in absurd cc
      | inr read ↦ let same : Ok ss ≡ failed Form = sym read ∙ e in absurd cc
    ]

not_carried : EachIsRead → (ss : Sections) (bytes : List ℕ) → ComponentForm ss bytes → component_at 200 bytes ≡ Err NotCarried → ⊥
not_carried each ss bytes h e =
    elim (each ss 200 bytes h) [
      | inl deep ↦ let same : failed TooDeep ≡ failed NotCarried = sym deep ∙ e in absurd cc
      | inr read ↦ let same : Ok ss ≡ failed NotCarried = sym read ∙ e in absurd cc
    ]

ok_no_err : (s : ShapeTree) (fault : ShapeFault) (r : Result ShapeTree ShapeFault) → r ≡ Ok s → r ≡ Err fault → ⊥
ok_no_err s fault r a b = let same : Ok s ≡ Err fault = sym a ∙ b in absurd cc

no_fault : OneListOfParts → (bytes : List ℕ) (s : ShapeTree) → HasShape bytes s → (fault : ShapeFault) (parts : Parts) → HasParts bytes parts → shape_within bounded parts ≡ Err fault → ⊥
no_fault once bytes s h fault parts has is = ok_no_err s fault (shape_within bounded parts) (ap (shape_within bounded) (once bytes parts h.parts has h.has_parts) ∙ h.shape_is) is

-- the fault of a part is that of the whole
of_parts : (k : Known) (number : ℕ) (fault : ShapeFault) (parts : Parts) → FirstFault k number fault parts → after_parts bounded [] k parts ≡ Err fault
unfolding after_parts
of_parts k number fault nothing h = absurd h
of_parts k zero fault (then_part p ps) h = rw h refl
of_parts k (suc number) fault (then_part p ps) h = rw h.1 (of_parts h.0 number fault ps h.2)

of_shape : (number : ℕ) (fault : ShapeFault) (parts : Parts) → FirstFault (nothing_known true) number fault parts → shape_within bounded parts ≡ Err fault
unfolding shape_within
of_shape number fault parts h = rw (of_parts (nothing_known true) number fault parts h) refl

pub only_memory : OneListOfParts → EachIsRead → (e : ShapeError) (bytes : List ℕ) (s : ShapeTree) → IsRefused e bytes → HasShape bytes s → e ≡ errors.Memory
only_memory once each (errors.Form at) bytes s h x = absurd (no_form each x.has_parts.0 bytes x.has_parts.2 h)
only_memory once each (errors.NotCarried at) bytes s h x = absurd (not_carried each x.has_parts.0 bytes x.has_parts.2 h)
only_memory once each (errors.Index at) bytes s h x = absurd (no_fault once bytes s x _ h.parts h.has_parts (of_shape h.number _ h.parts h.first))
only_memory once each (errors.DoesNotFit at) bytes s h x = absurd (no_fault once bytes s x _ h.parts h.has_parts (of_shape h.number _ h.parts h.first))
only_memory once each errors.TooDeep bytes s h x = absurd (no_fault once bytes s x _ h.parts h.has_parts h.fault_is)
only_memory once each errors.TooBig bytes s h x = absurd (no_fault once bytes s x _ h.parts h.has_parts h.fault_is)
only_memory once each errors.Memory bytes s h x = refl
