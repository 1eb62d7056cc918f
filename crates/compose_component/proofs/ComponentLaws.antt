-- What components show.
use Rattle.std.proofs.Common.{◌≡◌, ◌<◌, sym, subst, ap, arith, ℕ, List, length, All, Result, Ok, Err, is_ok, true, false, true≢false, refl}
use Rattle.std.proofs.lemmas.List.{get_or-map, length-map}
use Rattle.comp_format.specs.Items.{ItemTree}
use Rattle.comp_format.specs.Fits.{IsComponent}
use Rattle.comp_format.specs.Fault.{Fault}
use Rattle.comp_format.specs.Sections.{Sections, Nested, Reads, component_at, items_in}
use Rattle.comp_format.specs.ScopeLaws.{section_within}
use Rattle.comp_format.specs.SectionLaws.{component_again, component_form}
use Rattle.comp_entity.specs.declared.entity.Entity.{Entity}
use Rattle.comp_entity.specs.Entity.{EntityTree}
use Rattle.comp_entity.specs.Views.{entity_tree, named_entities}

-- A component has no more open scopes than bytes, and so it is read where so many may be open.
pub is_component : (bytes : List ℕ) (items : List ItemTree) → Reads bytes items → is_ok (component_at (length bytes) bytes) ≡ true
is_component bytes items h =
    let within = section_within (Nested bytes h.0) bytes (refl, h.2) in
    ap is_ok (component_again h.0 (length bytes) bytes (omega (arith, within)) h.2)

-- what holds of the names of trees holds of the names of what they show
pub all_named : (es : List (List ℕ × Entity)) → All (λ e. 0 < length e.0) (named_entities es) → All (λ e. 0 < length e.0) es
all_named es h = λ i d lt.
    subst (λ (name : List ℕ). 0 < length name) (ap (λ (e : List ℕ × EntityTree). e.0) (get_or-map (λ (e : List ℕ × Entity). (e.0, entity_tree e.1)) es i d (d.0, entity_tree d.1) lt))
    (h i (d.0, entity_tree d.1) (omega (arith, lt, length-map {B = List ℕ × EntityTree} es (λ e. (e.0, entity_tree e.1)))))

never : false ≡ true → ⊥
never e = true≢false (sym e)

-- bytes that can be read are the written form of some items
pub is_read : (bytes : List ℕ) → is_ok (component_at (length bytes) bytes) ≡ true → IsComponent bytes
is_read bytes h = case (component_at (length bytes) bytes) refl h
  where
    case : (read : Result Sections Fault) → component_at (length bytes) bytes ≡ read → is_ok read ≡ true → IsComponent bytes
    case (Ok ss) e k = (items_in ss, (ss, refl, component_form (length bytes) bytes ss e))
    case (Err fault) e k = absurd (never k)
