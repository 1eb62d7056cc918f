-- Laws of index spaces to which something was added.
use Rattle.std.specs.Prelude.{Result, Ok, Err, OnOk}
use Rattle.comp_entity.specs.Bounds.{ShapeFault}
use Rattle.comp_space.specs.declared.error.ScopeError.{ScopeError}
use Rattle.comp_space.specs.Faults.{Finds}

-- what was found is shown
pub found_is_shown : {A : Type 0} (P : A → Type 0) (r : Result (Unit {0}) ScopeError) (given : Result A ShapeFault) → Finds (λ u. P) r given → OnOk r ((x : A) × P x)
found_is_shown P (Ok u) given f = (f.value, f.shown)
found_is_shown P (Err e) given f = tt
