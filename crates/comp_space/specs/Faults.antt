-- What a call answers, beside what a definition gives of the same items.
use Rattle.std.specs.Prelude.{◌≡◌, Option, Some, None, Result, Ok, Err}
use Rattle.warg_values.specs.Answers as answers
use Rattle.comp_entity.specs.Bounds.{ShapeFault, Index, DoesNotFit, TooDeep, TooBig}
use Rattle.comp_space.specs.declared.error.ScopeError.{ScopeError}
use Rattle.comp_space.specs.declared.error.ScopeError.TheVariants as errors

-- the fault that an error tells. Want of memory tells none.
abbrev pub fault_of : ScopeError → Option ShapeFault
fault_of errors.Index = Some Index
fault_of errors.DoesNotFit = Some DoesNotFit
fault_of errors.TooDeep = Some TooDeep
fault_of errors.TooBig = Some TooBig
fault_of errors.Memory = None

-- The error tells the fault that the definition gives.
abbrev pub Fails : {Y : Type 0} → ScopeError → Result Y ShapeFault → Type 0
Fails error given = answers.Fails fault_of error given

-- The definition gives a value, which the answer shows so.
pub record Found {X Y : Type 0} (IsShownBy : X → Y → Type 0) (answer : X) (given : Result Y ShapeFault) : Type 0 where
  pub value : Y
  pub given_is : given ≡ Ok value
  pub shown : IsShownBy answer value

-- The answer shows so what the definition gives, or is an error that tells the fault that it gives.
abbrev pub Finds : {X Y : Type 0} → (X → Y → Type 0) → Result X ScopeError → Result Y ShapeFault → Type 0
Finds IsShownBy (Ok answer) given = Found IsShownBy answer given
Finds IsShownBy (Err error) given = Fails error given
