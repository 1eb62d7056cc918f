-- Answers of calls, beside what a definition reads of the same input.
use Rattle.std.specs.Prelude.{◌≡◌, Option, IfSome, Result, Ok, Err}

-- The error tells the fault with which the reading ended. One that stands for no fault, as want of memory does, tells
-- nothing.
abbrev pub Fails : {E F Y : Type 0} → (E → Option F) → E → Result Y F → Type 0
Fails fault_of error read = IfSome (fault_of error) (λ fault. read ≡ Err fault)

-- The answer is the value that was read, as clauses see it, or an error that tells why none was.
abbrev pub Gives : {X Y E F : Type 0} → (E → Option F) → (X → Y) → Result X E → Result Y F → Type 0
Gives fault_of view (Ok value) read = read ≡ Ok (view value)
Gives fault_of view (Err error) read = Fails fault_of error read
