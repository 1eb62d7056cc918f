-- What the functions on quoted scalars answer, against what stands there.
use Rattle.std.specs.Prelude.{◌≡◌, List, ℕ, Option, Some, None, IfSome, Result}
use Rattle.warg_values.specs.Answers.{Gives}
use Rattle.yaml_scan.specs.declared.quoted.Quoted.{Quoted}
use Rattle.yaml_scan.specs.declared.quoted.QuoteError.{QuoteError}
use Rattle.yaml_scan.specs.declared.quoted.QuoteError.TheVariants as errors
use Rattle.yaml_scan.specs.QuotedScan.{Flaw, Open, Bad, Found}

-- An error is the flaw, wherever it stands; want of memory is none.
abbrev pub fault_of : QuoteError → Option Flaw
fault_of errors.Memory = None
fault_of errors.Open = Some Open
fault_of (errors.Bad left) = Some Bad

abbrev pub found_view : Quoted → List ℕ × List ℕ
found_view q = (q.text.items, q.rest.now)

abbrev pub Finds : Result Quoted QuoteError → Found → Type 0
Finds result found = Gives fault_of found_view result found

-- an error is the flaw, or want of memory
abbrev pub Explains : QuoteError → Flaw → Type 0
Explains error flaw = IfSome (fault_of error) (λ fault. flaw ≡ fault)
