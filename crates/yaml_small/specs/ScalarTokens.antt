-- What the code's scalars stand for.
use Rattle.std.specs.Prelude.{◌≡◌, ℕ, List, true, Option, Some, None, Result, Ok, Err}
use Rattle.yaml_scan.specs.declared.quoted.Quoted.{Quoted}
use Rattle.yaml_scan.specs.declared.quoted.QuoteError.{QuoteError}
use Rattle.yaml_scan.specs.QuotedScan.{Found}
use Rattle.yaml_scan.specs.Finds.{Finds}
use Rattle.yaml_small.specs.declared.error.ScanError.{ScanError}
use Rattle.yaml_small.specs.declared.error.ScanError.TheVariants as errors
use Rattle.yaml_small.specs.declared.event.Style.{Style}
use Rattle.yaml_small.specs.declared.scalar.Content.{Content}
use Rattle.yaml_small.specs.declared.scalar.Content.TheVariants.{Lent, Owned}
use Rattle.yaml_small.specs.declared.scalar.ScalarToken.{ScalarToken}
use Rattle.yaml_small.specs.Places.{At}
use Rattle.yaml_small.specs.Scalars as spec
use Rattle.yaml_small.specs.Answers.{place_at, is_form, ScanGives}

abbrev pub content_bytes : Content → List ℕ
content_bytes (Lent bytes) = bytes.now
content_bytes (Owned bytes) = bytes.items

abbrev pub scalar_token_view : ScalarToken → spec.ScalarToken
scalar_token_view w = spec.scalar_token (content_bytes w.content) w.style (place_at w.end)

-- what was read, where anything was
abbrev pub if_read : Result spec.ScalarToken spec.Fault → Option spec.ScalarToken
if_read (Ok w) = Some w
if_read (Err fault) = None

-- an error is this fault, or want of memory
abbrev pub FailsAs : ScanError → spec.Fault → Type 0
FailsAs errors.Memory fault = Unit {0}
FailsAs (errors.Form marker) fault = is_form fault ≡ true
FailsAs (errors.NotCarried marker) fault = fault ≡ spec.NotCarried
FailsAs (errors.TooDeep marker) fault = fault ≡ spec.TooDeep

-- The scalar is that of whatever was found.
abbrev pub FoundIn : Style → At → Result Quoted QuoteError → Result ScalarToken ScanError → Type 0
FoundIn style a found result =
    (there : Found) → Finds found there → ScanGives scalar_token_view result (spec.quoted_at style a there)
