-- A text from its start to its end.
use Rattle.std.specs.Prelude.{◌≡◌, ◌^◌, ◌-◌, ℕ, List, Bool, true, false, Option, Some, Result, Ok}
use Rattle.warg_values.specs.Reading.{◌>>=◌}
use Rattle.yaml_small.specs.declared.event.Event.{Event}
use Rattle.yaml_small.specs.declared.event.Event.TheVariants as events
use Rattle.yaml_small.specs.Trees.{Tree}
use Rattle.yaml_small.specs.Grammar.{Carried}
use Rattle.yaml_small.specs.Stream.{start}
use Rattle.yaml_read.specs.Source.{Source, Refusal, NotEnded, pull, front, Refused, refused, why}
use Rattle.yaml_read.specs.Collections.{is_stream_end}

-- a text's start, where 2 ^ 64 - 1 events may be taken
abbrev pub source_at : List ℕ → Source
source_at text = record { state = start text; left = 2 ^ 64 - 1 }

abbrev pub is_document_start : Event → Bool
is_document_start events.DocumentStart = true
is_document_start event = false

abbrev pub is_document_end : Event → Bool
is_document_end events.DocumentEnd = true
is_document_end event = false

abbrev pub behind_start : Bool → Source → Result Source Refused
behind_start true s = pull s >>= λ emitted. Ok emitted.1
behind_start false s = Ok s

-- behind the starts of the stream and of the document
unfoldable pub opened_at : List ℕ → Result Source Refused
opened_at text = pull (source_at text) >>= λ begun. front begun.1 >>= λ event. behind_start (is_document_start event) begun.1

-- the ends of the document and of the stream
abbrev pub ended_stream : Bool → Source → Result (Unit {0} × Source) Refused
ended_stream true s = pull s >>= λ emitted. Ok (tt, emitted.1)
ended_stream false s = refused s NotEnded

unfoldable pub stream_end_at : Source → Result (Unit {0} × Source) Refused
stream_end_at s = front s >>= λ event. ended_stream (is_stream_end event) s

abbrev pub ended_document : Bool → Source → Result (Unit {0} × Source) Refused
ended_document true s = pull s >>= λ emitted. stream_end_at emitted.1
ended_document false s = stream_end_at s

unfoldable pub closed_at : Source → Result (Unit {0} × Source) Refused
closed_at s = front s >>= λ event. ended_document (is_document_end event) s

-- one value, and then the ends
unfoldable pub whole_from : {X : Type 0} → (Source → Result (X × Source) Refused) → List ℕ → Result X Refused
whole_from read text = opened_at text >>= λ s. read s >>= λ x. closed_at x.1 >>= λ end. Ok x.0

abbrev pub whole_at : {X : Type 0} → (Source → Result (X × Source) Refused) → List ℕ → Result X Refusal
whole_at read text = why (whole_from read text)

-- The text is a carried document, and the type reads its node, or none, as this value.
abbrev pub Holds : {X : Type 0} → (Option Tree → Option X) → List ℕ → X → Type 0
Holds of_node text x = (node : Option Tree) × Carried text node × (of_node node ≡ Some x)
