-- How events and places are printed for people.
use Rattle.std.specs.Prelude.{ℕ, ◌+◌, ◌-◌, ◌^◌, min, List, ◌++◌, codes}
use Rattle.std.specs.Fmt.{decimal}
use Rattle.yaml_small.specs.declared.event.Event.{Event}
use Rattle.yaml_small.specs.declared.event.Event.TheVariants as events
use Rattle.yaml_small.specs.declared.event.Marker.{Marker}

-- what an event is called
abbrev pub event_text : Event → List ℕ
event_text events.StreamStart = codes "the start of the text"
event_text events.StreamEnd = codes "the end of the text"
event_text events.DocumentStart = codes "the start of the document"
event_text events.DocumentEnd = codes "the end of the document"
event_text events.SequenceStart = codes "a list"
event_text events.SequenceEnd = codes "the end of a list"
event_text events.MappingStart = codes "a map"
event_text events.MappingEnd = codes "the end of a map"
event_text (events.Scalar text style) = codes "the scalar `" ++ text ++ codes "`"

-- a line and a column, which both count from 1
abbrev pub marker_text : Marker → List ℕ
marker_text m = codes "line " ++ decimal m.line ++ codes ", column " ++ decimal (min (m.col + 1) (2 ^ 64 - 1))
