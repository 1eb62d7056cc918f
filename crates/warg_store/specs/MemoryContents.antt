-- What a store of contents in memory holds.
use Rattle.std.specs.Prelude.{ℕ, List, ◌++◌, codes, bytes_eq}
use Rattle.hex.specs.Hex.{encode_lower}
use Rattle.indexmap.specs.IndexMap.{get}
use Rattle.warg_store.specs.declared.memory_content.MemoryContent.{MemoryContent}
use Rattle.warg_store.specs.Contents.{Contents}
use Rattle.warg_store.specs.Faults.{Schedule}
use Rattle.warg_store.specs.Schedules.{schedule_of}

abbrev pub contents_in : MemoryContent → Contents
contents_in store digest = get bytes_eq store.contents digest

abbrev pub content_schedule : MemoryContent → Schedule
content_schedule store = schedule_of store.schedule

-- where a content is: under the name of the algorithm, its digest in lower-case hexadecimal digits
abbrev pub location_of : List ℕ → List ℕ
location_of digest = codes "sha256/" ++ encode_lower digest
