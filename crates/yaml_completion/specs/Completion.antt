-- What was emitted so far of a text can be completed.
use Rattle.std.specs.Prelude.{◌≡◌, ℕ, List, ◌∷◌, ◌++◌, Option}
use Rattle.yaml_scan.specs.Lines.{lines_of}
use Rattle.yaml_small.specs.declared.event.Event.{Event}
use Rattle.yaml_small.specs.Trees.{Tree, stream_emitted, ends_again}
use Rattle.yaml_small.specs.Places.{At}
use Rattle.yaml_small.specs.Grammar.{Carried}

-- A carried document begins with the text in front of a place, and its first events are these. Rest is the text
-- from the place on; other stands there in the document.
pub record Completed (text : List ℕ) (events : List Event) (a : At) : Type 0 where
  pub front : List ℕ
  pub rest : List ℕ
  pub text_is : text ≡ front ++ rest
  pub rest_is : lines_of rest ≡ a.line ∷ a.later
  pub other : List ℕ
  pub tree : Option Tree
  pub carried : Carried (front ++ other) tree
  pub more : List Event
  pub count : ℕ
  pub emitted : stream_emitted tree (ends_again count) ≡ events ++ more
