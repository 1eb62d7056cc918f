-- What is known, and more that is known.
use Rattle.std.specs.Prelude.{◌≡◌, ◌⊎◌, ℕ, List, Some, None, Result, Err, bytes_eq}
use Rattle.indexmap.specs.IndexMap.{insert_entry}
use Rattle.warg_plan.specs.Keys.{Release}
use Rattle.warg_plan.specs.Walk.{Facts, Content, log_in, content_in, Stop, NeedsLog, NeedsContent}

-- what is known stays known
pub record Extends (less more : Facts) : Type 0 where
  pub logs : (name : List ℕ) (log : List Release) → log_in less name ≡ Some log → log_in more name ≡ Some log
  pub contents : (digest : List ℕ) (c : Content) → content_in less digest ≡ Some c → content_in more digest ≡ Some c

-- a stop asks for something that these facts have
abbrev pub IsNeed : Facts → Stop → Type 0
IsNeed f (NeedsLog name) = (log : List Release) × (log_in f name ≡ Some log)
IsNeed f (NeedsContent name digest) = (c : Content) × (content_in f digest ≡ Some c)
IsNeed f _ = ⊥

-- a stop asks for something that these facts lack
abbrev pub IsUnknown : Facts → Stop → Type 0
IsUnknown f (NeedsLog name) = log_in f name ≡ None
IsUnknown f (NeedsContent name digest) = content_in f digest ≡ None
IsUnknown f _ = Unit {0}

-- an answer is the other one, or asks first for something that these facts have
abbrev pub IsBelow : {X : Type 0} → Facts → Result X Stop → Result X Stop → Type 0
IsBelow f r q = (r ≡ q) ⊎ ((s : Stop) × (r ≡ Err s) × IsNeed f s)

-- with the releases in a package's log
abbrev pub with_log : Facts → List ℕ → List Release → Facts
with_log f name log = record f { logs = insert_entry bytes_eq f.logs name log }

-- with the content of a digest
abbrev pub with_content : Facts → List ℕ → Content → Facts
with_content f digest c = record f { contents = insert_entry bytes_eq f.contents digest c }
