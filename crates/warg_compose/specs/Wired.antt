-- Plans over components: what the search of a plan gives to whom links it.
use Rattle.std.specs.Prelude.{◌≡◌, ℕ, ◌<◌, true, List, [], length, map, slice_get, Some}
use Rattle.std.specs.List.{AllByRecursion}
use Rattle.sha2.specs.Sha256.{sha256}
use Rattle.comp_entity.specs.Entity.{ShapeTree}
use Rattle.comp_shape.specs.Shape.{HasShape}
use Rattle.warg_names.specs.Import.{ImportTree, import_of}
use Rattle.warg_plan.specs.Keys.{is_interface}
use Rattle.warg_plan.specs.Plan.{EachAfter}
use Rattle.warg_plan.specs.Walk.{Arg, Left, OfEntry, Content, Entry, Facts, content_in}
use Rattle.warg_compose.specs.Read.{IsComponent, names_in}

-- the name of an import is that of an interface
abbrev pub IsOpenName : List ℕ → Type 0
IsOpenName name = (i : ImportTree) × (import_of name ≡ Some i) × (is_interface i.kind ≡ true)

-- an argument behind some entries: one of them, or nothing, which an interface alone is given
abbrev pub IsGiven : ℕ → List ℕ → Arg → Type 0
IsGiven before name Left = IsOpenName name
IsGiven before name (OfEntry place) = place < before

-- An entry behind others: its content is a component, and each import of that, in order, has an argument.
pub record IsWired (before : List Entry) (e : Entry) : Type 0 where
  pub tree : ShapeTree
  pub has_shape : HasShape e.content tree
  pub in_order : map (λ a. a.0) e.arguments ≡ names_in tree.imports
  pub given : AllByRecursion (λ a. IsGiven (length before) a.0 a.1) e.arguments

-- Entries one after the other; the content of each has its digest, and entries of one digest have one content.
pub record AreWired (es : List Entry) : Type 0 where
  pub each : EachAfter IsWired [] es
  pub digests : AllByRecursion (λ e. sha256 e.content ≡ e.digest) es
  pub contents : (i j : ℕ) (a b : Entry) → slice_get es i ≡ Some a → slice_get es j ≡ Some b → a.digest ≡ b.digest
      → a.content ≡ b.content

-- each content that is known is a component, and has its digest
pub record AreOfComponents (f : Facts) : Type 0 where
  pub digests : (digest : List ℕ) (c : Content) → content_in f digest ≡ Some c → sha256 c.bytes ≡ digest
  pub components : (digest : List ℕ) (c : Content) → content_in f digest ≡ Some c → IsComponent c
