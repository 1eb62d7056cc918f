-- Names that mean, in what is written, what they mean where they were read (Component Model, Explainer.md, "Import and
-- Export Definitions").
use Rattle.std.specs.Prelude.{◌≡◌, ℕ, Bool, true, Some, unwrap_or, is_some}
use Rattle.std.specs.List.{AllByRecursion}
use Rattle.comp_format.specs.declared.types.Primitive.TheVariants as primitive
use Rattle.comp_entity.specs.Entity.{Name, ValueTree, Primitive}
use Rattle.comp_entity.specs.Names.{Mention, OfResource, OfPlace, in_value}
use Rattle.comp_coherence.specs.Coherence.{Names}
use Rattle.compose_meaning.specs.Meaning.{Meaning}

-- a resource that may be mentioned
abbrev pub MayMention : Names → ℕ × Mention → Type 0
MayMention names (depth, OfResource r) = names.resource r ≡ true
MayMention names (depth, OfPlace n) = Unit {0}

-- a type of which each resource may be mentioned
abbrev pub MayBeMentioned : Names → ValueTree → Type 0
MayBeMentioned names t = AllByRecursion (MayMention names) (in_value 0 t)

-- What may be mentioned by these names may be mentioned, and a place stands for the same type.
pub record Agrees (names : Names) (mean : Meaning) : Type 0 where
  pub resources : (r : Name) → names.resource r ≡ true → mean.may_mention (OfResource r) ≡ true
  pub places : (n : Name) (t : ValueTree) → names.tree n ≡ Some t → MayBeMentioned names t
      → mean.may_mention (OfPlace n) ≡ true
  pub trees : (n : Name) (t : ValueTree) → names.tree n ≡ Some t → t ≡ mean.tree n

abbrev pub may_mention : Names → Mention → Bool
may_mention names (OfResource r) = names.resource r
may_mention names (OfPlace n) = is_some (names.tree n)

-- The meaning that agrees, where resources are called so, and types have such naming bits. A place that stands for no
-- type is not mentioned.
abbrev pub meaning_of : (Name → Name) → (Name → Bool) → Names → Meaning
meaning_of resource bit names = record {
  may_mention = may_mention names;
  resource = resource;
  tree = λ n. unwrap_or (names.tree n) (Primitive primitive.Bool);
  bit = bit;
}
