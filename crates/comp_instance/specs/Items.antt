-- Items under names, as the exports of an instance, by numbers of a table.
use Rattle.std.specs.Prelude.{◌≡◌, ℕ, Bool, true, ◌&&◌, List, [], ◌∷◌, ◌++◌, map, not, Result, Ok, bytes_eq}
use Rattle.std.specs.List.{list_any}
use Rattle.std.specs.Str.{str_to_ascii_lowercase}
use Rattle.warg_values.specs.Reading.{◌>>=◌}
use Rattle.comp_declare.specs.Scopes.{plain_entry}
use Rattle.comp_entity.specs.Bounds.{ShapeFault}
use Rattle.comp_entity.specs.Entity.{IsInstance}
use Rattle.comp_format.specs.declared.types.Arg.{Arg}
use Rattle.comp_instance.specs.declared.items.Items.{Items}
use Rattle.comp_instance.specs.declared.items.LetterCase.{LetterCase}
use Rattle.comp_instance.specs.declared.items.LetterCase.TheVariants as case
use Rattle.comp_scope.specs.Instances.{all_have_bit}
use Rattle.comp_scope.specs.Spaces as scope
use Rattle.comp_scope.specs.Spaces.{Spaces, standing, entries_in}
use Rattle.comp_space.specs.declared.standing.Standing.{Standing}
use Rattle.comp_table.specs.Plain.{plain_entity}
use Rattle.comp_table.specs.Trees.{PlainTree, Stands, AllStand}

-- items of a scope, each under its name, where names may stand twice
unfoldable pub items_of : Spaces → List Arg → Result (List (List ℕ × scope.Standing)) ShapeFault
items_of s [] = Ok []
items_of s (a ∷ args) = standing s a.sort a.index >>= λ e. items_of s args >>= λ rest. Ok ((a.name, e) ∷ rest)

-- that by which a name is told apart from others
abbrev pub name_key : LetterCase → List ℕ → List ℕ
name_key case.Kept name = name
name_key case.SetAside name = str_to_ascii_lowercase name

-- no name is among those before it, nor among these that were seen
abbrev pub differ : List (List ℕ) → List (List ℕ) → Bool
differ seen [] = true
differ seen (name ∷ names) = not (list_any (bytes_eq name) seen) && differ (seen ++ name ∷ []) names

-- the numbers stand for these items, in order
pub record ShowsItems (table : List PlainTree) (items : Items) (es : List (List ℕ × scope.Standing)) : Type 0 where
  pub stand : AllStand table items.numbers.items (map plain_entry es)
  pub named_is : items.named ≡ all_have_bit es

-- the number stands for an instance that exports these items
pub record ShowsInstance (table : List PlainTree) (instance : Standing) (es : List (List ℕ × scope.Standing)) : Type 0 where
  pub stands : Stands table instance.number (plain_entity (IsInstance (entries_in es)))
  pub named_is : instance.named ≡ all_have_bit es
