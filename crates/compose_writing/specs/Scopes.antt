-- Scopes that are written, and how a type that is known in one of them gets an index in the innermost: where another
-- instance has it, by aliases in the scope that holds the instance, and by one outer alias where that is a scope further
-- out (Component Model, Explainer.md, "Alias Definitions").
use Rattle.std.specs.Prelude.{ℕ, zero, suc, Bool, false, ◌||◌, List, [], ◌∷◌, ◌++◌, Option, Some, None, option_map, option_and_then, is_some, if◌then◌else◌}
use Rattle.comp_format.specs.declared.types.Alias.{Alias}
use Rattle.comp_format.specs.declared.types.Alias.TheVariants as alias
use Rattle.comp_format.specs.declared.types.Sort.TheVariants as sort
use Rattle.comp_format.specs.CoreTypes as core
use Rattle.comp_format.specs.Definitions as tree
use Rattle.comp_format.specs.Definitions.{TypeTree, DeclTree, Decls, with_decl}
use Rattle.comp_entity.specs.Names.{Mention}
use Rattle.comp_entity.specs.Places.{Path}
use Rattle.compose_writing.specs.Keys.{At, Index, InInstance, KnownThings, known_at, mention_outside, from_within}

-- A scope that is written: its declarations, and how many types, instances and core types they number. It counts as so
-- many scopes of names: the type of an instance as none, since an instance's exports are called as in the scope in which
-- it stands, a type of instances as one, and a component or a type of components as two.
pub record WrittenScope : Type 0 where
  pub width : ℕ
  pub decls : Decls
  pub types : ℕ
  pub instances : ℕ
  pub core_types : ℕ
  pub known : KnownThings

-- a scope at its begin
abbrev pub opened : ℕ → WrittenScope
opened width = record { width = width; decls = tree.none; types = 0; instances = 0; core_types = 0; known = [] }

-- The outermost scope, before anything is written. Nothing lies around it.
abbrev pub outermost : WrittenScope
outermost = opened 2

-- scopes from the innermost, with what was written; nothing where something that is mentioned is not known
abbrev pub Wrote : Type 0 → Type 0
Wrote X = Option (List WrittenScope × X)

abbrev pub wrote_as : {X Y : Type 0} → (X → Y) → Wrote X → Wrote Y
wrote_as f w = option_map (λ x. (x.0, f x.1)) w

-- ---- declarations

abbrev pub declared : DeclTree → WrittenScope → WrittenScope
declared d m = record m { decls = with_decl m.decls d }

-- a type, or an alias of one, with its index
abbrev pub add : DeclTree → WrittenScope → WrittenScope × ℕ
add d m = (record m { decls = with_decl m.decls d; types = suc m.types }, m.types)

abbrev pub add_type : TypeTree → WrittenScope → WrittenScope × ℕ
add_type t = add (tree.Ty t)

abbrev pub add_alias : Alias → WrittenScope → WrittenScope × ℕ
add_alias a = add (tree.Aliased a)

-- an instance that an instance exports
abbrev pub add_instance : ℕ → List ℕ → WrittenScope → WrittenScope × ℕ
add_instance from name m =
    (record m { decls = with_decl m.decls (tree.Aliased (alias.Export sort.Instance from name)); instances = suc m.instances }, m.instances)

abbrev pub add_core_type : core.CoreTree → WrittenScope → WrittenScope × ℕ
add_core_type t m = (record m { decls = with_decl m.decls (tree.CoreTy t); core_types = suc m.core_types }, m.core_types)

-- in the innermost scope
unfoldable pub on_top : (WrittenScope → WrittenScope × ℕ) → List WrittenScope → Wrote ℕ
on_top f [] = None
on_top f (m ∷ ms) = Some ((f m).0 ∷ ms, (f m).1)

unfoldable pub change_top : (WrittenScope → WrittenScope) → List WrittenScope → List WrittenScope
change_top f [] = []
change_top f (m ∷ ms) = f m ∷ ms

-- a type that was written, behind the others of the innermost scope
abbrev pub then_type : Wrote TypeTree → Wrote ℕ
then_type w = option_and_then (λ x. on_top (add_type x.1) x.0) w

-- the declarations of the innermost scope, which ends
unfoldable pub closed : List WrittenScope → Wrote Decls
closed [] = None
closed (m ∷ ms) = Some (ms, m.decls)

-- ---- what is known

unfoldable pub knows : List WrittenScope → Mention → Bool
knows [] key = false
knows (m ∷ ms) key = is_some (known_at m.known key) || from_within m.width (knows ms) key

-- one thing more that a scope knows: where it has a thing at two places, the first one counts
abbrev pub with_known : Mention → At → WrittenScope → WrittenScope
with_known key at m = if is_some (known_at m.known key) then m else record m { known = m.known ++ (key, at) ∷ [] }

-- the index of the type at the end of a path in an instance, by an alias for each name of the path
unfoldable pub along : ℕ → Path → WrittenScope → WrittenScope × ℕ
along from [] m = (m, from)
along from (name ∷ []) m = add_alias (alias.Export sort.Ty from name) m
along from (name ∷ next ∷ names) m = along (add_instance from name m).1 (next ∷ names) (add_instance from name m).0

abbrev pub index_in : At → WrittenScope → WrittenScope × ℕ
index_in (Index i) m = (m, i)
index_in (InInstance from path) m = along from path m

-- how many scopes further out a thing is known, and its index there: here, or else as the scopes around have it
abbrev pub stood : WrittenScope → List WrittenScope → Wrote (ℕ × ℕ) → Option At → Wrote (ℕ × ℕ)
stood m ms further (Some at) = Some ((index_in at m).0 ∷ ms, (0, (index_in at m).1))
stood m ms further None = option_map (λ x. (m ∷ x.0, (suc x.1.0, x.1.1))) further

-- `None` where no scope knows it
unfoldable pub standing : List WrittenScope → Mention → Wrote (ℕ × ℕ)
standing [] key = None
standing (m ∷ ms) key = stood m ms (option_and_then (standing ms) (mention_outside m.width key)) (known_at m.known key)

-- a type of a scope so much further out, by an index of the innermost
unfoldable pub brought : List WrittenScope → ℕ → ℕ → Wrote ℕ
brought ms zero i = Some (ms, i)
brought ms (suc up) i = on_top (add_alias (alias.Outer sort.Ty (suc up) i)) ms

-- the index of a resource or a named type in the innermost scope. Each need makes its aliases anew.
unfoldable pub type_index : Mention → List WrittenScope → Wrote ℕ
type_index key ms = option_and_then (λ x. brought x.0 x.1.0 x.1.1) (standing ms key)
