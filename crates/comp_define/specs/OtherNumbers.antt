-- Imports and exports of a scope that numbers what it makes otherwise.
use Rattle.std.specs.Prelude.{◌≡◌, ℕ, ◌==◌, if◌then◌else◌}
use Rattle.comp_entity.specs.Entity.{Name, made}
use Rattle.comp_entity.specs.Names.{changing, entries_by}
use Rattle.comp_entity.specs.Views.{Sides}

-- no two numbers become one
abbrev pub IsOneToOne : (ℕ → ℕ) → Type 0
IsOneToOne f = (a b : ℕ) → f a ≡ f b → a ≡ b

-- what the innermost scope makes has another number
abbrev pub numbered_by : (ℕ → ℕ) → Name → Name
numbered_by f n = if n.out == 0 then made (f n.number) else n

abbrev pub with_other_numbers : (ℕ → ℕ) → (ℕ → ℕ) → Sides → Sides
with_other_numbers resources places c = record {
  imports = entries_by (changing (numbered_by resources) (numbered_by places)) 0 c.imports;
  exports = entries_by (changing (numbered_by resources) (numbered_by places)) 0 c.exports;
}
