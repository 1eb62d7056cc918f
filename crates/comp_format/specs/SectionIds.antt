-- The ids of sections, by what they hold (Component Model, Binary.md, "Component Definitions").
use Rattle.std.specs.Prelude.{ℕ}

-- a custom section
abbrev pub custom : ℕ
custom = 0

-- a core module
abbrev pub core_modules : ℕ
core_modules = 1

-- core instances
abbrev pub core_instances : ℕ
core_instances = 2

-- core types
abbrev pub core_types : ℕ
core_types = 3

-- a nested component
abbrev pub component : ℕ
component = 4

-- instances
abbrev pub instances : ℕ
instances = 5

-- aliases
abbrev pub aliases : ℕ
aliases = 6

-- types
abbrev pub types : ℕ
types = 7

-- canonical definitions
abbrev pub canons : ℕ
canons = 8

-- a start section, which is not supported
abbrev pub start : ℕ
start = 9

-- imports
abbrev pub imports : ℕ
imports = 10

-- exports
abbrev pub exports : ℕ
exports = 11

-- values, which are not supported
abbrev pub values : ℕ
values = 12
