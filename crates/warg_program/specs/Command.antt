-- What the words can ask for.
use Rattle.std.specs.Prelude.{◌≡◌, ◌<◌, ◌≤◌, ◌^◌, ℕ, List, [], ◌∷◌, codes, Option, Some, None}
use Rattle.std.specs.Str.Parse.{IsNumeral, digits_value}
use Rattle.warg_program.specs.declared.command.Command.{Command}
use Rattle.warg_program.specs.declared.command.Command.TheVariants as command
use Rattle.warg_program.specs.declared.command.Sources.{Sources as Named}

-- the paths of the files that `assemble` reads: of the plan, of the replies, and of the signatures that were checked
pub record Sources : Type 0 where
  pub plan : List ℕ
  pub replies : List ℕ
  pub checked : List ℕ

-- a command with what its words name
pub data Asked : Type 0 where
  -- the path of the component, and that of the result
  Link : (root out : List ℕ) → Asked
  -- the paths of the component and of the configuration, and that of the result
  Compose : (root config out : List ℕ) → Asked
  -- the paths of what is read, and that of the result
  Assemble : (sources : Sources) → (out : List ℕ) → Asked
  -- the seed of a world, and how many packages it has
  Demo : (seed count : ℕ) → Asked

-- a text is decimal digits alone, at least one, which write this number
pub record IsNumber (text : List ℕ) (number : ℕ) : Type 0 where
  pub digits : IsNumeral 10 text
  pub value : digits_value 10 text ≡ number

-- the words are those of `demo`, with these numbers
pub record IsDemo (words : List (List ℕ)) (seed count : ℕ) : Type 0 where
  pub seed_text : List ℕ
  pub count_text : List ℕ
  pub are : words ≡ codes "demo" ∷ seed_text ∷ count_text ∷ []
  pub seed_is : IsNumber seed_text seed
  pub seed_fits : seed < 2 ^ 64
  pub count_is : IsNumber count_text count
  pub some : 1 ≤ count
  pub few : count ≤ 200

-- the words are those of a command, without the program's own name
abbrev pub IsCommand : List (List ℕ) → Asked → Type 0
IsCommand words (Link root out) = words ≡ codes "link" ∷ root ∷ out ∷ []
IsCommand words (Compose root config out) = words ≡ codes "compose" ∷ root ∷ config ∷ out ∷ []
IsCommand words (Assemble sources out) =
    words ≡ codes "assemble" ∷ sources.plan ∷ sources.replies ∷ sources.checked ∷ out ∷ []
IsCommand words (Demo seed count) = IsDemo words seed count

-- the words are none of the commands
abbrev pub IsNoCommand : List (List ℕ) → Type 0
IsNoCommand words = (a : Asked) → IsCommand words a → ⊥

-- the path of the result, where it is written
abbrev pub out_of : Asked → Option (List ℕ)
out_of (Link root out) = Some out
out_of (Compose root config out) = Some out
out_of (Assemble sources out) = Some out
out_of (Demo seed count) = None

-- the paths as the program holds them
abbrev pub named : Named → Sources
named s = record { plan = s.plan.now; replies = s.replies.now; checked = s.checked.now }

-- a command as the program holds it
abbrev pub asked : Command → Asked
asked (command.Link root out) = Link root.now out.now
asked (command.Compose root config out) = Compose root.now config.now out.now
asked (command.Assemble sources out) = Assemble (named sources) out.now
asked (command.Demo seed count) = Demo seed count
