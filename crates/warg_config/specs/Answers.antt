-- What private readers answer, beside what the JSON means, and how members are put. Only private clauses cite it.
use Rattle.std.specs.Prelude.{◌≡◌, ℕ, List, Option, Some, None, Result, Ok, Err, map}
use Rattle.std.specs.Borrow.{Bor}
use Rattle.serde_json.specs.Data.{Data, Members, put}
use Rattle.warg_values.specs.Faults.{Rose}
use Rattle.warg_base.specs.declared.files.FileError.{FileError}
use Rattle.warg_base.specs.declared.files.FileError.TheVariants.{Missing, Failed, Memory as files_memory}
use Rattle.warg_config.specs.Paths.{Place}
use Rattle.warg_config.specs.Settings.{Fault, Meaning, Form}
use Rattle.warg_config.specs.declared.error.ClientConfigError.{ClientConfigError}
use Rattle.warg_config.specs.declared.error.ClientConfigError.TheVariants.{File, Form as NotForm, NoDirectory, NoParent, Memory as no_memory}
use Rattle.warg_config.specs.declared.reading.ReadError.{ReadError}
use Rattle.warg_config.specs.declared.reading.ReadError.TheVariants as error

-- An error tells why the JSON means nothing. Want of memory tells nothing.
abbrev pub Fails : {Y : Type 0} → ReadError → Meaning Y → Type 0
Fails error.Form meaning = meaning ≡ Err Form
Fails error.Memory meaning = Unit {0}

-- What was read, seen by view, is what the JSON means.
abbrev pub Gives : {X Y : Type 0} → (X → Y) → Result X ReadError → Meaning Y → Type 0
Gives view (Ok x) meaning = meaning ≡ Ok (view x)
Gives view (Err e) meaning = Fails e meaning

-- the error of files as one of configurations
abbrev pub refusal_of : FileError → ClientConfigError
refusal_of Missing = File Missing
refusal_of Failed = File Failed
refusal_of files_memory = no_memory

-- why a search found nothing, by the counts of faults before and after
abbrev pub IsSearchFault : ClientConfigError → ℕ → ℕ → Type 0
IsSearchFault (File Missing) before after = ⊥
IsSearchFault (File Failed) before after = Rose before after
IsSearchFault (File files_memory) before after = ⊥
IsSearchFault NotForm before after = ⊥
IsSearchFault NoDirectory before after = ⊥
IsSearchFault NoParent before after = ⊥
IsSearchFault no_memory before after = Unit {0}

-- a member that is put among others, where it is there
abbrev pub put_given : List ℕ → Option Data → Members → Members
put_given name None ms = ms
put_given name (Some d) ms = put name d ms

-- names that are lent
abbrev pub names_of : List (Bor (List ℕ)) → Place
names_of names = map (λ name. name.now) names
