-- The command `assemble PLAN REPLIES CHECKED OUT`: what it makes, and why it makes nothing.
use Rattle.std.specs.Prelude.{◌≡◌, ℕ, List, Ok, Err, IsUtf8}
use Rattle.std.specs.List.Sorted.{IsPermutation}
use Rattle.warg_values.specs.Faults.{Rose}
use Rattle.warg_replay.specs.ClientError.{ClientError}
use Rattle.warg_replay.specs.ClientError.TheVariants as error
use Rattle.warg_exchange.specs.Body.{BodyFault}
use Rattle.warg_exchange.specs.declared.exchange.Reply.{Reply}
use Rattle.warg_plan.specs.Walk.{Entry}
use Rattle.warg_recorded.specs.Files.{replies_in, signatures_in}
use Rattle.warg_replay.specs.Replay.{IsRefused, IsReplayable, IsReplayed, accepts_listed}
use Rattle.warg_program.specs.World.{SeenFiles, HasFile, HasNoFile}
use Rattle.warg_program.specs.Command.{Sources}
use Rattle.warg_program.specs.Lines.{assembly_lines}
use Rattle.warg_program.specs.declared.stop.Form.{Form}
use Rattle.warg_program.specs.declared.stop.Form.TheVariants as form
use Rattle.warg_program.specs.declared.stop.Stop.{Stop}
use Rattle.warg_program.specs.declared.stop.Stop.TheVariants as stop
use Rattle.warg_program.specs.declared.stop.Access.TheVariants as access

-- a public key, the digest of what was signed, and the signature
abbrev pub Listed : Type 0
Listed = List ℕ × List ℕ × List ℕ

-- the file at a path is a text
pub record HasText (files : SeenFiles) (path text : List ℕ) : Type 0 where
  pub there : HasFile files path text
  pub is_text : IsUtf8 text

-- the file at a path has these replies
pub record HasReplies (files : SeenFiles) (path : List ℕ) (replies : List Reply) : Type 0 where
  pub bytes : List ℕ
  pub there : HasFile files path bytes
  pub read : replies_in bytes ≡ Ok replies

-- the file at a path has these signatures, in some order
pub record HasChecked (files : SeenFiles) (path : List ℕ) (listed : List Listed) : Type 0 where
  pub bytes : List ℕ
  pub there : HasFile files path bytes
  pub inside : List Listed
  pub read : signatures_in bytes ≡ Ok inside
  pub same : IsPermutation inside listed

-- the files that `assemble` reads have this text, these replies, and these signatures
pub record HasSources (files : SeenFiles) (sources : Sources) (text : List ℕ) (replies : List Reply) (listed : List Listed) : Type 0 where
  pub plan : HasText files sources.plan text
  pub replied : HasReplies files sources.replies replies
  pub checked : HasChecked files sources.checked listed

-- By the first of the replies, and the signatures that were checked, these are the component of the plan of PLAN's text,
-- and the lines that tell of its entries, of what it leaves open, of its lock and of it.
pub record IsAssembly (sources : Sources) (files : SeenFiles) (bytes lines : List ℕ) : Type 0 where
  pub text : List ℕ
  pub replies : List Reply
  pub listed : List Listed
  pub has : HasSources files sources text replies listed
  pub entries : List Entry
  pub left : List (List ℕ)
  pub lock : List ℕ
  pub replayed : IsReplayed (accepts_listed listed) replies text entries left lock bytes
  pub lines_are : lines ≡ assembly_lines entries left lock bytes

-- ---- refusals

-- bytes have not this form
abbrev pub IsOther : Form → List ℕ → Type 0
IsOther form.Text bytes = IsUtf8 bytes → ⊥
IsOther form.Replies bytes = (fault : BodyFault) × (replies_in bytes ≡ Err fault)
IsOther form.Signatures bytes = (fault : BodyFault) × (signatures_in bytes ≡ Err fault)

-- the file at a path has not this form
pub record HasOther (files : SeenFiles) (path : List ℕ) (form : Form) : Type 0 where
  pub bytes : List ℕ
  pub there : HasFile files path bytes
  pub other : IsOther form bytes

-- why the bytes of the file at a path are not read
abbrev pub IsReadCause : Stop → (path : List ℕ) → (before after : SeenFiles) → Type 0
IsReadCause (stop.Missing at) path before after = (at.now ≡ path) × HasNoFile before path
IsReadCause (stop.Fault (access.Read at)) path before after = (at.now ≡ path) × Rose before.faults after.faults
IsReadCause stop.Memory path before after = Unit {0}
IsReadCause _ path before after = ⊥

-- why the file at a path does not give what is to have this form
abbrev pub IsSourceCause : Stop → (path : List ℕ) → Form → (before after : SeenFiles) → Type 0
IsSourceCause (stop.Bad at other) path form before after = (at.now ≡ path) × (other ≡ form) × HasOther before path form
IsSourceCause s path form before after = IsReadCause s path before after

-- the stop of an error
abbrev pub refusal_of : ClientError → Stop
refusal_of error.Memory = stop.Memory
refusal_of e = stop.Refused e

-- a client refuses the text, and the text can't be replayed over these replies
pub record IsUnreplayed (e : ClientError) (text : List ℕ) (replies : List Reply) (listed : List Listed) : Type 0 where
  pub cause : IsRefused (accepts_listed listed) replies e text
  pub not_replayable : ¬ IsReplayable (accepts_listed listed) replies text

-- why a text is not assembled over replies and signatures: want of memory is told as such, and says nothing
abbrev pub IsReplayCause : Stop → (text : List ℕ) → List Reply → List Listed → Type 0
IsReplayCause (stop.Refused error.Memory) text replies listed = ⊥
IsReplayCause (stop.Refused e) text replies listed = IsUnreplayed e text replies listed
IsReplayCause stop.Memory text replies listed = Unit {0}
IsReplayCause _ text replies listed = ⊥

-- Why nothing was assembled. The files are read and judged one by one: PLAN, REPLIES, CHECKED; the plan comes after them.
pub data IsAssemblyCause (s : Stop) (sources : Sources) (before after : SeenFiles) : Type 0 where
  AtPlan : IsSourceCause s sources.plan form.Text before after → IsAssemblyCause s sources before after
  AtReplies : (text : List ℕ) → HasText before sources.plan text → IsSourceCause s sources.replies form.Replies before after
      → IsAssemblyCause s sources before after
  AtChecked : (text : List ℕ) → HasText before sources.plan text → (replies : List Reply)
      → HasReplies before sources.replies replies → IsSourceCause s sources.checked form.Signatures before after
      → IsAssemblyCause s sources before after
  AtReplay : (text : List ℕ) → (replies : List Reply) → (listed : List Listed)
      → HasSources before sources text replies listed → IsReplayCause s text replies listed
      → IsAssemblyCause s sources before after
