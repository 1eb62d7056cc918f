-- What a stop means for the files, and when nothing but memory can be short.
use Rattle.std.proofs.Common.{◌≡◌, ◌∙◌, ◌≤◌, ◌<◌, ◌^◌, ◌⊎◌, inl, inr, false, refl, ap, sym, subst, arith, ℕ, List, Some, None, Option, IfSome}
use Rattle.std.proofs.lemmas.Option.{same_Some}
use Rattle.warg_values.specs.Faults.{Rose}
use Rattle.warg_base.specs.Files.{FileMap, LeavesPartlyWritten, file_at, with_file}
use Rattle.comp_entity.specs.Entity.{ShapeTree}
use Rattle.comp_shape.specs.Shape.{HasShape}
use Rattle.compose_check.specs.declared.error.CheckError.TheVariants as check
use Rattle.compose_complete.specs.Unwritten.{IsExported, IsUnwrittenGraph}
use Rattle.compose_encode.specs.Whole.{CanBeEncoded}
use Rattle.compose_graph.specs.Composed.{composed}
use Rattle.compose_graph.specs.Encoding.{IsComposeRefusal, export_place}
use Rattle.compose_graph.specs.Graph.{GraphTree}
use Rattle.compose_graph.specs.Kept.{IsGraph}
use Rattle.compose_graph.specs.declared.compose_error.ComposeError.{ComposeError}
use Rattle.compose_graph.specs.declared.compose_error.ComposeError.TheVariants as compose
use Rattle.compose_graph.specs.declared.options.EncodeOptions.{EncodeOptions}
use Rattle.compose_order.specs.Needs.{LeftTree}
use Rattle.warg_program.specs.Able.{CanLink}
use Rattle.warg_program.specs.World.{SeenFiles, SeenOutput, World, HasFile, IsUnfailing, SameFiles, Writes, WritesPartly}
use Rattle.warg_program.specs.Command.{Asked, Link, out_of}
use Rattle.warg_program.specs.Delivery.{HoldsMade, IsWriteCause, IsPrintCause, IsUndelivered, IsWritten, IsWrittenPartly}
use Rattle.warg_program.specs.Link.{IsLinkCause, IsRoot, IsUnencoded, root_graph, root_options}
use Rattle.warg_program.specs.Run.{Holds, Makes, Stops, IsDone, IsStopped, IsShortOfMemory, MayHold}
use Rattle.warg_program.specs.Stop.{status_of}
use Rattle.warg_program.specs.declared.stop.Stop.{Stop}
use Rattle.warg_program.specs.declared.stop.Stop.TheVariants as stop
use Rattle.warg_program.specs.declared.stop.Access.TheVariants as access
use Rattle.warg_program.proofs.CommandLaws.{is_link}

-- what a command that was done leaves
pub holds_done : (words : List (List ℕ)) (before after : World) → IsDone words before after → MayHold words before after
holds_done words before after d =
    let made = d.does in
    let holds : HoldsMade (Makes d.command) (out_of d.command) before after = record { bytes = made.bytes; lines = made.lines; makes = made.makes; written = inr made.delivered.written } in
    inr (d.command, d.is_command, inr holds)

-- what a delivery that stopped leaves, also where the files are as they were then
undelivered_holds : (s : Stop) (out : Option (List ℕ)) (bytes lines : List ℕ) (before stopped after : World) → SameFiles stopped after → IsUndelivered s out bytes lines before stopped → IsWrittenPartly before after out bytes ⊎ IsWritten before after out bytes
undelivered_holds s None bytes lines before stopped after same (inl o) = absurd o
undelivered_holds s None bytes lines before stopped after same (inr l) = inr (same ∙ l.written)
undelivered_holds s (Some out) bytes lines before stopped after same (inl o) = inl (subst (λ held. LeavesPartlyWritten before.files.held held out bytes) (sym same) o.written)
undelivered_holds s (Some out) bytes lines before stopped after same (inr l) = inr (subst (λ held. IfSome before.files.held (λ files. held ≡ Some (with_file files out bytes))) (sym same) l.written)

-- what a command that stopped leaves
stops_holds : (s : Stop) (c : Asked) (before stopped after : World) → SameFiles stopped after → Stops s c before stopped → Holds c before after
stops_holds s c before stopped after same (inl r) = inl (same ∙ r.files)
stops_holds s c before stopped after same (inr u) = inr (record { bytes = u.bytes; lines = u.lines; makes = u.makes; written = undelivered_holds s (out_of c) u.bytes u.lines before stopped after same u.undelivered })

pub holds_stopped : (s : Stop) (words : List (List ℕ)) (before stopped after : World) → SameFiles stopped after → IsStopped s words before stopped → MayHold words before after
holds_stopped s words before stopped after same (inl r) = inl (same ∙ r.files)
holds_stopped s words before stopped after same (inr c) = inr (c.command, c.is_command, stops_holds s c.command before stopped after same c.stops)

pub no_some : {X : Type 0} (o : Option X) (x : X) → o ≡ None → o ≡ Some x → ⊥
no_some o x missing there =
    let nothing : IfSome o (λ _. ⊥) = rw missing tt in
    subst (λ s. IfSome s (λ _. ⊥)) there nothing

pub there_is : (before : SeenFiles) (held : FileMap) (root bytes others : List ℕ) → before.held ≡ Some held → file_at held root ≡ Some bytes → HasFile before root others → others ≡ bytes
there_is before held root bytes others e is h =
    let there = subst (λ t. IfSome t (λ files. file_at files root ≡ Some others)) e h in
    same_Some others bytes (sym there ∙ is)

-- where no call of the files failed, only memory was short for the file
write_short : (s : Stop) (out : List ℕ) (before after : SeenFiles) → (Rose before.faults after.faults → ⊥) → IsWriteCause s out before after → IsShortOfMemory s
write_short (stop.Fault (access.Written path)) out before after none h = absurd (none h.1)
write_short stop.Memory out before after none h = tt
write_short _ out before after none h = absurd h

-- and for the lines
print_short : (s : Stop) (before after : SeenOutput) → (Rose before.faults after.faults → ⊥) → IsPrintCause s before after → IsShortOfMemory s
print_short (stop.Fault access.Printed) before after none h = absurd (none h)
print_short stop.Memory before after none h = tt
print_short _ before after none h = absurd h

pub undelivered_short : (s : Stop) (out : Option (List ℕ)) (bytes lines : List ℕ) (before after : World) → (Rose before.files.faults after.files.faults → ⊥) → (Rose before.output.faults after.output.faults → ⊥) → IsUndelivered s out bytes lines before after → IsShortOfMemory s
undelivered_short s None bytes lines before after files output (inl o) = absurd o
undelivered_short s (Some out) bytes lines before after files output (inl o) = write_short s out before.files after.files files o.cause
undelivered_short s out bytes lines before after files output (inr l) = print_short s before.output after.output output l.cause

-- A component that is there, and of which one instance can be encoded: so only memory was short, where no call of the files
-- failed.
abbrev pub Unwritten : Type 0
Unwritten = (g : GraphTree) (o : EncodeOptions) (order : List ℕ) (lefts : List LeftTree) (e : ComposeError) → IsGraph g → IsExported g o → o.validate ≡ false
    → CanBeEncoded (composed g) o.define_components (export_place g o) order lefts → IsComposeRefusal g o e → IsUnwrittenGraph g o order lefts e

root_is_graph : (bytes : List ℕ) (tree : ShapeTree) → IsGraph (root_graph bytes tree)
root_is_graph bytes tree = record {
  component_ids = (omega arith, omega arith);
  instance_ids = (omega arith, omega arith);
  names = (refl, tt);
  made = (refl, tt);
  joined = tt;
  apart = tt;
}

module _ (one_shape : (bytes : List ℕ) (a b : ShapeTree) → HasShape bytes a → HasShape bytes b → a ≡ b) (unwritten : Unwritten) (words : List (List ℕ)) (files : SeenFiles) (can : CanLink words files) where
  -- the shape of what is there
  root_is : (P : List ℕ → ShapeTree → Type 0) (root bytes : List ℕ) (tree : ShapeTree) → root ≡ can.root → IsRoot files root bytes tree → P bytes tree → P can.bytes can.tree
  root_is P root bytes tree same is holds =
      let found : bytes ≡ can.bytes = there_is files can.has.held root can.bytes bytes can.has.told (ap (file_at can.has.held) same ∙ can.has.there) is.there in
      let shapes : tree ≡ can.tree = one_shape can.bytes tree can.tree (subst (λ bs. HasShape bs tree) found is.has_shape) can.has_shape in
      subst (P can.bytes) shapes (subst (λ bs. P bs tree) found holds)

  refused : (P : Type 0) (e : ComposeError) → IsComposeRefusal (root_graph can.bytes can.tree) root_options e → (IsUnwrittenGraph (root_graph can.bytes can.tree) root_options can.order can.lefts e → P) → P
  refused P e r then = then (unwritten (root_graph can.bytes can.tree) root_options can.order can.lefts e (root_is_graph can.bytes can.tree) refl refl can.possible r)

  cause_short : (s : Stop) (root out : List ℕ) (after : SeenFiles) → root ≡ can.root → (Rose files.faults after.faults → ⊥) → IsLinkCause s root out files after → IsShortOfMemory s
  cause_short (stop.Missing path) root out after same none h =
      absurd (no_some (file_at can.has.held root) can.bytes (subst (λ t. IfSome t (λ held. file_at held root ≡ None)) can.has.told h.1) (ap (file_at can.has.held) same ∙ can.has.there))
  cause_short (stop.Fault (access.Read path)) root out after same none h = absurd (none h.1)
  cause_short (stop.BadComponent path error) root out after same none h =
      absurd (h.1.no_shape can.tree (subst (λ others. HasShape others can.tree) (sym (there_is files can.has.held root can.bytes h.1.bytes can.has.told (ap (file_at can.has.held) same ∙ can.has.there) h.1.there)) can.has_shape))
  cause_short (stop.Incompatible path w) root out after same none h =
      let at = root_is (IsUnencoded (stop.Incompatible path w) root out) root h.bytes h.tree same h.is_root h.holds in
      refused (IsShortOfMemory (stop.Incompatible path w)) (compose.Check (check.Incompatible w)) at.1 (λ bad. absurd bad)
  cause_short (stop.TooLarge path number) root out after same none h =
      let at = root_is (IsUnencoded (stop.TooLarge path number) root out) root h.bytes h.tree same h.is_root h.holds in
      refused (IsShortOfMemory (stop.TooLarge path number)) (compose.TooLarge number) at.1 (λ number_is. let below : number < 2 ^ 32 = can.small number number_is.among in let above : 2 ^ 32 ≤ number = number_is.large in absurd (omega (arith, below, above)))
  cause_short stop.Memory root out after same none h = tt
  cause_short _ root out after same none h = absurd h

  stops_short : (s : Stop) (root out : List ℕ) (before after : World) → before.files ≡ files → root ≡ can.root → IsUnfailing before after → Stops s (Link root out) before after → IsShortOfMemory s
  stops_short s root out before after is same calm (inl r) =
      cause_short s root out after.files same (subst (λ f. Rose f.faults after.files.faults → ⊥) is calm.files) (subst (λ f. IsLinkCause s root out f after.files) is r.cause)
  stops_short s root out before after is same calm (inr u) = undelivered_short s (Some out) u.bytes u.lines before after calm.files calm.output u.undelivered

  pub link_short : (s : Stop) (before after : World) → before.files ≡ files → IsUnfailing before after → IsStopped s words before after → IsShortOfMemory s
  link_short s before after is calm (inl r) = absurd (r.no_command (Link can.root can.out) can.command)
  link_short s before after is calm (inr c) =
      is_link words can.root can.out c.command can.command c.is_command (λ other last same roots. stops_short s other last before after is (sym roots) calm (subst (λ d. Stops s d before after) same c.stops))

-- a count that rose stays risen
pub rose_later : (old mid new : ℕ) → mid ≤ new → Rose old mid → Rose old new
rose_later old mid new le rose = omega (arith, le, rose)

-- a count that rose since a moment rose since an earlier one
pub rose_earlier : (old mid new : ℕ) → old ≤ mid → Rose mid new → Rose old new
rose_earlier old mid new le rose = omega (arith, le, rose)

-- want of memory is the status 7
pub status_short : (s : Stop) → IsShortOfMemory s → status_of s ≡ 7
status_short stop.Memory h = refl
status_short _ h = absurd h

-- no stop has the status 0
pub never_zero : {P : Type 0} (s : Stop) → status_of s ≡ 0 → P
never_zero stop.Usage e = cc
never_zero (stop.Missing path) e = cc
never_zero (stop.Fault access) e = cc
never_zero (stop.Bad path form) e = cc
never_zero (stop.BadComponent path error) e = cc
never_zero (stop.Incompatible path w) e = cc
never_zero (stop.TooLarge path number) e = cc
never_zero (stop.BadConfig path error) e = cc
never_zero (stop.NotComposed error) e = cc
never_zero (stop.Unread error) e = cc
never_zero (stop.Refused error) e = cc
never_zero stop.Memory e = cc
