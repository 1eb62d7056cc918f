-- Where a command can do what it is for, only memory can be short.
use Rattle.std.proofs.Common.{◌≡◌, ◌∙◌, inl, inr, ap, refl, sym, subst, ℕ, List, None, Option, Some, Result, Ok, Err, IfSome}
use Rattle.std.proofs.lemmas.Option.{same_Some}
use Rattle.std.specs.List.Sorted.{IsPermutation}
use Rattle.warg_values.specs.Faults.{Rose}
use Rattle.warg_base.specs.Files.{FileMap, file_at}
use Rattle.comp_entity.specs.Entity.{ShapeTree}
use Rattle.comp_shape.specs.Shape.{HasShape}
use Rattle.compose_config.specs.Plan.{Settings, settings_node}
use Rattle.compose_files.specs.Composable.{IsComposable}
use Rattle.compose_files.specs.Read.{HoldsSettings}
use Rattle.warg_replay.specs.ClientError.TheVariants as error
use Rattle.warg_exchange.specs.declared.exchange.Reply.{Reply}
use Rattle.warg_recorded.specs.Files.{replies_in, signatures_in}
use Rattle.warg_replay.specs.Replay.{IsReplayable, accepts_listed}
use Rattle.yaml_small.specs.Grammar.{Carried}
use Rattle.yaml_small.specs.Trees.{Tree}
use Rattle.warg_program.specs.Able.{CanAssemble, CanCompose, Has, IsAble}
use Rattle.warg_program.specs.Assembly.{AtPlan, AtReplies, AtChecked, AtReplay, HasSources, IsAssemblyCause, IsOther, IsReadCause, IsReplayCause, IsSourceCause, Listed}
use Rattle.warg_program.specs.Command.{Assemble, Compose, Sources}
use Rattle.warg_program.specs.Compose.{AtComposer, AtConfig, AtRoot, HoldsNone, IsByConfig, IsComposerCause, IsCompositionCause, IsConfigCause, IsNotComposed, sources_by}
use Rattle.warg_program.specs.Run.{Stops, IsShortOfMemory, IsStopped}
use Rattle.warg_program.specs.World.{SeenFiles, World, HasFile, HasNoFile, IsUnfailing}
use Rattle.warg_program.specs.declared.stop.Access.TheVariants as access
use Rattle.warg_program.specs.declared.stop.Form.{Form}
use Rattle.warg_program.specs.declared.stop.Form.TheVariants as form
use Rattle.warg_program.specs.declared.stop.Stop.{Stop}
use Rattle.warg_program.specs.declared.stop.Stop.TheVariants as stop
use Rattle.warg_program.proofs.CommandLaws.{is_assemble, is_compose}
use Rattle.warg_program.proofs.StopLaws.{Unwritten, link_short, no_some, there_is, undelivered_short}

ok_is : {A E : Type 0} (x y : A) → ◌≡◌ {A = Result A E} (Ok x) (Ok y) → x ≡ y
ok_is x y e = cc e

ok_err : {A E : Type 0} (r : Result A E) (x : A) (e : E) → r ≡ Ok x → r ≡ Err e → ⊥
ok_err r x e is bad = absurd cc

-- ---- a file

same_file : (files : SeenFiles) (path bytes others : List ℕ) → Has files path bytes → HasFile files path others → others ≡ bytes
same_file files path bytes others has h = there_is files has.held path bytes others has.told has.there h

file_there : (files : SeenFiles) (path bytes : List ℕ) → Has files path bytes → HasNoFile files path → ⊥
file_there files path bytes has h = no_some (file_at has.held path) bytes (subst (λ t. IfSome t (λ held. file_at held path ≡ None)) has.told h) has.there

source_short : (s : Stop) (path : List ℕ) (form : Form) (before after : SeenFiles) (bytes : List ℕ) → Has before path bytes → (IsOther form bytes → ⊥) → (Rose before.faults after.faults → ⊥) → IsSourceCause s path form before after → IsShortOfMemory s
source_short (stop.Missing at) path form before after bytes has fits none h = absurd (file_there before path bytes has h.1)
source_short (stop.Fault (access.Read at)) path form before after bytes has fits none h = absurd (none h.1)
source_short (stop.Bad at other) path form before after bytes has fits none h = absurd (fits (subst (λ b. IsOther form b) (same_file before path bytes h.2.bytes has h.2.there) h.2.other))
source_short stop.Memory path form before after bytes has fits none h = tt
source_short _ path form before after bytes has fits none h = absurd h

-- ---- an assembly

module _ (words : List (List ℕ)) (before after : SeenFiles) (can : CanAssemble words before) (none : Rose before.faults after.faults → ⊥) where
  replayable_there : (text : List ℕ) (replies : List Reply) (listed : List Listed) → HasSources before can.sources text replies listed → IsReplayable (accepts_listed listed) replies text
  replayable_there text replies listed has =
      let text_is : text ≡ can.text = same_file before can.sources.plan can.text text can.has_plan has.plan.there in
      let reply_bytes = same_file before can.sources.replies can.reply_bytes has.replied.bytes can.has_replies has.replied.there in
      let replies_are : replies ≡ can.replies = ok_is replies can.replies (sym has.replied.read ∙ ap replies_in reply_bytes ∙ can.are_replies) in
      let checked_bytes = same_file before can.sources.checked can.checked_bytes has.checked.bytes can.has_checked has.checked.there in
      let inside : has.checked.inside ≡ can.inside = ok_is has.checked.inside can.inside (sym has.checked.read ∙ ap signatures_in checked_bytes ∙ can.are_signatures) in
      let order : IsPermutation can.inside listed = subst (λ l. IsPermutation l listed) inside has.checked.same in
      subst (λ t. IsReplayable (accepts_listed listed) replies t) (sym text_is) (subst (λ r. IsReplayable (accepts_listed listed) r can.text) (sym replies_are) (can.replayable listed order))

  replay_short : (s : Stop) (text : List ℕ) (replies : List Reply) (listed : List Listed) → HasSources before can.sources text replies listed → IsReplayCause s text replies listed → IsShortOfMemory s
  replay_short (stop.Refused error.Memory) text replies listed has h = absurd h
  replay_short (stop.Refused e) text replies listed has h = absurd (h.not_replayable (replayable_there text replies listed has))
  replay_short stop.Memory text replies listed has h = tt
  replay_short _ text replies listed has h = absurd h

  assembly_short : (s : Stop) → IsAssemblyCause s can.sources before after → IsShortOfMemory s
  assembly_short s (AtPlan h) = source_short s can.sources.plan form.Text before after can.text can.has_plan (λ other. other can.is_text) none h
  assembly_short s (AtReplies text has h) =
      source_short s can.sources.replies form.Replies before after can.reply_bytes can.has_replies (λ other. ok_err (replies_in can.reply_bytes) can.replies other.0 can.are_replies other.1) none h
  assembly_short s (AtChecked text has replies replied h) =
      source_short s can.sources.checked form.Signatures before after can.checked_bytes can.has_checked (λ other. ok_err (signatures_in can.checked_bytes) can.inside other.0 can.are_signatures other.1) none h
  assembly_short s (AtReplay text replies listed has h) = replay_short s text replies listed has h

-- ---- a run

assembles_short : (s : Stop) (words : List (List ℕ)) (before after : World) → CanAssemble words before.files → IsUnfailing before after → IsStopped s words before after → IsShortOfMemory s
assembles_short s words before after can calm (inl r) = absurd (r.no_command (Assemble can.sources can.out) can.command)
assembles_short s words before after can calm (inr c) =
    is_assemble words can.sources can.out c.command can.command c.is_command (λ other last same sources. by other last sources (subst (λ d. Stops s d before after) same c.stops))
  where
    by : (other : Sources) (last : List ℕ) → can.sources ≡ other → Stops s (Assemble other last) before after → IsShortOfMemory s
    by other last sources (inl r) = assembly_short words before.files after.files can calm.files s (subst (λ o. IsAssemblyCause s o before.files after.files) (sym sources) r.cause)
    by other last sources (inr u) = undelivered_short s (Some last) u.bytes u.lines before after calm.files calm.output u.undelivered

-- a text holds one configuration
abbrev OneDocument : Type 0
OneDocument = (text : List ℕ) (a b : Option Tree) → Carried text a → Carried text b → a ≡ b

module _ (one_document : OneDocument) where
  one_settings : (held : FileMap) (path : List ℕ) (a b : Settings) → HoldsSettings held path a → HoldsSettings held path b → a ≡ b
  one_settings held path a b p q =
      let text : p.text ≡ q.text = same_Some p.text q.text (sym p.found ∙ q.found) in
      let node = one_document q.text p.holds.0 q.holds.0 (subst (λ t. Carried t p.holds.0) text p.holds.1) q.holds.1 in
      same_Some a b (sym p.holds.2 ∙ ap settings_node node ∙ q.holds.2)

  module _ (words : List (List ℕ)) (before after : SeenFiles) (can : CanCompose words before) (none : Rose before.faults after.faults → ⊥) where
    told_of : (P : FileMap → Type 0) → IfSome before.held P → P can.held
    told_of P h = subst (λ t. IfSome t P) can.told h

    read_short : (s : Stop) (path bytes : List ℕ) → file_at can.held path ≡ Some bytes → IsReadCause s path before after → IsShortOfMemory s
    read_short (stop.Missing at) path bytes there h = absurd (no_some (file_at can.held path) bytes (told_of (λ held. file_at held path ≡ None) h.1) there)
    read_short (stop.Fault (access.Read at)) path bytes there h = absurd (none h.1)
    read_short stop.Memory path bytes there h = tt
    read_short _ path bytes there h = absurd h

    config_short : (s : Stop) → IsConfigCause s can.config before after → IsShortOfMemory s
    config_short (stop.BadConfig at refusal) h = absurd ((told_of (HoldsNone can.config refusal.error) h.1).none can.composable.settings can.composable.says)
    config_short s h = by s h
      where
        by : (s : Stop) → IsReadCause s can.config before after → IsShortOfMemory s
        by s h = read_short s can.config can.composable.says.text can.composable.says.found h

    composer_short : (s : Stop) → IsComposerCause s can.root can.config before after → IsShortOfMemory s
    composer_short (stop.NotComposed e) h =
        let by = told_of (IsByConfig can.config (IsNotComposed can.root e)) h.2 in
        let same = one_settings can.held can.config can.composable.settings by.settings can.composable.says by.says in
        absurd (by.holds.not_composable (subst (λ s. IsComposable can.root (sources_by can.held can.config s)) same can.composable.holds))
    composer_short (stop.Unread e) h = absurd (none h.1)
    composer_short stop.Memory h = tt
    composer_short _ h = absurd h

    composition_short : (s : Stop) → IsCompositionCause s can.root can.config before after → IsShortOfMemory s
    composition_short s (AtRoot h) =
        let components = can.composable.holds.is_complete.is_graph.components in
        read_short s can.root components.of_root.bytes components.root_file.found h
    composition_short s (AtConfig there h) = config_short s h
    composition_short s (AtComposer there h) = composer_short s h

  composes_short : (s : Stop) (words : List (List ℕ)) (before after : World) → CanCompose words before.files → IsUnfailing before after → IsStopped s words before after → IsShortOfMemory s
  composes_short s words before after can calm (inl r) = absurd (r.no_command (Compose can.root can.config can.out) can.command)
  composes_short s words before after can calm (inr c) =
      is_compose words can.root can.config can.out c.command can.command c.is_command (λ a b last same root config. by a b last root config (subst (λ d. Stops s d before after) same c.stops))
    where
      by : (a b last : List ℕ) → can.root ≡ a → can.config ≡ b → Stops s (Compose a b last) before after → IsShortOfMemory s
      by a b last root config (inl r) =
          composition_short words before.files after.files can calm.files s
          (subst (λ p. IsCompositionCause s p can.config before.files after.files) (sym root) (subst (λ p. IsCompositionCause s a p before.files after.files) (sym config) r.cause))
      by a b last root config (inr u) = undelivered_short s (Some last) u.bytes u.lines before after calm.files calm.output u.undelivered

pub able_short : ((bytes : List ℕ) (a b : ShapeTree) → HasShape bytes a → HasShape bytes b → a ≡ b) → Unwritten → OneDocument → (s : Stop) (words : List (List ℕ)) (before after : World) → IsAble words before.files → IsUnfailing before after → IsStopped s words before after → IsShortOfMemory s
able_short one unwritten one_document s words before after (inl can) calm stopped = link_short one unwritten words before.files can s before after refl calm stopped
able_short one unwritten one_document s words before after (inr (inl can)) calm stopped = composes_short one_document s words before after can calm stopped
able_short one unwritten one_document s words before after (inr (inr can)) calm stopped = assembles_short s words before after can calm stopped
