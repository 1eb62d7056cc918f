use Rattle.std.proofs.Common.{Some, None, refl, ap, subst, sym, ◌∙◌}
use Rattle.warg_api.specs.Asking.{asker}
use Rattle.warg_store.specs.Contents.{SameContents}
use Rattle.warg_store.specs.Held.{SameHeld}
use Rattle.warg_store.specs.Held as held
use Rattle.warg_store.specs.Memory.{held_in, schedule_in}
use Rattle.warg_store.specs.MemoryContents.{contents_in, content_schedule}
use Rattle.warg_store.specs.MemoryNames.{names_in, names_schedule}
use Rattle.warg_replay.specs.Anew.{accepts_listed}
use Rattle.warg_replay.proofs.AnewLaws.{knows_nothing, reads_nothing}
use Rattle.warg_replay.proofs.anew.client_over.Goals as goal

pub returns-in-Ok-clause-anew : goal.returns-in-Ok-clause-anew
returns-in-Ok-clause-anew g c =
    let begun = c.in-Ok.ensures in
    let client = c.in-Ok.client in
    record {
      accepts_so = ap accepts_listed begun.verifier;
      home = record { read = begun.asks.0; reads = begun.asks.1; is = ap asker begun.asks.3 };
      unasked = ap (λ t. t.exchanges) begun.link;
      link = ap (λ t. t.link) begun.link;
      knows = knows_nothing _ (held_in client.learner.registries) (contents_in client.learner.contents) refl (subst (λ m. SameHeld (held_in m) held.nothing) (sym begun.registry) c.new.ensures.empty) refl
          (subst (λ m. SameContents (contents_in m) (λ _. None)) (sym begun.content) c.new-2.ensures.empty) (ap Some (ap names_in begun.names ∙ c.new-3.ensures.empty)) refl;
      pages = ap (λ s. s.round_limit) begun.settings;
      steady = record {
        registries = ap (λ m. (schedule_in m).faults) begun.registry ∙ ap (λ s. s.faults) c.new.ensures.schedule;
        contents = ap (λ m. (content_schedule m).faults) begun.content ∙ ap (λ s. s.faults) c.new-2.ensures.schedule;
        names = ap (λ m. (names_schedule m).faults) begun.names ∙ ap (λ s. s.faults) c.new-3.ensures.schedule;
      };
      can_be_read = reads_nothing _ (held_in client.learner.registries) refl (subst (λ m. SameHeld (held_in m) held.nothing) (sym begun.registry) c.new.ensures.empty) (ap Some (ap names_in begun.names ∙ c.new-3.ensures.empty));
    }
