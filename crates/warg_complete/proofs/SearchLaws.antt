-- That over a link which gives the replies of a session its plan is found.
use Rattle.std.proofs.Common.{◌≡◌, ◌⊎◌, ◌+◌, ◌≤◌, ◌++◌, ◌∷◌, ℕ, List, Bool, inl, inr, refl, sym, ◌∙◌, ap, subst, arith}
use Rattle.std.proofs.lemmas.List.{append-nil}
use Rattle.std.specs.List.{AllByRecursion, flat_map}
use Rattle.comp_shape.specs.Refusal.{IsRefused}
use Rattle.comp_shape.specs.declared.error.ShapeError.{ShapeError}
use Rattle.warg_log.specs.Rules.{Accepts}
use Rattle.warg_exchange.specs.Requests.{Asker}
use Rattle.warg_api.specs.Link.{Asked}
use Rattle.warg_store.specs.Held.{Registry}
use Rattle.warg_plan.specs.Walk.{Stop, NeedsLog, NeedsContent, Entry, nothing_known}
use Rattle.warg_assemble.specs.Known.{Known}
use Rattle.warg_assemble.specs.Parts.{Part, exchanges_in, known_by, learnt_by, learnt}
use Rattle.warg_assemble.specs.Session.{Wanted, Serves}
use Rattle.warg_learn.specs.Search.{AsksFor, Finds, IsSearchRefusal}
use Rattle.warg_learn.specs.SearchError.{SearchError}
use Rattle.warg_learn.specs.SearchError.TheVariants as search
use Rattle.warg_learn.specs.Learnt.{IsLearnt, pages_of_part}
use Rattle.warg_learn.specs.Seen.{Seen}
use Rattle.warg_learn.specs.Unlearnt.{IsUnlearnt}
use Rattle.warg_learn.specs.declared.error.LearnError.{LearnError}
use Rattle.warg_compose.specs.Read.{IsComponent}
use Rattle.warg_request.specs.Asking.{CanAsk}
use Rattle.warg_course.specs.Refusals.{IsUnanswered}
use Rattle.warg_error.specs.Plans.{learn_refusal, search_refusal}
use Rattle.warg_error.specs.declared.error.ClientError.TheVariants as told
use Rattle.warg_complete.specs.Sessions.{ProvesSession, IsFirstOf}
use Rattle.warg_complete.specs.Refusals.{IsOwnUnlearnt, IsOwnSearchRefusal}
use Rattle.warg_complete.specs.Undisturbed.{AreSteady, IsUndisturbed, IsUnreplied, pages_of_parts, registry_in}
use Rattle.warg_complete.proofs.PartLaws.{PartLaws}
use Rattle.warg_complete.proofs.LearntLaws.{OnePart, ReplyLaws, first-of, over, asked-next, part-right}
use Rattle.warg_complete.proofs.FaultLaws.{FaultLaws, own-learn-fault}
use Rattle.warg_complete.proofs.UndisturbedLaws.{IsBehind, IsShort, all_at, behind, pages_both, part_short, rose_before, unanswered_behind}

-- a stop that a part serves asks for something
serves-asks : (known : Known) (stop : Stop) (p : Part) → Serves known stop p → AsksFor stop
serves-asks known (NeedsLog name) p serves = tt
serves-asks known (NeedsContent name digest) p serves = tt
serves-asks known stop p serves = absurd serves

module _ {T D : Type 0} (Steps : T → Asked → T → Type 0) (one : OnePart Steps) (replies : ReplyLaws Steps) (accepts : Accepts) (asker : Registry → Asker) (w : Wanted) (known : Known) (parts : List Part) (es : List Entry) where
  pub found-same : (other : List Entry) (old new : Seen T D) → ProvesSession Steps accepts asker w known nothing_known parts es old → (found : Finds learnt w (IsLearnt Steps IsComponent) old new other) → (other ≡ es) × (found.parts ≡ parts)
  found-same other old new s found =
      let first = first-of Steps accepts asker w one replies known nothing_known parts found.parts es old new s found.are in
      let end = over Steps accepts asker w (known_by known found.parts) (learnt_by nothing_known found.parts) first.rest es other new first.proves_rest found.finds in
      (end.0, sym (first.front ∙ ap (λ (l : List Part). found.parts ++ l) end.1 ∙ append-nil found.parts))

  pub own-search-refusal : PartLaws Steps → FaultLaws Steps → (said : D → D → Bool → Bool) (e : SearchError (LearnError ShapeError)) (old new : Seen T D) → ProvesSession Steps accepts asker w known nothing_known parts es old
      → IsSearchRefusal learnt w (IsLearnt Steps IsComponent) (IsUnlearnt Steps said (λ bytes error. IsRefused error bytes)) old new e → IsOwnSearchRefusal Steps w known parts old new e
  own-search-refusal laws faults said (search.NoPlan stop) old new s bad =
      let first = first-of Steps accepts asker w one replies known nothing_known parts bad.parts es old new s bad.are in
      let next = asked-next Steps accepts asker w (known_by known bad.parts) (learnt_by nothing_known bad.parts) first.rest es new bad.told first.proves_rest bad.stops in
      bad.final (serves-asks (known_by known bad.parts) bad.told next.next next.serves)
  own-search-refusal laws faults said (search.Refused e) old new s bad =
      let first = first-of Steps accepts asker w one replies known nothing_known parts bad.parts es old bad.before s bad.are in
      let next = asked-next Steps accepts asker w (known_by known bad.parts) (learnt_by nothing_known bad.parts) first.rest es bad.before bad.stop first.proves_rest bad.stops in
      let right = part-right Steps accepts asker w (known_by known bad.parts) (learnt_by nothing_known bad.parts) next.next next.rest es bad.before next.proves in
      let had = replies.first (exchanges_in next.next) (flat_map exchanges_in next.rest) bad.before.transcript.link next.proves.replies in
      record {
        done = bad.parts;
        next = next.next;
        rest = next.rest;
        in_turn = first.front ∙ ap (λ (l : List Part). bad.parts ++ l) next.in_turn;
        before = bad.before;
        are = bad.are;
        fault = own-learn-fault Steps faults bad.before new (known_by known bad.parts) laws said bad.stop e next.next first.proves_rest.knows next.serves right had (bad.refuses.cause (known_by known bad.parts) first.proves_rest.knows);
        counted = bad.refuses.link_fault;
      }
  own-search-refusal laws faults said search.Memory old new s bad = tt

  -- where nothing stands in the way, the link gave no reply, or the refusal is told as want of memory
  pub undisturbed-refusal : PartLaws Steps → FaultLaws Steps → (said : D → D → Bool → Bool) (e : SearchError (LearnError ShapeError)) (old new : Seen T D) → ProvesSession Steps accepts asker w known nothing_known parts es old → IsUndisturbed parts old new
      → IsSearchRefusal learnt w (IsLearnt Steps IsComponent) (IsUnlearnt Steps said (λ bytes error. IsRefused error bytes)) old new e → (search_refusal e ≡ told.Memory) ⊎ ((search_refusal e ≡ told.LinkFault) × IsUnreplied parts old new Steps)
  undisturbed-refusal laws faults said (search.NoPlan stop) old new s calm bad = absurd (own-search-refusal laws faults said (search.NoPlan stop) old new s bad)
  undisturbed-refusal laws faults said (search.Refused e) old new s calm bad = by (part_short Steps own.before new (known_by known own.done) steady first.proves_rest.knows own.next e can pages own.fault)
    where
      own : IsOwnUnlearnt Steps w known parts old new e
      own = own-search-refusal laws faults said (search.Refused e) old new s bad

      first : IsFirstOf Steps accepts asker w known nothing_known parts es own.done own.before
      first = first-of Steps accepts asker w one replies known nothing_known parts own.done es old own.before s own.are

      then : IsBehind Steps w old own.before own.done
      then = behind Steps w nothing_known old own.before own.done known s.knows own.are

      steady : AreSteady own.before new
      steady = record {
        registries = λ rose. calm.stores.registries (rose_before old.faults.registries own.before.faults.registries new.faults.registries then.registries rose);
        contents = λ rose. calm.stores.contents (rose_before old.faults.contents own.before.faults.contents new.faults.contents then.contents rose);
        names = λ rose. calm.stores.names (rose_before old.faults.names own.before.faults.names new.faults.names then.names rose);
        reads = then.reads calm.stores.reads;
      }

      can : CanAsk (own.before.asker (registry_in own.next))
      can = subst (λ (a : Registry → Asker). CanAsk (a (registry_in own.next))) (sym then.asker)
          (all_at (λ p. CanAsk (old.asker (registry_in p))) own.done own.rest own.next (subst (λ (ps : List Part). AllByRecursion (λ p. CanAsk (old.asker (registry_in p))) ps) own.in_turn calm.can_ask))

      enough : (next rest done all before old : ℕ) → all ≡ done + (next + rest) → before + done ≡ old → all ≤ old → next ≤ before
      enough next rest done all before old a b c = omega (arith, a, b, c)

      pages : pages_of_part own.before.asker own.next ≤ own.before.pages_left
      pages = subst (λ (a : Registry → Asker). pages_of_part a own.next ≤ own.before.pages_left) (sym then.asker)
          (enough (pages_of_part old.asker own.next) (pages_of_parts old.asker own.rest) (pages_of_parts old.asker own.done) (pages_of_parts old.asker parts) own.before.pages_left old.pages_left
          (ap (pages_of_parts old.asker) own.in_turn ∙ pages_both old.asker own.done (own.next ∷ own.rest)) then.pages calm.pages)

      by : IsShort Steps own.before new (known_by known own.done) own.next e → (learn_refusal e ≡ told.Memory) ⊎ ((learn_refusal e ≡ told.LinkFault) × IsUnreplied parts old new Steps)
      by (inl memory) = inl memory
      by (inr failed) = inr (
        failed.told_so,
        record {
          unanswered = subst (λ (ps : List Part). IsUnanswered Steps (flat_map exchanges_in ps) old.transcript.link new.transcript.link) (sym own.in_turn)
              (unanswered_behind Steps old.transcript.link own.before.transcript.link new.transcript.link own.done own.rest own.next then.passed failed.unanswered);
          rose = rose_before old.faults.link own.before.faults.link new.faults.link then.link (own.counted failed.counted);
        },
      )
  undisturbed-refusal laws faults said search.Memory old new s calm bad = inl refl
