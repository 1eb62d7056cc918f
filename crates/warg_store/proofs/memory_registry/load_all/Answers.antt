-- Each slot is listed, or is refused.
use Rattle.std.proofs.Common.{◌≡◌, ◌≢◌, [], All, Some, IfSome, Option, Vec, ap, map, sym, subst, ◌∙◌}
use Rattle.std.specs.Global.{Global}
use Rattle.std.specs.Map.{lookup}
use Rattle.std.specs.Map.Iter.{deref_pair}
use Rattle.std.proofs.lemmas.List.Elements.{All-nil}
use Rattle.std.proofs.lemmas.Map.Iter.{rest_all, rest_more}
use Rattle.warg_info.specs.declared.package.PackageInfo.{PackageInfo}
use Rattle.warg_info.specs.Info.{IsSoundPackage}
use Rattle.warg_store.specs.Held.{Registry, is_registry, named_info}
use Rattle.warg_store.specs.Listed.{IsListingFault, entry_under, infos_of, listed_in}
use Rattle.warg_store.specs.ListedLaws.{named_more, sound_more}
use Rattle.warg_store.specs.Slots.{slot_entry}
use Rattle.warg_store.proofs.ListingLaws.{SoFar, Slots, all_so_far, handed_on, held_by, infos_at, none_so_far, of_one_entry, one_more, one_unreadable}
use Rattle.warg_store.proofs.memory_registry.load_all.Goals as goal

pub loop-key-init : goal.loop-key-init
loop-key-init c =
    let gives = c.into_iter-key-iterator.ensures.into_iter_gives in
    let whole = c.args.packages.now.slots.entries in
    let none : (r : Registry) → infos_of c.new-all.result r ≡ [] = (λ r. ap (λ es. infos_at (lookup (is_registry r) es)) c.new-all.ensures.empty) in
    record {
      so_far = subst (λ (rest : Slots). SoFar whole rest (listed_in c.new-all.result)) (sym gives.0) (none_so_far whole (listed_in c.new-all.result) gives.4 (λ r. ap (map named_info) (none r)));
      sound = λ r. subst (All IsSoundPackage) (sym (none r)) (All-nil IsSoundPackage);
      have_some = λ r. subst (λ (o : Option (Vec PackageInfo Global)). IfSome o (λ l. l.items ≢ [])) (sym (ap (λ es. lookup (is_registry r) es) c.new-all.ensures.empty)) tt;
    }

pub returns-in_err-info-clause-fault : goal.returns-in_err-info-clause-fault
returns-in_err-info-clause-fault c = λ before after.
    let whole = c.args.packages.now.slots.entries in
    let left = rest_more deref_pair c.loop-key.key-iterator c.next.new.self c.next.result (c.in-Some.key, c.in-Some.slot) c.in-Some.is c.next.ensures.steps in
    let e = c.in_err-info.field-0.0 in
    handed_on c.from_residual.result e (λ d. IsListingFault d before after (Some (held_by whole))) c.from_residual.ensures.1
    (of_one_entry e before after (held_by whole) (entry_under c.in-Some.key.now.1 (slot_entry named_info (Some c.in-Some.slot.now))) (c.in_err-info.ensures.fault before after)
    (one_unreadable whole c.loop-key.key-iterator c.next.new.self (listed_in c.loop-key.all) c.in-Some.key.now c.in-Some.slot.now c.loop-key.invariant.so_far left))

pub loop-key-preserved : goal.loop-key-preserved
loop-key-preserved c =
    let whole = c.args.packages.now.slots.entries in
    let left = rest_more deref_pair c.loop-key.key-iterator c.next.new.self c.next.result (c.in-Some.key, c.in-Some.slot) c.in-Some.is c.next.ensures.steps in
    let key = c.in-Some.key.now in
    let info = c.in_ok-info.info in
    let registry = c.in_ok-registry.registry in
    let same : registry ≡ key.0 = c.in_ok-registry.ensures ∙ c.as_ref.ensures.value in
    record {
      so_far = one_more whole c.loop-key.key-iterator c.next.new.self (listed_in c.loop-key.all) key c.in-Some.slot.now c.loop-key.invariant.so_far left (listed_in c.list_package.new.all) (registry, named_info info) (λ i. (sym same i, c.in_ok-info.ensures.id i)) c.in_ok-info.ensures.found
          (λ r. named_more (infos_of c.list_package.new.all r) (infos_of c.loop-key.all r) info (is_registry registry r) (c.in_ok-list_package.ensures.listed r));
      sound = λ r. sound_more (infos_of c.list_package.new.all r) (infos_of c.loop-key.all r) info (is_registry registry r) (c.in_ok-list_package.ensures.listed r) (c.loop-key.invariant.sound r) c.in_ok-info.ensures.sound;
      have_some = c.in_ok-list_package.ensures.have_some c.loop-key.invariant.have_some;
    }

pub returns-clause-found : goal.returns-clause-found
returns-clause-found c =
    let whole = c.args.packages.now.slots.entries in
    all_so_far whole c.loop-key.key-iterator (listed_in c.loop-key.all) c.loop-key.invariant.so_far (rest_all deref_pair c.loop-key.key-iterator c.next.new.self c.next.result c.in-None.is c.next.ensures.steps)
