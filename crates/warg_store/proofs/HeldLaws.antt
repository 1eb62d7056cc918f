-- What is held after an entry changed.
use Rattle.std.proofs.Common.{◌≡◌, Bool, false, true≢false, Option, Some, None, option_map, is_some, IsSome, Result, Ok, Err, IfOk, IsErrOf, sym, ap, ◌∙◌}
use Rattle.warg_exchange.specs.declared.checkpoint.SignedCheckpoint.{SignedCheckpoint}
use Rattle.warg_store.specs.declared.error.StoreError.{StoreError}
use Rattle.warg_store.specs.declared.error.StoreError.TheVariants as error
use Rattle.warg_store.specs.Faults.{has_store_failed}
use Rattle.warg_store.specs.declared.after.After.{After}
use Rattle.warg_store.specs.declared.after.After.TheVariants as after
use Rattle.warg_store.specs.Entry.{Entry, SameEntries, entry_of}
use Rattle.warg_store.specs.Held.{Held, Info, NamedInfo, Registry, Package, is_registry, is_package, with_checkpoint, with_operator, with_package}
use Rattle.warg_store.specs.Memory.{IsAfterStore}
use Rattle.warg_store.specs.Slots.{AreAfterStore}

-- a value that is seen as it is
pub found_as_it_is : {X E : Type 0} (r : Result (Option X) E) (e : Entry X) → IfOk r (λ o. e ≡ entry_of (option_map (λ x. x) o)) → IfOk r (λ o. e ≡ entry_of o)
found_as_it_is (Ok None) e h = h
found_as_it_is (Ok (Some x)) e h = h
found_as_it_is (Err error) e h = h

-- the checkpoints alone changed
pub after_checkpoint : (failing : Option After) (held now : Held) (r : Registry) (c : SignedCheckpoint) → SameEntries now.operators held.operators → SameEntries now.packages held.packages → now.publish ≡ held.publish → AreAfterStore is_registry failing held.checkpoints r c now.checkpoints → IsAfterStore failing held (with_checkpoint held r) c now
after_checkpoint None held now r c o p same put = record { checkpoints = put; operators = o; packages = p; publish = same }
after_checkpoint (Some after.Old) held now r c o p same put = record { checkpoints = put; operators = o; packages = p; publish = same }
after_checkpoint (Some after.New) held now r c o p same put = record { checkpoints = put; operators = o; packages = p; publish = same }
after_checkpoint (Some after.Unreadable) held now r c o p same put = record { checkpoints = put; operators = o; packages = p; publish = same }

-- an answer that is no failure
pub is_no_failure : {X : Type 0} (r : Result X StoreError) → has_store_failed r ≡ false → IsErrOf r error.Failed → ⊥
is_no_failure r h failed = true≢false (sym (ap (λ r. has_store_failed r) failed) ∙ h)

-- a call that was not planned to fail
pub is_not_planned : {X : Type 0} (o : Option X) (b : Bool) → b ≡ false → b ≡ is_some o → IsSome o → ⊥
is_not_planned o b fine is some = true≢false (sym some ∙ (sym is ∙ fine))

-- the logs of operators alone changed
pub after_operator : (failing : Option After) (held now : Held) (k : Registry) (info : Info) → SameEntries now.checkpoints held.checkpoints → SameEntries now.packages held.packages → now.publish ≡ held.publish → AreAfterStore is_registry failing held.operators k info now.operators → IsAfterStore failing held (with_operator held k) info now
after_operator None held now k info c p same put = record { checkpoints = c; operators = put; packages = p; publish = same }
after_operator (Some after.Old) held now k info c p same put = record { checkpoints = c; operators = put; packages = p; publish = same }
after_operator (Some after.New) held now k info c p same put = record { checkpoints = c; operators = put; packages = p; publish = same }
after_operator (Some after.Unreadable) held now k info c p same put = record { checkpoints = c; operators = put; packages = p; publish = same }

-- the logs of packages alone changed
pub after_package : (failing : Option After) (held now : Held) (k : Package) (info : NamedInfo) → SameEntries now.checkpoints held.checkpoints → SameEntries now.operators held.operators → now.publish ≡ held.publish → AreAfterStore is_package failing held.packages k info now.packages → IsAfterStore failing held (with_package held k) info now
after_package None held now k info c o same put = record { checkpoints = c; operators = o; packages = put; publish = same }
after_package (Some after.Old) held now k info c o same put = record { checkpoints = c; operators = o; packages = put; publish = same }
after_package (Some after.New) held now k info c o same put = record { checkpoints = c; operators = o; packages = put; publish = same }
after_package (Some after.Unreadable) held now k info c o same put = record { checkpoints = c; operators = o; packages = put; publish = same }
