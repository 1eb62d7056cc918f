-- What a store tells after it was asked, and why it does not give what it was asked for.
use Rattle.std.proofs.Common.{◌≡◌, ℕ, ◌≤◌, List, [], ◌∷◌, Option, Some, None, option_map, IfSome, refl, sym, ap, subst, ◌∙◌, inl, inr, arith}
use Rattle.warg_values.specs.Faults.{Rose}
use Rattle.warg_record.specs.Record.{Kind, Operator, Package as OfPackage}
use Rattle.warg_log.specs.Lawful.{IsLawful}
use Rattle.warg_log.specs.Rules.{Accepts}
use Rattle.warg_info.specs.declared.package.PackageInfo.{PackageInfo}
use Rattle.warg_info.specs.Info.{package_log, IsSoundPackage, IsLawfulLog}
use Rattle.warg_info.specs.Kept.{Kept}
use Rattle.warg_page.specs.Steps.{IsGood}
use Rattle.warg_store.specs.declared.error.EntryKind.{EntryKind}
use Rattle.warg_store.specs.declared.error.EntryKind.TheVariants as kind
use Rattle.warg_store.specs.declared.error.StoreError.{StoreError}
use Rattle.warg_store.specs.declared.error.StoreError.TheVariants as error
use Rattle.warg_store.specs.Entry.{Entry, Absent, Whole, Unreadable, IsLoadFault}
use Rattle.warg_store.specs.Held.{Registry, Info, Held, SameHeld, Tells}
use Rattle.warg_assemble.specs.Known.{Known}
use Rattle.warg_fetch.specs.Fetched.{IsStartFault}
use Rattle.warg_fetch.specs.Stored.{value_in, log_in, KnowsRegistries, IsOwn, IsOwnStore}

pub if_some : {X : Type 0} (P : X → Type 0) (o : Option X) (x : X) → o ≡ Some x → IfSome o P → P x
if_some P o x e h = subst (λ o. IfSome o P) e h

-- what a store tells that was asked twice
pub tells_then : (a b c : Option Held) → IfSome a (Tells b) → IfSome b (Tells c) → IfSome a (Tells c)
tells_then None b c first later = record {}
tells_then (Some held) b c first later =
    let t : Tells c first.now = if_some (Tells c) b first.now first.tells later in
    record {
      now = t.now;
      tells = t.tells;
      same = record {
        checkpoints = λ r. t.same.checkpoints r ∙ first.same.checkpoints r;
        operators = λ r. t.same.operators r ∙ first.same.operators r;
        packages = λ p. t.same.packages p ∙ first.same.packages p;
        publish = t.same.publish ∙ first.same.publish;
      };
    }

-- a store that tells the same knows the same
pub knows_still : (known : Known) (old new : Option Held) → KnowsRegistries old known → IfSome old (Tells new) → KnowsRegistries new known
knows_still known old new k kept =
    let t : Tells new k.held = if_some (Tells new) old k.held k.tells kept in
    record {
      held = t.now;
      tells = t.tells;
      operator = λ r. ap log_in (t.same.operators r) ∙ k.operator r;
      checkpoint = λ r. ap value_in (t.same.checkpoints r) ∙ k.checkpoint r;
    }

-- ---- what is a client's own

none_lawful : (kind : Kind) (accepts : Accepts) → IsLawful kind accepts []
none_lawful kind accepts [] after s e = absurd cc
none_lawful kind accepts (b ∷ before) after s e = absurd cc

-- the log of an entry is lawful
lawful_log : (kind : Kind) (accepts : Accepts) (e : Entry Info) → ((info : Info) → e ≡ Whole info → IsLawfulLog kind accepts info.log) → IsLawfulLog kind accepts (log_in e)
lawful_log kind accepts Absent own = none_lawful kind accepts
lawful_log kind accepts (Whole info) own = own info refl
lawful_log kind accepts Unreadable own = none_lawful kind accepts

-- an operator's log that is loaded is lawful
pub loaded_lawful : (accepts : Accepts) (told : Option Held) (r : Registry) (log : List Kept) → IsOwnStore accepts told → IfSome told (λ held. log ≡ log_in (held.operators r)) → IsLawfulLog Operator accepts log
loaded_lawful accepts told r log o found =
    subst (λ l. IsLawfulLog Operator accepts l) (sym (if_some (λ held. log ≡ log_in (held.operators r)) told o.held o.tells found)) (lawful_log Operator accepts (o.held.operators r) (o.own.operators r))

-- a package without records is good
pub new_is_good : (accepts : Accepts) (info : PackageInfo) → IsSoundPackage info → package_log info ≡ [] → IsGood accepts info
new_is_good accepts info sound e = record { sound = sound; lawful = subst (λ l. IsLawfulLog OfPackage accepts l) (sym e) (none_lawful OfPackage accepts) }

-- the same entries are as lawful
pub same_own : (accepts : Accepts) (now held : Held) → SameHeld now held → IsOwn accepts held → IsOwn accepts now
same_own accepts now held same own = record {
  operators = λ r info e. own.operators r info (sym (same.operators r) ∙ e);
  packages = λ p info e. own.packages p info (sym (same.packages p) ∙ e);
}

-- a store that tells the same is its client's own as before
pub own_still : (accepts : Accepts) (old new : Option Held) → IsOwnStore accepts old → IfSome old (Tells new) → IsOwnStore accepts new
own_still accepts old new o kept =
    let t : Tells new o.held = if_some (Tells new) old o.held o.tells kept in
    record { held = t.now; tells = t.tells; own = same_own accepts t.now o.held t.same o.own }

pub rose_before : (a b c : ℕ) → a ≤ b → Rose b c → Rose a c
rose_before a b c le rose = omega arith

-- a load that is refused later is refused by what was told before
pub later_fault : {X : Type 0} (entry : Held → Entry X) (e : StoreError) (kind : EntryKind) (a b c : ℕ) (old new : Option Held) → ((now held : Held) → SameHeld now held → entry now ≡ entry held) → a ≤ b → IfSome old (Tells new)
    → IsLoadFault e kind b c (option_map entry new) → IsLoadFault e kind a c (option_map entry old)
later_fault entry error.Failed kind a b c old new same le kept h = rose_before a b c le h
later_fault entry (error.Damaged damaged) kind a b c None new same le kept h = (h.0, record {})
later_fault entry (error.Damaged damaged) kind a b c (Some held) new same le kept h =
    (h.0, sym (same kept.now held kept.same) ∙ if_some (λ e. e ≡ Unreadable) (option_map entry new) (entry kept.now) (ap (option_map entry) kept.tells) h.1)
later_fault entry (error.IncorrectContent digest expected) kind a b c old new same le kept h = absurd h
later_fault entry error.Memory kind a b c old new same le kept h = record {}

-- what is kept of a registry is not loaded later, for a reason by what was told before
pub later_start : (e : StoreError) (r s : Registry) (a b c : ℕ) (old new : Option Held) → r ≡ s → a ≤ b → IfSome old (Tells new) → IsStartFault e r (record { before = b; after = c; told = new })
    → IsStartFault e s (record { before = a; after = c; told = old })
later_start e r s a b c old new is le kept h = subst (λ q. IsStartFault e q (record { before = a; after = c; told = old })) is (by h)
  where
    by : IsStartFault e r (record { before = b; after = c; told = new }) → IsStartFault e r (record { before = a; after = c; told = old })
    by (inl h) = inl (later_fault (λ (held : Held). held.operators r) e kind.Operator a b c old new (λ now held same. same.operators r) le kept h)
    by (inr h) = inr (later_fault (λ (held : Held). held.checkpoints r) e kind.Checkpoint a b c old new (λ now held same. same.checkpoints r) le kept h)
