-- What is known, and what is a client's own, after what an update writes.
use Rattle.std.proofs.Common.{◌≡◌, Bool, true, false, cond, List, [], ◌∷◌, ◌++◌, map, Option, Some, refl, sym, ap, subst, ◌∙◌, inl, inr}
use Rattle.std.specs.List.{AllByRecursion}
use Rattle.warg_record.specs.Record.{Operator, Package as OfPackage}
use Rattle.warg_log.specs.Rules.{Accepts}
use Rattle.warg_exchange.specs.declared.checkpoint.SignedCheckpoint.{SignedCheckpoint}
use Rattle.warg_info.specs.Info.{IsLawfulLog}
use Rattle.warg_info.specs.Kept.{Kept}
use Rattle.warg_store.specs.Entry.{Entry, Whole, Unreadable, with_entry}
use Rattle.warg_store.specs.Held.{Registry, Info, NamedInfo, Held, Tells, is_registry, is_package, package_key}
use Rattle.warg_assemble.specs.Known.{Known}
use Rattle.warg_assemble.specs.Parts.{Update, Updated, known_after}
use Rattle.warg_fetch.specs.Groups.{Group, filed_info, group_writes, known_after_group}
use Rattle.warg_fetch.specs.Stored.{value_in, log_in, KnowsRegistries, IsOwn, IsOwnStore}
use Rattle.warg_fetch.specs.Writes.{Write, OperatorLog, PackageLog, LastCheckpoint, with_write, without_write, with_writes, HoldsFront, info_by, writes_of}

-- ---- what is known

log_with : (b : Bool) (info : Info) (e : Entry Info) (log : List Kept) → log_in e ≡ log → log_in (cond b (Whole info) e) ≡ cond b info.log log
log_with true info e log h = refl
log_with false info e log h = h

value_with : {X : Type 0} (b : Bool) (x : X) (e : Entry X) (o : Option X) → value_in e ≡ o → value_in (cond b (Whole x) e) ≡ cond b (Some x) o
value_with true x e o h = refl
value_with false x e o h = h

-- after what an update writes just this is known besides
pub knows_after : (known : Known) (old new : Option Held) (u : Update) (k : KnowsRegistries old known) → Tells new (with_writes k.held (writes_of u)) → KnowsRegistries new (known_after known (Updated u))
knows_after known old new u k t = record {
  held = t.now;
  tells = t.tells;
  operator = λ r. ap log_in (t.same.operators r) ∙ log_with (is_registry u.registry r) (info_by u u.operator) (k.held.operators r) (known.operator r) (k.operator r);
  checkpoint = λ r. ap value_in (t.same.checkpoints r) ∙ value_with (is_registry u.registry r) u.checkpoint (k.held.checkpoints r) (known.checkpoint r) (k.checkpoint r);
}

-- ---- writes after others

-- what is held after writes, and then others
pub writes_then : (held : Held) (ws vs : List Write) → with_writes held (ws ++ vs) ≡ with_writes (with_writes held ws) vs
writes_then held [] vs = refl
writes_then held (w ∷ ws) vs = writes_then (with_write held w) ws vs

told_front : (told : Option Held) (held : Held) (ws : List Write) → Tells told held → HoldsFront told held ws
told_front told held [] t = t
told_front told held (w ∷ ws) t = inl t

-- a front of the first writes is one of all
pub first_front : (told : Option Held) (held : Held) (ws vs : List Write) → HoldsFront told held ws → HoldsFront told held (ws ++ vs)
first_front told held [] vs front = told_front told held vs front
first_front told held (w ∷ ws) vs (inl here) = inl here
first_front told held (w ∷ ws) vs (inr (inl spoilt)) = inr (inl spoilt)
first_front told held (w ∷ ws) vs (inr (inr later)) = inr (inr (first_front told (with_write held w) ws vs later))

-- and so is a front of the others, where the first are held
pub later_front : (told : Option Held) (held : Held) (ws vs : List Write) → HoldsFront told (with_writes held ws) vs → HoldsFront told held (ws ++ vs)
later_front told held [] vs front = front
later_front told held (w ∷ ws) vs front = inr (inr (later_front told (with_write held w) ws vs front))

-- ---- writes of an operator's log, of packages' logs, and of a checkpoint

module _ {A : Type 0} (r : Registry) (kept : A → NamedInfo) where
  -- the writes of packages leave the other entries
  packages_leave : (held : Held) (ps : List A) (q : Registry) → (with_writes held (map (λ p. PackageLog r (kept p)) ps)).operators q ≡ held.operators q
  packages_leave held [] q = refl
  packages_leave held (p ∷ ps) q = packages_leave (with_write held (PackageLog r (kept p))) ps q

  packages_pass : (held : Held) (ps : List A) (q : Registry) → (with_writes held (map (λ p. PackageLog r (kept p)) ps)).checkpoints q ≡ held.checkpoints q
  packages_pass held [] q = refl
  packages_pass held (p ∷ ps) q = packages_pass (with_write held (PackageLog r (kept p))) ps q

  module _ (held : Held) (info : Info) (ps : List A) (c : SignedCheckpoint) (q : Registry) where
    pub operators_after : (with_writes held (OperatorLog r info ∷ (map (λ p. PackageLog r (kept p)) ps ++ LastCheckpoint r c ∷ []))).operators q ≡ cond (is_registry r q) (Whole info) (held.operators q)
    operators_after =
        let first = with_write held (OperatorLog r info) in
        ap (λ (h : Held). h.operators q) (writes_then first (map (λ p. PackageLog r (kept p)) ps) (LastCheckpoint r c ∷ []))
        ∙ packages_leave first ps q

    pub checkpoints_after : (with_writes held (OperatorLog r info ∷ (map (λ p. PackageLog r (kept p)) ps ++ LastCheckpoint r c ∷ []))).checkpoints q ≡ cond (is_registry r q) (Whole c) (held.checkpoints q)
    checkpoints_after =
        let first = with_write held (OperatorLog r info) in
        ap (λ (h : Held). h.checkpoints q) (writes_then first (map (λ p. PackageLog r (kept p)) ps) (LastCheckpoint r c ∷ []))
        ∙ ap (λ e. cond (is_registry r q) (Whole c) e) (packages_pass first ps q)

-- after what the update of a group writes just this is known besides
pub knows_after_group : (known : Known) (old new : Option Held) (g : Group) (k : KnowsRegistries old known) → Tells new (with_writes k.held (group_writes g)) → KnowsRegistries new (known_after_group known g)
knows_after_group known old new g k t =
    let info : Info = record { registry = g.registry; checkpoint = Some g.checkpoint.contents; log = g.logs.operator } in
    let kept = filed_info g.registry g.checkpoint.contents in
    record {
      held = t.now;
      tells = t.tells;
      operator = λ r. ap log_in (t.same.operators r ∙ operators_after g.registry kept k.held info g.logs.packages g.checkpoint r) ∙ log_with (is_registry g.registry r) info (k.held.operators r) (known.operator r) (k.operator r);
      checkpoint = λ r. ap value_in (t.same.checkpoints r ∙ checkpoints_after g.registry kept k.held info g.logs.packages g.checkpoint r) ∙ value_with (is_registry g.registry r) g.checkpoint (k.held.checkpoints r) (known.checkpoint r) (k.checkpoint r);
    }

-- ---- what is a client's own

-- a log that is written is lawful
abbrev pub IsLawfulWrite : Accepts → Write → Type 0
IsLawfulWrite accepts (OperatorLog r info) = IsLawfulLog Operator accepts info.log
IsLawfulWrite accepts (PackageLog r kept) = IsLawfulLog OfPackage accepts kept.info.log
IsLawfulWrite accepts (LastCheckpoint r c) = Unit {0}

module _ {X : Type 0} where
  value_is : (a b : X) → Whole a ≡ Whole b → a ≡ b
  value_is a b e = cc

  -- a value that is written is so
  whole_is : (Is : X → Type 0) (x : X) → Is x → (i : X) → Whole x ≡ Whole i → Is i
  whole_is Is x is i e = subst Is (value_is x i e) is

module _ {K X : Type 0} (Is : X → Type 0) (is_key : K → K → Bool) (held : K → Entry X) (key : K) where
  read_with : (b : Bool) (k : K) (new : Entry X) (x : X) → ((i : X) → new ≡ Whole i → Is i) → ((i : X) → held k ≡ Whole i → Is i) → cond b new (held k) ≡ Whole x → Is x
  read_with true k new x here there e = here x e
  read_with false k new x here there e = there x e

  -- each entry that can be read is still so
  entries_with : (new : Entry X) → ((i : X) → new ≡ Whole i → Is i) → ((k : K) (i : X) → held k ≡ Whole i → Is i) → (k : K) (i : X) → with_entry is_key held key new k ≡ Whole i → Is i
  entries_with new here there k i e = read_with (is_key key k) k new i here (there k) e

module _ (accepts : Accepts) where
  own_write : (held : Held) (w : Write) → IsOwn accepts held → IsLawfulWrite accepts w → IsOwn accepts (with_write held w)
  own_write held (OperatorLog r info) own is = record {
    operators = entries_with (λ (i : Info). IsLawfulLog Operator accepts i.log) is_registry held.operators r (Whole info) (whole_is (λ (i : Info). IsLawfulLog Operator accepts i.log) info is) own.operators;
    packages = own.packages;
  }
  own_write held (PackageLog r kept) own is = record {
    operators = own.operators;
    packages = entries_with (λ (k : NamedInfo). IsLawfulLog OfPackage accepts k.info.log) is_package held.packages (package_key r kept.name) (Whole kept) (whole_is (λ (k : NamedInfo). IsLawfulLog OfPackage accepts k.info.log) kept is) own.packages;
  }
  own_write held (LastCheckpoint r c) own is = record { operators = own.operators; packages = own.packages }

  own_without : (held : Held) (w : Write) → IsOwn accepts held → IsOwn accepts (without_write held w)
  own_without held (OperatorLog r info) own = record {
    operators = entries_with (λ (i : Info). IsLawfulLog Operator accepts i.log) is_registry held.operators r Unreadable (λ i e. absurd cc) own.operators;
    packages = own.packages;
  }
  own_without held (PackageLog r kept) own = record {
    operators = own.operators;
    packages = entries_with (λ (k : NamedInfo). IsLawfulLog OfPackage accepts k.info.log) is_package held.packages (package_key r kept.name) Unreadable (λ k e. absurd cc) own.packages;
  }
  own_without held (LastCheckpoint r c) own = record { operators = own.operators; packages = own.packages }

  own_told : (told : Option Held) (held : Held) → IsOwn accepts held → Tells told held → IsOwnStore accepts told
  own_told told held own t = record {
    held = t.now;
    tells = t.tells;
    own = record {
      operators = λ r info e. own.operators r info (sym (t.same.operators r) ∙ e);
      packages = λ p kept e. own.packages p kept (sym (t.same.packages p) ∙ e);
    };
  }

  -- a store that holds what was its client's own, and some of what its client writes, is its client's own
  pub own_front : (told : Option Held) (held : Held) (ws : List Write) → IsOwn accepts held → AllByRecursion (IsLawfulWrite accepts) ws → HoldsFront told held ws → IsOwnStore accepts told
  own_front told held [] own are front = own_told told held own front
  own_front told held (w ∷ ws) own are (inl here) = own_told told held own here
  own_front told held (w ∷ ws) own are (inr (inl spoilt)) = own_told told (without_write held w) (own_without held w own) spoilt
  own_front told held (w ∷ ws) own are (inr (inr later)) = own_front told (with_write held w) ws (own_write held w own are.0) are.1 later

  -- and so is one that holds a front of what an update with lawful logs writes
  pub own_after : (told : Option Held) (held : Held) (u : Update) → IsOwn accepts held → IsLawfulLog Operator accepts u.operator → IsLawfulLog OfPackage accepts u.log → HoldsFront told held (writes_of u) → IsOwnStore accepts told
  own_after told held u own operator log front = own_front told held (writes_of u) own (operator, (log, (record {}, record {}))) front
