-- What a store holds once the logs of packages of one registry were to be kept, one after the other.
use Rattle.std.proofs.Common.{◌≡◌, ℕ, ◌<◌, ◌+◌, ◌⊎◌, List, [], ◌∷◌, ◌++◌, length, take, drop, get_or, Option, Some, None, IfSome, refl, sym, ap, subst, ◌∙◌, inl, inr}
use Rattle.std.proofs.lemmas.List.{drop_more, map-append, take-append-drop, take_more}
use Rattle.warg_info.specs.declared.package.PackageInfo.{PackageInfo}
use Rattle.warg_store.specs.Entry.{Whole}
use Rattle.warg_store.specs.Held.{Registry, Held, SameHeld, Tells, LeavesStore, named_info, operator_info, package_key, with_checkpoint, with_operator, with_package}
use Rattle.warg_fetch.specs.Groups.{package_writes, writes_in_group}
use Rattle.warg_fetch.specs.StoredLaws.{if_some}
use Rattle.warg_fetch.specs.WriteLaws.{first_front, later_front, writes_then}
use Rattle.warg_fetch.specs.Writes.{Write, OperatorLog, PackageLog, LastCheckpoint, HoldsFront, with_write, without_write, with_writes}
use Rattle.warg_fetch.specs.declared.group.GroupUpdate.{GroupUpdate}
use Rattle.warg_fetch.proofs.KeptLaws.{front_still, tells_same, write_still}

-- ---- one list of writes after another

writes_still : (now held : Held) (ws : List Write) → SameHeld now held → SameHeld (with_writes now ws) (with_writes held ws)
writes_still now held [] same = same
writes_still now held (w ∷ ws) same = writes_still (with_write now w) (with_write held w) ws (write_still now held w same)

-- all of the first are held, and then all of the others
pub all_then : (old mid new : Option Held) (ws vs : List Write) → IfSome old (λ held. Tells mid (with_writes held ws)) → IfSome mid (λ held. Tells new (with_writes held vs)) → IfSome old (λ held. Tells new (with_writes held (ws ++ vs)))
all_then None mid new ws vs first later = record {}
all_then (Some held) mid new ws vs first later =
    let all : Tells new (with_writes first.now vs) = if_some (λ (h : Held). Tells new (with_writes h vs)) mid first.now first.tells later in
    subst (Tells new) (sym (writes_then held ws vs)) (tells_same new (with_writes first.now vs) (with_writes (with_writes held ws) vs) (writes_still first.now (with_writes held ws) vs first.same) all)

-- all of the first are held, and a front of the others
pub front_then : (old mid new : Option Held) (ws vs : List Write) → IfSome old (λ held. Tells mid (with_writes held ws)) → IfSome mid (λ held. HoldsFront new held vs) → IfSome old (λ held. HoldsFront new held (ws ++ vs))
front_then None mid new ws vs first later = record {}
front_then (Some held) mid new ws vs first later =
    let front : HoldsFront new first.now vs = if_some (λ (h : Held). HoldsFront new h vs) mid first.now first.tells later in
    later_front new held ws vs (front_still new first.now (with_writes held ws) vs first.same front)

-- a front of the first is held
pub front_first : (old new : Option Held) (ws vs : List Write) → IfSome old (λ held. HoldsFront new held ws) → IfSome old (λ held. HoldsFront new held (ws ++ vs))
front_first None new ws vs front = record {}
front_first (Some held) new ws vs front = first_front new held ws vs front

-- what a refused store leaves is a front of its one write
one_front : (new : Option Held) (held : Held) (w : Write) → Tells new held ⊎ (Tells new (with_write held w) ⊎ Tells new (without_write held w)) → HoldsFront new held (w ∷ [])
one_front new held w (inl here) = inl here
one_front new held w (inr (inl whole)) = inr (inr whole)
one_front new held w (inr (inr spoilt)) = inr (inl spoilt)

one_left : (old new : Option Held) (w : Write) → IfSome old (λ held. Tells new held ⊎ (Tells new (with_write held w) ⊎ Tells new (without_write held w))) → IfSome old (λ held. HoldsFront new held (w ∷ []))
one_left None new w left = record {}
one_left (Some held) new w left = one_front new held w left

-- ---- the packages, one after the other

-- a store tells what it holds
pub itself : (told : Option Held) → IfSome told (Tells told)
itself None = record {}
itself (Some held) = record {
  now = held;
  tells = refl;
  same = record { checkpoints = λ r. refl; operators = λ r. refl; packages = λ p. refl; publish = refl };
}

pub no_package_yet : (told : Option Held) (r : Registry) (infos : List PackageInfo) → IfSome told (λ held. Tells told (with_writes held (package_writes r (take 0 infos))))
no_package_yet told r [] = itself told
no_package_yet told r (i ∷ is) = itself told

writes_append : (r : Registry) (xs ys : List PackageInfo) → package_writes r (xs ++ ys) ≡ package_writes r xs ++ package_writes r ys
writes_append r xs ys = map-append (λ (i : PackageInfo). PackageLog r (named_info i)) xs ys

module _ (old mid new : Option Held) (r : Registry) (infos : List PackageInfo) (at : ℕ) (info : PackageInfo) (lt : at < length infos) (is : info ≡ get_or infos at info) where
  one_more : take (at + 1) infos ≡ take at infos ++ info ∷ []
  one_more = take_more infos at info lt ∙ ap (λ i. take at infos ++ i ∷ []) (sym is)

  parts : infos ≡ take at infos ++ info ∷ drop (at + 1) infos
  parts = sym (take-append-drop at infos) ∙ ap (λ l. take at infos ++ l) (drop_more infos at info lt ∙ ap (λ i. i ∷ drop (at + 1) infos) (sym is))

  -- one more is kept
  pub package_more : IfSome old (λ held. Tells mid (with_writes held (package_writes r (take at infos)))) → IfSome mid (λ held. Tells new (with_package held (package_key r info.name) (Whole (named_info info))))
      → IfSome old (λ held. Tells new (with_writes held (package_writes r (take (at + 1) infos))))
  package_more before stored =
      subst (λ ws. IfSome old (λ held. Tells new (with_writes held ws))) (sym (ap (package_writes r) one_more ∙ writes_append r (take at infos) (info ∷ [])))
      (all_then old mid new (package_writes r (take at infos)) (package_writes r (info ∷ [])) before stored)

  -- one is not kept
  pub package_refused : IfSome old (λ held. Tells mid (with_writes held (package_writes r (take at infos)))) → IfSome mid (λ held. LeavesStore new held (with_package held (package_key r info.name)) (named_info info))
      → IfSome old (λ held. HoldsFront new held (package_writes r infos))
  package_refused before refused =
      subst (λ ws. IfSome old (λ held. HoldsFront new held ws)) (sym (ap (package_writes r) parts ∙ writes_append r (take at infos) (info ∷ drop (at + 1) infos)))
      (front_then old mid new (package_writes r (take at infos)) (package_writes r (info ∷ drop (at + 1) infos)) before
      (front_first mid new (package_writes r (info ∷ [])) (package_writes r (drop (at + 1) infos)) (one_left mid new (PackageLog r (named_info info)) refused)))

-- ---- the operator's log before them, and the checkpoint behind them

module _ (old loaded stored new : Option Held) (r : Registry) (got : GroupUpdate) (infos : List PackageInfo) (is : r ≡ got.registry) (are : infos ≡ got.packages.items) where
  abbrev Kept : Option Held → Option Held → List Write → Type 0
  Kept a b ws = IfSome a (λ held. Tells b (with_writes held ws))

  abbrev Left : Option Held → Option Held → List Write → Type 0
  Left a b ws = IfSome a (λ held. HoldsFront b held ws)

  abbrev operator : List Write
  operator = OperatorLog r (operator_info got.operator) ∷ []

  abbrev checkpoint : List Write
  checkpoint = LastCheckpoint r got.checkpoint ∷ []

  same : operator ++ (package_writes r infos ++ checkpoint) ≡ writes_in_group got
  same = ap (λ q. OperatorLog q (operator_info got.operator) ∷ (package_writes q infos ++ LastCheckpoint q got.checkpoint ∷ [])) is
      ∙ ap (λ l. OperatorLog got.registry (operator_info got.operator) ∷ (package_writes got.registry l ++ LastCheckpoint got.registry got.checkpoint ∷ [])) are

  -- all is kept
  pub group_stored : IfSome old (λ held. Tells loaded (with_operator held r (Whole (operator_info got.operator)))) → Kept loaded stored (package_writes r infos) → IfSome stored (λ held. Tells new (with_checkpoint held r (Whole got.checkpoint)))
      → IfSome old (λ held. Tells new (with_writes held (writes_in_group got)))
  group_stored a b c = subst (Kept old new) same (all_then old loaded new operator (package_writes r infos ++ checkpoint) a (all_then loaded stored new (package_writes r infos) checkpoint b c))

  -- the operator's log is not kept
  pub operator_refused : IfSome old (λ held. LeavesStore new held (with_operator held r) (operator_info got.operator)) → IfSome old (λ held. HoldsFront new held (writes_in_group got))
  operator_refused a = subst (Left old new) same (front_first old new operator (package_writes r infos ++ checkpoint) (one_left old new (OperatorLog r (operator_info got.operator)) a))

  -- a package is not kept
  pub packages_refused : IfSome old (λ held. Tells loaded (with_operator held r (Whole (operator_info got.operator)))) → Left loaded new (package_writes r infos) → IfSome old (λ held. HoldsFront new held (writes_in_group got))
  packages_refused a b = subst (Left old new) same (front_then old loaded new operator (package_writes r infos ++ checkpoint) a (front_first loaded new (package_writes r infos) checkpoint b))

  -- the checkpoint is not kept
  pub checkpoint_refused : IfSome old (λ held. Tells loaded (with_operator held r (Whole (operator_info got.operator)))) → Kept loaded stored (package_writes r infos)
      → IfSome stored (λ held. LeavesStore new held (with_checkpoint held r) got.checkpoint) → IfSome old (λ held. HoldsFront new held (writes_in_group got))
  checkpoint_refused a b c = subst (Left old new) same (front_then old loaded new operator (package_writes r infos ++ checkpoint) a (front_then loaded stored new (package_writes r infos) checkpoint b (one_left stored new (LastCheckpoint r got.checkpoint) c)))
