-- Entries that are equal at each key, and what is under a key that was changed.
use Rattle.std.proofs.Common.{◌≡◌, ◌&&◌, Bool, true, cond, Option, Some, None, refl, ap, ◌∙◌}
use Rattle.std.specs.Prelude.{bytes_eq}
use Rattle.std.specs.Cmp.Lexicographic.{nat_list_eq_equiv}
use Rattle.warg_exchange.specs.declared.checkpoint.SignedCheckpoint.{SignedCheckpoint}
use Rattle.warg_publish.specs.Publish.{PlainPublishInfo}
use Rattle.warg_store.specs.Entry.{Entry, Absent, Whole, Unreadable, SameEntries, with_entry, without_entries}
use Rattle.warg_store.specs.Held.{Held, Info, NamedInfo, Registry, Package, SameHeld, Tells, is_registry, is_package, is_reset, with_checkpoint, with_operator, with_package, with_publish, after_reset, entry_named}

module _ {K X : Type 0} where
  -- one after the other
  same_then : (a b c : K → Entry X) → SameEntries a b → SameEntries b c → SameEntries a c
  same_then a b c h i k = h k ∙ i k

  same_with : (is_key : K → K → Bool) (a b : K → Entry X) (key : K) (entry : Entry X) → SameEntries a b → SameEntries (with_entry is_key a key entry) (with_entry is_key b key entry)
  same_with is_key a b key entry h k = ap (λ (x : Entry X). cond (is_key key k) entry x) (h k)

  same_without : (gone : K → Bool) (a b : K → Entry X) → SameEntries a b → SameEntries (without_entries gone a) (without_entries gone b)
  same_without gone a b h k = ap (λ (x : Entry X). cond (gone k) Absent x) (h k)

  stands : (is_key : K → K → Bool) (held : K → Entry X) (key : K) (entry : Entry X) → is_key key key ≡ true → with_entry is_key held key entry key ≡ entry
  stands is_key held key entry own = ap (λ (b : Bool). cond b entry (held key)) own

pub tells_same : (told : Option Held) (held other : Held) → SameHeld held other → Tells told held → Tells told other
tells_same told held other h t = record {
  now = t.now;
  tells = t.tells;
  same = record {
    checkpoints = same_then _ _ _ t.same.checkpoints h.checkpoints;
    operators = same_then _ _ _ t.same.operators h.operators;
    packages = same_then _ _ _ t.same.packages h.packages;
    publish = t.same.publish ∙ h.publish;
  };
}

pub same_checkpoint : (held other : Held) (r : Registry) (entry : Entry SignedCheckpoint) → SameHeld held other → SameHeld (with_checkpoint held r entry) (with_checkpoint other r entry)
same_checkpoint held other r entry h =
    record { checkpoints = same_with is_registry _ _ r entry h.checkpoints; operators = h.operators; packages = h.packages; publish = h.publish }

pub same_operator : (held other : Held) (r : Registry) (entry : Entry Info) → SameHeld held other → SameHeld (with_operator held r entry) (with_operator other r entry)
same_operator held other r entry h =
    record { checkpoints = h.checkpoints; operators = same_with is_registry _ _ r entry h.operators; packages = h.packages; publish = h.publish }

pub same_package : (held other : Held) (p : Package) (entry : Entry NamedInfo) → SameHeld held other → SameHeld (with_package held p entry) (with_package other p entry)
same_package held other p entry h =
    record { checkpoints = h.checkpoints; operators = h.operators; packages = same_with is_package _ _ p entry h.packages; publish = h.publish }

pub same_publish : (held other : Held) (entry : Entry PlainPublishInfo) → SameHeld held other → SameHeld (with_publish held entry) (with_publish other entry)
same_publish held other entry h =
    record { checkpoints = h.checkpoints; operators = h.operators; packages = h.packages; publish = refl }

pub same_reset : (all : Bool) (held other : Held) → SameHeld held other → SameHeld (after_reset all held) (after_reset all other)
same_reset all held other h = record {
  checkpoints = same_without (is_reset all) _ _ h.checkpoints;
  operators = same_without (is_reset all) _ _ h.operators;
  packages = same_without (λ p. is_reset all p.0) _ _ h.packages;
  publish = refl;
}

-- ---- keys are equal to themselves

own_registry : (r : Registry) → is_registry r r ≡ true
own_registry None = refl
own_registry (Some name) = nat_list_eq_equiv.refl name

own_package : (p : Package) → is_package p p ≡ true
own_package p = ap (λ (b : Bool). b && bytes_eq p.1 p.1) (own_registry p.0) ∙ nat_list_eq_equiv.refl p.1

pub checkpoint_stands : (held : Held) (r : Registry) (entry : Entry SignedCheckpoint) → (with_checkpoint held r entry).checkpoints r ≡ entry
checkpoint_stands held r entry = stands is_registry held.checkpoints r entry (own_registry r)

pub operator_stands : (held : Held) (r : Registry) (entry : Entry Info) → (with_operator held r entry).operators r ≡ entry
operator_stands held r entry = stands is_registry held.operators r entry (own_registry r)

pub package_stands : (held : Held) (p : Package) (entry : Entry NamedInfo) → (with_package held p entry).packages p ≡ entry
package_stands held p entry = stands is_package held.packages p entry (own_package p)

pub publish_stands : (held : Held) (entry : Entry PlainPublishInfo) → (with_publish held entry).publish ≡ entry
publish_stands held entry = refl

pub named_stands : (kept : NamedInfo) → entry_named kept.name (Whole kept) ≡ Whole kept
named_stands kept = ap (λ (b : Bool). cond b (Whole kept) Unreadable) (nat_list_eq_equiv.refl kept.name)
