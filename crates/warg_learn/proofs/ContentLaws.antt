-- What a content teaches a learner, and what is left where it teaches nothing.
use Rattle.std.proofs.Common.{◌≡◌, ℕ, ◌≤◌, Bool, true, List, Some, IfSome, bytes_eq, refl, sym, ap, subst, ◌∙◌, inl, inr, arith}
use Rattle.std.specs.Map.{lookup}
use Rattle.sha2.specs.Sha256.{sha256}
use Rattle.warg_values.specs.Faults.{Rose}
use Rattle.warg_api.specs.Link.{Asked}
use Rattle.warg_api.specs.declared.error.ClientError.TheVariants as call
use Rattle.warg_session.specs.Recording.{AreKept}
use Rattle.warg_store.specs.Held.{Registry}
use Rattle.warg_plan.specs.Known.{with_content}
use Rattle.warg_plan.specs.Walk.{Content, Facts, NeedsContent}
use Rattle.warg_assemble.specs.Known.{Known}
use Rattle.warg_assemble.specs.Parts.{Load, Loaded, Part, Comes, learnt, updated_under}
use Rattle.warg_fetch.specs.declared.error.LoadError.{LoadError}
use Rattle.warg_fetch.specs.declared.error.LoadError.TheVariants as load
use Rattle.warg_fetch.specs.Loaded.{IsContentFetched, IsLoadRefusal, LeavesFetch, with_bytes}
use Rattle.warg_fetch.specs.Stored.{CanBeRead, IsOwn, KnowsContents}
use Rattle.warg_learn.specs.Learnt.{IsLearnt}
use Rattle.warg_learn.specs.Refusals.{load_refusal}
use Rattle.warg_learn.specs.Seen.{Seen, IsSame, NeverFalls, updated_in, content_loads}
use Rattle.warg_learn.specs.Unlearnt.{IsUnlearnt, IsLearnFault, is_link_fault}
use Rattle.warg_learn.specs.declared.error.LearnError.TheVariants as error
use Rattle.warg_learn.proofs.SeenLaws.{at_most, since, since_is, same_seen, none_falls}

-- a content is refused by the link where the learner says so
link_fault_by : (E : Type 0) (e : LoadError) → is_link_fault {E = E} (load_refusal e) ≡ true → e ≡ load.Call call.LinkFault
link_fault_by E (load.Call call.LinkFault) h = refl
link_fault_by E (load.Call _) h = absurd cc
link_fault_by E (load.Store e) h = absurd cc
link_fault_by E load.Memory h = absurd cc

-- what the fetch of a content leaves as it is
pub record LeavesRest {T D : Type 0} (old new : Seen T D) : Type 0 where
  pub same : IsSame old new
  pub registries : new.registries ≡ old.registries
  pub names : new.names ≡ old.names
  pub updated : new.updated ≡ old.updated
  pub never_falls : NeverFalls old new

pub rest_by : {T D : Type 0} (old new : Seen T D) → new.accepts ≡ old.accepts → new.asker ≡ old.asker → new.registries ≡ old.registries → new.names ≡ old.names → new.updated ≡ old.updated
    → old.faults.link ≤ new.faults.link → old.faults.registries ≡ new.faults.registries → old.faults.contents ≤ new.faults.contents → old.faults.names ≡ new.faults.names → LeavesRest old new
rest_by old new accepts asker registries names updated link kept contents held = record {
  same = record { accepts = accepts; asker = asker };
  registries = registries;
  names = names;
  updated = updated;
  never_falls = record { link = link; registries = at_most kept; contents = contents; names = at_most held };
}

module _ {T D : Type 0} (Steps : T → Asked → T → Type 0) (old new : Seen T D) (name digest : List ℕ) (registry : Registry) where
  -- the content was fetched under this registry, and just its bytes are known besides
  pub record IsTaught (bytes : List ℕ) : Type 0 where
    pub rest : LeavesRest old new
    pub under : updated_in old name ≡ Some registry
    pub digest_is : sha256 bytes ≡ digest
    pub fetched : (known : Known) → KnowsContents old.contents known → IsContentFetched (old.asker registry) digest Steps old.transcript new.transcript known bytes
    pub kept : (known : Known) → KnowsContents old.contents known → KnowsContents new.contents (with_bytes known digest bytes)

  module _ {E : Type 0} (said : D → D → Bool → Bool) (Refuses : List ℕ → E → Type 0) where
    cause_by : (known : Known) (e : LoadError) → updated_under known name ≡ Some registry → IsLoadRefusal (old.asker registry) digest Steps old.transcript new.transcript e (content_loads old new)
        → IsLearnFault Steps old new known said Refuses (NeedsContent name digest) (load_refusal e)
    cause_by known (load.Store e) under h = record { registry = registry; updated = under; holds = h }
    cause_by known (load.Call e) under h = record { registry = registry; updated = under; holds = h }
    cause_by known load.Memory under h = record {}

    -- a content is not fetched
    pub content_unfetched : (e : LoadError) → LeavesRest old new → updated_in old name ≡ Some registry → (e ≡ load.Call call.LinkFault → Rose old.faults.link new.faults.link)
        → IsLoadRefusal (old.asker registry) digest Steps old.transcript new.transcript e (content_loads old new)
        → IfSome old.contents (λ held. LeavesFetch (old.asker registry) digest Steps old.transcript new.transcript new.contents held)
        → IsUnlearnt Steps said Refuses old (NeedsContent name digest) (load_refusal e) new
    content_unfetched e rest under rose cause leaves = record {
      same = rest.same;
      never_falls = rest.never_falls;
      link_fault = λ h. rose (link_fault_by E e h);
      cause = λ known k. cause_by known e (k.updated name ∙ under) cause;
      leaves = λ known k. record {
        registries = rest.registries;
        contents = inr (record { registry = registry; updated = k.updated name ∙ under; holds = inl leaves });
        names = rest.names;
        updated = rest.updated;
      };
      own = λ known k. record { held = k.stores.own.held; tells = rest.registries ∙ k.stores.own.tells; own = k.stores.own.own };
      begun = λ known k. record {};
    }

    -- a content is fetched, and not read
    pub content_unread : (bytes : List ℕ) (e : E) → IsTaught bytes → Refuses bytes e → IsUnlearnt Steps said Refuses old (NeedsContent name digest) (error.Content e) new
    content_unread bytes e taught refused = record {
      same = taught.rest.same;
      never_falls = taught.rest.never_falls;
      link_fault = λ h. absurd cc;
      cause = λ known k. record {
        registry = registry;
        updated = k.updated name ∙ taught.under;
        holds = record { bytes = bytes; fetched = taught.fetched known k.contents; digest_is = taught.digest_is; refused = refused };
      };
      leaves = λ known k. record {
        registries = taught.rest.registries;
        contents = inr (record {
          registry = registry;
          updated = k.updated name ∙ taught.under;
          holds = inr (record { bytes = bytes; fetched = taught.fetched known k.contents; knows = taught.kept known k.contents });
        });
        names = taught.rest.names;
        updated = taught.rest.updated;
      };
      own = λ known k. record { held = k.stores.own.held; tells = taught.rest.registries ∙ k.stores.own.tells; own = k.stores.own.own };
      begun = λ known k. record {};
    }

  -- ---- what is learnt

  -- a content, with the exchanges since it was asked for
  abbrev pub load_since : Content → Load
  load_since content = record { registry = registry; digest = digest; exchanges = since old.transcript new.transcript; content = content }

  pub content_learnt : (Reads : Content → Type 0) (content : Content) (bytes : List ℕ) → IsTaught bytes → content.bytes ≡ bytes → new.pages_left ≡ old.pages_left → new.decider ≡ old.decider → Reads content
      → (lesson : Part) × ((facts : Facts) → learnt facts lesson ≡ with_content facts digest content) × IsLearnt Steps Reads old (NeedsContent name digest) lesson new
  content_learnt Reads content bytes taught same pages undecided reads = (
    Loaded (load_since content),
    λ facts. refl,
    record {
      same = taught.rest.same;
      never_falls = taught.rest.never_falls;
      reads = λ all. record {
        registries = record { held = all.registries.held; tells = taught.rest.registries ∙ all.registries.tells; operators = all.registries.operators; checkpoints = all.registries.checkpoints };
        names = subst (λ o. IfSome o CanBeRead) (sym taught.rest.names) all.names;
      };
      content = record { digest = ap sha256 same ∙ taught.digest_is; reads = reads };
      right = λ known k.
          let f = taught.fetched known k.contents in
          let xs = since_is old.transcript new.transcript f.exchanges f.kept.exchanges in
          let kept = taught.kept known k.contents in
          record {
            serves = (refl, k.updated name ∙ taught.under);
            is = record {
              comes = subst (λ bs. Comes (old.asker registry) (known.contents digest) digest (since old.transcript new.transcript) bs) (sym same)
                  (subst (λ xs. Comes (old.asker registry) (known.contents digest) digest xs bytes) (sym xs) f.comes);
              digest = ap sha256 same ∙ taught.digest_is;
              reads = reads;
            };
            kept = subst (λ xs. AreKept Steps old.transcript xs new.transcript) (sym xs) f.kept;
            knows = record {
              stores = record {
                registries = record {
                  held = k.stores.registries.held;
                  tells = taught.rest.registries ∙ k.stores.registries.tells;
                  operator = k.stores.registries.operator;
                  checkpoint = k.stores.registries.checkpoint;
                };
                own = record {
                  held = k.stores.own.held;
                  tells = taught.rest.registries ∙ k.stores.own.tells;
                  own = subst (λ a. IsOwn a k.stores.own.held) (sym taught.rest.same.accepts) k.stores.own.own;
                };
                namespaces = record { held = k.stores.namespaces.held; tells = taught.rest.names ∙ k.stores.namespaces.tells; mapped = k.stores.namespaces.mapped };
              };
              contents = let c : KnowsContents new.contents (with_bytes known digest content.bytes) = subst (λ bs. KnowsContents new.contents (with_bytes known digest bs)) (sym same) kept in record { held = c.held; tells = c.tells; contents = c.contents };
              updated = λ n. k.updated n ∙ ap (λ es. lookup (λ m. bytes_eq n m) es) (sym taught.rest.updated);
            };
            pages = omega (arith, pages);
            undecided = undecided;
          };
    },
  )

-- nothing is asked for the content of a package that was not updated
pub content_unasked : {T D E : Type 0} (Steps : T → Asked → T → Type 0) (said : D → D → Bool → Bool) (Refuses : List ℕ → E → Type 0) (s : Seen T D) (name digest : List ℕ)
    → IsUnlearnt Steps said Refuses s (NeedsContent name digest) error.Memory s
content_unasked Steps said Refuses s name digest = record {
  same = same_seen s;
  never_falls = none_falls s;
  link_fault = λ h. absurd cc;
  cause = λ known k. record {};
  leaves = λ known k. record { registries = refl; contents = inl refl; names = refl; updated = refl };
  own = λ known k. k.stores.own;
  begun = λ known k. record {};
}
