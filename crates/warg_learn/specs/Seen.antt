-- What is seen of a learner, and what is known by it.
use Rattle.std.specs.Prelude.{◌≡◌, ◌≤◌, ℕ, List, Option, IfSome, bytes_eq}
use Rattle.std.specs.Map.{lookup}
use Rattle.warg_log.specs.Rules.{Accepts}
use Rattle.warg_exchange.specs.Requests.{Asker}
use Rattle.warg_api.specs.Asking.{asker}
use Rattle.warg_session.specs.Recording.{Transcript, link_of, transcript}
use Rattle.warg_store.specs.Contents.{Contents}
use Rattle.warg_store.specs.Entry.{Entry}
use Rattle.warg_store.specs.Held.{Registry, Held}
use Rattle.warg_store.specs.Namespaces.{Names}
use Rattle.warg_assemble.specs.Known.{Known}
use Rattle.warg_assemble.specs.Parts.{updated_under}
use Rattle.warg_fetch.specs.Fetched.{Loads}
use Rattle.warg_fetch.specs.Stored.{CanBeRead, IsReadable, Knows, KnowsContents}
use Rattle.warg_learn.specs.declared.learner.Learner.{Learner}

-- how many calls of a link and of stores have failed so far
pub record Faults : Type 0 where
  pub link : ℕ
  pub registries : ℕ
  pub contents : ℕ
  pub names : ℕ

-- A learner at one moment: by which signatures it goes, and as whom it asks registries; what was asked over its link;
-- what its stores tell that they hold, of registries, of contents and of names; under which registry each package was
-- updated; how many pages may still be asked for; who decides; and how many calls have failed.
pub record Seen (T D : Type 0) : Type 0 where
  pub accepts : Accepts
  pub asker : Registry → Asker
  pub transcript : Transcript T
  pub registries : Option Held
  pub contents : Option Contents
  pub names : Option (Entry Names)
  pub updated : List (List ℕ × Registry)
  pub pages_left : ℕ
  pub decider : D
  pub faults : Faults

-- what the parts of a learner tell: which signatures are good; of the link, what it was asked; and of the stores, what
-- they hold; and how many calls of each have failed
pub record Telling (L R C N V T : Type 0) : Type 0 where
  pub good : V → Accepts
  pub link : L → T
  pub registries : R → Option Held
  pub contents : C → Option Contents
  pub names : N → Option (Entry Names)
  pub link_faults : L → ℕ
  pub registry_faults : R → ℕ
  pub content_faults : C → ℕ
  pub name_faults : N → ℕ

-- the same, one after the other
abbrev pub tells : {L R C N V T : Type 0} → (V → Accepts) → (L → T) → (L → ℕ) → (R → Option Held) → (R → ℕ)
    → (C → Option Contents) → (C → ℕ) → (N → Option (Entry Names)) → (N → ℕ) → Telling L R C N V T
tells good link link_faults registries registry_faults contents content_faults names name_faults = record {
  good = good;
  link = link;
  registries = registries;
  contents = contents;
  names = names;
  link_faults = link_faults;
  registry_faults = registry_faults;
  content_faults = content_faults;
  name_faults = name_faults;
}

abbrev pub seen : {L R C N V D K T : Type 0} → Telling L R C N V T → Learner L R C N V D K → Seen T D
seen tell l = record {
  accepts = tell.good l.verifier;
  asker = asker l.client;
  transcript = transcript tell.link l.link;
  registries = tell.registries l.registries;
  contents = tell.contents l.contents;
  names = tell.names l.namespaces;
  updated = l.updated.entries;
  pages_left = l.pages_left;
  decider = l.decide;
  faults = record {
    link = tell.link_faults (link_of l.link);
    registries = tell.registry_faults l.registries;
    contents = tell.content_faults l.contents;
    names = tell.name_faults l.namespaces;
  };
}

module _ {T D : Type 0} where
  -- the registry under which a package was updated
  abbrev pub updated_in : Seen T D → List ℕ → Option Registry
  updated_in s name = lookup (λ n. bytes_eq name n) s.updated

  -- All that a learner goes by is known: what its stores hold, of which that of registries is its client's own, and
  -- under which registry each package was updated.
  pub record IsKnown (s : Seen T D) (known : Known) : Type 0 where
    pub stores : Knows s.accepts s.registries s.names known
    pub contents : KnowsContents s.contents known
    pub updated : (name : List ℕ) → updated_under known name ≡ updated_in s name

  -- the operators, the checkpoints and the names that its stores hold can be read
  pub record ReadsStores (s : Seen T D) : Type 0 where
    pub registries : IsReadable s.registries
    pub names : IfSome s.names CanBeRead

  -- what stays between two moments: by which signatures a learner goes, and as whom it asks
  pub record IsSame (old new : Seen T D) : Type 0 where
    pub accepts : new.accepts ≡ old.accepts
    pub asker : new.asker ≡ old.asker

  -- no count of calls that failed falls
  pub record NeverFalls (old new : Seen T D) : Type 0 where
    pub link : old.faults.link ≤ new.faults.link
    pub registries : old.faults.registries ≤ new.faults.registries
    pub contents : old.faults.contents ≤ new.faults.contents
    pub names : old.faults.names ≤ new.faults.names

  -- what stores told at the first of two moments, and how many of their calls had failed at both
  abbrev pub registry_loads : Seen T D → Seen T D → Loads Held
  registry_loads old new =
      record { before = old.faults.registries; after = new.faults.registries; told = old.registries }

  abbrev pub name_loads : Seen T D → Seen T D → Loads (Entry Names)
  name_loads old new = record { before = old.faults.names; after = new.faults.names; told = old.names }

  abbrev pub content_loads : Seen T D → Seen T D → Loads Contents
  content_loads old new = record { before = old.faults.contents; after = new.faults.contents; told = old.contents }
