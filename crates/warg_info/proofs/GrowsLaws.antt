-- Logs that grow by published records, one after the other.
use Rattle.std.proofs.Common.{◌≡◌, ◌++◌, ◌∷◌, [], List, ℕ, Bool, true, false, Option, Some, None, refl, sym, ◌∙◌, ap, subst, append_assoc, append-nil}
use Rattle.std.specs.Prelude.{cond}
use Rattle.std.proofs.lemmas.Bool.{and_parts}
use Rattle.warg_record.specs.Record.{Kind}
use Rattle.warg_exchange.specs.declared.logs.PublishedRecord.{PublishedRecord}
use Rattle.warg_info.specs.Kept.{Kept, IsEnvelope, IsKeptAs, AreKeptAs, Grows, is_above, last_index, index_of, new_after}
use Rattle.warg_info.specs.Faults.{ascends, are_above}
use Rattle.warg_info.proofs.KeptLaws.{last-push}

-- a record that is passed over
pub grows-over : (kind : Kind) (log : List Kept) (p : PublishedRecord) → is_above p.registry_index (last_index log) ≡ false → IsEnvelope kind p → Grows kind log (p ∷ []) log
unfolding new_after
grows-over kind log p below is = record { read = (is, tt); more = []; kept = rw below tt; parts = sym (append-nil log) }

-- a record that is kept
pub grows-one : (kind : Kind) (log : List Kept) (p : PublishedRecord) (k : Kept) → is_above p.registry_index (last_index log) ≡ true → IsKeptAs kind p k → Grows kind log (p ∷ []) (log ++ k ∷ [])
unfolding new_after
grows-one kind log p k above is = record { read = ((k.signed, is.envelope), tt); more = k ∷ []; kept = rw above (is, tt); parts = refl }

pub grows-none : (kind : Kind) (log : List Kept) → Grows kind log [] log
unfolding new_after
grows-none kind log = record { read = tt; more = []; kept = tt; parts = sym (append-nil log) }

-- whether a first record is passed over or kept, the others follow
goes_on : (kind : Kind) (old mid new : List Kept) (p : PublishedRecord) (ps : List PublishedRecord) (b : Bool) (more : List Kept)
    → AreKeptAs kind (cond b (p ∷ []) []) more → mid ≡ old ++ more → Grows kind mid ps new
    → (all : List Kept) × AreKeptAs kind (cond b (p ∷ new_after (Some p.registry_index) ps) (new_after (last_index old) ps)) all × (new ≡ old ++ all)
goes_on kind old mid new p ps true [] are is rest = absurd are
goes_on kind old mid new p ps true (k ∷ []) are is rest =
    let last : last_index mid ≡ Some p.registry_index = ap last_index is ∙ ap index_of (last-push old k) ∙ ap (λ i. Some i) are.0.registry_index in
    (k ∷ rest.more, (are.0, subst (λ (i : Option ℕ). AreKeptAs kind (new_after i ps) rest.more) last rest.kept), rest.parts ∙ ap (λ (l : List Kept). l ++ rest.more) is ∙ append_assoc old (k ∷ []) rest.more)
goes_on kind old mid new p ps true (k ∷ j ∷ more) are is rest = absurd are.1
goes_on kind old mid new p ps false [] are is rest =
    let same : mid ≡ old = is ∙ append-nil old in
    let from_old : Grows kind old ps new = subst (λ (l : List Kept). Grows kind l ps new) same rest in
    (from_old.more, from_old.kept, from_old.parts)
goes_on kind old mid new p ps false (k ∷ more) are is rest = absurd are

pub grows-more : (kind : Kind) (old mid new : List Kept) (p : PublishedRecord) (ps : List PublishedRecord) → Grows kind old (p ∷ []) mid → Grows kind mid ps new → Grows kind old (p ∷ ps) new
unfolding new_after
grows-more kind old mid new p ps one rest =
    let all = goes_on kind old mid new p ps (is_above p.registry_index (last_index old)) one.more one.kept one.parts rest in
    record { read = (one.read.0, rest.read); more = all.0; kept = all.1; parts = all.2 }

-- where places ascend, none is passed over
pub all-new : (before : Option ℕ) (ps : List PublishedRecord) → are_above before ps ≡ true → new_after before ps ≡ ps
unfolding new_after
all-new before [] above = refl
all-new before (p ∷ ps) above =
    let parts = and_parts (is_above p.registry_index before) (are_above (Some p.registry_index) ps) above in
    rw parts.0 (ap (λ (l : List PublishedRecord). p ∷ l) (all-new (Some p.registry_index) ps parts.1))

-- so an empty log grows by them all
pub grows-whole : (kind : Kind) (old : List Kept) (ps : List PublishedRecord) (new : List Kept) → old ≡ [] → ascends ps ≡ true → Grows kind old ps new → AreKeptAs kind ps new
grows-whole kind old ps new empty above grows =
    let from_none : Grows kind [] ps new = subst (λ (l : List Kept). Grows kind l ps new) empty grows in
    subst (AreKeptAs kind ps) (sym from_none.parts) (subst (λ (l : List PublishedRecord). AreKeptAs kind l from_none.more) (all-new None ps above) from_none.kept)

-- by the first record, and then by the others
first_by : (kind : Kind) (old new : List Kept) (p : PublishedRecord) (ps : List PublishedRecord) (b : Bool) (more : List Kept) → is_above p.registry_index (last_index old) ≡ b → Grows kind old (p ∷ ps) new
    → AreKeptAs kind (cond b (p ∷ new_after (Some p.registry_index) ps) (new_after (last_index old) ps)) more → new ≡ old ++ more
    → (mid : List Kept) × Grows kind old (p ∷ []) mid × Grows kind mid ps new
first_by kind old new p ps true [] above whole are is = absurd are
first_by kind old new p ps true (k ∷ more) above whole are is =
    let last : last_index (old ++ k ∷ []) ≡ Some p.registry_index = ap index_of (last-push old k) ∙ ap (λ i. Some i) are.0.registry_index in (
      old ++ k ∷ [],
      grows-one kind old p k above are.0,
      record { read = whole.read.1; more = more; kept = subst (λ (i : Option ℕ). AreKeptAs kind (new_after i ps) more) (sym last) are.1; parts = is ∙ sym (append_assoc old (k ∷ []) more) },
    )
first_by kind old new p ps false more below whole are is = (old, grows-over kind old p below whole.read.0, record { read = whole.read.1; more = more; kept = are; parts = is })

pub grows-first : (kind : Kind) (old new : List Kept) (p : PublishedRecord) (ps : List PublishedRecord) → Grows kind old (p ∷ ps) new → (mid : List Kept) × Grows kind old (p ∷ []) mid × Grows kind mid ps new
unfolding new_after
grows-first kind old new p ps grows = first_by kind old new p ps (is_above p.registry_index (last_index old)) grows.more refl grows grows.kept grows.parts

no_more : (kind : Kind) (old mid : List Kept) (more : List Kept) → AreKeptAs kind [] more → mid ≡ old ++ more → mid ≡ old
no_more kind old mid [] are is = is ∙ append-nil old
no_more kind old mid (k ∷ more) are is = absurd are

pub grows-nothing : (kind : Kind) (old mid : List Kept) → Grows kind old [] mid → mid ≡ old
unfolding new_after
grows-nothing kind old mid grows = no_more kind old mid grows.more grows.kept grows.parts

-- by some records, and then by others
pub grows-append : (kind : Kind) (old mid new : List Kept) (ps qs : List PublishedRecord) → Grows kind old ps mid → Grows kind mid qs new → Grows kind old (ps ++ qs) new
grows-append kind old mid new [] qs first rest = subst (λ (l : List Kept). Grows kind l qs new) (grows-nothing kind old mid first) rest
grows-append kind old mid new (p ∷ ps) qs first rest =
    let parts = grows-first kind old mid p ps first in
    grows-more kind old parts.0 new p (ps ++ qs) parts.1 (grows-append kind parts.0 mid new ps qs parts.2 rest)
