-- That a log grows in one way, and that what it grows by has no fault where it is then lawful.
use Rattle.std.proofs.Common.{◌≡◌, ◌<◌, ◌^◌, ◌++◌, ◌∷◌, [], List, ℕ, Bool, true, false, None, refl, sym, ◌∙◌, ap, subst, length, append_assoc}
use Rattle.std.specs.Prelude.{cond}
use Rattle.std.proofs.lemmas.List.{map-append}
use Rattle.std.proofs.lemmas.Bool.{false≢true}
use Rattle.warg_record.specs.Record.{Kind}
use Rattle.warg_record.specs.Envelope.{Signed, IsEnvelopeOf}
use Rattle.warg_log.specs.Breaches.{IsBreach, wants_memory}
use Rattle.warg_log.specs.Rules.{Accepts, breach_of}
use Rattle.warg_log.specs.declared.error.ValidationError.{ValidationError}
use Rattle.warg_log.specs.declared.error.ValidationError.TheVariants as rule
use Rattle.warg_exchange.specs.declared.logs.PublishedRecord.{PublishedRecord}
use Rattle.warg_info.specs.declared.error.TakeError.{TakeError}
use Rattle.warg_info.specs.declared.error.TakeError.TheVariants as error
use Rattle.warg_info.specs.Faults.{IsTakeFault, IsUnlawful, BreaksRule, FirstFault}
use Rattle.warg_info.specs.Info.{IsLawfulLog}
use Rattle.warg_info.specs.Kept.{Kept, IsKeptAs, AreKeptAs, Grows, is_above, last_index, new_after, signed_log}
use Rattle.warg_info.proofs.GrowsLaws.{grows-none, grows-more, grows-first}

-- the law that texts are read as one envelope at most
abbrev pub EnvelopeLaw : Type 0
EnvelopeLaw = (kind : Kind) (contents key_id signature : List ℕ) (s t : Signed) → length contents < 2 ^ 64 → IsEnvelopeOf kind contents key_id signature s → IsEnvelopeOf kind contents key_id signature t → s ≡ t

-- ---- what is published is kept as one record at most

same-kept : (k j : Kept) → k.signed ≡ j.signed → k.registry_index ≡ j.registry_index → k.fetch_token ≡ j.fetch_token → k ≡ j
same-kept k j signed place token =
    ap (λ (s : Signed). record { signed = s; registry_index = k.registry_index; fetch_token = k.fetch_token }) signed
    ∙ ap (λ (n : ℕ). record { signed = j.signed; registry_index = n; fetch_token = k.fetch_token }) place
    ∙ ap (λ (t : List ℕ). record { signed = j.signed; registry_index = j.registry_index; fetch_token = t }) token

one-kept : EnvelopeLaw → (kind : Kind) (p : PublishedRecord) (k j : Kept) → IsKeptAs kind p k → IsKeptAs kind p j → k ≡ j
one-kept law kind p k j is also =
    same-kept k j (law kind p.content_bytes p.key_id p.signature k.signed j.signed is.short is.envelope also.envelope) (is.registry_index ∙ sym also.registry_index) (is.fetch_token ∙ sym also.fetch_token)

one-list : EnvelopeLaw → (kind : Kind) (ps : List PublishedRecord) (ks js : List Kept) → AreKeptAs kind ps ks → AreKeptAs kind ps js → ks ≡ js
one-list law kind [] [] [] are also = refl
one-list law kind [] (k ∷ ks) js are also = absurd are
one-list law kind [] [] (j ∷ js) are also = absurd also
one-list law kind (p ∷ ps) [] js are also = absurd are
one-list law kind (p ∷ ps) (k ∷ ks) [] are also = absurd also
one-list law kind (p ∷ ps) (k ∷ ks) (j ∷ js) are also =
    ap (λ (x : Kept). x ∷ ks) (one-kept law kind p k j are.0 also.0) ∙ ap (λ (l : List Kept). j ∷ l) (one-list law kind ps ks js are.1 also.1)

-- a log grows by the same records to the same log
pub one-growth : EnvelopeLaw → (kind : Kind) (old : List Kept) (ps : List PublishedRecord) (new other : List Kept) → Grows kind old ps new → Grows kind old ps other → new ≡ other
one-growth law kind old ps new other g h =
    g.parts ∙ ap (λ (l : List Kept). old ++ l) (one-list law kind (new_after (last_index old) ps) g.more h.more g.kept h.kept) ∙ sym h.parts

-- by some records, and then by others
pub grows-apart : (kind : Kind) (old new : List Kept) (ps qs : List PublishedRecord) → Grows kind old (ps ++ qs) new → (mid : List Kept) × Grows kind old ps mid × Grows kind mid qs new
grows-apart kind old new [] qs g = (old, grows-none kind old, g)
grows-apart kind old new (p ∷ ps) qs g =
    let one = grows-first kind old new p (ps ++ qs) g in
    let rest = grows-apart kind one.0 new ps qs one.2 in
    (rest.0, grows-more kind old one.0 rest.0 p ps one.1 rest.1, rest.2)

-- ---- faults

no-breach : (e : ValidationError) → wants_memory e ≡ false → IsBreach e None → ⊥
no-breach (rule.ProtocolVersion version) other is = absurd cc
no-breach (rule.PreviousRecord expected found) other is = absurd cc
no-breach (rule.TimeLower head time) other is = absurd cc
no-breach rule.FirstEntryNotInit other is = absurd cc
no-breach (rule.UnknownKey key_id) other is = absurd cc
no-breach (rule.BadSignature key_id) other is = absurd cc
no-breach rule.InitAgain other is = absurd cc
no-breach (rule.HashAlgorithm found) other is = absurd cc
no-breach (rule.Unpermitted key_id permission) other is = absurd cc
no-breach (rule.ReleaseAgain version) other is = absurd cc
no-breach (rule.YankUnreleased version) other is = absurd cc
no-breach (rule.YankYanked version) other is = absurd cc
no-breach (rule.NamespaceTaken namespace) other is = absurd cc
no-breach rule.Memory other is = absurd (false≢true (sym other))

-- a new record is kept
new-kept : (kind : Kind) (log mid : List Kept) (p : PublishedRecord) → is_above p.registry_index (last_index log) ≡ true → Grows kind log (p ∷ []) mid → (k : Kept) × IsKeptAs kind p k × (mid ≡ log ++ k ∷ [])
unfolding new_after
new-kept kind log mid p above g = by_more g.more (subst (λ (b : Bool). AreKeptAs kind (cond b (p ∷ []) []) g.more) above g.kept) g.parts
  where
    by_more : (more : List Kept) → AreKeptAs kind (p ∷ []) more → mid ≡ log ++ more → (k : Kept) × IsKeptAs kind p k × (mid ≡ log ++ k ∷ [])
    by_more [] are is = absurd are
    by_more (k ∷ []) are is = (k, are.0, is)
    by_more (k ∷ j ∷ more) are is = absurd are.1

-- a record that a log keeps, and is lawful with, breaks no rule
unbroken : EnvelopeLaw → (e : ValidationError) (kind : Kind) (accepts : Accepts) (log mid new : List Kept) (p : PublishedRecord) (ps : List PublishedRecord) → Grows kind log (p ∷ []) mid → Grows kind mid ps new → IsLawfulLog kind accepts new
    → BreaksRule e kind accepts log p → ⊥
unbroken law e kind accepts log mid new p ps one rest lawful bad =
    let taken = new-kept kind log mid p bad.new one in
    let k = taken.0 in
    let same : bad.envelope ≡ k = one-kept law kind p bad.envelope k bad.is taken.1 in
    let whole : new ≡ log ++ k ∷ rest.more = rest.parts ∙ ap (λ (l : List Kept). l ++ rest.more) taken.2 ∙ append_assoc log (k ∷ []) rest.more in
    let signed : signed_log new ≡ signed_log log ++ k.signed ∷ signed_log rest.more = ap signed_log whole ∙ map-append (λ (j : Kept). j.signed) log (k ∷ rest.more) in
    let none : breach_of kind accepts (signed_log log) k.signed ≡ None = lawful (signed_log log) (signed_log rest.more) k.signed signed in
    let breach : IsUnlawful e kind accepts log k.signed = subst (λ (j : Kept). IsUnlawful e kind accepts log j.signed) same bad.unlawful in
    no-breach e breach.0 (subst (IsBreach e) none breach.1)

no-fault : EnvelopeLaw → (e : TakeError) (kind : Kind) (accepts : Accepts) (log mid new : List Kept) (p : PublishedRecord) (ps : List PublishedRecord) → Grows kind log (p ∷ []) mid → Grows kind mid ps new → IsLawfulLog kind accepts new
    → IsTakeFault e kind accepts log p → e ≡ error.Memory
no-fault law error.BadEnvelope kind accepts log mid new p ps one rest lawful bad = absurd (bad one.read.0)
no-fault law (error.Unlawful e) kind accepts log mid new p ps one rest lawful bad = absurd (unbroken law e kind accepts log mid new p ps one rest lawful bad)
no-fault law error.Memory kind accepts log mid new p ps one rest lawful free = refl

pub never-refused : EnvelopeLaw → (e : TakeError) (kind : Kind) (accepts : Accepts) (old new : List Kept) (ps : List PublishedRecord) (kept : List Kept) → Grows kind old ps new → IsLawfulLog kind accepts new → FirstFault e kind accepts old ps kept
    → e ≡ error.Memory
never-refused law e kind accepts old new ps kept grows lawful f =
    let apart = grows-apart kind old new f.before (f.refused ∷ f.after) (subst (λ (l : List PublishedRecord). Grows kind old l new) f.parts grows) in
    let same : kept ≡ apart.0 = one-growth law kind old f.before kept apart.0 f.grows apart.1 in
    let one = grows-first kind apart.0 new f.refused f.after apart.2 in
    no-fault law e kind accepts apart.0 one.0 new f.refused f.after one.1 one.2 lawful (subst (λ (l : List Kept). IsTakeFault e kind accepts l f.refused) same f.fault)
