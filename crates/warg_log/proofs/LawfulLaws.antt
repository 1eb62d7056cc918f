-- Lawful logs, record by record, and what their entries say.
use Rattle.std.proofs.Common.{◌≡◌, ◌↔◌, ℕ, Bool, true, false, ◌++◌, ◌∷◌, [], List, Option, Some, None, refl, sym, ap, subst, ◌∙◌, append_assoc}
use Rattle.std.specs.Prelude.{◌==◌, not, bytes_eq}
use Rattle.std.proofs.lemmas.List.{append-nil}
use Rattle.std.specs.Option.{option_eq, option_or}
use Rattle.warg_record.specs.Record.{Kind}
use Rattle.warg_log.specs.declared.head.Head.{Head}
use Rattle.warg_log.specs.Agrees.{Agrees}
use Rattle.warg_log.specs.History.{releases_of}
use Rattle.warg_log.specs.Facts.{PlainFacts, nothing, known_steps}
use Rattle.warg_log.specs.Lawful.{IsLawful}
use Rattle.warg_log.specs.Places.{AreDistinct, versions_of}
use Rattle.warg_log.specs.Rules.{Accepts, Breach, entries_of, entries_breach, breach_of, is_first, record_breach, broken, any_signature, signature_breach, signer_key, head_rules, head_of, head_id, head_time, is_earlier, lacks_init, ProtocolVersion, PreviousRecord, TimeLower, FirstEntryNotInit}
use Rattle.warg_record.specs.Envelope.{Signed}
use Rattle.warg_log.proofs.AgreesLaws.{nothing-agrees, steps-agree}
use Rattle.warg_log.proofs.FollowsLaws.{entries-push, lawful-push}

pub lawful-more : (kind : Kind) (accepts : Accepts) (log : List Signed) (s : Signed) → IsLawful kind accepts (log ++ s ∷ []) ↔ (IsLawful kind accepts log × (breach_of kind accepts log s ≡ None))
lawful-more kind accepts log s = (
  λ lawful. (λ before after t is. lawful before (after ++ s ∷ []) t (ap (λ xs. xs ++ s ∷ []) is ∙ append_assoc before (t ∷ after) (s ∷ [])), lawful log [] s refl),
  λ both. lawful-push kind accepts log s both.0 both.1,
)

second_none : (x y : Option Breach) → option_or x y ≡ None → y ≡ None
second_none None y h = h
second_none (Some f) y h = absurd cc

-- what is kept of a lawful log, from one of its places on
kept_of : (kind : Kind) (accepts : Accepts) (before after : List Signed) (k : PlainFacts) → Agrees kind k (entries_of before) → IsLawful kind accepts (before ++ after) → (all : PlainFacts) × Agrees kind all (entries_of (before ++ after))
kept_of kind accepts before [] k agrees lawful = (k, subst (λ log. Agrees kind k (entries_of log)) (sym (append-nil before)) agrees)
kept_of kind accepts before (s ∷ after) k agrees lawful =
    let ok : entries_breach kind s.key_id (is_first before) (entries_of before) s.rec.entries ≡ None = second_none (record_breach kind accepts before s) _ (lawful before after s refl) in
    let next : Agrees kind (known_steps kind k s.rec.entries) (entries_of (before ++ s ∷ []))
    = subst (Agrees kind (known_steps kind k s.rec.entries)) (sym (entries-push before s)) (steps-agree kind k (entries_of before) agrees s.key_id (is_first before) s.rec.entries ok) in
    let joined : (before ++ s ∷ []) ++ after ≡ before ++ s ∷ after = append_assoc before (s ∷ []) after in
    let all = kept_of kind accepts (before ++ s ∷ []) after (known_steps kind k s.rec.entries) next (subst (IsLawful kind accepts) (sym joined) lawful) in
    (all.0, subst (λ log. Agrees kind all.0 (entries_of log)) joined all.1)

-- no version of a lawful log was released twice
pub lawful-distinct : (kind : Kind) (accepts : Accepts) (log : List Signed) → IsLawful kind accepts log → AreDistinct (versions_of (releases_of (entries_of log)))
lawful-distinct kind accepts log lawful =
    let all = kept_of kind accepts [] log nothing (nothing-agrees kind) lawful in
    subst (λ rs. AreDistinct (versions_of rs)) all.1.releases all.1.distinct

-- ---- signatures aside

broken_weaker : (b : Bool) (breach : Breach) (x y : Option Breach) → (x ≡ None → y ≡ None) → broken b breach x ≡ None → broken b breach y ≡ None
broken_weaker true breach x y f h = absurd cc
broken_weaker false breach x y f h = f h

signature_weaker : (kind : Kind) (accepts : Accepts) (s : Signed) (signer : Option (List ℕ)) → signature_breach kind accepts s signer ≡ None → signature_breach kind any_signature s signer ≡ None
signature_weaker kind accepts s None h = absurd cc
signature_weaker kind accepts s (Some key) h = refl

head_weaker : (head : Option Head) (s : Signed) (x y : Option Breach) → (x ≡ None → y ≡ None) → head_rules head s x ≡ None → head_rules head s y ≡ None
head_weaker head s x y f =
    let late = is_earlier s.rec.time head in
    let time = TimeLower (head_time s.rec.time head) s.rec.time in
    let other = not (option_eq bytes_eq (head_id head) s.rec.prev) in
    let prev = PreviousRecord (head_id head) s.rec.prev in
    broken_weaker (not (s.rec.version == 0)) (ProtocolVersion s.rec.version) (broken other prev (broken late time x)) (broken other prev (broken late time y))
    (broken_weaker other prev (broken late time x) (broken late time y) (broken_weaker late time x y f))

record_weaker : (kind : Kind) (accepts : Accepts) (log : List Signed) (s : Signed) → record_breach kind accepts log s ≡ None → record_breach kind any_signature log s ≡ None
record_weaker kind accepts log s h =
    let signed : Option Breach = signature_breach kind accepts s (signer_key log s) in
    let unsigned : Option Breach = signature_breach kind any_signature s (signer_key log s) in
    head_weaker (head_of log) s (broken (lacks_init log s) FirstEntryNotInit signed) (broken (lacks_init log s) FirstEntryNotInit unsigned)
    (broken_weaker (lacks_init log s) FirstEntryNotInit signed unsigned (signature_weaker kind accepts s (signer_key log s))) h

or_weaker : (x y z : Option Breach) → (x ≡ None → y ≡ None) → option_or x z ≡ None → option_or y z ≡ None
or_weaker None y z f h = rw (f refl) h
or_weaker (Some breach) y z f h = absurd cc

pub breach_weaker : (kind : Kind) (accepts : Accepts) (log : List Signed) (s : Signed) → breach_of kind accepts log s ≡ None → breach_of kind any_signature log s ≡ None
breach_weaker kind accepts log s h = or_weaker (record_breach kind accepts log s) (record_breach kind any_signature log s) _ (record_weaker kind accepts log s) h

pub lawful_weaker : (kind : Kind) (accepts : Accepts) (log : List Signed) → IsLawful kind accepts log → IsLawful kind any_signature log
lawful_weaker kind accepts log lawful = λ before after s is. breach_weaker kind accepts before s (lawful before after s is)

pub lawful_front : (kind : Kind) (accepts : Accepts) (log more : List Signed) → IsLawful kind accepts (log ++ more) → IsLawful kind accepts log
lawful_front kind accepts log more lawful = λ before after s is.
    lawful before (after ++ more) s (ap (λ xs. xs ++ more) is ∙ append_assoc before (s ∷ after) more)
