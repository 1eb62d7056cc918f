-- What is read as a record has its form, and a record of the form is read again.
use Rattle.std.proofs.Common.{◌≡◌, ℕ, ◌*◌, ◌^◌, ◌<◌, ◌==◌, ◌&&◌, nat_lt, true, false, List, [], ◌++◌, length, map, Option, Some, None, option_map, refl, sym, ap, subst, ◌∙◌, arith, inl, inr}
use Rattle.std.specs.Prelude.{IfSome, Result, Ok, Err, IfOk, IfErr}
use Rattle.std.proofs.lemmas.Bool.{cases_Bool, and_parts, eqb-true, lt-ltb, ltb-true}
use Rattle.std.proofs.lemmas.List.{length-append, append-nil, nil_from_length}
use Rattle.warg_values.specs.declared.moment.Moment.{Moment}
use Rattle.warg_hash.specs.Hash.{hash_text, IsDigest}
use Rattle.warg_hash.specs.HashLaws.{length-hash_text, one_digest}
use Rattle.warg_record.specs.Wire.{field, fields, optional_field, number_field}
use Rattle.warg_record.specs.Record.{Kind, PlainRecord, IsEntry, IsRecord, entry_text, moment_text, record_text}
use Rattle.warg_record.specs.Reading.{hash_of, optional_hash_of, optional_at, number_at, field_at, some_fields, entry_at, moment_of, record_of}
use Rattle.warg_record.specs.Answer.{GivesOrForm}
use Rattle.warg_record.specs.Envelope.{IsMessageOf, IsEnvelopeOf, Signed}
use Rattle.warg_record.specs.declared.error.EnvelopeError.{EnvelopeError}
use Rattle.warg_record.specs.declared.error.EnvelopeError.TheVariants as error
use Rattle.warg_record.specs.StepLaws.{bind_some, pass_some, some_is, never}
use Rattle.warg_record.specs.TextLaws.{hash_of-sound, hash_of-again}
use Rattle.warg_record.specs.WireLaws.{IsOtherKey, field_at-sound, field_at-again, optional_at-sound, optional_at-again, number_at-sound, number_at-again}
use Rattle.warg_record.specs.FieldsLaws.{length-field, some_fields-sound, some_fields-again}
use Rattle.warg_record.specs.EntryLaws.{entry_at-sound, entry_at-again}

mapped : {A B : Type 0} {f : A → B} (o : Option A) (y : B) → option_map f o ≡ Some y → (x : A) × (o ≡ Some x) × (f x ≡ y)
mapped {A} {B} {f} (Some x) y e = (x, refl, some_is (f x) y e)
mapped None y e = never y e

short_hash : (id : Option (List ℕ)) → IfSome id IsDigest → IfSome (option_map hash_text id) (λ t. length t < 2 ^ 64)
short_hash None is = tt
short_hash (Some digest) is = omega (arith, length-hash_text digest is.0)

optional_hash_of-sound : (o id : Option (List ℕ)) → optional_hash_of o ≡ Some id → (o ≡ option_map hash_text id) × IfSome id IsDigest
unfolding optional_hash_of
optional_hash_of-sound None id e = subst (λ (x : Option (List ℕ)). (None ≡ option_map hash_text x) × IfSome x IsDigest) (some_is None id e) (refl, tt)
optional_hash_of-sound (Some bytes) id e =
    let a = mapped (hash_of bytes) id e in
    let h = hash_of-sound bytes a.0 a.1 in
    subst (λ (x : Option (List ℕ)). (Some bytes ≡ option_map hash_text x) × IfSome x IsDigest) a.2 (ap (λ (t : List ℕ). Some t) h.0, h.1)

optional_hash_of-again : (id : Option (List ℕ)) → IfSome id IsDigest → optional_hash_of (option_map hash_text id) ≡ Some id
unfolding optional_hash_of
optional_hash_of-again None is = refl
optional_hash_of-again (Some digest) is = rw (hash_of-again digest is) refl

-- a number that is left out or has another key
other_number : (key number n : ℕ) (rest : List ℕ) → (8 * number == key) ≡ false → IsOtherKey key rest → IsOtherKey key (number_field number n ++ rest)
other_number key number n rest other rest_other =
    elim (cases_Bool (n == 0)) [
      | inl is ↦ rw is rest_other
      | inr some ↦ rw some other
    ]

moment_of-sound : (bytes : List ℕ) (t : Moment) → moment_of bytes ≡ Some t → (bytes ≡ moment_text t) × (t.seconds < 2 ^ 64) × (t.nanos < 10 ^ 9)
unfolding moment_of
moment_of-sound bytes t e =
    let a = bind_some (number_at 1 bytes) _ t e in
    let b = bind_some (number_at 2 a.0.1) _ t a.2 in
    let g = pass_some (length b.0.1 == 0 && nat_lt b.0.0 (10 ^ 9)) _ t b.2 in
    let tests = and_parts (length b.0.1 == 0) (nat_lt b.0.0 (10 ^ 9)) g.0 in
    let nothing : b.0.1 ≡ [] = nil_from_length b.0.1 (eqb-true (length b.0.1) 0 tests.0) in
    let seconds = number_at-sound 1 bytes a.0 a.1 in
    let nanos = number_at-sound 2 a.0.1 b.0 b.1 in
    let second : a.0.1 ≡ number_field 2 b.0.0 = nanos.0 ∙ ap (λ (x : List ℕ). number_field 2 b.0.0 ++ x) nothing ∙ append-nil (number_field 2 b.0.0) in
    let made : Moment = record { seconds = a.0.0; nanos = b.0.0 } in
    subst (λ (x : Moment). (bytes ≡ moment_text x) × (x.seconds < 2 ^ 64) × (x.nanos < 10 ^ 9)) (some_is made t g.1)
    (seconds.0 ∙ ap (λ (x : List ℕ). number_field 1 a.0.0 ++ x) second, seconds.1, ltb-true b.0.0 (10 ^ 9) tests.1)

moment_of-again : (t : Moment) → t.seconds < 2 ^ 64 → t.nanos < 10 ^ 9 → moment_of (moment_text t) ≡ Some t
unfolding moment_of
moment_of-again t seconds nanos =
    let other : IsOtherKey 8 (number_field 2 t.nanos) = subst (IsOtherKey 8) (append-nil (number_field 2 t.nanos)) (other_number 8 2 t.nanos [] refl tt) in
    let first : number_at 1 (number_field 1 t.seconds ++ number_field 2 t.nanos) ≡ Some (t.seconds, number_field 2 t.nanos) = number_at-again 1 t.seconds (number_field 2 t.nanos) seconds other in
    let second : number_at 2 (number_field 2 t.nanos) ≡ Some (t.nanos, []) = ap (number_at 2) (sym (append-nil (number_field 2 t.nanos))) ∙ number_at-again 2 t.nanos [] (omega arith) tt in
    let bound : nat_lt t.nanos (10 ^ 9) ≡ true = lt-ltb t.nanos (10 ^ 9) nanos in
    rw (first, second, bound) refl

pub record_of-sound : (kind : Kind) (bytes : List ℕ) (r : PlainRecord) → record_of kind bytes ≡ Some r → (bytes ≡ record_text r) × IsRecord kind r
unfolding record_of
record_of-sound kind bytes r e =
    let prev = bind_some (optional_at 1 bytes) _ r e in
    let version = bind_some (number_at 2 prev.0.1) _ r prev.2 in
    let time = bind_some (field_at 3 version.0.1) _ r version.2 in
    let id = bind_some (optional_hash_of prev.0.0) _ r time.2 in
    let moment = bind_some (moment_of time.0.0) _ r id.2 in
    let entries = bind_some (some_fields (entry_at kind) 4 time.0.1) _ r moment.2 in
    let is_id = optional_hash_of-sound prev.0.0 id.0 id.1 in
    let is_version = number_at-sound 2 prev.0.1 version.0 version.1 in
    let is_moment = moment_of-sound time.0.0 moment.0 moment.1 in
    let are = some_fields-sound (entry_at kind) (IsEntry kind) entry_text 4 (entry_at-sound kind) (entry_at-again kind) time.0.1 entries.0 entries.1 in
    let made : PlainRecord = record { prev = id.0; version = version.0.0; time = moment.0; entries = entries.0 } in
    let third : version.0.1 ≡ field 3 (moment_text moment.0) ++ fields 4 (map entry_text entries.0) =
    field_at-sound 3 version.0.1 time.0 time.1 ∙ ap (λ (t : List ℕ). field 3 t ++ time.0.1) is_moment.0 ∙ ap (λ (t : List ℕ). field 3 (moment_text moment.0) ++ t) are.0 in
    let second : prev.0.1 ≡ number_field 2 version.0.0 ++ (field 3 (moment_text moment.0) ++ fields 4 (map entry_text entries.0)) =
    is_version.0 ∙ ap (λ (t : List ℕ). number_field 2 version.0.0 ++ t) third in
    let whole : bytes ≡ record_text made =
    optional_at-sound 1 bytes prev.0 prev.1 ∙ ap (λ (o : Option (List ℕ)). optional_field 1 o ++ prev.0.1) is_id.0 ∙ ap (λ (t : List ℕ). optional_field 1 (option_map hash_text id.0) ++ t) second in
    subst (λ (x : PlainRecord). (bytes ≡ record_text x) × IsRecord kind x) (some_is made r entries.2) (
      whole,
      record {
        prev = is_id.1;
        version = is_version.1;
        seconds = is_moment.1;
        nanos = is_moment.2;
        some_entry = are.1;
        entries = are.2;
      },
    )

pub record_of-again : (kind : Kind) (r : PlainRecord) → IsRecord kind r → length (record_text r) < 2 ^ 64 → record_of kind (record_text r) ≡ Some r
unfolding record_of
record_of-again kind r is short =
    let entries = fields 4 (map entry_text r.entries) in
    let third = field 3 (moment_text r.time) ++ entries in
    let second = number_field 2 r.version ++ third in
    let len1 = length-append (optional_field 1 (option_map hash_text r.prev)) second in
    let len2 = length-append (number_field 2 r.version) third in
    let len3 = length-field 3 (moment_text r.time) entries in
    let prev : optional_at 1 (optional_field 1 (option_map hash_text r.prev) ++ second) ≡ Some (option_map hash_text r.prev, second) =
    optional_at-again 1 (option_map hash_text r.prev) second (short_hash r.prev is.prev) (other_number 10 2 r.version third refl refl) in
    let version : number_at 2 second ≡ Some (r.version, third) = number_at-again 2 r.version third is.version refl in
    let time : field_at 3 third ≡ Some (moment_text r.time, entries) = field_at-again 3 (moment_text r.time) entries (omega arith) in
    let id = optional_hash_of-again r.prev is.prev in
    let moment = moment_of-again r.time is.seconds is.nanos in
    let all : some_fields (entry_at kind) 4 entries ≡ Some r.entries = some_fields-again (entry_at kind) (IsEntry kind) entry_text 4 (entry_at-sound kind) (entry_at-again kind) r.entries is.some_entry is.entries (omega arith) in
    rw (prev, version, time, id, moment, all) refl

-- what a reader gave is a record of the form
pub gives_found : {R : Type 0} (view : R → PlainRecord) (kind : Kind) (bytes : List ℕ) (r : Result R EnvelopeError) → GivesOrForm view r (record_of kind bytes)
    → IfOk r (λ x. IsMessageOf kind bytes (view x))
gives_found view kind bytes (Ok x) given =
    let s = record_of-sound kind bytes (view x) given in record { form = s.1; text = s.0 }
gives_found view kind bytes (Err e) given = tt

-- a reader refuses only what is no record of the form
pub gives_form : {R : Type 0} (view : R → PlainRecord) (kind : Kind) (bytes : List ℕ) (r : Result R EnvelopeError) → GivesOrForm view r (record_of kind bytes) → length bytes < 2 ^ 64
    → IfErr r (λ e. e ≡ error.Form → (p : PlainRecord) → IsMessageOf kind bytes p → ⊥)
gives_form view kind bytes (Ok x) given short = tt
gives_form view kind bytes (Err error.Form) given short = λ is p m.
    let again = record_of-again kind p m.form (subst (λ (t : List ℕ). length t < 2 ^ 64) m.text short) in
    never p (sym given ∙ ap (record_of kind) m.text ∙ again)
gives_form view kind bytes (Err error.Memory) given short = λ is p m. absurd cc

-- contents are the message of one record at most
pub one_record_lem : (kind : Kind) (contents : List ℕ) (r s : PlainRecord) → length contents < 2 ^ 64 → IsMessageOf kind contents r → IsMessageOf kind contents s → r ≡ s
one_record_lem kind contents r s short is_r is_s =
    let read_r : record_of kind contents ≡ Some r = ap (record_of kind) is_r.text ∙ record_of-again kind r is_r.form (subst (λ (t : List ℕ). length t < 2 ^ 64) is_r.text short) in
    let read_s : record_of kind contents ≡ Some s = ap (record_of kind) is_s.text ∙ record_of-again kind s is_s.form (subst (λ (t : List ℕ). length t < 2 ^ 64) is_s.text short) in
    some_is r s (sym read_r ∙ read_s)

abbrev envelope_of : PlainRecord → List ℕ → List ℕ → List ℕ → Signed
envelope_of r c k g = record { rec = r; contents = c; key_id = k; signature = g }

same_parts : (r r' : PlainRecord) (c c' k k' g g' : List ℕ) → r ≡ r' → c ≡ c' → k ≡ k' → g ≡ g'
    → envelope_of r c k g ≡ envelope_of r' c' k' g'
same_parts r r' c c' k k' g g' a b d e = rw (a, b, d, e) refl

-- contents and the texts of a key's id and of a signature are those of one envelope at most
pub one_envelope_lem : (kind : Kind) (contents key_id signature : List ℕ) (s t : Signed) → length contents < 2 ^ 64
    → IsEnvelopeOf kind contents key_id signature s → IsEnvelopeOf kind contents key_id signature t → s ≡ t
one_envelope_lem kind contents key_id signature s t len a b =
    same_parts s.rec t.rec s.contents t.contents s.key_id t.key_id s.signature t.signature
    (one_record_lem kind contents s.rec t.rec len a.message b.message)
    (a.same_contents ∙ sym b.same_contents)
    (one_digest key_id s.key_id t.key_id a.key b.key)
    (a.same_signature ∙ sym b.same_signature)
