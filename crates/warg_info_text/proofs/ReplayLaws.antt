-- The log that stored records are is the one that their replay makes.
use Rattle.std.proofs.Common.{◌≡◌, ◌<◌, ◌^◌, ◌&&◌, ℕ, not, Bool, true, false, cond, List, [], ◌∷◌, ◌++◌, length, Option, Some, None, is_some, option_map, option_and_then, refl, sym, ap, subst, ◌∙◌, append_assoc, append-nil}
use Rattle.std.specs.Prelude.{◌↔◌, IsUtf8}
use Rattle.std.specs.Str.{is_utf8}
use Rattle.std.proofs.lemmas.Bool.{and_parts}
use Rattle.std.proofs.lemmas.Str.{is_utf8-from_IsUtf8, IsUtf8-from_is_utf8}
use Rattle.warg_hash.specs.Hash.{digest_of}
use Rattle.warg_hash.specs.HashLaws.{digest_of-again, digest_of-sound}
use Rattle.warg_record.specs.Envelope.{Signed, IsEnvelopeOf, IsMessageOf}
use Rattle.warg_record.specs.Key.{IsKeyText, is_key_text}
use Rattle.warg_record.specs.Reading.{record_of}
use Rattle.warg_record.specs.Record.{Kind, PlainRecord}
use Rattle.warg_record.specs.RecordLaws.{record_of-again, record_of-sound}
use Rattle.warg_log.specs.Breaches.{IsBreach, wants_memory}
use Rattle.warg_log.specs.Lawful.{IsLawful}
use Rattle.warg_log.specs.Rules.{Breach, any_signature, breach_of}
use Rattle.warg_log.specs.declared.error.ValidationError.{ValidationError}
use Rattle.warg_log.specs.declared.error.ValidationError.TheVariants as error
use Rattle.warg_exchange.specs.declared.logs.PublishedRecord.{PublishedRecord}
use Rattle.warg_info.specs.Faults.{FirstFault, are_above, ascends}
use Rattle.warg_info.specs.Kept.{Kept, AreAbove, AreKeptAs, Ascends, IsEnvelope, IsKeptAs, is_above, new_after, signed_log}
use Rattle.warg_info.specs.declared.error.TakeError.TheVariants as take
use Rattle.warg_info_text.specs.StoredLogs.{envelope_in, kept_in, all_kept, is_lawful_behind, if_lawful, log_in}

-- key texts are told by the test
abbrev pub TestsKeys : Type 0
TestsKeys = (text : List ℕ) → IsUtf8 text → (is_key_text text ≡ true) ↔ IsKeyText text

-- ---- envelopes

key_is_utf8 : (text : List ℕ) → IsKeyText text → IsUtf8 text
key_is_utf8 text (kind, code, is) = is.is_text

message_read : (kind : Kind) (contents : List ℕ) (r : PlainRecord) → length contents < 2 ^ 64 → IsMessageOf kind contents r → record_of kind contents ≡ Some r
message_read kind contents r short is =
    ap (record_of kind) is.text ∙ record_of-again kind r is.form (subst (λ (t : List ℕ). length t < 2 ^ 64) is.text short)

tested : (a b : Bool) → a ≡ true → b ≡ true → (a && b) ≡ true
tested true b p q = q
tested false b p q = absurd cc

envelope_again : TestsKeys → (kind : Kind) (p : PublishedRecord) (s : Signed) → length p.content_bytes < 2 ^ 64 → IsEnvelopeOf kind p.content_bytes p.key_id p.signature s → envelope_in kind p ≡ Some s
envelope_again keys kind p s short is =
    let utf8 = key_is_utf8 p.signature is.key_text in
    let test : (is_utf8 p.signature && is_key_text p.signature) ≡ true = tested _ _ (is_utf8-from_IsUtf8 p.signature utf8) ((keys p.signature utf8).1 is.key_text) in
    rw (message_read kind p.content_bytes s.rec short is.message, digest_of-again p.key_id s.key_id is.key, test)
    (λ i. Some (record { rec = s.rec; contents = sym is.same_contents i; key_id = s.key_id; signature = sym is.same_signature i }))

some_is : {A : Type 0} (a b : A) → Some a ≡ Some b → a ≡ b
some_is a b e = cc

module _ (keys : TestsKeys) (kind : Kind) (p : PublishedRecord) (never : ¬ IsEnvelope kind p) where
  no_test : (rec : PlainRecord) (key : List ℕ) (b : Bool) → record_of kind p.content_bytes ≡ Some rec → digest_of p.key_id ≡ Some key → (is_utf8 p.signature && is_key_text p.signature) ≡ b
      → cond {A = Option Signed} b (Some (record { rec = rec; contents = p.content_bytes; key_id = key; signature = p.signature })) None ≡ None
  no_test rec key false r d test = refl
  no_test rec key true r d test =
      let read = record_of-sound kind p.content_bytes rec r in
      let tests = and_parts (is_utf8 p.signature) (is_key_text p.signature) test in
      absurd (never (
        record { rec = rec; contents = p.content_bytes; key_id = key; signature = p.signature },
        record {
          message = record { form = read.1; text = read.0 };
          same_contents = refl;
          key = digest_of-sound p.key_id key d;
          same_signature = refl;
          key_text = (keys p.signature (IsUtf8-from_is_utf8 p.signature tests.0)).0 tests.1;
        },
      ))

  no_key : (rec : PlainRecord) (o : Option (List ℕ)) → record_of kind p.content_bytes ≡ Some rec → digest_of p.key_id ≡ o
      → option_and_then {U = Signed} (λ key. cond (is_utf8 p.signature && is_key_text p.signature) (Some (record { rec = rec; contents = p.content_bytes; key_id = key; signature = p.signature })) None) o ≡ None
  no_key rec None r d = refl
  no_key rec (Some key) r d = no_test rec key (is_utf8 p.signature && is_key_text p.signature) r d refl

  no_envelope_by : (o : Option PlainRecord) → record_of kind p.content_bytes ≡ o
      → option_and_then {U = Signed} (λ rec. option_and_then {U = Signed} (λ key. cond (is_utf8 p.signature && is_key_text p.signature) (Some (record { rec = rec; contents = p.content_bytes; key_id = key; signature = p.signature })) None) (digest_of p.key_id)) o ≡ None
  no_envelope_by None r = refl
  no_envelope_by (Some rec) r = no_key rec (digest_of p.key_id) r refl

  no_envelope : kept_in kind p ≡ None
  no_envelope = ap (option_map (λ (s : Signed). record { signed = s; registry_index = p.registry_index; fetch_token = p.fetch_token })) (no_envelope_by (record_of kind p.content_bytes) refl)

-- ---- records

kept_again : TestsKeys → (kind : Kind) (p : PublishedRecord) (k : Kept) → IsKeptAs kind p k → kept_in kind p ≡ Some k
kept_again keys kind p k is =
    ap (option_map (λ (s : Signed). record { signed = s; registry_index = p.registry_index; fetch_token = p.fetch_token })) (envelope_again keys kind p k.signed is.short is.envelope)
    ∙ (λ i. Some (record { signed = k.signed; registry_index = sym is.registry_index i; fetch_token = sym is.fetch_token i }))

all_again : TestsKeys → (kind : Kind) (ps : List PublishedRecord) (ks : List Kept) → AreKeptAs kind ps ks → all_kept kind ps ≡ Some ks
all_again keys kind [] [] is = refl
all_again keys kind [] (k ∷ ks) is = absurd is
all_again keys kind (p ∷ ps) [] is = absurd is
all_again keys kind (p ∷ ps) (k ∷ ks) is = rw (kept_again keys kind p k is.0, all_again keys kind ps ks is.1) refl

join : List Kept → Option (List Kept) → Option (List Kept)
join ks o = option_map (λ more. ks ++ more) o

one_before : (k : Kept) (ks : List Kept) (o : Option (List Kept)) → option_map (λ l. k ∷ l) (join ks o) ≡ join (k ∷ ks) o
unfolding join
one_before k ks None = refl
one_before k ks (Some more) = refl

all_behind : TestsKeys → (kind : Kind) (ps more : List PublishedRecord) (ks : List Kept) → AreKeptAs kind ps ks → all_kept kind (ps ++ more) ≡ join ks (all_kept kind more)
unfolding join
all_behind keys kind [] more [] is = none_before (all_kept kind more)
  where
    none_before : (o : Option (List Kept)) → o ≡ option_map (λ l. [] ++ l) o
    none_before None = refl
    none_before (Some l) = refl
all_behind keys kind [] more (k ∷ ks) is = absurd is
all_behind keys kind (p ∷ ps) more [] is = absurd is
all_behind keys kind (p ∷ ps) more (k ∷ ks) is =
    rw (kept_again keys kind p k is.0) (ap (option_map (λ l. k ∷ l)) (all_behind keys kind ps more ks is.1) ∙ one_before k ks (all_kept kind more))

-- one that is no envelope
none_kept : (kind : Kind) (before after : List PublishedRecord) (p : PublishedRecord) → kept_in kind p ≡ None → all_kept kind (before ++ p ∷ after) ≡ None
none_kept kind [] after p none = rw none refl
none_kept kind (q ∷ before) after p none =
    ap (λ (o : Option (List Kept)). option_and_then (λ k. option_map (λ ks. k ∷ ks) o) (kept_in kind q)) (none_kept kind before after p none) ∙ nothing (kept_in kind q)
  where
    nothing : (o : Option Kept) → option_and_then (λ k. option_map (λ ks. k ∷ ks) None) o ≡ None
    nothing None = refl
    nothing (Some k) = refl

-- ---- places

above_again : (kind : Kind) (before : Option ℕ) (ps : List PublishedRecord) (ks : List Kept) → AreKeptAs kind ps ks → AreAbove before ks → are_above before ps ≡ true
above_again kind before [] [] is above = refl
above_again kind before [] (k ∷ ks) is above = absurd is
above_again kind before (p ∷ ps) [] is above = absurd is
above_again kind before (p ∷ ps) (k ∷ ks) is above =
    tested _ _ (ap (λ n. is_above n before) (sym is.0.registry_index) ∙ above.0)
    (above_again kind (Some p.registry_index) ps ks is.1 (subst (λ (n : ℕ). AreAbove (Some n) ks) is.0.registry_index above.1))

all_new : (before : Option ℕ) (ps more : List PublishedRecord) → are_above before (ps ++ more) ≡ true → new_after before ps ≡ ps
unfolding new_after
all_new before [] more above = refl
all_new before (p ∷ ps) more above =
    let parts = and_parts (is_above p.registry_index before) (are_above (Some p.registry_index) (ps ++ more)) above in
    rw parts.0 (ap (λ l. p ∷ l) (all_new (Some p.registry_index) ps more parts.1))

-- ---- rules

lawful_tested : (kind : Kind) (log more : List Signed) → IsLawful kind any_signature (log ++ more) → is_lawful_behind kind log more ≡ true
lawful_tested kind log [] lawful = refl
lawful_tested kind log (s ∷ more) lawful =
    tested _ _ (ap (λ (o : Option Breach). not (is_some o)) (lawful log more s refl))
    (lawful_tested kind (log ++ s ∷ []) more (subst (IsLawful kind any_signature) (sym (append_assoc log (s ∷ []) more)) lawful))

no_and : (b : Bool) → (b && false) ≡ false
no_and true = refl
no_and false = refl

unlawful_tested : (kind : Kind) (log before more : List Signed) (s : Signed) (breach : Breach) → breach_of kind any_signature (log ++ before) s ≡ Some breach → is_lawful_behind kind log (before ++ s ∷ more) ≡ false
unlawful_tested kind log [] more s breach broken =
    ap (λ (o : Option Breach). not (is_some o) && is_lawful_behind kind (log ++ s ∷ []) more) (ap (λ l. breach_of kind any_signature l s) (sym (append-nil log)) ∙ broken)
unlawful_tested kind log (r ∷ before) more s breach broken =
    ap (λ (b : Bool). not (is_some (breach_of kind any_signature log r)) && b)
    (unlawful_tested kind (log ++ r ∷ []) before more s breach (ap (λ l. breach_of kind any_signature l s) (append_assoc log (r ∷ []) before) ∙ broken))
    ∙ no_and (not (is_some (breach_of kind any_signature log r)))

some_breach : (e : ValidationError) (breach : Option Breach) → wants_memory e ≡ false → IsBreach e breach → (b : Breach) × (breach ≡ Some b)
some_breach (error.ProtocolVersion version) breach fine is = (_, is)
some_breach (error.PreviousRecord expected found) breach fine is = (_, is)
some_breach (error.TimeLower head time) breach fine is = (_, is)
some_breach error.FirstEntryNotInit breach fine is = (_, is)
some_breach (error.UnknownKey key_id) breach fine is = (_, is)
some_breach (error.BadSignature key_id) breach fine is = (_, is)
some_breach error.InitAgain breach fine is = (_, is)
some_breach (error.HashAlgorithm found) breach fine is = (_, is)
some_breach (error.Unpermitted key_id permission) breach fine is = (_, is)
some_breach (error.ReleaseAgain version) breach fine is = (_, is)
some_breach (error.YankUnreleased version) breach fine is = (_, is)
some_breach (error.YankYanked version) breach fine is = (_, is)
some_breach (error.NamespaceTaken namespace) breach fine is = (_, is)
some_breach error.Memory breach fine is = absurd cc

-- ---- logs

-- the log of a replay
pub replay_is_read : TestsKeys → (kind : Kind) (ps : List PublishedRecord) (log : List Kept) → AreKeptAs kind ps log → Ascends log → IsLawful kind any_signature (signed_log log) → Some log ≡ log_in kind ps
replay_is_read keys kind ps log is above lawful =
    sym (rw (above_again kind None ps log is above, all_again keys kind ps log is, lawful_tested kind [] (signed_log log) lawful) refl)

-- places that do not ascend
pub not_ascending : (kind : Kind) (ps : List PublishedRecord) → ascends ps ≡ false → None ≡ log_in kind ps
not_ascending kind ps fall = sym (rw fall refl)

none_either_way : {A : Type 0} (b : Bool) (o : Option A) → o ≡ None → None ≡ cond b o None
none_either_way true o is = sym is
none_either_way false o is = refl

-- a record that is no envelope
pub no_record : TestsKeys → (kind : Kind) (ps : List PublishedRecord) (kept : List Kept) → FirstFault take.BadEnvelope kind any_signature [] ps kept → None ≡ log_in kind ps
no_record keys kind ps kept fault =
    none_either_way (ascends ps) (option_and_then (if_lawful kind) (all_kept kind ps))
    (ap (λ l. option_and_then (if_lawful kind) (all_kept kind l)) fault.parts
    ∙ ap (option_and_then (if_lawful kind)) (none_kept kind fault.before fault.after fault.refused (no_envelope keys kind fault.refused fault.fault)))

map_signed : (ks more : List Kept) → signed_log (ks ++ more) ≡ signed_log ks ++ signed_log more
map_signed [] more = refl
map_signed (k ∷ ks) more = ap (λ l. k.signed ∷ l) (map_signed ks more)

module _ (kind : Kind) (kept : List Kept) (envelope : Kept) (breach : Breach) (broken : breach_of kind any_signature (signed_log kept) envelope.signed ≡ Some breach) where
  no_law : (more : List Kept) → if_lawful kind (kept ++ envelope ∷ more) ≡ None
  no_law more =
      ap (λ (b : Bool). cond b (Some (kept ++ envelope ∷ more)) None)
      (ap (is_lawful_behind kind []) (map_signed kept (envelope ∷ more)) ∙ unlawful_tested kind [] (signed_log kept) (signed_log more) envelope.signed breach broken)

  no_law_behind : (o : Option (List Kept)) → option_and_then (if_lawful kind) (join kept (option_map (λ ks. envelope ∷ ks) o)) ≡ None
  unfolding join
  no_law_behind None = refl
  no_law_behind (Some more) = no_law more

-- a record that breaks a rule
pub no_lawful_record : TestsKeys → (kind : Kind) (ps : List PublishedRecord) (kept : List Kept) (e : ValidationError) → ascends ps ≡ true → FirstFault (take.Unlawful e) kind any_signature [] ps kept → None ≡ log_in kind ps
no_lawful_record keys kind ps kept e above fault =
    let broken = fault.fault in
    let found = some_breach e _ broken.unlawful.0 broken.unlawful.1 in
    let fresh : new_after None fault.before ≡ fault.before = all_new None fault.before (fault.refused ∷ fault.after) (ap (are_above None) (sym fault.parts) ∙ above) in
    let are : AreKeptAs kind fault.before kept =
    subst (AreKeptAs kind fault.before) (sym fault.grows.parts) (subst (λ (l : List PublishedRecord). AreKeptAs kind l fault.grows.more) fresh fault.grows.kept) in
    none_either_way (ascends ps) (option_and_then (if_lawful kind) (all_kept kind ps))
    (ap (λ l. option_and_then (if_lawful kind) (all_kept kind l)) fault.parts
    ∙ ap (option_and_then (if_lawful kind))
    (all_behind keys kind fault.before (fault.refused ∷ fault.after) kept are
    ∙ ap (λ (o : Option Kept). join kept (option_and_then (λ k. option_map (λ ks. k ∷ ks) (all_kept kind fault.after)) o)) (kept_again keys kind fault.refused broken.envelope broken.is))
    ∙ no_law_behind kind kept broken.envelope found.0 found.1 (all_kept kind fault.after))
