-- What is read as an entry has its form, and an entry of the form is read again.
use Rattle.std.proofs.Common.{◌≡◌, ℕ, ◌^◌, ◌<◌, ◌≤◌, List, [], ◌∷◌, ◌++◌, length, map, Option, Some, None, refl, sym, ap, subst, ◌∙◌, arith}
use Rattle.std.specs.Prelude.{IsTrue, Result, Ok, Err, IfOk}
use Rattle.std.proofs.lemmas.List.{length-append}
use Rattle.semver.specs.Parse.{Parts}
use Rattle.semver.specs.Identifiers.{parts_text}
use Rattle.warg_hash.specs.Hash.{hash_text}
use Rattle.warg_record.specs.Key.{IsKeyText}
use Rattle.warg_record.specs.Wire.{varint, counted, field, fields}
use Rattle.warg_record.specs.Record.{Kind, Package, Operator, PlainEntry, Init, GrantFlat, RevokeFlat, Release, Yank, DefineNamespace, ImportNamespace, IsText, is_permission, ArePermissions, IsEntry, entry_text, IsEntryMessageOf}
use Rattle.warg_record.specs.Answer.{GivesOrForm, Refuses}
use Rattle.warg_record.specs.declared.error.EnvelopeError.{EnvelopeError}
use Rattle.warg_record.specs.declared.error.EnvelopeError.TheVariants as error
use Rattle.warg_record.specs.Reading.{text_of, key_of, hash_of, version_of, permission_of, field_at, some_fields, only_field, one_field, two_fields, init_of, grant_of, revoke_of, release_of, yank_of, define_of, import_of, fourth_of, fifth_of, entry_of, entry_at}
use Rattle.warg_record.specs.StepLaws.{bind_some, some_is, never, pick}
use Rattle.warg_record.specs.TextLaws.{text_of-sound, text_of-again, key_of-sound, key_of-again, hash_of-sound, hash_of-again, version_of-sound, version_of-again, permission_of-sound, permission_of-again}
use Rattle.warg_record.specs.WireLaws.{field_at-sound, field_at-again}
use Rattle.warg_record.specs.FieldsLaws.{length-field, some_fields-sound, some_fields-again, only_field-sound, only_field-again, one_field-sound, one_field-again, two_fields-sound, two_fields-again}

abbrev itself : List ℕ → List ℕ
itself text = text

texts_itself : (texts : List (List ℕ)) → map itself texts ≡ texts
texts_itself [] = refl
texts_itself (t ∷ ts) = ap (λ (us : List (List ℕ)). t ∷ us) (texts_itself ts)

-- permissions to the end of a message
permissions-sound : (kind : Kind) (bytes : List ℕ) (ps : List (List ℕ)) → some_fields (permission_of kind) 2 bytes ≡ Some ps → (bytes ≡ fields 2 ps) × ArePermissions kind ps
permissions-sound kind bytes ps e =
    let s = some_fields-sound (permission_of kind) (λ p. IsTrue (is_permission kind p)) itself 2 (permission_of-sound kind) (λ p is lt. permission_of-again kind p is) bytes ps e in
    (s.0 ∙ ap (fields 2) (texts_itself ps), (s.1, s.2))

permissions-again : (kind : Kind) (ps : List (List ℕ)) → ArePermissions kind ps → length (fields 2 ps) < 2 ^ 64 → some_fields (permission_of kind) 2 (fields 2 ps) ≡ Some ps
permissions-again kind ps are short =
    let same = texts_itself ps in
    let short' : length (fields 2 (map itself ps)) < 2 ^ 64 = rw same short in
    let again = some_fields-again (permission_of kind) (λ p. IsTrue (is_permission kind p)) itself 2 (permission_of-sound kind) (λ p is lt. permission_of-again kind p is) ps are.0 are.1 short' in
    ap (λ (t : List (List ℕ)). some_fields (permission_of kind) 2 (fields 2 t)) (sym same) ∙ again

-- the field of this key with these bytes is the entry's message, and the entry has its form
pub record IsRead (kind : Kind) (key : ℕ) (bytes : List ℕ) (e : PlainEntry) : Type 0 where
  pub text : key ∷ counted bytes ≡ entry_text e
  pub form : IsEntry kind e

init_of-sound : (kind : Kind) (bytes : List ℕ) (e : PlainEntry) → init_of bytes ≡ Some e → IsRead kind 10 bytes e
unfolding init_of
init_of-sound kind bytes e read =
    let a = bind_some (two_fields bytes) _ e read in
    let b = bind_some (key_of a.0.0) _ e a.2 in
    let c = bind_some (text_of a.0.1) _ e b.2 in
    let key = key_of-sound a.0.0 b.0 b.1 in
    let algorithm = text_of-sound a.0.1 c.0 c.1 in
    let whole : bytes ≡ field 1 b.0 ++ field 2 c.0 = two_fields-sound bytes a.0 a.1 ∙ ap (λ (t : List ℕ). field 1 t ++ field 2 a.0.1) key.0 ∙ ap (λ (t : List ℕ). field 1 b.0 ++ field 2 t) algorithm.0 in
    subst (λ (x : PlainEntry). IsRead kind 10 bytes x) (some_is (Init b.0 c.0) e c.2) (record { text = ap (λ (t : List ℕ). 10 ∷ counted t) whole; form = (key.1, algorithm.1) })

grant_of-sound : (kind : Kind) (bytes : List ℕ) (e : PlainEntry) → grant_of kind bytes ≡ Some e → IsRead kind 18 bytes e
unfolding grant_of
grant_of-sound kind bytes e read =
    let a = bind_some (field_at 1 bytes) _ e read in
    let b = bind_some (key_of a.0.0) _ e a.2 in
    let c = bind_some (some_fields (permission_of kind) 2 a.0.1) _ e b.2 in
    let key = key_of-sound a.0.0 b.0 b.1 in
    let ps = permissions-sound kind a.0.1 c.0 c.1 in
    let whole : bytes ≡ field 1 b.0 ++ fields 2 c.0 = field_at-sound 1 bytes a.0 a.1 ∙ ap (λ (t : List ℕ). field 1 t ++ a.0.1) key.0 ∙ ap (λ (t : List ℕ). field 1 b.0 ++ t) ps.0 in
    subst (λ (x : PlainEntry). IsRead kind 18 bytes x) (some_is (GrantFlat b.0 c.0) e c.2) (record { text = ap (λ (t : List ℕ). 18 ∷ counted t) whole; form = (key.1, ps.1) })

revoke_of-sound : (kind : Kind) (bytes : List ℕ) (e : PlainEntry) → revoke_of kind bytes ≡ Some e → IsRead kind 26 bytes e
unfolding revoke_of
revoke_of-sound kind bytes e read =
    let a = bind_some (field_at 1 bytes) _ e read in
    let b = bind_some (hash_of a.0.0) _ e a.2 in
    let c = bind_some (some_fields (permission_of kind) 2 a.0.1) _ e b.2 in
    let id = hash_of-sound a.0.0 b.0 b.1 in
    let ps = permissions-sound kind a.0.1 c.0 c.1 in
    let whole : bytes ≡ field 1 (hash_text b.0) ++ fields 2 c.0 = field_at-sound 1 bytes a.0 a.1 ∙ ap (λ (t : List ℕ). field 1 t ++ a.0.1) id.0 ∙ ap (λ (t : List ℕ). field 1 (hash_text b.0) ++ t) ps.0 in
    subst (λ (x : PlainEntry). IsRead kind 26 bytes x) (some_is (RevokeFlat b.0 c.0) e c.2) (record { text = ap (λ (t : List ℕ). 26 ∷ counted t) whole; form = (id.1, ps.1) })

release_of-sound : (bytes : List ℕ) (e : PlainEntry) → release_of bytes ≡ Some e → IsRead Package 34 bytes e
unfolding release_of
release_of-sound bytes e read =
    let a = bind_some (two_fields bytes) _ e read in
    let b = bind_some (version_of a.0.0) _ e a.2 in
    let c = bind_some (hash_of a.0.1) _ e b.2 in
    let version = version_of-sound a.0.0 b.0 b.1 in
    let content = hash_of-sound a.0.1 c.0 c.1 in
    let whole : bytes ≡ field 1 (parts_text b.0) ++ field 2 (hash_text c.0) = two_fields-sound bytes a.0 a.1 ∙ ap (λ (t : List ℕ). field 1 t ++ field 2 a.0.1) version.0 ∙ ap (λ (t : List ℕ). field 1 (parts_text b.0) ++ field 2 t) content.0 in
    subst (λ (x : PlainEntry). IsRead Package 34 bytes x) (some_is (Release b.0 c.0) e c.2) (record { text = ap (λ (t : List ℕ). 34 ∷ counted t) whole; form = (version.1, content.1) })

yank_of-sound : (bytes : List ℕ) (e : PlainEntry) → yank_of bytes ≡ Some e → IsRead Package 42 bytes e
unfolding yank_of
yank_of-sound bytes e read =
    let a = bind_some (one_field bytes) _ e read in
    let b = bind_some (version_of a.0) _ e a.2 in
    let version = version_of-sound a.0 b.0 b.1 in
    let whole : bytes ≡ field 1 (parts_text b.0) = one_field-sound bytes a.0 a.1 ∙ ap (field 1) version.0 in
    subst (λ (x : PlainEntry). IsRead Package 42 bytes x) (some_is (Yank b.0) e b.2) (record { text = ap (λ (t : List ℕ). 42 ∷ counted t) whole; form = version.1 })

define_of-sound : (bytes : List ℕ) (e : PlainEntry) → define_of bytes ≡ Some e → IsRead Operator 34 bytes e
unfolding define_of
define_of-sound bytes e read =
    let a = bind_some (one_field bytes) _ e read in
    let b = bind_some (text_of a.0) _ e a.2 in
    let namespace = text_of-sound a.0 b.0 b.1 in
    let whole : bytes ≡ field 1 b.0 = one_field-sound bytes a.0 a.1 ∙ ap (field 1) namespace.0 in
    subst (λ (x : PlainEntry). IsRead Operator 34 bytes x) (some_is (DefineNamespace b.0) e b.2) (record { text = ap (λ (t : List ℕ). 34 ∷ counted t) whole; form = namespace.1 })

import_of-sound : (bytes : List ℕ) (e : PlainEntry) → import_of bytes ≡ Some e → IsRead Operator 42 bytes e
unfolding import_of
import_of-sound bytes e read =
    let a = bind_some (two_fields bytes) _ e read in
    let b = bind_some (text_of a.0.0) _ e a.2 in
    let c = bind_some (text_of a.0.1) _ e b.2 in
    let namespace = text_of-sound a.0.0 b.0 b.1 in
    let registry = text_of-sound a.0.1 c.0 c.1 in
    let whole : bytes ≡ field 1 b.0 ++ field 2 c.0 = two_fields-sound bytes a.0 a.1 ∙ ap (λ (t : List ℕ). field 1 t ++ field 2 a.0.1) namespace.0 ∙ ap (λ (t : List ℕ). field 1 b.0 ++ field 2 t) registry.0 in
    subst (λ (x : PlainEntry). IsRead Operator 42 bytes x) (some_is (ImportNamespace b.0 c.0) e c.2) (record { text = ap (λ (t : List ℕ). 42 ∷ counted t) whole; form = (namespace.1, registry.1) })

fourth_of-sound : (kind : Kind) (bytes : List ℕ) (e : PlainEntry) → fourth_of kind bytes ≡ Some e → IsRead kind 34 bytes e
fourth_of-sound Package bytes e read = release_of-sound bytes e read
fourth_of-sound Operator bytes e read = define_of-sound bytes e read

fifth_of-sound : (kind : Kind) (bytes : List ℕ) (e : PlainEntry) → fifth_of kind bytes ≡ Some e → IsRead kind 42 bytes e
fifth_of-sound Package bytes e read = yank_of-sound bytes e read
fifth_of-sound Operator bytes e read = import_of-sound bytes e read

entry_of-sound : (kind : Kind) (key : ℕ) (bytes : List ℕ) (e : PlainEntry) → entry_of kind key bytes ≡ Some e → IsRead kind key bytes e
entry_of-sound kind key bytes e read =
    pick key 10 _ _ _ read (λ is k. rw is (init_of-sound kind bytes e k)) (λ read.
    pick key 18 _ _ _ read (λ is k. rw is (grant_of-sound kind bytes e k)) (λ read.
    pick key 26 _ _ _ read (λ is k. rw is (revoke_of-sound kind bytes e k)) (λ read.
    pick key 34 _ _ _ read (λ is k. rw is (fourth_of-sound kind bytes e k)) (λ read.
    pick key 42 _ _ _ read (λ is k. rw is (fifth_of-sound kind bytes e k)) (λ read. never e read)))))

pub entry_at-sound : (kind : Kind) (bytes : List ℕ) (e : PlainEntry) → entry_at kind bytes ≡ Some e → (bytes ≡ entry_text e) × IsEntry kind e
unfolding entry_at
entry_at-sound kind bytes e read =
    let a = bind_some (only_field bytes) _ e read in
    let is = entry_of-sound kind a.0.0 a.0.1 e a.2 in
    (only_field-sound bytes a.0 a.1 ∙ is.text, is.form)

-- ---- an entry of the form is read again

again_by : (kind : Kind) (key : ℕ) (body : List ℕ) (e : PlainEntry) → length body < 2 ^ 64 → entry_of kind key body ≡ Some e → entry_at kind (key ∷ counted body) ≡ Some e
unfolding entry_at
again_by kind key body e short read = rw (only_field-again key body short) read

length-counted : (bytes : List ℕ) → length bytes ≤ length (counted bytes)
length-counted bytes = omega (arith, length-append (varint (length bytes)) bytes)

-- what stands in field 1 is shorter than the message
first_short : (first rest : List ℕ) (n : ℕ) → length (field 1 first ++ rest) < n → (length first < n) × (length rest < n)
first_short first rest n lt = (omega (arith, length-field 1 first rest), omega (arith, length-field 1 first rest))

second_short : (text : List ℕ) (n : ℕ) → length (field 2 text) < n → length text < n
second_short text n lt = omega (arith, length-counted text)

only_short : (text : List ℕ) (n : ℕ) → length (field 1 text) < n → length text < n
only_short text n lt = omega (arith, length-counted text)

init_of-again : (key algorithm : List ℕ) → IsKeyText key → IsText algorithm → length (field 1 key ++ field 2 algorithm) < 2 ^ 64 → init_of (field 1 key ++ field 2 algorithm) ≡ Some (Init key algorithm)
unfolding init_of
init_of-again key algorithm is_key is_text short =
    let parts = first_short key (field 2 algorithm) (2 ^ 64) short in
    rw (two_fields-again key algorithm parts.0 (second_short algorithm (2 ^ 64) parts.1), key_of-again key is_key, text_of-again algorithm is_text) refl

grant_of-again : (kind : Kind) (key : List ℕ) (ps : List (List ℕ)) → IsKeyText key → ArePermissions kind ps → length (field 1 key ++ fields 2 ps) < 2 ^ 64 → grant_of kind (field 1 key ++ fields 2 ps) ≡ Some (GrantFlat key ps)
unfolding grant_of
grant_of-again kind key ps is_key are short =
    let parts = first_short key (fields 2 ps) (2 ^ 64) short in
    rw (field_at-again 1 key (fields 2 ps) parts.0, key_of-again key is_key, permissions-again kind ps are parts.1) refl

revoke_of-again : (kind : Kind) (text id : List ℕ) (ps : List (List ℕ)) → hash_of text ≡ Some id → ArePermissions kind ps → length (field 1 text ++ fields 2 ps) < 2 ^ 64 → revoke_of kind (field 1 text ++ fields 2 ps) ≡ Some (RevokeFlat id ps)
unfolding revoke_of
revoke_of-again kind text id ps digest are short =
    let parts = first_short text (fields 2 ps) (2 ^ 64) short in
    rw (field_at-again 1 text (fields 2 ps) parts.0, digest, permissions-again kind ps are parts.1) refl

release_of-again : (text hash : List ℕ) (version : Parts) (content : List ℕ) → version_of text ≡ Some version → hash_of hash ≡ Some content → length (field 1 text ++ field 2 hash) < 2 ^ 64
    → release_of (field 1 text ++ field 2 hash) ≡ Some (Release version content)
unfolding release_of
release_of-again text hash version content is_version is_content short =
    let parts = first_short text (field 2 hash) (2 ^ 64) short in
    rw (two_fields-again text hash parts.0 (second_short hash (2 ^ 64) parts.1), is_version, is_content) refl

yank_of-again : (text : List ℕ) (version : Parts) → version_of text ≡ Some version → length (field 1 text) < 2 ^ 64 → yank_of (field 1 text) ≡ Some (Yank version)
unfolding yank_of
yank_of-again text version is short = rw (one_field-again text (only_short text (2 ^ 64) short), is) refl

define_of-again : (text : List ℕ) → IsText text → length (field 1 text) < 2 ^ 64 → define_of (field 1 text) ≡ Some (DefineNamespace text)
unfolding define_of
define_of-again text is short = rw (one_field-again text (only_short text (2 ^ 64) short), text_of-again text is) refl

import_of-again : (namespace registry : List ℕ) → IsText namespace → IsText registry → length (field 1 namespace ++ field 2 registry) < 2 ^ 64
    → import_of (field 1 namespace ++ field 2 registry) ≡ Some (ImportNamespace namespace registry)
unfolding import_of
import_of-again namespace registry is is' short =
    let parts = first_short namespace (field 2 registry) (2 ^ 64) short in
    rw (two_fields-again namespace registry parts.0 (second_short registry (2 ^ 64) parts.1), text_of-again namespace is, text_of-again registry is') refl

body_short : (key : ℕ) (body : List ℕ) → length (key ∷ counted body) < 2 ^ 64 → length body < 2 ^ 64
body_short key body short = omega (arith, length-counted body)

pub entry_at-again : (kind : Kind) (e : PlainEntry) → IsEntry kind e → length (entry_text e) < 2 ^ 64 → entry_at kind (entry_text e) ≡ Some e
entry_at-again kind (Init key algorithm) is short =
    let body = body_short 10 (field 1 key ++ field 2 algorithm) short in
    again_by kind 10 _ _ body (init_of-again key algorithm is.0 is.1 body)
entry_at-again kind (GrantFlat key ps) is short =
    let body = body_short 18 (field 1 key ++ fields 2 ps) short in
    again_by kind 18 _ _ body (grant_of-again kind key ps is.0 is.1 body)
entry_at-again kind (RevokeFlat id ps) is short =
    let body = body_short 26 (field 1 (hash_text id) ++ fields 2 ps) short in
    again_by kind 26 (field 1 (hash_text id) ++ fields 2 ps) (RevokeFlat id ps) body (revoke_of-again kind (hash_text id) id ps (hash_of-again id is.0) is.1 body)
entry_at-again Package (Release version content) is short =
    let body = body_short 34 (field 1 (parts_text version) ++ field 2 (hash_text content)) short in
    again_by Package 34 (field 1 (parts_text version) ++ field 2 (hash_text content)) (Release version content) body (release_of-again (parts_text version) (hash_text content) version content (version_of-again version is.0) (hash_of-again content is.1) body)
entry_at-again Operator (Release version content) is short = absurd is
entry_at-again Package (Yank version) is short =
    let body = body_short 42 (field 1 (parts_text version)) short in
    again_by Package 42 (field 1 (parts_text version)) (Yank version) body (yank_of-again (parts_text version) version (version_of-again version is) body)
entry_at-again Operator (Yank version) is short = absurd is
entry_at-again Package (DefineNamespace namespace) is short = absurd is
entry_at-again Operator (DefineNamespace namespace) is short =
    let body = body_short 34 (field 1 namespace) short in
    again_by Operator 34 (field 1 namespace) (DefineNamespace namespace) body (define_of-again namespace is body)
entry_at-again Package (ImportNamespace namespace registry) is short = absurd is
entry_at-again Operator (ImportNamespace namespace registry) is short =
    let body = body_short 42 (field 1 namespace ++ field 2 registry) short in
    again_by Operator 42 (field 1 namespace ++ field 2 registry) (ImportNamespace namespace registry) body (import_of-again namespace registry is.0 is.1 body)

-- ---- what a reader of entries answers

pub entry-again : (kind : Kind) (bytes : List ℕ) (e : PlainEntry) → IsEntryMessageOf kind bytes e → length bytes < 2 ^ 64 → entry_at kind bytes ≡ Some e
entry-again kind bytes e m short = ap (entry_at kind) m.text ∙ entry_at-again kind e m.form (subst (λ (t : List ℕ). length t < 2 ^ 64) m.text short)

-- what a reader gave is an entry of the form
pub entry_found : {X : Type 0} (view : X → PlainEntry) (kind : Kind) (bytes : List ℕ) (r : Result X EnvelopeError) → GivesOrForm view r (entry_at kind bytes)
    → IfOk r (λ x. IsEntryMessageOf kind bytes (view x))
entry_found view kind bytes (Ok x) given =
    let s = entry_at-sound kind bytes (view x) given in record { form = s.1; text = s.0 }
entry_found view kind bytes (Err e) given = tt

-- a reader refuses only what is no entry of the form
pub entry_refused : {X : Type 0} (view : X → PlainEntry) (kind : Kind) (bytes : List ℕ) (r : Result X EnvelopeError) → GivesOrForm view r (entry_at kind bytes) → length bytes < 2 ^ 64
    → r ≡ Err error.Form → (e : PlainEntry) → IsEntryMessageOf kind bytes e → ⊥
entry_refused view kind bytes (Ok x) given short is e m = absurd cc
entry_refused view kind bytes (Err error.Form) given short is e m = never e (sym given ∙ entry-again kind bytes e m short)
entry_refused view kind bytes (Err error.Memory) given short is e m = absurd cc

nothing_left : {X : Type 0} (o : Option X) → ((x : X) → o ≡ Some x → ⊥) → o ≡ None
nothing_left None h = refl
nothing_left (Some x) h = absurd (h x refl)

-- what is refused as no entry of the form is not read from left to right
pub entry_refuses : (kind : Kind) (bytes : List ℕ) (e : EnvelopeError) → (e ≡ error.Form → (p : PlainEntry) → IsEntryMessageOf kind bytes p → ⊥) → Refuses e (entry_at kind bytes)
entry_refuses kind bytes error.Form refused = nothing_left (entry_at kind bytes) (λ p read.
    let s = entry_at-sound kind bytes p read in
    let m : IsEntryMessageOf kind bytes p = record { form = s.1; text = s.0 } in
    refused refl p m)
entry_refuses kind bytes error.Memory refused = tt
