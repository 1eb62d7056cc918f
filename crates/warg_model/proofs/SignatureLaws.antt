-- What is lawful by one key's signatures is lawful where they are listed.
use Rattle.std.proofs.Common.{◌≡◌, ◌∷◌, ◌++◌, [], List, ℕ, Bool, true, false, Option, Some, None, refl, sym, ◌∙◌, ap, subst, map, append_assoc}
use Rattle.std.proofs.lemmas.List.{map_push}
use Rattle.std.specs.Prelude.{◌==◌, ◌&&◌, ◌||◌, not, bytes_eq}
use Rattle.std.specs.Option.{option_or, option_eq}
use Rattle.std.specs.List.{AllByRecursion, list_any}
use Rattle.std.specs.List.Sorted.{IsPermutation}
use Rattle.std.proofs.lemmas.Slice.Eq.{bytes_eq-Decides}
use Rattle.std.proofs.lemmas.List.Folds.{list_any-append}
use Rattle.std.proofs.lemmas.List.Sorted.{list_any-IsPermutation}
use Rattle.sha2.specs.Sha256.{sha256}
use Rattle.warg_record.specs.Record.{Kind}
use Rattle.warg_record.specs.Envelope.{Signed}
use Rattle.warg_log.specs.Lawful.{IsLawful}
use Rattle.warg_log.specs.Listed.{is_listed}
use Rattle.warg_log.specs.Rules.{Accepts, Breach, broken, BadSignature, ProtocolVersion, PreviousRecord, TimeLower, FirstEntryNotInit, breach_of, record_breach, head_rules, head_of, head_id, head_time, is_earlier, lacks_init, signer_key, signature_breach, signed_text, entries_breach, is_first, entries_of}
use Rattle.warg_log.specs.declared.head.Head.{Head}
use Rattle.warg_model.specs.declared.key.SigningKey.{SigningKey}
use Rattle.warg_model.specs.Records.{accepted_by}
use Rattle.warg_model.specs.Signatures.{signature_on}

-- ---- another verifier

broken-keeps : (b : Bool) (breach : Breach) (next other : Option Breach) → (next ≡ None → other ≡ None) → broken b breach next ≡ None → broken b breach other ≡ None
broken-keeps true breach next other keeps none = absurd cc
broken-keeps false breach next other keeps none = keeps none

or-keeps : (x y next : Option Breach) → (x ≡ None → y ≡ None) → option_or x next ≡ None → option_or y next ≡ None
or-keeps None y next keeps none = ap (λ (o : Option Breach). option_or o next) (keeps refl) ∙ none
or-keeps (Some b) y next keeps none = absurd cc

test-keeps : (x y : Bool) (breach : Breach) → (x ≡ true → y ≡ true) → broken (not x) breach None ≡ None → broken (not y) breach None ≡ None
test-keeps true y breach keeps none = ap (λ (b : Bool). broken (not b) breach None) (keeps refl)
test-keeps false y breach keeps none = absurd cc

-- where the one verifier accepts a record's signature, the other does
abbrev pub Passes : Kind → Accepts → Accepts → Signed → Type 0
Passes kind a b s = (key : List ℕ) → a key (signed_text kind s.contents) s.signature ≡ true → b key (signed_text kind s.contents) s.signature ≡ true

signature-keeps : (kind : Kind) (a b : Accepts) (s : Signed) (signer : Option (List ℕ)) → Passes kind a b s → signature_breach kind a s signer ≡ None → signature_breach kind b s signer ≡ None
signature-keeps kind a b s None passes none = absurd cc
signature-keeps kind a b s (Some key) passes none = test-keeps (a key (signed_text kind s.contents) s.signature) (b key (signed_text kind s.contents) s.signature) (BadSignature s.key_id) (passes key) none

head-keeps : (head : Option Head) (s : Signed) (next other : Option Breach) → (next ≡ None → other ≡ None) → head_rules head s next ≡ None → head_rules head s other ≡ None
head-keeps head s next other keeps =
    let time : Option Breach → Option Breach = λ rest. broken (is_earlier s.rec.time head) (TimeLower (head_time s.rec.time head) s.rec.time) rest in
    let prev : Option Breach → Option Breach = λ rest. broken (not (option_eq bytes_eq (head_id head) s.rec.prev)) (PreviousRecord (head_id head) s.rec.prev) (time rest) in
    broken-keeps (not (s.rec.version == 0)) (ProtocolVersion s.rec.version) (prev next) (prev other)
    (broken-keeps (not (option_eq bytes_eq (head_id head) s.rec.prev)) (PreviousRecord (head_id head) s.rec.prev) (time next) (time other)
    (broken-keeps (is_earlier s.rec.time head) (TimeLower (head_time s.rec.time head) s.rec.time) next other keeps))

record-keeps : (kind : Kind) (a b : Accepts) (log : List Signed) (s : Signed) → Passes kind a b s → record_breach kind a log s ≡ None → record_breach kind b log s ≡ None
record-keeps kind a b log s passes =
    let signer = signer_key log s in
    let with_a = signature_breach kind a s signer in
    let with_b = signature_breach kind b s signer in
    head-keeps (head_of log) s (broken (lacks_init log s) FirstEntryNotInit with_a) (broken (lacks_init log s) FirstEntryNotInit with_b)
    (broken-keeps (lacks_init log s) FirstEntryNotInit with_a with_b (signature-keeps kind a b s signer passes))

breach-keeps : (kind : Kind) (a b : Accepts) (log : List Signed) (s : Signed) → Passes kind a b s → breach_of kind a log s ≡ None → breach_of kind b log s ≡ None
breach-keeps kind a b log s passes none = or-keeps (record_breach kind a log s) (record_breach kind b log s) (entries_breach kind s.key_id (is_first log) (entries_of log) s.rec.entries) (record-keeps kind a b log s passes) none

pub all-middle : {A : Type 0} (P : A → Type 0) (before after : List A) (x : A) → AllByRecursion P (before ++ x ∷ after) → P x
all-middle P [] after x all = all.0
all-middle P (y ∷ before) after x all = all-middle P before after x all.1

pub lawful-keeps : (kind : Kind) (a b : Accepts) (log : List Signed) → AllByRecursion (Passes kind a b) log → IsLawful kind a log → IsLawful kind b log
lawful-keeps kind a b log passes lawful before after s parts =
    breach-keeps kind a b before s (all-middle (Passes kind a b) before after s (subst (AllByRecursion (Passes kind a b)) parts passes)) (lawful before after s parts)

-- ---- listed signatures

-- the key's signature of a text is listed
abbrev pub Lists : SigningKey → List (List ℕ × List ℕ × List ℕ) → List ℕ → Type 0
Lists k listed text = list_any (is_listed k.key (sha256 text) k.signature) listed ≡ true

pub same-text : (text : List ℕ) → bytes_eq text text ≡ true
same-text text = (bytes_eq-Decides text text).1 refl

first-listed : (k : SigningKey) (text : List ℕ) (listed : List (List ℕ × List ℕ × List ℕ)) → Lists k (signature_on k text ∷ listed) text
first-listed k text listed = rw (same-text (sha256 text), same-text k.key, same-text k.signature) refl

or-right : (b c : Bool) → c ≡ true → (b || c) ≡ true
or-right true c h = refl
or-right false c h = h

or-left : (b c : Bool) → b ≡ true → (b || c) ≡ true
or-left true c h = refl
or-left false c h = absurd cc

pub all-weaker : {A : Type 0} (P Q : A → Type 0) → ((x : A) → P x → Q x) → (xs : List A) → AllByRecursion P xs → AllByRecursion Q xs
all-weaker P Q f [] all = tt
all-weaker P Q f (x ∷ xs) all = (f x all.0, all-weaker P Q f xs all.1)

later-listed : (k : SigningKey) (text : List ℕ) (x : List ℕ × List ℕ × List ℕ) (listed : List (List ℕ × List ℕ × List ℕ)) → Lists k listed text → Lists k (x ∷ listed) text
later-listed k text x listed h = or-right (is_listed k.key (sha256 text) k.signature x) (list_any (is_listed k.key (sha256 text) k.signature) listed) h

-- of these texts the signatures are listed
pub all-listed : (k : SigningKey) (texts : List (List ℕ)) → AllByRecursion (Lists k (map (signature_on k) texts)) texts
all-listed k [] = tt
all-listed k (t ∷ texts) =
    let listed = map (signature_on k) texts in
    (first-listed k t listed, all-weaker (Lists k listed) (Lists k (signature_on k t ∷ listed)) (λ u h. later-listed k u (signature_on k t) listed h) texts (all-listed k texts))

-- also where they are listed in another order
pub permuted-listed : (k : SigningKey) (text : List ℕ) (listed other : List (List ℕ × List ℕ × List ℕ)) → IsPermutation listed other → Lists k listed text → Lists k other text
permuted-listed k text listed other same h = sym (list_any-IsPermutation (is_listed k.key (sha256 text) k.signature) listed other same) ∙ h

-- and among others
pub listed-among : (k : SigningKey) (text : List ℕ) (before listed after : List (List ℕ × List ℕ × List ℕ)) → Lists k listed text → Lists k (before ++ (listed ++ after)) text
listed-among k text before listed after own =
    let is = is_listed k.key (sha256 text) k.signature in
    list_any-append is before (listed ++ after)
    ∙ or-right (list_any is before) (list_any is (listed ++ after)) (list_any-append is listed after ∙ or-left (list_any is listed) (list_any is after) own)

pub and-both : (b c : Bool) → (b && c) ≡ true → (b ≡ true) × (c ≡ true)
and-both true c h = (refl, h)
and-both false c h = absurd cc

-- what the key's own signature passes, a verifier does that accepts it
pub own-passes : (kind : Kind) (k : SigningKey) (accepts : Accepts) (s : Signed) → accepts k.key (signed_text kind s.contents) k.signature ≡ true → Passes kind (accepted_by k) accepts s
own-passes kind k accepts s own key accepted =
    let both = and-both (bytes_eq key k.key) (bytes_eq s.signature k.signature) accepted in
    let same_key : key ≡ k.key = (bytes_eq-Decides key k.key).0 both.0 in
    let same_signature : s.signature ≡ k.signature = (bytes_eq-Decides s.signature k.signature).0 both.1 in
    let text = signed_text kind s.contents in
    ap (λ (x : List ℕ). accepts x text s.signature) same_key ∙ ap (λ (x : List ℕ). accepts k.key text x) same_signature ∙ own

-- ---- the parts of a list of texts

pub all-mapped : {A B : Type 0} (P : B → Type 0) (f : A → B) (xs : List A) → AllByRecursion P (map f xs) → AllByRecursion (λ x. P (f x)) xs
all-mapped P f [] all = tt
all-mapped P f (x ∷ xs) all = (all.0, all-mapped P f xs all.1)

pub all-front : {A : Type 0} (P : A → Type 0) (xs ys : List A) → AllByRecursion P (xs ++ ys) → AllByRecursion P xs
all-front P [] ys all = tt
all-front P (x ∷ xs) ys all = (all.0, all-front P xs ys all.1)

pub all-behind : {A : Type 0} (P : A → Type 0) (xs ys : List A) → AllByRecursion P (xs ++ ys) → AllByRecursion P ys
all-behind P [] ys all = all
all-behind P (x ∷ xs) ys all = all-behind P xs ys all.1

-- ---- a list that grows

-- one more, at a step of a loop
pub listed-more : {A B : Type 0} (f : A → B) (old now next : List B) (xs ys : List A) (x : A) (y : B) → now ≡ old ++ map f xs → next ≡ now ++ y ∷ [] → y ≡ f x → ys ≡ xs ++ x ∷ [] → next ≡ old ++ map f ys
listed-more {A} {B} f old now next xs ys x y before pushed is more =
    pushed ∙ ap (λ (l : List B). l ++ y ∷ []) before ∙ append_assoc old (map f xs) (y ∷ []) ∙ ap (λ (l : List B). old ++ l) (ap (λ (z : B). map f xs ++ z ∷ []) is ∙ sym (ap (map f) more ∙ map_push f xs x))
