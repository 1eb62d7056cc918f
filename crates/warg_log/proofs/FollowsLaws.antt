-- A state that follows a list of records judges as the rules say.
use Rattle.std.proofs.Common.{◌≡◌, ℕ, true, false, not, List, [], ◌∷◌, ◌++◌, length, Option, Some, None, is_some, refl, sym, ap, subst, ◌∙◌, inl, inr, ◌⊎◌, Result, Ok, Err, OnOk}
use Rattle.std.proofs.Common.{take, drop, get_or, map, ◌+◌, ◌<◌}
use Rattle.std.proofs.lemmas.List.{take-append-drop, drop_more, map_more}
use Rattle.std.specs.Option.{option_or}
use Rattle.warg_record.specs.Record.{Kind, PlainEntry}
use Rattle.warg_log.specs.declared.error.ValidationError.{ValidationError}
use Rattle.warg_log.specs.declared.error.ValidationError.TheVariants as error
use Rattle.warg_log.specs.declared.head.Head.{Head}
use Rattle.warg_log.specs.Agrees.{Agrees}
use Rattle.warg_log.specs.Breaches.{IsBreach, wants_memory}
use Rattle.warg_log.specs.History.{last_or}
use Rattle.warg_log.specs.Facts.{PlainFacts, known_steps, known_entries_breach, lacks_opening, signer_by}
use Rattle.warg_log.specs.Lawful.{IsLawful}
use Rattle.warg_log.specs.Rules.{Breach, Accepts, entries_of, head_of, head_from, head_rules, broken, FirstEntryNotInit, BadSignature, signature_breach, signed_text, lacks_init, is_first, signer_key, breach_of}
use Rattle.warg_record.specs.Envelope.{Signed}
use Rattle.warg_log.proofs.AgreesLaws.{breaches-agree, steps-agree}

-- what a breach or what comes after it says
breach_first : (e : ValidationError) (x y : Option Breach) → IsBreach e x → IsBreach e (option_or x y)
breach_first (error.ProtocolVersion version) x y h = rw h refl
breach_first (error.PreviousRecord expected found) x y h = rw h refl
breach_first (error.TimeLower head time) x y h = rw h refl
breach_first error.FirstEntryNotInit x y h = rw h refl
breach_first (error.UnknownKey key_id) x y h = rw h refl
breach_first (error.BadSignature key_id) x y h = rw h refl
breach_first error.InitAgain x y h = rw h refl
breach_first (error.HashAlgorithm found) x y h = rw h refl
breach_first (error.Unpermitted key_id permission) x y h = rw h refl
breach_first (error.ReleaseAgain version) x y h = rw h refl
breach_first (error.YankUnreleased version) x y h = rw h refl
breach_first (error.YankYanked version) x y h = rw h refl
breach_first (error.NamespaceTaken namespace) x y h = rw h refl
breach_first error.Memory x y h = tt

lacks-follows : (head : Option Head) (log : List Signed) (s : Signed) → head ≡ head_of log → lacks_opening head s ≡ lacks_init log s
lacks-follows head [] s is = rw is refl
lacks-follows head (r ∷ log) s is = rw is refl

opens-follows : (head : Option Head) (log : List Signed) → head ≡ head_of log → not (is_some head) ≡ (is_first log)
opens-follows head [] is = rw is refl
opens-follows head (r ∷ log) is = rw is refl

signer-follows : {kind : Kind} (head : Option Head) (k : PlainFacts) (log : List Signed) (s : Signed) → head ≡ head_of log → Agrees kind k (entries_of log) → signer_by head k s ≡ signer_key log s
signer-follows head k [] s is a = rw is refl
signer-follows head k (r ∷ log) s is a = rw is (a.key s.key_id)

-- the rules, by what is kept
breach-follows : (kind : Kind) (accepts : Accepts) (head : Option Head) (k : PlainFacts) (log : List Signed) (s : Signed) → head ≡ head_of log → Agrees kind k (entries_of log)
    → option_or (head_rules head s (broken (lacks_opening head s) FirstEntryNotInit (signature_breach kind accepts s (signer_by head k s)))) (known_entries_breach kind s.key_id (not (is_some head)) k s.rec.entries) ≡ breach_of kind accepts log s
breach-follows kind accepts head k log s is a =
    rw (lacks-follows head log s is, signer-follows head k log s is a, opens-follows head log is, breaches-agree kind k (entries_of log) a s.key_id (is_first log) s.rec.entries, is) refl

-- a record that obeys the rules of the record itself
pub passed : (kind : Kind) (accepts : Accepts) (head : Option Head) (k : PlainFacts) (log : List Signed) (s : Signed) (key : List ℕ) → head ≡ head_of log → Agrees kind k (entries_of log)
    → ((next : Option Breach) → head_rules head s next ≡ next) → lacks_opening head s ≡ false → signer_by head k s ≡ Some key → accepts key (signed_text kind s.contents) s.signature ≡ true
    → known_entries_breach kind s.key_id (not (is_some head)) k s.rec.entries ≡ breach_of kind accepts log s
passed kind accepts head k log s key is a heads opened signs good =
    let own : broken (lacks_opening head s) FirstEntryNotInit (signature_breach kind accepts s (signer_by head k s)) ≡ None = rw (opened, signs, good) refl in
    sym (ap (λ f. option_or f (known_entries_breach kind s.key_id (not (is_some head)) k s.rec.entries)) (heads (broken (lacks_opening head s) FirstEntryNotInit (signature_breach kind accepts s (signer_by head k s))) ∙ own)) ∙ breach-follows kind accepts head k log s is a

-- errors of the record itself
pub head-refused : (kind : Kind) (accepts : Accepts) (head : Option Head) (k : PlainFacts) (log : List Signed) (s : Signed) (e : ValidationError) → head ≡ head_of log → Agrees kind k (entries_of log)
    → ((next : Option Breach) → IsBreach e (head_rules head s next)) → IsBreach e (breach_of kind accepts log s)
head-refused kind accepts head k log s e is a refused = subst (IsBreach e) (breach-follows kind accepts head k log s is a) (breach_first e _ _ (refused _))

pub signer-refused : (kind : Kind) (accepts : Accepts) (head : Option Head) (k : PlainFacts) (log : List Signed) (s : Signed) (e : ValidationError) → head ≡ head_of log → Agrees kind k (entries_of log)
    → ((next : Option Breach) → head_rules head s next ≡ next) → IsBreach e (broken (lacks_opening head s) FirstEntryNotInit (signature_breach kind accepts s (signer_by head k s))) → IsBreach e (breach_of kind accepts log s)
signer-refused kind accepts head k log s e is a heads refused =
    subst (IsBreach e) (breach-follows kind accepts head k log s is a) (breach_first e _ _ (subst (IsBreach e) (sym (heads (broken (lacks_opening head s) FirstEntryNotInit (signature_breach kind accepts s (signer_by head k s))))) refused))

pub signature-refused : (kind : Kind) (accepts : Accepts) (head : Option Head) (k : PlainFacts) (log : List Signed) (s : Signed) (key : List ℕ) → head ≡ head_of log → Agrees kind k (entries_of log)
    → ((next : Option Breach) → head_rules head s next ≡ next) → lacks_opening head s ≡ false → signer_by head k s ≡ Some key → accepts key (signed_text kind s.contents) s.signature ≡ false
    → breach_of kind accepts log s ≡ Some (BadSignature s.key_id)
signature-refused kind accepts head k log s key is a heads opened signs bad =
    let own : broken (lacks_opening head s) FirstEntryNotInit (signature_breach kind accepts s (signer_by head k s)) ≡ Some (BadSignature s.key_id) = rw (opened, signs, bad) refl in
    sym (breach-follows kind accepts head k log s is a) ∙ ap (λ f. option_or f (known_entries_breach kind s.key_id (not (is_some head)) k s.rec.entries)) (heads (broken (lacks_opening head s) FirstEntryNotInit (signature_breach kind accepts s (signer_by head k s))) ∙ own)

-- one more record
pub entries-push : (log : List Signed) (s : Signed) → entries_of (log ++ s ∷ []) ≡ entries_of log ++ s.rec.entries
entries-push [] s = ends s.rec.entries
  where
    ends : (xs : List PlainEntry) → xs ++ [] ≡ xs
    ends [] = refl
    ends (x ∷ xs) = ap (λ ys. x ∷ ys) (ends xs)
entries-push (r ∷ log) s = ap (λ xs. r.rec.entries ++ xs) (entries-push log s) ∙ grouped r.rec.entries (entries_of log)
  where
    grouped : (xs ys : List PlainEntry) → xs ++ (ys ++ s.rec.entries) ≡ (xs ++ ys) ++ s.rec.entries
    grouped [] ys = refl
    grouped (x ∷ xs) ys = ap (λ zs. x ∷ zs) (grouped xs ys)

pub head-push : (log : List Signed) (s : Signed) → head_of (log ++ s ∷ []) ≡ Some (head_from s)
head-push [] s = refl
head-push (r ∷ log) s = ap (λ x. Some (head_from x)) (last r log)
  where
    last : (r : Signed) (log : List Signed) → last_or r (log ++ s ∷ []) ≡ s
    last r [] = refl
    last r (x ∷ log) = last x log

pub agrees-push : (kind : Kind) (accepts : Accepts) (head : Option Head) (k : PlainFacts) (log : List Signed) (s : Signed) → head ≡ head_of log → Agrees kind k (entries_of log)
    → known_entries_breach kind s.key_id (not (is_some head)) k s.rec.entries ≡ None → Agrees kind (known_steps kind k s.rec.entries) (entries_of (log ++ s ∷ []))
agrees-push kind accepts head k log s is a ok =
    subst (Agrees kind (known_steps kind k s.rec.entries)) (sym (entries-push log s))
    (steps-agree kind k (entries_of log) a s.key_id (not (is_some head)) s.rec.entries (sym (breaches-agree kind k (entries_of log) a s.key_id (not (is_some head)) s.rec.entries) ∙ ok))

-- ---- lawful lists

cut_short : {A : Type 0} (before after : List A) (t : A) → [] ≡ before ++ t ∷ after → ⊥
cut_short [] after t e = absurd cc
cut_short (b ∷ before) after t e = absurd cc

abbrev first_or : {A : Type 0} → A → List A → A
first_or d [] = d
first_or d (x ∷ xs) = x

abbrev rest_of : {A : Type 0} → List A → List A
rest_of [] = []
rest_of (x ∷ xs) = xs

pub lawful-none : (kind : Kind) (accepts : Accepts) → IsLawful kind accepts []
lawful-none kind accepts before after s e = absurd (cut_short before after s e)

-- where one more record is cut
cut : (xs : List Signed) (x : Signed) (before : List Signed) (t : Signed) (after : List Signed) → xs ++ x ∷ [] ≡ before ++ t ∷ after
    → ((xs ≡ before) × (x ≡ t)) ⊎ ((more : List Signed) × (xs ≡ before ++ t ∷ more))
cut [] x [] t after e = inl (refl, ap (first_or x) e)
cut [] x (b ∷ before) t after e = absurd (cut_short before after t (ap rest_of e))
cut (y ∷ xs) x [] t after e = inr (xs, ap (λ z. z ∷ xs) (ap (first_or y) e))
cut (y ∷ xs) x (b ∷ before) t after e = elim (cut xs x before t after (ap rest_of e)) [
  | inl here ↦ inl (ap (λ z. z ∷ xs) (ap (first_or y) e) ∙ ap (λ zs. b ∷ zs) here.0, here.1)
  | inr later ↦ inr (later.0, ap (λ z. z ∷ xs) (ap (first_or y) e) ∙ ap (λ zs. b ∷ zs) later.1)
]

pub lawful-push : (kind : Kind) (accepts : Accepts) (log : List Signed) (s : Signed) → IsLawful kind accepts log → breach_of kind accepts log s ≡ None → IsLawful kind accepts (log ++ s ∷ [])
lawful-push kind accepts log s lawful ok before after t e = elim (cut log s before t after e) [
  | inl here ↦ sym (ap (λ l. breach_of kind accepts l t) here.0) ∙ sym (ap (breach_of kind accepts log) here.1) ∙ ok
  | inr later ↦ lawful before later.0 t later.1
]

none_some : {f : Breach} → None ≡ Some f → ⊥
none_some e = cc

-- an error that is no breach is want of memory
pub no_breach : (e : ValidationError) → IsBreach e None → wants_memory e ≡ true
no_breach (error.ProtocolVersion version) h = absurd (none_some h)
no_breach (error.PreviousRecord expected found) h = absurd (none_some h)
no_breach (error.TimeLower head time) h = absurd (none_some h)
no_breach error.FirstEntryNotInit h = absurd (none_some h)
no_breach (error.UnknownKey key_id) h = absurd (none_some h)
no_breach (error.BadSignature key_id) h = absurd (none_some h)
no_breach error.InitAgain h = absurd (none_some h)
no_breach (error.HashAlgorithm found) h = absurd (none_some h)
no_breach (error.Unpermitted key_id permission) h = absurd (none_some h)
no_breach (error.ReleaseAgain version) h = absurd (none_some h)
no_breach (error.YankUnreleased version) h = absurd (none_some h)
no_breach (error.YankYanked version) h = absurd (none_some h)
no_breach (error.NamespaceTaken namespace) h = absurd (none_some h)
no_breach error.Memory h = refl

-- ---- where a call answers Ok

pub on_ok : {T E P Q : Type 0} (r : Result T E) → (P → Q) → OnOk r P → OnOk r Q
on_ok (Ok x) f p = f p
on_ok (Err e) f p = tt

pub on_ok_all : {T E P Q R S : Type 0} (r : Result T E) → (P → Q → R → S) → OnOk r P → OnOk r Q → OnOk r R → OnOk r S
on_ok_all (Ok x) f p q t = f p q t
on_ok_all (Err e) f p q t = tt

-- ---- a list of envelopes, up to a place

mapped : {A B : Type 0} (f : A → B) (xs ys : List A) → map f (xs ++ ys) ≡ map f xs ++ map f ys
mapped f [] ys = refl
mapped f (x ∷ xs) ys = ap (λ zs. f x ∷ zs) (mapped f xs ys)

pub cut_at : {A B : Type 0} (f : A → B) (xs : List A) (i : ℕ) (x : A) → i < length xs → x ≡ get_or xs i x → map f xs ≡ map f (take i xs) ++ f x ∷ map f (drop (i + 1) xs)
cut_at f xs i x lt is =
    ap (map f) (sym (take-append-drop i xs) ∙ ap (λ ys. take i xs ++ ys) (drop_more xs i x lt ∙ ap (λ y. y ∷ drop (i + 1) xs) (sym is)))
    ∙ mapped f (take i xs) (x ∷ drop (i + 1) xs)

pub one_at : {A B : Type 0} (f : A → B) (xs : List A) (i : ℕ) (x : A) → i < length xs → x ≡ get_or xs i x → map f (take (i + 1) xs) ≡ map f (take i xs) ++ f x ∷ []
one_at f xs i x lt is = map_more f xs i x lt ∙ ap (λ y. map f (take i xs) ++ f y ∷ []) (sym is)
