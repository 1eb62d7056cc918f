-- A registry that adds lawful records stays one of its key.
use Rattle.std.proofs.Common.{Bool, true, false, Option, Some, ◌≤◌, ◌≡◌, ◌+◌, ◌∷◌, ◌++◌, [], List, ℕ, None, ◌<◌, ◌^◌, refl, sym, ◌∙◌, ap, subst, length, take, map, arith}
use Rattle.std.specs.Prelude.{codes, cond, is_some, IsUtf8, IfSome}
use Rattle.std.proofs.lemmas.Bool.{false≢true}
use Rattle.std.specs.List.{AllByRecursion}
use Rattle.std.proofs.lemmas.List.{take_at, take-append-le, length-append}
use Rattle.warg_hash.specs.Hash.{package_log_id}
use Rattle.warg_record.specs.Key.{IsKeyText}
use Rattle.warg_record.specs.Record.{Package, Operator, PlainEntry, Init, IsEntry, IsRecord}
use Rattle.warg_record.specs.Envelope.{Signed}
use Rattle.warg_log.specs.Lawful.{IsLawful, IsRead}
use Rattle.warg_log.specs.Rules.{breach_of, is_first, head_of}
use Rattle.warg_log.specs.declared.head.Head.{Head}
use Rattle.sha2.specs.Sha256.{sha256}
use Rattle.warg_proof.specs.Leaves.{log_entry}
use Rattle.warg_proof.specs.LogTree.{root}
use Rattle.warg_proof.specs.MapTree.{map_root}
use Rattle.warg_exchange.specs.declared.checkpoint.Checkpoint.{Checkpoint}
use Rattle.warg_exchange.specs.declared.checkpoint.SignedCheckpoint.{SignedCheckpoint}
use Rattle.warg_ledger.specs.Registry.{Registry, IsCheckpointOf, heads_before}
use Rattle.warg_model.specs.Records.{accepted_by, record_at, signed_by, records_of}
use Rattle.warg_model.specs.declared.key.SigningKey.{SigningKey}
use Rattle.warg_model.specs.Held.{Held, init_of, opened, registry_of, IsLatest, IsModel, IsOwn, IsPackageLogId, package_records, with_record, with_log}
use Rattle.warg_model.proofs.RecordLaws.{GoesOn, each-lawful, records-more, record-form}

pub all-push : {A : Type 0} (P : A → Type 0) (xs : List A) (x : A) → AllByRecursion P xs → P x → AllByRecursion P (xs ++ x ∷ [])
all-push P [] x all h = (h, tt)
all-push P (y ∷ xs) x all h = (all.0, all-push P xs x all.1 h)

-- the next record of a package's log
abbrev pub next_of : Held → List ℕ → PlainEntry → Signed
next_of h name entry = signed_by h.key (record_at (length h.published + 1) (package_records h name) entry)

-- the list with it
pub held-more : (h : Held) (name : List ℕ) (entry : PlainEntry) (published : List (List ℕ × Signed)) (id : List ℕ) (s : Signed) → published ≡ h.published ++ (id, s) ∷ [] → id ≡ package_log_id name → s ≡ next_of h name entry
    → record h { published = published } ≡ with_record h name entry
held-more h name entry published id s parts same made =
    ap (λ (l : List (List ℕ × Signed)). record h { published = l })
    (parts ∙ ap (λ (i : List ℕ). h.published ++ (i, s) ∷ []) same ∙ ap (λ (t : Signed). h.published ++ (package_log_id name, t) ∷ []) made)

-- the package's log has it too
pub log-more : (h k : Held) (name : List ℕ) (entry : PlainEntry) (s : Signed) → s ≡ next_of h name entry → k ≡ with_record h name entry → package_records k name ≡ package_records h name ++ s ∷ []
log-more h k name entry s made is =
    ap (λ (j : Held). package_records j name) is ∙ records-more (package_log_id name) h.published (next_of h name entry) ∙ ap (λ (t : Signed). package_records h name ++ t ∷ []) (sym made)

-- a checkpoint of a list is one of the list with more records
pub checkpoint-stays : (w u : Registry) (more : List (List ℕ × Signed)) (c : Checkpoint) → u.entries ≡ w.entries ++ more → IsCheckpointOf w c → IsCheckpointOf u c
checkpoint-stays w u more c parts is =
    let n = c.log_length in
    let below : n ≤ length w.entries = is.below in
    let same : take n u.entries ≡ take n w.entries = ap (take n) parts ∙ take-append-le n w.entries more below in
    record {
      positive = is.positive;
      below = rw (ap length parts ∙ length-append w.entries more) (omega (arith, below));
      log_root = is.log_root ∙ ap (λ (l : List (List ℕ × Signed)). root (map (λ e. log_entry e.0 (sha256 e.1.contents)) l)) (sym same);
      map_root = is.map_root ∙ ap (λ (l : List (List ℕ × Signed)). map_root (heads_before l [])) (sym same);
    }

latest-stays : (latest : Option SignedCheckpoint) (h k : Held) (more : List (List ℕ × Signed)) → (registry_of k).entries ≡ (registry_of h).entries ++ more → k.checkpoints ≡ h.checkpoints → k.key ≡ h.key → IfSome latest (IsLatest h) → IfSome latest (IsLatest k)
latest-stays None h k more parts same key is = tt
latest-stays (Some c) h k more parts same key is = record {
  is = checkpoint-stays (registry_of h) (registry_of k) more c.contents parts is.is;
  before = is.before;
  last = same ∙ is.last;
  key_id = is.key_id ∙ ap (λ (j : SigningKey). sha256 j.key) (sym key);
  signature = is.signature ∙ ap (λ (j : SigningKey). j.signature) (sym key);
}

-- a record that breaks no rule behind those of its log
pub model-more : (h : Held) (name : List ℕ) (entry : PlainEntry) → GoesOn (accepted_by h.key) → breach_of Package (accepted_by h.key) (package_records h name) (next_of h name entry) ≡ None → IsRead Package (next_of h name entry) → IsModel h
    → IsModel (with_record h name entry)
model-more h name entry goes_on obeys read model =
    let s = next_of h name entry in
    let id = package_log_id name in
    record {
      opening = model.opening;
      obeys = model.obeys;
      lawful = each-lawful (accepted_by h.key) goes_on h.published id s model.lawful obeys;
      ids = all-push (λ e. IsPackageLogId e.0) h.published (id, s) model.ids (name, refl);
      opening_is_read = model.opening_is_read;
      each_is_read = all-push (λ e. IsRead Package e.1) h.published (id, s) model.each_is_read read;
      each_is_own = all-push (λ e. IsOwn h.key e.1) h.published (id, s) model.each_is_own (record { key_id = refl; signature = refl });
      signature_text = model.signature_text;
      latest = latest-stays h.latest h (with_record h name entry) ((id, s) ∷ []) refl refl refl model.latest;
    }

-- the same, as a record is made and judged
pub model-added : (h k : Held) (name : List ℕ) (entry : PlainEntry) (s : Signed) → GoesOn (accepted_by h.key) → s ≡ next_of h name entry → breach_of Package (accepted_by h.key) (package_records h name) s ≡ None
    → (IsRecord Package s.rec → IsRead Package s) → length h.published + 1 < 2 ^ 64 → IsEntry Package entry → k ≡ with_record h name entry → IsModel h → IsModel k
model-added h k name entry s goes_on made obeys read small form is model =
    let next = next_of h name entry in
    let has_form : IsRecord Package s.rec = subst (λ (t : Signed). IsRecord Package t.rec) (sym made) (record-form Package (length h.published + 1) (package_records h name) entry small form) in
    subst IsModel (sym is) (model-more h name entry goes_on (ap (breach_of Package (accepted_by h.key) (package_records h name)) (sym made) ∙ obeys) (subst (IsRead Package) made (read has_form)) model)

-- a new registry is one of its key
algorithm-utf8 : IsUtf8 (codes "sha256")
unfolding lib.Utf8.encode
algorithm-utf8 = (codes "sha256", (refl, refl))

model-opened : (k : SigningKey) → breach_of Operator (accepted_by k) [] (opened k).opening ≡ None → (IsRecord Operator (opened k).opening.rec → IsRead Operator (opened k).opening) → IsKeyText k.key → IsKeyText k.signature → IsLawful Package (accepted_by k) [] → IsModel (opened k)
unfolding records_of
model-opened k obeys read key signature none = record {
  opening = refl;
  obeys = obeys;
  lawful = λ id. none;
  ids = tt;
  opening_is_read = read (record-form Operator 0 [] (init_of k) (omega arith) (key, (algorithm-utf8, omega arith)));
  each_is_read = tt;
  each_is_own = tt;
  signature_text = signature;
  latest = tt;
}

-- it is as it opens
pub held-opened : (k : SigningKey) (s : Signed) (published : List (List ℕ × Signed)) (checkpoints : List Checkpoint) → s ≡ signed_by k (record_at 0 [] (init_of k)) → published ≡ [] → checkpoints ≡ []
    → record { key = k; opening = s; published = published; checkpoints = checkpoints; latest = None } ≡ opened k
held-opened k s published checkpoints made none no_checkpoint =
    ap (λ (t : Signed). record { key = k; opening = t; published = published; checkpoints = checkpoints; latest = None }) made
    ∙ ap (λ (l : List (List ℕ × Signed)). record (opened k) { published = l; checkpoints = checkpoints }) none
    ∙ ap (λ (l : List Checkpoint). record (opened k) { checkpoints = l }) no_checkpoint

-- and sound
pub new-model : (h : Held) (k : SigningKey) (s : Signed) → h ≡ opened k → s ≡ signed_by k (record_at 0 [] (init_of k)) → breach_of Operator (accepted_by k) [] s ≡ None → (IsRecord Operator s.rec → IsRead Operator s) → IsKeyText k.key → IsKeyText k.signature → IsLawful Package (accepted_by k) []
    → IsModel h
new-model h k s is made obeys read key signature none =
    subst IsModel (sym is) (model-opened k (ap (breach_of Operator (accepted_by k) []) (sym made) ∙ obeys) (subst (λ (t : Signed). IsRecord Operator t.rec → IsRead Operator t) made read) key signature none)

-- the text of an Init with equal parts
pub init-made : (k : SigningKey) (key algorithm : List ℕ) (s : Signed) → key ≡ k.key → algorithm ≡ codes "sha256" → s ≡ signed_by k (record_at 0 [] (Init key algorithm)) → s ≡ signed_by k (record_at 0 [] (init_of k))
init-made k key algorithm s same sha256 made =
    made ∙ ap (λ (t : List ℕ). signed_by k (record_at 0 [] (Init t algorithm))) same ∙ ap (λ (t : List ℕ). signed_by k (record_at 0 [] (Init k.key t))) sha256

-- ---- a package's log

-- a log whose head is none has no record yet
pub first-of : (log : List Signed) (head : Option Head) → head ≡ head_of log → is_some head ≡ false → is_first log ≡ true
first-of [] head is none = refl
first-of (s ∷ log) head is none = absurd (false≢true (sym none ∙ ap (λ (o : Option Head). is_some o) is))

pub later-of : (log : List Signed) (head : Option Head) → head ≡ head_of log → is_some head ≡ true → is_first log ≡ false
later-of [] head is some = absurd (false≢true (sym (ap (λ (o : Option Head). is_some o) is) ∙ some))
later-of (s ∷ log) head is some = refl

pub init-form : (k : SigningKey) (key algorithm : List ℕ) → key ≡ k.key → algorithm ≡ codes "sha256" → IsKeyText k.key → IsEntry Package (Init key algorithm)
init-form k key algorithm same sha256 form = rw (same, sha256) (form, (algorithm-utf8, omega arith))

-- the log of a new package opens with an Init
pub log-opened : (h k : Held) (name key algorithm : List ℕ) → is_first (package_records h name) ≡ true → key ≡ h.key.key → algorithm ≡ codes "sha256" → k ≡ with_record h name (Init key algorithm) → k ≡ with_log h name
log-opened h k name key algorithm first same sha256 is =
    is ∙ ap (λ (t : List ℕ). with_record h name (Init t algorithm)) same ∙ ap (λ (t : List ℕ). with_record h name (Init h.key.key t)) sha256
    ∙ ap (λ (b : Bool). cond b (with_record h name (init_of h.key)) h) (sym first)

-- ---- what a refusal leaves

-- without the records that were added, it is as it was
pub truncated : (h k : Held) (published : List (List ℕ × Signed)) (count : ℕ) (more : List (List ℕ × Signed)) → k ≡ record h { published = h.published ++ more } → count ≡ length h.published → published ≡ take count k.published
    → record k { published = published } ≡ h
truncated h k published count more is all taken =
    let front : published ≡ h.published = taken ∙ ap (λ (j : Held). take count j.published) is ∙ take_at h.published more count (sym all) in
    ap (λ (j : Held). record j { published = published }) is ∙ ap (λ (l : List (List ℕ × Signed)). record h { published = l }) front
