-- What is kept says what the entries say: of each entry, and of lists of entries.
use Rattle.std.proofs.Common.{◌≡◌, ℕ, zero, suc, Bool, true, false, cond, not, ◌&&◌, ◌||◌, List, [], ◌∷◌, ◌++◌, map, Option, Some, None, is_some, option_map, refl, sym, ap, subst, ◌∙◌, inl, inr}
use Rattle.std.specs.Prelude.{bytes_eq, codes, filter_map, find}
use Rattle.std.specs.Option.{option_or}
use Rattle.std.specs.List.{list_any}
use Rattle.std.proofs.lemmas.Bool.{cases_Bool, false≢true}
use Rattle.std.proofs.lemmas.List.Elements.{filter_map-append}
use Rattle.std.proofs.lemmas.List.Folds.{find-append, list_any-append}
use Rattle.std.proofs.lemmas.Slice.Eq.{bytes_eq-Decides}
use Rattle.semver.specs.Parse.{Parts}
use Rattle.sha2.specs.Sha256.{sha256}
use Rattle.warg_record.specs.Record.{Kind, PlainEntry, Init, GrantFlat, RevokeFlat, Release, Yank, DefineNamespace, ImportNamespace, is_permission}
use Rattle.warg_log.specs.declared.permissions.PermissionSet.{PermissionSet}
use Rattle.warg_log.specs.declared.keys.KeyFacts.{KeyFacts}
use Rattle.warg_log.specs.Agrees.{Agrees}
use Rattle.warg_log.specs.History.{key_in, key_with, has_id, holds, word_on, last_or, is_known_permission, same_version, release_in, released, yank_in, is_released, is_yanked, standing, releases_of, namespace_in, namespace_of}
use Rattle.warg_log.specs.Keys.{given, taken}
use Rattle.warg_log.specs.Facts.{PlainFacts, nothing, is_held, place_among, each_unheld, yanked_breach, yank_breach, known_breach, known_step, known_entries_breach, known_steps, yanked_at}
use Rattle.warg_log.specs.Permissions.{set_of, all_of}
use Rattle.warg_log.specs.Places.{place_of, versions_of, AreDistinct, with_content}
use Rattle.warg_log.specs.Rules.{Breach, broken, each_unpermitted, entry_breach, entries_breach, ReleaseAgain, YankUnreleased, YankYanked, NamespaceTaken, Unpermitted}
use Rattle.warg_log.proofs.PermissionLaws.{bytes_sym, has-all_of, has-set_of, holds-push, give-held, take-held}
use Rattle.warg_log.proofs.ReleaseLaws.{same_version-is, same_version-refl, same-sym, versions-push, AreDistinct-push}

-- ---- releases as they stand

places_known : (v : Parts) (past : List PlainEntry) (rs : List (Parts × List ℕ)) → is_some (place_among v (map (standing past) rs)) ≡ list_any (λ r. same_version v r.0) rs
places_known v past [] = refl
places_known v past (r ∷ rs) = by (same_version v r.0) (place_among v (map (standing past) rs)) (list_any (λ s. same_version v s.0) rs) (places_known v past rs)
  where
    by : (b : Bool) (o : Option ℕ) (c : Bool) → is_some o ≡ c → is_some (cond b (Some 0) (option_map suc o)) ≡ (b || c)
    by true o c h = refl
    by false None c h = h
    by false (Some i) c h = h

yanks_known : (v : Parts) (past : List PlainEntry) (rs : List (Parts × List ℕ))
    → yank_breach v (map (standing past) rs) (place_among v (map (standing past) rs)) ≡ broken (not (list_any (λ r. same_version v r.0) rs)) (YankUnreleased v) (broken (is_yanked v past) (YankYanked v) None)
yanks_known v past [] = refl
yanks_known v past (r ∷ rs) = elim (cases_Bool (same_version v r.0)) [
  | inl here ↦ rw here (rw (sym (same_version-is v r.0 here)) (content (is_yanked v past) r.1))
  | inr other ↦ rw other (later (place_among v (map (standing past) rs)) ∙ yanks_known v past rs)
]
  where
    content : (b : Bool) (c : List ℕ) → yanked_breach v (cond b None (Some c)) ≡ broken b (YankYanked v) None
    content true c = refl
    content false c = refl

    later : (o : Option ℕ) → yank_breach v (standing past r ∷ map (standing past) rs) (option_map suc o) ≡ yank_breach v (map (standing past) rs) o
    later None = refl
    later (Some i) = refl

-- ---- what is judged

each_agrees : {kind : Kind} {k : PlainFacts} {past : List PlainEntry} (a : Agrees kind k past) (signer : List ℕ) (ps : List (List ℕ)) → each_unheld signer k ps ≡ each_unpermitted kind signer past ps
each_agrees a signer [] = refl
each_agrees a signer (p ∷ ps) = rw (a.held signer p, each_agrees a signer ps) refl

pub breach-agrees : {kind : Kind} {k : PlainFacts} {past : List PlainEntry} (a : Agrees kind k past) (signer : List ℕ) (opens : Bool) (e : PlainEntry) → known_breach signer opens k e ≡ entry_breach kind signer opens past e
breach-agrees a signer opens (Init key algorithm) = refl
breach-agrees a signer opens (GrantFlat key permissions) = each_agrees a signer permissions
breach-agrees a signer opens (RevokeFlat key_id permissions) = each_agrees a signer permissions
breach-agrees {past = past} a signer opens (Release version content) = rw (a.held signer (codes "release"), a.releases, places_known version past (released past)) refl
breach-agrees {past = past} a signer opens (Yank version) = rw (a.held signer (codes "yank"), a.releases, yanks_known version past (released past)) refl
breach-agrees a signer opens (DefineNamespace namespace) = rw (a.held signer (codes "defineNamespace"), a.spaces namespace) refl
breach-agrees a signer opens (ImportNamespace namespace registry) = rw (a.held signer (codes "importNamespace"), a.spaces namespace) refl

-- ---- one more entry: what the lists say

keep_or : {A : Type 0} (o : Option A) → option_or o None ≡ o
keep_or None = refl
keep_or (Some x) = refl

more_none : {X Y : Type 0} (f : X → Option Y) (past : List X) (e : X) → f e ≡ None → filter_map f (past ++ e ∷ []) ≡ filter_map f past
more_none f [] e is = rw is refl
more_none f (x ∷ past) e is = rw (more_none f past e is) refl

more_some : {X Y : Type 0} (f : X → Option Y) (past : List X) (e : X) (y : Y) → f e ≡ Some y → filter_map f (past ++ e ∷ []) ≡ filter_map f past ++ y ∷ []
more_some f past e y is = filter_map-append f past (e ∷ []) ∙ rw is refl

or_false : (b : Bool) → (b || false) ≡ b
or_false true = refl
or_false false = refl

-- a key that is brought
key_more : (id key : List ℕ) (past : List PlainEntry) (e : PlainEntry) → key_in e ≡ Some key → key_with id (past ++ e ∷ []) ≡ option_or (key_with id past) (cond (has_id id key) (Some key) None)
key_more id key past e is = ap (find (has_id id)) (more_some key_in past e key is) ∙ find-append (has_id id) (filter_map key_in past) (key ∷ [])

given_key : (h : Bool) (o : Option KeyFacts) (key : List ℕ) (gained : PermissionSet)
    → option_map (λ (f : KeyFacts). f.key) (cond h (Some (given o key gained)) o) ≡ option_or (option_map (λ (f : KeyFacts). f.key) o) (cond h (Some key) None)
given_key true None key gained = refl
given_key true (Some f) key gained = refl
given_key false None key gained = refl
given_key false (Some f) key gained = refl

taken_key : (h : Bool) (o : Option KeyFacts) (lost : PermissionSet) → option_map (λ (f : KeyFacts). f.key) (cond h (taken o lost) o) ≡ option_map (λ (f : KeyFacts). f.key) o
taken_key true None lost = refl
taken_key true (Some f) lost = refl
taken_key false o lost = refl

-- the releases stay where no version is released or yanked
standing_kept : (past more : List PlainEntry) → ((v : Parts) → is_yanked v more ≡ is_yanked v past) → (rs : List (Parts × List ℕ)) → map (standing more) rs ≡ map (standing past) rs
standing_kept past more same [] = refl
standing_kept past more same (r ∷ rs) = rw (same r.0, standing_kept past more same rs) refl

yanks_kept : (past : List PlainEntry) (e : PlainEntry) → yank_in e ≡ None → (v : Parts) → is_yanked v (past ++ e ∷ []) ≡ is_yanked v past
yanks_kept past e is v = ap (list_any (same_version v)) (more_none yank_in past e is)

releases_kept : (past : List PlainEntry) (e : PlainEntry) → release_in e ≡ None → yank_in e ≡ None → releases_of (past ++ e ∷ []) ≡ releases_of past
releases_kept past e no_release no_yank = ap (map (standing (past ++ e ∷ []))) (more_none release_in past e no_release) ∙ standing_kept past (past ++ e ∷ []) (yanks_kept past e no_yank) (released past)

-- namespaces stay where none is taken
spaces_kept : (past : List PlainEntry) (e : PlainEntry) (n : List ℕ) → namespace_in e ≡ None → namespace_of n (past ++ e ∷ []) ≡ namespace_of n past
spaces_kept past e n is = ap (λ ns. option_map (λ m. m.1) (find (λ m. bytes_eq n m.0) ns)) (more_none namespace_in past e is)

keys_kept : (past : List PlainEntry) (e : PlainEntry) (id : List ℕ) → key_in e ≡ None → key_with id (past ++ e ∷ []) ≡ key_with id past
keys_kept past e id is = ap (find (has_id id)) (more_none key_in past e is)

released_kept : (past : List PlainEntry) (e : PlainEntry) (v : Parts) → release_in e ≡ None → is_released v (past ++ e ∷ []) ≡ is_released v past
released_kept past e v is = ap (list_any (λ r. same_version v r.0)) (more_none release_in past e is)

yanked_kept : (past : List PlainEntry) (e : PlainEntry) → release_in e ≡ None → yank_in e ≡ None → ((v : Parts) → is_released v past ≡ false → is_yanked v past ≡ false)
    → (v : Parts) → is_released v (past ++ e ∷ []) ≡ false → is_yanked v (past ++ e ∷ []) ≡ false
yanked_kept past e no_release no_yank all v h = yanks_kept past e no_yank v ∙ all v (sym (released_kept past e v no_release) ∙ h)

-- ---- permissions

known_word : {kind : Kind} {k : PlainFacts} {past : List PlainEntry} (a : Agrees kind k past) (id q : List ℕ) (e : PlainEntry) → word_on kind id q e ≡ None → is_held k id q ≡ holds kind id q (past ++ e ∷ [])
known_word {kind} {k} {past} a id q e is = a.held id q ∙ sym (holds-push kind id q past e ∙ rw is refl)

init_held : {kind : Kind} {k : PlainFacts} {past : List PlainEntry} (a : Agrees kind k past) (key algorithm id q : List ℕ) → is_held (known_step kind k (Init key algorithm)) id q ≡ holds kind id q (past ++ Init key algorithm ∷ [])
init_held {kind} {k} {past} a key algorithm id q =
    give-held (bytes_eq (sha256 key) id) (is_known_permission q) (last_or false (filter_map (word_on kind id q) past)) (is_permission kind q) (k.keys id) key q (all_of kind) (a.held id q) (has-all_of kind q)
    ∙ sym (holds-push kind id q past (Init key algorithm))

grant_held : {kind : Kind} {k : PlainFacts} {past : List PlainEntry} (a : Agrees kind k past) (key : List ℕ) (permissions : List (List ℕ)) (id q : List ℕ) → is_held (known_step kind k (GrantFlat key permissions)) id q ≡ holds kind id q (past ++ GrantFlat key permissions ∷ [])
grant_held {kind} {k} {past} a key permissions id q =
    give-held (bytes_eq (sha256 key) id) (is_known_permission q) (last_or false (filter_map (word_on kind id q) past)) (list_any (bytes_eq q) permissions) (k.keys id) key q (set_of permissions) (a.held id q) (has-set_of q permissions)
    ∙ sym (holds-push kind id q past (GrantFlat key permissions))

revoke_held : {kind : Kind} {k : PlainFacts} {past : List PlainEntry} (a : Agrees kind k past) (key_id : List ℕ) (permissions : List (List ℕ)) (id q : List ℕ) → is_held (known_step kind k (RevokeFlat key_id permissions)) id q ≡ holds kind id q (past ++ RevokeFlat key_id permissions ∷ [])
revoke_held {kind} {k} {past} a key_id permissions id q =
    take-held (bytes_eq key_id id) (is_known_permission q) (last_or false (filter_map (word_on kind id q) past)) (list_any (bytes_eq q) permissions) (k.keys id) q (set_of permissions) (a.held id q) (has-set_of q permissions)
    ∙ sym (holds-push kind id q past (RevokeFlat key_id permissions))

-- ---- a release

breach_gone : (b : Bool) (f : Breach) (next : Option Breach) → broken b f next ≡ None → (b ≡ false) × (next ≡ None)
breach_gone true f next h = absurd cc
breach_gone false f next h = (refl, h)

place_gone : (v : Parts) (o : Option ℕ) → is_some o ≡ false → o ≡ None
place_gone v None h = refl
place_gone v (Some i) h = absurd (false≢true (sym h))

release_more : (past : List PlainEntry) (v : Parts) (content : List ℕ) → is_yanked v past ≡ false → releases_of (past ++ Release v content ∷ []) ≡ releases_of past ++ (v, Some content) ∷ []
release_more past v content fresh =
    ap (map (standing (past ++ Release v content ∷ []))) (more_some release_in past (Release v content) (v, content) refl)
    ∙ standing_kept past (past ++ Release v content ∷ []) (yanks_kept past (Release v content) refl) (released past ++ (v, content) ∷ [])
    ∙ pushed (released past)
  where
    pushed : (rs : List (Parts × List ℕ)) → map (standing past) (rs ++ (v, content) ∷ []) ≡ map (standing past) rs ++ (v, Some content) ∷ []
    pushed [] = rw fresh refl
    pushed (r ∷ rs) = ap (λ xs. standing past r ∷ xs) (pushed rs)

released_more : (past : List PlainEntry) (w v : Parts) (content : List ℕ) → is_released w (past ++ Release v content ∷ []) ≡ (is_released w past || (same_version w v || false))
released_more past w v content = ap (list_any (λ r. same_version w r.0)) (more_some release_in past (Release v content) (v, content) refl) ∙ list_any-append (λ r. same_version w r.0) (released past) ((v, content) ∷ [])

or_gone : (b c : Bool) → (b || c) ≡ false → (b ≡ false) × (c ≡ false)
or_gone true c h = absurd (false≢true (sym h))
or_gone false c h = (refl, h)

-- ---- a yank

yanked_more : (past : List PlainEntry) (w v : Parts) → is_yanked w (past ++ Yank v ∷ []) ≡ (is_yanked w past || (same_version w v || false))
yanked_more past w v = ap (list_any (same_version w)) (more_some yank_in past (Yank v) v refl) ∙ list_any-append (same_version w) (filter_map yank_in past) (v ∷ [])

same-flip : (v w : Parts) → same_version v w ≡ false → same_version w v ≡ false
same-flip v w h = same-sym v w h

none_later : (b : Bool) (o : Option ℕ) → cond b (Some 0) (option_map suc o) ≡ None → (b ≡ false) × (o ≡ None)
none_later true o h = absurd cc
none_later false None h = (refl, refl)
none_later false (Some i) h = absurd cc

no_place : (past : List PlainEntry) (v : Parts) (rs : List (Parts × List ℕ)) → place_among v (map (standing past) rs) ≡ None → map (standing (past ++ Yank v ∷ [])) rs ≡ map (standing past) rs
no_place past v [] h = refl
no_place past v (r ∷ rs) h =
    let parts = none_later (same_version v r.0) (place_among v (map (standing past) rs)) h in
    let same : is_yanked r.0 (past ++ Yank v ∷ []) ≡ is_yanked r.0 past = yanked_more past r.0 v ∙ rw (same-flip v r.0 parts.0) (or_false (is_yanked r.0 past)) in
    rw (same, no_place past v rs parts.1) refl

or_true : (b : Bool) → (b || true) ≡ true
or_true true = refl
or_true false = refl

yank_places : (past : List PlainEntry) (v : Parts) (rs : List (Parts × List ℕ)) → AreDistinct (versions_of (map (standing past) rs))
    → yanked_at (place_among v (map (standing past) rs)) (map (standing past) rs) ≡ map (standing (past ++ Yank v ∷ [])) rs
yank_places past v [] are = refl
yank_places past v (r ∷ rs) are = elim (cases_Bool (same_version v r.0)) [
  | inl here ↦
      let is : v ≡ r.0 = same_version-is v r.0 here in
      let gone : is_yanked r.0 (past ++ Yank v ∷ []) ≡ true = yanked_more past r.0 v ∙ rw is (rw (same_version-refl r.0) (or_true (is_yanked r.0 past))) in
      let none : place_among v (map (standing past) rs) ≡ None = subst (λ w. place_of w (versions_of (map (standing past) rs)) ≡ None) (sym is) are.0 in
      rw (here, gone, no_place past v rs none) refl
  | inr other ↦
      let same : is_yanked r.0 (past ++ Yank v ∷ []) ≡ is_yanked r.0 past = yanked_more past r.0 v ∙ rw (same-flip v r.0 other) (or_false (is_yanked r.0 past)) in
      rw (other, same) (later (place_among v (map (standing past) rs)) ∙ ap (λ xs. standing past r ∷ xs) (yank_places past v rs are.1))
]
  where
    later : (o : Option ℕ) → yanked_at (option_map suc o) (standing past r ∷ map (standing past) rs) ≡ standing past r ∷ yanked_at o (map (standing past) rs)
    later None = refl
    later (Some i) = refl

yank_distinct : (o : Option ℕ) (rs : List (Parts × Option (List ℕ))) → versions_of (yanked_at o rs) ≡ versions_of rs
yank_distinct None rs = refl
yank_distinct (Some i) rs = at i rs
  where
    at : (i : ℕ) (rs : List (Parts × Option (List ℕ))) → versions_of (with_content rs i None) ≡ versions_of rs
    at i [] = refl
    at zero (r ∷ rs) = refl
    at (suc i) (r ∷ rs) = ap (λ ws. r.0 ∷ ws) (at i rs)

-- ---- a namespace

space_more : (past : List PlainEntry) (e : PlainEntry) (name : List ℕ) (state : Option (List ℕ)) → namespace_in e ≡ Some (name, state) → namespace_of name past ≡ None
    → (n : List ℕ) → namespace_of n (past ++ e ∷ []) ≡ cond (bytes_eq name n) (Some state) (namespace_of n past)
space_more past e name state is free n =
    ap (λ ns. option_map (λ m. m.1) (find (λ m. bytes_eq n m.0) ns)) (more_some namespace_in past e (name, state) is)
    ∙ ap (option_map (λ m. m.1)) (find-append (λ m. bytes_eq n m.0) (filter_map namespace_in past) ((name, state) ∷ []))
    ∙ ap (λ b. option_map (λ m. m.1) (option_or (find (λ m. bytes_eq n m.0) (filter_map namespace_in past)) (cond b (Some (name, state)) None))) (bytes_sym n name)
    ∙ elim (cases_Bool (bytes_eq name n)) [
      | inl here ↦ rw here (at_name (find (λ m. bytes_eq n m.0) (filter_map namespace_in past)) (subst (λ m. namespace_of m past ≡ None) ((bytes_eq-Decides name n).0 here) free))
      | inr other ↦ rw other (elsewhere (find (λ m. bytes_eq n m.0) (filter_map namespace_in past)))
    ]
  where
    at_name : (o : Option (List ℕ × Option (List ℕ))) → option_map (λ m. m.1) o ≡ None → option_map (λ m. m.1) (option_or o (Some (name, state))) ≡ Some state
    at_name None h = refl
    at_name (Some x) h = absurd cc

    elsewhere : (o : Option (List ℕ × Option (List ℕ))) → option_map (λ m. m.1) (option_or o None) ≡ option_map (λ m. m.1) o
    elsewhere None = refl
    elsewhere (Some x) = refl

-- ---- one more entry

taken_space : {kind : Kind} {k : PlainFacts} {past : List PlainEntry} (a : Agrees kind k past) (e : PlainEntry) (name : List ℕ) (state : Option (List ℕ)) → namespace_in e ≡ Some (name, state)
    → is_some (namespace_of name past) ≡ false → (n : List ℕ) → cond (bytes_eq name n) (Some state) (k.namespaces n) ≡ namespace_of n (past ++ e ∷ [])
taken_space {past = past} a e name state is free n = rw (a.spaces n) (sym (space_more past e name state is (none (namespace_of name past) free) n))
  where
    none : (o : Option (Option (List ℕ))) → is_some o ≡ false → o ≡ None
    none None h = refl
    none (Some x) h = absurd (false≢true (sym h))

pub step-agrees : {kind : Kind} {k : PlainFacts} {past : List PlainEntry} (a : Agrees kind k past) (signer : List ℕ) (opens : Bool) (e : PlainEntry) → entry_breach kind signer opens past e ≡ None → Agrees kind (known_step kind k e) (past ++ e ∷ [])
step-agrees {kind} {k} {past} a signer opens (Init key algorithm) ok = record {
  key = λ id. given_key (bytes_eq (sha256 key) id) (k.keys id) key (all_of kind) ∙ ap (λ o. option_or o (cond (bytes_eq (sha256 key) id) (Some key) None)) (a.key id) ∙ sym (key_more id key past (Init key algorithm) refl);
  held = init_held a key algorithm;
  releases = a.releases ∙ sym (releases_kept past (Init key algorithm) refl refl);
  distinct = a.distinct;
  yanked = yanked_kept past (Init key algorithm) refl refl a.yanked;
  spaces = λ n. a.spaces n ∙ sym (spaces_kept past (Init key algorithm) n refl);
}
step-agrees {kind} {k} {past} a signer opens (GrantFlat key permissions) ok = record {
  key = λ id. given_key (bytes_eq (sha256 key) id) (k.keys id) key (set_of permissions) ∙ ap (λ o. option_or o (cond (bytes_eq (sha256 key) id) (Some key) None)) (a.key id) ∙ sym (key_more id key past (GrantFlat key permissions) refl);
  held = grant_held a key permissions;
  releases = a.releases ∙ sym (releases_kept past (GrantFlat key permissions) refl refl);
  distinct = a.distinct;
  yanked = yanked_kept past (GrantFlat key permissions) refl refl a.yanked;
  spaces = λ n. a.spaces n ∙ sym (spaces_kept past (GrantFlat key permissions) n refl);
}
step-agrees {kind} {k} {past} a signer opens (RevokeFlat key_id permissions) ok = record {
  key = λ id. taken_key (bytes_eq key_id id) (k.keys id) (set_of permissions) ∙ a.key id ∙ sym (keys_kept past (RevokeFlat key_id permissions) id refl);
  held = revoke_held a key_id permissions;
  releases = a.releases ∙ sym (releases_kept past (RevokeFlat key_id permissions) refl refl);
  distinct = a.distinct;
  yanked = yanked_kept past (RevokeFlat key_id permissions) refl refl a.yanked;
  spaces = λ n. a.spaces n ∙ sym (spaces_kept past (RevokeFlat key_id permissions) n refl);
}
step-agrees {kind} {k} {past} a signer opens (Release version content) ok =
    let judged = (breach_gone (not (holds kind signer (codes "release") past)) (Unpermitted signer (codes "release")) (broken (is_released version past) (ReleaseAgain version) None) ok).1 in
    let fresh : is_released version past ≡ false = (breach_gone (is_released version past) (ReleaseAgain version) None judged).0 in
    let unplaced : place_among version k.releases ≡ None = place_gone version (place_among version k.releases) (rw a.releases (places_known version past (released past) ∙ fresh)) in
    record {
      key = λ id. a.key id ∙ sym (keys_kept past (Release version content) id refl);
      held = λ id q. known_word a id q (Release version content) refl;
      releases = ap (λ rs. rs ++ (version, Some content) ∷ []) a.releases ∙ sym (release_more past version content (a.yanked version fresh));
      distinct = subst AreDistinct (sym (versions-push k.releases (version, Some content))) (AreDistinct-push (versions_of k.releases) version a.distinct unplaced);
      yanked = λ v h. yanks_kept past (Release version content) refl v ∙ a.yanked v (or_gone (is_released v past) (same_version v version || false) (sym (released_more past v version content) ∙ h)).0;
      spaces = λ n. a.spaces n ∙ sym (spaces_kept past (Release version content) n refl);
    }
step-agrees {kind} {k} {past} a signer opens (Yank version) ok =
    let judged = (breach_gone (not (holds kind signer (codes "yank") past)) (Unpermitted signer (codes "yank")) (broken (not (is_released version past)) (YankUnreleased version) (broken (is_yanked version past) (YankYanked version) None)) ok).1 in
    let there : not (is_released version past) ≡ false = (breach_gone (not (is_released version past)) (YankUnreleased version) (broken (is_yanked version past) (YankYanked version) None) judged).0 in
    record {
      key = λ id. a.key id ∙ sym (keys_kept past (Yank version) id refl);
      held = λ id q. known_word a id q (Yank version) refl;
      releases = rw a.releases (yank_places past version (released past) (subst (λ rs. AreDistinct (versions_of rs)) a.releases a.distinct) ∙ sym (ap (map (standing (past ++ Yank version ∷ []))) (more_none release_in past (Yank version) refl)));
      distinct = subst AreDistinct (sym (yank_distinct (place_among version k.releases) k.releases)) a.distinct;
      yanked = λ v h. yanked_more past v version ∙ rw (a.yanked v (sym (released_kept past (Yank version) v refl) ∙ h)) (other v (same_version v version) refl (sym (released_kept past (Yank version) v refl) ∙ h) there);
      spaces = λ n. a.spaces n ∙ sym (spaces_kept past (Yank version) n refl);
    }
  where
    other : (v : Parts) (b : Bool) → same_version v version ≡ b → is_released v past ≡ false → not (is_released version past) ≡ false → (b || false) ≡ false
    other v false is unreleased there = refl
    other v true is unreleased there = absurd (false≢true (sym there ∙ ap not (subst (λ w. is_released w past ≡ false) (same_version-is v version is) unreleased)))
step-agrees {kind} {k} {past} a signer opens (DefineNamespace namespace) ok =
    let judged = (breach_gone (not (holds kind signer (codes "defineNamespace") past)) (Unpermitted signer (codes "defineNamespace")) (broken (is_some (namespace_of namespace past)) (NamespaceTaken namespace) None) ok).1 in
    let free = (breach_gone (is_some (namespace_of namespace past)) (NamespaceTaken namespace) None judged).0 in
    record {
      key = λ id. a.key id ∙ sym (keys_kept past (DefineNamespace namespace) id refl);
      held = λ id q. known_word a id q (DefineNamespace namespace) refl;
      releases = a.releases ∙ sym (releases_kept past (DefineNamespace namespace) refl refl);
      distinct = a.distinct;
      yanked = yanked_kept past (DefineNamespace namespace) refl refl a.yanked;
      spaces = taken_space a (DefineNamespace namespace) namespace None refl free;
    }
step-agrees {kind} {k} {past} a signer opens (ImportNamespace namespace registry) ok =
    let judged = (breach_gone (not (holds kind signer (codes "importNamespace") past)) (Unpermitted signer (codes "importNamespace")) (broken (is_some (namespace_of namespace past)) (NamespaceTaken namespace) None) ok).1 in
    let free = (breach_gone (is_some (namespace_of namespace past)) (NamespaceTaken namespace) None judged).0 in
    record {
      key = λ id. a.key id ∙ sym (keys_kept past (ImportNamespace namespace registry) id refl);
      held = λ id q. known_word a id q (ImportNamespace namespace registry) refl;
      releases = a.releases ∙ sym (releases_kept past (ImportNamespace namespace registry) refl refl);
      distinct = a.distinct;
      yanked = yanked_kept past (ImportNamespace namespace registry) refl refl a.yanked;
      spaces = taken_space a (ImportNamespace namespace registry) namespace (Some registry) refl free;
    }

-- ---- lists of entries

one_more : (past : List PlainEntry) (e : PlainEntry) (es : List PlainEntry) → (past ++ e ∷ []) ++ es ≡ past ++ e ∷ es
one_more [] e es = refl
one_more (x ∷ past) e es = ap (λ ys. x ∷ ys) (one_more past e es)

no_more_entries : (past : List PlainEntry) → past ≡ past ++ []
no_more_entries [] = refl
no_more_entries (x ∷ past) = ap (λ ys. x ∷ ys) (no_more_entries past)

pub breaches-agree : (kind : Kind) (k : PlainFacts) (past : List PlainEntry) (a : Agrees kind k past) (signer : List ℕ) (opens : Bool) (es : List PlainEntry) → known_entries_breach kind signer opens k es ≡ entries_breach kind signer opens past es
breaches-agree kind k past a signer opens [] = refl
breaches-agree kind k past a signer opens (e ∷ es) =
    ap (λ f. option_or f (known_entries_breach kind signer false (known_step kind k e) es)) (breach-agrees a signer opens e)
    ∙ by (entry_breach kind signer opens past e) refl (λ is. breaches-agree kind (known_step kind k e) (past ++ e ∷ []) (step-agrees a signer opens e is) signer false es)
  where
    by : (f : Option Breach) → entry_breach kind signer opens past e ≡ f
        → (entry_breach kind signer opens past e ≡ None → known_entries_breach kind signer false (known_step kind k e) es ≡ entries_breach kind signer false (past ++ e ∷ []) es)
        → option_or f (known_entries_breach kind signer false (known_step kind k e) es) ≡ option_or f (entries_breach kind signer false (past ++ e ∷ []) es)
    by None is rest = rest is
    by (Some f) is rest = refl

pub steps-agree : (kind : Kind) (k : PlainFacts) (past : List PlainEntry) (a : Agrees kind k past) (signer : List ℕ) (opens : Bool) (es : List PlainEntry) → entries_breach kind signer opens past es ≡ None → Agrees kind (known_steps kind k es) (past ++ es)
steps-agree kind k past a signer opens [] ok = subst (Agrees kind k) (no_more_entries past) a
steps-agree kind k past a signer opens (e ∷ es) ok =
    let parts = none_of (entry_breach kind signer opens past e) (entries_breach kind signer false (past ++ e ∷ []) es) ok in
    subst (Agrees kind (known_steps kind (known_step kind k e) es)) (one_more past e es) (steps-agree kind (known_step kind k e) (past ++ e ∷ []) (step-agrees a signer opens e parts.0) signer false es parts.1)
  where
    none_of : (f g : Option Breach) → option_or f g ≡ None → (f ≡ None) × (g ≡ None)
    none_of None g h = (refl, h)
    none_of (Some f) g h = absurd cc

pub nothing-agrees : (kind : Kind) → Agrees kind nothing []
nothing-agrees kind = record {
  key = λ id. refl;
  held = λ id q. sym (gone (is_known_permission q));
  releases = refl;
  distinct = tt;
  yanked = λ v h. refl;
  spaces = λ n. refl;
}
  where
    gone : (b : Bool) → (b && false) ≡ false
    gone true = refl
    gone false = refl
