-- The permissions of a set, and the last word on them.
use Rattle.std.proofs.Common.{◌≡◌, ℕ, Bool, true, false, cond, not, ◌&&◌, ◌||◌, List, [], ◌∷◌, ◌++◌, Option, Some, None, refl, sym, ap, subst, ◌∙◌, inl, inr}
use Rattle.std.specs.Prelude.{bytes_eq, codes, fold, filter_map}
use Rattle.std.specs.Option.{option_map_or}
use Rattle.std.specs.List.{list_any}
use Rattle.std.proofs.lemmas.Bool.{cases_Bool, false≢true}
use Rattle.std.proofs.lemmas.List.Elements.{filter_map-append}
use Rattle.std.proofs.lemmas.Slice.Eq.{bytes_eq-Decides}
use Rattle.warg_record.specs.Record.{Kind, Package, Operator, PlainEntry, is_permission}
use Rattle.warg_log.specs.declared.permissions.PermissionSet.{PermissionSet}
use Rattle.warg_log.specs.declared.keys.KeyFacts.{KeyFacts}
use Rattle.warg_log.specs.History.{is_known_permission, holds, word_on, last_or}
use Rattle.warg_log.specs.Keys.{given, taken}
use Rattle.warg_log.specs.Permissions.{has_permission, set_of, all_of, only, union, without, no_permissions}

-- either way round
pub bytes_sym : (a b : List ℕ) → bytes_eq a b ≡ bytes_eq b a
bytes_sym a b = elim (cases_Bool (bytes_eq a b)) [
  | inl x ↦ x ∙ sym ((bytes_eq-Decides b a).1 (sym ((bytes_eq-Decides a b).0 x)))
  | inr x ↦ elim (cases_Bool (bytes_eq b a)) [
    | inl y ↦ absurd (false≢true (sym x ∙ (bytes_eq-Decides a b).1 (sym ((bytes_eq-Decides b a).0 y))))
    | inr y ↦ x ∙ sym y
  ]
]

abbrev pick : Bool → Bool → Bool → Bool → Bool → PermissionSet → Bool
pick a b c d e s = cond a s.release (cond b s.yank (cond c s.commit (cond d s.define_namespace (cond e s.import_namespace false))))

pick-union : (a b c d e : Bool) (s t : PermissionSet) → pick a b c d e (union s t) ≡ (pick a b c d e s || pick a b c d e t)
pick-union true b c d e s t = refl
pick-union false true c d e s t = refl
pick-union false false true d e s t = refl
pick-union false false false true e s t = refl
pick-union false false false false true s t = refl
pick-union false false false false false s t = refl

pick-without : (a b c d e : Bool) (s t : PermissionSet) → pick a b c d e (without s t) ≡ (pick a b c d e s && not (pick a b c d e t))
pick-without true b c d e s t = refl
pick-without false true c d e s t = refl
pick-without false false true d e s t = refl
pick-without false false false true e s t = refl
pick-without false false false false true s t = refl
pick-without false false false false false s t = refl

pub has-union : (q : List ℕ) (s t : PermissionSet) → has_permission (union s t) q ≡ (has_permission s q || has_permission t q)
has-union q s t = pick-union (bytes_eq q (codes "release")) (bytes_eq q (codes "yank")) (bytes_eq q (codes "commit")) (bytes_eq q (codes "defineNamespace")) (bytes_eq q (codes "importNamespace")) s t

pub has-without : (q : List ℕ) (s t : PermissionSet) → has_permission (without s t) q ≡ (has_permission s q && not (has_permission t q))
has-without q s t = pick-without (bytes_eq q (codes "release")) (bytes_eq q (codes "yank")) (bytes_eq q (codes "commit")) (bytes_eq q (codes "defineNamespace")) (bytes_eq q (codes "importNamespace")) s t

-- one of the known permissions, or none of them
by_cases : (P : List ℕ → Type 0) (q : List ℕ) → P (codes "release") → P (codes "yank") → P (codes "commit") → P (codes "defineNamespace") → P (codes "importNamespace")
    → (bytes_eq q (codes "release") ≡ false → bytes_eq q (codes "yank") ≡ false → bytes_eq q (codes "commit") ≡ false → bytes_eq q (codes "defineNamespace") ≡ false → bytes_eq q (codes "importNamespace") ≡ false → P q) → P q
by_cases P q a b c d e none = elim (cases_Bool (bytes_eq q (codes "release"))) [
  | inl x ↦ subst P (sym ((bytes_eq-Decides q (codes "release")).0 x)) a
  | inr v ↦ elim (cases_Bool (bytes_eq q (codes "yank"))) [
    | inl x ↦ subst P (sym ((bytes_eq-Decides q (codes "yank")).0 x)) b
    | inr w ↦ elim (cases_Bool (bytes_eq q (codes "commit"))) [
      | inl x ↦ subst P (sym ((bytes_eq-Decides q (codes "commit")).0 x)) c
      | inr u ↦ elim (cases_Bool (bytes_eq q (codes "defineNamespace"))) [
        | inl x ↦ subst P (sym ((bytes_eq-Decides q (codes "defineNamespace")).0 x)) d
        | inr y ↦ elim (cases_Bool (bytes_eq q (codes "importNamespace"))) [
          | inl x ↦ subst P (sym ((bytes_eq-Decides q (codes "importNamespace")).0 x)) e
          | inr z ↦ none v w u y z
        ]
      ]
    ]
  ]
]

pub has-all_of : (kind : Kind) (q : List ℕ) → has_permission (all_of kind) q ≡ (is_known_permission q && is_permission kind q)
has-all_of Package q = by_cases (λ q. has_permission (all_of Package) q ≡ (is_known_permission q && is_permission Package q)) q refl refl refl refl refl (λ v w x y z. rw (v, w, x, y, z) refl)
has-all_of Operator q = by_cases (λ q. has_permission (all_of Operator) q ≡ (is_known_permission q && is_permission Operator q)) q refl refl refl refl refl (λ v w x y z. rw (v, w, x, y, z) refl)

has-only : (q p : List ℕ) → has_permission (only p) q ≡ (is_known_permission q && bytes_eq q p)
has-only q p = by_cases (λ q. has_permission (only p) q ≡ (is_known_permission q && bytes_eq q p)) q
    (bytes_sym p (codes "release")) (bytes_sym p (codes "yank")) (bytes_sym p (codes "commit")) (bytes_sym p (codes "defineNamespace")) (bytes_sym p (codes "importNamespace"))
    (λ v w x y z. rw (v, w, x, y, z) refl)

has-none : (q : List ℕ) → has_permission no_permissions q ≡ false
has-none q = by_cases (λ q. has_permission no_permissions q ≡ false) q refl refl refl refl refl (λ v w x y z. rw (v, w, x, y, z) refl)

gathered : (s k p r : Bool) → ((s || (k && p)) || (k && r)) ≡ (s || (k && (p || r)))
gathered true k p r = refl
gathered false false p r = refl
gathered false true p r = refl

ended : (s k : Bool) → s ≡ (s || (k && false))
ended true k = refl
ended false true = refl
ended false false = refl

has-fold : (q : List ℕ) (ps : List (List ℕ)) (s : PermissionSet) → has_permission (fold (λ set p. union set (only p)) s ps) q ≡ (has_permission s q || (is_known_permission q && list_any (bytes_eq q) ps))
has-fold q [] s = ended (has_permission s q) (is_known_permission q)
has-fold q (p ∷ ps) s =
    has-fold q ps (union s (only p))
    ∙ ap (λ x. x || (is_known_permission q && list_any (bytes_eq q) ps)) (has-union q s (only p) ∙ ap (λ x. has_permission s q || x) (has-only q p))
    ∙ gathered (has_permission s q) (is_known_permission q) (bytes_eq q p) (list_any (bytes_eq q) ps)

pub has-set_of : (q : List ℕ) (ps : List (List ℕ)) → has_permission (set_of ps) q ≡ (is_known_permission q && list_any (bytes_eq q) ps)
has-set_of q ps = has-fold q ps no_permissions ∙ ap (λ x. x || (is_known_permission q && list_any (bytes_eq q) ps)) (has-none q)

-- ---- the last word

abbrev pub told : Option Bool → Bool → Bool
told None d = d
told (Some b) d = b

last_or-push : {A : Type 0} (d x : A) (xs : List A) → last_or d (xs ++ x ∷ []) ≡ x
last_or-push d x [] = refl
last_or-push d x (y ∷ xs) = last_or-push y x xs

said : (word : Option Bool) (e : PlainEntry) (f : PlainEntry → Option Bool) (past : List PlainEntry) → f e ≡ word → last_or false (filter_map f (past ++ e ∷ [])) ≡ told word (last_or false (filter_map f past))
said None e f past is = ap (last_or false) (filter_map-append f past (e ∷ [])) ∙ rw is (ap (last_or false) (nothing_more (filter_map f past)))
  where
    nothing_more : (xs : List Bool) → xs ++ [] ≡ xs
    nothing_more [] = refl
    nothing_more (x ∷ xs) = ap (λ ys. x ∷ ys) (nothing_more xs)
said (Some b) e f past is = ap (last_or false) (filter_map-append f past (e ∷ [])) ∙ rw is (last_or-push false b (filter_map f past))

pub holds-push : (kind : Kind) (id q : List ℕ) (past : List PlainEntry) (e : PlainEntry)
    → holds kind id q (past ++ e ∷ []) ≡ (is_known_permission q && told (word_on kind id q e) (last_or false (filter_map (word_on kind id q) past)))
holds-push kind id q past e = ap (λ x. is_known_permission q && x) (said (word_on kind id q e) e (word_on kind id q) past refl)

abbrev pub held_in : Option KeyFacts → List ℕ → Bool
held_in o q = option_map_or (λ (f : KeyFacts). has_permission f.permissions q) o false

or_given : (k l p : Bool) → ((k && l) || (k && p)) ≡ (k && told (cond p (Some true) None) l)
or_given false l p = refl
or_given true true true = refl
or_given true true false = refl
or_given true false true = refl
or_given true false false = refl

and_taken : (k l p : Bool) → ((k && l) && not (k && p)) ≡ (k && told (cond p (Some false) None) l)
and_taken false l p = refl
and_taken true true true = refl
and_taken true true false = refl
and_taken true false true = refl
and_taken true false false = refl

-- a key that is given permissions
pub give-held : (h k l p : Bool) (o : Option KeyFacts) (key q : List ℕ) (gained : PermissionSet) → held_in o q ≡ (k && l) → has_permission gained q ≡ (k && p)
    → held_in (cond h (Some (given o key gained)) o) q ≡ (k && told (cond (h && p) (Some true) None) l)
give-held false k l p o key q gained held gain = held
give-held true k l p None key q gained held gain = gain ∙ ap (λ x. x || (k && p)) held ∙ or_given k l p
give-held true k l p (Some f) key q gained held gain = has-union q f.permissions gained ∙ rw (held, gain) (or_given k l p)

-- a key from which permissions are taken
pub take-held : (h k l p : Bool) (o : Option KeyFacts) (q : List ℕ) (lost : PermissionSet) → held_in o q ≡ (k && l) → has_permission lost q ≡ (k && p)
    → held_in (cond h (taken o lost) o) q ≡ (k && told (cond (h && p) (Some false) None) l)
take-held false k l p o q lost held loss = held
take-held true k l p None q lost held loss = ap (λ x. x && not (k && p)) held ∙ and_taken k l p
take-held true k l p (Some f) q lost held loss = has-without q f.permissions lost ∙ rw (held, loss) (and_taken k l p)
