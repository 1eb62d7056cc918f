-- Entries that are put in order are the same, and a page whose lists are brings the same.
use Rattle.std.proofs.Common.{◌≡◌, ◌∷◌, ◌++◌, [], ℕ, List, Bool, true, false, cond, Ordering, Less, Equal, Greater, inl, inr, refl, sym, ◌∙◌, ap, subst, map, append-nil, arith}
use Rattle.std.proofs.lemmas.Bool.{false≢true}
use Rattle.std.proofs.lemmas.List.Elements.{All-contains, All-contains_itself, All-from_recursion, recursion_from_All, Contains-append_cases, Contains-append_left, Contains-append_right}
use Rattle.std.proofs.lemmas.Map.Lookups.{exact_bytes}
use Rattle.std.proofs.lemmas.Option.{same_Some}
use Rattle.std.proofs.lemmas.Slice.Eq.{bytes_eq-Decides}
use Rattle.std.specs.Prelude.{bytes_eq, fold, Contains}
use Rattle.std.specs.BTreeMap.{insert_entry}
use Rattle.std.specs.List.{AllByRecursion, IsDistinct}
use Rattle.std.specs.Ordering.{match_ordering}
use Rattle.warg_hash.specs.Hash.{digest_of, hash_text, package_log_id}
use Rattle.warg_record.specs.Record.{Package}
use Rattle.warg_exchange.specs.declared.logs.PublishedRecord.{PublishedRecord}
use Rattle.warg_page.specs.Logs.{Logs, brought}
use Rattle.warg_reply.specs.Order.{by_text, ascending, NamesItself, NameThemselves}
use Rattle.warg_ledger.specs.Registry.{Registry, BringsBehind, IsPageOf, log_below}

abbrev pub Listed : Type 0
Listed = List ℕ × List PublishedRecord

flipped : (k l : List ℕ) → bytes_eq k l ≡ false → bytes_eq l k ≡ false
flipped k l other = by_test (bytes_eq l k) refl
  where
    by_test : (b : Bool) → bytes_eq l k ≡ b → b ≡ false
    by_test true is = absurd (false≢true (sym other ∙ (bytes_eq-Decides k l).1 (sym ((bytes_eq-Decides l k).0 is))))
    by_test false is = refl

-- a log is not two that differ
not-both : (k l id : List ℕ) → bytes_eq k l ≡ false → bytes_eq k id ≡ true → bytes_eq l id ≡ false
not-both k l id other first = by_test (bytes_eq l id) refl
  where
    by_test : (b : Bool) → bytes_eq l id ≡ b → b ≡ false
    by_test true is = absurd (false≢true (sym other ∙ (bytes_eq-Decides k l).1 ((bytes_eq-Decides k id).0 first ∙ sym ((bytes_eq-Decides l id).0 is))))
    by_test false is = refl

texts-differ : (k l : List ℕ) → NamesItself k → NamesItself l → bytes_eq k l ≡ false → by_text k l ≡ Equal → ⊥
texts-differ k l of_k of_l other tied =
    let text : hash_text k ≡ hash_text l = exact_bytes (hash_text k) (hash_text l) tied in
    let same : k ≡ l = same_Some k l (sym of_k ∙ ap digest_of text ∙ of_l) in
    false≢true (sym other ∙ (bytes_eq-Decides k l).1 same)

-- ---- entries in the order of their hashes' texts

module _ {X : Type 0} where
  -- no entry is of this log
  abbrev pub Apart : List ℕ → List (List ℕ × X) → Type 0
  Apart k es = AllByRecursion (λ e. bytes_eq k e.0 ≡ false) es

  abbrev pub ids : List (List ℕ × X) → List (List ℕ)
  ids es = map (λ e. e.0) es

  abbrev pub ordered : List (List ℕ × X) → List (List ℕ × X) → List (List ℕ × X)
  ordered sorted es = fold (λ done e. insert_entry by_text done e.0 e.1) sorted es

  abbrev pub AreApart : List (List ℕ × X) → List (List ℕ × X) → Type 0
  AreApart sorted es = AllByRecursion (λ e. Apart e.0 sorted) es

  all-at : (P : List ℕ × X → Type 0) (o : Ordering) (k : List ℕ) (x : X) (e : List ℕ × X) (es rest : List (List ℕ × X)) → (o ≡ Equal → ⊥) → P (k, x) → AllByRecursion P (e ∷ es) → AllByRecursion P rest
      → AllByRecursion P (match_ordering o ((k, x) ∷ e ∷ es) ((e.0, x) ∷ es) (e ∷ rest))
  all-at P Less k x e es rest other first all more = (first, all)
  all-at P Equal k x e es rest other first all more = absurd (other refl)
  all-at P Greater k x e es rest other first all more = (all.0, more)

  pub all-inserted : (P : List ℕ × X → Type 0) (k : List ℕ) (x : X) (es : List (List ℕ × X)) → NamesItself k → NameThemselves es → Apart k es → P (k, x) → AllByRecursion P es → AllByRecursion P (insert_entry by_text es k x)
  all-inserted P k x [] of_k of_es apart first all = (first, tt)
  all-inserted P k x (e ∷ es) of_k of_es apart first all =
      all-at P (by_text k e.0) k x e es (insert_entry by_text es k x) (texts-differ k e.0 of_k of_es.0 apart.0) first all (all-inserted P k x es of_k of_es.1 apart.1 first all.1)

  pub still-apart : (sorted : List (List ℕ × X)) (e : List ℕ × X) (es : List (List ℕ × X)) → NamesItself e.0 → NameThemselves sorted → Apart e.0 sorted → AllByRecursion (λ y. bytes_eq e.0 y ≡ false) (ids es) → AreApart sorted es
      → AreApart (insert_entry by_text sorted e.0 e.1) es
  still-apart sorted e [] of_e of_sorted apart others all = tt
  still-apart sorted e (f ∷ es) of_e of_sorted apart others all = (
    all-inserted (λ l. bytes_eq f.0 l.0 ≡ false) e.0 e.1 sorted of_e of_sorted apart (flipped e.0 f.0 others.0) all.0,
    still-apart sorted e es of_e of_sorted apart others.1 all.1,
  )

  pub still-named : (sorted : List (List ℕ × X)) (e : List ℕ × X) → NamesItself e.0 → NameThemselves sorted → Apart e.0 sorted → NameThemselves (insert_entry by_text sorted e.0 e.1)
  still-named sorted e of_e of_sorted apart = all-inserted (λ l. NamesItself l.0) e.0 e.1 sorted of_e of_sorted apart of_e of_sorted

  pub from-none : (es : List (List ℕ × X)) → AreApart [] es
  from-none [] = tt
  from-none (e ∷ es) = (tt, from-none es)

  -- what holds of each entry holds of each in order
  all-ordered : (P : List ℕ × X → Type 0) (sorted es : List (List ℕ × X)) → NameThemselves sorted → NameThemselves es → AreApart sorted es → IsDistinct bytes_eq (ids es) → AllByRecursion P sorted → AllByRecursion P es
      → AllByRecursion P (ordered sorted es)
  unfolding IsDistinct
  all-ordered P sorted [] of_sorted of_es apart distinct first all = first
  all-ordered P sorted (e ∷ es) of_sorted of_es apart distinct first all =
      all-ordered P (insert_entry by_text sorted e.0 e.1) es (still-named sorted e of_es.0 of_sorted apart.0) of_es.1 (still-apart sorted e es of_es.0 of_sorted apart.0 distinct.0 apart.1) distinct.1
      (all-inserted P e.0 e.1 sorted of_es.0 of_sorted apart.0 all.0 first) all.1

  pub was-listed : (es : List (List ℕ × X)) (l : List ℕ × X) → NameThemselves es → IsDistinct bytes_eq (ids es) → Contains (ascending es) l → Contains es l
  was-listed es l of_es distinct there =
      let P : List ℕ × X → Type 0 = Contains es in
      All-contains P (ascending es) l (All-from_recursion P (ascending es) (all-ordered P [] es tt of_es (from-none es) distinct tt (recursion_from_All P es (All-contains_itself es)))) there

  -- one more entry stands between the others
  record Splits (es inserted : List (List ℕ × X)) (k : List ℕ) (x : X) : Type 0 where
    before : List (List ℕ × X)
    after : List (List ℕ × X)
    parts : es ≡ before ++ after
    is : inserted ≡ before ++ (k, x) ∷ after

  split-at : (o : Ordering) (k : List ℕ) (x : X) (e : List ℕ × X) (es rest : List (List ℕ × X)) → (o ≡ Equal → ⊥) → Splits es rest k x → Splits (e ∷ es) (match_ordering o ((k, x) ∷ e ∷ es) ((e.0, x) ∷ es) (e ∷ rest)) k x
  split-at Less k x e es rest other more = record { before = []; after = e ∷ es; parts = refl; is = refl }
  split-at Equal k x e es rest other more = absurd (other refl)
  split-at Greater k x e es rest other more = record {
    before = e ∷ more.before;
    after = more.after;
    parts = ap (λ (l : List (List ℕ × X)). e ∷ l) more.parts;
    is = ap (λ (l : List (List ℕ × X)). e ∷ l) more.is;
  }

  splits : (k : List ℕ) (x : X) (es : List (List ℕ × X)) → NamesItself k → NameThemselves es → Apart k es → Splits es (insert_entry by_text es k x) k x
  splits k x [] of_k of_es apart = record { before = []; after = []; parts = refl; is = refl }
  splits k x (e ∷ es) of_k of_es apart =
      split-at (by_text k e.0) k x e es (insert_entry by_text es k x) (texts-differ k e.0 of_k of_es.0 apart.0) (splits k x es of_k of_es.1 apart.1)

  inserted-stands : (k : List ℕ) (x : X) (es inserted : List (List ℕ × X)) → Splits es inserted k x → Contains inserted (k, x)
  inserted-stands k x es inserted s = subst (λ (l : List (List ℕ × X)). Contains l (k, x)) (sym s.is) (Contains-append_right s.before ((k, x) ∷ s.after) (k, x) (0, omega arith, refl))

  others-stand : (k : List ℕ) (x : X) (es inserted : List (List ℕ × X)) (l : List ℕ × X) → Splits es inserted k x → Contains es l → Contains inserted l
  others-stand k x es inserted l s there =
      subst (λ (ls : List (List ℕ × X)). Contains ls l) (sym s.is)
      (elim (Contains-append_cases s.before s.after l (subst (λ (ls : List (List ℕ × X)). Contains ls l) s.parts there)) [
        | inl front ↦ Contains-append_left s.before ((k, x) ∷ s.after) l front
        | inr back ↦ Contains-append_right s.before ((k, x) ∷ s.after) l (Contains-append_right ((k, x) ∷ []) s.after l back)
      ])

  still-stands : (sorted es : List (List ℕ × X)) (l : List ℕ × X) → NameThemselves sorted → NameThemselves es → AreApart sorted es → IsDistinct bytes_eq (ids es) → Contains sorted l → Contains (ordered sorted es) l
  unfolding IsDistinct
  still-stands sorted [] l of_sorted of_es apart distinct there = there
  still-stands sorted (e ∷ es) l of_sorted of_es apart distinct there =
      still-stands (insert_entry by_text sorted e.0 e.1) es l (still-named sorted e of_es.0 of_sorted apart.0) of_es.1 (still-apart sorted e es of_es.0 of_sorted apart.0 distinct.0 apart.1) distinct.1
      (others-stand e.0 e.1 sorted (insert_entry by_text sorted e.0 e.1) l (splits e.0 e.1 sorted of_es.0 of_sorted apart.0) there)

  each-stands : (sorted es : List (List ℕ × X)) → NameThemselves sorted → NameThemselves es → AreApart sorted es → IsDistinct bytes_eq (ids es) → AllByRecursion (Contains (ordered sorted es)) es
  unfolding IsDistinct
  each-stands sorted [] of_sorted of_es apart distinct = tt
  each-stands sorted (e ∷ es) of_sorted of_es apart distinct =
      let next = insert_entry by_text sorted e.0 e.1 in
      let named = still-named sorted e of_es.0 of_sorted apart.0 in
      let others = still-apart sorted e es of_es.0 of_sorted apart.0 distinct.0 apart.1 in (
        still-stands next es e named of_es.1 others distinct.1 (inserted-stands e.0 e.1 sorted next (splits e.0 e.1 sorted of_es.0 of_sorted apart.0)),
        each-stands next es named of_es.1 others distinct.1,
      )

  pub is-listed : (es : List (List ℕ × X)) (l : List ℕ × X) → NameThemselves es → IsDistinct bytes_eq (ids es) → Contains es l → Contains (ascending es) l
  is-listed es l of_es distinct there =
      let P : List ℕ × X → Type 0 = Contains (ascending es) in
      All-contains P es l (All-from_recursion P es (each-stands [] es tt of_es (from-none es) distinct)) there

-- ---- what lists bring

-- what a list brings for a log
abbrev own : List ℕ → Listed → List PublishedRecord
own id e = cond (bytes_eq e.0 id) e.1 []

swap-own : (b c : Bool) (x y rest : List PublishedRecord) → (b ≡ true → c ≡ false) → cond c y [] ++ (cond b x [] ++ rest) ≡ cond b x [] ++ (cond c y [] ++ rest)
swap-own true true x y rest other = absurd (false≢true (sym (other refl)))
swap-own true false x y rest other = refl
swap-own false c x y rest other = refl

brought-at : (id : List ℕ) (o : Ordering) (k : List ℕ) (x : List PublishedRecord) (e : Listed) (es rest : List Listed) → (o ≡ Equal → ⊥) → bytes_eq k e.0 ≡ false → brought id rest ≡ own id (k, x) ++ brought id es
    → brought id (match_ordering o ((k, x) ∷ e ∷ es) ((e.0, x) ∷ es) (e ∷ rest)) ≡ own id (k, x) ++ brought id (e ∷ es)
brought-at id Less k x e es rest other apart more = refl
brought-at id Equal k x e es rest other apart more = absurd (other refl)
brought-at id Greater k x e es rest other apart more =
    ap (λ (l : List PublishedRecord). own id e ++ l) more ∙ swap-own (bytes_eq k id) (bytes_eq e.0 id) x e.1 (brought id es) (not-both k e.0 id apart)

brought-inserted : (id k : List ℕ) (x : List PublishedRecord) (es : List Listed) → NamesItself k → NameThemselves es → Apart k es → brought id (insert_entry by_text es k x) ≡ own id (k, x) ++ brought id es
brought-inserted id k x [] of_k of_es apart = refl
brought-inserted id k x (e ∷ es) of_k of_es apart =
    brought-at id (by_text k e.0) k x e es (insert_entry by_text es k x) (texts-differ k e.0 of_k of_es.0 apart.0) apart.0 (brought-inserted id k x es of_k of_es.1 apart.1)

none-brought : (id k : List ℕ) (es : List Listed) → bytes_eq k id ≡ true → Apart k es → brought id es ≡ []
none-brought id k [] is apart = refl
none-brought id k (e ∷ es) is apart = ap (λ (b : Bool). cond b e.1 [] ++ brought id es) (not-both k e.0 id apart.0 is) ∙ none-brought id k es is apart.1

move-own : (b : Bool) (x before rest : List PublishedRecord) → (b ≡ true → before ≡ []) → (cond b x [] ++ before) ++ rest ≡ before ++ (cond b x [] ++ rest)
move-own true x before rest none =
    ap (λ (l : List PublishedRecord). (x ++ l) ++ rest) (none refl) ∙ ap (λ (l : List PublishedRecord). l ++ rest) (append-nil x) ∙ sym (ap (λ (l : List PublishedRecord). l ++ (x ++ rest)) (none refl))
move-own false x before rest none = refl

brought-ordered : (id : List ℕ) (sorted es : List Listed) → NameThemselves sorted → NameThemselves es → AreApart sorted es → IsDistinct bytes_eq (ids es) → brought id (ordered sorted es) ≡ brought id sorted ++ brought id es
unfolding IsDistinct
brought-ordered id sorted [] of_sorted of_es apart distinct = sym (append-nil (brought id sorted))
brought-ordered id sorted (e ∷ es) of_sorted of_es apart distinct =
    brought-ordered id (insert_entry by_text sorted e.0 e.1) es (still-named sorted e of_es.0 of_sorted apart.0) of_es.1 (still-apart sorted e es of_es.0 of_sorted apart.0 distinct.0 apart.1) distinct.1
    ∙ ap (λ (l : List PublishedRecord). l ++ brought id es) (brought-inserted id e.0 e.1 sorted of_es.0 of_sorted apart.0)
    ∙ move-own (bytes_eq e.0 id) e.1 (brought id sorted) (brought id es) (λ is. none-brought id e.0 sorted is apart.0)

pub ordered-page : (w : Registry) (n : ℕ) (logs : Logs) (more : Bool) (operator : List PublishedRecord) (es : List Listed) → NameThemselves es → IsDistinct bytes_eq (ids es) → IsPageOf w n logs (record { more = more; operator = operator; packages = es })
    → IsPageOf w n logs (record { more = more; operator = operator; packages = ascending es })
ordered-page w n logs more operator es of_es distinct is = record {
  operator_records = is.operator_records;
  package_records = λ name log there. subst (λ (rs : List PublishedRecord). BringsBehind Package (log_below w n (package_log_id name)) log rs more)
      (sym (brought-ordered (package_log_id name) [] es tt of_es (from-none es) distinct)) (is.package_records name log there);
  only_asked = λ id records there. is.only_asked id records (was-listed es (id, records) of_es distinct there);
  some_records = λ name records there empty. is.some_records name records (was-listed es (package_log_id name, records) of_es distinct there) empty;
}
