-- Connections found by the import into which they go.
use Rattle.std.proofs.Common.{◌≡◌, ◌∙◌, ap, sym, refl, ℕ, Bool, true, false, cond, List, [], ◌∷◌, ◌++◌, Option, Some, None}
use Rattle.std.specs.Prelude.{◌&&◌, filter, option_map, is_some}
use Rattle.std.specs.Option.{option_or}
use Rattle.std.specs.BTreeMap.{BTreeMap, get, is_at, IsOrdered, Updates}
use Rattle.std.specs.Map.{lookup, keys_of}
use Rattle.std.specs.Cmp.{IsTotalOrder, both_tied, unsigned_ties, nat_cmp_total, nat_eq_equiv, then_total, on_total, eq_by_cmp_equiv}
use Rattle.std.specs.Ordering.{is_eq, nat_cmp}
use Rattle.std.proofs.lemmas.List.Folds.{find-append}
use Rattle.std.proofs.lemmas.Map.Entries.{lookup-filter-values, option_filter}
use Rattle.std.proofs.lemmas.Map.Keys.{IsDistinct-from_sorted}
use Rattle.std.proofs.lemmas.Map.Lookups.{exact_unsigned, exact_pairs}
use Rattle.compose_left.specs.declared.wiring.Input.{Input}
use Rattle.compose_left.specs.Wired.{input_cmp}
use Rattle.compose_graph.specs.Graph.{connection_into, is_into}
use Rattle.compose_graph.specs.Kept.{HaveOwnImports}
use Rattle.compose_graph.specs.Found.{input_of, AreFound}
use Rattle.compose_graph.specs.declared.connection.Connection.{Connection}
use Rattle.compose_graph.proofs.ListLaws.{equal_if, find_skip, find_none, or_none}

-- ---- imports compared

input_total : IsTotalOrder input_cmp
input_total = then_total (on_total (λ (i : Input). i.target) nat_cmp_total) (on_total (λ (i : Input). i.import) nat_cmp_total)

same_input : (a b : Input) → is_eq (input_cmp a b) ≡ true → a ≡ b
same_input a b e =
    ap (λ (p : ℕ × ℕ). let i : Input = record { target = p.0; import = p.1 } in i)
    (exact_pairs nat_cmp nat_cmp exact_unsigned exact_unsigned (a.target, a.import) (b.target, b.import) (equal_if (input_cmp a b) e))

input_ties : (c : Connection) (q : Input) → is_into q.target q.import c ≡ is_eq (input_cmp (input_of c) q)
input_ties c q = both_tied _ _ (nat_cmp c.target q.target) (nat_cmp c.import q.import) (unsigned_ties c.target q.target) (unsigned_ties c.import q.import)

into_is : (c : Connection) (q : Input) → is_into q.target q.import c ≡ true → input_of c ≡ q
into_is c q e = same_input (input_of c) q (sym (input_ties c q) ∙ e)

-- ---- lists that are filtered

module _ {K X : Type 0} (test : K → Bool) (p q : K × X → Bool) (same : (e : K × X) → test e.0 ≡ true → p e ≡ q e) where
  lookup_skip : (e : K × X) (b : Bool) (es : List (K × X)) → test e.0 ≡ false → lookup test (cond b (e ∷ es) es) ≡ lookup test es
  lookup_skip e true es h = λ i. cond (h i) (Some e.1) (lookup test es)
  lookup_skip e false es h = refl

  lookup_both : (e : K × X) (b : Bool) (es fs : List (K × X)) → test e.0 ≡ true → lookup test es ≡ lookup test fs → lookup test (cond b (e ∷ es) es) ≡ lookup test (cond b (e ∷ fs) fs)
  lookup_both e true es fs h rest = (λ i. cond (h i) (Some e.1) (lookup test es)) ∙ sym (λ i. cond (h i) (Some e.1) (lookup test fs))
  lookup_both e false es fs h rest = rest

  -- filters that agree where a test is true leave the same to be found by it
  filtered_alike : (es : List (K × X)) → lookup test (filter p es) ≡ lookup test (filter q es)
  filtered_alike [] = refl
  filtered_alike (e ∷ es) = one (test e.0) refl (filtered_alike es)
    where
      one : (b : Bool) → test e.0 ≡ b → lookup test (filter p es) ≡ lookup test (filter q es) → lookup test (filter p (e ∷ es)) ≡ lookup test (filter q (e ∷ es))
      one false h rest = lookup_skip e (p e) (filter p es) h ∙ rest ∙ sym (lookup_skip e (q e) (filter q es) h)
      one true h rest = (λ i. lookup test (cond (same e h i) (e ∷ filter p es) (filter p es))) ∙ lookup_both e (q e) (filter p es) (filter q es) h rest

-- ---- connections that are kept

module _ (p : ℕ → Input → Bool) where
  source_kept : (cs : List Connection) (q : Input) → HaveOwnImports cs
      → option_filter (λ v. p v q) (option_map (λ (c : Connection). c.source) (connection_into cs q.target q.import)) ≡ option_map (λ (c : Connection). c.source) (connection_into (filter (λ c. p c.source (input_of c)) cs) q.target q.import)
  source_kept [] q own = refl
  source_kept (c ∷ cs) q own = one (is_into q.target q.import c) refl (source_kept cs q own.1)
    where
      gone : input_of c ≡ q → connection_into (filter (λ c. p c.source (input_of c)) cs) q.target q.import ≡ None
      gone e = find_none (is_into q.target q.import) (λ c. p c.source (input_of c)) cs ((λ i. connection_into cs (sym e i).target (sym e i).import) ∙ own.0)

      here : (b : Bool) → p c.source q ≡ b → is_into q.target q.import c ≡ true → input_of c ≡ q
          → cond b (Some c.source) None ≡ option_map (λ (c : Connection). c.source) (connection_into (cond b (c ∷ filter (λ c. p c.source (input_of c)) cs) (filter (λ c. p c.source (input_of c)) cs)) q.target q.import)
      here true k h e = λ i. option_map (λ (c : Connection). c.source) (cond (sym h i) (Some c) (connection_into (filter (λ c. p c.source (input_of c)) cs) q.target q.import))
      here false k h e = ap (λ (o : Option Connection). option_map (λ (c : Connection). c.source) o) (sym (gone e))

      one : (b : Bool) → is_into q.target q.import c ≡ b
          → option_filter (λ v. p v q) (option_map (λ (c : Connection). c.source) (connection_into cs q.target q.import)) ≡ option_map (λ (c : Connection). c.source) (connection_into (filter (λ c. p c.source (input_of c)) cs) q.target q.import)
          → option_filter (λ v. p v q) (option_map (λ (c : Connection). c.source) (connection_into (c ∷ cs) q.target q.import)) ≡ option_map (λ (c : Connection). c.source) (connection_into (filter (λ c. p c.source (input_of c)) (c ∷ cs)) q.target q.import)
      one true h rest =
          let e = into_is c q h in
          (λ i. option_filter (λ v. p v q) (option_map (λ (c : Connection). c.source) (cond (h i) (Some c) (connection_into cs q.target q.import))))
          ∙ here (p c.source q) refl h e
          ∙ (λ i. option_map (λ (c : Connection). c.source) (connection_into (cond (p c.source (sym e i)) (c ∷ filter (λ c. p c.source (input_of c)) cs) (filter (λ c. p c.source (input_of c)) cs)) q.target q.import))
      one false h rest =
          (λ i. option_filter (λ v. p v q) (option_map (λ (c : Connection). c.source) (cond (h i) (Some c) (connection_into cs q.target q.import))))
          ∙ rest
          ∙ ap (λ (o : Option Connection). option_map (λ (c : Connection). c.source) o) (sym (find_skip (is_into q.target q.import) c (p c.source (input_of c)) (filter (λ c. p c.source (input_of c)) cs) h))

pub own_kept : (p : Connection → Bool) (cs : List Connection) → HaveOwnImports cs → HaveOwnImports (filter p cs)
own_kept p [] own = tt
own_kept p (c ∷ cs) own = one (p c) (own_kept p cs own.1)
  where
    one : (b : Bool) → HaveOwnImports (filter p cs) → HaveOwnImports (cond b (c ∷ filter p cs) (filter p cs))
    one true rest = (find_none (is_into c.target c.import) p cs own.0, rest)
    one false rest = rest

pub found_kept : (p : ℕ → Input → Bool) (cs : List Connection) (m n : BTreeMap Input ℕ) → IsOrdered input_cmp m → n.entries ≡ filter (λ e. p e.1 e.0) m.entries → AreFound cs m → AreFound (filter (λ c. p c.source (input_of c)) cs) n
found_kept p cs m n ordered is found = record {
  apart = own_kept (λ c. p c.source (input_of c)) cs found.apart;
  found = λ q.
      ap (λ (es : List (Input × ℕ)). lookup (is_at (input_cmp q)) es) is
      ∙ filtered_alike (is_at (input_cmp q)) (λ e. p e.1 e.0) (λ e. p e.1 q) (λ e h. ap (p e.1) (sym (same_input q e.0 h))) m.entries
      ∙ lookup-filter-values (eq_by_cmp_equiv input_total) (λ v. p v q) q m.entries (IsDistinct-from_sorted input_cmp (keys_of m.entries) ordered)
      ∙ ap (option_filter (λ v. p v q)) (found.found q)
      ∙ source_kept p cs q found.apart;
}

-- ---- a connection that is added

some_of : (o : Option Connection) → is_some (option_map (λ (c : Connection). c.source) o) ≡ is_some o
some_of None = refl
some_of (Some c) = refl

pub is_there : (cs : List Connection) (m : BTreeMap Input ℕ) (q : Input) → AreFound cs m → is_some (get input_cmp m q) ≡ is_some (connection_into cs q.target q.import)
is_there cs m q found = ap (λ (o : Option ℕ). is_some o) (found.found q) ∙ some_of (connection_into cs q.target q.import)

into_back : (a b : Connection) → is_into a.target a.import b ≡ is_into b.target b.import a
into_back a b = λ i. nat_eq_equiv.symm b.target a.target i && nat_eq_equiv.symm b.import a.import i

one_none : (c : Connection) (t i : ℕ) → is_into t i c ≡ false → connection_into (c ∷ []) t i ≡ None
one_none c t i h = λ j. cond (h j) (Some c) None

pub own_added : (cs : List Connection) (c : Connection) → connection_into cs c.target c.import ≡ None → HaveOwnImports cs → HaveOwnImports (cs ++ c ∷ [])
own_added [] c free own = (refl, tt)
own_added (d ∷ cs) c free own = one (is_into c.target c.import d) refl free (λ e. own_added cs c e own.1)
  where
    one : (b : Bool) → is_into c.target c.import d ≡ b → cond b (Some d) (connection_into cs c.target c.import) ≡ None → (connection_into cs c.target c.import ≡ None → HaveOwnImports (cs ++ c ∷ [])) → HaveOwnImports (d ∷ (cs ++ c ∷ []))
    one true h e rest = absurd cc
    one false h e rest = (
      find-append (is_into d.target d.import) cs (c ∷ []) ∙ (λ i. option_or (own.0 i) (one_none c d.target d.import (into_back d c ∙ h) i)),
      rest e,
    )

module _ (cs : List Connection) (c : Connection) (free : connection_into cs c.target c.import ≡ None) where
  free_at : (q : Input) → input_of c ≡ q → connection_into cs q.target q.import ≡ None
  free_at q e = (λ i. connection_into cs (sym e i).target (sym e i).import) ∙ free

  pub found_added : (m n : BTreeMap Input ℕ) → Updates input_cmp m n (input_of c) (Some c.source) → AreFound cs m → AreFound (cs ++ c ∷ []) n
  found_added m n u found = record { apart = own_added cs c free found.apart; found = λ q. u.0 q ∙ one q (is_into q.target q.import c) refl }
    where
      one : (q : Input) (b : Bool) → is_into q.target q.import c ≡ b
          → cond (is_eq (input_cmp (input_of c) q)) (Some c.source) (get input_cmp m q) ≡ option_map (λ (c : Connection). c.source) (connection_into (cs ++ c ∷ []) q.target q.import)
      one q true h =
          (λ i. cond ((sym (input_ties c q) ∙ h) i) (Some c.source) (get input_cmp m q))
          ∙ ap (λ (o : Option Connection). option_map (λ (c : Connection). c.source) o)
          (sym (find-append (is_into q.target q.import) cs (c ∷ []) ∙ (λ i. option_or (free_at q (into_is c q h) i) (cond (h i) (Some c) None))))
      one q false h =
          (λ i. cond ((sym (input_ties c q) ∙ h) i) (Some c.source) (get input_cmp m q))
          ∙ found.found q
          ∙ ap (λ (o : Option Connection). option_map (λ (c : Connection). c.source) o)
          (sym (find-append (is_into q.target q.import) cs (c ∷ []) ∙ (λ i. option_or (connection_into cs q.target q.import) (cond (h i) (Some c) None)) ∙ or_none (connection_into cs q.target q.import)))

  -- what was put into the map is taken out again
  pub found_again : (m between n : BTreeMap Input ℕ) → Updates input_cmp m between (input_of c) (Some c.source) → Updates input_cmp between n (input_of c) None → AreFound cs m → AreFound cs n
  found_again m between n u v found = record { apart = found.apart; found = λ q. v.0 q ∙ one q (is_into q.target q.import c) refl }
    where
      one : (q : Input) (b : Bool) → is_into q.target q.import c ≡ b
          → cond (is_eq (input_cmp (input_of c) q)) None (get input_cmp between q) ≡ option_map (λ (c : Connection). c.source) (connection_into cs q.target q.import)
      one q true h =
          (λ i. cond ((sym (input_ties c q) ∙ h) i) None (get input_cmp between q))
          ∙ ap (λ (o : Option Connection). option_map (λ (c : Connection). c.source) o) (sym (free_at q (into_is c q h)))
      one q false h =
          (λ i. cond ((sym (input_ties c q) ∙ h) i) None (get input_cmp between q))
          ∙ u.0 q
          ∙ (λ i. cond ((sym (input_ties c q) ∙ h) i) (Some c.source) (get input_cmp m q))
          ∙ found.found q
