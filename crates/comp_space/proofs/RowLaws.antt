-- Laws of lists of types that are read one by one.
use Rattle.std.specs.Prelude.{◌≡◌, ℕ, zero, suc, ◌+◌, ◌<◌, Bool, true, false, ◌&&◌, List, [], ◌∷◌, ◌++◌, map, length, take, slice_index_or, Result, Ok, Err, refl}
use Rattle.std.proofs.Common.{sym, ◌∙◌, ap, subst, arith}
use Rattle.std.proofs.lemmas.List.{map-append, take_more, take_all}
use Rattle.warg_values.specs.ReadingLaws.{bind_ok, ok_is}
use Rattle.comp_entity.specs.Bounds.{ShapeFault}
use Rattle.comp_space.specs.declared.error.ScopeError.{ScopeError}
use Rattle.comp_space.specs.declared.parts.Parts.{Parts}
use Rattle.comp_space.specs.declared.standing.Standing.{Standing}
use Rattle.comp_space.specs.Faults.{Fails, Found}
use Rattle.comp_space.specs.Rows.{all_of, all_named, ShowsRows}
use Rattle.comp_space.specs.Standings.{Shows}
use Rattle.comp_space.specs.StandingLaws.{fails_same}
use Rattle.comp_table.specs.StandLaws.{all_none, all_kept, all_push}
use Rattle.comp_table.specs.Trees.{PlainTree, AllStand, Extends}

named_and : (a b c : Bool) → a && (b && c) ≡ (a && b) && c
named_and true b c = refl
named_and false b c = refl

named_push : {Y : Type 0} (rs : List (Y × Bool)) (r : Y × Bool) → all_named (rs ++ r ∷ []) ≡ all_named rs && r.1
named_push [] (y, true) = refl
named_push [] (y, false) = refl
named_push (q ∷ rs) r = ap (λ b. q.1 && b) (named_push rs r) ∙ named_and q.1 (all_named rs) r.1

module _ {X Y : Type 0} (f : X → Result Y ShapeFault) where
  of_push : (xs : List X) (x : X) (ys : List Y) (y : Y) → all_of f xs ≡ Ok ys → f x ≡ Ok y → all_of f (xs ++ x ∷ []) ≡ Ok (ys ++ y ∷ [])
  of_push [] x ys y e g = rw g (ap (λ zs. Ok (zs ++ y ∷ [])) (ok_is [] ys e))
  of_push (w ∷ xs) x ys y e g =
      let a = bind_ok (f w) _ _ e in
      let b = bind_ok (all_of f xs) _ _ a.2 in
      rw (a.1, of_push xs x b.0 y b.1 g) (ap (λ zs. Ok (zs ++ y ∷ [])) (ok_is (a.0 ∷ b.0) ys b.2))

  of_fails : (xs : List X) (i : ℕ) (d : X) (ys : List Y) (fault : ShapeFault) → i < length xs → all_of f (take i xs) ≡ Ok ys → f (slice_index_or xs i d) ≡ Err fault → all_of f xs ≡ Err fault
  of_fails [] i d ys fault lt e g = absurd (omega (arith, lt))
  of_fails (x ∷ xs) zero d ys fault lt e g = rw g refl
  of_fails (x ∷ xs) (suc i) d ys fault lt e g =
      let a = bind_ok (f x) _ _ e in
      let b = bind_ok (all_of f (take i xs)) _ _ a.2 in
      rw (a.1, of_fails xs i d b.0 fault (omega (arith, lt)) b.1 g) refl

module _ {X Y : Type 0} (f : X → Result (Y × Bool) ShapeFault) (plain : Y → PlainTree) where
  pub rows_none : (ts : List PlainTree) (p : Parts) → p.numbers.items ≡ [] → p.named ≡ true → Found (ShowsRows plain ts) p (all_of f [])
  rows_none ts p e n = record { value = []; given_is = refl; shown = record { stand = rw e (all_none ts); named_is = n } }

  -- one row more
  pub rows_step : (xs : List X) (ts us : List PlainTree) (i : ℕ) (d : X) (p q : Parts) (x : Standing) → i < length xs → Extends ts us → Found (ShowsRows plain ts) p (all_of f (take i xs)) → Found (Shows plain us) x (f (slice_index_or xs i d)) → q.numbers.items ≡ p.numbers.items ++ x.number ∷ [] → q.named ≡ p.named && x.named → Found (ShowsRows plain us) q (all_of f (take (i + 1) xs))
  rows_step xs ts us i d p q x lt grown rows row pushed named = record {
    value = rows.value ++ row.value ∷ [];
    given_is = ap (all_of f) (take_more xs i d lt) ∙ of_push f (take i xs) (slice_index_or xs i d) rows.value row.value rows.given_is row.given_is;
    shown = record {
      stand = rw pushed (subst (AllStand us (p.numbers.items ++ x.number ∷ [])) (sym (map-append (λ r. plain r.0) rows.value (row.value ∷ [])))
          (all_push us p.numbers.items (map (λ r. plain r.0) rows.value) x.number (plain row.value.0) (all_kept ts us grown p.numbers.items (map (λ r. plain r.0) rows.value) rows.shown.stand) row.shown.stands));
      named_is = named ∙ (λ j. rows.shown.named_is j && row.shown.named_is j) ∙ sym (named_push rows.value row.value);
    };
  }

  pub rows_end : (xs : List X) (ts : List PlainTree) (p : Parts) → Found (ShowsRows plain ts) p (all_of f (take (length xs) xs)) → Found (ShowsRows plain ts) p (all_of f xs)
  rows_end xs ts p h = subst (λ ys. Found (ShowsRows plain ts) p (all_of f ys)) (take_all (length xs) xs (omega arith)) h

  pub rows_fail : (xs : List X) (ts : List PlainTree) (i : ℕ) (d : X) (p : Parts) (error : ScopeError) → i < length xs → Found (ShowsRows plain ts) p (all_of f (take i xs)) → Fails error (f (slice_index_or xs i d)) → Fails error (all_of f xs)
  rows_fail xs ts i d p error lt rows h = fails_same _ _ error (λ fault e. of_fails f xs i d rows.value fault lt rows.given_is e) h
