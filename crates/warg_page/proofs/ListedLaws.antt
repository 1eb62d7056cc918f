-- What a page lists for one log, and for several in turn.
use Rattle.std.proofs.Common.{◌≡◌, ◌≢◌, ◌++◌, ◌∷◌, [], List, ℕ, zero, suc, Bool, true, false, Some, refl, sym, ◌∙◌, ap, subst, append-nil, arith}
use Rattle.std.specs.Prelude.{slice_get, slice_set, cond, bytes_eq}
use Rattle.std.proofs.lemmas.Grind.{flat_map-append}
use Rattle.std.proofs.lemmas.Slice.Eq.{bytes_eq-Decides}
use Rattle.warg_hash.specs.Hash.{package_log_id}
use Rattle.warg_record.specs.Record.{Kind, Package}
use Rattle.warg_exchange.specs.declared.logs.PublishedRecord.{PublishedRecord}
use Rattle.warg_info.specs.Kept.{Kept, Grows, new_after}
use Rattle.warg_page.specs.Logs.{brought, EachGrows}

-- ---- one log

grows-none : (log : List Kept) → Grows Package log [] log
unfolding new_after
grows-none log = record { read = tt; more = []; kept = tt; parts = sym (append-nil log) }

test_true : (a b : List ℕ) → a ≡ b → bytes_eq a b ≡ true
test_true a b e = (bytes_eq-Decides a b).1 e

test_by : (a b : List ℕ) (t : Bool) → bytes_eq a b ≡ t → a ≢ b → bytes_eq a b ≡ false
test_by a b true is other = absurd (other ((bytes_eq-Decides a b).0 is))
test_by a b false is other = is

test_false : (a b : List ℕ) → a ≢ b → bytes_eq a b ≡ false
test_false a b other = test_by a b (bytes_eq a b) refl other

pub brought_here : (id k : List ℕ) (ps : List PublishedRecord) → id ≡ k → brought k ((id, ps) ∷ []) ≡ ps
brought_here id k ps is = rw (test_true id k is) (append-nil ps)

brought_not : (id k : List ℕ) (ps : List PublishedRecord) → id ≢ k → brought k ((id, ps) ∷ []) ≡ []
brought_not id k ps other = rw (test_false id k other) refl

-- a log for which nothing is listed stays
pub each-other : (id : List ℕ) (ps : List PublishedRecord) (logs : List (List ℕ × List Kept)) → ((i : ℕ) (p : List ℕ × List Kept) → slice_get logs i ≡ Some p → id ≢ package_log_id p.0) → EachGrows ((id, ps) ∷ []) logs logs
each-other id ps [] others = tt
each-other id ps (p ∷ logs) others =
    (refl, subst (λ (l : List PublishedRecord). Grows Package p.1 l p.1) (sym (brought_not id (package_log_id p.0) ps (others 0 p refl))) (grows-none p.1), each-other id ps logs (λ i q is. others (suc i) q is))

-- the one log with this id grows, and the others stay
pub each-one : (id : List ℕ) (ps : List PublishedRecord) (logs : List (List ℕ × List Kept)) (at : ℕ) (p q : List ℕ × List Kept)
    → slice_get logs at ≡ Some p → id ≡ package_log_id p.0 → q.0 ≡ p.0 → Grows Package p.1 ps q.1
    → ((i : ℕ) (r : List ℕ × List Kept) → slice_get logs i ≡ Some r → id ≡ package_log_id r.0 → i ≡ at)
    → EachGrows ((id, ps) ∷ []) logs (slice_set logs at q)
each-one id ps [] at p q there is named grows only = absurd cc
each-one id ps (r ∷ logs) zero p q there is named grows only =
    let same : r ≡ p = cc in (
      named ∙ ap (λ (x : List ℕ × List Kept). x.0) (sym same),
      subst (λ (l : List PublishedRecord). Grows Package r.1 l q.1) (sym (brought_here id (package_log_id r.0) ps (is ∙ ap (λ (x : List ℕ × List Kept). package_log_id x.0) (sym same))))
          (subst (λ (x : List ℕ × List Kept). Grows Package x.1 ps q.1) (sym same) grows),
      each-other id ps logs (λ i s at_i e. absurd (omega (arith, only (suc i) s at_i e))),
    )
each-one id ps (r ∷ logs) (suc at) p q there is named grows only = (
  refl,
  subst (λ (l : List PublishedRecord). Grows Package r.1 l r.1) (sym (brought_not id (package_log_id r.0) ps (λ e. absurd (omega (arith, only 0 r refl e))))) (grows-none r.1),
  each-one id ps logs at p q there is named grows (λ i s at_i e. omega (arith, only (suc i) s at_i e)),
)

-- ---- several logs in turn

pub each-none : (logs : List (List ℕ × List Kept)) → EachGrows [] logs logs
each-none [] = tt
each-none (p ∷ logs) = (refl, grows-none p.1, each-none logs)

-- one list, and then others
pub each-more : ((kind : Kind) (old mid new : List Kept) (ps qs : List PublishedRecord) → Grows kind old ps mid → Grows kind mid qs new → Grows kind old (ps ++ qs) new)
    → (l : List ℕ × List PublishedRecord) (rest : List (List ℕ × List PublishedRecord)) (olds mids news : List (List ℕ × List Kept)) → EachGrows (l ∷ []) olds mids → EachGrows rest mids news → EachGrows (l ∷ rest) olds news
each-more goes_on l rest [] [] [] first others = tt
each-more goes_on l rest [] [] (r ∷ news) first others = absurd others
each-more goes_on l rest [] (q ∷ mids) news first others = absurd first
each-more goes_on l rest (p ∷ olds) [] news first others = absurd first
each-more goes_on l rest (p ∷ olds) (q ∷ mids) [] first others = absurd others
each-more goes_on l rest (p ∷ olds) (q ∷ mids) (r ∷ news) first others =
    let id = package_log_id p.0 in
    let tail : Grows Package q.1 (brought id rest) r.1 = subst (λ (name : List ℕ). Grows Package q.1 (brought (package_log_id name) rest) r.1) first.0 others.1 in (
      others.0 ∙ first.0,
      subst (λ (ps : List PublishedRecord). Grows Package p.1 ps r.1) (sym (flat_map-append (λ (m : List ℕ × List PublishedRecord). cond (bytes_eq m.0 id) m.1 []) (l ∷ []) rest))
          (goes_on Package p.1 q.1 r.1 (brought id (l ∷ [])) (brought id rest) first.1 tail),
      each-more goes_on l rest olds mids news first.2 others.2,
    )
