-- Reading values under labels one after the other, as a loop does.
use Rattle.std.proofs.Common.{◌≡◌, ℕ, suc, ◌-◌, ◌+◌, ◌≤◌, ◌<◌, true, false, Bor, List, [], ◌∷◌, ◌++◌, Result, Ok, Err, refl, sym, ap, ◌∙◌, append_assoc, arith}
use Rattle.std.specs.BTreeSet.{BTreeSet}
use Rattle.std.specs.List.{list_any}
use Rattle.std.specs.Str.{bytes_eq}
use Rattle.std.proofs.lemmas.List.{append-nil}
use Rattle.warg_values.specs.Reading.{◌>>=◌}
use Rattle.comp_format.specs.Fault.{Fault, Form, NotCarried}
use Rattle.comp_format.specs.Vectors.{ReaderOf, name_at, labelled_at}
use Rattle.comp_reader.specs.declared.refusal.Refusal.{Refusal}
use Rattle.comp_reader.specs.declared.refusal.Refusal.TheVariants as refusals
use Rattle.comp_reader.specs.Refusal.{Fails}
use Rattle.comp_reader.proofs.ManyLaws.{with_front}
use Rattle.comp_reader.proofs.TextSets.{HasTexts}

-- the set has these labels, as they are borrowed
abbrev pub HasLabels : List (List ℕ) → BTreeSet (Bor (List ℕ)) → Type 0
HasLabels = HasTexts (λ (label : Bor (List ℕ)). label.now)

module _ {X : Type 0} (behind : List ℕ → ReaderOf X) where
  regroup : (front : List X) (x : X) (read : Result (List X × List ℕ) Fault) → with_front front (read >>= λ xs. Ok (x ∷ xs.0, xs.1)) ≡ with_front (front ++ x ∷ []) read
  regroup front x (Ok xs) = ap (λ (ys : List X). Ok (ys, xs.1)) (simp append_assoc)
  regroup front x (Err fault) = refl

  whole : (read : Result (List X × List ℕ) Fault) → with_front [] read ≡ read
  whole (Ok xs) = refl
  whole (Err fault) = refl

  -- nothing was read yet
  pub begins : (front : List X) (count : ℕ) (bytes : List ℕ) → front ≡ [] → with_front front (labelled_at behind [] (count - 0) bytes) ≡ labelled_at behind [] count bytes
  begins front count bytes none =
      let k : count - 0 ≡ count = omega arith in
      rw (none, k) (whole (labelled_at behind [] count bytes))

  -- a value more was read
  pub goes_on : (front : List X) (seen : List (List ℕ)) (count i : ℕ) (bytes label behind_label : List ℕ) (x : X) (after : List ℕ) (total : Result (List X × List ℕ) Fault) → i < count
      → name_at bytes ≡ Ok (label, behind_label) → list_any (bytes_eq label) seen ≡ false → behind label behind_label ≡ Ok (x, after)
      → with_front front (labelled_at behind seen (count - i) bytes) ≡ total → with_front (front ++ x ∷ []) (labelled_at behind (seen ++ label ∷ []) (count - (i + 1)) after) ≡ total
  unfolding labelled_at
  goes_on front seen count i bytes label behind_label x after total lt name new h so_far =
      let k : count - i ≡ suc (count - (i + 1)) = omega arith in
      let one_more : with_front front (labelled_at behind seen (count - i) bytes) ≡ with_front (front ++ x ∷ []) (labelled_at behind (seen ++ label ∷ []) (count - (i + 1)) after) =
      rw (k, name, new, h) (regroup front x (labelled_at behind (seen ++ label ∷ []) (count - (i + 1)) after)) in
      sym one_more ∙ so_far

  -- a label could not be read
  pub no_label : (e : Refusal) (front : List X) (seen : List (List ℕ)) (count i : ℕ) (bytes : List ℕ) (total : Result (List X × List ℕ) Fault) → i < count → Fails e (name_at bytes)
      → with_front front (labelled_at behind seen (count - i) bytes) ≡ total → Fails e total
  unfolding labelled_at
  no_label refusals.Memory front seen count i bytes total lt h so_far = tt
  no_label (refusals.Form at) front seen count i bytes total lt h so_far =
      let k : count - i ≡ suc (count - (i + 1)) = omega arith in
      let failed : with_front front (labelled_at behind seen (count - i) bytes) ≡ Err Form = rw (k, h) refl in
      sym so_far ∙ failed
  no_label (refusals.NotCarried at) front seen count i bytes total lt h so_far =
      let k : count - i ≡ suc (count - (i + 1)) = omega arith in
      let failed : with_front front (labelled_at behind seen (count - i) bytes) ≡ Err NotCarried = rw (k, h) refl in
      sym so_far ∙ failed

  -- a label was seen before
  pub again : (front : List X) (seen : List (List ℕ)) (count i : ℕ) (bytes label behind_label : List ℕ) (total : Result (List X × List ℕ) Fault) → i < count → name_at bytes ≡ Ok (label, behind_label)
      → list_any (bytes_eq label) seen ≡ true → with_front front (labelled_at behind seen (count - i) bytes) ≡ total → total ≡ Err Form
  unfolding labelled_at
  again front seen count i bytes label behind_label total lt name old so_far =
      let k : count - i ≡ suc (count - (i + 1)) = omega arith in
      let failed : with_front front (labelled_at behind seen (count - i) bytes) ≡ Err Form = rw (k, name, old) refl in
      sym so_far ∙ failed

  -- what stands behind a label could not be read
  pub no_value : (e : Refusal) (front : List X) (seen : List (List ℕ)) (count i : ℕ) (bytes label behind_label : List ℕ) (total : Result (List X × List ℕ) Fault) → i < count
      → name_at bytes ≡ Ok (label, behind_label) → list_any (bytes_eq label) seen ≡ false → Fails e (behind label behind_label)
      → with_front front (labelled_at behind seen (count - i) bytes) ≡ total → Fails e total
  unfolding labelled_at
  no_value refusals.Memory front seen count i bytes label behind_label total lt name new h so_far = tt
  no_value (refusals.Form at) front seen count i bytes label behind_label total lt name new h so_far =
      let k : count - i ≡ suc (count - (i + 1)) = omega arith in
      let failed : with_front front (labelled_at behind seen (count - i) bytes) ≡ Err Form = rw (k, name, new, h) refl in
      sym so_far ∙ failed
  no_value (refusals.NotCarried at) front seen count i bytes label behind_label total lt name new h so_far =
      let k : count - i ≡ suc (count - (i + 1)) = omega arith in
      let failed : with_front front (labelled_at behind seen (count - i) bytes) ≡ Err NotCarried = rw (k, name, new, h) refl in
      sym so_far ∙ failed

  -- all values were read
  pub is_done : (front : List X) (seen : List (List ℕ)) (count i : ℕ) (bytes : List ℕ) (total : Result (List X × List ℕ) Fault) → count ≤ i
      → with_front front (labelled_at behind seen (count - i) bytes) ≡ total → total ≡ Ok (front, bytes)
  unfolding labelled_at
  is_done front seen count i bytes total le so_far =
      let k : count - i ≡ 0 = omega arith in
      let none_left : with_front front (labelled_at behind seen (count - i) bytes) ≡ Ok (front, bytes) = rw k (ap (λ (xs : List X). Ok (xs, bytes)) (append-nil front)) in
      sym so_far ∙ none_left
