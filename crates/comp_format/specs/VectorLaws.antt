-- Vectors, names and labels: what is read is a form, each form is read so, and what is written is a form.
use Rattle.std.proofs.Common.{◌≡◌, ℕ, zero, suc, ◌^◌, ◌<◌, ◌≤◌, ◌||◌, Bool, true, false, ltb, eqb, List, [], ◌∷◌, ◌++◌, length, map, take, drop, Option, Some, None, Ok, Err, refl, sym, ap, subst, ◌∙◌, append_assoc, arith, inl, inr}
use Rattle.std.specs.Prelude.{IfSome}
use Rattle.std.specs.List.{flat_map, AllByRecursion, list_any, IsDistinct}
use Rattle.std.specs.Str.{is_utf8, bytes_eq}
use Rattle.std.proofs.lemmas.Bool.{cases_Bool, ltb-false, le-ltb, eqb-false, ne_eqb}
use Rattle.std.proofs.lemmas.List.Folds.{list_any-append}
use Rattle.std.proofs.lemmas.List.Elements.{recursion_from_All}
use Rattle.std.proofs.lemmas.Slice.Eq.{bytes_eq-Decides}
use Rattle.std.proofs.lemmas.List.{take_at, drop_at, take-append-drop, length-append, length-take}
use Rattle.std.proofs.lemmas.List.Concat.{flat_map-cons}
use Rattle.std.proofs.lemmas.Str.{is_utf8-from_IsUtf8, IsUtf8-from_is_utf8}
use Rattle.warg_values.specs.ReadingLaws.{bind_ok, ok_is, guard_ok, wanted_ok, pick}
use Rattle.comp_format.specs.Fault.{Fault, Form}
use Rattle.comp_format.specs.Numbers.{FormOf, Then, Number, number_at}
use Rattle.comp_format.specs.Vectors.{ReaderOf, Many, Vector, Name, AnyName, Optional, Labelled, many_at, vector_at, front_at, name_at, any_name_at, byte_at, mark_at, carried_at, known_or, optional_at, labelled_at, labelled_vector_at, under_label, label_alone, vector_text, name_text, optional_text}
use Rattle.comp_format.specs.Fits.{FitsName, FitsAnyName, FitsLabelled}
use Rattle.comp_format.specs.NumberLaws.{number_form, number_again, number_written}

module _ {X : Type 0} (one : ReaderOf X) (One : FormOf X) where
  -- what is read is a form
  abbrev pub IsSound : Type 0
  IsSound = (bytes : List ℕ) (x : X × List ℕ) → one bytes ≡ Ok x → One x.0 bytes x.1

  -- each form is read so
  abbrev pub IsComplete : Type 0
  IsComplete = (x : X) (bytes rest : List ℕ) → One x bytes rest → one bytes ≡ Ok (x, rest)

module _ {X : Type 0} (one : ReaderOf X) (One : FormOf X) where
  pub many_form : IsSound one One → (count : ℕ) (bytes : List ℕ) (xs : List X × List ℕ) → many_at one count bytes ≡ Ok xs → Many One xs.0 bytes xs.1 × (length xs.0 ≡ count)
  unfolding many_at
  many_form sound zero bytes xs e = subst (λ (y : List X × List ℕ). Many One y.0 bytes y.1 × (length y.0 ≡ 0)) (ok_is ([], bytes) xs e) (refl, refl)
  many_form sound (suc count) bytes xs e =
      let first = bind_ok (one bytes) _ xs e in
      let others = bind_ok (many_at one count first.0.1) _ xs first.2 in
      let more = many_form sound count first.0.1 others.0 others.1 in
      subst (λ (y : List X × List ℕ). Many One y.0 bytes y.1 × (length y.0 ≡ suc count)) (ok_is (first.0.0 ∷ others.0.0, others.0.1) xs others.2)
      ((first.0.1, sound bytes first.0 first.1, more.0), ap suc more.1)

  many_again : IsComplete one One → (xs : List X) (bytes rest : List ℕ) → Many One xs bytes rest → many_at one (length xs) bytes ≡ Ok (xs, rest)
  unfolding many_at
  many_again complete [] bytes rest h = ap (λ (r : List ℕ). Ok ([], r)) h
  many_again complete (x ∷ xs) bytes rest h = rw (complete x bytes h.0 h.1, many_again complete xs h.0 rest h.2) refl

  pub vector_form : IsSound one One → IsSound (vector_at one) (Vector One)
  unfolding vector_at
  vector_form sound bytes xs e =
      let count = bind_ok (number_at bytes) _ xs e in
      let all = many_form sound count.0.0 count.0.1 xs count.2 in
      (count.0.1, subst (λ (n : ℕ). Number n bytes count.0.1) (sym all.1) (number_form bytes count.0 count.1), all.0)

  pub vector_again : IsComplete one One → IsComplete (vector_at one) (Vector One)
  unfolding vector_at
  vector_again complete xs bytes rest h = rw (number_again (length xs) bytes h.0 h.1, many_again complete xs h.0 rest h.2) refl

  many_written : (text : X → List ℕ) (Fits : X → Type 0) → ((x : X) (rest : List ℕ) → Fits x → One x (text x ++ rest) rest)
      → (xs : List X) (rest : List ℕ) → AllByRecursion Fits xs → Many One xs (flat_map text xs ++ rest) rest
  many_written text Fits written [] rest fits = refl
  many_written text Fits written (x ∷ xs) rest fits =
      (flat_map text xs ++ rest, rw (flat_map-cons text x xs, append_assoc) (written x (flat_map text xs ++ rest) fits.0), many_written text Fits written xs rest fits.1)

  pub vector_written : (text : X → List ℕ) (Fits : X → Type 0) → ((x : X) (rest : List ℕ) → Fits x → One x (text x ++ rest) rest)
      → (xs : List X) (rest : List ℕ) → length xs < 2 ^ 32 → AllByRecursion Fits xs → Vector One xs (vector_text text xs ++ rest) rest
  vector_written text Fits written xs rest short fits =
      (flat_map text xs ++ rest, rw append_assoc (number_written (length xs) (flat_map text xs ++ rest) short), many_written text Fits written xs rest fits)

pub front_form : (count : ℕ) (bytes : List ℕ) (x : List ℕ × List ℕ) → front_at count bytes ≡ Ok x → (bytes ≡ x.0 ++ x.1) × (length x.0 ≡ count)
unfolding front_at
front_form count bytes x e =
    let long = guard_ok (ltb (length bytes) count) Form (Ok (take count bytes, drop count bytes)) x e in
    let enough : count ≤ length bytes = ltb-false (length bytes) count long.0 in
    subst (λ (y : List ℕ × List ℕ). (bytes ≡ y.0 ++ y.1) × (length y.0 ≡ count)) (ok_is (take count bytes, drop count bytes) x long.1)
    (sym (take-append-drop count bytes), omega (arith, length-take count bytes))

pub front_again : (front rest : List ℕ) → front_at (length front) (front ++ rest) ≡ Ok (front, rest)
unfolding front_at
front_again front rest =
    let long : ltb (length (front ++ rest)) (length front) ≡ false = le-ltb _ _ (omega (arith, length-append front rest)) in
    rw (long, take_at front rest (length front) refl, drop_at front rest (length front) refl) refl

pub name_form : IsSound name_at Name
unfolding name_at
name_form bytes x e =
    let count = bind_ok (number_at bytes) _ x e in
    let text = bind_ok (front_at count.0.0 count.0.1) _ x count.2 in
    let some = guard_ok (eqb count.0.0 0) Form _ x text.2 in
    let utf8 = wanted_ok (is_utf8 text.0.0) Form (Ok text.0) x some.1 in
    let front = front_form count.0.0 count.0.1 text.0 text.1 in
    let not_zero = eqb-false count.0.0 0 some.0 in
    subst (λ (y : List ℕ × List ℕ). Name y.0 bytes y.1) (ok_is text.0 x utf8.1) (record {
      after = count.0.1;
      count = subst (λ (n : ℕ). Number n bytes count.0.1) (sym front.1) (number_form bytes count.0 count.1);
      is_there = front.0;
      is_text = IsUtf8-from_is_utf8 text.0.0 utf8.0;
      not_empty = omega (arith, front.1, not_zero);
    })

pub name_again : IsComplete name_at Name
unfolding name_at
name_again text bytes rest h =
    let some : eqb (length text) 0 ≡ false = ne_eqb (length text) 0 (omega (arith, h.not_empty)) in
    rw (number_again (length text) bytes h.after h.count, h.is_there, front_again text rest, some, is_utf8-from_IsUtf8 text h.is_text) refl

pub name_written : (text rest : List ℕ) → FitsName text → Name text (name_text text ++ rest) rest
name_written text rest fits = record {
  after = text ++ rest;
  count = rw append_assoc (number_written (length text) (text ++ rest) fits.short);
  is_there = refl;
  is_text = fits.is_text;
  not_empty = fits.not_empty;
}

-- ---- names that may be empty

pub any_name_form : IsSound any_name_at AnyName
unfolding any_name_at
any_name_form bytes x e =
    let count = bind_ok (number_at bytes) _ x e in
    let text = bind_ok (front_at count.0.0 count.0.1) _ x count.2 in
    let utf8 = wanted_ok (is_utf8 text.0.0) Form (Ok text.0) x text.2 in
    let front = front_form count.0.0 count.0.1 text.0 text.1 in
    subst (λ (y : List ℕ × List ℕ). AnyName y.0 bytes y.1) (ok_is text.0 x utf8.1) (record {
      after = count.0.1;
      count = subst (λ (n : ℕ). Number n bytes count.0.1) (sym front.1) (number_form bytes count.0 count.1);
      is_there = front.0;
      is_text = IsUtf8-from_is_utf8 text.0.0 utf8.0;
    })

pub any_name_again : IsComplete any_name_at AnyName
unfolding any_name_at
any_name_again text bytes rest h =
    rw (number_again (length text) bytes h.after h.count, h.is_there, front_again text rest, is_utf8-from_IsUtf8 text h.is_text) refl

pub any_name_written : (text rest : List ℕ) → FitsAnyName text → AnyName text (name_text text ++ rest) rest
any_name_written text rest fits = record {
  after = text ++ rest;
  count = rw append_assoc (number_written (length text) (text ++ rest) fits.short);
  is_there = refl;
  is_text = fits.is_text;
}

-- ---- bytes

pub byte_form : (bytes : List ℕ) (b : ℕ × List ℕ) → byte_at bytes ≡ Ok b → bytes ≡ b.0 ∷ b.1
byte_form [] b e = absurd cc
byte_form (x ∷ rest) b e = let same = ok_is (x, rest) b e in ap (λ (p : ℕ × List ℕ). p.0 ∷ p.1) same

pub mark_form : (mark : ℕ) (bytes rest : List ℕ) → mark_at mark bytes ≡ Ok rest → bytes ≡ mark ∷ rest
unfolding mark_at
mark_form mark bytes rest e =
    let b = bind_ok (byte_at bytes) _ rest e in
    pick b.0.0 mark _ _ _ b.2
    (λ is k. byte_form bytes b.0 b.1 ∙ ap (λ (c : ℕ). c ∷ b.0.1) is ∙ ap (λ (r : List ℕ). mark ∷ r) (ok_is b.0.1 rest k))
    (λ k. absurd cc)

pub carried_form : (mark : ℕ) (bytes rest : List ℕ) → carried_at mark bytes ≡ Ok rest → bytes ≡ mark ∷ rest
unfolding carried_at
carried_form mark bytes rest e =
    let b = bind_ok (byte_at bytes) _ rest e in
    pick b.0.0 mark _ _ _ b.2
    (λ is k. byte_form bytes b.0 b.1 ∙ ap (λ (c : ℕ). c ∷ b.0.1) is ∙ ap (λ (r : List ℕ). mark ∷ r) (ok_is b.0.1 rest k))
    (λ k. absurd cc)

-- what a byte stands for
pub known_ok : {X : Type 0} (fault : Fault) (o : Option X) (rest : List ℕ) (x : X × List ℕ) → known_or fault o rest ≡ Ok x → (o ≡ Some x.0) × (rest ≡ x.1)
known_ok fault None rest x e = absurd cc
known_ok fault (Some y) rest x e = let same = ok_is (y, rest) x e in (ap (λ (p : _ × List ℕ). Some p.0) same, ap (λ (p : _ × List ℕ). p.1) same)

pub some_is : {X : Type 0} (x y : X) → Some x ≡ Some y → x ≡ y
some_is x y e = cc

-- a reading that a byte chose
pub behind : {X : Type 0} (One : FormOf X) (mark : ℕ) (bytes : List ℕ) (b : ℕ × List ℕ) (y x : X × List ℕ) → bytes ≡ b.0 ∷ b.1 → b.0 ≡ mark → y ≡ x → One y.0 (mark ∷ b.1) y.1 → One x.0 bytes x.1
behind One mark bytes b y x front is same form =
    subst (λ (z : _ × List ℕ). One z.0 bytes z.1) same (subst (λ (bs : List ℕ). One y.0 bs y.1) (sym (front ∙ ap (λ (c : ℕ). c ∷ b.1) is)) form)

-- ---- optional values

module _ {X : Type 0} (one : ReaderOf X) (One : FormOf X) where
  pub optional_form : IsSound one One → IsSound (optional_at one) (Optional One)
  unfolding optional_at
  optional_form sound bytes x e =
      let b = bind_ok (byte_at bytes) _ x e in
      let front = byte_form bytes b.0 b.1 in
      pick b.0.0 0 _ _ _ b.2 (λ h k. behind (Optional One) 0 bytes b.0 (None, b.0.1) x front h (ok_is _ x k) refl) (λ e.
      pick b.0.0 1 _ _ _ e (λ h k.
      let v = bind_ok (one b.0.1) _ x k in
      behind (Optional One) 1 bytes b.0 (Some v.0.0, v.0.1) x front h (ok_is _ x v.2) (b.0.1, refl, sound b.0.1 v.0 v.1)) (λ e. absurd cc))

  pub optional_again : IsComplete one One → IsComplete (optional_at one) (Optional One)
  unfolding optional_at
  optional_again complete None bytes rest h = rw h refl
  optional_again complete (Some x) bytes rest h = rw (h.1, complete x h.0 rest h.2) refl

  pub optional_written : (text : X → List ℕ) (Fits : X → Type 0) → ((x : X) (rest : List ℕ) → Fits x → One x (text x ++ rest) rest)
      → (o : Option X) (rest : List ℕ) → IfSome o Fits → Optional One o (optional_text text o ++ rest) rest
  optional_written text Fits written None rest fits = refl
  optional_written text Fits written (Some x) rest fits = (text x ++ rest, refl, written x rest fits)

-- ---- labels

same_bytes : (a b : List ℕ) → bytes_eq a b ≡ true → a ≡ b
same_bytes a b e = (bytes_eq-Decides a b).0 e

apart_back : (a b : List ℕ) → bytes_eq a b ≡ false → bytes_eq b a ≡ false
apart_back a b apart =
    elim (cases_Bool (bytes_eq b a)) [
      | inl same ↦ absurd (true_not_false (sym ((bytes_eq-Decides a b).1 (sym (same_bytes b a same))) ∙ apart))
      | inr not ↦ not
    ]
  where
    true_not_false : true ≡ false → ⊥
    true_not_false e = cc

or_false : (a b : Bool) → (a || b) ≡ false → (a ≡ false) × (b ≡ false)
or_false true b e = absurd cc
or_false false b e = (refl, e)

false_or : (a b : Bool) → a ≡ false → b ≡ false → (a || b) ≡ false
false_or a b h k = rw (h, k) refl

module _ {X : Type 0} (label : X → List ℕ) where
  -- none of the values has one of these labels
  abbrev AreNew : List (List ℕ) → List X → Type 0
  AreNew seen xs = AllByRecursion (λ (x : X). list_any (bytes_eq (label x)) seen ≡ false) xs

  -- a label more is seen
  older : (seen : List (List ℕ)) (name : List ℕ) (xs : List X) → AreNew (seen ++ name ∷ []) xs → AreNew seen xs × AllByRecursion (λ (y : List ℕ). bytes_eq name y ≡ false) (map label xs)
  older seen name [] h = (tt, tt)
  older seen name (x ∷ xs) h =
      let parts = or_false _ _ (sym (list_any-append (bytes_eq (label x)) seen (name ∷ [])) ∙ h.0) in
      let last = or_false _ _ parts.1 in
      let others = older seen name xs h.1 in
      ((parts.0, others.0), (apart_back (label x) name last.0, others.1))

  newer : (seen : List (List ℕ)) (name : List ℕ) (xs : List X) → AreNew seen xs → AllByRecursion (λ (y : List ℕ). bytes_eq name y ≡ false) (map label xs) → AreNew (seen ++ name ∷ []) xs
  newer seen name [] h k = tt
  newer seen name (x ∷ xs) h k =
      (list_any-append (bytes_eq (label x)) seen (name ∷ []) ∙ false_or _ _ h.0 (false_or _ _ (apart_back name (label x) k.0) refl), newer seen name xs h.1 k.1)

  none_seen : (xs : List X) → AreNew [] xs
  none_seen [] = tt
  none_seen (x ∷ xs) = (refl, none_seen xs)

module _ {X : Type 0} (label : X → List ℕ) (one : List ℕ → ReaderOf X) (Behind : FormOf X) where
  -- what is read under a label has that label, and is a form
  abbrev pub IsSoundUnder : Type 0
  IsSoundUnder = (name bytes : List ℕ) (x : X × List ℕ) → one name bytes ≡ Ok x → (name ≡ label x.0) × Behind x.0 bytes x.1

  -- each form is read so under its label
  abbrev pub IsCompleteUnder : Type 0
  IsCompleteUnder = (x : X) (bytes rest : List ℕ) → Behind x bytes rest → one (label x) bytes ≡ Ok (x, rest)

module _ {X : Type 0} (label : X → List ℕ) (one : List ℕ → ReaderOf X) (Behind : FormOf X) where
  -- a value behind its label
  abbrev Part : FormOf X
  Part x = Then (Name (label x)) (Behind x)

  -- what is known of values that were read when these labels were seen
  record WasRead (seen : List (List ℕ)) (count : ℕ) (bytes : List ℕ) (xs : List X) (rest : List ℕ) : Type 0 where
    form : Many Part xs bytes rest
    counted : length xs ≡ count
    are_new : AreNew label seen xs
    distinct : IsDistinct bytes_eq (map label xs)

  labelled_each : IsSoundUnder label one Behind → (seen : List (List ℕ)) (count : ℕ) (bytes : List ℕ) (xs : List X × List ℕ) → labelled_at one seen count bytes ≡ Ok xs → WasRead seen count bytes xs.0 xs.1
  unfolding labelled_at IsDistinct
  labelled_each sound seen zero bytes xs e =
      subst (λ (y : List X × List ℕ). WasRead seen 0 bytes y.0 y.1) (ok_is ([], bytes) xs e) (record { form = refl; counted = refl; are_new = tt; distinct = tt })
  labelled_each sound seen (suc count) bytes xs e =
      let name = bind_ok (name_at bytes) _ xs e in
      let new = guard_ok (list_any (bytes_eq name.0.0) seen) Form _ xs name.2 in
      let first = bind_ok (one name.0.0 name.0.1) _ xs new.1 in
      let others = bind_ok (labelled_at one (seen ++ name.0.0 ∷ []) count first.0.1) _ xs first.2 in
      let is = sound name.0.0 name.0.1 first.0 first.1 in
      let behind = labelled_each sound (seen ++ name.0.0 ∷ []) count first.0.1 others.0 others.1 in
      let old = older label seen name.0.0 others.0.0 behind.are_new in
      subst (λ (y : List X × List ℕ). WasRead seen (suc count) bytes y.0 y.1) (ok_is (first.0.0 ∷ others.0.0, others.0.1) xs others.2) (record {
        form = (first.0.1, (name.0.1, subst (λ (n : List ℕ). Name n bytes name.0.1) is.0 (name_form bytes name.0 name.1), is.1), behind.form);
        counted = ap suc behind.counted;
        are_new = (subst (λ (n : List ℕ). list_any (bytes_eq n) seen ≡ false) is.0 new.0, old.0);
        distinct = (subst (λ (n : List ℕ). AllByRecursion (λ (y : List ℕ). bytes_eq n y ≡ false) (map label others.0.0)) is.0 old.1, behind.distinct);
      })

  labelled_each_again : IsCompleteUnder label one Behind → (seen : List (List ℕ)) (xs : List X) (bytes rest : List ℕ) → AreNew label seen xs → IsDistinct bytes_eq (map label xs) → Many Part xs bytes rest
      → labelled_at one seen (length xs) bytes ≡ Ok (xs, rest)
  unfolding labelled_at IsDistinct
  labelled_each_again complete seen [] bytes rest are_new distinct h = ap (λ (r : List ℕ). Ok ([], r)) h
  labelled_each_again complete seen (x ∷ xs) bytes rest are_new distinct h =
      rw (
        name_again (label x) bytes h.1.0 h.1.1,
        are_new.0,
        complete x h.1.0 h.0 h.1.2,
        labelled_each_again complete (seen ++ label x ∷ []) xs h.0 rest (newer label seen (label x) xs are_new.1 distinct.0) distinct.1 h.2,
      ) refl

  pub labelled_form : IsSoundUnder label one Behind → IsSound (labelled_vector_at one) (Labelled label Behind)
  unfolding labelled_vector_at
  labelled_form sound bytes xs e =
      let count = bind_ok (number_at bytes) _ xs e in
      let all = labelled_each sound [] count.0.0 count.0.1 xs count.2 in
      (all.distinct, (count.0.1, subst (λ (n : ℕ). Number n bytes count.0.1) (sym all.counted) (number_form bytes count.0 count.1), all.form))

  pub labelled_again : IsCompleteUnder label one Behind → IsComplete (labelled_vector_at one) (Labelled label Behind)
  unfolding labelled_vector_at
  labelled_again complete xs bytes rest h =
      rw (number_again (length xs) bytes h.1.0 h.1.1, labelled_each_again complete [] xs h.1.0 rest (none_seen label xs) h.0 h.1.2) refl

  pub labelled_written : (text : X → List ℕ) (Fits : X → Type 0) → ((x : X) (rest : List ℕ) → Fits x → Part x (text x ++ rest) rest)
      → (xs : List X) (rest : List ℕ) → FitsLabelled label Fits xs → Labelled label Behind xs (vector_text text xs ++ rest) rest
  labelled_written text Fits written xs rest fits =
      (fits.differ, vector_written (λ bytes. Err Form) Part text Fits written xs rest fits.short (recursion_from_All Fits xs fits.each))

module _ {X : Type 0} (one : ReaderOf X) (One : FormOf X) where
  pub under_label_form : IsSound one One → (name bytes : List ℕ) (x : (List ℕ × X) × List ℕ) → under_label one name bytes ≡ Ok x → (name ≡ x.0.0) × One x.0.1 bytes x.1
  unfolding under_label
  under_label_form sound name bytes x e =
      let v = bind_ok (one bytes) _ x e in
      subst (λ (y : (List ℕ × X) × List ℕ). (name ≡ y.0.0) × One y.0.1 bytes y.1) (ok_is ((name, v.0.0), v.0.1) x v.2) (refl, sound bytes v.0 v.1)

  pub under_label_again : IsComplete one One → (x : List ℕ × X) (bytes rest : List ℕ) → One x.1 bytes rest → under_label one x.0 bytes ≡ Ok (x, rest)
  unfolding under_label
  under_label_again complete x bytes rest h = rw (complete x.1 bytes rest h) refl

pub label_alone_form : (name bytes : List ℕ) (x : List ℕ × List ℕ) → label_alone name bytes ≡ Ok x → (name ≡ x.0) × (bytes ≡ x.1)
unfolding label_alone
label_alone_form name bytes x e = let same = ok_is (name, bytes) x e in (ap (λ (p : List ℕ × List ℕ). p.0) same, ap (λ (p : List ℕ × List ℕ). p.1) same)

pub label_alone_again : (name bytes rest : List ℕ) → bytes ≡ rest → label_alone name bytes ≡ Ok (name, rest)
unfolding label_alone
label_alone_again name bytes rest h = ap (λ (r : List ℕ). Ok (name, r)) h
