-- Cuts of paths: what the call of std that cuts at the last mark gives, and what the parts of a path that is cut are.
use Rattle.std.proofs.Common.{◌≡◌, ◌≢◌, ℕ, suc, ◌<◌, ◌==◌, not, Bool, true, false, cond, eqb, List, [], ◌∷◌, ◌++◌, length, get_or, Option, Some, None, refl, sym, ap, subst, ◌∙◌, arith}
use Rattle.std.specs.Borrow.{Bor}
use Rattle.std.specs.List.{list_all}
use Rattle.std.specs.Option.{option_or}
use Rattle.std.specs.Prelude.{MatchOption, option_map}
use Rattle.std.specs.Str.{NoCharPasses}
use Rattle.std.specs.Str.Pattern.{RFindsChar, SplitsAroundMatch}
use Rattle.std.proofs.lemmas.Bool.{and_from, and_parts, eq-eqb, ne_eqb, not-true, not_from_false}
use Rattle.std.proofs.lemmas.List.{take-append-drop}
use Rattle.std.proofs.lemmas.Str.Pattern.{drop_at_char, NoCharPasses-char}
use Rattle.compose_files.specs.Paths.{cut_last, if_leads, last_part, leads, onto, parts, slash}

-- whether no byte of a text is c
abbrev pub lacks : ℕ → List ℕ → Bool
lacks c text = list_all (λ b. not (b == c)) text

cut_last-none : (c : ℕ) (text : List ℕ) → lacks c text ≡ true → cut_last c text ≡ None
unfolding cut_last
cut_last-none c [] h = refl
cut_last-none c (b ∷ text) h =
    let a = and_parts (not (b == c)) (lacks c text) h in
    rw (not-true (b == c) a.0, cut_last-none c text a.1) refl

-- the last cut of a text is where what stands after lacks the byte
cut_last-append : (c : ℕ) (before after : List ℕ) → lacks c after ≡ true → cut_last c (before ++ c ∷ after) ≡ Some (before, after)
unfolding cut_last
cut_last-append c [] after h = rw (cut_last-none c after h, eq-eqb c c refl) refl
cut_last-append c (b ∷ before) after h = rw (cut_last-append c before after h) refl

-- a text lacks a byte that stands at no place of it
lacks-from : (c : ℕ) (text : List ℕ) → ((i : ℕ) → i < length text → get_or text i 0 ≢ c) → lacks c text ≡ true
lacks-from c [] h = refl
lacks-from c (b ∷ text) h =
    and_from _ _ (not_from_false _ (ne_eqb b c (h 0 (omega arith)))) (lacks-from c text (λ i lt. h (suc i) (omega (arith, lt))))

-- what `rsplit_once` gives at an ASCII character
pub is_cut_last : (c : ℕ) (text : List ℕ) (r : Option (Bor (List ℕ) × Bor (List ℕ)))
    → MatchOption r (RFindsChar c text None) (λ x. SplitsAroundMatch (RFindsChar c) text x.0.now x.1.now) → c < 128
    → option_map (λ cut. (cut.0.now, cut.1.now)) r ≡ cut_last c text
is_cut_last c text None h low = sym (cut_last-none c text (lacks-from c text (λ i. NoCharPasses-char c text i h low)))
is_cut_last c text (Some x) h low =
    let whole : text ≡ x.0.now ++ (c ∷ x.1.now) = sym (take-append-drop h.0 text) ∙ (λ k. sym h.3 k ++ (drop_at_char c text h.0 h.1 h.2.1 low ∙ ap (λ l. c ∷ l) (sym h.4)) k) in
    let after : lacks c x.1.now ≡ true = lacks-from c x.1.now (λ i. NoCharPasses-char c x.1.now i (subst (NoCharPasses (λ d. eqb d c)) (sym h.4) h.2.0) low) in
    sym (ap (cut_last c) whole ∙ cut_last-append c x.0.now x.1.now after)

-- ---- the parts of a path

-- a path has parts
parts-some : (path : List ℕ) → (part : List ℕ) × (more : List (List ℕ)) × (parts path ≡ part ∷ more)
unfolding parts
parts-some [] = ([], [], refl)
parts-some (b ∷ path) = by (b == slash) (parts path) (parts-some path)
  where
    by : (t : Bool) (ps : List (List ℕ)) → (part : List ℕ) × (more : List (List ℕ)) × (ps ≡ part ∷ more) → (part : List ℕ) × (more : List (List ℕ)) × (cond t ([] ∷ ps) (onto b ps) ≡ part ∷ more)
    by true ps h = ([], ps, refl)
    by false ps h = (b ∷ h.0, h.1, ap (onto b) h.2)

abbrev front_cut : ℕ → List ℕ × List ℕ → List ℕ × List ℕ
front_cut b cut = (b ∷ cut.0, cut.1)

abbrev here : Bool → List ℕ → Option (List ℕ × List ℕ)
here t path = cond t (Some ([], path)) None

some_is : {A : Type 0} (x y : A) → Some x ≡ Some y → x ≡ y
some_is x y e = cc

-- a text that has no slash is a part
pub parts-whole : (path : List ℕ) → cut_last slash path ≡ None → parts path ≡ path ∷ []
unfolding cut_last parts
parts-whole [] e = refl
parts-whole (b ∷ path) e = by (cut_last slash path) (parts-whole path) (b == slash) e
  where
    by : (o : Option (List ℕ × List ℕ)) → (o ≡ None → parts path ≡ path ∷ []) → (t : Bool) → option_or (option_map (front_cut b) o) (here t path) ≡ None → cond t ([] ∷ parts path) (onto b (parts path)) ≡ (b ∷ path) ∷ []
    by (Some x) below t got = absurd cc
    by None below true got = absurd cc
    by None below false got = ap (onto b) (below refl)

onto_behind : (b : ℕ) (ps : List (List ℕ)) (last : List ℕ) → (part : List ℕ) × (more : List (List ℕ)) × (ps ≡ part ∷ more) → onto b (ps ++ last ∷ []) ≡ onto b ps ++ last ∷ []
onto_behind b ps last h = ap (λ l. onto b (l ++ last ∷ [])) h.2 ∙ sym (ap (λ l. onto b l ++ last ∷ []) h.2)

-- the parts of a path are those before its last slash, and what stands behind it
pub parts-cut : (path before after : List ℕ) → cut_last slash path ≡ Some (before, after) → parts path ≡ parts before ++ after ∷ []
unfolding cut_last parts
parts-cut [] before after e = absurd cc
parts-cut (b ∷ path) before after e = by (cut_last slash path) refl (parts-cut path) (b == slash) refl e
  where
    by : (o : Option (List ℕ × List ℕ)) → cut_last slash path ≡ o → ((x y : List ℕ) → cut_last slash path ≡ Some (x, y) → parts path ≡ parts x ++ y ∷ []) → (t : Bool) → (b == slash) ≡ t
        → option_or (option_map (front_cut b) o) (here t path) ≡ Some (before, after) → cond t ([] ∷ parts path) (onto b (parts path)) ≡ parts before ++ after ∷ []
    by (Some x) is later t head got =
        let cut : front_cut b x ≡ (before, after) = some_is (front_cut b x) (before, after) got in
        let front : b ∷ x.0 ≡ before = λ k. (cut k).0 in
        let back : x.1 ≡ after = λ k. (cut k).1 in
        let below : parts path ≡ parts x.0 ++ x.1 ∷ [] = later x.0 x.1 is in
        at t head below ∙ (λ k. parts (front k) ++ back k ∷ [])
      where
        at : (s : Bool) → (b == slash) ≡ s → parts path ≡ parts x.0 ++ x.1 ∷ [] → cond s ([] ∷ parts path) (onto b (parts path)) ≡ cond (b == slash) ([] ∷ parts x.0) (onto b (parts x.0)) ++ x.1 ∷ []
        at true h below = rw h (ap (λ l. [] ∷ l) below)
        at false h below = rw h (ap (onto b) below ∙ onto_behind b (parts x.0) x.1 (parts-some x.0))
    by None is later true head got =
        let cut : ([], path) ≡ (before, after) = some_is ([], path) (before, after) got in
        let front : [] ≡ before = λ k. (cut k).0 in
        let back : path ≡ after = λ k. (cut k).1 in
        ap (λ l. [] ∷ l) (parts-whole path is) ∙ (λ k. parts (front k) ++ back k ∷ [])
    by None is later false head got = absurd cc

-- the last of some parts and one more that leads somewhere
last_or : (o : Option (List ℕ)) → option_or o None ≡ o
last_or None = refl
last_or (Some x) = refl

or_assoc : (a b c : Option (List ℕ)) → option_or (option_or a b) c ≡ option_or a (option_or b c)
or_assoc None b c = refl
or_assoc (Some x) b c = refl

pub last_part-behind : (ps : List (List ℕ)) (part : List ℕ) → last_part (ps ++ part ∷ []) ≡ option_or (if_leads part) (last_part ps)
unfolding last_part
last_part-behind [] part = sym (last_or (if_leads part))
last_part-behind (p ∷ ps) part = ap (λ o. option_or o (if_leads p)) (last_part-behind ps part) ∙ or_assoc (if_leads part) (last_part ps) (if_leads p)

-- what stands before a cut is shorter
pub cut_shorter : (mark : ℕ) (text before after : List ℕ) → cut_last mark text ≡ Some (before, after) → length before < length text
unfolding cut_last
cut_shorter mark [] before after e = absurd cc
cut_shorter mark (b ∷ text) before after e = by (cut_last mark text) refl (cut_shorter mark text) (b == mark) e
  where
    by : (o : Option (List ℕ × List ℕ)) → cut_last mark text ≡ o → ((x y : List ℕ) → cut_last mark text ≡ Some (x, y) → length x < length text) → (t : Bool)
        → option_or (option_map (front_cut b) o) (here t text) ≡ Some (before, after) → length before < length (b ∷ text)
    by (Some x) is later t got = let cut : front_cut b x ≡ (before, after) = some_is (front_cut b x) (before, after) got in let front : b ∷ x.0 ≡ before = λ k. (cut k).0 in let less : length x.0 < length text = later x.0 x.1 is in omega (arith, ap length front, less)
    by None is later true got = let cut : ([], text) ≡ (before, after) = some_is ([], text) (before, after) got in let front : [] ≡ before = λ k. (cut k).0 in omega (arith, ap length front)
    by None is later false got = absurd cc

-- the part behind the last slash is the last one, where it leads somewhere, and else the last one stands before it
pub last_here : (path before after : List ℕ) → cut_last slash path ≡ Some (before, after) → leads after ≡ true → last_part (parts path) ≡ Some after
last_here path before after cut there =
    ap last_part (parts-cut path before after cut) ∙ last_part-behind (parts before) after ∙ ap (λ b. option_or (cond b (Some after) None) (last_part (parts before))) there

pub last_before : (path before after : List ℕ) → cut_last slash path ≡ Some (before, after) → leads after ≡ false → last_part (parts path) ≡ last_part (parts before)
last_before path before after cut passed =
    ap last_part (parts-cut path before after cut) ∙ last_part-behind (parts before) after ∙ ap (λ b. option_or (cond b (Some after) None) (last_part (parts before))) passed

pub last_whole : (path : List ℕ) → cut_last slash path ≡ None → last_part (parts path) ≡ if_leads path
unfolding last_part
last_whole path none = ap last_part (parts-whole path none)
