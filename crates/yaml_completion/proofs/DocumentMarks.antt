-- Document marks at a plain scalar, when something else stands behind it.
use Rattle.std.proofs.Common.{◌≡◌, ℕ, List, [], ◌∷◌, ◌++◌, drop, Bool, true, false, ◌&&◌, ◌||◌, eqb, nat_eq, refl, sym, ap, ◌∙◌, subst, append_assoc}
use Rattle.std.specs.List.{starts_with}
use Rattle.yaml_scan.specs.Bytes.{ends_mark}
use Rattle.yaml_scan.specs.Plain.{plain_len}
use Rattle.yaml_small.specs.Places.{at_mark}
use Rattle.yaml_small.specs.MarkLaws.{or_true}
use Rattle.yaml_completion.proofs.Contents.{place}
use Rattle.yaml_completion.proofs.Scans.{Near, Looks, looks_behind, looks_far}
use Rattle.yaml_completion.proofs.Stops.{no_dash, no_dot}

-- a document mark of this byte
abbrev mark_of : ℕ → List ℕ → Bool
mark_of n line = starts_with nat_eq line (n ∷ n ∷ n ∷ []) && ends_mark (drop 3 line)

-- this byte three times, with nothing more
abbrev pub is_thrice : ℕ → List ℕ → Bool
is_thrice n [] = false
is_thrice n (a ∷ []) = false
is_thrice n (a ∷ b ∷ []) = false
is_thrice n (a ∷ b ∷ c ∷ []) = starts_with nat_eq (a ∷ b ∷ c ∷ []) (n ∷ n ∷ n ∷ [])
is_thrice n (a ∷ b ∷ c ∷ d ∷ u) = false

-- what stands behind this text makes it a mark, or not
abbrev pub is_bare_mark : ℕ → List ℕ → Bool
is_bare_mark col text = eqb col 0 && (is_thrice 45 text || is_thrice 46 text)

-- Where it is so, the other rest makes it one where the first does.
abbrev pub Unmarking : ℕ → List ℕ → List ℕ → List ℕ → Type 0
Unmarking col text r t = is_bare_mark col text ≡ true → ends_mark t ≡ ends_mark r

-- the byte does not begin a rest
record Other (n : ℕ) (t : List ℕ) : Type 0 where
  first : (x : ℕ) (xs : List ℕ) → t ≡ x ∷ xs → eqb n x ≡ false

and_off : (a b : Bool) → (a && false) && b ≡ false
and_off true b = refl
and_off false b = refl

and_off_again : (a b c : Bool) → (a && (b && false)) && c ≡ false
and_off_again true true c = refl
and_off_again true false c = refl
and_off_again false b c = refl

one_more : (n a : ℕ) (t : List ℕ) → Other n t → mark_of n (a ∷ t) ≡ false
one_more n a [] o = and_off (eqb n a) _
one_more n a (x ∷ xs) o = rw (o.first x xs refl) (and_off (eqb n a) _)

two_more : (n a b : ℕ) (t : List ℕ) → Other n t → mark_of n (a ∷ b ∷ t) ≡ false
two_more n a b [] o = and_off_again (eqb n a) (eqb n b) _
two_more n a b (x ∷ xs) o = rw (o.first x xs refl) (and_off_again (eqb n a) (eqb n b) _)

same_mark_of : (n : ℕ) (front : List ℕ) (byte : ℕ) (r t : List ℕ) → Other n r → Other n t → ends_mark (byte ∷ t) ≡ ends_mark (byte ∷ r) → (is_thrice n (front ++ (byte ∷ [])) ≡ true → ends_mark t ≡ ends_mark r)
    → mark_of n (front ++ (byte ∷ t)) ≡ mark_of n (front ++ (byte ∷ r))
same_mark_of n [] byte r t p q mark same = one_more n byte t q ∙ sym (one_more n byte r p)
same_mark_of n (a ∷ []) byte r t p q mark same = two_more n a byte t q ∙ sym (two_more n a byte r p)
same_mark_of n (a ∷ b ∷ []) byte r t p q mark same = from (starts_with nat_eq (a ∷ b ∷ byte ∷ []) (n ∷ n ∷ n ∷ [])) same
  where
    from : (s : Bool) → (s ≡ true → ends_mark t ≡ ends_mark r) → s && ends_mark t ≡ s && ends_mark r
    from true e = e refl
    from false e = refl
same_mark_of n (a ∷ b ∷ c ∷ []) byte r t p q mark same = ap (λ (e : Bool). starts_with nat_eq (a ∷ b ∷ c ∷ []) (n ∷ n ∷ n ∷ []) && e) mark
same_mark_of n (a ∷ b ∷ c ∷ d ∷ []) byte r t p q mark same = refl
same_mark_of n (a ∷ b ∷ c ∷ d ∷ e ∷ u) byte r t p q mark same = refl

-- the same at a column
same_mark_at : (top : Bool) (n : ℕ) (front : List ℕ) (byte : ℕ) (r t : List ℕ) → Other n r → Other n t → ends_mark (byte ∷ t) ≡ ends_mark (byte ∷ r) → (top && is_thrice n (front ++ (byte ∷ [])) ≡ true → ends_mark t ≡ ends_mark r)
    → top && mark_of n (front ++ (byte ∷ t)) ≡ top && mark_of n (front ++ (byte ∷ r))
same_mark_at true n front byte r t p q mark same = same_mark_of n front byte r t p q mark same
same_mark_at false n front byte r t p q mark same = refl

no_dashes : (flow : Bool) (t : List ℕ) → plain_len flow false t ≡ 0 → Other 45 t
no_dashes flow t none = record { first = λ x xs is. no_dash flow x xs (sym (ap (plain_len flow false) is) ∙ none) }

no_dots : (flow : Bool) (t : List ℕ) → plain_len flow false t ≡ 0 → Other 46 t
no_dots flow t none = record { first = λ x xs is. no_dot flow x xs (sym (ap (plain_len flow false) is) ∙ none) }

either_mark : (top a b : Bool) → (top && a ≡ true → top && (a || b) ≡ true) × (top && b ≡ true → top && (a || b) ≡ true)
either_mark true a b = (λ e. rw e refl, λ e. rw e (or_true a))
either_mark false a b = (λ e. e, λ e. e)

-- a text's last byte
pub record LastByte (text : List ℕ) : Type 0 where
  pub front : List ℕ
  pub byte : ℕ
  pub is : text ≡ front ++ (byte ∷ [])

pub last_byte : (c : ℕ) (cs : List ℕ) → LastByte (c ∷ cs)
last_byte c [] = record { front = []; byte = c; is = refl }
last_byte c (d ∷ ds) = let l = last_byte d ds in record { front = c ∷ l.front; byte = l.byte; is = ap (λ (x : List ℕ). c ∷ x) l.is }

pub whole_text : (text : List ℕ) (l : LastByte text) (x : List ℕ) → text ++ x ≡ l.front ++ (l.byte ∷ x)
whole_text text l x = ap (λ (u : List ℕ). u ++ x) l.is ∙ append_assoc l.front (l.byte ∷ []) x

-- behind a text where plain scalars end, which looks the same to it with another rest
pub record Behind (flow : Bool) (text r t : List ℕ) : Type 0 where
  pub last : LastByte text
  pub looks : Looks flow (text ++ r) (text ++ t)
  pub mark : ends_mark (last.byte ∷ t) ≡ ends_mark (last.byte ∷ r)
  pub none : plain_len flow false t ≡ 0

pub behind_near : (flow : Bool) (text r t : List ℕ) → LastByte text → Near flow r t → plain_len flow false r ≡ 0 → Behind flow text r t
behind_near flow text r t l near none =
    let first = looks_behind flow l.byte r t (near l.byte) in
    record {
      last = l;
      looks =
          subst (λ (x : List ℕ). Looks flow x (text ++ t)) (sym (whole_text text l r))
          (subst (λ (x : List ℕ). Looks flow (l.front ++ (l.byte ∷ r)) x) (sym (whole_text text l t)) (looks_far flow l.front (l.byte ∷ r) (l.byte ∷ t) first));
      mark = first.mark;
      none = (near l.byte).plain false ∙ none;
    }

-- Where no mark stood none does.
pub same_at_mark : (flow : Bool) (col : ℕ) (text r t : List ℕ) (ls ms : List (List ℕ)) → plain_len flow false r ≡ 0 → Behind flow text r t → Unmarking col text r t
    → at_mark (place col (text ++ t) ms) ≡ at_mark (place col (text ++ r) ls)
same_at_mark flow col text r t ls ms none b kept =
    let l = b.last in
    let either = either_mark (eqb col 0) (is_thrice 45 (l.front ++ (l.byte ∷ []))) (is_thrice 46 (l.front ++ (l.byte ∷ []))) in
    let same : is_bare_mark col (l.front ++ (l.byte ∷ [])) ≡ true → ends_mark t ≡ ends_mark r = λ e. kept (ap (is_bare_mark col) l.is ∙ e) in
    let dashes = same_mark_at (eqb col 0) 45 l.front l.byte r t (no_dashes flow r none) (no_dashes flow t b.none) b.mark (λ e. same (either.0 e)) in
    let dots = same_mark_at (eqb col 0) 46 l.front l.byte r t (no_dots flow r none) (no_dots flow t b.none) b.mark (λ e. same (either.1 e)) in
    ap (λ (x : List ℕ). at_mark (place col x ms)) (whole_text text l t)
    ∙ ap (λ (x : Bool). x || (eqb col 0 && mark_of 46 (l.front ++ (l.byte ∷ t)))) dashes
    ∙ ap (λ (x : Bool). (eqb col 0 && mark_of 45 (l.front ++ (l.byte ∷ r))) || x) dots
    ∙ sym (ap (λ (x : List ℕ). at_mark (place col x ls)) (whole_text text l r))
