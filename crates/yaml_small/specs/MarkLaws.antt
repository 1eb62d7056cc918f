-- What tests of lines and places say of one another.
use Rattle.std.proofs.Common.{◌≡◌, ℕ, List, [], ◌∷◌, drop, Bool, true, false, not, cond, ◌&&◌, ◌||◌, eqb, Result, Ok, Err, refl, sym, ap, ◌∙◌, subst, inl, inr}
use Rattle.std.proofs.lemmas.Bool.{cases_Bool, eqb-true}
use Rattle.yaml_scan.specs.Bytes.{is_gap, is_white, whites}
use Rattle.yaml_scan.specs.Lines.{is_over, is_passed, ends}
use Rattle.yaml_scan.specs.Plain.{begins_plain}
use Rattle.yaml_small.specs.Places.{At, begins, at_mark, is_dash, is_colon}
use Rattle.yaml_small.specs.Scalars.{Fault, ScalarToken, start_fault, plain_at, scalar_token_at, key_at, is_key, begins_block}

pub and_parts : (a b : Bool) → a && b ≡ true → (a ≡ true) × (b ≡ true)
and_parts true b e = (refl, e)
and_parts false b e = absurd cc

pub and_false : (a : Bool) → a && false ≡ false
and_false true = refl
and_false false = refl

pub or_true : (a : Bool) → a || true ≡ true
or_true true = refl
or_true false = refl

pub or_parts : (a b : Bool) → a || b ≡ false → (a ≡ false) × (b ≡ false)
or_parts true b e = absurd cc
or_parts false b e = (refl, e)

pub not_so : (b : Bool) → (b ≡ true → ⊥) → b ≡ false
not_so true h = absurd (h refl)
not_so false h = refl

pub both : (b : Bool) → b ≡ true → b ≡ false → ⊥
both b yes_it no_it = let e : true ≡ false = sym yes_it ∙ no_it in absurd cc

-- no bracket, no block scalar's head and no dash
pub record NoOpener (line : List ℕ) : Type 0 where
  pub seq : begins 91 line ≡ false
  pub map : begins 123 line ≡ false
  pub block : begins_block line ≡ false
  pub dash : is_dash line ≡ false

no_plain : (flow : Bool) (c n : ℕ) (cs : List ℕ) → begins_plain flow (n ∷ cs) ≡ false → begins_plain flow (c ∷ cs) ≡ true → eqb c n ≡ false
no_plain flow c n cs never e =
    not_so (eqb c n) (λ is. both (begins_plain flow (c ∷ cs)) e (ap (λ (x : ℕ). begins_plain flow (x ∷ cs)) (eqb-true c n is) ∙ never))

no_dash : (flow : Bool) (cs : List ℕ) → is_gap cs ≡ true → begins_plain flow (45 ∷ cs) ≡ false
no_dash flow cs gap = rw gap (and_false _)

plain_opener : (flow : Bool) (c : ℕ) (cs : List ℕ) → begins_plain flow (c ∷ cs) ≡ true → NoOpener (c ∷ cs)
plain_opener flow c cs e = record {
  seq = no_plain flow c 91 cs refl e;
  map = no_plain flow c 123 cs refl e;
  block = rw (no_plain flow c 124 cs refl e, no_plain flow c 62 cs refl e) refl;
  dash = not_so (eqb c 45 && is_gap cs) (λ is.
      let p = and_parts (eqb c 45) (is_gap cs) is in
      both (begins_plain flow (c ∷ cs)) e (ap (λ (x : ℕ). begins_plain flow (x ∷ cs)) (eqb-true c 45 p.0) ∙ no_dash flow cs p.1));
}

quote_opener : (c n : ℕ) (cs : List ℕ) → NoOpener (n ∷ cs) → eqb c n ≡ true → NoOpener (c ∷ cs)
quote_opener c n cs here is = subst (λ (x : ℕ). NoOpener (x ∷ cs)) (sym (eqb-true c n is)) here

plain_begins : (flow : Bool) (a : At) (w : ScalarToken) → plain_at flow a ≡ Ok w → begins_plain flow a.line ≡ true
unfolding plain_at
plain_begins flow a w e = from (at_mark a) (begins_plain flow a.line) _ e
  where
    from : (m b : Bool) (x : ScalarToken) → cond (not m && b) (Ok x) (Err (start_fault a)) ≡ Ok w → b ≡ true
    from true b x e = absurd cc
    from false true x e = refl
    from false false x e = absurd cc

-- what begins a plain or quoted scalar opens nothing else
pub scalar_token_opener : (flow : Bool) (col : ℕ) (line : List ℕ) (later : List (List ℕ)) (w : ScalarToken) → scalar_token_at flow (record { col = col; line = line; later = later }) ≡ Ok w → NoOpener line
unfolding scalar_token_at
scalar_token_opener flow col [] later w e = record { seq = refl; map = refl; block = refl; dash = refl }
scalar_token_opener flow col (c ∷ cs) later w e =
    let a : At = record { col = col; line = c ∷ cs; later = later } in
    elim (cases_Bool (eqb c 39)) [
      | inl is ↦ quote_opener c 39 cs (record { seq = refl; map = refl; block = refl; dash = refl }) is
      | inr no_single ↦ elim (cases_Bool (eqb c 34)) [
        | inl is ↦ quote_opener c 34 cs (record { seq = refl; map = refl; block = refl; dash = refl }) is
        | inr no_double ↦ plain_opener flow c cs (plain_begins flow a w (plain_left flow a (eqb c 39) (eqb c 34) _ _ w no_single no_double e))
      ]
    ]
  where
    plain_left : (flow : Bool) (a : At) (s d : Bool) (x y : Result ScalarToken Fault) (w : ScalarToken) → s ≡ false → d ≡ false → cond s x (cond d y (plain_at flow a)) ≡ Ok w → plain_at flow a ≡ Ok w
    plain_left flow a s d x y w no_single no_double e = sym (rw (no_single, no_double) refl) ∙ e

-- where one of these begins a line no plain or quoted scalar does
pub record IsOpener (c : ℕ) : Type 0 where
  pub single : eqb c 39 ≡ false
  pub double : eqb c 34 ≡ false
  pub plain : (flow : Bool) (cs : List ℕ) → begins_plain flow (c ∷ cs) ≡ false
  pub dash : eqb c 45 ≡ false

plain_refused : (flow : Bool) (a : At) → begins_plain flow a.line ≡ false → plain_at flow a ≡ Err (start_fault a)
unfolding plain_at
plain_refused flow a e = refused (at_mark a) (begins_plain flow a.line) _ e
  where
    refused : (m b : Bool) (x : ScalarToken) → b ≡ false → cond (not m && b) (Ok x) (Err (start_fault a)) ≡ Err (start_fault a)
    refused true b x e = refl
    refused false b x e = rw e refl

no_scalar_token : (flow : Bool) (c : ℕ) (line : List ℕ) (col : ℕ) (later : List (List ℕ)) → IsOpener c → begins c line ≡ true → scalar_token_at flow (record { col = col; line = line; later = later }) ≡ Err (start_fault (record { col = col; line = line; later = later }))
unfolding scalar_token_at
no_scalar_token flow c [] col later o is = absurd cc
no_scalar_token flow c (d ∷ ds) col later o is =
    let same = eqb-true d c is in
    let single : eqb d 39 ≡ false = ap (λ (x : ℕ). eqb x 39) same ∙ o.single in
    let double : eqb d 34 ≡ false = ap (λ (x : ℕ). eqb x 34) same ∙ o.double in
    let plain : begins_plain flow (d ∷ ds) ≡ false = ap (λ (x : ℕ). begins_plain flow (x ∷ ds)) same ∙ o.plain flow ds in
    rw (single, double) (plain_refused flow (record { col = col; line = d ∷ ds; later = later }) plain)

-- where one of these begins a line no key and no dash does
pub no_key : (c : ℕ) (a : At) → IsOpener c → begins c a.line ≡ true → is_key a ≡ false
unfolding key_at
no_key c a o is = rw (no_scalar_token false c a.line a.col a.later o is) refl

pub opener_no_dash : (c : ℕ) (line : List ℕ) → IsOpener c → begins c line ≡ true → is_dash line ≡ false
opener_no_dash c [] o is = refl
opener_no_dash c (d ∷ ds) o is = rw (eqb-true d c is, o.dash) refl

pub seq_opens : IsOpener 91
seq_opens = record { single = refl; double = refl; plain = λ flow cs. refl; dash = refl }

pub map_opens : IsOpener 123
map_opens = record { single = refl; double = refl; plain = λ flow cs. refl; dash = refl }

pub literal_opens : IsOpener 124
literal_opens = record { single = refl; double = refl; plain = λ flow cs. refl; dash = refl }

pub folded_opens : IsOpener 62
folded_opens = record { single = refl; double = refl; plain = λ flow cs. refl; dash = refl }

-- a block scalar's head is no other opener
pub record IsHead (a : At) : Type 0 where
  pub seq : begins 91 a.line ≡ false
  pub map : begins 123 a.line ≡ false
  pub dash : is_dash a.line ≡ false
  pub key : is_key a ≡ false

head_of : (c : ℕ) (a : At) → IsOpener c → eqb c 91 ≡ false → eqb c 123 ≡ false → begins c a.line ≡ true → IsHead a
head_of c a o no_seq no_map is = record {
  seq = other c 91 a.line no_seq is;
  map = other c 123 a.line no_map is;
  dash = opener_no_dash c a.line o is;
  key = no_key c a o is;
}
  where
    other : (c n : ℕ) (line : List ℕ) → eqb c n ≡ false → begins c line ≡ true → begins n line ≡ false
    other c n [] no_n is = refl
    other c n (d ∷ ds) no_n is = rw (eqb-true d c is) no_n

pub is_head : (a : At) → begins_block a.line ≡ true → IsHead a
is_head a e =
    elim (cases_Bool (begins 124 a.line)) [
      | inl is ↦ head_of 124 a literal_opens refl refl is
      | inr no_bar ↦ head_of 62 a folded_opens refl refl (sym (rw no_bar refl) ∙ e)
    ]

-- where a line ends no colon stands behind white space
over_colon : (rest : List ℕ) → is_over rest ≡ true → is_colon rest ≡ false
over_colon [] e = refl
over_colon (c ∷ cs) e =
    let p = and_parts (eqb c 35) _ e in
    rw (eqb-true c 35 p.0) refl

pub ends_colon : (line : List ℕ) → ends line ≡ true → is_colon (drop (whites line) line) ≡ false
ends_colon [] e = refl
ends_colon (c ∷ cs) e = over_colon (drop (whites (c ∷ cs)) (c ∷ cs)) (and_parts (is_white c) (is_passed (c ∷ cs)) e).1

-- a scalar behind which the line ends is no key
pub ended_no_key : (a : At) (w : ScalarToken) → scalar_token_at false a ≡ Ok w → ends w.end.line ≡ true → is_key a ≡ false
unfolding key_at
ended_no_key a w e last = rw (e, ends_colon w.end.line last) refl
