-- What is published of a log among more records.
use Rattle.std.proofs.Common.{◌≡◌, ◌≢◌, ◌+◌, ◌-◌, ◌∷◌, ◌++◌, [], List, ℕ, zero, suc, Bool, true, false, Option, refl, sym, ◌∙◌, ap, length, take, arith}
use Rattle.std.specs.Prelude.{◌&&◌, bytes_eq, cond}
use Rattle.warg_record.specs.Envelope.{Signed}
use Rattle.warg_exchange.specs.declared.logs.PublishedRecord.{PublishedRecord}
use Rattle.warg_info.specs.Kept.{is_above}
use Rattle.warg_model.specs.Pages.{published_at, published_behind}

append-by-test : (b : Bool) (p : PublishedRecord) (xs ys zs : List PublishedRecord) → xs ≡ ys ++ zs → cond b (p ∷ xs) xs ≡ cond b (p ∷ ys) ys ++ zs
append-by-test true p xs ys zs h = ap (λ (l : List PublishedRecord). p ∷ l) h
append-by-test false p xs ys zs h = h

pub behind-append : (id : List ℕ) (after : Option ℕ) (place : ℕ) (xs ys : List (List ℕ × Signed)) → published_behind id after place (xs ++ ys) ≡ published_behind id after place xs ++ published_behind id after (place + length xs) ys
unfolding published_behind
behind-append id after place [] ys = ap (λ (n : ℕ). published_behind id after n ys) (omega arith)
behind-append id after place (x ∷ xs) ys =
    append-by-test (bytes_eq x.0 id && is_above place after) (published_at place x.1) (published_behind id after (place + 1) (xs ++ ys)) (published_behind id after (place + 1) xs) (published_behind id after (place + length (x ∷ xs)) ys)
    (behind-append id after (place + 1) xs ys ∙ ap (λ (n : ℕ). published_behind id after (place + 1) xs ++ published_behind id after n ys) (omega arith))

one-by-test : (b c : Bool) (p : PublishedRecord) → b ≡ c → cond b (p ∷ []) [] ≡ cond c (p ∷ []) []
one-by-test b c p is = ap (λ (t : Bool). cond t (p ∷ []) []) is

-- one record, which is asked for or not
pub behind-one : (b : Bool) (id : List ℕ) (after : Option ℕ) (place : ℕ) (e : List ℕ × Signed) → b ≡ (bytes_eq e.0 id && is_above place after) → published_behind id after place (e ∷ []) ≡ cond b (published_at place e.1 ∷ []) []
unfolding published_behind
behind-one b id after place e is = one-by-test (bytes_eq e.0 id && is_above place after) b (published_at place e.1) (sym is)

pub none-behind : (id : List ℕ) (after : Option ℕ) (place : ℕ) → published_behind id after place [] ≡ []
unfolding published_behind
none-behind id after place = refl

-- the first entries, of which there is one
pub first-taken : {A : Type 0} (n : ℕ) (x : A) (xs : List A) → n ≢ 0 → x ∷ take (n - 1) xs ≡ take n (x ∷ xs)
first-taken zero x xs some = absurd (some refl)
first-taken (suc n) x xs some = ap (λ (m : ℕ). x ∷ take m xs) (omega arith)

-- one more, at a step of a loop
pub behind-more : (id : List ℕ) (after : Option ℕ) (out next : List PublishedRecord) (front longer : List (List ℕ × Signed)) (e : List ℕ × Signed) (place : ℕ) → out ≡ published_behind id after 0 front → next ≡ out ++ published_behind id after place (e ∷ []) → place ≡ length front
    → longer ≡ front ++ e ∷ [] → next ≡ published_behind id after 0 longer
behind-more id after out next front longer e place before pushed at more =
    pushed ∙ ap (λ (l : List PublishedRecord). l ++ published_behind id after place (e ∷ [])) before ∙ ap (λ (n : ℕ). published_behind id after 0 front ++ published_behind id after n (e ∷ [])) at
    ∙ sym (ap (published_behind id after 0) more ∙ behind-append id after 0 front (e ∷ []) ∙ ap (λ (n : ℕ). published_behind id after 0 front ++ published_behind id after n (e ∷ [])) (omega arith))
