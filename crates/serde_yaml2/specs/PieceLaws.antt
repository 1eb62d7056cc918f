-- Pieces of text, one behind the other.
use Rattle.std.proofs.Common.{◌≡◌, ℕ, ◌+◌, ◌≤◌, List, [], ◌∷◌, ◌++◌, length, take, drop, Result, Ok, Err, refl, sym, ap, ◌∙◌, subst, append_assoc}
use Rattle.std.specs.Io.{StartsWith}
use Rattle.std.proofs.Math.Seq.{take-append_seam}
use Rattle.std.proofs.lemmas.List.{append-nil, take-append-drop}
use Rattle.yaml_small.specs.Trees.{depth}
use Rattle.yaml_text.specs.Output.{HoldsFront}
use Rattle.yaml_text.specs.Written.{Written, new_line, tree_of, variant, written}
use Rattle.serde_yaml2.specs.declared.error.Errors.{Errors}
use Rattle.serde_yaml2.specs.Output.{Output, appended, IsCut, Explains, Puts, Pushes, Writes}

-- both pieces
pub appended_twice : (b m a : Output) (t u : List ℕ) → m ≡ appended b t → a ≡ appended m u → a ≡ appended b (t ++ u)
appended_twice b m a t u one two = two ∙ ap (λ (o : Output). appended o u) one ∙ ap (λ (x : List ℕ). record { text = x; level = b.level }) (append_assoc b.text t u)

-- what begins with a text is that text and more
more_of : (xs p : List ℕ) → StartsWith xs p → (rest : List ℕ) × (xs ≡ p ++ rest)
more_of xs p h = (drop (length p) xs, sym (take-append-drop (length p) xs) ∙ ap (λ (v : List ℕ). v ++ drop (length p) xs) h)

begins_with : (xs p rest : List ℕ) → xs ≡ p ++ rest → StartsWith xs p
begins_with xs p rest is = subst (λ (x : List ℕ). take (length p) x ≡ p) (sym is) (take-append_seam p rest)

-- nothing of a piece, and a front of it
pub cut_none : (b : Output) (t : List ℕ) → IsCut b t b
cut_none b t = (begins_with b.text b.text [] (sym (append-nil b.text)), take-append_seam b.text t, refl)

pub cut_held : (b a : Output) (t : List ℕ) → HoldsFront b.text t a.text → a.level ≡ b.level → IsCut b t a
cut_held b a t held level = (
  begins_with a.text b.text held.front held.grown,
  begins_with (b.text ++ t) a.text held.rest
      (ap (λ (x : List ℕ). b.text ++ x) (sym held.is_front) ∙ sym (append_assoc b.text held.front held.rest) ∙ ap (λ (x : List ℕ). x ++ held.rest) (sym held.grown)),
  level,
)

-- a front of the first piece, and one of the second
pub cut_first : (b a : Output) (t u : List ℕ) → IsCut b t a → IsCut b (t ++ u) a
cut_first b a t u cut =
    let whole = more_of (b.text ++ t) a.text cut.1 in
    (cut.0, begins_with (b.text ++ (t ++ u)) a.text (whole.0 ++ u) (sym (append_assoc b.text t u) ∙ ap (λ (x : List ℕ). x ++ u) whole.1 ∙ append_assoc a.text whole.0 u), cut.2)

pub cut_second : (b m a : Output) (t u : List ℕ) → m ≡ appended b t → IsCut m u a → IsCut b (t ++ u) a
cut_second b m a t u one cut =
    let held = more_of a.text m.text cut.0 in
    let whole = more_of (m.text ++ u) a.text cut.1 in
    let is = ap (λ (o : Output). o.text) one in (
      begins_with a.text b.text (t ++ held.0) (held.1 ∙ ap (λ (x : List ℕ). x ++ held.0) is ∙ append_assoc b.text t held.0),
      begins_with (b.text ++ (t ++ u)) a.text whole.0 (sym (append_assoc b.text t u) ∙ ap (λ (x : List ℕ). x ++ u) (sym is) ∙ whole.1),
      cut.2 ∙ ap (λ (o : Output). o.level) one,
    )

-- two pieces pushed
pub pushes_first : (e : Errors) (b a : Output) (t u : List ℕ) → Pushes (Err e) b t a → Pushes (Err e) b (t ++ u) a
pushes_first e b a t u h = (cut_first b a t u h.0, h.1)

pub pushes_second : (r : Result (Unit {0}) Errors) (b m a : Output) (t u : List ℕ) → m ≡ appended b t → Pushes r m u a → Pushes r b (t ++ u) a
pushes_second (Ok _) b m a t u one two = appended_twice b m a t u one two
pushes_second (Err e) b m a t u one h = (cut_second b m a t u one h.0, h.1)

-- a piece pushed, and a piece with levels behind it
pub puts_front : (e : Errors) (b a : Output) (t u : List ℕ) (levels : ℕ) → Pushes (Err e) b t a → Puts (Err e) b (t ++ u) levels a
puts_front e b a t u levels h = (cut_first b a t u h.0, subst (λ (x : Errors). Explains x (b.level + levels)) (sym h.1) tt)

pub puts_second : (r : Result (Unit {0}) Errors) (b m a : Output) (t u : List ℕ) (levels : ℕ) → m ≡ appended b t → Puts r m u levels a → Puts r b (t ++ u) levels a
puts_second (Ok _) b m a t u levels one h = (appended_twice b m a t u one h.0, subst (λ (o : Output). o.level + levels ≤ 64) one h.1)
puts_second (Err e) b m a t u levels one h = (cut_second b m a t u one h.0, subst (λ (o : Output). Explains e (o.level + levels)) one h.1)

-- a piece with levels, and a piece pushed behind it
pub puts_first : (e : Errors) (b a : Output) (t u : List ℕ) (levels : ℕ) → Puts (Err e) b t levels a → Puts (Err e) b (t ++ u) levels a
puts_first e b a t u levels h = (cut_first b a t u h.0, h.1)

pub puts_last : (r : Result (Unit {0}) Errors) (b m a : Output) (t u : List ℕ) (levels : ℕ) → m ≡ appended b t → b.level + levels ≤ 64 → Pushes r m u a → Puts r b (t ++ u) levels a
puts_last (Ok _) b m a t u levels one fits two = (appended_twice b m a t u one two, fits)
puts_last (Err e) b m a t u levels one fits h = (cut_second b m a t u one h.0, subst (λ (x : Errors). Explains x (b.level + levels)) (sym h.1) tt)

-- a variant whose colon was refused
pub variant_puts : (e : Errors) (b m a : Output) (name : List ℕ) (w : Written) → m ≡ appended b name → Pushes (Err e) m (58 ∷ []) a → Writes (Err e) b (variant name w) a
variant_puts e b m a name w one h =
    subst (λ (x : List ℕ). Puts (Err e) b x (depth (tree_of (variant name w))) a) (sym (append_assoc name (58 ∷ new_line (b.level + 1)) (written (b.level + 1) w))) (
      cut_second b m a name ((58 ∷ new_line (b.level + 1)) ++ written (b.level + 1) w) one (cut_first m a (58 ∷ []) (new_line (b.level + 1) ++ written (b.level + 1) w) h.0),
      subst (λ (x : Errors). Explains x (b.level + depth (tree_of (variant name w)))) (sym h.1) tt,
    )
