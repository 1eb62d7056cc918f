-- Lists, item by item.
use Rattle.std.proofs.Common.{◌≡◌, ℕ, suc, ◌+◌, ◌<◌, ◌≤◌, max, List, [], ◌∷◌, ◌++◌, length, map, take, drop, get_or, Bool, false, cond, Err, refl, sym, ap, ◌∙◌, subst, append_assoc, arith}
use Rattle.std.proofs.lemmas.Bool.{ne_eqb}
use Rattle.std.proofs.Math.Seq.{drop-cons}
use Rattle.std.proofs.lemmas.List.{append-nil, take-append-drop, take_more, take_all, map_push, map-append, length-map}
use Rattle.yaml_small.specs.Trees.{depth, depths}
use Rattle.yaml_text.specs.Written as spec
use Rattle.yaml_text.specs.Written.{Written, elements_of, elements_text, has_no_elements, list, tree_of, trees_of, written}
use Rattle.serde_yaml2.specs.declared.error.Errors.{Errors}
use Rattle.serde_yaml2.specs.declared.error.Errors.TheVariants as errors
use Rattle.serde_yaml2.specs.Output.{Output, appended, IsCut, Explains, Puts, Writes, item_text, head, list_head}
use Rattle.serde_yaml2.specs.PieceLaws.{appended_twice, cut_first, cut_second}

-- why a shallower value was not written emits why a deeper one was not
pub explains_more : (e : Errors) (m n : ℕ) → m ≤ n → Explains e m → Explains e n
explains_more errors.FormArgsError m n le h = let lt : 64 < m = h in omega arith
explains_more (errors.UnsupportedSerializationError what) m n le h = h
explains_more errors.Memory m n le h = tt

pub head_none : (len : ℕ) (empty : List ℕ) → 0 < len → head len empty ≡ []
head_none len empty lt = ap (λ (b : Bool). cond b empty []) (ne_eqb len 0 (λ e. let none : 0 < 0 = subst (λ (n : ℕ). 0 < n) e lt in omega arith))

-- items behind others
pub elements_behind : (level : ℕ) (ws vs : List Written) → elements_text level (elements_of (ws ++ vs)) ≡ elements_text level (elements_of ws) ++ elements_text level (elements_of vs)
elements_behind level [] vs = refl
elements_behind level (w ∷ ws) vs =
    ap (λ (x : List ℕ). item_text level w ++ x) (elements_behind level ws vs)
    ∙ sym (append_assoc (item_text level w) (elements_text level (elements_of ws)) (elements_text level (elements_of vs)))

elements_last : (level : ℕ) (ws : List Written) (w : Written) → elements_text level (elements_of (ws ++ (w ∷ []))) ≡ elements_text level (elements_of ws) ++ item_text level w
elements_last level ws w = elements_behind level ws (w ∷ []) ∙ ap (λ (x : List ℕ). elements_text level (elements_of ws) ++ x) (append-nil (item_text level w))

-- a list that has items
some_elements : (ws : List Written) (w : Written) (vs : List Written) → has_no_elements (elements_of (ws ++ (w ∷ vs))) ≡ false
some_elements [] w vs = refl
some_elements (x ∷ ws) w vs = refl

pub list_is : (level : ℕ) (ws : List Written) (w : Written) (vs : List Written)
    → written level (list (elements_of (ws ++ (w ∷ vs)))) ≡ elements_text level (elements_of ws) ++ (item_text level w ++ elements_text level (elements_of vs))
list_is level ws w vs =
    ap (λ (b : Bool). cond b (91 ∷ 93 ∷ []) (elements_text level (elements_of (ws ++ (w ∷ vs))))) (some_elements ws w vs) ∙ elements_behind level ws (w ∷ vs)

-- how deep items are
pub depths_behind : (ws vs : List Written) → depths (trees_of (elements_of (ws ++ vs))) ≡ max (depths (trees_of (elements_of ws))) (depths (trees_of (elements_of vs)))
depths_behind [] vs = omega arith
depths_behind (w ∷ ws) vs = let others = depths_behind ws vs in omega arith

depth_within : (ws : List Written) (w : Written) (vs : List Written) → depth (tree_of w) ≤ depths (trees_of (elements_of (ws ++ (w ∷ vs))))
depth_within ws w vs = let whole = depths_behind ws (w ∷ vs) in omega arith

-- one item more
pub item_done : (b m n : Output) (ws : List Written) (w : Written) → m ≡ appended b (elements_text b.level (elements_of ws)) → n ≡ appended m (item_text m.level w)
    → n ≡ appended b (elements_text b.level (elements_of (ws ++ (w ∷ []))))
item_done b m n ws w done put =
    appended_twice b m n (elements_text b.level (elements_of ws)) (item_text b.level w) done (subst (λ (l : ℕ). n ≡ appended m (item_text l w)) (ap (λ (o : Output). o.level) done) put)
    ∙ ap (λ (x : List ℕ). appended b x) (sym (elements_last b.level ws w))

-- an item that was refused
pub item_refused : (e : Errors) (b m a : Output) (ws : List Written) (w : Written) (vs : List Written) → m ≡ appended b (elements_text b.level (elements_of ws))
    → Puts (Err e) m (item_text m.level w) (depth (tree_of w) + 1) a → Writes (Err e) b (list (elements_of (ws ++ (w ∷ vs)))) a
item_refused e b m a ws w vs done h =
    let same = ap (λ (o : Output). o.level) done in
    let deep = depth_within ws w vs in (
      subst (λ (x : List ℕ). IsCut b x a) (sym (list_is b.level ws w vs))
          (cut_second b m a (elements_text b.level (elements_of ws)) (item_text b.level w ++ elements_text b.level (elements_of vs)) done
          (cut_first m a (item_text b.level w) (elements_text b.level (elements_of vs)) (subst (λ (l : ℕ). IsCut m (item_text l w) a) same h.0))),
      explains_more e (m.level + (depth (tree_of w) + 1)) (b.level + suc (depths (trees_of (elements_of (ws ++ (w ∷ vs)))))) (omega arith) h.1,
    )

-- a list that was not begun
pub list_refused : (e : Errors) (b a : Output) (ws : List Written) → IsCut b (list_head (length ws)) a → Explains e (b.level + 1) → Writes (Err e) b (list (elements_of ws)) a
list_refused e b a [] cut why = (cut, why)
list_refused e b a (w ∷ ws) cut why = (
  subst (λ (x : List ℕ). IsCut b (x ++ elements_text b.level (elements_of (w ∷ ws))) a) (head_none (length (w ∷ ws)) (91 ∷ 93 ∷ []) (omega arith))
      (cut_first b a (list_head (length (w ∷ ws))) (elements_text b.level (elements_of (w ∷ ws))) cut),
  explains_more e (b.level + 1) (b.level + suc (depths (trees_of (elements_of (w ∷ ws))))) (omega arith) why,
)

-- a whole list
pub list_whole : (level : ℕ) (ws : List Written) → list_head (length ws) ++ elements_text level (elements_of ws) ≡ written level (list (elements_of ws))
list_whole level [] = refl
list_whole level (w ∷ ws) = ap (λ (x : List ℕ). x ++ elements_text level (elements_of (w ∷ ws))) (head_none (length (w ∷ ws)) (91 ∷ 93 ∷ []) (omega arith))

-- a list's items up to an index, and one of them
up_to_more : {X : Type 0} (written : X → Written) (xs : List X) (i : ℕ) (x : X) → i < length xs → get_or xs i x ≡ x → map written (take (i + 1) xs) ≡ map written (take i xs) ++ (written x ∷ [])
up_to_more written xs i x lt here = ap (map written) (take_more xs i x lt) ∙ map_push written (take i xs) (get_or xs i x) ∙ ap (λ y. map written (take i xs) ++ (written y ∷ [])) here

split_at : {X : Type 0} (written : X → Written) (xs : List X) (i : ℕ) (x : X) → i < length xs → get_or xs i x ≡ x → map written (take i xs) ++ (written x ∷ map written (drop (suc i) xs)) ≡ map written xs
split_at {X} written xs i x lt here =
    sym (map-append written (take i xs) (x ∷ drop (suc i) xs))
    ∙ ap (λ (y : X). map written (take i xs ++ (y ∷ drop (suc i) xs))) (sym here)
    ∙ ap (λ (ys : List X). map written (take i xs ++ ys)) (sym (drop-cons xs i x lt))
    ∙ ap (map written) (take-append-drop i xs)

headed : (b m : Output) (len : ℕ) (x : List ℕ) → 0 < len → m ≡ appended b (list_head len ++ x) → m ≡ appended b x
headed b m len x lt h = h ∙ ap (λ (y : List ℕ). appended b (y ++ x)) (head_none len (91 ∷ 93 ∷ []) lt)

-- what was written for a list's items up to an index
abbrev pub so_far : {X : Type 0} → (X → Written) → List X → ℕ → ℕ → List ℕ
so_far written xs i level = list_head (length xs) ++ elements_text level (elements_of (map written (take i xs)))

abbrev pub deep_so_far : {X : Type 0} → (X → Written) → List X → ℕ → ℕ
deep_so_far written xs i = suc (depths (trees_of (elements_of (map written (take i xs)))))

pub each_done : {X : Type 0} (written : X → Written) (b m n : Output) (xs : List X) (i : ℕ) (x : X) → i < length xs → get_or xs i x ≡ x → m ≡ appended b (so_far written xs i b.level)
    → n ≡ appended m (item_text m.level (written x)) → n ≡ appended b (so_far written xs (i + 1) b.level)
each_done written b m n xs i x lt here done put =
    item_done b m n (map written (take i xs)) (written x) (headed b m (length xs) _ (omega arith) done) put
    ∙ ap (λ (ws : List Written). appended b (elements_text b.level (elements_of ws))) (sym (up_to_more written xs i x lt here))
    ∙ ap (λ (y : List ℕ). appended b (y ++ elements_text b.level (elements_of (map written (take (i + 1) xs))))) (sym (head_none (length xs) (91 ∷ 93 ∷ []) (omega arith)))

pub each_fits : {X : Type 0} (written : X → Written) (level : ℕ) (xs : List X) (i : ℕ) (x : X) → i < length xs → get_or xs i x ≡ x → level + deep_so_far written xs i ≤ 64
    → level + (depth (tree_of (written x)) + 1) ≤ 64 → level + deep_so_far written xs (i + 1) ≤ 64
each_fits written level xs i x lt here done fits =
    let whole = depths_behind (map written (take i xs)) (written x ∷ []) in
    let same = ap (λ (ws : List Written). depths (trees_of (elements_of ws))) (up_to_more written xs i x lt here) in
    omega arith

pub each_refused : {X : Type 0} (written : X → Written) (e : Errors) (b m a : Output) (xs : List X) (i : ℕ) (x : X) → i < length xs → get_or xs i x ≡ x → m ≡ appended b (so_far written xs i b.level)
    → Puts (Err e) m (item_text m.level (written x)) (depth (tree_of (written x)) + 1) a → Writes (Err e) b (list (elements_of (map written xs))) a
each_refused written e b m a xs i x lt here done h =
    subst (λ (ws : List Written). Writes (Err e) b (list (elements_of ws)) a) (split_at written xs i x lt here)
    (item_refused e b m a (map written (take i xs)) (written x) (map written (drop (suc i) xs)) (headed b m (length xs) _ (omega arith) done) h)

pub each_whole : {X : Type 0} (written : X → Written) (level : ℕ) (xs : List X) (i : ℕ) → length xs ≤ i → so_far written xs i level ≡ spec.written level (list (elements_of (map written xs)))
each_whole {X} written level xs i le =
    ap (λ (ys : List X). list_head (length xs) ++ elements_text level (elements_of (map written ys))) (take_all i xs le)
    ∙ ap (λ (n : ℕ). list_head n ++ elements_text level (elements_of (map written xs))) (sym (length-map xs written))
    ∙ list_whole level (map written xs)

pub each_depth : {X : Type 0} (written : X → Written) (xs : List X) (i : ℕ) → length xs ≤ i → deep_so_far written xs i ≡ depth (tree_of (list (elements_of (map written xs))))
each_depth {X} written xs i le = ap (λ (ys : List X). suc (depths (trees_of (elements_of (map written ys))))) (take_all i xs le)
