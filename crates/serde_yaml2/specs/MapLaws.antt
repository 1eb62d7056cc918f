-- Maps, entry by entry.
use Rattle.std.proofs.Common.{◌≡◌, ℕ, zero, suc, ◌+◌, ◌<◌, ◌≤◌, max, List, [], ◌∷◌, ◌++◌, length, map as all, take, drop, get_or, slice_get, Bool, false, cond, Some, None, Err, refl, sym, ap, ◌∙◌, subst, append_assoc, arith}
use Rattle.std.proofs.Math.Seq.{drop-cons}
use Rattle.std.proofs.lemmas.List.{append-nil, take-append-drop, take_more, take_all, map_push, map-append, length-map}
use Rattle.yaml_small.specs.Trees.{depth, pair_depths}
use Rattle.yaml_text.specs.Texts.{quoted}
use Rattle.yaml_text.specs.Written as spec
use Rattle.yaml_text.specs.Written.{Written, members_of, members_text, has_no_members, map, new_line, tree_of, pairs_of, written}
use Rattle.yaml_read.specs.Entries.{seen_entry}
use Rattle.serde_yaml2.specs.declared.error.Errors.{Errors}
use Rattle.serde_yaml2.specs.Output.{Output, appended, IsCut, Explains, Puts, Pushes, Writes, key_text, nested, map_head}
use Rattle.serde_yaml2.specs.PieceLaws.{appended_twice, cut_first, cut_second}
use Rattle.serde_yaml2.specs.ListLaws.{explains_more, head_none}

-- a key and its value
abbrev pub entry_text : ℕ → List ℕ × Written → List ℕ
entry_text level p = key_text p.0 ++ nested level p.1

member_is : (level : ℕ) (p : List ℕ × Written) (rest : List ℕ)
    → quoted p.0 ++ (58 ∷ new_line (level + 1)) ++ written (level + 1) p.1 ++ new_line level ++ rest ≡ entry_text level p ++ rest
member_is level p rest = ap (λ (x : List ℕ). x ++ rest) (assoc (quoted p.0) (new_line (level + 1)) (written (level + 1) p.1) (new_line level))
  where
    assoc : (q n w l : List ℕ) → q ++ (58 ∷ n) ++ w ++ l ≡ (q ++ (58 ∷ [])) ++ (n ++ w ++ l)
    assoc q n w l = simp append_assoc

pub members_behind : (level : ℕ) (ps qs : List (List ℕ × Written)) → members_text level (members_of (ps ++ qs)) ≡ members_text level (members_of ps) ++ members_text level (members_of qs)
members_behind level [] qs = refl
members_behind level (p ∷ ps) qs =
    member_is level p (members_text level (members_of (ps ++ qs)))
    ∙ ap (λ (x : List ℕ). entry_text level p ++ x) (members_behind level ps qs)
    ∙ sym (append_assoc (entry_text level p) (members_text level (members_of ps)) (members_text level (members_of qs)))
    ∙ ap (λ (x : List ℕ). x ++ members_text level (members_of qs)) (sym (member_is level p (members_text level (members_of ps))))

members_last : (level : ℕ) (ps : List (List ℕ × Written)) (p : List ℕ × Written) → members_text level (members_of (ps ++ (p ∷ []))) ≡ members_text level (members_of ps) ++ entry_text level p
members_last level ps p =
    members_behind level ps (p ∷ [])
    ∙ ap (λ (x : List ℕ). members_text level (members_of ps) ++ x) (member_is level p [] ∙ append-nil (entry_text level p))

some_members : (ps : List (List ℕ × Written)) (p : List ℕ × Written) (qs : List (List ℕ × Written)) → has_no_members (members_of (ps ++ (p ∷ qs))) ≡ false
some_members [] p qs = refl
some_members (x ∷ ps) p qs = refl

pub map_is : (level : ℕ) (ps : List (List ℕ × Written)) (p : List ℕ × Written) (qs : List (List ℕ × Written))
    → written level (map (members_of (ps ++ (p ∷ qs)))) ≡ members_text level (members_of ps) ++ (entry_text level p ++ members_text level (members_of qs))
map_is level ps p qs =
    ap (λ (b : Bool). cond b (123 ∷ 125 ∷ []) (members_text level (members_of (ps ++ (p ∷ qs))))) (some_members ps p qs)
    ∙ members_behind level ps (p ∷ qs) ∙ ap (λ (x : List ℕ). members_text level (members_of ps) ++ x) (member_is level p (members_text level (members_of qs)))

-- how deep values are
pub pair_depths_behind : (ps qs : List (List ℕ × Written)) → pair_depths (pairs_of (members_of (ps ++ qs))) ≡ max (pair_depths (pairs_of (members_of ps))) (pair_depths (pairs_of (members_of qs)))
pair_depths_behind [] qs = omega arith
pair_depths_behind (p ∷ ps) qs = let others = pair_depths_behind ps qs in omega arith

depth_within : (ps : List (List ℕ × Written)) (p : List ℕ × Written) (qs : List (List ℕ × Written)) → depth (tree_of p.1) ≤ pair_depths (pairs_of (members_of (ps ++ (p ∷ qs))))
depth_within ps p qs = let whole = pair_depths_behind ps (p ∷ qs) in omega arith

-- one entry more
pub entry_done : (b m k n : Output) (ps : List (List ℕ × Written)) (p : List ℕ × Written) → m ≡ appended b (members_text b.level (members_of ps)) → k ≡ appended m (key_text p.0)
    → n ≡ appended k (nested k.level p.1) → n ≡ appended b (members_text b.level (members_of (ps ++ (p ∷ []))))
entry_done b m k n ps p done key put =
    appended_twice b m n (members_text b.level (members_of ps)) (entry_text b.level p) done
    (appended_twice m k n (key_text p.0) (nested b.level p.1) key
    (subst (λ (l : ℕ). n ≡ appended k (nested l p.1)) (ap (λ (o : Output). o.level) key ∙ ap (λ (o : Output). o.level) done) put))
    ∙ ap (λ (x : List ℕ). appended b x) (sym (members_last b.level ps p))

cut_in_map : (b m a : Output) (ps : List (List ℕ × Written)) (p : List ℕ × Written) (qs : List (List ℕ × Written)) → m ≡ appended b (members_text b.level (members_of ps))
    → IsCut m (entry_text b.level p) a → IsCut b (written b.level (map (members_of (ps ++ (p ∷ qs))))) a
cut_in_map b m a ps p qs done cut =
    subst (λ (x : List ℕ). IsCut b x a) (sym (map_is b.level ps p qs))
    (cut_second b m a (members_text b.level (members_of ps)) (entry_text b.level p ++ members_text b.level (members_of qs)) done
    (cut_first m a (entry_text b.level p) (members_text b.level (members_of qs)) cut))

-- a key that was refused
pub key_refused : (e : Errors) (b m a : Output) (ps : List (List ℕ × Written)) (p : List ℕ × Written) (qs : List (List ℕ × Written)) → m ≡ appended b (members_text b.level (members_of ps))
    → Pushes (Err e) m (key_text p.0) a → Writes (Err e) b (map (members_of (ps ++ (p ∷ qs)))) a
key_refused e b m a ps p qs done h = (
  cut_in_map b m a ps p qs done (cut_first m a (key_text p.0) (nested b.level p.1) h.0),
  subst (λ (x : Errors). Explains x (b.level + suc (pair_depths (pairs_of (members_of (ps ++ (p ∷ qs))))))) (sym h.1) tt,
)

-- a value that was refused
pub value_refused : (e : Errors) (b m k a : Output) (ps : List (List ℕ × Written)) (p : List ℕ × Written) (qs : List (List ℕ × Written)) → m ≡ appended b (members_text b.level (members_of ps))
    → k ≡ appended m (key_text p.0) → Puts (Err e) k (nested k.level p.1) (depth (tree_of p.1) + 1) a → Writes (Err e) b (map (members_of (ps ++ (p ∷ qs)))) a
value_refused e b m k a ps p qs done key h =
    let same = ap (λ (o : Output). o.level) key ∙ ap (λ (o : Output). o.level) done in
    let deep = depth_within ps p qs in (
      cut_in_map b m a ps p qs done (cut_second m k a (key_text p.0) (nested b.level p.1) key (subst (λ (l : ℕ). IsCut k (nested l p.1) a) same h.0)),
      explains_more e (k.level + (depth (tree_of p.1) + 1)) (b.level + suc (pair_depths (pairs_of (members_of (ps ++ (p ∷ qs)))))) (omega arith) h.1,
    )

-- a map that was not begun
pub map_refused : (e : Errors) (b a : Output) (ps : List (List ℕ × Written)) → IsCut b (map_head (length ps)) a → Explains e (b.level + 1) → Writes (Err e) b (map (members_of ps)) a
map_refused e b a [] cut why = (cut, why)
map_refused e b a (p ∷ ps) cut why = (
  subst (λ (x : List ℕ). IsCut b (x ++ members_text b.level (members_of (p ∷ ps))) a) (head_none (length (p ∷ ps)) (123 ∷ 125 ∷ []) (omega arith))
      (cut_first b a (map_head (length (p ∷ ps))) (members_text b.level (members_of (p ∷ ps))) cut),
  explains_more e (b.level + 1) (b.level + suc (pair_depths (pairs_of (members_of (p ∷ ps))))) (omega arith) why,
)

-- a whole map
pub map_whole : (level : ℕ) (ps : List (List ℕ × Written)) → map_head (length ps) ++ members_text level (members_of ps) ≡ written level (map (members_of ps))
map_whole level [] = refl
map_whole level (p ∷ ps) = ap (λ (x : List ℕ). x ++ members_text level (members_of (p ∷ ps))) (head_none (length (p ∷ ps)) (123 ∷ 125 ∷ []) (omega arith))

-- an entry at an index
at_index : {X : Type 0} (es : List X) (i : ℕ) (e : X) → slice_get es i ≡ Some e → (i < length es) × (get_or es i e ≡ e)
at_index [] i e h = absurd cc
at_index {X} (x ∷ es) zero e h = (omega arith, some_is x e h)
  where
    some_is : (x y : X) → Some x ≡ Some y → x ≡ y
    some_is x y h = cc
at_index (x ∷ es) (suc i) e h = let others = at_index es i e h in (omega (arith, others.0), others.1)

-- a map's entries up to an index, and one of them
up_to_more : {X : Type 0} (written : X → Written) (es : List (List ℕ × X)) (i : ℕ) (e : List ℕ × X) → slice_get es i ≡ Some e
    → all (seen_entry written) (take (i + 1) es) ≡ all (seen_entry written) (take i es) ++ (seen_entry written e ∷ [])
up_to_more written es i e h =
    let at = at_index es i e h in
    ap (all (seen_entry written)) (take_more es i e at.0) ∙ map_push (seen_entry written) (take i es) (get_or es i e)
    ∙ ap (λ y. all (seen_entry written) (take i es) ++ (seen_entry written y ∷ [])) at.1

split_at : {X : Type 0} (written : X → Written) (es : List (List ℕ × X)) (i : ℕ) (e : List ℕ × X) → slice_get es i ≡ Some e
    → all (seen_entry written) (take i es) ++ (seen_entry written e ∷ all (seen_entry written) (drop (suc i) es)) ≡ all (seen_entry written) es
split_at {X} written es i e h =
    let at = at_index es i e h in
    sym (map-append (seen_entry written) (take i es) (e ∷ drop (suc i) es))
    ∙ ap (λ (y : List ℕ × X). all (seen_entry written) (take i es ++ (y ∷ drop (suc i) es))) (sym at.1)
    ∙ ap (λ (ys : List (List ℕ × X)). all (seen_entry written) (take i es ++ ys)) (sym (drop-cons es i e at.0))
    ∙ ap (all (seen_entry written)) (take-append-drop i es)

headed : (b m : Output) (len : ℕ) (x : List ℕ) → 0 < len → m ≡ appended b (map_head len ++ x) → m ≡ appended b x
headed b m len x lt h = h ∙ ap (λ (y : List ℕ). appended b (y ++ x)) (head_none len (123 ∷ 125 ∷ []) lt)

some_entries : {X : Type 0} (es : List X) (i : ℕ) (e : X) → slice_get es i ≡ Some e → 0 < length es
some_entries es i e h = let at = at_index es i e h in omega (arith, at.0)

-- what was written for a map's entries up to an index
abbrev pub map_so_far : {X : Type 0} → (X → Written) → List (List ℕ × X) → ℕ → ℕ → List ℕ
map_so_far written es i level = map_head (length es) ++ members_text level (members_of (all (seen_entry written) (take i es)))

abbrev pub deep_map_so_far : {X : Type 0} → (X → Written) → List (List ℕ × X) → ℕ → ℕ
deep_map_so_far written es i = suc (pair_depths (pairs_of (members_of (all (seen_entry written) (take i es)))))

pub each_done : {X : Type 0} (written : X → Written) (b m k n : Output) (es : List (List ℕ × X)) (i : ℕ) (e : List ℕ × X) → slice_get es i ≡ Some e → m ≡ appended b (map_so_far written es i b.level)
    → k ≡ appended m (key_text e.0) → n ≡ appended k (nested k.level (written e.1)) → n ≡ appended b (map_so_far written es (i + 1) b.level)
each_done written b m k n es i e here done key put =
    let some = some_entries es i e here in
    entry_done b m k n (all (seen_entry written) (take i es)) (seen_entry written e) (headed b m (length es) _ some done) key put
    ∙ ap (λ (ps : List (List ℕ × Written)). appended b (members_text b.level (members_of ps))) (sym (up_to_more written es i e here))
    ∙ ap (λ (y : List ℕ). appended b (y ++ members_text b.level (members_of (all (seen_entry written) (take (i + 1) es))))) (sym (head_none (length es) (123 ∷ 125 ∷ []) some))

pub each_fits : {X : Type 0} (written : X → Written) (level : ℕ) (es : List (List ℕ × X)) (i : ℕ) (e : List ℕ × X) → slice_get es i ≡ Some e → level + deep_map_so_far written es i ≤ 64
    → level + (depth (tree_of (written e.1)) + 1) ≤ 64 → level + deep_map_so_far written es (i + 1) ≤ 64
each_fits written level es i e here done fits =
    let whole = pair_depths_behind (all (seen_entry written) (take i es)) (seen_entry written e ∷ []) in
    let same = ap (λ (ps : List (List ℕ × Written)). pair_depths (pairs_of (members_of ps))) (up_to_more written es i e here) in
    omega arith

pub each_key_refused : {X : Type 0} (written : X → Written) (e : Errors) (b m a : Output) (es : List (List ℕ × X)) (i : ℕ) (p : List ℕ × X) → slice_get es i ≡ Some p → m ≡ appended b (map_so_far written es i b.level)
    → Pushes (Err e) m (key_text p.0) a → Writes (Err e) b (map (members_of (all (seen_entry written) es))) a
each_key_refused written e b m a es i p here done h =
    subst (λ (ps : List (List ℕ × Written)). Writes (Err e) b (map (members_of ps)) a) (split_at written es i p here)
    (key_refused e b m a (all (seen_entry written) (take i es)) (seen_entry written p) (all (seen_entry written) (drop (suc i) es)) (headed b m (length es) _ (some_entries es i p here) done) h)

pub each_value_refused : {X : Type 0} (written : X → Written) (e : Errors) (b m k a : Output) (es : List (List ℕ × X)) (i : ℕ) (p : List ℕ × X) → slice_get es i ≡ Some p
    → m ≡ appended b (map_so_far written es i b.level) → k ≡ appended m (key_text p.0) → Puts (Err e) k (nested k.level (written p.1)) (depth (tree_of (written p.1)) + 1) a
    → Writes (Err e) b (map (members_of (all (seen_entry written) es))) a
each_value_refused written e b m k a es i p here done key h =
    subst (λ (ps : List (List ℕ × Written)). Writes (Err e) b (map (members_of ps)) a) (split_at written es i p here)
    (value_refused e b m k a (all (seen_entry written) (take i es)) (seen_entry written p) (all (seen_entry written) (drop (suc i) es)) (headed b m (length es) _ (some_entries es i p here) done) key h)

pub each_whole : {X : Type 0} (written : X → Written) (level : ℕ) (es : List (List ℕ × X)) (i : ℕ) → length es ≤ i
    → map_so_far written es i level ≡ spec.written level (map (members_of (all (seen_entry written) es)))
each_whole {X} written level es i le =
    ap (λ (ys : List (List ℕ × X)). map_head (length es) ++ members_text level (members_of (all (seen_entry written) ys))) (take_all i es le)
    ∙ ap (λ (n : ℕ). map_head n ++ members_text level (members_of (all (seen_entry written) es))) (sym (length-map es (seen_entry written)))
    ∙ map_whole level (all (seen_entry written) es)

pub each_depth : {X : Type 0} (written : X → Written) (es : List (List ℕ × X)) (i : ℕ) → length es ≤ i → deep_map_so_far written es i ≡ depth (tree_of (map (members_of (all (seen_entry written) es))))
each_depth {X} written es i le = ap (λ (ys : List (List ℕ × X)). suc (pair_depths (pairs_of (members_of (all (seen_entry written) ys))))) (take_all i es le)

pub none_there : {X : Type 0} (es : List X) (i : ℕ) → i < length es → slice_get es i ≡ None → ⊥
none_there [] i less h = omega arith
none_there {X} (x ∷ es) zero less h = some_none x h
  where
    some_none : (x : X) → Some x ≡ None → ⊥
    some_none x h = cc
none_there (x ∷ es) (suc i) less h = none_there es i (omega arith) h
