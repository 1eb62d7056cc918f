-- Block nodes are emitted.
use Rattle.std.proofs.Common.{◌≡◌, ℕ, suc, ◌+◌, ◌≤◌, List, [], ◌∷◌, ◌++◌, length, Bool, true, false, not, cond, ◌&&◌, ◌||◌, eqb, Option, Some, Result, Ok, Err, refl, sym, ap, ◌∙◌, subst, inl, inr, arith}
use Rattle.std.proofs.lemmas.Bool.{eqb-true}
use Rattle.warg_values.specs.Reading.{◌>>=◌}
use Rattle.yaml_scan.specs.Bytes.{spaces, whites}
use Rattle.yaml_scan.specs.Lines.{ends}
use Rattle.yaml_small.specs.declared.event.Event.{Event}
use Rattle.yaml_small.specs.declared.event.Event.TheVariants.{SequenceStart, SequenceEnd, MappingStart, MappingEnd}
use Rattle.yaml_small.specs.declared.state.Mode.TheVariants.{Item, Key, Value, Done}
use Rattle.yaml_small.specs.declared.state.Frame.{Frame}
use Rattle.yaml_small.specs.declared.state.Frame.TheVariants.{InList, InMap}
use Rattle.yaml_small.specs.Trees.{Scalar, Tree, Leaf, Seq, Map, Trees, none, more, Pairs, no_pairs, pair, scalar_event, depth, depths, pair_depths, emitted, each_emitted, pairs_emitted}
use Rattle.yaml_small.specs.Places.{At, past, over, next_at, is_within, is_dash, at_dash, list_ends, map_ends}
use Rattle.yaml_small.specs.Scalars.{Fault, ScalarToken, scalar_token_at, key_at, is_key, colon_behind}
use Rattle.yaml_small.specs.Grammar.{LineEnd, IsKey, Inline, Below, Item as AnItem, Value as AValue, Node, Block, BlockList, BlockMap, Items, Entries}
use Rattle.yaml_small.specs.ScalarLaws.{token_scanned, key_scanned}
use Rattle.yaml_small.specs.Step.{Transition, inline_at, node_at, below, tabbed, item_at, under, value_at, key_step, key_transition, list_start, map_start, missing_transition, list_done, map_done, block_transition, block_end, opened}
use Rattle.yaml_small.specs.Stream.{State, Runs}
use Rattle.yaml_small.specs.MarkLaws.{and_parts, both, scalar_token_opener, is_head, no_key, opener_no_dash, seq_opens, map_opens, ended_no_key}
use Rattle.yaml_small.specs.RunLaws.{From, state, done, landed, runs_in, length_pushed, popped}
use Rattle.yaml_small.specs.StepLaws.{pushes, by, inline_block, at_item, at_value, at_key, at_done_list, at_done_map}
use Rattle.yaml_small.specs.EmittedFlowLaws.{flow_emitted, missing_emitted, bool_chosen, bool_passed, bools_chosen}

-- a node on one line, or a block scalar, is neither a dash nor a key
pub record NoBlock (a : At) : Type 0 where
  pub dash : is_dash a.line ≡ false
  pub key : is_key a ≡ false

pub inline_no_block : (parent : Option ℕ) (t : Tree) (a b : At) → Inline parent t a b → NoBlock a
inline_no_block parent (Leaf s) a b (inl (m, form, end)) =
    let scanned = token_scanned false s a m form in
    record {
      dash = (scalar_token_opener false a.col a.line a.later (record { scalar = s; end = m }) scanned).dash;
      key = ended_no_key a (record { scalar = s; end = m }) scanned end.ends;
    }
inline_no_block parent (Leaf s) a b (inr (begin, block)) = record { dash = (is_head a begin).dash; key = (is_head a begin).key }
inline_no_block parent (Seq ts) a b (m, (begin, items), end) = record { dash = opener_no_dash 91 a.line seq_opens begin; key = no_key 91 a seq_opens begin }
inline_no_block parent (Map ps) a b (m, (begin, pairs), end) = record { dash = opener_no_dash 123 a.line map_opens begin; key = no_key 123 a map_opens begin }

-- a key is no dash
pub key_no_dash : (a : At) (w : ScalarToken) → key_at a ≡ Ok w → is_dash a.line ≡ false
unfolding key_at
key_no_dash a w e = from (scalar_token_at false a) refl e
  where
    from : (r : Result ScalarToken Fault) → scalar_token_at false a ≡ r → (r >>= colon_behind) ≡ Ok w → is_dash a.line ≡ false
    from (Ok v) here e = (scalar_token_opener false a.col a.line a.later v here).dash
    from (Err fault) here e = absurd cc

pub key_is : (a : At) (w : ScalarToken) → key_at a ≡ Ok w → is_key a ≡ true
key_is a w e = rw e refl

-- where a line ends, a node on it lands on the next content
ended : (g : Bool) (k : List Frame) (m b : At) (es : List Event) (z : State) → LineEnd m b → Runs (done g b k) es z → Runs (landed false g m k) es z
ended g k m b es z end rest =
    subst (λ (s : State). Runs s es z)
    (ap (λ (x : At). done g x k) end.next ∙ sym (bool_chosen (ends m.line) (done g (next_at m.later) k) _ end.ends)) rest

pub inline_emitted : (t : Tree) (k : List Frame) (parent : Option ℕ) (a b : At) (es : List Event) (z : State) → depth t + length k ≤ 64 → Inline parent t a b
    → ((g : Bool) → Runs (done g b k) es z) → From k (inline_at false (length k) parent a) (emitted t es) z
inline_emitted (Leaf s) k parent a b es z deep (inl (m, scalar_token, end)) rest = flow_emitted (Leaf s) false k parent a m es z deep scalar_token (λ g. ended g k m b es z end (rest g))
inline_emitted (Leaf s) k parent a b es z deep (inr (begin, block)) rest =
    (block_transition (record { scalar = s; end = b }), inline_block (length k) parent a (record { scalar = s; end = b }) (is_head a begin) begin block, refl, rest false)
inline_emitted (Seq ts) k parent a b es z deep (m, form, end) rest = flow_emitted (Seq ts) false k parent a m es z deep form (λ g. ended g k m b es z end (rest g))
inline_emitted (Map ps) k parent a b es z deep (m, form, end) rest = flow_emitted (Map ps) false k parent a m es z deep form (λ g. ended g k m b es z end (rest g))

node_inline : (d : ℕ) (parent : Option ℕ) (a : At) → NoBlock a → node_at d parent a ≡ inline_at false d parent a
unfolding node_at
node_inline d parent a n = bool_passed (is_dash a.line) _ _ n.dash ∙ bool_passed (is_key a) _ _ n.key

node_list : (d : ℕ) (parent : Option ℕ) (a : At) → is_dash a.line ≡ true → node_at d parent a ≡ opened d SequenceStart (past 1 a) (Item a.col) (InList a.col)
unfolding node_at list_start
node_list d parent a e = bool_chosen (is_dash a.line) _ _ e

node_map : (d : ℕ) (parent : Option ℕ) (a : At) → is_dash a.line ≡ false → is_key a ≡ true → node_at d parent a ≡ opened d MappingStart a Key (InMap a.col)
unfolding node_at map_start
node_map d parent a e f = bools_chosen (is_dash a.line) (is_key a) _ _ _ e f

below_in : (d : ℕ) (parent : Option ℕ) (a : At) → is_within parent a ≡ true → below d parent a ≡ node_at d parent a
unfolding below
below_in d parent a e = bool_chosen (is_within parent a) _ _ e

below_out : (d : ℕ) (parent : Option ℕ) (a : At) → is_within parent a ≡ false → below d parent a ≡ Ok (missing_transition a)
unfolding below
below_out d parent a e = bool_passed (is_within parent a) _ _ e

item_below : (d col : ℕ) (a : At) → ends a.line ≡ true → item_at d col a ≡ below d (Some col) (next_at a.later)
unfolding item_at
item_below d col a e = bool_chosen (ends a.line) _ _ e

item_node : (d col : ℕ) (a : At) → ends a.line ≡ false → eqb (spaces a.line) (whites a.line) ≡ true → item_at d col a ≡ node_at d (Some col) (over a)
unfolding item_at
item_node d col a e f = bools_chosen (ends a.line) (eqb (spaces a.line) (whites a.line)) _ _ _ e f

item_inline : (d col : ℕ) (a : At) → ends a.line ≡ false → eqb (spaces a.line) (whites a.line) ≡ false → NoBlock (over a) → item_at d col a ≡ inline_at false d (Some col) (over a)
unfolding item_at tabbed
item_inline d col a e f n = bool_passed (ends a.line) _ _ e ∙ bool_passed (eqb (spaces a.line) (whites a.line)) _ _ f ∙ neither (is_dash (over a).line) (is_key (over a)) _ _ n.dash n.key
  where
    neither : (b c : Bool) (x y : Result Transition Fault) → b ≡ false → c ≡ false → cond (b || c) x y ≡ y
    neither b c x y e f = rw (e, f) refl

value_below : (d col : ℕ) (a : At) → ends a.line ≡ true → value_at d col a ≡ under d col (next_at a.later)
unfolding value_at
value_below d col a e = bool_chosen (ends a.line) _ _ e

value_inline : (d col : ℕ) (a : At) → ends a.line ≡ false → value_at d col a ≡ inline_at false d (Some col) (over a)
unfolding value_at
value_inline d col a e = bool_passed (ends a.line) _ _ e

under_dash : (d col : ℕ) (a : At) → at_dash col a ≡ true → under d col a ≡ opened d SequenceStart (past 1 a) (Item a.col) (InList a.col)
unfolding under list_start
under_dash d col a e = bool_chosen (at_dash col a) _ _ e

under_below : (d col : ℕ) (a : At) → at_dash col a ≡ false → under d col a ≡ below d (Some col) a
unfolding under
under_below d col a e = bool_passed (at_dash col a) _ _ e

key_stepped : (a : At) (w : ScalarToken) → key_at a ≡ Ok w → key_step a ≡ Ok (key_transition a.col w)
unfolding key_step
key_stepped a w e = rw e refl

list_over : (d col : ℕ) (g : Bool) (a : At) → list_ends col a ≡ true → list_done d col g a ≡ Ok (block_end SequenceEnd a)
unfolding list_done
list_over d col g a e = bool_chosen (list_ends col a) _ _ e

list_further : (d col : ℕ) (g : Bool) (a : At) → at_dash col a ≡ true → list_done d col g a ≡ item_at d col (past 1 a)
unfolding list_done
list_further d col g a e = dashed (at_dash col a) _ _ _ _ e
  where
    dashed : (b c : Bool) (x y u : Result Transition Fault) → b ≡ true → cond (not b && c) x (cond b y u) ≡ y
    dashed b c x y u e = rw e refl

map_over : (col : ℕ) (g : Bool) (a : At) → map_ends col a ≡ true → map_done col g a ≡ Ok (block_end MappingEnd a)
unfolding map_done
map_over col g a e = bool_chosen (map_ends col a) _ _ e

map_further : (col : ℕ) (g : Bool) (a : At) → map_ends col a ≡ false → eqb a.col col ≡ true → map_done col g a ≡ key_step a
unfolding map_done
map_further col g a e f = bools_chosen (map_ends col a) (eqb a.col col) _ _ _ e f

-- the end of a block list or map
block_closes : (k : List Frame) (f : Frame) (r : Result Transition Fault) (e : Event) (a b : At) (es : List Event) (z : State) → r ≡ Ok (block_end e a) → b ≡ a → Runs (done false b k) es z → From (k ++ (f ∷ [])) r (e ∷ es) z
block_closes k f r e a b es z is there rest =
    (block_end e a, is, refl, subst (λ (s : State). Runs s es z) (ap (λ (x : At). done false x k) there ∙ ap (done false a) (sym (popped k f))) rest)

-- the depth behind one more open list or map
deeper : (k : List Frame) (f : Frame) (r : ℕ → Result Transition Fault) (es : List Event) (z : State) → From (k ++ (f ∷ [])) (r (length (k ++ (f ∷ [])))) es z → From (k ++ (f ∷ [])) (r (suc (length k))) es z
deeper k f r es z h = subst (λ (n : ℕ). From (k ++ (f ∷ [])) (r n) es z) (length_pushed k f) h

-- what is to be shown of each tree: behind a node, and behind a block list at a dash, come the events that follow
abbrev NodeEmitted : Tree → Type 0
NodeEmitted t = (k : List Frame) (parent : Option ℕ) (a b : At) (es : List Event) (z : State) → depth t + length k ≤ 64 → Node parent t a b
    → ((g : Bool) → Runs (done g b k) es z) → From k (node_at (length k) parent a) (emitted t es) z

abbrev ListEmitted : Tree → Type 0
ListEmitted t = (k : List Frame) (col : ℕ) (a b : At) (es : List Event) (z : State) → depth t + length k ≤ 64 → at_dash col a ≡ true → Block t a b
    → ((g : Bool) → Runs (done g b k) es z) → From k (under (length k) col a) (emitted t es) z

pub below_emitted : (t : Tree) → NodeEmitted t → (k : List Frame) (parent : Option ℕ) (a b : At) (es : List Event) (z : State) → depth t + length k ≤ 64 → Below (Node parent t) parent t a b
    → ((g : Bool) → Runs (done g b k) es z) → From k (below (length k) parent a) (emitted t es) z
below_emitted t law k parent a b es z deep (inl (inside, form)) rest = by k _ _ (emitted t es) z (below_in (length k) parent a inside) (law k parent a b es z deep form rest)
below_emitted t law k parent a b es z deep (inr (inside, miss, there)) rest = missing_emitted t k _ a b es z miss there (below_out (length k) parent a inside) (rest false)

item_emitted : (t : Tree) → NodeEmitted t → (k : List Frame) (f : Frame) (col : ℕ) (a b : At) (es : List Event) (z : State) → depth t + suc (length k) ≤ 64 → AnItem (Node (Some col) t) col t a b
    → ((g : Bool) → Runs (done g b (k ++ (f ∷ []))) es z) → From (k ++ (f ∷ [])) (item_at (suc (length k)) col a) (emitted t es) z
item_emitted t law k f col a b es z deep (inl (end, form)) rest =
    let deep' : depth t + length (k ++ (f ∷ [])) ≤ 64 = omega (arith, length_pushed k f) in
    by (k ++ (f ∷ [])) _ _ (emitted t es) z (item_below (suc (length k)) col a end)
    (deeper k f (λ (n : ℕ). below n (Some col) (next_at a.later)) (emitted t es) z (below_emitted t law (k ++ (f ∷ [])) (Some col) (next_at a.later) b es z deep' form rest))
item_emitted t law k f col a b es z deep (inr (inl (end, white, form))) rest =
    let deep' : depth t + length (k ++ (f ∷ [])) ≤ 64 = omega (arith, length_pushed k f) in
    by (k ++ (f ∷ [])) _ _ (emitted t es) z (item_node (suc (length k)) col a end white)
    (deeper k f (λ (n : ℕ). node_at n (Some col) (over a)) (emitted t es) z (law (k ++ (f ∷ [])) (Some col) (over a) b es z deep' form rest))
item_emitted t law k f col a b es z deep (inr (inr (end, white, form))) rest =
    let deep' : depth t + length (k ++ (f ∷ [])) ≤ 64 = omega (arith, length_pushed k f) in
    by (k ++ (f ∷ [])) _ _ (emitted t es) z (item_inline (suc (length k)) col a end white (inline_no_block (Some col) t (over a) b form))
    (deeper k f (λ (n : ℕ). inline_at false n (Some col) (over a)) (emitted t es) z (inline_emitted t (k ++ (f ∷ [])) (Some col) (over a) b es z deep' form rest))

value_emitted : (t : Tree) → NodeEmitted t → ListEmitted t → (k : List Frame) (f : Frame) (col : ℕ) (a b : At) (es : List Event) (z : State) → depth t + suc (length k) ≤ 64 → AValue (Node (Some col) t) (Block t) col t a b
    → ((g : Bool) → Runs (done g b (k ++ (f ∷ []))) es z) → From (k ++ (f ∷ [])) (value_at (suc (length k)) col a) (emitted t es) z
value_emitted t law list k f col a b es z deep (inl (end, inl (dash, form))) rest =
    let deep' : depth t + length (k ++ (f ∷ [])) ≤ 64 = omega (arith, length_pushed k f) in
    by (k ++ (f ∷ [])) _ _ (emitted t es) z (value_below (suc (length k)) col a end) (deeper k f (λ (n : ℕ). under n col (next_at a.later)) (emitted t es) z (list (k ++ (f ∷ [])) col (next_at a.later) b es z deep' dash form rest))
value_emitted t law list k f col a b es z deep (inl (end, inr (dash, form))) rest =
    let deep' : depth t + length (k ++ (f ∷ [])) ≤ 64 = omega (arith, length_pushed k f) in
    by (k ++ (f ∷ [])) _ _ (emitted t es) z (value_below (suc (length k)) col a end ∙ under_below (suc (length k)) col (next_at a.later) dash)
    (deeper k f (λ (n : ℕ). below n (Some col) (next_at a.later)) (emitted t es) z (below_emitted t law (k ++ (f ∷ [])) (Some col) (next_at a.later) b es z deep' form rest))
value_emitted t law list k f col a b es z deep (inr (end, form)) rest =
    let deep' : depth t + length (k ++ (f ∷ [])) ≤ 64 = omega (arith, length_pushed k f) in
    by (k ++ (f ∷ [])) _ _ (emitted t es) z (value_inline (suc (length k)) col a end)
    (deeper k f (λ (n : ℕ). inline_at false n (Some col) (over a)) (emitted t es) z (inline_emitted t (k ++ (f ∷ [])) (Some col) (over a) b es z deep' form rest))

key_emitted : (key : Scalar) (t : Tree) → NodeEmitted t → ListEmitted t → (k : List Frame) (col : ℕ) (a m b : At) (es : List Event) (z : State) → depth t + suc (length k) ≤ 64 → a.col ≡ col → IsKey key a m
    → AValue (Node (Some col) t) (Block t) col t m b → ((g : Bool) → Runs (done g b (k ++ (InMap col ∷ []))) es z)
    → From (k ++ (InMap col ∷ [])) (key_step a) (scalar_event key ∷ emitted t es) z
key_emitted key t law list k col a m b es z deep here is value rest =
    let w : ScalarToken = record { scalar = key; end = m } in (
      key_transition a.col w,
      key_stepped a w (key_scanned key a m is),
      refl,
      subst (λ (n : ℕ). Runs (state (Value n) (k ++ (InMap col ∷ [])) m) (emitted t es) z) (sym here)
          (runs_in (Value col) k (InMap col) m (emitted t es) z
          (by (k ++ (InMap col ∷ [])) _ _ (emitted t es) z (at_value (suc (length k)) col (Some (InMap col)) m) (value_emitted t law list k (InMap col) col m b es z deep value rest))),
    )

-- no map begins at a dash
map_no_dash : (ps : Pairs) (col : ℕ) (a b : At) → at_dash col a ≡ true → BlockMap ps a b → ⊥
map_no_dash no_pairs col a b dash form = form
map_no_dash (pair key t ps) col a b dash (m, n, is, value, entries) =
    both (is_dash a.line) (and_parts (eqb a.col col) (is_dash a.line) dash).1 (key_no_dash a (record { scalar = key; end = m }) (key_scanned key a m is))

mutual
  -- behind a node come the events that follow it
  pub node_emitted : (t : Tree) (k : List Frame) (parent : Option ℕ) (a b : At) (es : List Event) (z : State) → depth t + length k ≤ 64 → Node parent t a b
      → ((g : Bool) → Runs (done g b k) es z) → From k (node_at (length k) parent a) (emitted t es) z
  node_emitted (Leaf s) k parent a b es z deep form rest = by k _ _ (emitted (Leaf s) es) z (node_inline (length k) parent a (inline_no_block parent (Leaf s) a b form)) (inline_emitted (Leaf s) k parent a b es z deep form rest)
  node_emitted (Seq ts) k parent a b es z deep (inl form) rest = by k _ _ (emitted (Seq ts) es) z (node_inline (length k) parent a (inline_no_block parent (Seq ts) a b form)) (inline_emitted (Seq ts) k parent a b es z deep form rest)
  node_emitted (Seq ts) k parent a b es z deep (inr form) rest = list_emitted ts k (node_at (length k) parent a) a b es z deep form (λ dash. node_list (length k) parent a dash) rest
  node_emitted (Map ps) k parent a b es z deep (inl form) rest = by k _ _ (emitted (Map ps) es) z (node_inline (length k) parent a (inline_no_block parent (Map ps) a b form)) (inline_emitted (Map ps) k parent a b es z deep form rest)
  node_emitted (Map ps) k parent a b es z deep (inr form) rest = map_emitted ps k parent a b es z deep form rest

  list_emitted : (ts : Trees) (k : List Frame) (r : Result Transition Fault) (a b : At) (es : List Event) (z : State) → suc (depths ts) + length k ≤ 64 → BlockList ts a b
      → (is_dash a.line ≡ true → r ≡ opened (length k) SequenceStart (past 1 a) (Item a.col) (InList a.col))
      → ((g : Bool) → Runs (done g b k) es z) → From k r (SequenceStart ∷ each_emitted ts (SequenceEnd ∷ es)) z
  list_emitted none k r a b es z deep form opens rest = absurd form
  list_emitted (more t ts) k r a b es z deep (m, dash, item, items) opens rest =
      let k' = k ++ (InList a.col ∷ []) in
      let later = each_emitted ts (SequenceEnd ∷ es) in
      pushes k r SequenceStart (past 1 a) (Item a.col) (InList a.col) (emitted t later) z (opens dash) (omega arith)
      (runs_in (Item a.col) k (InList a.col) (past 1 a) (emitted t later) z
      (by k' _ _ (emitted t later) z (at_item (suc (length k)) a.col (Some (InList a.col)) (past 1 a))
      (item_emitted t (node_emitted t) k (InList a.col) a.col (past 1 a) m later z (omega arith) item
      (λ g. entries_emitted ts g k a.col m b es z (omega arith) items rest))))

  entries_emitted : (ts : Trees) (g : Bool) (k : List Frame) (col : ℕ) (a b : At) (es : List Event) (z : State) → depths ts + suc (length k) ≤ 64 → Items col ts a b
      → ((g : Bool) → Runs (done g b k) es z) → Runs (done g a (k ++ (InList col ∷ []))) (each_emitted ts (SequenceEnd ∷ es)) z
  entries_emitted none g k col a b es z deep (end, there) rest =
      runs_in (Done g) k (InList col) a (SequenceEnd ∷ es) z
      (block_closes k (InList col) _ SequenceEnd a b es z (at_done_list (suc (length k)) col g a ∙ list_over (suc (length k)) col g a end) there (rest false))
  entries_emitted (more t ts) g k col a b es z deep (m, dash, item, items) rest =
      let later = each_emitted ts (SequenceEnd ∷ es) in
      runs_in (Done g) k (InList col) a (emitted t later) z
      (by (k ++ (InList col ∷ [])) _ _ (emitted t later) z (at_done_list (suc (length k)) col g a ∙ list_further (suc (length k)) col g a dash)
      (item_emitted t (node_emitted t) k (InList col) col (past 1 a) m later z (omega arith) item (λ g. entries_emitted ts g k col m b es z (omega arith) items rest)))

  map_emitted : (ps : Pairs) (k : List Frame) (parent : Option ℕ) (a b : At) (es : List Event) (z : State) → suc (pair_depths ps) + length k ≤ 64 → BlockMap ps a b
      → ((g : Bool) → Runs (done g b k) es z) → From k (node_at (length k) parent a) (MappingStart ∷ pairs_emitted ps (MappingEnd ∷ es)) z
  map_emitted no_pairs k parent a b es z deep form rest = absurd form
  map_emitted (pair key t ps) k parent a b es z deep (m, n, is, value, entries) rest =
      let k' = k ++ (InMap a.col ∷ []) in
      let w : ScalarToken = record { scalar = key; end = m } in
      let later = emitted t (pairs_emitted ps (MappingEnd ∷ es)) in
      pushes k (node_at (length k) parent a) MappingStart a Key (InMap a.col) (scalar_event key ∷ later) z (node_map (length k) parent a (key_no_dash a w (key_scanned key a m is)) (key_is a w (key_scanned key a m is))) (omega arith)
      (runs_in Key k (InMap a.col) a (scalar_event key ∷ later) z
      (by k' _ _ (scalar_event key ∷ later) z (at_key (suc (length k)) (Some (InMap a.col)) a)
      (key_emitted key t (node_emitted t) (under_emitted t) k a.col a m n (pairs_emitted ps (MappingEnd ∷ es)) z (omega arith) refl is value
      (λ g. pairs_entries_emitted ps g k a.col n b es z (omega arith) entries rest))))

  pairs_entries_emitted : (ps : Pairs) (g : Bool) (k : List Frame) (col : ℕ) (a b : At) (es : List Event) (z : State) → pair_depths ps + suc (length k) ≤ 64 → Entries col ps a b
      → ((g : Bool) → Runs (done g b k) es z) → Runs (done g a (k ++ (InMap col ∷ []))) (pairs_emitted ps (MappingEnd ∷ es)) z
  pairs_entries_emitted no_pairs g k col a b es z deep (end, there) rest =
      runs_in (Done g) k (InMap col) a (MappingEnd ∷ es) z
      (block_closes k (InMap col) _ MappingEnd a b es z (at_done_map (suc (length k)) col g a ∙ map_over col g a end) there (rest false))
  pairs_entries_emitted (pair key t ps) g k col a b es z deep (m, n, end, here, is, value, entries) rest =
      let later = emitted t (pairs_emitted ps (MappingEnd ∷ es)) in
      runs_in (Done g) k (InMap col) a (scalar_event key ∷ later) z
      (by (k ++ (InMap col ∷ [])) _ _ (scalar_event key ∷ later) z (at_done_map (suc (length k)) col g a ∙ map_further col g a end here)
      (key_emitted key t (node_emitted t) (under_emitted t) k col a m n (pairs_emitted ps (MappingEnd ∷ es)) z (omega arith) (eqb-true a.col col here) is value
      (λ g. pairs_entries_emitted ps g k col n b es z (omega arith) entries rest)))

  under_emitted : (t : Tree) (k : List Frame) (col : ℕ) (a b : At) (es : List Event) (z : State) → depth t + length k ≤ 64 → at_dash col a ≡ true → Block t a b
      → ((g : Bool) → Runs (done g b k) es z) → From k (under (length k) col a) (emitted t es) z
  under_emitted (Leaf s) k col a b es z deep dash form rest = absurd form
  under_emitted (Seq ts) k col a b es z deep dash form rest =
      list_emitted ts k (under (length k) col a) a b es z deep form (λ _. under_dash (length k) col a dash) rest
  under_emitted (Map ps) k col a b es z deep dash form rest = absurd (map_no_dash ps col a b dash form)
