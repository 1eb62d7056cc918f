-- A run to the stream's end that begins at a node's place begins with a node.
use Rattle.std.proofs.Common.{◌≡◌, ℕ, zero, suc, ◌+◌, ◌<◌, ◌≤◌, List, [], ◌∷◌, ◌++◌, length, Bool, true, false, cond, ◌||◌, eqb, Option, Some, Result, Ok, refl, sym, ap, ◌∙◌, subst, inl, inr, arith}
use Rattle.std.proofs.lemmas.Bool.{eqb-true}
use Rattle.yaml_scan.specs.Bytes.{spaces, whites}
use Rattle.yaml_scan.specs.Lines.{ends}
use Rattle.yaml_small.specs.declared.event.Event.{Event}
use Rattle.yaml_small.specs.declared.event.Event.TheVariants.{SequenceStart, SequenceEnd, MappingStart, MappingEnd}
use Rattle.yaml_small.specs.declared.state.Mode.TheVariants.{Item, Key, Value, Done, Trailing, Ended}
use Rattle.yaml_small.specs.declared.state.Frame.{Frame}
use Rattle.yaml_small.specs.declared.state.Frame.TheVariants.{InList, InMap}
use Rattle.yaml_small.specs.Trees.{Scalar, Tree, Leaf, Seq, Map, Trees, none, more, Pairs, no_pairs, pair, missing, scalar_event, depth, depths, pair_depths, emitted, each_emitted, pairs_emitted}
use Rattle.yaml_small.specs.Places.{At, past, over, next_at, begins, is_within, is_dash, at_dash, list_ends, map_ends}
use Rattle.yaml_small.specs.Scalars.{Fault, Form, NotCarried, scalar_token_at, key_at, is_key, block_at, begins_block}
use Rattle.yaml_small.specs.Grammar.{Flow, LineEnd, IsKey, Inline, Below, Item as AnItem, Value as AValue, Node, Block, Items, Entries}
use Rattle.yaml_small.specs.ScalarLaws.{key_form}
use Rattle.yaml_small.specs.Step.{Transition, scalar_token_transition, inline_at, node_at, below, tabbed, item_at, under, value_at, key_step, key_transition, list_start, map_start, missing_transition, list_done, map_done, line_fault, block_transition, block_end, step_at}
use Rattle.yaml_small.specs.Stream.{State, Runs}
use Rattle.yaml_small.specs.MarkLaws.{and_parts}
use Rattle.yaml_small.specs.RunLaws.{From, state, done, length_pushed, popped, step_of}
use Rattle.yaml_small.specs.StepLaws.{at_item, at_value, at_key, at_done_list, at_done_map}
use Rattle.yaml_small.specs.FoundLaws.{choose, refused, went, opened_at, bound, continues_in, continues_below_from}
use Rattle.yaml_small.specs.FoundFlowLaws.{FoundFlow, flow_law, seq_found, map_found, scalar_token_found}

-- a tree of this form, behind which the run goes on
pub record FoundBy (Form : Tree → At → At → Type 0) (k : List Frame) (a : At) (es : List Event) (z : State) : Type 0 where
  pub tree : Tree
  pub end : At
  pub continues : Bool
  pub rest : List Event
  pub form : Form tree a end
  pub emitted_is : es ≡ emitted tree rest
  pub runs : Runs (done continues end k) rest z
  pub less : length rest < length es
  pub shallow : depth tree + length k ≤ 64

pub found_as : (F G : Tree → At → At → Type 0) (k : List Frame) (a b : At) (es : List Event) (z : State) → ((t : Tree) (c : At) → F t a c → G t b c) → FoundBy F k a es z → FoundBy G k b es z
found_as F G k a b es z f x = record {
  tree = x.tree;
  end = x.end;
  continues = x.continues;
  rest = x.rest;
  form = f x.tree x.end x.form;
  emitted_is = x.emitted_is;
  runs = x.runs;
  less = x.less;
  shallow = x.shallow;
}

-- a list or map that has one more open
at_depth : (k : List Frame) (f : Frame) (r : ℕ → Result Transition Fault) (es : List Event) (z : State) → From (k ++ (f ∷ [])) (r (suc (length k))) es z → From (k ++ (f ∷ [])) (r (length (k ++ (f ∷ [])))) es z
at_depth k f r es z h = subst (λ (n : ℕ). From (k ++ (f ∷ [])) (r n) es z) (sym (length_pushed k f)) h

inline_form : (parent : Option ℕ) (t : Tree) (a m b : At) → Flow false t a m → LineEnd m b → Inline parent t a b
inline_form parent (Leaf s) a m b form end = inl (m, form, end)
inline_form parent (Seq ts) a m b form end = (m, form, end)
inline_form parent (Map ps) a m b form end = (m, form, end)

stray_refused : {P : Type 0} (k : List Frame) (a : At) (es : List Event) (z : State) → From k (step_of (state Trailing k a)) es z → P
unfolding step_at
stray_refused k a es z h = refused k Form es z h

-- a node on one line, behind which nothing more stands
on_line : (parent : Option ℕ) (k : List Frame) (a : At) (es : List Event) (z : State) → z.mode ≡ Ended → FoundFlow false k a es z → FoundBy (Inline parent) k a es z
on_line parent k a es z fin f = either (ends f.end.line) refl f.runs
  where
    either : (b : Bool) → ends f.end.line ≡ b → Runs (cond b (done f.continues (next_at f.end.later) k) (state Trailing k (over f.end))) f.rest z → FoundBy (Inline parent) k a es z
    either true is runs = record {
      tree = f.tree;
      end = next_at f.end.later;
      continues = f.continues;
      rest = f.rest;
      form = inline_form parent f.tree a f.end (next_at f.end.later) f.form (record { ends = is; next = refl });
      emitted_is = f.emitted_is;
      runs = runs;
      less = f.less;
      shallow = f.shallow;
    }
    either false is runs = stray_refused k (over f.end) f.rest z (continues_below_from (state Trailing k (over f.end)) f.rest z (λ e. absurd cc) fin runs)

pub inline_found : (parent : Option ℕ) (k : List Frame) (a : At) (es : List Event) (z : State) → z.mode ≡ Ended → length k ≤ 64 → From k (inline_at false (length k) parent a) es z → FoundBy (Inline parent) k a es z
unfolding inline_at
inline_found parent k a es z fin within h =
    choose k (begins 91 a.line) _ _ es z h
    (λ begin h. on_line parent k a es z fin (seq_found (length es) (flow_law (length es)) false k a es z (omega arith) fin begin h))
    (λ _ h. choose k (begins 123 a.line) _ _ es z h
    (λ begin h. on_line parent k a es z fin (map_found (length es) (flow_law (length es)) false k a es z (omega arith) fin begin h))
    (λ _ h. choose k (begins_block a.line) _ _ es z h
    (λ begin h.
    let b = bound (block_at parent a) block_transition k es z h in
    let w = went k (block_transition b.value) es z b.continues in
    record {
      tree = Leaf b.value.scalar;
      end = b.value.end;
      continues = false;
      rest = w.tail;
      form = inr (begin, b.is);
      emitted_is = w.emitted_is;
      runs = w.runs;
      less = omega (arith, ap length w.emitted_is);
      shallow = omega arith;
    })
    (λ _ h. on_line parent k a es z fin (scalar_token_found false k a es z within (bound (scalar_token_at false a) (scalar_token_transition false) k es z h)))))

-- what is to be shown of the first n events
abbrev pub NodeLaw : ℕ → Type 0
NodeLaw n = (k : List Frame) (parent : Option ℕ) (a : At) (es : List Event) (z : State) → length es ≤ n → z.mode ≡ Ended → length k ≤ 64
    → From k (node_at (length k) parent a) es z → FoundBy (Node parent) k a es z

inline_node : (parent : Option ℕ) (t : Tree) (a b : At) → Inline parent t a b → Node parent t a b
inline_node parent (Leaf s) a b form = form
inline_node parent (Seq ts) a b form = inl form
inline_node parent (Map ps) a b form = inl form

pub below_found : (n : ℕ) → NodeLaw n → (k : List Frame) (parent : Option ℕ) (a : At) (es : List Event) (z : State) → length es ≤ n → z.mode ≡ Ended → length k ≤ 64
    → From k (below (length k) parent a) es z → FoundBy (λ t. Below (Node parent t) parent t) k a es z
unfolding below
below_found n law k parent a es z le fin within h =
    choose k (is_within parent a) _ _ es z h
    (λ inside h. found_as (Node parent) (λ t. Below (Node parent t) parent t) k a a es z (λ t c form. inl (inside, form)) (law k parent a es z le fin within h))
    (λ inside h.
    let w = went k (missing_transition a) es z h in
    record {
      tree = missing;
      end = a;
      continues = false;
      rest = w.tail;
      form = inr (inside, refl, refl);
      emitted_is = w.emitted_is;
      runs = w.runs;
      less = omega (arith, ap length w.emitted_is);
      shallow = omega arith;
    })

item_found : (n : ℕ) → NodeLaw n → (k : List Frame) (col : ℕ) (a : At) (es : List Event) (z : State) → length es ≤ n → z.mode ≡ Ended → length k ≤ 64
    → From k (item_at (length k) col a) es z → FoundBy (λ t. AnItem (Node (Some col) t) col t) k a es z
unfolding item_at tabbed
item_found n law k col a es z le fin within h =
    choose k (ends a.line) _ _ es z h
    (λ end h. found_as (λ t. Below (Node (Some col) t) (Some col) t) (λ t. AnItem (Node (Some col) t) col t) k (next_at a.later) a es z (λ t c form. inl (end, form))
    (below_found n law k (Some col) (next_at a.later) es z le fin within h))
    (λ end h. choose k (eqb (spaces a.line) (whites a.line)) _ _ es z h
    (λ white h. found_as (Node (Some col)) (λ t. AnItem (Node (Some col) t) col t) k (over a) a es z (λ t c form. inr (inl (end, white, form)))
    (law k (Some col) (over a) es z le fin within h))
    (λ white h. choose k (is_dash (over a).line || is_key (over a)) _ _ es z h
    (λ _ h. refused k NotCarried es z h)
    (λ _ h. found_as (Inline (Some col)) (λ t. AnItem (Node (Some col) t) col t) k (over a) a es z (λ t c form. inr (inr (end, white, form)))
    (inline_found (Some col) k (over a) es z fin within h))))

-- the end of a block list or map
record BlockEnd (k : List Frame) (e : Event) (a : At) (es : List Event) (z : State) : Type 0 where
  tail : List Event
  emitted_is : es ≡ e ∷ tail
  runs : Runs (done false a k) tail z
  less : length tail < length es

block_end_found : (k : List Frame) (f : Frame) (e : Event) (a : At) (es : List Event) (z : State) → From (k ++ (f ∷ [])) (Ok (block_end e a)) es z → BlockEnd k e a es z
block_end_found k f e a es z h =
    let w = went (k ++ (f ∷ [])) (block_end e a) es z h in
    record { tail = w.tail; emitted_is = w.emitted_is; runs = subst (λ (x : List Frame). Runs (done false a x) w.tail z) (popped k f) w.runs; less = omega (arith, ap length w.emitted_is) }

record FoundItems (col : ℕ) (k : List Frame) (a : At) (es : List Event) (z : State) : Type 0 where
  items : Trees
  end : At
  rest : List Event
  form : Items col items a end
  emitted_is : es ≡ each_emitted items (SequenceEnd ∷ rest)
  runs : Runs (done false end k) rest z
  less : length rest < length es
  shallow : depths items + suc (length k) ≤ 64

list_step : {P : Type 0} (k : List Frame) (d col : ℕ) (g : Bool) (a : At) (es : List Event) (z : State) → From k (list_done d col g a) es z
    → (list_ends col a ≡ true → From k (Ok (block_end SequenceEnd a)) es z → P) → (at_dash col a ≡ true → From k (item_at d col (past 1 a)) es z → P) → P
unfolding list_done
list_step k d col g a es z h over further =
    choose k (list_ends col a) _ _ es z h over
    (λ _ h. choose k (at_dash col a) _ _ es z h further (λ _ h. refused k (line_fault g a) es z h))

items_found : (n : ℕ) → NodeLaw n → (m : ℕ) → m ≤ n → (k : List Frame) (col : ℕ) (g : Bool) (a : At) (es : List Event) (z : State) → length es ≤ m → z.mode ≡ Ended → length k < 64
    → From (k ++ (InList col ∷ [])) (list_done (suc (length k)) col g a) es z → FoundItems col k a es z
items_found n law zero le k col g a [] z short fin room h = absurd h
items_found n law zero le k col g a (e ∷ es) z short fin room h = absurd (omega arith)
items_found n law (suc m) le k col g a es z short fin room h =
    let k' = k ++ (InList col ∷ []) in
    let within : length k' ≤ 64 = omega (arith, length_pushed k (InList col)) in
    list_step k' (suc (length k)) col g a es z h
    (λ end h. let c = block_end_found k (InList col) SequenceEnd a es z h in
    record { items = none; end = a; rest = c.tail; form = (end, refl); emitted_is = c.emitted_is; runs = c.runs; less = c.less; shallow = omega arith })
    (λ dash h.
    let f = item_found n law k' col (past 1 a) es z (omega arith) fin within (at_depth k (InList col) (λ (d : ℕ). item_at d col (past 1 a)) es z h) in
    let further = subst (λ (r : Result Transition Fault). From k' r f.rest z) (at_done_list (suc (length k)) col f.continues f.end)
    (continues_in (Done f.continues) k (InList col) f.end f.rest z (λ e. absurd cc) fin f.runs) in
    let i = items_found n law m (omega arith) k col f.continues f.end f.rest z (omega (arith, f.less)) fin room further in
    record {
      items = more f.tree i.items;
      end = i.end;
      rest = i.rest;
      form = (f.end, dash, f.form, i.form);
      emitted_is = f.emitted_is ∙ ap (emitted f.tree) i.emitted_is;
      runs = i.runs;
      less = omega (arith, f.less, i.less);
      shallow = omega (arith, f.shallow, i.shallow, length_pushed k (InList col));
    })

list_found : (n : ℕ) → NodeLaw n → (k : List Frame) (a : At) (es : List Event) (z : State) → length es ≤ suc n → z.mode ≡ Ended → is_dash a.line ≡ true
    → From k (list_start (length k) a) es z → FoundBy (λ t. Block t) k a es z
unfolding list_start
list_found n law k a es z le fin dash h =
    let f = InList a.col in
    let k' = k ++ (f ∷ []) in
    let o = opened_at k (length k) SequenceStart (past 1 a) (Item a.col) f es z h in
    let within : length k' ≤ 64 = omega (arith, length_pushed k f, o.room) in
    let short : length o.tail ≤ n = omega (arith, ap length o.emitted_is) in
    let entry = subst (λ (r : Result Transition Fault). From k' r o.tail z) (at_item (suc (length k)) a.col (Some f) (past 1 a))
    (continues_in (Item a.col) k f (past 1 a) o.tail z (λ e. absurd cc) fin o.runs) in
    let i = item_found n law k' a.col (past 1 a) o.tail z short fin within (at_depth k f (λ (d : ℕ). item_at d a.col (past 1 a)) o.tail z entry) in
    let further = subst (λ (r : Result Transition Fault). From k' r i.rest z) (at_done_list (suc (length k)) a.col i.continues i.end)
    (continues_in (Done i.continues) k f i.end i.rest z (λ e. absurd cc) fin i.runs) in
    let is = items_found n law n (omega arith) k a.col i.continues i.end i.rest z (omega (arith, short, i.less)) fin o.room further in
    record {
      tree = Seq (more i.tree is.items);
      end = is.end;
      continues = false;
      rest = is.rest;
      form = (i.end, dash, i.form, is.form);
      emitted_is = o.emitted_is ∙ ap (λ (t : List Event). SequenceStart ∷ t) (i.emitted_is ∙ ap (emitted i.tree) is.emitted_is);
      runs = is.runs;
      less = omega (arith, ap length o.emitted_is, i.less, is.less);
      shallow = omega (arith, i.shallow, is.shallow, length_pushed k f);
    }

value_found : (n : ℕ) → NodeLaw n → (k : List Frame) (col : ℕ) (a : At) (es : List Event) (z : State) → length es ≤ n → z.mode ≡ Ended → length k ≤ 64
    → From k (value_at (length k) col a) es z → FoundBy (λ t. AValue (Node (Some col) t) (Block t) col t) k a es z
unfolding value_at under
value_found n law k col a es z le fin within h =
    let b = next_at a.later in
    choose k (ends a.line) _ _ es z h
    (λ end h. choose k (at_dash col b) _ _ es z h
    (λ dash h. found_as (λ t. Block t) (λ t. AValue (Node (Some col) t) (Block t) col t) k b a es z (λ t c form. inl (end, inl (dash, form)))
    (list_found n law k b es z (omega arith) fin (and_parts (eqb b.col col) (is_dash b.line) dash).1 h))
    (λ dash h. found_as (λ t. Below (Node (Some col) t) (Some col) t) (λ t. AValue (Node (Some col) t) (Block t) col t) k b a es z (λ t c form. inl (end, inr (dash, form)))
    (below_found n law k (Some col) b es z le fin within h)))
    (λ end h. found_as (Inline (Some col)) (λ t. AValue (Node (Some col) t) (Block t) col t) k (over a) a es z (λ t c form. inr (end, form))
    (inline_found (Some col) k (over a) es z fin within h))

-- a key and its value
record FoundPair (col : ℕ) (k' : List Frame) (a : At) (es : List Event) (z : State) : Type 0 where
  key : Scalar
  mid : At
  tree : Tree
  end : At
  continues : Bool
  rest : List Event
  is : IsKey key a mid
  value : AValue (Node (Some col) tree) (Block tree) col tree mid end
  emitted_is : es ≡ scalar_event key ∷ emitted tree rest
  runs : Runs (done continues end k') rest z
  less : length rest < length es
  shallow : depth tree + length k' ≤ 64

pair_found : (n : ℕ) → NodeLaw n → (k : List Frame) (col : ℕ) (a : At) (es : List Event) (z : State) → length es ≤ suc n → z.mode ≡ Ended → length k < 64 → a.col ≡ col
    → From (k ++ (InMap col ∷ [])) (key_step a) es z → FoundPair col (k ++ (InMap col ∷ [])) a es z
unfolding key_step
pair_found n law k col a es z le fin room here h =
    let k' = k ++ (InMap col ∷ []) in
    let within : length k' ≤ 64 = omega (arith, length_pushed k (InMap col)) in
    let b = bound (key_at a) (key_transition a.col) k' es z h in
    let w = went k' (key_transition a.col b.value) es z b.continues in
    let runs = subst (λ (c : ℕ). Runs (state (Value c) k' b.value.end) w.tail z) here w.runs in
    let value = subst (λ (r : Result Transition Fault). From k' r w.tail z) (at_value (suc (length k)) col (Some (InMap col)) b.value.end)
    (continues_in (Value col) k (InMap col) b.value.end w.tail z (λ e. absurd cc) fin runs) in
    let v = value_found n law k' col b.value.end w.tail z (omega (arith, ap length w.emitted_is)) fin within (at_depth k (InMap col) (λ (d : ℕ). value_at d col b.value.end) w.tail z value) in
    record {
      key = b.value.scalar;
      mid = b.value.end;
      tree = v.tree;
      end = v.end;
      continues = v.continues;
      rest = v.rest;
      is = key_form a b.value b.is;
      value = v.form;
      emitted_is = w.emitted_is ∙ ap (λ (t : List Event). scalar_event b.value.scalar ∷ t) v.emitted_is;
      runs = v.runs;
      less = omega (arith, ap length w.emitted_is, v.less);
      shallow = v.shallow;
    }

record FoundEntries (col : ℕ) (k : List Frame) (a : At) (es : List Event) (z : State) : Type 0 where
  pairs : Pairs
  end : At
  rest : List Event
  form : Entries col pairs a end
  emitted_is : es ≡ pairs_emitted pairs (MappingEnd ∷ rest)
  runs : Runs (done false end k) rest z
  less : length rest < length es
  shallow : pair_depths pairs + suc (length k) ≤ 64

map_step : {P : Type 0} (k : List Frame) (col : ℕ) (g : Bool) (a : At) (es : List Event) (z : State) → From k (map_done col g a) es z
    → (map_ends col a ≡ true → From k (Ok (block_end MappingEnd a)) es z → P) → (map_ends col a ≡ false → eqb a.col col ≡ true → From k (key_step a) es z → P) → P
unfolding map_done
map_step k col g a es z h over further =
    choose k (map_ends col a) _ _ es z h over
    (λ on h. choose k (eqb a.col col) _ _ es z h (λ here h. further on here h) (λ _ h. refused k (line_fault g a) es z h))

entries_found : (n : ℕ) → NodeLaw n → (m : ℕ) → m ≤ n → (k : List Frame) (col : ℕ) (g : Bool) (a : At) (es : List Event) (z : State) → length es ≤ m → z.mode ≡ Ended → length k < 64
    → From (k ++ (InMap col ∷ [])) (map_done col g a) es z → FoundEntries col k a es z
entries_found n law zero le k col g a [] z short fin room h = absurd h
entries_found n law zero le k col g a (e ∷ es) z short fin room h = absurd (omega arith)
entries_found n law (suc m) le k col g a es z short fin room h =
    let k' = k ++ (InMap col ∷ []) in
    map_step k' col g a es z h
    (λ end h. let c = block_end_found k (InMap col) MappingEnd a es z h in
    record { pairs = no_pairs; end = a; rest = c.tail; form = (end, refl); emitted_is = c.emitted_is; runs = c.runs; less = c.less; shallow = omega arith })
    (λ on here h.
    let p = pair_found n law k col a es z (omega arith) fin room (eqb-true a.col col here) h in
    let further = subst (λ (r : Result Transition Fault). From k' r p.rest z) (at_done_map (suc (length k)) col p.continues p.end)
    (continues_in (Done p.continues) k (InMap col) p.end p.rest z (λ e. absurd cc) fin p.runs) in
    let i = entries_found n law m (omega arith) k col p.continues p.end p.rest z (omega (arith, p.less)) fin room further in
    record {
      pairs = pair p.key p.tree i.pairs;
      end = i.end;
      rest = i.rest;
      form = (p.mid, p.end, on, here, p.is, p.value, i.form);
      emitted_is = p.emitted_is ∙ ap (λ (t : List Event). scalar_event p.key ∷ emitted p.tree t) i.emitted_is;
      runs = i.runs;
      less = omega (arith, p.less, i.less);
      shallow = omega (arith, p.shallow, i.shallow, length_pushed k (InMap col));
    })

block_map_found : (n : ℕ) → NodeLaw n → (k : List Frame) (a : At) (es : List Event) (z : State) → length es ≤ suc n → z.mode ≡ Ended
    → From k (map_start (length k) a) es z → FoundBy (λ t. Block t) k a es z
unfolding map_start
block_map_found n law k a es z le fin h =
    let f = InMap a.col in
    let k' = k ++ (f ∷ []) in
    let o = opened_at k (length k) MappingStart a Key f es z h in
    let short : length o.tail ≤ n = omega (arith, ap length o.emitted_is) in
    let entry = subst (λ (r : Result Transition Fault). From k' r o.tail z) (at_key (suc (length k)) (Some f) a) (continues_in Key k f a o.tail z (λ e. absurd cc) fin o.runs) in
    let p = pair_found n law k a.col a o.tail z (omega arith) fin o.room refl entry in
    let further = subst (λ (r : Result Transition Fault). From k' r p.rest z) (at_done_map (suc (length k)) a.col p.continues p.end)
    (continues_in (Done p.continues) k f p.end p.rest z (λ e. absurd cc) fin p.runs) in
    let i = entries_found n law n (omega arith) k a.col p.continues p.end p.rest z (omega (arith, short, p.less)) fin o.room further in
    record {
      tree = Map (pair p.key p.tree i.pairs);
      end = i.end;
      continues = false;
      rest = i.rest;
      form = (p.mid, p.end, p.is, p.value, i.form);
      emitted_is = o.emitted_is ∙ ap (λ (t : List Event). MappingStart ∷ t) (p.emitted_is ∙ ap (λ (t : List Event). scalar_event p.key ∷ emitted p.tree t) i.emitted_is);
      runs = i.runs;
      less = omega (arith, ap length o.emitted_is, p.less, i.less);
      shallow = omega (arith, p.shallow, i.shallow, length_pushed k f);
    }

block_node : (parent : Option ℕ) (t : Tree) (a b : At) → Block t a b → Node parent t a b
block_node parent (Leaf s) a b form = absurd form
block_node parent (Seq ts) a b form = inr form
block_node parent (Map ps) a b form = inr form

pub node_law : (n : ℕ) → NodeLaw n
unfolding node_at
node_law zero k parent a [] z le fin within h = absurd h
node_law zero k parent a (e ∷ es) z le fin within h = absurd (omega arith)
node_law (suc n) k parent a es z le fin within h =
    choose k (is_dash a.line) _ _ es z h
    (λ dash h. found_as (λ t. Block t) (Node parent) k a a es z (λ t c form. block_node parent t a c form) (list_found n (node_law n) k a es z le fin dash h))
    (λ _ h. choose k (is_key a) _ _ es z h
    (λ _ h. found_as (λ t. Block t) (Node parent) k a a es z (λ t c form. block_node parent t a c form) (block_map_found n (node_law n) k a es z le fin h))
    (λ _ h. found_as (Inline parent) (Node parent) k a a es z (λ t c form. inline_node parent t a c form) (inline_found parent k a es z fin within h)))
