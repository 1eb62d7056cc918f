-- One item or entry more of a loop over values of any kind.
use Rattle.std.proofs.Common.{◌≡◌, ℕ, suc, ◌+◌, ◌-◌, ◌<◌, List, Bool, true, false, cond, nat_lt, Result, Ok, Err, refl, ◌∙◌, arith, bytes_eq}
use Rattle.indexmap.specs.IndexMap.{insert_entry}
use Rattle.warg_values.specs.Reading.{◌>>=◌}
use Rattle.yaml_small.specs.declared.event.Event.{Event}
use Rattle.yaml_small.specs.Data.{Data}
use Rattle.yaml_read.specs.declared.bracket.Bracket.TheVariants as brackets
use Rattle.yaml_read.specs.Source.{Source, WrongEvent, TooManyEvents, front, Refused, refused}
use Rattle.yaml_read.specs.Scalar.{any_at}
use Rattle.yaml_read.specs.Collections.{is_stream_end, end_at, item_at, items_at, entry_at, entries_at, mapped_at, pushed, seq_at, map_at}
use Rattle.yaml_read.proofs.Loops.{items_step, entries_step}
use Rattle.yaml_read.specs.Any.{by_kind, scalar_at, item_takes, entry_takes, nested_in, nested_under, data_at, passed_scalar, item_passed, value_passed, ignored_at}

-- a value within a list or map that is put to something
item_mapped : {X Y Z : Type 0} (f : X → Y) (read : Source → Result (X × Source) Refused) (s : Source) (g : Y × Source → Result Z Refused)
    → (item_at (mapped_at f read) s >>= g) ≡ (item_at read s >>= λ x. g (f x.0, x.1))
unfolding item_at
item_mapped {X} {Y} {Z} f read s g = by_front (front s)
  where
    by_left : (event : Event) (x : X × Source) (b : Bool) → (cond b (Ok (f x.0, x.1)) (refused x.1 (WrongEvent event)) >>= g) ≡ (cond b (Ok x) (refused x.1 (WrongEvent event)) >>= λ x. g (f x.0, x.1))
    by_left event x true = refl
    by_left event x false = refl

    by_read : (event : Event) (r : Result (X × Source) Refused)
        → (((r >>= λ x. Ok (f x.0, x.1)) >>= λ y. cond (nat_lt y.1.left s.left) (Ok y) (refused y.1 (WrongEvent event))) >>= g) ≡ ((r >>= λ x. cond (nat_lt x.1.left s.left) (Ok x) (refused x.1 (WrongEvent event))) >>= λ x. g (f x.0, x.1))
    by_read event (Ok x) = by_left event x (nat_lt x.1.left s.left)
    by_read event (Err refusal) = refl

    by_end : (event : Event) (b : Bool)
        → (cond b (refused s (WrongEvent event)) (mapped_at f read s >>= λ y. cond (nat_lt y.1.left s.left) (Ok y) (refused y.1 (WrongEvent event))) >>= g)
        ≡ (cond b (refused s (WrongEvent event)) (read s >>= λ x. cond (nat_lt x.1.left s.left) (Ok x) (refused x.1 (WrongEvent event))) >>= λ x. g (f x.0, x.1))
    by_end event true = refl
    by_end event false = by_read event (read s)

    by_front : (r : Result Event Refused)
        → ((r >>= λ event. cond (is_stream_end event) (refused s (WrongEvent event)) (mapped_at f read s >>= λ y. cond (nat_lt y.1.left s.left) (Ok y) (refused y.1 (WrongEvent event)))) >>= g)
        ≡ ((r >>= λ event. cond (is_stream_end event) (refused s (WrongEvent event)) (read s >>= λ x. cond (nat_lt x.1.left s.left) (Ok x) (refused x.1 (WrongEvent event)))) >>= λ x. g (f x.0, x.1))
    by_front (Ok event) = by_end event (is_stream_end event)
    by_front (Err refusal) = refl

bind_same : {X Y : Type 0} (r : Result X Refused) (f g : X → Result Y Refused) → ((x : X) → f x ≡ g x) → (r >>= f) ≡ (r >>= g)
bind_same (Ok x) f g same = same x
bind_same (Err refusal) f g same = refl

cond_same : {X : Type 0} (b : Bool) (x y z : X) → y ≡ z → cond b x y ≡ cond b x z
cond_same true x y z same = refl
cond_same false x y z same = same

bind_twice : {A B C : Type 0} (r : Result A Refused) (g : A → Result B Refused) (h : B → Result C Refused) → ((r >>= g) >>= h) ≡ (r >>= λ a. g a >>= h)
bind_twice (Ok a) g h = refl
bind_twice (Err refusal) g h = refl

pub values_step : (read : Source → Result (Data × Source) Refused) (most at : ℕ) (values : List Data) (s : Source) → at < most
    → items_at (item_takes read) (most - at) at values s
    ≡ (end_at brackets.ListEnd s >>= λ end. cond end.0 (Ok (values, end.1)) (item_at read end.1 >>= λ v. items_at (item_takes read) (most - (at + 1)) (at + 1) (pushed values v.0) v.1))
unfolding items_at item_takes
values_step read most at values s lt =
    let is : most - at ≡ suc (most - (at + 1)) = omega arith in
    rw is (bind_same (end_at brackets.ListEnd s) _ _ (λ end. cond_same end.0 _ _ _ (item_mapped (pushed values) read end.1 (λ y. items_at (item_takes read) (most - (at + 1)) (at + 1) y.0 y.1))))

pub members_step : (read : Source → Result (Data × Source) Refused) (most at : ℕ) (entries : List (List ℕ × Data)) (s : Source) → at < most
    → entries_at (entry_takes read) (most - at) entries s
    ≡ (end_at brackets.MapEnd s >>= λ end. cond end.0 (Ok (entries, end.1))
    (any_at end.1 >>= λ key. item_at read key.1 >>= λ v. entries_at (entry_takes read) (most - (at + 1)) (insert_entry bytes_eq entries key.0 v.0) v.1))
unfolding entries_at entry_at entry_takes
members_step read most at entries s lt =
    let is : most - at ≡ suc (most - (at + 1)) = omega arith in
    rw is (bind_same (end_at brackets.MapEnd s) _ _ (λ end. cond_same end.0 _ _ _ (under end.1)))
  where
    under : (m : Source) → ((any_at m >>= λ key. item_at (entry_takes read entries key.0) key.1) >>= λ y. entries_at (entry_takes read) (most - (at + 1)) y.0 y.1)
        ≡ (any_at m >>= λ key. item_at read key.1 >>= λ v. entries_at (entry_takes read) (most - (at + 1)) (insert_entry bytes_eq entries key.0 v.0) v.1)
    under m = rw (bind_twice (any_at m) (λ key. item_at (entry_takes read entries key.0) key.1) (λ y. entries_at (entry_takes read) (most - (at + 1)) y.0 y.1))
        (bind_same (any_at m) _ _ (λ key. item_mapped (insert_entry bytes_eq entries key.0) read key.1 (λ y. entries_at (entry_takes read) (most - (at + 1)) y.0 y.1)))

pub passed_step : (read : Source → Result (Unit {0} × Source) Refused) (most at : ℕ) (s : Source) → at < most
    → items_at (item_passed read) (most - at) at tt s ≡ (end_at brackets.ListEnd s >>= λ end. cond end.0 (Ok (tt, end.1)) (item_at read end.1 >>= λ y. items_at (item_passed read) (most - (at + 1)) (at + 1) y.0 y.1))
unfolding item_passed
passed_step read most at s lt = items_step (item_passed read) most at tt s lt

pub passed_entry_step : (read : Source → Result (Unit {0} × Source) Refused) (most at : ℕ) (s : Source) → at < most
    → entries_at (value_passed read) (most - at) tt s
    ≡ (end_at brackets.MapEnd s >>= λ end. cond end.0 (Ok (tt, end.1)) (any_at end.1 >>= λ key. item_at read key.1 >>= λ y. entries_at (value_passed read) (most - (at + 1)) y.0 y.1))
unfolding entry_at value_passed
passed_entry_step read most at s lt =
    entries_step (value_passed read) most at tt s lt
    ∙ bind_same (end_at brackets.MapEnd s) _ _ (λ end. cond_same end.0 _ _ _
    (bind_twice (any_at end.1) (λ key. item_at read key.1) (λ y. entries_at (value_passed read) (most - (at + 1)) y.0 y.1)))

-- a value and what is nested in it, one level more
pub data_none : (levels : ℕ) (s : Source) → levels ≡ 0 → data_at levels s ≡ refused s TooManyEvents
unfolding data_at
data_none levels s is = rw is refl

data_at_more : (levels inner : ℕ) (s : Source) → levels ≡ suc inner → data_at levels s ≡ (front s >>= λ event. by_kind scalar_at (nested_in (data_at inner)) (nested_under (data_at inner)) event s)
unfolding data_at
data_at_more levels inner s is = rw is refl

pub data_more : (levels : ℕ) (s : Source) → 0 < levels → data_at levels s ≡ (front s >>= λ event. by_kind scalar_at (nested_in (data_at (levels - 1))) (nested_under (data_at (levels - 1))) event s)
data_more levels s lt = data_at_more levels (levels - 1) s (omega arith)

pub ignored_none : (levels : ℕ) (s : Source) → levels ≡ 0 → ignored_at levels s ≡ refused s TooManyEvents
unfolding ignored_at
ignored_none levels s is = rw is refl

ignored_at_more : (levels inner : ℕ) (s : Source) → levels ≡ suc inner
    → ignored_at levels s ≡ (front s >>= λ event. by_kind passed_scalar (seq_at (item_passed (ignored_at inner)) tt) (map_at (value_passed (ignored_at inner)) tt) event s)
unfolding ignored_at
ignored_at_more levels inner s is = rw is refl

pub ignored_more : (levels : ℕ) (s : Source) → 0 < levels
    → ignored_at levels s ≡ (front s >>= λ event. by_kind passed_scalar (seq_at (item_passed (ignored_at (levels - 1))) tt) (map_at (value_passed (ignored_at (levels - 1))) tt) event s)
ignored_more levels s lt = ignored_at_more levels (levels - 1) s (omega arith)
