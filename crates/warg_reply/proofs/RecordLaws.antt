-- What the members of records mean, and lists of records.
use Rattle.std.proofs.Common.{◌≡◌, ◌≤◌, ◌∷◌, [], ◌++◌, ℕ, List, Bool, map, refl, arith}
use Rattle.std.specs.Prelude.{Ok, max}
use Rattle.std.proofs.Math.Nat.{max-le}
use Rattle.std.proofs.lemmas.List.{map_push}
use Rattle.base64.specs.Engines.{standard}
use Rattle.base64.specs.GeneralPurpose.{decode_of}
use Rattle.serde_json.specs.Data.{Data, depth, items_depth}
use Rattle.serde_json.specs.View.{view, items_of}
use Rattle.serde_json.specs.declared.value.Value.{Value}
use Rattle.warg_exchange.specs.Body.{Meaning, each_item, list_in, hashed_in}
use Rattle.warg_exchange.specs.Replies.{published_in, page_in}
use Rattle.warg_exchange.specs.declared.logs.PublishedRecord.{PublishedRecord}
use Rattle.warg_reply.specs.Bodies.{published_data, page_data}
use Rattle.warg_reply.specs.OrderLaws.{Entries, Reads}

pub published_read : (r : PublishedRecord) (contents : List ℕ) → decode_of standard contents ≡ Ok r.content_bytes → published_in (published_data contents r) ≡ Ok r
unfolding published_in
published_read r contents is = rw is refl

module _ {X : Type 0} (f : Data → Meaning X) (n : ℕ) where
  -- each value is read as an item
  abbrev pub ItemsRead : List Data → List X → Type 0
  ItemsRead [] [] = Unit {0}
  ItemsRead [] (x ∷ xs) = ⊥
  ItemsRead (d ∷ ds) [] = ⊥
  ItemsRead (d ∷ ds) (x ∷ xs) = Reads f n d x × ItemsRead ds xs

  pub one_more : (ds : List Data) (xs : List X) (d : Data) (x : X) → ItemsRead ds xs → Reads f n d x → ItemsRead (ds ++ d ∷ []) (xs ++ x ∷ [])
  one_more [] [] d x all is = (is, tt)
  one_more [] (y ∷ xs) d x all is = absurd all
  one_more (e ∷ ds) [] d x all is = absurd all
  one_more (e ∷ ds) (y ∷ xs) d x all is = (all.0, one_more ds xs d x all.1 is)

  pub items_read : (ds : List Data) (xs : List X) → ItemsRead ds xs → each_item f (items_of ds) ≡ Ok xs
  unfolding each_item
  items_read [] [] all = refl
  items_read [] (y ∷ xs) all = absurd all
  items_read (e ∷ ds) [] all = absurd all
  items_read (e ∷ ds) (y ∷ xs) all = rw (all.0.0, items_read ds xs all.1) refl

  pub items_nest : (ds : List Data) (xs : List X) → ItemsRead ds xs → items_depth (items_of ds) ≤ n
  items_nest [] xs all = omega arith
  items_nest (e ∷ ds) [] all = absurd all
  items_nest (e ∷ ds) (y ∷ xs) all = max-le all.0.1 (items_nest ds xs all.1)

-- a value was pushed
pub pushed : {X : Type 0} (f : Data → Meaning X) (n : ℕ) (vs : List Value) (v : Value) (xs : List X) (x : X) → ItemsRead f n (map view vs) xs → Reads f n (view v) x → ItemsRead f n (map view (vs ++ v ∷ [])) (xs ++ x ∷ [])
pushed f n vs v xs x all is = rw (map_push view vs v) (one_more f n (map view vs) xs (view v) x all is)

pub page_read : (more : Bool) (operator packages : Data) (records : List PublishedRecord) (logs : Entries (List PublishedRecord)) → list_in published_in operator ≡ Ok records → hashed_in (list_in published_in) packages ≡ Ok logs
    → page_in (page_data more operator packages) ≡ Ok (record { more = more; operator = records; packages = logs })
unfolding page_in
page_read more operator packages records logs first second = rw (first, second) refl

pub page_nests : (more : Bool) (operator packages : Data) → depth operator ≤ 2 → depth packages ≤ 3 → depth (page_data more operator packages) ≤ 4
page_nests more operator packages first second =
    let inside : max (depth operator) (max (depth packages) 0) ≤ 3 = max-le (omega (arith, first)) (max-le second (omega arith)) in
    omega (arith, inside)
