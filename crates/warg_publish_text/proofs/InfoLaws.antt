-- What is to be published, written, is read as it was.
use Rattle.std.proofs.Common.{◌≡◌, ◌<◌, ◌≤◌, ℕ, true, false, List, length, take, Option, Some, None, refl, arith}
use Rattle.std.specs.Prelude.{Ok, IfSome}
use Rattle.std.specs.List.{AllByRecursion}
use Rattle.serde_json.specs.Data.{null, boolean, number, string, array, object, depth}
use Rattle.serde_json.specs.Read.{max_depth}
use Rattle.serde_json.specs.Written.{has_float}
use Rattle.warg_hash.specs.Name.{is_package_name}
use Rattle.warg_publish.specs.Publish.{PlainPublishInfo, PlainPublishEntry, IsPublishableEntry}
use Rattle.warg_publish_text.specs.PublishText.{publish_data, publish_in, publish_of, publish_text}
use Rattle.warg_publish_text.specs.ReadsBack.{NamesItself, ReadsBack}
use Rattle.warg_publish_text.proofs.EntryLaws.{entries_read, entries_no_float, entries_nest}
use Rattle.warg_publish_text.proofs.LinesLaws.{IsLines, OnlyObjects, HasNoFront, lines_are, lines_whole, lines_front}

abbrev infoed : Option (List ℕ) → List ℕ → List PlainPublishEntry → PlainPublishInfo
infoed head name entries = record { name = name; head = head; entries = entries }

reads : (head : Option (List ℕ)) (name : List ℕ) (es : List PlainPublishEntry) → AllByRecursion ReadsBack es → AllByRecursion IsPublishableEntry es → IfSome head NamesItself → is_package_name name ≡ true
    → publish_in (publish_data (infoed head name es)) ≡ Ok (infoed head name es)
unfolding publish_in
reads None name es read can names is = rw (entries_read es read can, is) refl
reads (Some head) name es read can names is = rw (entries_read es read can, names, is) refl

no_float : (head : Option (List ℕ)) (name : List ℕ) (es : List PlainPublishEntry) → has_float (publish_data (infoed head name es)) ≡ false
no_float None name es = rw (entries_no_float es) refl
no_float (Some head) name es = rw (entries_no_float es) refl

nests : (head : Option (List ℕ)) (name : List ℕ) (es : List PlainPublishEntry) → depth (publish_data (infoed head name es)) ≤ max_depth
nests None name es = omega (arith, entries_nest es)
nests (Some head) name es = omega (arith, entries_nest es)

pub info_nests : (info : PlainPublishInfo) → depth (publish_data info) ≤ max_depth
info_nests info = nests info.head info.name info.entries

publish_only : OnlyObjects publish_in
unfolding publish_in
publish_only null never = refl
publish_only (boolean b) never = refl
publish_only (number k) never = refl
publish_only (string s) never = refl
publish_only (array ds) never = refl
publish_only (object ms) never = absurd (never ms refl)

module _ (text : List ℕ) (info : PlainPublishInfo) (is : IsLines text (publish_data info)) where
  pub info_text : text ≡ publish_text info
  info_text = lines_are text (publish_data info) is (no_float info.head info.name info.entries)

  pub info_whole : AllByRecursion ReadsBack info.entries → IfSome info.head NamesItself → is_package_name info.name ≡ true → AllByRecursion IsPublishableEntry info.entries
      → publish_of (publish_text info) ≡ Some info
  info_whole read names is_name can =
      lines_whole publish_in publish_only text (publish_data info) info is (no_float info.head info.name info.entries)
      (reads info.head info.name info.entries read can names is_name)

  pub info_front : HasNoFront → (n : ℕ) → n < length (publish_text info) → publish_of (take n (publish_text info)) ≡ None
  info_front law n lt = lines_front publish_in publish_only law text _ n is (no_float info.head info.name info.entries) lt
