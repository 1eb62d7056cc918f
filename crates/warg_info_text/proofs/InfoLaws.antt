-- What is kept of a log, written, is read as it was.
use Rattle.std.proofs.Common.{◌≡◌, ◌≤◌, ◌<◌, ℕ, nat_eq, Bool, true, false, ◌&&◌, cond, List, length, take, map, bytes_eq, Option, Some, None, is_some, option_map, option_and_then, codes, refl, sym, ap, subst, ◌∙◌, arith}
use Rattle.std.specs.Prelude.{Ok, IfSome}
use Rattle.std.specs.Option.{option_eq}
use Rattle.std.specs.Result.{result_ok}
use Rattle.std.specs.Str.{is_utf8}
use Rattle.std.specs.List.{AllByRecursion}
use Rattle.std.proofs.lemmas.Bool.{eq-eqb}
use Rattle.std.specs.Cmp.Lexicographic.{nat_list_eq_equiv}
use Rattle.json.specs.Layout.{pretty}
use Rattle.json.specs.Lex.{tokens}
use Rattle.serde_json.specs.Data.{Data, null, boolean, number, string, array, object, Members, no_members, member, depth}
use Rattle.serde_json.specs.Find.{get_member}
use Rattle.serde_json.specs.Read.{read, max_depth}
use Rattle.serde_json.specs.View.{items_of}
use Rattle.serde_json.specs.Written.{IsInOrder, has_float}
use Rattle.serde_json.proofs.Texts.{tokens_from_order}
use Rattle.warg_values.specs.Reading.{◌>>=◌}
use Rattle.warg_hash.specs.Name.{is_package_name}
use Rattle.warg_record.specs.Record.{Kind, Operator, Package}
use Rattle.warg_exchange.specs.declared.checkpoint.Checkpoint.{Checkpoint}
use Rattle.warg_exchange.specs.Body.{Meaning, required, given_as, number_in, text_in, formed_in}
use Rattle.warg_exchange.specs.Replies.{json_of, contents_in, checkpoint_in}
use Rattle.warg_exchange.specs.Requests.{whole_number, contents_data}
use Rattle.warg_info.specs.Kept.{last_index, last_token}
use Rattle.warg_store.specs.Held.{Info}
use Rattle.warg_info_text.specs.StoredLogs.{log_in}
use Rattle.warg_info_text.specs.StoredTexts.{meaning_of, Stored, stored_in, has_head, info_of, operator_of, package_of, lines_of, kept_data, optional_member, info_data}
use Rattle.warg_info_text.specs.Writable.{IsWritable, IsWritableName, put_optional}
use Rattle.warg_info_text.proofs.MemberLaws.{IsBefore, before_optional, put_in_order, passed, found, no_floats, nests}
use Rattle.warg_info_text.proofs.RecordLaws.{published_of, list_read, records_no_float, records_nest}

-- ---- the members

module _ (c t i n r : Option Data) (records : Data) where
  abbrev at_registry : Members
  at_registry = optional_member (codes "registry") r no_members

  abbrev at_records : Members
  at_records = member (codes "records") records at_registry

  abbrev at_name : Members
  at_name = optional_member (codes "name") n at_records

  abbrev at_index : Members
  at_index = optional_member (codes "headRegistryIndex") i at_name

  abbrev at_token : Members
  at_token = optional_member (codes "headFetchToken") t at_index

  abbrev pub all_members : Members
  all_members = optional_member (codes "checkpoint") c at_token

  -- put one after the other
  abbrev pub put_members : Members
  put_members =
      put_optional (codes "checkpoint") c (put_optional (codes "headFetchToken") t (put_optional (codes "headRegistryIndex") i
      (put_optional (codes "name") n (put_optional (codes "records") (Some records) (put_optional (codes "registry") r no_members)))))

  pub members_in_order : put_members ≡ all_members
  members_in_order =
      let before_records : IsBefore (codes "records") at_registry = before_optional (codes "records") (codes "registry") r no_members refl tt in
      let before_name : IsBefore (codes "name") at_records = refl in
      let before_index : IsBefore (codes "headRegistryIndex") at_name = before_optional (codes "headRegistryIndex") (codes "name") n at_records refl refl in
      let before_token : IsBefore (codes "headFetchToken") at_index =
      before_optional (codes "headFetchToken") (codes "headRegistryIndex") i at_name refl (before_optional (codes "headFetchToken") (codes "name") n at_records refl refl) in
      let before_checkpoint : IsBefore (codes "checkpoint") at_token =
      before_optional (codes "checkpoint") (codes "headFetchToken") t at_index refl
      (before_optional (codes "checkpoint") (codes "headRegistryIndex") i at_name refl (before_optional (codes "checkpoint") (codes "name") n at_records refl refl)) in
      ap (λ ms. put_optional (codes "checkpoint") c (put_optional (codes "headFetchToken") t (put_optional (codes "headRegistryIndex") i (put_optional (codes "name") n (put_optional (codes "records") (Some records) ms))))) (put_in_order (codes "registry") r no_members tt)
      ∙ ap (λ ms. put_optional (codes "checkpoint") c (put_optional (codes "headFetchToken") t (put_optional (codes "headRegistryIndex") i (put_optional (codes "name") n ms)))) (put_in_order (codes "records") (Some records) at_registry before_records)
      ∙ ap (λ ms. put_optional (codes "checkpoint") c (put_optional (codes "headFetchToken") t (put_optional (codes "headRegistryIndex") i ms))) (put_in_order (codes "name") n at_records before_name)
      ∙ ap (λ ms. put_optional (codes "checkpoint") c (put_optional (codes "headFetchToken") t ms)) (put_in_order (codes "headRegistryIndex") i at_name before_index)
      ∙ ap (λ ms. put_optional (codes "checkpoint") c ms) (put_in_order (codes "headFetchToken") t at_index before_token)
      ∙ put_in_order (codes "checkpoint") c at_token before_checkpoint

  found_registry : get_member (codes "registry") all_members ≡ r
  found_registry =
      passed (codes "registry") (codes "checkpoint") c at_token tt ∙ passed (codes "registry") (codes "headFetchToken") t at_index tt
      ∙ passed (codes "registry") (codes "headRegistryIndex") i at_name tt ∙ passed (codes "registry") (codes "name") n at_records tt
      ∙ found (codes "registry") r no_members refl refl

  found_records : get_member (codes "records") all_members ≡ Some records
  found_records =
      passed (codes "records") (codes "checkpoint") c at_token tt ∙ passed (codes "records") (codes "headFetchToken") t at_index tt
      ∙ passed (codes "records") (codes "headRegistryIndex") i at_name tt ∙ passed (codes "records") (codes "name") n at_records tt

  found_name : get_member (codes "name") all_members ≡ n
  found_name =
      passed (codes "name") (codes "checkpoint") c at_token tt ∙ passed (codes "name") (codes "headFetchToken") t at_index tt
      ∙ passed (codes "name") (codes "headRegistryIndex") i at_name tt
      ∙ found (codes "name") n at_records refl (passed (codes "name") (codes "registry") r no_members tt)

  found_index : get_member (codes "headRegistryIndex") all_members ≡ i
  found_index =
      passed (codes "headRegistryIndex") (codes "checkpoint") c at_token tt ∙ passed (codes "headRegistryIndex") (codes "headFetchToken") t at_index tt
      ∙ found (codes "headRegistryIndex") i at_name refl
      (passed (codes "headRegistryIndex") (codes "name") n at_records tt ∙ passed (codes "headRegistryIndex") (codes "registry") r no_members tt)

  found_token : get_member (codes "headFetchToken") all_members ≡ t
  found_token =
      passed (codes "headFetchToken") (codes "checkpoint") c at_token tt
      ∙ found (codes "headFetchToken") t at_index refl
      (passed (codes "headFetchToken") (codes "headRegistryIndex") i at_name tt ∙ passed (codes "headFetchToken") (codes "name") n at_records tt
      ∙ passed (codes "headFetchToken") (codes "registry") r no_members tt)

  found_checkpoint : get_member (codes "checkpoint") all_members ≡ c
  found_checkpoint =
      found (codes "checkpoint") c at_token refl
      (passed (codes "checkpoint") (codes "headFetchToken") t at_index tt ∙ passed (codes "checkpoint") (codes "headRegistryIndex") i at_name tt
      ∙ passed (codes "checkpoint") (codes "name") n at_records tt ∙ passed (codes "checkpoint") (codes "registry") r no_members tt)

-- ---- what each means

given_checkpoint : (c : Option Checkpoint) → IfSome c (λ x. contents_in (contents_data x) ≡ Ok x) → given_as contents_in (option_map contents_data c) ≡ Ok c
given_checkpoint None is = refl
given_checkpoint (Some c) is = ap (λ (r : Meaning Checkpoint). r >>= λ x. Ok (Some x)) is

given_text : (t : Option (List ℕ)) → given_as text_in (option_map string t) ≡ Ok t
given_text None = refl
given_text (Some t) = refl

given_number : (i : Option ℕ) → given_as number_in (option_map whole_number i) ≡ Ok i
given_number None = refl
given_number (Some i) = refl

given_name : (n : Option (List ℕ)) → IfSome n IsWritableName → given_as (formed_in is_package_name) (option_map string n) ≡ Ok n
given_name None is = refl
given_name (Some n) is = rw is refl

-- what is stored of a log
abbrev pub stored_of : Option (List ℕ) → Info → Stored
stored_of name info = record {
  name = name;
  registry = info.registry;
  checkpoint = info.checkpoint;
  records = map published_of info.log;
  head_registry_index = last_index info.log;
  head_fetch_token = last_token info.log;
}

module _ (name : Option (List ℕ)) (info : Info) (writable : AllByRecursion IsWritable info.log) (named : IfSome name IsWritableName) (proved : IfSome info.checkpoint (λ x. contents_in (contents_data x) ≡ Ok x)) where
  abbrev c : Option Data
  c = option_map contents_data info.checkpoint

  abbrev t : Option Data
  t = option_map string (last_token info.log)

  abbrev i : Option Data
  i = option_map whole_number (last_index info.log)

  abbrev n : Option Data
  n = option_map string name

  abbrev r : Option Data
  r = option_map string info.registry

  abbrev records : Data
  records = array (items_of (map kept_data info.log))

  pub stored_reads : stored_in (info_data name info) ≡ Ok (stored_of name info)
  unfolding stored_in
  stored_reads =
      rw (
        found_checkpoint c t i n r records,
        given_checkpoint info.checkpoint proved,
        found_token c t i n r records,
        given_text (last_token info.log),
        found_index c t i n r records,
        given_number (last_index info.log),
        found_name c t i n r records,
        given_name name named,
        found_records c t i n r records,
        list_read info.log writable,
        found_registry c t i n r records,
        given_text info.registry,
      ) refl

no_float_in : {X : Type 0} (f : X → Data) (o : Option X) → ((x : X) → has_float (f x) ≡ false) → IfSome (option_map f o) (λ d. has_float d ≡ false)
no_float_in f None is = tt
no_float_in f (Some x) is = is x

flat_in : {X : Type 0} (f : X → Data) (k : ℕ) (o : Option X) → ((x : X) → depth (f x) ≤ k) → IfSome (option_map f o) (λ d. depth d ≤ k)
flat_in f k None is = tt
flat_in f k (Some x) is = is x

module _ (name : Option (List ℕ)) (info : Info) where
  abbrev records_of : Data
  records_of = array (items_of (map kept_data info.log))

  abbrev from_registry : Members
  from_registry = optional_member (codes "registry") (option_map string info.registry) no_members

  abbrev from_records : Members
  from_records = optional_member (codes "records") (Some records_of) from_registry

  abbrev from_name : Members
  from_name = optional_member (codes "name") (option_map string name) from_records

  abbrev from_index : Members
  from_index = optional_member (codes "headRegistryIndex") (option_map whole_number (last_index info.log)) from_name

  abbrev from_token : Members
  from_token = optional_member (codes "headFetchToken") (option_map string (last_token info.log)) from_index

  pub info_no_float : has_float (info_data name info) ≡ false
  info_no_float =
      no_floats (codes "checkpoint") (option_map contents_data info.checkpoint) from_token (no_float_in contents_data info.checkpoint (λ x. refl))
      (no_floats (codes "headFetchToken") (option_map string (last_token info.log)) from_index (no_float_in string (last_token info.log) (λ x. refl))
      (no_floats (codes "headRegistryIndex") (option_map whole_number (last_index info.log)) from_name (no_float_in whole_number (last_index info.log) (λ x. refl))
      (no_floats (codes "name") (option_map string name) from_records (no_float_in string name (λ x. refl))
      (no_floats (codes "records") (Some records_of) from_registry (records_no_float info.log)
      (no_floats (codes "registry") (option_map string info.registry) no_members (no_float_in string info.registry (λ x. refl)) refl)))))

  pub info_nests : depth (info_data name info) ≤ max_depth
  info_nests =
      let list = records_nest info.log in
      let inner =
      nests 2 (codes "checkpoint") (option_map contents_data info.checkpoint) from_token (flat_in contents_data 2 info.checkpoint (λ x. omega arith))
      (nests 2 (codes "headFetchToken") (option_map string (last_token info.log)) from_index (flat_in string 2 (last_token info.log) (λ x. omega arith))
      (nests 2 (codes "headRegistryIndex") (option_map whole_number (last_index info.log)) from_name (flat_in whole_number 2 (last_index info.log) (λ x. omega arith))
      (nests 2 (codes "name") (option_map string name) from_records (flat_in string 2 name (λ x. omega arith))
      (nests 2 (codes "records") (Some records_of) from_registry (omega (arith, list))
      (nests 2 (codes "registry") (option_map string info.registry) no_members (flat_in string 2 info.registry (λ x. omega arith)) (omega arith)))))) in
      omega (arith, inner)

-- ---- the log

same_number : (o : Option ℕ) → option_eq nat_eq o o ≡ true
same_number None = refl
same_number (Some k) = eq-eqb k k refl

same_text : (o : Option (List ℕ)) → option_eq bytes_eq o o ≡ true
same_text None = refl
same_text (Some t) = nat_list_eq_equiv.refl t

both : (a b : Bool) → a ≡ true → b ≡ true → (a && b) ≡ true
both true b p q = q
both false b p q = absurd cc

pub info_reads : (kind : Kind) (name : Option (List ℕ)) (info : Info) → log_in kind (map published_of info.log) ≡ Some info.log → info_of kind (stored_of name info) ≡ Some info
info_reads kind name info is =
    let head : has_head (stored_of name info) info.log ≡ true = both _ _ (same_number (last_index info.log)) (same_text (last_token info.log)) in
    rw (is, head) refl

-- ---- texts

pub meant_by : {X : Type 0} (f : Data → Meaning X) (bytes : List ℕ) (d : Data) (x : X) → json_of bytes ≡ Some d → f d ≡ Ok x → meaning_of f bytes ≡ Some x
meant_by f bytes d x is means = rw (is, means) refl

pub lines_are : (text : List ℕ) (d : Data) → text ≡ pretty (tokens text) → IsInOrder text d → has_float d ≡ false → text ≡ lines_of d
lines_are text d laid order plain = laid ∙ ap pretty (tokens_from_order text d order plain)

-- what no object means
abbrev pub OnlyObjects : {X : Type 0} → (Data → Meaning X) → Type 0
OnlyObjects f = (d : Data) → ((ms : Members) → d ≡ object ms → ⊥) → result_ok (f d) ≡ None

pub stored_only : OnlyObjects stored_in
unfolding stored_in
stored_only null never = refl
stored_only (boolean b) never = refl
stored_only (number k) never = refl
stored_only (string s) never = refl
stored_only (array ds) never = refl
stored_only (object ms) never = absurd (never ms refl)

pub checkpoint_only : OnlyObjects checkpoint_in
unfolding checkpoint_in
checkpoint_only null never = refl
checkpoint_only (boolean b) never = refl
checkpoint_only (number k) never = refl
checkpoint_only (string s) never = refl
checkpoint_only (array ds) never = refl
checkpoint_only (object ms) never = absurd (never ms refl)

module _ {X : Type 0} (f : Data → Meaning X) (only : OnlyObjects f) where
  no_value : (o : Option Data) → ((ms : Members) → o ≡ Some (object ms) → ⊥) → result_ok (required o >>= f) ≡ None
  no_value None never = refl
  no_value (Some d) never = only d (λ ms e. never ms (ap Some e))

  unless : (b : Bool) (o : Option Data) → ((ms : Members) → o ≡ Some (object ms) → ⊥) → (ms : Members) → cond b o None ≡ Some (object ms) → ⊥
  unless true o never ms e = never ms e
  unless false o never ms e = cc

  -- bytes that are read as no object mean nothing
  pub means_none : (bytes : List ℕ) → ((ms : Members) → read bytes ≡ Some (object ms) → ⊥) → meaning_of f bytes ≡ None
  means_none bytes never = no_value (json_of bytes) (unless (is_utf8 bytes) (read bytes) never)

-- ---- what is written

-- what is known of a text that is written of a value
pub record IsLines (text : List ℕ) (d : Data) : Type 0 where
  pub layout : text ≡ pretty (tokens text)
  pub order : IsInOrder text d
  pub json : json_of text ≡ Some d

pub lines_text : (text : List ℕ) (d : Data) → IsLines text d → has_float d ≡ false → text ≡ lines_of d
lines_text text d is plain = lines_are text d is.layout is.order plain

pub lines_whole : {X : Type 0} (f : Data → Meaning X) (text : List ℕ) (d : Data) (x : X) → IsLines text d → has_float d ≡ false → f d ≡ Ok x → meaning_of f (lines_of d) ≡ Some x
lines_whole f text d x is plain means = ap (meaning_of f) (sym (lines_text text d is plain)) ∙ meant_by f text d x is.json means

-- no proper front of a text in lines is read as an object
abbrev pub HasNoFront : Type 0
HasNoFront = (text : List ℕ) (whole front : Members) (n : ℕ) → text ≡ pretty (tokens text) → IsInOrder text (object whole) → n < length text → read (take n text) ≡ Some (object front) → ⊥

pub lines_front : HasNoFront → {X : Type 0} (f : Data → Meaning X) → OnlyObjects f → (text : List ℕ) (ms : Members) (n : ℕ) → IsLines text (object ms) → has_float (object ms) ≡ false
    → n < length (lines_of (object ms)) → meaning_of f (take n (lines_of (object ms))) ≡ None
lines_front law f only text ms n is plain lt =
    let same : text ≡ lines_of (object ms) = lines_text text (object ms) is plain in
    ap (λ t. meaning_of f (take n t)) (sym same)
    ∙ means_none f only (take n text) (λ front e. law text ms front n is.layout is.order (subst (λ (t : List ℕ). n < length t) (sym same) lt) e)

-- ---- of what is kept of a log

pub operator_whole : (text : List ℕ) (info : Info) → IsLines text (info_data None info) → AllByRecursion IsWritable info.log → IfSome info.checkpoint (λ x. contents_in (contents_data x) ≡ Ok x)
    → log_in Operator (map published_of info.log) ≡ Some info.log → operator_of (lines_of (info_data None info)) ≡ Some info
operator_whole text info is writable proved log =
    ap (option_and_then (λ (s : Stored). cond (is_some s.name) None (info_of Operator s)))
    (lines_whole stored_in text (info_data None info) (stored_of None info) is (info_no_float None info) (stored_reads None info writable tt proved))
    ∙ info_reads Operator None info log

pub package_whole : (text name : List ℕ) (info : Info) → IsLines text (info_data (Some name) info) → IsWritableName name → AllByRecursion IsWritable info.log → IfSome info.checkpoint (λ x. contents_in (contents_data x) ≡ Ok x)
    → log_in Package (map published_of info.log) ≡ Some info.log → package_of (lines_of (info_data (Some name) info)) ≡ Some (name, info)
package_whole text name info is named writable proved log =
    ap (option_and_then {U = List ℕ × Info} (λ (s : Stored). option_and_then {U = List ℕ × Info} (λ n. option_map (λ i. (n, i)) (info_of Package s)) s.name))
    (lines_whole stored_in text (info_data (Some name) info) (stored_of (Some name) info) is (info_no_float (Some name) info) (stored_reads (Some name) info writable named proved))
    ∙ ap (option_map (λ i. (name, i))) (info_reads Package (Some name) info log)

pub operator_front : HasNoFront → (text : List ℕ) (info : Info) (n : ℕ) → IsLines text (info_data None info) → n < length (lines_of (info_data None info)) → operator_of (take n (lines_of (info_data None info))) ≡ None
operator_front law text info n is lt =
    ap (option_and_then (λ (s : Stored). cond (is_some s.name) None (info_of Operator s))) (lines_front law stored_in stored_only text _ n is (info_no_float None info) lt)

pub package_front : HasNoFront → (text name : List ℕ) (info : Info) (n : ℕ) → IsLines text (info_data (Some name) info) → n < length (lines_of (info_data (Some name) info)) → package_of (take n (lines_of (info_data (Some name) info))) ≡ None
package_front law text name info n is lt =
    ap (option_and_then {U = List ℕ × Info} (λ (s : Stored). option_and_then {U = List ℕ × Info} (λ n. option_map (λ i. (n, i)) (info_of Package s)) s.name)) (lines_front law stored_in stored_only text _ n is (info_no_float (Some name) info) lt)
