-- A configuration as JSON: its members in order, each found again, and read as it was.
use Rattle.std.proofs.Common.{◌≡◌, ◌≤◌, ◌+◌, ℕ, Bool, true, false, ◌&&◌, ◌||◌, cond, List, [], ◌∷◌, ◌++◌, map, bytes_eq, Option, Some, None, option_map, codes, refl, sym, ap, subst, ◌∙◌, arith, append_assoc}
use Rattle.std.specs.Prelude.{IfSome, IsUtf8, fold, Ok, Err}
use Rattle.std.specs.Option.{option_or, option_map_or}
use Rattle.std.specs.Ordering.{nat_cmp, match_ordering}
use Rattle.std.specs.Cmp.Lexicographic.{slice_cmp, nat_list_eq_equiv}
use Rattle.std.specs.List.{AllByRecursion, IsDistinct, list_any}
use Rattle.std.specs.Str.{is_utf8}
use Rattle.std.specs.declared.cmp.Ordering.{Ordering}
use Rattle.std.specs.declared.cmp.Ordering.TheVariants.{Less, Equal, Greater}
use Rattle.std.proofs.Math.Nat.{max-le}
use Rattle.std.proofs.lemmas.Str.{IsUtf8-from_is_utf8, is_utf8-from_IsUtf8}
use Rattle.std.specs.Result.{result_ok}
use Rattle.json.specs.Layout.{pretty}
use Rattle.json.specs.Lex.{tokens}
use Rattle.serde_json.proofs.Texts.{tokens_from_order}
use Rattle.warg_values.specs.Reading.{◌>>=◌}
use Rattle.std.proofs.lemmas.List.{append-nil}
use Rattle.indexmap.specs.IndexSet.{insert_key, insert_all}
use Rattle.serde_json.specs.Data.{Data, boolean, string, array, object, Items, no_items, item, Members, no_members, member, put, depth, members_depth, items_depth}
use Rattle.serde_json.specs.Find.{as_str, get_member}
use Rattle.serde_json.specs.Read.{read, max_depth}
use Rattle.serde_json.specs.View.{items_of}
use Rattle.serde_json.specs.Written.{IsInOrder, has_float, members_have_float, items_have_float}
use Rattle.warg_config.specs.Answers.{put_given}
use Rattle.warg_config.specs.Settings.{Settings, Meaning, Form, meaning_of, required, text_in, flag_in, texts_in, keys_in, object_settings, settings_in, settings_of_bytes, members_given, text_data, flag_data, keys_data, given_of, settings_data, settings_text}

abbrev Given : Type 0
Given = List (List ℕ × Option Data)

abbrev cmp : List ℕ → List ℕ → Ordering
cmp a b = slice_cmp nat_cmp a b

-- ---- in order

abbrev is_less : Ordering → Bool
is_less Less = true
is_less Equal = false
is_less Greater = false

less_is : (o : Ordering) → is_less o ≡ true → o ≡ Less
less_is Less h = refl
less_is Equal h = absurd cc
less_is Greater h = absurd cc

both : (a b : Bool) → (a && b) ≡ true → (a ≡ true) × (b ≡ true)
both true b h = (refl, h)
both false b h = absurd cc

-- a name is less than each of these
abbrev pub comes_first : List ℕ → Given → Bool
comes_first name [] = true
comes_first name (g ∷ gs) = is_less (cmp name g.0) && comes_first name gs

put_before : (name : List ℕ) (d : Data) (gs : Given) → comes_first name gs ≡ true → put name d (members_given gs) ≡ member name d (members_given gs)
unfolding members_given
put_before name d [] h = refl
put_before name d ((k, None) ∷ gs) h = put_before name d gs (both (is_less (cmp name k)) (comes_first name gs) h).1
put_before name d ((k, Some e) ∷ gs) h =
    ap (λ (o : Ordering). match_ordering o (member name d (member k e (members_given gs))) (member k d (members_given gs)) (member k e (put name d (members_given gs))))
    (less_is (cmp name k) (both (is_less (cmp name k)) (comes_first name gs) h).0)

pub put_first : (name : List ℕ) (o : Option Data) (gs : Given) → comes_first name gs ≡ true → put_given name o (members_given gs) ≡ members_given ((name, o) ∷ gs)
unfolding members_given
put_first name None gs h = refl
put_first name (Some d) gs h = put_before name d gs h

pub none_given : members_given [] ≡ no_members
unfolding members_given
none_given = refl

-- one member more is put before the others
pub put_one : (name : List ℕ) (o given : Option Data) (gs : Given) (before after : Members) → comes_first name gs ≡ true
    → given ≡ o → after ≡ put_given name given before → before ≡ members_given gs → after ≡ members_given ((name, o) ∷ gs)
put_one name o given gs before after first same put those =
    put ∙ ap (λ g. put_given name g before) same ∙ ap (put_given name o) those ∙ put_first name o gs first

-- ---- found again

-- the member of a name
abbrev pub given_at : List ℕ → Given → Option Data
given_at name [] = None
given_at name (g ∷ gs) = match_ordering (cmp name g.0) (given_at name gs) (option_or g.1 (given_at name gs)) (given_at name gs)

same_of : (o : Ordering) (r : Option Data) → r ≡ match_ordering o r r r
same_of Less r = refl
same_of Equal r = refl
same_of Greater r = refl

pub got : (name : List ℕ) (gs : Given) → get_member name (members_given gs) ≡ given_at name gs
unfolding members_given
got name [] = refl
got name ((k, None) ∷ gs) = got name gs ∙ same_of (cmp name k) (given_at name gs)
got name ((k, Some d) ∷ gs) = ap (λ (r : Option Data). match_ordering (cmp name k) r (Some d) r) (got name gs)

pub or_none : (o : Option Data) → option_or o None ≡ o
or_none None = refl
or_none (Some d) = refl

-- ---- read as it was

pub text_back : (text : Option (List ℕ)) → text_in (text_data text) ≡ Ok text
text_back None = refl
text_back (Some text) = refl

texts_back : (texts : List (List ℕ)) → texts_in (items_of (map string texts)) ≡ Ok texts
unfolding texts_in
texts_back [] = refl
texts_back (text ∷ texts) = rw (texts_back texts) refl

at_mid : (P : List ℕ → Type 0) (done xs : List (List ℕ)) (x : List ℕ) → AllByRecursion P (done ++ x ∷ xs) → P x
at_mid P [] xs x all = all.0
at_mid P (d ∷ done) xs x all = at_mid P done xs x all.1

absent_before : (done xs : List (List ℕ)) (x : List ℕ) → IsDistinct bytes_eq (done ++ x ∷ xs) → list_any (bytes_eq x) done ≡ false
unfolding IsDistinct
absent_before [] xs x h = refl
absent_before (d ∷ done) xs x h =
    ap (λ b. b || list_any (bytes_eq x) done) (nat_list_eq_equiv.symm x d ∙ at_mid (λ y. bytes_eq d y ≡ false) done xs x h.0) ∙ absent_before done xs x h.1

pub all_inserted : (done xs : List (List ℕ)) → IsDistinct bytes_eq (done ++ xs) → insert_all bytes_eq done xs ≡ done ++ xs
all_inserted done [] h = sym (append-nil done)
all_inserted done (x ∷ xs) h =
    ap (λ (b : Bool). insert_all bytes_eq (cond b done (done ++ x ∷ [])) xs) (absent_before done xs x h)
    ∙ all_inserted (done ++ x ∷ []) xs (subst (IsDistinct bytes_eq) (sym (append_assoc done (x ∷ []) xs)) h)
    ∙ append_assoc done (x ∷ []) xs

-- a copy of one key more
pub copied_more : (done left after keys : List (List ℕ)) (key copy : List ℕ) (new : List (List ℕ)) → (done ++ left ≡ keys) × IsDistinct bytes_eq keys
    → left ≡ key ∷ after → new ≡ insert_key bytes_eq done copy → copy ≡ key → (new ++ after ≡ keys) × IsDistinct bytes_eq keys
copied_more done left after keys key copy new before rest put same =
    let whole : done ++ key ∷ after ≡ keys = ap (λ l. done ++ l) (sym rest) ∙ before.0 in
    let none : list_any (bytes_eq key) done ≡ false = absent_before done after key (subst (IsDistinct bytes_eq) (sym whole) before.1) in (
      ap (λ ks. ks ++ after) (put ∙ ap (insert_key bytes_eq done) same ∙ ap (λ (b : Bool). cond b done (done ++ key ∷ [])) none)
          ∙ append_assoc done (key ∷ []) after ∙ whole,
      before.1,
    )

pub keys_back : (keys : List (List ℕ)) → IsDistinct bytes_eq keys → keys_in (keys_data keys) ≡ Ok keys
keys_back [] h = refl
keys_back (key ∷ keys) h = rw (texts_back (key ∷ keys), all_inserted [] (key ∷ keys) h) refl

module _ (s : Settings) where
  abbrev ms : Members
  ms = members_given (given_of s)

  got_text : (name : List ℕ) (text : Option (List ℕ)) → given_at name (given_of s) ≡ option_or (text_data text) None → text_in (get_member name ms) ≡ Ok text
  got_text name text is = ap text_in (got name (given_of s) ∙ is ∙ or_none (text_data text)) ∙ text_back text

  got_flag : (name : List ℕ) (flag : Bool) → given_at name (given_of s) ≡ Some (boolean flag) → flag_in (get_member name ms) ≡ Ok flag
  got_flag name flag is = ap flag_in (got name (given_of s) ∙ is)

  pub settings_back : IsDistinct bytes_eq s.keys → settings_in (settings_data s) ≡ Ok s
  unfolding object_settings
  settings_back distinct =
      rw (
        got_text (codes "homeUrl") s.home_url refl,
        got_text (codes "registriesDir") s.registries_dir refl,
        got_text (codes "contentDir") s.content_dir refl,
        got_text (codes "namespaceMapPath") s.namespace_map_path refl,
        got_text (codes "keyringBackend") s.keyring_backend refl,
        ap keys_in (got (codes "keys") (given_of s) ∙ or_none (keys_data s.keys)) ∙ keys_back s.keys distinct,
        got_flag (codes "keyringAuth") s.keyring_auth refl,
        got_flag (codes "ignoreFederationHints") s.ignore_federation_hints refl,
        got_flag (codes "disableAutoAcceptFederationHints") s.disable_auto_accept_federation_hints refl,
        got_flag (codes "disableAutoPackageInit") s.disable_auto_package_init refl,
        got_flag (codes "disableInteractive") s.disable_interactive refl,
      ) refl

-- ---- no floats, and not deep

-- a value has no float, and at most lists of plain values
abbrev IsFlat : Data → Type 0
IsFlat d = (has_float d ≡ false) × (depth d ≤ 1)

flat_members : (gs : Given) → AllByRecursion (λ g. IfSome g.1 IsFlat) gs → (members_have_float (members_given gs) ≡ false) × (members_depth (members_given gs) ≤ 1)
unfolding members_given
flat_members [] are = (refl, omega arith)
flat_members ((k, None) ∷ gs) are = flat_members gs are.1
flat_members ((k, Some d) ∷ gs) are =
    let rest = flat_members gs are.1 in
    (ap (λ (b : Bool). b || members_have_float (members_given gs)) are.0.0 ∙ rest.0, max-le are.0.1 rest.1)

flat_text : (text : Option (List ℕ)) → IfSome (text_data text) IsFlat
flat_text None = tt
flat_text (Some text) = (refl, omega arith)

no_float_texts : (texts : List (List ℕ)) → items_have_float (items_of (map string texts)) ≡ false
no_float_texts [] = refl
no_float_texts (text ∷ texts) = no_float_texts texts

no_depth_texts : (texts : List (List ℕ)) → items_depth (items_of (map string texts)) ≤ 0
no_depth_texts [] = omega arith
no_depth_texts (text ∷ texts) = let here : 0 ≤ 0 = omega arith in max-le here (no_depth_texts texts)

flat_keys : (keys : List (List ℕ)) → IfSome (keys_data keys) IsFlat
flat_keys [] = tt
flat_keys (key ∷ keys) = (no_float_texts (key ∷ keys), let deep = no_depth_texts (key ∷ keys) in omega arith)

flat_flag : (flag : Bool) → IsFlat (boolean flag)
flat_flag flag = (refl, omega arith)

flat_given : (s : Settings) → AllByRecursion (λ (g : List ℕ × Option Data). IfSome g.1 IsFlat) (given_of s)
flat_given s = (
  flat_text s.content_dir,
  (
    flat_flag s.disable_auto_accept_federation_hints,
    (
      flat_flag s.disable_auto_package_init,
      (
        flat_flag s.disable_interactive,
        (
          flat_text s.home_url,
          (
            flat_flag s.ignore_federation_hints,
            (
              flat_flag s.keyring_auth,
              (
                flat_text s.keyring_backend,
                (
                  flat_keys s.keys,
                  (
                    flat_text s.namespace_map_path,
                    (flat_text s.registries_dir, tt),
                  ),
                ),
              ),
            ),
          ),
        ),
      ),
    ),
  ),
)

pub no_float : (s : Settings) → has_float (settings_data s) ≡ false
no_float s = (flat_members (given_of s) (flat_given s)).0

pub not_deep : (s : Settings) → depth (settings_data s) ≤ max_depth
not_deep s = let deep = (flat_members (given_of s) (flat_given s)).1 in omega arith

-- ---- the text

pub text_is : (text : List ℕ) (d : Data) (s : Settings) → d ≡ settings_data s → text ≡ pretty (tokens text) → IsInOrder text d → text ≡ settings_text s
unfolding settings_text
text_is text d s is layout order =
    layout ∙ ap pretty (tokens_from_order text (settings_data s) (subst (IsInOrder text) is order) (no_float s))

pub text_reads : (text : List ℕ) (d : Data) (s : Settings) → d ≡ settings_data s → text ≡ settings_text s → IsUtf8 text → (depth d ≤ max_depth → read text ≡ Some d) → IsDistinct bytes_eq s.keys
    → settings_of_bytes (settings_text s) ≡ Some s
text_reads text d s is written utf8 reads distinct =
    let back : read text ≡ Some (settings_data s) = reads (subst (λ (e : Data). depth e ≤ max_depth) (sym is) (not_deep s)) ∙ ap Some is in
    ap settings_of_bytes (sym written)
    ∙ ap (λ (b : Bool). result_ok (required (cond b (read text) None) >>= settings_in)) (is_utf8-from_IsUtf8 text utf8)
    ∙ ap (λ (o : Option Data). result_ok (required o >>= settings_in)) back
    ∙ ap result_ok (settings_back s distinct)

-- ---- texts read one after the other

one_more : (done : List (List ℕ)) (text : List ℕ) (rest : Meaning (List (List ℕ)))
    → ((rest >>= λ texts. Ok (text ∷ texts)) >>= λ texts. Ok (insert_all bytes_eq done texts)) ≡ (rest >>= λ texts. Ok (insert_all bytes_eq (insert_key bytes_eq done text) texts))
one_more done text (Ok texts) = refl
one_more done text (Err e) = refl

-- none is left
pub texts_none : (done : List (List ℕ)) → (texts_in no_items >>= λ texts. Ok (insert_all bytes_eq done texts)) ≡ Ok done
unfolding texts_in
texts_none done = refl

-- one text more is read
pub text_more : (done : List (List ℕ)) (d : Data) (ds : Items) (text : List ℕ) → as_str d ≡ Some text → (texts_in (item d ds) >>= λ texts. Ok (insert_all bytes_eq done texts)) ≡ (texts_in ds >>= λ texts. Ok (insert_all bytes_eq (insert_key bytes_eq done text) texts))
unfolding texts_in
text_more done d ds text is = rw is (one_more done text (texts_in ds))

-- an item that is no text
pub text_bad : (done : List (List ℕ)) (d : Data) (ds : Items) → as_str d ≡ None → (texts_in (item d ds) >>= λ texts. Ok (insert_all bytes_eq done texts)) ≡ Err Form
unfolding texts_in
text_bad done d ds is = rw is refl

-- ---- bytes

-- what bytes say that are JSON
pub says : (bytes : List ℕ) (d : Data) → IsUtf8 bytes → read bytes ≡ Some d → settings_in d ≡ meaning_of bytes
says bytes d utf8 reads =
    sym (ap (λ (b : Bool). required (cond b (read bytes) None) >>= settings_in) (is_utf8-from_IsUtf8 bytes utf8)
    ∙ ap (λ (o : Option Data). required o >>= settings_in) reads)

-- bytes that are no JSON
pub says_nothing : (bytes : List ℕ) → (IsUtf8 bytes → read bytes ≡ None) → meaning_of bytes ≡ Err Form
says_nothing bytes none = by (is_utf8 bytes) refl
  where
    by : (b : Bool) → is_utf8 bytes ≡ b → (required (cond b (read bytes) None) >>= settings_in) ≡ Err Form
    by true is = ap (λ (o : Option Data). required o >>= settings_in) (none (IsUtf8-from_is_utf8 bytes is))
    by false is = refl
