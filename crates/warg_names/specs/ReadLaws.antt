-- What is read as an import's name is written in one of the forms.
use Rattle.std.proofs.Common.{◌≡◌, ℕ, ◌<◌, Bool, true, false, List, [], ◌∷◌, ◌++◌, length, codes, Option, Some, None, Result, Ok, Err, refl, sym, ap, ◌∙◌, arith}
use Rattle.std.specs.Prelude.{if◌then◌else◌, bytes_eq, option_map, option_and_then, IfSome}
use Rattle.std.specs.Option.{option_or}
use Rattle.std.specs.Result.{result_ok}
use Rattle.std.proofs.lemmas.Bool.{eqb-true, true≢false}
use Rattle.std.proofs.lemmas.List.{append-nil, length-append}
use Rattle.std.proofs.lemmas.Option.{none-some, cond_some}
use Rattle.std.proofs.lemmas.Slice.Eq.{bytes_eq-Decides}
use Rattle.semver.specs.Parse.{Parts, Held, version_parts}
use Rattle.semver.specs.Identifiers.{parts_text}
use Rattle.semver.specs.Grammar.{IsValid}
use Rattle.semver.specs.declared.Op.{Op}
use Rattle.semver.specs.declared.Op.TheVariants.{Exact, GreaterEq, Less}
use Rattle.semver.proofs.Grammar.{version_parts-sound}
use Rattle.warg_hash.specs.Name.{is_package_name, IsPackageName}
use Rattle.warg_hash.specs.NameLaws.{is_package_name-name}
use Rattle.warg_names.specs.Cut.{is_empty, behind, cut_first, closed_by, ended_by}
use Rattle.warg_names.specs.CutLaws.{some_is, then_some, map_some, behind-sound, behind-append, cut_first-sound, cut_first-lacks, closed_by-sound, ended_by-sound}
use Rattle.warg_names.specs.Import.{ImportTree, compared, unlocked_mark, locked_mark, integrity_mark, at_sign, angle, brace, space, version_of, package_of, bound_of, lower_of, upper_of, one_bound, both_bounds, bounds_at, bounds_of, requirement_of, dependency, dependency_at, dependency_of, integrity_in, integrity_of, locked, release_at, release_of, locked_at, locked_of, interface, interface_at, interface_of, unlocked_of, other_at, other_of, import_at, import_of}
use Rattle.warg_names.specs.Grammar.{Bounds, From, Below, Between, Range, Plain, Star, Within, DependencyName, LockedName, InterfaceName, bounds_text, range_text, version_part, integrity_part, AreBounds, IsRange, IsIntegrity, Begins, bounds_requirement, range_requirement, Names}

ok_from : {A E : Type 0} (r : Result A E) (x : A) → result_ok r ≡ Some x → r ≡ Ok x
ok_from (Ok y) x e = ap (λ z. Ok z) (some_is y x e)
ok_from (Err y) x e = absurd (none-some x e)

version_of-sound : (text : List ℕ) (v : Parts) → version_of text ≡ Some v → (text ≡ parts_text v) × IsValid v
unfolding version_of
version_of-sound text v e =
    let s = version_parts-sound text v (ok_from (version_parts text) v e) in
    (sym s.0, s.1)

package_of-sound : (text name : List ℕ) → package_of text ≡ Some name → (text ≡ name) × IsPackageName name
unfolding package_of
package_of-sound text name e =
    let c = cond_some (is_package_name text) text name e in
    rw (← c.1) (refl, is_package_name-name text c.0)

-- a bound that was read: its version
record IsBound (mark : List ℕ) (op : Op) (text : List ℕ) (bound : Held) : Type 0 where
  version : Parts
  valid : IsValid version
  written : text ≡ mark ++ parts_text version
  is : compared op version ≡ bound

bound_of-sound : (mark : List ℕ) (op : Op) (text : List ℕ) (bound : Held) → bound_of mark op text ≡ Some bound → IsBound mark op text bound
unfolding bound_of
bound_of-sound mark op text bound e =
    let m = map_some (compared op) (option_and_then version_of (behind mark text)) bound e in
    let t = then_some version_of (behind mark text) m.0 m.1 in
    let v = version_of-sound t.0 m.0 t.2 in
    record { version = m.0; valid = v.1; written = behind-sound mark text t.0 t.1 ∙ ap (λ r. mark ++ r) v.0; is = m.2 }

-- bounds that were read
record WereBounds (text : List ℕ) (requirement : List Held) : Type 0 where
  bounds : Bounds
  are : AreBounds bounds
  written : text ≡ bounds_text bounds
  required : requirement ≡ bounds_requirement bounds

one_of : {A P : Type 0} (o p : Option A) (y : A) → option_or o p ≡ Some y → (o ≡ Some y → P) → (p ≡ Some y → P) → P
one_of None p y e here there = there e
one_of (Some x) p y e here there = here e

one_bound-sound : (text : List ℕ) (requirement : List Held) → one_bound text ≡ Some requirement → WereBounds text requirement
unfolding one_bound
one_bound-sound text requirement e =
    let m = map_some (λ (bound : Held). bound ∷ []) (option_or (lower_of text) (upper_of text)) requirement e in
    one_of (lower_of text) (upper_of text) m.0 m.1
    (λ low. let b = bound_of-sound (codes ">=") GreaterEq text m.0 low in
    record { bounds = From b.version; are = b.valid; written = b.written; required = sym m.2 ∙ ap (λ (x : Held). x ∷ []) (sym b.is) })
    (λ high. let b = bound_of-sound (codes "<") Less text m.0 high in
    record { bounds = Below b.version; are = b.valid; written = b.written; required = sym m.2 ∙ ap (λ (x : Held). x ∷ []) (sym b.is) })

both_bounds-sound : (text low high : List ℕ) (requirement : List Held) → text ≡ low ++ space ∷ high → both_bounds low high ≡ Some requirement → WereBounds text requirement
unfolding both_bounds
both_bounds-sound text low high requirement cut e =
    let t = then_some (λ lower. option_map (λ upper. lower ∷ upper ∷ []) (upper_of high)) (lower_of low) requirement e in
    let m = map_some (λ (upper : Held). t.0 ∷ upper ∷ []) (upper_of high) requirement t.2 in
    let a = bound_of-sound (codes ">=") GreaterEq low t.0 t.1 in
    let b = bound_of-sound (codes "<") Less high m.0 m.1 in
    record {
      bounds = Between a.version b.version;
      are = (a.valid, b.valid);
      written = cut ∙ (λ k. a.written k ++ space ∷ b.written k);
      required = sym m.2 ∙ (λ k. sym a.is k ∷ sym b.is k ∷ []);
    }

bounds_of-sound : (text : List ℕ) (requirement : List Held) → bounds_of text ≡ Some requirement → WereBounds text requirement
unfolding bounds_of
bounds_of-sound text requirement e = by (cut_first space text) refl e
  where
    by : (o : Option (List ℕ × List ℕ)) → cut_first space text ≡ o → bounds_at text o ≡ Some requirement → WereBounds text requirement
    by None is got = one_bound-sound text requirement got
    by (Some cut) is got = both_bounds-sound text cut.0 cut.1 requirement (cut_first-sound space text cut is).0 got

-- what stands behind the `@` of a dependency, where it was read
record WasRange (text : List ℕ) (requirement : List Held) : Type 0 where
  range : Range
  is : IsRange range
  written : at_sign ∷ text ≡ range_text range
  required : requirement ≡ range_requirement range

requirement_of-sound : (text : List ℕ) (requirement : List Held) → requirement_of text ≡ Some requirement → WasRange text requirement
unfolding requirement_of
requirement_of-sound text requirement e = by (bytes_eq text (codes "*")) refl e
  where
    by : (star : Bool) → bytes_eq text (codes "*") ≡ star
        → (if star then Some [] else option_and_then bounds_of (option_and_then (closed_by brace) (behind (codes "{") text))) ≡ Some requirement → WasRange text requirement
    by true star got =
        record { range = Star; is = tt; written = ap (λ t. at_sign ∷ t) ((bytes_eq-Decides text (codes "*")).0 star); required = sym (some_is [] requirement got) }
    by false star got =
        let t = then_some bounds_of (option_and_then (closed_by brace) (behind (codes "{") text)) requirement got in
        let c = then_some (closed_by brace) (behind (codes "{") text) t.0 t.1 in
        let b = bounds_of-sound t.0 requirement t.2 in
        let inside = closed_by-sound brace c.0 t.0 c.2 in
        record {
          range = Within b.bounds;
          is = b.are;
          written = ap (λ t. at_sign ∷ t) (behind-sound (codes "{") text c.0 c.1 ∙ ap (λ r. codes "{" ++ r) (inside ∙ ap (λ r. r ++ brace ∷ []) b.written));
          required = b.required;
        }

dependency_of-sound : (text : List ℕ) (tree : ImportTree) → dependency_of text ≡ Some tree
    → (name : List ℕ) × (range : Range) × IsPackageName name × IsRange range × (text ≡ name ++ range_text range) × (tree ≡ dependency (range_requirement range) name)
unfolding dependency_of
dependency_of-sound text tree e = by (cut_first at_sign text) refl e
  where
    by : (o : Option (List ℕ × List ℕ)) → cut_first at_sign text ≡ o → dependency_at text o ≡ Some tree
        → (name : List ℕ) × (range : Range) × IsPackageName name × IsRange range × (text ≡ name ++ range_text range) × (tree ≡ dependency (range_requirement range) name)
    by None is got =
        let m = map_some (dependency []) (package_of text) tree got in
        let p = package_of-sound text m.0 m.1 in
        (m.0, Plain, p.1, tt, p.0 ∙ sym (append-nil m.0), sym m.2)
    by (Some cut) is got =
        let t = then_some (λ name. option_map (λ requirement. dependency requirement name) (requirement_of cut.1)) (package_of cut.0) tree got in
        let m = map_some (λ (requirement : List Held). dependency requirement t.0) (requirement_of cut.1) tree t.2 in
        let p = package_of-sound cut.0 t.0 t.1 in
        let r = requirement_of-sound cut.1 m.0 m.1 in
        (t.0, r.range, p.1, r.is, (cut_first-sound at_sign text cut is).0 ∙ (λ k. p.0 k ++ r.written k), sym m.2 ∙ ap (λ requirement. dependency requirement t.0) r.required)

release_of-sound : (text : List ℕ) (release : List ℕ × Option Parts) → release_of text ≡ Some release
    → IsPackageName release.0 × IfSome release.1 IsValid × (text ≡ release.0 ++ version_part release.1)
unfolding release_of
release_of-sound text release e = by (cut_first at_sign text) refl e
  where
    by : (o : Option (List ℕ × List ℕ)) → cut_first at_sign text ≡ o → release_at text o ≡ Some release
        → IsPackageName release.0 × IfSome release.1 IsValid × (text ≡ release.0 ++ version_part release.1)
    by None is got =
        let plain : List ℕ → List ℕ × Option Parts = λ name. (name, None) in
        let m = map_some plain (package_of text) release got in
        let p = package_of-sound text m.0 m.1 in
        rw (← m.2) (p.1, tt, p.0 ∙ sym (append-nil m.0))
    by (Some cut) is got =
        let with_version : List ℕ → Parts → List ℕ × Option Parts = λ name version. (name, Some version) in
        let t = then_some (λ name. option_map (with_version name) (version_of cut.1)) (package_of cut.0) release got in
        let m = map_some (with_version t.0) (version_of cut.1) release t.2 in
        let p = package_of-sound cut.0 t.0 t.1 in
        let v = version_of-sound cut.1 m.0 m.1 in
        rw (← m.2) (p.1, v.1, (cut_first-sound at_sign text cut is).0 ∙ (λ k. p.0 k ++ at_sign ∷ v.0 k))

empty_is : (text : List ℕ) → is_empty text ≡ true → text ≡ []
empty_is [] e = refl
empty_is (b ∷ text) e = let none : length (b ∷ text) ≡ 0 = eqb-true (length (b ∷ text)) 0 e in absurd (omega (arith, none))

some_from : (text : List ℕ) → is_empty text ≡ false → 0 < length text
some_from [] e = absurd (true≢false e)
some_from (b ∷ text) e = omega arith

integrity_in-sound : (text integrity : List ℕ) → integrity_in text ≡ Some integrity → IsIntegrity integrity × (text ≡ integrity ++ angle ∷ [])
unfolding integrity_in
integrity_in-sound text integrity e =
    let t = then_some (λ i. if is_empty i then None else Some i) (ended_by angle text) integrity e in
    by t.0 (is_empty t.0) refl t.1 t.2
  where
    by : (i : List ℕ) (empty : Bool) → is_empty i ≡ empty → ended_by angle text ≡ Some i → (if empty then None else Some i) ≡ Some integrity → IsIntegrity integrity × (text ≡ integrity ++ angle ∷ [])
    by i true is read got = absurd (none-some integrity got)
    by i false is read got =
        let s = ended_by-sound angle text i read in
        rw (← some_is i integrity got) ((some_from i is, s.1), s.0)

integrity_of-sound : (text : List ℕ) (integrity : Option (List ℕ)) → integrity_of text ≡ Some integrity → IfSome integrity IsIntegrity × (text ≡ integrity_part integrity)
unfolding integrity_of
integrity_of-sound text integrity e = by (is_empty text) refl e
  where
    some : List ℕ → Option (List ℕ)
    some i = Some i

    by : (empty : Bool) → is_empty text ≡ empty → (if empty then Some None else option_map Some (option_and_then integrity_in (behind integrity_mark text))) ≡ Some integrity → IfSome integrity IsIntegrity × (text ≡ integrity_part integrity)
    by true is got = rw (← some_is None integrity got) (tt, empty_is text is)
    by false is got =
        let m = map_some (λ (i : List ℕ). Some i) (option_and_then integrity_in (behind integrity_mark text)) integrity got in
        let t = then_some integrity_in (behind integrity_mark text) m.0 m.1 in
        let s = integrity_in-sound t.0 m.0 t.2 in
        rw (← m.2) (s.0, behind-sound integrity_mark text t.0 t.1 ∙ ap (λ r. integrity_mark ++ r) s.1)

locked_of-sound : (rest : List ℕ) (tree : ImportTree) → locked_of rest ≡ Some tree → Names (locked_mark ++ rest) tree
unfolding locked_of
locked_of-sound rest tree e =
    let t = then_some locked_at (option_and_then (cut_first angle) (behind (codes "<") rest)) tree e in
    let c = then_some (cut_first angle) (behind (codes "<") rest) t.0 t.1 in
    let r = then_some (λ release. option_map (locked release.0 release.1) (integrity_of t.0.1)) (release_of t.0.0) tree t.2 in
    let m = map_some (locked r.0.0 r.0.1) (integrity_of t.0.1) tree r.2 in
    let release = release_of-sound t.0.0 r.0 r.1 in
    let integrity = integrity_of-sound t.0.1 m.0 m.1 in
    let cut = cut_first-sound angle c.0 t.0 c.2 in
    record {
      name = LockedName r.0.0 r.0.1 m.0;
      is_name = (release.0, release.1, integrity.0);
      written = ap (λ t. locked_mark ++ t) (behind-sound (codes "<") rest c.0 c.1 ∙ ap (λ t. codes "<" ++ t) (cut.0 ∙ (λ k. release.2 k ++ angle ∷ integrity.1 k)));
      asks = sym m.2;
    }

unlocked_of-sound : (rest : List ℕ) (tree : ImportTree) → unlocked_of rest ≡ Some tree → Names (unlocked_mark ++ rest) tree
unfolding unlocked_of
unlocked_of-sound rest tree e =
    let t = then_some dependency_of (option_and_then (closed_by angle) (behind (codes "<") rest)) tree e in
    let c = then_some (closed_by angle) (behind (codes "<") rest) t.0 t.1 in
    let d = dependency_of-sound t.0 tree t.2 in
    record {
      name = DependencyName d.0 d.1;
      is_name = (d.2, d.3);
      written = ap (λ t. unlocked_mark ++ t) (behind-sound (codes "<") rest c.0 c.1 ∙ ap (λ t. codes "<" ++ t) (closed_by-sound angle c.0 t.0 c.2 ∙ ap (λ t. t ++ angle ∷ []) d.4));
      asks = d.5;
    }

interface_of-sound : (text : List ℕ) (tree : ImportTree) → (Begins unlocked_mark text → ⊥) → (Begins locked_mark text → ⊥) → interface_of text ≡ Some tree → Names text tree
unfolding interface_of
interface_of-sound text tree no_unlocked no_locked e = by (cut_first at_sign text) refl e
  where
    plain : (empty : Bool) → is_empty text ≡ empty → cut_first at_sign text ≡ None → (if empty then None else Some (interface text [] None)) ≡ Some tree → Names text tree
    plain true is uncut got = absurd (none-some tree got)
    plain false is uncut got =
        let same = append-nil text in
        record {
          name = InterfaceName text None;
          is_name = (cut_first-lacks at_sign text uncut, tt, rw same (some_from text is), rw same no_unlocked, rw same no_locked);
          written = sym same;
          asks = sym (some_is (interface text [] None) tree got);
        }

    by : (o : Option (List ℕ × List ℕ)) → cut_first at_sign text ≡ o → interface_at text o ≡ Some tree → Names text tree
    by None is got = plain (is_empty text) refl is got
    by (Some cut) is got =
        let m = map_some (λ version. interface cut.0 (compared Exact version ∷ []) (Some cut.1)) (version_of cut.1) tree got in
        let v = version_of-sound cut.1 m.0 m.1 in
        let s = cut_first-sound at_sign text cut is in
        let written : text ≡ cut.0 ++ version_part (Some m.0) = s.0 ∙ ap (λ t. cut.0 ++ at_sign ∷ t) v.0 in
        record {
          name = InterfaceName cut.0 (Some m.0);
          is_name = (s.1, v.1, rw (← written) (longer s.0), rw (← written) no_unlocked, rw (← written) no_locked);
          written = written;
          asks = sym m.2 ∙ ap (λ t. interface cut.0 (compared Exact m.0 ∷ []) (Some t)) v.0;
        }
      where
        longer : text ≡ cut.0 ++ at_sign ∷ cut.1 → 0 < length text
        longer whole = omega (arith, ap length whole, length-append cut.0 (at_sign ∷ cut.1))

-- what is read is written in one of the forms
pub import_of-sound : (text : List ℕ) (tree : ImportTree) → import_of text ≡ Some tree → Names text tree
unfolding import_of other_of
import_of-sound text tree e = by (behind unlocked_mark text) refl e
  where
    begun : (mark : List ℕ) → behind mark text ≡ None → Begins mark text → ⊥
    begun mark none begins = none-some begins.0 (sym none ∙ ap (behind mark) begins.1 ∙ behind-append mark begins.0)

    other : (o : Option (List ℕ)) → behind unlocked_mark text ≡ None → behind locked_mark text ≡ o → other_at text o ≡ Some tree → Names text tree
    other None no_unlocked is got = interface_of-sound text tree (begun unlocked_mark no_unlocked) (begun locked_mark is) got
    other (Some rest) no_unlocked is got = rw (behind-sound locked_mark text rest is) (locked_of-sound rest tree got)

    by : (o : Option (List ℕ)) → behind unlocked_mark text ≡ o → import_at text o ≡ Some tree → Names text tree
    by None is got = other (behind locked_mark text) is refl got
    by (Some rest) is got = rw (behind-sound unlocked_mark text rest is) (unlocked_of-sound rest tree got)
