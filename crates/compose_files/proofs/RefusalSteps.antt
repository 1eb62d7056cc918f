-- Refusals of lower calls as those of the steps that make them.
use Rattle.std.proofs.Common.{◌≡◌, ℕ, ◌≤◌, Bool, true, false, List, Option, Some, None, Result, Ok, Err, IfSome, IfErr, IfOk, MatchOption, not, is_some, length, option_copied, refl, sym, ap, ◌∙◌, subst, arith}
use Rattle.std.specs.Prelude.{IsErrAnd, OnOk}
use Rattle.std.specs.Borrow.{Bor}
use Rattle.warg_values.specs.Faults.{Rose}
use Rattle.warg_base.specs.declared.files.FileError.{FileError}
use Rattle.warg_base.specs.declared.files.FileError.TheVariants as file
use Rattle.warg_base.specs.Files.{FileMap, file_at}
use Rattle.compose_config.specs.Plan.{Argument, Settings}
use Rattle.compose_graph.specs.Graph.{GraphTree}
use Rattle.compose_graph.specs.declared.error.GraphError.{GraphError}
use Rattle.compose_files.specs.Built.{AfterSteps, Built, HasGoodArguments, IsComponentFor, Need, Sources}
use Rattle.compose_files.specs.Composed.{ImportsSome, ServesAt}
use Rattle.compose_files.specs.Refusals.{IsArgumentRefusal, IsAskRefusal, IsExportRefusal, IsFileFault, IsGraphRefusal, IsLeaveRefusal, IsLookRefusal, IsLookedFor, IsNeedRefusal, IsPathRefusal, IsSearchRefusal, IsSearched, IsStrayRefusal, is_failure}
use Rattle.compose_files.specs.Refused.{IsEmptyRefusal, IsImportsRefusal, StopsAtImport}
use Rattle.compose_files.specs.declared.error.ComposerError.{ComposerError}
use Rattle.compose_files.specs.declared.error.ComposerError.TheVariants as error

-- what is known of a value that is there
pub known_of : {A : Type 0} (P : A → Type 0) (o : Option A) (x : A) → IfSome o P → o ≡ Some x → P x
known_of {A = A} P o x h e = let Q : Option A → Type 0 = λ p. IfSome p P in subst Q e h

-- a count that rose in between rose
pub rose_between : (a b c d : ℕ) → a ≤ b → Rose b c → c ≤ d → Rose a d
rose_between a b c d before rose after = omega (arith, rose)

-- ---- the same refusals for other reasons

pub graph_weaker : (P Q : GraphError → Type 0) → ((e : GraphError) → P e → Q e) → (e : ComposerError) → IsGraphRefusal P e → IsGraphRefusal Q e
graph_weaker P Q to (error.Graph e) h = (to e h.0, h.1)
graph_weaker P Q to error.Memory h = tt
graph_weaker P Q to _ h = absurd h

pub need_weaker : (need : Need) (P Q : GraphError → Type 0) → ((e : GraphError) → P e → Q e) → (e : ComposerError) → IsNeedRefusal need P e → IsNeedRefusal need Q e
need_weaker need P Q to (error.Connect import instance e) h = (h.0, h.1, to e h.2, h.3)
need_weaker need P Q to error.Memory h = tt
need_weaker need P Q to _ h = absurd h

-- a file that is asked for where a component is to be looked for
pub searched : (s : Sources) (name : List ℕ) → IsSearched s name → (e : ComposerError) → IsLookRefusal s name e → IsSearchRefusal s name e
searched s name is (error.File path e) h = (is, h.0, h.1)
searched s name is error.Memory h = tt
searched s name is _ h = absurd h

-- a file that is asked for as one of those in which a component is looked for
pub looked : (s : Sources) (name path : List ℕ) → IsLookedFor s name path → (e : ComposerError) → IsAskRefusal path e → IsLookRefusal s name e
looked s name path is (error.File told e) h = (subst (IsLookedFor s name) (sym h.0) is, h.1)
looked s name path is error.Memory h = tt
looked s name path is _ h = absurd h

-- what the outside says of a file that is not read
pub file_fault : (files : FileMap) (path : List ℕ) (e : FileError) → (e ≡ file.Missing → file_at files path ≡ None) → (e ≡ file.Memory → ⊥) → IsFileFault files path e
file_fault files path file.Missing missing no_memory = missing refl
file_fault files path file.Failed missing no_memory = tt
file_fault files path file.Memory missing no_memory = no_memory refl

-- ---- refusals in which the outside has not failed

pub graph_calm : (P : GraphError → Type 0) (e : ComposerError) → IsGraphRefusal P e → is_failure e ≡ true → ⊥
graph_calm P (error.File path e) h fails = h
graph_calm P _ h fails = cc

pub need_calm : (need : Need) (P : GraphError → Type 0) (e : ComposerError) → IsNeedRefusal need P e → is_failure e ≡ true → ⊥
need_calm need P (error.File path e) h fails = h
need_calm need P _ h fails = cc

pub path_calm : (path : List ℕ) (e : ComposerError) → IsPathRefusal path e → is_failure e ≡ true → ⊥
path_calm path (error.File told e) h fails = h
path_calm path _ h fails = cc

pub export_calm : (g : GraphTree) (source : ℕ) (name : Option (List ℕ)) (e : ComposerError) → IsExportRefusal g source name e → is_failure e ≡ true → ⊥
export_calm g source name (error.File told e) h fails = h
export_calm g source name _ h fails = cc

pub stray_calm : (s : Settings) (g : GraphTree) (instance : List ℕ) (id : ℕ) (e : ComposerError) → IsStrayRefusal s g instance id e → is_failure e ≡ true → ⊥
stray_calm s g instance id (error.File told e) h fails = h
stray_calm s g instance id _ h fails = cc

pub leave_calm : (s : Settings) (a : Argument) (e : ComposerError) → IsLeaveRefusal s a e → is_failure e ≡ true → ⊥
leave_calm s a (error.File told e) h fails = h
leave_calm s a _ h fails = cc

pub empty_calm : (g : GraphTree) (id : ℕ) (e : ComposerError) → IsEmptyRefusal g id e → is_failure e ≡ true → ⊥
empty_calm g id (error.File told e) h fails = h
empty_calm g id _ h fails = cc

-- ---- an error that is handed on

pub handed_on : {T E : Type 0} (r : Result T E) (e : E) (Q : E → Type 0) → IsErrAnd r (λ y. y ≡ e) → Q e → IfErr r Q
handed_on (Ok x) e Q h q = tt
handed_on (Err y) e Q h q = subst Q (sym h) q

-- ---- facts by cases

pub at_none : {A : Type 0} (P : Type 0) (Q : A → Type 0) (o : Option A) → o ≡ None → P → MatchOption o P Q
at_none {A} P Q o none p = let R : Option A → Type 0 = λ x. MatchOption x P Q in subst R (sym none) p

pub at_some : {A : Type 0} (P : Type 0) (Q : A → Type 0) (o : Option A) (x : A) → o ≡ Some x → Q x → MatchOption o P Q
at_some {A} P Q o x some q = let R : Option A → Type 0 = λ y. MatchOption y P Q in subst R (sym some) q

pub ok_both : {T E P Q R : Type 0} (r : Result T E) → OnOk r P → OnOk r Q → (P → Q → R) → OnOk r R
ok_both (Ok x) p q to = to p q
ok_both (Err e) p q to = tt

pub ok_with : {T E P : Type 0} {Q R : T → Type 0} (r : Result T E) → OnOk r P → IfOk r Q → ((x : T) → P → Q x → R x) → IfOk r R
ok_with (Ok x) p q to = to x p q
ok_with (Err e) p q to = tt

-- the component of a name, said in other words
pub found_as : (s : Sources) (name called : List ℕ) (g : GraphTree) (number same : Option ℕ) (new : GraphTree) → name ≡ called → number ≡ same → IsComponentFor s name g number new → IsComponentFor s called g same new
found_as s name called g number same new name_is number_is h =
    subst (λ (n : List ℕ). IsComponentFor s n g same new) name_is (subst (λ (o : Option ℕ). IsComponentFor s name g o new) number_is h)

-- an instance has no name yet where none is found
pub unnamed_is : (o : Option (Bor ℕ)) (found : Option ℕ) (is_new : Bool) → option_copied o ≡ found → is_some o ≡ not is_new → not (is_some found) ≡ is_new
unnamed_is o found is_new copied h = ap (λ x. not (is_some x)) (sym copied) ∙ by o is_new h
  where
    by : (o : Option (Bor ℕ)) (b : Bool) → is_some o ≡ not b → not (is_some (option_copied o)) ≡ b
    by None true h = refl
    by None false h = absurd cc
    by (Some x) true h = absurd cc
    by (Some x) false h = refl

-- the imports of an instance, said in other words
pub served_as : (s : Sources) (name called : List ℕ) (id : ℕ) (names same : List (List ℕ)) (old new : Built) → name ≡ called → names ≡ same
    → AfterSteps (ServesAt s name id names) old (length names) new → AfterSteps (ServesAt s called id same) old (length same) new
served_as s name called id names same old new name_is names_are h =
    subst (λ (ns : List (List ℕ)). AfterSteps (ServesAt s called id ns) old (length ns) new) names_are
    (subst (λ (n : List ℕ). AfterSteps (ServesAt s n id names) old (length names) new) name_is h)

pub stops_as : (s : Sources) (name called : List ℕ) (id : ℕ) (names same : List (List ℕ)) (old : Built) (e : ComposerError) → name ≡ called → names ≡ same
    → StopsAtImport s name id names old e → StopsAtImport s called id same old e
stops_as s name called id names same old e name_is names_are h =
    subst (λ (ns : List (List ℕ)). StopsAtImport s called id ns old e) names_are (subst (λ (n : List ℕ). StopsAtImport s n id names old e) name_is h)

-- what is said of the root's instance, said in other words
pub argument_as : (st : Settings) (g same : GraphTree) (name called : List ℕ) (id number : ℕ) (e : ComposerError) → g ≡ same → name ≡ called → id ≡ number → IsArgumentRefusal st g name id e → IsArgumentRefusal st same called number e
argument_as st g same name called id number e g_is name_is id_is h =
    subst (λ (i : ℕ). IsArgumentRefusal st same called i e) id_is
    (subst (λ (n : List ℕ). IsArgumentRefusal st same n id e) name_is (subst (λ (x : GraphTree). IsArgumentRefusal st x name id e) g_is h))

pub good_as : (st : Settings) (g same : GraphTree) (name called : List ℕ) (id number : ℕ) → g ≡ same → name ≡ called → id ≡ number → HasGoodArguments st g name id → HasGoodArguments st same called number
good_as st g same name called id number g_is name_is id_is h =
    subst (λ (i : ℕ). HasGoodArguments st same called i) id_is
    (subst (λ (n : List ℕ). HasGoodArguments st same n id) name_is (subst (λ (x : GraphTree). HasGoodArguments st x name id) g_is h))

pub imports_as : (g same : GraphTree) (id number : ℕ) (e : ComposerError) → g ≡ same → id ≡ number → IsImportsRefusal g id e → IsImportsRefusal same number e
imports_as g same id number e g_is id_is h = subst (λ (i : ℕ). IsImportsRefusal same i e) id_is (subst (λ (x : GraphTree). IsImportsRefusal x id e) g_is h)

pub some_as : (g same : GraphTree) (id number : ℕ) → g ≡ same → id ≡ number → ImportsSome g id → ImportsSome same number
some_as g same id number g_is id_is h = subst (λ (i : ℕ). ImportsSome same i) id_is (subst (λ (x : GraphTree). ImportsSome x id) g_is h)
