-- Files of configurations: what one says, what is written, and the first of those that are looked for.
use Rattle.std.proofs.Common.{◌≡◌, ◌≤◌, ◌+◌, ℕ, Bool, true, false, cond, List, [], ◌∷◌, ◌++◌, Option, Some, None, IfSome, Result, Ok, Err, OnErr, option_map, refl, sym, ap, subst, ◌∙◌, inl, arith}
use Rattle.std.specs.Prelude.{is_some, option_and_then, unwrap_or}
use Rattle.std.specs.Option.{option_or, option_to_list}
use Rattle.std.specs.Path.{path_join, path_parent}
use Rattle.std.specs.Result.{result_ok}
use Rattle.std.proofs.lemmas.List.Folds.{find-append}
use Rattle.warg_base.specs.Files.{FileMap, LeavesPartlyWritten, file_at, with_file}
use Rattle.warg_values.specs.Faults.{Rose}
use Rattle.warg_base.specs.declared.files.FileError.{FileError}
use Rattle.warg_base.specs.declared.files.FileError.TheVariants.{Missing, Failed, Memory as files_memory}
use Rattle.warg_config.specs.Answers.{IsSearchFault, refusal_of}
use Rattle.warg_config.specs.ConfigFile.{IsDefaultFault, IsFirst, IsNowhere, IsReadFault, IsUnreadable, IsWriteFault, ReadsBack, SamePath, config_text, default_paths, first_file, local_paths, machine_path, settings_at, settings_from}
use Rattle.warg_config.specs.Paths.{folder_of, place_of, relative_to}
use Rattle.warg_config.specs.Settings.{Settings, Form as fault_form, meaning_of, settings_of_bytes, settings_text, with_paths}
use Rattle.warg_config.specs.declared.dirs.Dirs.{Dirs}
use Rattle.warg_config.specs.declared.error.ClientConfigError.{ClientConfigError}
use Rattle.warg_config.specs.declared.error.ClientConfigError.TheVariants.{File, Form, NoDirectory, NoParent, Memory}
use Rattle.warg_config.proofs.PathLaws.{relative_leads}

-- ---- reading

pub read_is : (told : Option FileMap) (path bytes : List ℕ) (said whole : Settings) → IfSome told (λ held. file_at held path ≡ Some bytes)
    → meaning_of bytes ≡ Ok said → with_paths (path_join (folder_of path)) said ≡ whole → IfSome told (λ held. settings_at held path ≡ Some whole)
read_is None path bytes said whole found means is = tt
read_is (Some held) path bytes said whole found means is =
    ap (option_and_then (settings_from path)) found
    ∙ ap (λ m. option_map (with_paths (path_join (folder_of path))) (result_ok m)) means ∙ ap Some is

pub unreadable : (told : Option FileMap) (path bytes : List ℕ) → IfSome told (λ held. file_at held path ≡ Some bytes) → meaning_of bytes ≡ Err fault_form
    → IfSome told (λ held. IsUnreadable held path)
unreadable None path bytes found means = tt
unreadable (Some held) path bytes found means = (bytes, found, ap result_ok means)

-- ---- errors of files

pub refused_read : (error : FileError) (before after : ℕ) (told : Option FileMap) (path : List ℕ) → (error ≡ Missing → IfSome told (λ held. file_at held path ≡ None))
    → (error ≡ Failed → Rose before after) → IsReadFault (refusal_of error) before after told path
refused_read Missing before after told path missing failed = missing refl
refused_read Failed before after told path missing failed = failed refl
refused_read files_memory before after told path missing failed = tt

pub refused_write : (error : FileError) (before after : ℕ) (path : List ℕ) → (error ≡ Missing → ⊥) → (error ≡ Failed → Rose before after)
    → IsWriteFault (refusal_of error) before after path
refused_write Missing before after path missing failed = missing refl
refused_write Failed before after path missing failed = failed refl
refused_write files_memory before after path missing failed = tt

pub refused_search : (error : FileError) (before mid after : ℕ) → before ≤ mid → (error ≡ Missing → ⊥) → (error ≡ Failed → Rose mid after)
    → IsSearchFault (refusal_of error) before after
refused_search Missing before mid after le missing failed = missing refl
refused_search Failed before mid after le missing failed = let rose = failed refl in omega (arith, le, rose)
refused_search files_memory before mid after le missing failed = tt

-- ---- writing

pub on_err_too : {X E P : Type 0} (r : Result X E) → P → OnErr r P
on_err_too (Ok x) p = tt
on_err_too (Err e) p = p

pub nothing_written : (old new : Option FileMap) (path text : List ℕ) → new ≡ old → LeavesPartlyWritten old new path text
nothing_written None new path text same = tt
nothing_written (Some held) new path text same = (held, same, inl refl)

folder_is : (path folder : List ℕ) → path_parent path ≡ Some folder → folder ≡ folder_of path
folder_is path folder parent = sym (ap (λ p. unwrap_or p []) parent)

pub text_at : (path folder text : List ℕ) (s : Settings) → path_parent path ≡ Some folder
    → text ≡ settings_text (with_paths (relative_to folder) s) → text ≡ config_text path s
text_at path folder text s parent is = is ∙ ap (λ f. settings_text (with_paths (relative_to f) s)) (folder_is path folder parent)

-- what a write of the text says, where the path that was asked is the whole one
pub written_text : (old new : Option FileMap) (asked path folder bytes : List ℕ) (s : Settings) → asked ≡ path → path_parent asked ≡ Some folder
    → bytes ≡ settings_text (with_paths (relative_to folder) s) → IfSome old (λ held. new ≡ Some (with_file held asked bytes))
    → IfSome old (λ held. new ≡ Some (with_file held path (config_text path s)))
written_text old new asked path folder bytes s same parent is wrote =
    subst (λ p. IfSome old (λ held. new ≡ Some (with_file held p (config_text p s)))) same
    (subst (λ b. IfSome old (λ held. new ≡ Some (with_file held asked b))) (text_at asked folder bytes s parent is) wrote)

pub refused_text : (old new : Option FileMap) (asked path folder bytes : List ℕ) (s : Settings) → asked ≡ path → path_parent asked ≡ Some folder
    → bytes ≡ settings_text (with_paths (relative_to folder) s) → LeavesPartlyWritten old new asked bytes → LeavesPartlyWritten old new path (config_text path s)
refused_text old new asked path folder bytes s same parent is left =
    subst (λ p. LeavesPartlyWritten old new p (config_text p s)) same
    (subst (LeavesPartlyWritten old new asked) (text_at asked folder bytes s parent is) left)

same_path : (folder : List ℕ) (path : Option (List ℕ)) → SamePath folder (option_map (path_join folder) (option_map (relative_to folder) path)) path
same_path folder None = refl
same_path folder (Some path) = ap Some (relative_leads folder path)

pub reads_back : (path folder : List ℕ) (s : Settings) → path_parent path ≡ Some folder
    → settings_of_bytes (settings_text (with_paths (relative_to folder) s)) ≡ Some (with_paths (relative_to folder) s) → ReadsBack path s
reads_back path folder s parent reads =
    let here = folder_of path in
    let said : settings_of_bytes (config_text path s) ≡ Some (with_paths (relative_to here) s) =
    subst (λ f. settings_of_bytes (settings_text (with_paths (relative_to f) s)) ≡ Some (with_paths (relative_to f) s)) (folder_is path folder parent) reads in (
      with_paths (path_join here) (with_paths (relative_to here) s),
      ap (option_map (with_paths (path_join here))) said,
      record {
        home_url = refl;
        registries_dir = same_path here s.registries_dir;
        content_dir = same_path here s.content_dir;
        namespace_map_path = same_path here s.namespace_map_path;
        keyring_backend = refl;
        keys = refl;
        keyring_auth = refl;
        ignore_federation_hints = refl;
        disable_auto_accept_federation_hints = refl;
        disable_auto_package_init = refl;
        disable_interactive = refl;
      },
    )

pub reads_back_asked : (asked path folder : List ℕ) (s : Settings)
    → settings_of_bytes (settings_text (with_paths (relative_to folder) s)) ≡ Some (with_paths (relative_to folder) s)
    → path_parent asked ≡ Some folder → asked ≡ path → ReadsBack path s
reads_back_asked asked path folder s reads parent same = subst (λ p. ReadsBack p s) same (reads_back asked folder s parent reads)

-- ---- the first of some files

is_there : (held : FileMap) (paths : List (List ℕ)) (path : List ℕ) → first_file held paths ≡ Some path → is_some (file_at held path) ≡ true
is_there held [] path e = absurd cc
is_there held (p ∷ paths) path e = go (is_some (file_at held p)) refl e (is_there held paths path)
  where
    go : (there : Bool) → is_some (file_at held p) ≡ there → cond there (Some p) (first_file held paths) ≡ Some path
        → (first_file held paths ≡ Some path → is_some (file_at held path) ≡ true) → is_some (file_at held path) ≡ true
    go true h e later = subst (λ q. is_some (file_at held q) ≡ true) (ap (λ o. unwrap_or o path) e) h
    go false h e later = later e

both_parts : (held : FileMap) (paths : List (List ℕ)) (more : Option (List ℕ))
    → first_file held (paths ++ option_to_list more) ≡ option_or (first_file held paths) (first_file held (option_to_list more))
both_parts held paths more = find-append (λ path. is_some (file_at held path)) paths (option_to_list more)

-- the first file of all that are looked at
abbrev pub First : Option FileMap → List ℕ → Dirs → Option (List ℕ) → Type 0
First told cwd dirs path = IfSome told (λ held. first_file held (default_paths cwd dirs) ≡ path)

-- the first of those in a folder or above it
abbrev pub FirstLocal : Option FileMap → List ℕ → Option (List ℕ) → Type 0
FirstLocal told cwd path = IfSome told (λ held. first_file held (local_paths cwd) ≡ path)

pub first_in_folders : (told : Option FileMap) (cwd : List ℕ) (dirs : Dirs) (path : List ℕ) → FirstLocal told cwd (Some path) → First told cwd dirs (Some path)
first_in_folders None cwd dirs path local = tt
first_in_folders (Some held) cwd dirs path local =
    both_parts held (local_paths cwd) (option_map machine_path dirs.config)
    ∙ ap (λ o. option_or o (first_file held (option_to_list (option_map machine_path dirs.config)))) local

-- with none in a folder or above it, it is the machine's, where that is there
pub first_of_machine : (told now : Option FileMap) (cwd : List ℕ) (dirs : Dirs) (path : List ℕ) (there : Bool) → now ≡ told → FirstLocal told cwd None
    → option_map machine_path dirs.config ≡ Some path → IfSome now (λ held. there ≡ is_some (file_at held path)) → First told cwd dirs (cond there (Some path) None)
first_of_machine None now cwd dirs path there same local is answer = tt
first_of_machine (Some held) now cwd dirs path there same local is answer =
    let known : there ≡ is_some (file_at held path) = subst (λ n. IfSome n (λ held. there ≡ is_some (file_at held path))) same answer in
    both_parts held (local_paths cwd) (option_map machine_path dirs.config)
    ∙ ap (λ o. option_or o (first_file held (option_to_list (option_map machine_path dirs.config)))) local
    ∙ ap (λ m. first_file held (option_to_list m)) is
    ∙ ap (λ b. cond b (Some path) None) (sym known)

pub machine_first : (told now : Option FileMap) (cwd : List ℕ) (dirs : Dirs) (path asked : List ℕ) (there : Bool) → there ≡ true → asked ≡ path → now ≡ told
    → FirstLocal told cwd None → option_map machine_path dirs.config ≡ Some path → IfSome now (λ held. there ≡ is_some (file_at held asked))
    → First told cwd dirs (Some path)
machine_first told now cwd dirs path asked there stands is same local given answer =
    subst (λ b. First told cwd dirs (cond b (Some path) None)) stands
    (first_of_machine told now cwd dirs path there same local given (subst (λ p. IfSome now (λ held. there ≡ is_some (file_at held p))) is answer))

pub none_first : (told now : Option FileMap) (cwd : List ℕ) (dirs : Dirs) (path asked : List ℕ) (there : Bool) → there ≡ false → asked ≡ path → now ≡ told
    → FirstLocal told cwd None → option_map machine_path dirs.config ≡ Some path → IfSome now (λ held. there ≡ is_some (file_at held asked))
    → First told cwd dirs None
none_first told now cwd dirs path asked there missing is same local given answer =
    subst (λ b. First told cwd dirs (cond b (Some path) None)) missing
    (first_of_machine told now cwd dirs path there same local given (subst (λ p. IfSome now (λ held. there ≡ is_some (file_at held p))) is answer))

pub first_reads : (told now : Option FileMap) (cwd : List ℕ) (dirs : Dirs) (path : List ℕ) (s : Settings) → now ≡ told → First told cwd dirs (Some path)
    → IfSome now (λ held. settings_at held path ≡ Some s) → IfSome told (λ held. IsFirst held (default_paths cwd dirs) (Some s))
first_reads None now cwd dirs path s same first says = tt
first_reads (Some held) now cwd dirs path s same first says =
    ap (option_and_then (settings_at held)) first ∙ subst (λ n. IfSome n (λ held. settings_at held path ≡ Some s)) same says

-- ---- why none was read

pub search_fault : (e : ClientConfigError) (before after : ℕ) (told : Option FileMap) (cwd : List ℕ) (dirs : Dirs)
    → IsSearchFault e before after → IsDefaultFault e before after told cwd dirs
search_fault (File Missing) before after told cwd dirs h = absurd h
search_fault (File Failed) before after told cwd dirs h = h
search_fault (File files_memory) before after told cwd dirs h = h
search_fault Form before after told cwd dirs h = absurd h
search_fault NoDirectory before after told cwd dirs h = absurd h
search_fault NoParent before after told cwd dirs h = h
search_fault Memory before after told cwd dirs h = tt

none_before : (config : Option (List ℕ)) → option_map machine_path config ≡ None → config ≡ None
none_before None e = refl
none_before (Some folder) e = absurd cc

pub nowhere_fault : (e : ClientConfigError) (before after : ℕ) (told : Option FileMap) (cwd : List ℕ) (dirs : Dirs)
    → FirstLocal told cwd None → IsNowhere e (option_map machine_path dirs.config) → IsDefaultFault e before after told cwd dirs
nowhere_fault (File Missing) before after told cwd dirs local h = absurd h
nowhere_fault (File Failed) before after told cwd dirs local h = absurd h
nowhere_fault (File files_memory) before after told cwd dirs local h = h
nowhere_fault Form before after told cwd dirs local h = absurd h
nowhere_fault NoDirectory before after told cwd dirs local h = (none_before dirs.config h, local)
nowhere_fault NoParent before after told cwd dirs local h = h
nowhere_fault Memory before after told cwd dirs local h = tt

missing_first : (told : Option FileMap) (cwd : List ℕ) (dirs : Dirs) (path : List ℕ) → First told cwd dirs (Some path)
    → IfSome told (λ held. file_at held path ≡ None) → told ≡ None
missing_first None cwd dirs path first gone = refl
missing_first (Some held) cwd dirs path first gone =
    let never : true ≡ false = sym (is_there held (default_paths cwd dirs) path first) ∙ ap is_some gone in absurd cc

unreadable_first : (told : Option FileMap) (cwd : List ℕ) (dirs : Dirs) (path : List ℕ) → First told cwd dirs (Some path)
    → IfSome told (λ held. IsUnreadable held path) → IfSome told (λ held. (first : List ℕ) × (first_file held (default_paths cwd dirs) ≡ Some first) × IsUnreadable held first)
unreadable_first None cwd dirs path first bad = tt
unreadable_first (Some held) cwd dirs path first bad = (path, first, bad)

pub first_fault : (e : ClientConfigError) (before mid after : ℕ) (told now : Option FileMap) (cwd : List ℕ) (dirs : Dirs) (path : List ℕ)
    → before ≤ mid → now ≡ told → First told cwd dirs (Some path) → IsReadFault e mid after now path → IsDefaultFault e before after told cwd dirs
first_fault (File Missing) before mid after told now cwd dirs path le same first h =
    missing_first told cwd dirs path first (subst (λ n. IfSome n (λ held. file_at held path ≡ None)) same h)
first_fault (File Failed) before mid after told now cwd dirs path le same first h = omega (arith, le, h)
first_fault (File files_memory) before mid after told now cwd dirs path le same first h = h
first_fault Form before mid after told now cwd dirs path le same first h =
    unreadable_first told cwd dirs path first (subst (λ n. IfSome n (λ held. IsUnreadable held path)) same h)
first_fault NoDirectory before mid after told now cwd dirs path le same first h = absurd h
first_fault NoParent before mid after told now cwd dirs path le same first h = h
first_fault Memory before mid after told now cwd dirs path le same first h = tt

pub refused_default : (error : FileError) (before mid after : ℕ) (told : Option FileMap) (cwd : List ℕ) (dirs : Dirs) → before ≤ mid → (error ≡ Missing → ⊥)
    → (error ≡ Failed → Rose mid after) → IsDefaultFault (refusal_of error) before after told cwd dirs
refused_default error before mid after told cwd dirs le missing failed =
    search_fault (refusal_of error) before after told cwd dirs (refused_search error before mid after le missing failed)
