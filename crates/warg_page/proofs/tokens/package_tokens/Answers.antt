use Rattle.std.proofs.Common.{◌≡◌, ◌≢◌, ◌++◌, ◌∷◌, [], ◌+◌, List, ℕ, Option, Some, take, map, length, refl, rules, sym, ◌∙◌, ap, subst}
use Rattle.std.specs.Prelude.{slice_get, option_map}
use Rattle.std.proofs.lemmas.List.{take_more, take-map, map_push}
use Rattle.std.proofs.lemmas.Option.{slice_get-map, slice_get_read}
use Rattle.warg_hash.specs.Hash.{package_log_id}
use Rattle.warg_info.specs.Kept.{Kept, last_token}
use Rattle.warg_info.specs.Info.{package_log}
use Rattle.warg_page.specs.Logs.{tokens_of}
use Rattle.warg_page.specs.Steps.{id_of}
use Rattle.warg_page.specs.Views.{package_view}
use Rattle.warg_page.proofs.DistinctLaws.{insert-last, tokens-keys}
use Rattle.warg_page.proofs.PlaceLaws.{not-before}
use Rattle.warg_page.proofs.tokens.package_tokens.Goals as goal

-- tokens of a list of packages with one more
tokens-push : (ps : List (List ℕ × List Kept)) (p : List ℕ × List Kept) → tokens_of (ps ++ p ∷ []) ≡ tokens_of ps ++ (package_log_id p.0, last_token p.1) ∷ []
tokens-push ps p = map_push (λ (q : List ℕ × List Kept). (package_log_id q.0, last_token q.1)) ps p

pub loop-package-preserved : goal.loop-package-preserved
loop-package-preserved c distinct =
    let n = c.loop-package.package-index in
    let ps = c.args.packages.now in
    let p = c.package-item.result in
    let id = c.package_log.result in
    let before = map package_view (take n ps) in
    let entries = c.loop-package.tokens.entries in
    let was : entries ≡ tokens_of before = c.loop-package.invariant distinct in
    let keys : map (λ (e : List ℕ × Option (List ℕ)). e.0) entries ≡ take n (map id_of ps) =
    ap (map (λ (e : List ℕ × Option (List ℕ)). e.0)) was ∙ tokens-keys (take n ps) ∙ sym (take-map id_of n ps) in
    let there : slice_get (map id_of ps) n ≡ Some id = slice_get-map id_of ps n ∙ ap (option_map id_of) (slice_get_read ps (length ps) n p refl c.loop-package-test.true c.package-item.is) ∙ ap (λ (k : List ℕ). Some k) (sym c.package_log.ensures) in
    let absent : (i : ℕ) → slice_get (map (λ (e : List ℕ × Option (List ℕ)). e.0) entries) i ≢ Some id =
    subst (λ (l : List (List ℕ)). (i : ℕ) → slice_get l i ≢ Some id) (sym keys) (not-before (map id_of ps) n id distinct there) in
    let token : c.in_ok-token.token ≡ last_token (package_log p) = c.in_ok-token.ensures ∙ c.head_fetch_token.ensures in
    let more : map package_view (take (n + 1) ps) ≡ before ++ package_view p ∷ [] = ap (map package_view) (search (rules, take_more)) ∙ map_push package_view (take n ps) p in
    c.in_ok-insert.ensures.entries
    ∙ insert-last _ entries id c.in_ok-token.token (λ x e. search rules) absent
    ∙ ap (λ (l : List (List ℕ × Option (List ℕ))). l ++ (id, c.in_ok-token.token) ∷ []) was
    ∙ ap (λ (k : List ℕ). tokens_of before ++ (k, c.in_ok-token.token) ∷ []) c.package_log.ensures
    ∙ ap (λ (t : Option (List ℕ)). tokens_of before ++ (package_log_id p.name, t) ∷ []) token
    ∙ sym (ap tokens_of more ∙ tokens-push before (package_view p))
