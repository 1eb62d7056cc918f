-- How the pages that are asked for add up.
use Rattle.std.proofs.Common.{◌≡◌, ◌+◌, ◌&&◌, ℕ, Bool, true, false, suc, List, [], ◌∷◌, ◌++◌, refl, ap, ◌∙◌, arith, bytes_eq, codes}
use Rattle.std.proofs.lemmas.Bool.{eq-eqb}
use Rattle.std.specs.Prelude.{if◌then◌else◌}
use Rattle.warg_exchange.specs.declared.exchange.Exchange.{Exchange}
use Rattle.warg_exchange.specs.Requests.{Asker, checkpoint_request, inclusion_request, consistency_request}
use Rattle.warg_page.specs.Logs.{Logs}
use Rattle.warg_update.specs.Proved.{page_request}
use Rattle.warg_session.specs.Pages.{asks_page, pages_asked}

-- ---- of exchanges behind others

abbrev counts : Bool → ℕ → ℕ
counts more n = if more then suc n else n

one_more : (more : Bool) (m n : ℕ) → counts more (m + n) ≡ counts more m + n
one_more true m n = omega arith
one_more false m n = omega arith

pub pages_more : (a : Asker) (xs ys : List Exchange) → pages_asked a (xs ++ ys) ≡ pages_asked a xs + pages_asked a ys
pages_more a [] ys = omega arith
pages_more a (x ∷ xs) ys =
    ap (counts (asks_page a x.request)) (pages_more a xs ys) ∙ one_more (asks_page a x.request) (pages_asked a xs) (pages_asked a ys)

-- ---- of each request

-- texts with one beginning are equal where their ends are
same_beginning : (base p q : List ℕ) → bytes_eq (base ++ p) (base ++ q) ≡ bytes_eq p q
same_beginning [] p q = refl
same_beginning (x ∷ base) p q = ap (λ b. b && bytes_eq (base ++ p) (base ++ q)) (eq-eqb x x refl) ∙ same_beginning base p q

pub page_is_asked : (a : Asker) (n : ℕ) (logs : Logs) → asks_page a (page_request a n logs) ≡ true
page_is_asked a n logs = same_beginning a.base (codes "v1/fetch/logs") (codes "v1/fetch/logs")

pub checkpoint_is_no_page : (a : Asker) → asks_page a (checkpoint_request a) ≡ false
checkpoint_is_no_page a = same_beginning a.base (codes "v1/fetch/checkpoint") (codes "v1/fetch/logs")

pub inclusion_is_no_page : (a : Asker) (n : ℕ) (leafs : List ℕ) → asks_page a (inclusion_request a n leafs) ≡ false
inclusion_is_no_page a n leafs = same_beginning a.base (codes "v1/proof/inclusion") (codes "v1/fetch/logs")

pub consistency_is_no_page : (a : Asker) (old new : ℕ) → asks_page a (consistency_request a old new) ≡ false
consistency_is_no_page a old new = same_beginning a.base (codes "v1/proof/consistency") (codes "v1/fetch/logs")
