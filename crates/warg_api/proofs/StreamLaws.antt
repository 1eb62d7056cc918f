-- Laws of bodies that are opened in turn.
use Rattle.std.proofs.Common.{◌≡◌, ◌∷◌, inl, inr, List, ℕ, true, Some, None, sym, subst}
use Rattle.warg_exchange.specs.declared.content.ContentSource.{ContentSource}
use Rattle.warg_exchange.specs.declared.exchange.Request.{Request}
use Rattle.warg_api.specs.Link.{Asked}
use Rattle.warg_api.specs.Download.{is_url, source_url, urls, Loses}
use Rattle.warg_api.specs.Streams.{OpensTo, Passed, one_more, OpensFirst, OpensSome}
use Rattle.warg_api.proofs.DownloadLaws.{url_first, no_url}

-- one source more is opened, behind others
module _ {T B : Type 0} (Steps : T → Asked → T → Type 0) (Opens : T → Request → ℕ → B → T → Type 0) (old last new : T) (all : List (List ℕ))
    (s : ContentSource) (rest : List ContentSource) (passed : Passed Opens all old (urls (s ∷ rest)) last) where
  next_url : is_url (source_url s) ≡ true → Passed Opens all old (source_url s ∷ urls rest) last
  next_url is = subst (λ (left : List (List ℕ)). Passed Opens all old left last) (url_first s rest is) passed

  pub one_opened : (body : B) → OpensTo Opens last (source_url s) new (Some body) → OpensFirst Opens all old body new
  one_opened body turn = record {
    url = source_url s;
    left = urls rest;
    mid = last;
    status = turn.0;
    passed = next_url turn.1;
    opens = turn.2;
    success = turn.3;
  }

  pub none_opened : OpensTo Opens last (source_url s) new None → Passed Opens all old (urls rest) new
  none_opened (inl turn) =
      let left = subst (λ (left : List (List ℕ)). Passed Opens all old left last) (no_url s rest turn.0) passed in
      subst (λ t. Passed Opens all old (urls rest) t) (sym turn.1) left
  none_opened (inr turn) = one_more (source_url s) (urls rest) last new turn.0 turn.1 (next_url turn.2) turn.3 turn.4

  pub opening_lost : Loses Steps last (source_url s) new → OpensSome Steps Opens all old new
  opening_lost (inl same) = inl (urls (s ∷ rest), subst (λ t. Passed Opens all old (urls (s ∷ rest)) t) (sym same) passed)
  opening_lost (inr turn) = inr (source_url s, urls rest, last, turn.0, next_url turn.1, turn.2)
