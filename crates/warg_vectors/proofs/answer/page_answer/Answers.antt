use Rattle.std.proofs.Common.{refl, inl}
use Rattle.warg_model.specs.Held.{registry_of}
use Rattle.warg_model.specs.State.{held}
use Rattle.warg_reply.specs.Order.{ascending}
use Rattle.warg_vectors.proofs.ListLaws.{when-all-ok}
use Rattle.warg_vectors.proofs.OrderLaws.{ordered-page}
use Rattle.warg_vectors.proofs.answer.page_answer.Goals as goal

pub returns-in-Ok : goal.returns-in-Ok
returns-in-Ok c =
    let w = registry_of (held c.args.named.now.registry) in
    let n = c.args.asked.now.log_length in
    let page = c.in-Ok.page in
    let lists = page.packages.entries in
    when-all-ok _ _ _ _ c.page_reply.result
    (λ reply says ids unique sound. inl (record {
      page = record { more = page.more; operator = page.operator; packages = ascending lists };
      came = says;
      is = record { whole = c.in-Ok.ensures.more; of_operator = c.in-Ok.ensures.operator; listed = lists; of_packages = c.in-Ok.ensures.packages; in_order = refl };
      gives = λ apart logs names. record {
        page = record { more = page.more; operator = page.operator; packages = ascending lists };
        came = says;
        is = ordered-page w n logs page.more page.operator lists ids unique (c.in-Ok.ensures.is sound.model apart logs names);
        there = c.in-Ok.ensures.whole logs names;
      };
    }))
    c.page_reply.ensures.says c.page_reply.ensures.ids c.page_reply.ensures.unique
